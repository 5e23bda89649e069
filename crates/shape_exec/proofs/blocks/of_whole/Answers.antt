use Rattle.std.proofs.Common.{refl, sym, ap, subst}
use Rattle.cell_values.specs.declared.schema.Schema.{Schema}
use Rattle.array_rows.specs.Boxes.{bounds_of}
use Rattle.array_parts.specs.Cores.{cores_of}
use Rattle.array_parts.proofs.CoreLaws.{cores_are_rows}
use Rattle.exec_box.proofs.ArraysMadeLaws.{means_whole, stands_for}
use Rattle.shape_rows.specs.Pulls.{IsPulled}
use Rattle.shape_rows.proofs.BlockLaws.{xgrid_pulled}
use Rattle.logical_plan.specs.ShapeSchemas.{xgrid_schema}
use Rattle.logical_plan.specs.Shapes.{blocks_back, xgrid_rows}
use Rattle.shape_exec.proofs.blocks.of_whole.Goals as goal

pub mapped_array-requires-clause-sound : goal.mapped_array-requires-clause-sound
mapped_array-requires-clause-sound g c κs lives = (c.requires.cells.placed.valid, c.requires.valid, c.requires.blocks, ap (λ (s : Schema). s.dimensions) c.requires.target)

pub returns-clause-array : goal.returns-clause-array
returns-clause-array g c =
    let array = c.args.array.now in
    let sizes = c.args.sizes.now in
    let back = blocks_back array.schema.dimensions sizes in
    let rows = xgrid_rows array.schema.dimensions sizes (cores_of array) in
    stands_for c.mapped_array.result _ _ (means_whole (xgrid_schema sizes) (λ s. xgrid_rows s.dimensions sizes) array c.args.target.now rows c.requires.whole c.requires.target refl)
    (c.mapped_array.ensures.array rows
    (subst (λ (s : Schema). IsPulled (bounds_of s.dimensions) back (cores_of array) rows) (sym c.requires.target)
    (xgrid_pulled array.schema.dimensions sizes (cores_of array) c.requires.blocks (cores_are_rows array.schema array.margins.items array.chunks c.requires.cells).are_rows.in_bounds)))
