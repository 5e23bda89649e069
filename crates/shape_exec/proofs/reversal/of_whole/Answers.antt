use Rattle.std.proofs.Common.{refl, sym, subst}
use Rattle.cell_values.specs.declared.schema.Schema.{Schema}
use Rattle.array_rows.specs.Boxes.{bounds_of}
use Rattle.array_parts.specs.Cores.{cores_of}
use Rattle.array_parts.proofs.CoreLaws.{cores_are_rows}
use Rattle.exec_box.proofs.ArraysMadeLaws.{means_whole, stands_for}
use Rattle.shape_rows.specs.Pulls.{IsPulled}
use Rattle.logical_plan.specs.Shapes.{mirrored, reverse_rows}
use Rattle.shape_rows.proofs.PullLaws.{reverse_cells}
use Rattle.shape_exec.proofs.TurnLaws.{reverse_move}
use Rattle.shape_exec.proofs.reversal.of_whole.Goals as goal

pub mapped_array-requires-clause-sound : goal.mapped_array-requires-clause-sound
mapped_array-requires-clause-sound g c κs lives = (c.requires.valid, c.requires.valid, refl, reverse_move c.args.target.now.dimensions)

pub returns-clause-array : goal.returns-clause-array
returns-clause-array g c =
    let array = c.args.array.now in
    let rows = reverse_rows array.schema.dimensions (cores_of array) in
    stands_for c.mapped_array.result _ _ (means_whole (λ s. s) (λ s. reverse_rows s.dimensions) array c.args.target.now rows c.requires.whole c.requires.target refl)
    (c.mapped_array.ensures.array rows
    (subst (λ (s : Schema). IsPulled (bounds_of s.dimensions) (mirrored s.dimensions) (cores_of array) rows) (sym c.requires.target) (reverse_cells array.schema.dimensions (cores_of array) (cores_are_rows array.schema array.margins.items array.chunks c.requires.cells).are_rows)))
