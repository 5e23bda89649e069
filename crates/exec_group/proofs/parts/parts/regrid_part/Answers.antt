use Rattle.std.proofs.Common.{List, subst, sym}
use Rattle.std.specs.Prelude.{IsTrue}
use Rattle.cell_values.specs.declared.schema.Dimension.{Dimension}
use Rattle.array_rows.specs.Boxes.{bounds_of, is_inside}
use Rattle.array_geom.proofs.MarginLaws.{few_dimensions}
use Rattle.group_rows.proofs.PartsPartLaws.{near_dimensions}
use Rattle.exec_group.proofs.parts.parts.regrid_part.Goals as goal

pub groups_of_core-requires-clause-keyed : goal.groups_of_core-requires-clause-keyed
groups_of_core-requires-clause-keyed c = λ at inside.
    let schema = c.args.schema.now in
    let dims = c.as_slice.result.now in
    let valid = c.requires.cells.placed.valid in (
      few_dimensions schema dims c.as_slice.ensures valid,
      near_dimensions schema dims c.as_slice.ensures valid,
      subst (λ (ds : List Dimension). IsTrue (is_inside (bounds_of ds) at)) (sym c.as_slice.ensures) inside,
    )
