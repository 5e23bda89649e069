use Rattle.std.proofs.Common.{List, Ok, sym, ap, ◌∙◌, subst}
use Rattle.cell_values.specs.declared.datum.Row.{Row}
use Rattle.array_rows.specs.Arrays.{AreRowsOf}
use Rattle.logical_plan.specs.Typing.{first_name}
use Rattle.shape_exec.proofs.NumberedLaws.{unpack_doubt, unpack_whole, unpacked_are}
use Rattle.shape_exec.proofs.unpacking.unpacked_by_rows.Goals as goal

pub assemble-requires-clause-rows : goal.assemble-requires-clause-rows
assemble-requires-clause-rows c =
    subst (λ (rs : List Row). AreRowsOf c.args.target.now rs) (sym c.as_slice.ensures)
    (unpacked_are c.args.array c.args.target.now c.in_ok-rows.rows c.in-Ok.rows c.requires.cells (first_name c.args.target.now.dimensions, c.requires.target) c.requires.valid c.in_ok-rows.ensures.rows c.in_ok-rows.ensures.few
    (sym c.in-Ok.is ∙ c.in_ok-rows-2.ensures))

pub returns-in-Ok-clause-array : goal.returns-in-Ok-clause-array
returns-in-Ok-clause-array c =
    unpack_whole c.args.array c.args.target.now c.in_ok-rows.rows c.as_slice.result.now c.assemble.result c.requires.whole c.in_ok-rows.ensures.rows (ap (λ (l : List Row). Ok l) c.as_slice.ensures ∙ sym c.in-Ok.is ∙ c.in_ok-rows-2.ensures)
    (subst (λ (rs : List Row). AreRowsOf c.args.target.now rs) (sym c.as_slice.ensures)
    (unpacked_are c.args.array c.args.target.now c.in_ok-rows.rows c.in-Ok.rows c.requires.cells (first_name c.args.target.now.dimensions, c.requires.target) c.requires.valid c.in_ok-rows.ensures.rows c.in_ok-rows.ensures.few
    (sym c.in-Ok.is ∙ c.in_ok-rows-2.ensures)))
    c.assemble.ensures.array

pub returns-in-Err-clause-array : goal.returns-in-Err-clause-array
returns-in-Err-clause-array c =
    unpack_doubt c.args.array c.args.target.now c.in_ok-rows.rows c.in-Err.broken c.broken_array.result c.requires.whole c.in_ok-rows.ensures.rows (sym c.in-Err.is ∙ c.in_ok-rows-2.ensures) c.broken_array.ensures.array
