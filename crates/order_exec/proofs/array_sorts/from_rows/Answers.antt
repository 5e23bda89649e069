use Rattle.std.proofs.Common.{◌∙◌, ap, sym}
use Rattle.logical_plan.specs.Groups.{first_some}
use Rattle.logical_plan.specs.Ordered.{unsortable_at}
use Rattle.group_rows.proofs.WholeLaws.{of_cores, stands_for}
use Rattle.group_rows.proofs.SortedLaws.{sorted_are_rows}
use Rattle.order_exec.proofs.SortedRowsLaws.{meant_sorted}
use Rattle.order_exec.proofs.array_sorts.from_rows.Goals as goal

pub assemble-requires-clause-rows : goal.assemble-requires-clause-rows
assemble-requires-clause-rows g c =
    sorted_are_rows c.args.array.schema c.args.target.now c.args.keys.now c.in_ok-rows.rows c.as_slice-in-None.result.now (of_cores c.args.array c.in_ok-rows.rows c.in_ok-rows.ensures.rows c.requires.cells) c.requires.target c.requires.valid
    c.in_ok-sorted-in-None.ensures.few (c.as_slice-in-None.ensures ∙ c.in_ok-sorted-in-None.ensures.made_of)

pub returns-in_ok-sorted-in-None-clause-array : goal.returns-in_ok-sorted-in-None-clause-array
returns-in_ok-sorted-in-None-clause-array g c =
    let made = c.as_slice-in-None.ensures ∙ c.in_ok-sorted-in-None.ensures.made_of in
    let rows = c.in_ok-rows.rows in
    stands_for c.assemble.result _ _
    (meant_sorted c.args.array c.args.keys.now c.args.target.now rows c.as_slice-in-None.result.now c.requires.whole c.in_ok-rows.ensures.rows
    (ap (first_some (unsortable_at c.args.keys.now)) (sym c.as_slice.ensures) ∙ sym c.first_unsortable.ensures ∙ c.in-None.is) made
    (sorted_are_rows c.args.array.schema c.args.target.now c.args.keys.now rows c.as_slice-in-None.result.now (of_cores c.args.array rows c.in_ok-rows.ensures.rows c.requires.cells) c.requires.target c.requires.valid
    c.in_ok-sorted-in-None.ensures.few made).are_rows.in_bounds)
    c.assemble.ensures.array
