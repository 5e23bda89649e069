use Rattle.std.proofs.Common.{Some, sym, ap, ◌∙◌}
use Rattle.std.specs.Option.{option_map}
use Rattle.group_rows.proofs.TakenLaws.{none_of}
use Rattle.order_exec.proofs.SortedRowsLaws.{fault_here, no_fault_more}
use Rattle.order_exec.proofs.sorted_cells.first_unsortable.Goals as goal

pub returns-in-Some : goal.returns-in-Some
returns-in-Some c =
    let row = c.row-item.result in
    (λ i. Some (record { at = c.copy_coord.ensures i; kind = c.in-Some.kind }))
    ∙ sym (fault_here c.args.keys.now c.args.rows.now c.loop-row.row-index row c.loop-row-test.true c.row-item.is c.loop-row.invariant (record { at = row.at; kind = c.in-Some.kind })
    (ap (option_map (λ kind. record { at = row.at; kind = kind })) (sym c.unsortable.ensures ∙ c.in-Some.is)))

pub loop-row-preserved : goal.loop-row-preserved
loop-row-preserved c =
    let row = c.row-item.result in
    no_fault_more c.args.keys.now c.args.rows.now c.loop-row.row-index row c.loop-row-test.true c.row-item.is c.loop-row.invariant
    (ap (option_map (λ kind. record { at = row.at; kind = kind })) (sym c.unsortable.ensures ∙ none_of c.unsortable.result c.in_default.not-Some))
