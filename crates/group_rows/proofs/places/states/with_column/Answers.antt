use Rattle.std.proofs.Common.{◌+◌, ◌≤◌, ◌∙◌, ◌<◌, ◌^◌, ℕ, ℤ, List, length, drop, subst, sym, ap, arith, length-drop}
use Rattle.logical_plan.specs.Groups.{cells_of}
use Rattle.group_rows.specs.Inner.Columns.{HaveNumbers}
use Rattle.group_rows.specs.Inner.Places.{rows_at}
use Rattle.group_rows.proofs.ColumnLaws.{as_many_numbers}
use Rattle.group_rows.proofs.PlaceLaws.{run_long, run_numbers}
use Rattle.group_rows.proofs.places.states.with_column.Goals as goal

pub run_of-requires : goal.run_of-requires
run_of-requires c =
    let same = as_many_numbers c.args.aggregate.now.attribute c.in-Some.numbers.now c.args.cells.now c.in-Some.ensures in
    let each = c.requires.each in
    omega (arith, same, each)

pub returns-in-Some-clause-stands : goal.returns-in-Some-clause-stands
returns-in-Some-clause-stands c = λ before stands rise.
    let grid = c.args.grid.now in
    let positions = c.args.positions.now in
    let rows = rows_at grid positions c.args.cells.now c.args.from in
    let long = length-drop c.args.from c.args.cells.now in
    let each = c.requires.each in
    let enough : length positions ≤ length (drop c.args.from c.args.cells.now) = omega (arith, long, each) in
    c.with_numbers.ensures.stands c.args.aggregate.now before rows stands
    (subst (λ (numbers : List ℤ). HaveNumbers c.args.aggregate.now.attribute numbers (cells_of rows)) (sym c.run_of.ensures)
    (run_numbers c.args.aggregate.now.attribute c.in-Some.numbers.now c.args.cells.now grid.low.items grid.lengths.items positions c.args.from enough c.in-Some.ensures)) rise

pub returns-in-Some-clause-cells : goal.returns-in-Some-clause-cells
returns-in-Some-clause-cells c =
    let numbers = c.in-Some.numbers.now in
    let same = as_many_numbers c.args.aggregate.now.attribute numbers c.args.cells.now c.in-Some.ensures in
    let count = length c.args.positions.now in
    let enough : c.args.from + count ≤ length numbers = omega (arith, same, c.requires.each) in
    c.with_numbers.ensures.cells
    ∙ ap (λ (n : ℕ). c.args.state.cells + n) (run_long numbers c.run_of.result.now c.args.from count c.run_of.ensures enough)

pub with_numbers-requires : goal.with_numbers-requires
with_numbers-requires c =
    let numbers = c.in-Some.numbers.now in
    let same = as_many_numbers c.args.aggregate.now.attribute numbers c.args.cells.now c.in-Some.ensures in
    let count = length c.args.positions.now in
    let enough : c.args.from + count ≤ length numbers = omega (arith, same, c.requires.each) in
    record { room = subst (λ (n : ℕ). c.args.state.cells + n < 2 ^ 63) (sym (run_long numbers c.run_of.result.now c.args.from count c.run_of.ensures enough)) c.requires.room }
