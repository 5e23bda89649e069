use Rattle.std.proofs.Common.{◌≡◌, ℕ, ◌+◌, ◌-◌, ◌≤◌, ◌<◌, [], length, get_or, drop, sym, ap, arith, get_or-drop, length-drop}
use Rattle.cell_values.specs.declared.datum.Cell.{Cell}
use Rattle.cell_values.specs.declared.datum.Cell.TheVariants.{Full}
use Rattle.cell_values.specs.declared.datum.Row.{Row}
use Rattle.array_rows.specs.Rows.{placed}
use Rattle.array_geom.specs.Geometry.{volume}
use Rattle.group_rows.specs.Inner.Places.{place_of, rows_at}
use Rattle.group_rows.proofs.PlaceLaws.{all_at, length_rows, row_in}
use Rattle.group_rows.proofs.TakenLaws.{all_also, none_also, one_also}
use Rattle.group_rows.proofs.places.states.with_each.Goals as goal

pub loop-place-init : goal.loop-place-init
loop-place-init c = record { also = none_also c.args.aggregate.now (rows_at c.args.grid.now c.args.positions.now c.args.cells.now c.args.from) c.args.state; cells = omega arith }

pub loop-place-preserved : goal.loop-place-preserved
loop-place-preserved c =
    let more = c.in_ok-take_at.ensures.cells in
    let cells = c.loop-place.invariant.cells in
    let k = c.loop-place.place in
    let less = c.loop-place-test.true in
    let each = c.requires.each in
    let positions = c.args.positions.now in
    let grid = c.args.grid.now in
    let from = c.args.from in
    let behind = drop from c.args.cells.now in
    let long : length behind ≡ length c.args.cells.now - from = length-drop from c.args.cells.now in
    let row : Row = placed (place_of grid (get_or positions k 0)) (get_or c.args.cells.now (from + k) (Full [])) in
    let enough : length positions ≤ length behind = omega (arith, long, each) in
    let is : row ≡ get_or (rows_at grid positions c.args.cells.now from) k row =
    row_in grid.low.items grid.lengths.items positions behind k row less enough (ap (λ (cell : Cell). placed (place_of grid (get_or positions k 0)) cell) (sym (get_or-drop from c.args.cells.now k (Full [])))) in
    let count : length (rows_at grid positions c.args.cells.now from) ≡ length positions = length_rows grid.low.items grid.lengths.items positions behind enough in
    record {
      also = one_also c.args.aggregate.now (rows_at grid positions c.args.cells.now from) c.args.state k row c.loop-place.state c.take_at.new.state (omega (arith, count, less)) is c.loop-place.invariant.also
          c.in_ok-take_at.ensures.stands;
      cells = omega (arith, more, cells);
    }

pub returns-clause-stands : goal.returns-clause-stands
returns-clause-stands c =
    let over = c.loop-place-test.false in
    let each = c.requires.each in
    let long = length-drop c.args.from c.args.cells.now in
    let enough : length c.args.positions.now ≤ length (drop c.args.from c.args.cells.now) = omega (arith, long, each) in
    let count = length_rows c.args.grid.now.low.items c.args.grid.now.lengths.items c.args.positions.now (drop c.args.from c.args.cells.now) enough in
    all_also c.args.aggregate.now (rows_at c.args.grid.now c.args.positions.now c.args.cells.now c.args.from) c.args.state c.loop-place.place c.loop-place.state (omega (arith, over, count)) c.loop-place.invariant.also

pub take_at-requires-clause-inside : goal.take_at-requires-clause-inside
take_at-requires-clause-inside c =
    all_at (λ (p : ℕ). p < volume c.args.grid.now.lengths.items) c.args.positions.now c.loop-place.place 0 c.loop-place-test.true c.requires.inside
