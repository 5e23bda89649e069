use Rattle.std.proofs.Common.{◌≡◌, ◌+◌, ◌<◌, ◌≤◌, ◌∙◌, ℕ, List, length, take, drop, sym, ap, subst, arith, length-drop}
use Rattle.cell_values.specs.declared.datum.Row.{Row}
use Rattle.array_rows.specs.Rows.{Coordinate}
use Rattle.array_geom.specs.Geometry.{volume}
use Rattle.array_geom.specs.Link.{rows_in}
use Rattle.group_rows.specs.Inner.Places.{HaveKey, key_of, rows_at, HasKey, place_of}
use Rattle.group_rows.specs.Taken.{cells_kept}
use Rattle.group_rows.proofs.PlaceLaws.{all_at, all_front, all_rows, group_taken, length_rows, rows_taken, all_first}
use Rattle.group_rows.proofs.places.runs.take_group.Goals as goal

pub returns-clause-states : goal.returns-clause-states
returns-clause-states c = λ before rise keeps.
    let grid = c.args.grid.now in
    let low = grid.low.items in
    let lengths = grid.lengths.items in
    let positions = c.args.positions.now in
    let behind = drop c.args.from c.args.cells.now in
    let group = key_of c.args.grouping.now in
    let key = c.key_at-key.result in
    let count = c.run_length-count.result in
    let places = c.split_at.result.0.now in
    let long = length-drop c.args.from c.args.cells.now in
    let enough = c.requires.cells in
    let within = c.run_length-count.ensures.within in
    let some = c.run_length-count.ensures.some in
    let many = c.split_at.ensures.front_len in
    let run : List Row = rows_at grid places c.args.cells.now c.args.from in
    let as_many : length run ≡ length places = length_rows low lengths places behind (omega (arith, long, enough, within, many)) in
    let same : run ≡ take count (rows_at grid positions c.args.cells.now c.args.from) =
    ap (λ (ps : List ℕ). rows_in low lengths ps behind) c.split_at.ensures.front ∙ rows_taken low lengths positions behind count in
    let keyed : HaveKey c.args.grouping.now grid key.items places = subst (HaveKey c.args.grouping.now grid key.items) (sym c.split_at.ensures.front) c.run_length-count.ensures.same in
    group_taken c.args.aggregates.now group key before run (take count (rows_at grid positions c.args.cells.now c.args.from)) c.args.groups.now c.take_cells.new.groups
    (omega (arith, as_many, many, some)) same (all_rows (λ (at : Coordinate). group at ≡ key.items) low lengths places behind keyed) c.in_ok-take_cells.ensures.states rise keeps

pub place-requires-clause-inside : goal.place-requires-clause-inside
place-requires-clause-inside c = all_at (λ (p : ℕ). p < volume c.args.grid.now.lengths.items) c.args.positions.now 0 0 c.requires.some c.requires.inside

pub take_cells-requires-clause-run : goal.take_cells-requires-clause-run
take_cells-requires-clause-run c =
    let enough = c.requires.cells in
    let within = c.run_length-count.ensures.within in
    let many = c.split_at.ensures.front_len in (
      c.requires.grid,
      all_front (λ (p : ℕ). p < volume c.args.grid.now.lengths.items) c.args.positions.now c.run_length-count.result c.split_at.result.0.now
          c.split_at.ensures.front c.requires.inside,
      omega (arith, enough, within, many),
      c.requires.few,
    )

pub returns-clause-some : goal.returns-clause-some
returns-clause-some c = c.run_length-count.ensures.some

pub returns-clause-within : goal.returns-clause-within
returns-clause-within c = c.run_length-count.ensures.within

pub returns-clause-marked : goal.returns-clause-marked
returns-clause-marked c = c.run_length-count.ensures.marked

pub returns-clause-cells : goal.returns-clause-cells
returns-clause-cells c =
    subst (λ (n : ℕ). cells_kept c.take_cells.new.groups.entries ≤ cells_kept c.args.groups.now.entries + n) c.split_at.ensures.front_len c.in_ok-take_cells.ensures.cells

pub run_length-count-requires-clause-each : goal.run_length-count-requires-clause-each
run_length-count-requires-clause-each c = c.requires.each

pub run_length-count-requires-clause-key : goal.run_length-count-requires-clause-key
run_length-count-requires-clause-key c =
    let group = key_of c.args.grouping.now in
    all_first (λ (p : ℕ). group (place_of c.args.grid.now p) ≡ c.key_at-key.result.items) c.args.positions.now 0 c.requires.some (ap group (sym c.place.ensures) ∙ sym c.key_at-key.ensures)

pub key_at-key-requires : goal.key_at-key-requires
key_at-key-requires c =
    subst (HasKey c.args.grouping.now) (sym c.place.ensures)
    (all_at (λ (p : ℕ). HasKey c.args.grouping.now (place_of c.args.grid.now p)) c.args.positions.now 0 0 c.requires.some c.requires.keyed)
