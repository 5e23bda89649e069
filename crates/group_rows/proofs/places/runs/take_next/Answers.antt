use Rattle.std.proofs.Common.{◌≡◌, ◌++◌, ◌≤◌, ◌∙◌, Bool, List, length, take, drop, sym, ap, subst, arith, length-drop, length-take, true, false}
use Rattle.cell_values.specs.declared.datum.Row.{Row}
use Rattle.array_rows.specs.Boxes.{within}
use Rattle.array_rows.specs.Rows.{IsRising}
use Rattle.group_rows.specs.Inner.Places.{AreMarked, key_of, rows_at}
use Rattle.group_rows.specs.Sets.{sets_by}
use Rattle.group_rows.specs.Taken.{KeepsGroups, cells_kept}
use Rattle.group_rows.proofs.PlaceLaws.{both_ok, length_rows, rows_marked, all_first, first_unmarked, passed_over}
use Rattle.group_rows.proofs.places.runs.take_next.Goals as goal

pub returns-clause-states : goal.returns-clause-states
returns-clause-states c =
    let rows = rows_at c.args.grid.now c.args.positions.now c.args.cells.now c.args.from in
    let gs = c.args.aggregates.now in
    let group = key_of c.args.grouping.now in
    let new = c.take_group.new.groups in
    both_ok c.take_group.result _ _ _ c.take_group.ensures.marked c.take_group.ensures.states
    (λ count marked states area before inside rise keeps.
    let all : within area (take count rows) ≡ take count rows = rows_marked area count rows (subst (λ (bs : List Bool). AreMarked (take count bs)) (sym inside) marked) in
    subst (λ (zs : List Row). KeepsGroups gs (sets_by group (before ++ zs)) new) (sym all)
    (states before (subst (λ (zs : List Row). IsRising (before ++ zs)) all rise) keeps))

pub returns-clause-cells : goal.returns-clause-cells
returns-clause-cells c =
    let rows = rows_at c.args.grid.now c.args.positions.now c.args.cells.now c.args.from in
    let long = length-drop c.args.from c.args.cells.now in
    let enough = c.requires.cells in
    let many : length rows ≡ length c.args.positions.now =
    length_rows c.args.grid.now.low.items c.args.grid.now.lengths.items c.args.positions.now (drop c.args.from c.args.cells.now) (omega (arith, long, enough)) in
    let start = cells_kept c.args.groups.now.entries in
    both_ok c.take_group.result _ _ _ (both_ok c.take_group.result _ _ (λ count. AreMarked (take count c.args.marks.now) × (count ≤ length c.args.positions.now)) c.take_group.ensures.marked c.take_group.ensures.within (λ count marked fits. (marked, fits)))
    c.take_group.ensures.cells
    (λ count both more area inside.
    let all : within area (take count rows) ≡ take count rows = rows_marked area count rows (subst (λ (bs : List Bool). AreMarked (take count bs)) (sym inside) both.0) in
    let size = ap length all ∙ length-take count rows in
    let fits = both.1 in
    omega (arith, size, more, many, fits))

pub returns-then-not-marks-clause-states : goal.returns-then-not-marks-clause-states
returns-then-not-marks-clause-states c = λ area before inside rise keeps.
    let rows = rows_at c.args.grid.now c.args.positions.now c.args.cells.now c.args.from in
    let long = length-drop c.args.from c.args.cells.now in
    let some = c.requires.some in
    let many = length_rows c.args.grid.now.low.items c.args.grid.now.lengths.items c.args.positions.now (drop c.args.from c.args.cells.now) (omega (arith, long, c.requires.cells)) in
    passed_over c.args.aggregates.now (key_of c.args.grouping.now) before (within area (take 1 rows)) c.args.groups.now
    (first_unmarked area rows c.args.marks.now (omega (arith, many, some)) inside c.if-not-marks.true) keeps

pub returns-then-not-marks-clause-cells : goal.returns-then-not-marks-clause-cells
returns-then-not-marks-clause-cells c = λ area inside. omega arith

pub take_group-requires-clause-mark : goal.take_group-requires-clause-mark
take_group-requires-clause-mark c =
    let some = c.requires.some in
    all_first (λ (b : Bool). b ≡ true) c.args.marks.now false (omega (arith, some, c.requires.each)) c.if-not-marks.false
