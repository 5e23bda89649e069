use Rattle.std.proofs.Common.{◌≡◌, ◌<◌, ◌∙◌, ◌-◌, ℕ, List, length, take, drop, ap, subst, arith, length-drop, sym}
use Rattle.std.proofs.lemmas.List.{take_all}
use Rattle.cell_values.specs.declared.datum.Row.{Row}
use Rattle.array_rows.specs.Boxes.{within}
use Rattle.array_geom.specs.Geometry.{volume}
use Rattle.array_geom.specs.Link.{rows_in}
use Rattle.group_rows.specs.Inner.Places.{HasKey, key_of, place_of, rows_at}
use Rattle.group_rows.specs.Sets.{sets_by}
use Rattle.group_rows.specs.Taken.{KeepsGroups, cells_kept}
use Rattle.group_rows.proofs.MergeLaws.{if_ok}
use Rattle.group_rows.proofs.PlaceLaws.{all_back, further, further_length, further_rises, length_rows, marks_left, rows_dropped}
use Rattle.group_rows.proofs.TakenLaws.{none_kept}
use Rattle.group_rows.proofs.places.runs.groups_of_places.Goals as goal

pub taking-preserved : goal.taking-preserved
taking-preserved c =
    let grid = c.args.grid.now in
    let low = grid.low.items in
    let lengths = grid.lengths.items in
    let positions = c.args.positions.now in
    let cells = c.args.cells.now in
    let marks = c.args.marks.now in
    let taken = c.taking.taken in
    let count = c.in_ok-count.count in
    let gs = c.args.aggregates.now in
    let group = key_of c.args.grouping.now in
    let rows : List Row = rows_at grid positions cells 0 in
    let places = c.split_at.result.1.now in
    let left : List Row = rows_at grid places cells taken in
    let behind : left ≡ drop taken rows = ap (λ (ps : List ℕ). rows_in low lengths ps (drop taken cells)) c.split_at.ensures.back ∙ rows_dropped low lengths positions cells taken in
    let long = ap length c.split_at.ensures.back ∙ length-drop taken positions in
    let less = c.taking-test.true in
    let within_left = c.in_ok-count.ensures.within in
    let more = c.in_ok-count.ensures.few in
    let few = c.taking.invariant.few in
    record {
      within_places = omega (arith, long, less, within_left);
      states = λ area inside.
          let here = marks_left area rows left marks c.split_at-in-taking.result.1.now taken behind c.split_at-in-taking.ensures.back inside in
          subst (λ (zs : List Row). KeepsGroups gs (sets_by group zs) c.take_next.new.groups) (further area rows left taken count behind)
          (c.in_ok-count.ensures.states area (within area (take taken rows)) here (further_rises area rows left taken count behind c.requires.rising) (c.taking.invariant.states area inside));
      cells = λ area inside.
          let here = marks_left area rows left marks c.split_at-in-taking.result.1.now taken behind c.split_at-in-taking.ensures.back inside in
          let before = c.taking.invariant.cells area inside in
          let now = c.in_ok-count.ensures.cells area here in
          let all = further_length area rows left taken count behind in
          omega (arith, before, now, all);
      few = omega (arith, more, few);
    }

pub returns-clause-groups : goal.returns-clause-groups
returns-clause-groups c = λ area inside.
    let grid = c.args.grid.now in
    let rows : List Row = rows_at grid c.args.positions.now c.args.cells.now 0 in
    let over = c.taking-test.false in
    let each = c.requires.cells in
    let count = length_rows grid.low.items grid.lengths.items c.args.positions.now c.args.cells.now (omega (arith, each)) in
    let group = key_of c.args.grouping.now in
    if_ok c.groups_in.result c.groups_in.ensures.groups
    (λ made h. h c.args.aggregates.now (sets_by group (within area rows))
    (subst (λ (zs : List Row). KeepsGroups c.args.aggregates.now (sets_by group (within area zs)) c.taking.groups) (take_all c.taking.taken rows (omega (arith, over, count))) (c.taking.invariant.states area inside)))

pub take_next-requires-clause-inside : goal.take_next-requires-clause-inside
take_next-requires-clause-inside c =
    all_back (λ (p : ℕ). p < volume c.args.grid.now.lengths.items) c.args.positions.now c.taking.taken c.split_at.result.1.now
    c.split_at.ensures.back c.requires.inside

pub take_next-requires-clause-keyed : goal.take_next-requires-clause-keyed
take_next-requires-clause-keyed c =
    all_back (λ (p : ℕ). HasKey c.args.grouping.now (place_of c.args.grid.now p)) c.args.positions.now c.taking.taken c.split_at.result.1.now
    c.split_at.ensures.back c.requires.keyed

pub returns-clause-cells : goal.returns-clause-cells
returns-clause-cells c = λ area inside.
    let grid = c.args.grid.now in
    let rows : List Row = rows_at grid c.args.positions.now c.args.cells.now 0 in
    let over = c.taking-test.false in
    let count = length_rows grid.low.items grid.lengths.items c.args.positions.now c.args.cells.now (omega (arith, c.requires.cells)) in
    let whole = ap (λ (zs : List Row). length (within area zs)) (take_all c.taking.taken rows (omega (arith, over, count))) in
    let kept = c.taking.invariant.cells area inside in
    if_ok c.groups_in.result c.groups_in.ensures.cells (λ made same. omega (arith, whole, kept, same))

pub taking-init : goal.taking-init
taking-init c =
    let empty = c.new-groups.ensures.empty in
    let none = ap cells_kept empty in
    record {
      within_places = omega arith;
      states = λ area inside. none_kept c.args.aggregates.now (key_of c.args.grouping.now) c.new-groups.result empty;
      cells = λ area inside. omega (arith, none);
      few = omega (arith, none);
    }

pub take_next-requires-clause-each : goal.take_next-requires-clause-each
take_next-requires-clause-each c =
    ap length c.split_at-in-taking.ensures.back ∙ length-drop c.taking.taken c.args.marks.now ∙ ap (λ (n : ℕ). n - c.taking.taken) c.requires.each
    ∙ sym (ap length c.split_at.ensures.back ∙ length-drop c.taking.taken c.args.positions.now)
