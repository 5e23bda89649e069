use Rattle.std.proofs.Common.{◌≡◌, ◌-◌, ◌++◌, ◌∙◌, List, length, take, drop, sym, ap, subst, arith, length-drop, ℕ}
use Rattle.std.proofs.lemmas.List.{take-append-drop, take_all}
use Rattle.arrayvec.specs.ArrayVec.{ArrayVec}
use Rattle.cell_values.specs.declared.datum.Row.{Row}
use Rattle.array_rows.specs.Rows.{IsRising}
use Rattle.group_rows.specs.Sets.{AreKeys, sets_by}
use Rattle.group_rows.specs.Taken.{KeepsGroups, cells_kept}
use Rattle.group_rows.proofs.FormLaws.{keys_dropped}
use Rattle.group_rows.proofs.MergeLaws.{if_ok}
use Rattle.group_rows.proofs.TakenLaws.{taken_both, none_kept}
use Rattle.group_rows.proofs.rows.forming.groups_of.Goals as goal

pub taking-preserved : goal.taking-preserved
taking-preserved c =
    let rows = c.args.rows.now in
    let taken = c.taking.taken in
    let left = c.split_at-in-taking.result.1.now in
    let behind = c.split_at-in-taking.ensures.back in
    let long : length left ≡ length rows - taken = ap length behind ∙ length-drop taken rows in
    let whole : take taken rows ++ left ≡ rows = ap (λ (zs : List Row). take taken rows ++ zs) behind ∙ take-append-drop taken rows in
    let less = c.taking-test.true in
    let within = c.in_ok-count.ensures.within in
    let kept = c.in_ok-count.ensures.cells in
    let before = c.taking.invariant.cells in
    record {
      within = omega (arith, long, less, within, c.requires.each);
      states = λ group are.
          let these = subst (λ (ks : List (ArrayVec _)). AreKeys group ks left) (sym c.split_at.ensures.back) (subst (AreKeys group (drop taken c.args.keys.now)) (sym behind) (keys_dropped group taken c.args.keys.now rows are)) in
          subst (λ (zs : List Row). KeepsGroups c.args.aggregates.now (sets_by group zs) c.take_run.new.groups) (taken_both taken c.in_ok-count.count rows left behind)
          (c.in_ok-count.ensures.states group (take taken rows) these (subst IsRising (sym whole) c.requires.rising) (c.taking.invariant.states group are));
      cells = omega (arith, kept, before);
    }

pub returns-clause-groups : goal.returns-clause-groups
returns-clause-groups c = λ group are.
    let rows = c.args.rows.now in
    let over = c.taking-test.false in
    if_ok c.groups_in.result c.groups_in.ensures.groups
    (λ made h. h c.args.aggregates.now (sets_by group rows)
    (subst (λ (zs : List Row). KeepsGroups c.args.aggregates.now (sets_by group zs) c.taking.groups) (take_all c.taking.taken rows (omega (arith, over, c.requires.each))) (c.taking.invariant.states group are)))

pub taking-init : goal.taking-init
taking-init c =
    let none = ap cells_kept c.new-groups.ensures.empty in
    record { within = omega arith; states = λ group are. none_kept c.args.aggregates.now group c.new-groups.result c.new-groups.ensures.empty; cells = omega (arith, none) }

pub returns-clause-cells : goal.returns-clause-cells
returns-clause-cells c =
    let over = c.taking.invariant.within in
    let kept = c.taking.invariant.cells in
    if_ok c.groups_in.result c.groups_in.ensures.cells (λ made same. omega (arith, over, kept, same, c.requires.each))

pub take_run-requires-clause-each : goal.take_run-requires-clause-each
take_run-requires-clause-each c =
    ap length c.split_at.ensures.back ∙ length-drop c.taking.taken c.args.keys.now ∙ ap (λ (n : ℕ). n - c.taking.taken) c.requires.each
    ∙ sym (ap length c.split_at-in-taking.ensures.back ∙ length-drop c.taking.taken c.args.rows.now)
