use Rattle.std.proofs.Common.{◌≡◌, ℕ, List, ◌+◌, ◌-◌, ◌/◌, length, take, drop, ap, ◌∙◌, subst, arith, length-drop}
use Rattle.std.specs.Vec.Iter.{into_iter_items}
use Rattle.std.proofs.lemmas.List.{drop-drop}
use Rattle.group_rows.specs.declared.rows.groups.Groups.{Groups}
use Rattle.group_rows.specs.Counts.{cells_in_all}
use Rattle.group_rows.specs.Grouped.{ArePartsOf}
use Rattle.group_rows.proofs.MergeLaws.{if_ok, ok_now}
use Rattle.group_rows.proofs.RowsPartLaws.{none_of, one_of, front, back, front_apart, back_apart, halves_apart, both_halves, cells_halves, cells_of_both}
use Rattle.group_rows.proofs.rows.united.+gather.Goals as goal

pub returns-then-count-eq0-clause-groups : goal.returns-then-count-eq0-clause-groups
returns-then-count-eq0-clause-groups t c = λ gs sets parts apart.
    none_of gs sets c.none.result.groups (subst (λ n. ArePartsOf gs sets (take n (into_iter_items c.args.parts.now))) c.if-count-eq0.true parts) c.none.ensures

pub returns-then-count-eq1-clause-groups : goal.returns-then-count-eq1-clause-groups
returns-then-count-eq1-clause-groups t c = λ gs sets parts apart.
    one_of gs sets c.next_groups.result (into_iter_items c.args.parts.now) c.next_groups.ensures.groups (subst (λ n. ArePartsOf gs sets (take n (into_iter_items c.args.parts.now))) c.if-count-eq1.true parts)

pub gather-requires-2 : goal.gather-requires-2
gather-requires-2 t c =
    let parts = into_iter_items c.args.parts.now in
    let half = c.args.count / 2 in
    let left = c.in_ok-left.ensures.left in
    let n = ap length left ∙ length-drop half parts in
    let cells : cells_in_all (into_iter_items c.gather.new.parts) ≡ cells_in_all (drop half parts) = ap cells_in_all left in
    let both = cells_halves half parts in
    (omega (arith, c.decreases), (omega (arith, n, c.requires.some), omega (arith, cells, both, c.requires.room)))

pub merge_two-requires : goal.merge_two-requires
merge_two-requires t c =
    let parts = into_iter_items c.args.parts.now in
    let half = c.args.count / 2 in
    let both = cells_of_both half (c.args.count - half) c.args.count parts (into_iter_items c.gather.new.parts) (omega arith) c.in_ok-left.ensures.left in
    let all = cells_halves c.args.count parts in
    record { room = omega (arith, both, all, c.in_ok-left.ensures.cells, c.in_ok-right.ensures.cells, c.requires.room) }

pub returns-clause-groups : goal.returns-clause-groups
returns-clause-groups t c = λ gs sets parts apart.
    let half = c.args.count / 2 in
    let all = into_iter_items c.args.parts.now in
    let sum : half + (c.args.count - half) ≡ c.args.count = omega arith in
    let left = c.in_ok-left.ensures.groups gs (take half sets) (front gs sets half (c.args.count - half) c.args.count all sum parts) (front_apart half sets apart) in
    let right = c.in_ok-right.ensures.groups gs (drop half sets) (back gs sets half (c.args.count - half) c.args.count all (into_iter_items c.gather.new.parts) sum c.in_ok-left.ensures.left parts) (back_apart half sets apart) in
    if_ok c.merge_two.result (c.merge_two.ensures.groups gs _ _ left right (halves_apart half sets apart))
    (λ merged h. both_halves gs half sets c.in_ok-right.right.groups merged.groups right h)

pub returns-clause-cells : goal.returns-clause-cells
returns-clause-cells t c =
    let half = c.args.count / 2 in
    let both = cells_of_both half (c.args.count - half) c.args.count (into_iter_items c.args.parts.now) (into_iter_items c.gather.new.parts) (omega arith) c.in_ok-left.ensures.left in
    if_ok c.merge_two.result c.merge_two.ensures.cells (λ merged h. omega (arith, both, h, c.in_ok-left.ensures.cells, c.in_ok-right.ensures.cells))

pub returns-clause-left : goal.returns-clause-left
returns-clause-left t c =
    let parts = into_iter_items c.args.parts.now in
    let half = c.args.count / 2 in
    let behind = c.args.count - half in
    let all : half + behind ≡ c.args.count = omega arith in
    ok_now c.merge_two.result
    (c.in_ok-right.ensures.left ∙ ap (λ (z : List Groups). drop behind z) c.in_ok-left.ensures.left ∙ drop-drop behind half parts
    ∙ ap (λ (n : ℕ). drop n parts) all)
