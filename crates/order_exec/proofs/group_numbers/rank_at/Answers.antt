use Rattle.std.proofs.Common.{◌≡◌, rules, pos, ◌+◌, ℕ, ℤ, [], List, map, sym, ap, ◌∙◌, subst, arith}
use Rattle.std.proofs.lemmas.Grind.{common_steps}
use Rattle.std.proofs.lemmas.List.{get_or_read}
use mir.Val.{of_z, to_z}
use mir.Syntax.{w64}
use Rattle.cell_values.specs.declared.datum.Datum.TheVariants.{Int}
use Rattle.logical_plan.specs.Ordered.{below}
use Rattle.order_exec.specs.Inner.GroupNumbers.{number_rank}
use Rattle.order_exec.specs.Inner.Ranked.{AreInOrder}
use Rattle.order_exec.proofs.KeyedLaws.{at_place}
use Rattle.order_exec.proofs.group_numbers.rank_at.Goals as goal

pub count_less-before-requires : goal.count_less-before-requires
count_less-before-requires c =
    subst (λ (ns : List ℤ). AreInOrder (map Int ns)) (sym c.as_slice.ensures)
    (at_place (λ (ns : List ℤ). AreInOrder (map Int ns)) c.args.groups.now c.args.place c.index-groups-place.result c.requires.order c.requires.inside c.index-groups-place.is)

pub returns : goal.returns
returns c =
    let rank : c.number_after.result ≡ number_rank c.args.groups.now c.args.place c.args.number.now =
    c.number_after.ensures
    ∙ ap (λ (k : ℕ). pos (1 + k)) (c.count_less-before.ensures
    ∙ ap (λ (ns : List ℤ). below (Int c.args.number.now) (map Int ns)) (c.as_slice.ensures ∙ get_or_read c.args.groups.now c.args.place c.index-groups-place.result c.requires.inside c.index-groups-place.is [])) in
    let same : to_z w64 (of_z w64 c.number_after.result) ≡ c.number_after.result = first_of (search rules, grind (arith, common_steps)) in
    same ∙ rank
