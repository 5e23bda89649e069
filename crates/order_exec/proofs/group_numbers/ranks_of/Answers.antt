use Rattle.std.proofs.Common.{◌≡◌, ◌<◌, ◌++◌, ◌∷◌, [], pos, length, get_or, arith, rules}
use Rattle.std.proofs.lemmas.Grind.{common_steps}
use Rattle.group_rows.proofs.PlaceLaws.{all_at}
use Rattle.order_exec.specs.Inner.GroupNumbers.{number_rank}
use Rattle.order_exec.proofs.GroupNumberLaws.{all_ranks, next_rank}
use Rattle.order_exec.proofs.group_numbers.ranks_of.Goals as goal

pub rank_at-requires-clause-inside : goal.rank_at-requires-clause-inside
rank_at-requires-clause-inside c = all_at (λ p. p < length c.args.groups.now) c.args.places.now c.loop-k.k 0 c.loop-k-test.true c.requires.below

pub loop-k-preserved : goal.loop-k-preserved
loop-k-preserved c =
    let pushed : c.push.new.self ≡ c.loop-k.ranks ++ c.in_ok-rank_at.field-0 ∷ [] = search rules in
    let rank : c.in_ok-rank_at.field-0 ≡ number_rank c.args.groups.now (get_or c.args.places.now c.loop-k.k 0) (get_or c.args.numbers.now c.loop-k.k (pos 0)) =
    first_of (search rules, grind (arith, common_steps)) in
    next_rank c.args.groups.now c.args.places.now c.args.numbers.now c.loop-k.k c.in_ok-rank_at.field-0 c.loop-k.ranks c.push.new.self c.loop-k-test.true c.requires.each rank pushed c.loop-k.invariant

pub returns : goal.returns
returns c = all_ranks c.args.groups.now c.args.places.now c.args.numbers.now c.loop-k.ranks c.loop-k.k c.loop-k-test.false c.requires.each c.loop-k.invariant
