use Rattle.std.proofs.Common.{◌≡◌, ◌<◌, ◌++◌, ◌∷◌, [], pos, length, get_or, refl, arith, rules}
use Rattle.std.proofs.lemmas.Grind.{common_steps}
use Rattle.std.specs.Prelude.{slice_set}
use Rattle.group_rows.proofs.PlaceLaws.{all_at}
use Rattle.order_exec.proofs.GroupNumberLaws.{all_taken, next_taken, none_taken}
use Rattle.order_exec.proofs.group_numbers.take_numbers.Goals as goal

pub loop-k-init : goal.loop-k-init
loop-k-init c = none_taken c.args.places.now c.args.numbers.now c.args.groups.now.items

pub push_at-requires : goal.push_at-requires
push_at-requires c =
    let inside : get_or c.args.places.now c.loop-k.k 0 < length c.args.groups.now.items = all_at (λ p. p < length c.args.groups.now.items) c.args.places.now c.loop-k.k 0 c.loop-k-test.true c.requires.below in
    let long = c.loop-k.invariant.long in
    omega (arith, inside, long)

pub loop-k-preserved : goal.loop-k-preserved
loop-k-preserved c =
    let place = get_or c.args.places.now c.loop-k.k 0 in
    let number = get_or c.args.numbers.now c.loop-k.k (pos 0) in
    let set : c.push_at.new.groups.items ≡ slice_set c.loop-k.groups.items place (get_or c.loop-k.groups.items place [] ++ number ∷ []) =
    first_of (search rules, grind (arith, common_steps)) in
    next_taken c.args.places.now c.args.numbers.now c.loop-k.k place number c.args.groups.now.items c.loop-k.groups.items c.push_at.new.groups.items
    c.loop-k-test.true c.requires.each refl refl (all_at (λ p. p < length c.args.groups.now.items) c.args.places.now c.loop-k.k 0 c.loop-k-test.true c.requires.below) set c.loop-k.invariant

pub returns : goal.returns
returns c = all_taken c.args.places.now c.args.numbers.now c.loop-k.k c.args.groups.now.items c.loop-k.groups.items c.loop-k-test.false c.requires.each c.loop-k.invariant
