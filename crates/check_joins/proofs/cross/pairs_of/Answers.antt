use Rattle.std.proofs.Common.{◌≡◌, ◌∙◌, ℕ, List, [], ◌∷◌, ◌++◌, Ok, sym, ap}
use Rattle.std.proofs.lemmas.List.{map-append}
use Rattle.logical_plan.specs.Joins.{right_places}
use Rattle.logical_plan.specs.Typing.{left_places}
use Rattle.logical_plan.specs.declared.parts.Pair.{Pair}
use Rattle.check_joins.specs.Crosses.{pair_beside, pair_one}
use Rattle.check_rules.proofs.Turns.{pairs_turn}
use Rattle.check_joins.proofs.cross.pairs_of.Goals as goal

pub loop-names-preserved : goal.loop-names-preserved
loop-names-preserved c =
    let left = c.args.left.now in
    let right = c.args.right.now in
    let done = c.loop-names.done in
    let pair = c.in_ok-pair.pair in
    let l = c.left_name-item.result in
    let r = c.right_name-item.result in
    let step = pair_one left right in
    let one : step done l r ≡ Ok pair
    = ap (λ (ps : List ℕ). pair_beside left ps right (right_places done) l r) (sym (c.as_slice.ensures ∙ c.loop-names.invariant.lefts))
    ∙ ap (λ (ps : List ℕ). pair_beside left c.as_slice.result.now right ps l r) (sym (c.as_slice-in-len2-up.ensures ∙ c.loop-names.invariant.rights)) ∙ c.in_ok-pair.ensures in
    record {
      rest = rw c.in_ok-push.ensures.ok (pairs_turn step done c.loop-names.names.now l r pair c.in-len2-up.len_at_least c.left_name-item.is c.right_name-item.is one ∙ c.loop-names.invariant.rest);
      lefts = c.in_ok-push-2.ensures.ok ∙ ap (λ (ps : List ℕ). ps ++ pair.left ∷ []) c.loop-names.invariant.lefts ∙ sym (map-append (λ (p : Pair). p.left) done (pair ∷ [])) ∙ ap left_places (sym c.in_ok-push.ensures.ok);
      rights = c.in_ok-push-3.ensures.ok ∙ ap (λ (ps : List ℕ). ps ++ pair.right ∷ []) c.loop-names.invariant.rights ∙ sym (map-append (λ (p : Pair). p.right) done (pair ∷ [])) ∙ ap right_places (sym c.in_ok-push.ensures.ok);
    }
