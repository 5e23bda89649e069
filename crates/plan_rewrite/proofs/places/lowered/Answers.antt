use Rattle.std.proofs.Common.{[], ◌∷◌, ◌++◌, map, take, ap, sym, ◌∙◌}
use Rattle.std.proofs.lemmas.List.{map_more, take_all}
use Rattle.plan_rewrite.specs.Inner.Trimmed.{lower}
use Rattle.plan_rewrite.proofs.places.lowered.Goals as goal

pub loop-place-preserved : goal.loop-place-preserved
loop-place-preserved c =
    let items = c.as_slice-place-items.result.now in
    let i = c.loop-place.place-index in
    c.in_ok-push.ensures.ok
    ∙ ap (λ l. l ++ c.lower.result ∷ []) c.loop-place.invariant
    ∙ ap (λ x. map (lower c.args.left_out) (take i items) ++ x ∷ []) c.lower.ensures
    ∙ sym (map_more (lower c.args.left_out) items i 0 c.loop-place-test.true)

pub returns : goal.returns
returns c =
    c.loop-place.invariant
    ∙ ap (map (lower c.args.left_out))
    (take_all c.loop-place.place-index c.as_slice-place-items.result.now c.loop-place-test.false ∙ c.as_slice-place-items.ensures)
