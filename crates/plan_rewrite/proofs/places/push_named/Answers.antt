use Rattle.std.proofs.Common.{◌≡◌, ◌∙◌, ◌+◌, Bool, [], ◌∷◌, ◌++◌, append-nil, cond, ap, IfOk, subst, sym}
use Rattle.plan_rewrite.specs.Inner.Trimmed.{lowered}
use Rattle.plan_rewrite.proofs.KeptSteps.{on_ok}
use Rattle.plan_rewrite.proofs.places.push_named.Goals as goal

pub returns-in_ok-push-clause-items : goal.returns-in_ok-push-clause-items
returns-in_ok-push-clause-items g c =
    let out = c.args.out.now in
    let item = c.args.item.now in
    on_ok c.next_place.result
    (c.in_ok-push.ensures.ok ∙ ap (λ x. out ++ x ∷ []) c.in_ok-copy.ensures
    ∙ ap (λ (named : Bool). out ++ cond named (item ∷ []) []) (sym c.if-is_named.true ∙ c.is_named.ensures))

pub returns-in_ok-push-clause-places : goal.returns-in_ok-push-clause-places
returns-in_ok-push-clause-places g c =
    on_ok c.next_place.result
    (ap (λ (named : Bool). cond named c.args.places.now (lowered c.args.first c.args.places.now)) (sym c.if-is_named.true ∙ c.is_named.ensures))

pub returns-in_ok-push-clause-next : goal.returns-in_ok-push-clause-next
returns-in_ok-push-clause-next g c =
    subst (λ (named : Bool). IfOk c.next_place.result (λ next. next ≡ cond named (c.args.first + 1) c.args.first))
    (sym c.if-is_named.true ∙ c.is_named.ensures) c.next_place.ensures

pub returns-in_ok-places-clause-items : goal.returns-in_ok-places-clause-items
returns-in_ok-places-clause-items g c =
    sym (append-nil c.args.out.now)
    ∙ ap (λ (named : Bool). c.args.out.now ++ cond named (c.args.item.now ∷ []) []) (sym c.if-is_named.false ∙ c.is_named.ensures)

pub returns-in_ok-places-clause-places : goal.returns-in_ok-places-clause-places
returns-in_ok-places-clause-places g c =
    c.in_ok-places.ensures
    ∙ ap (λ (named : Bool). cond named c.args.places.now (lowered c.args.first c.args.places.now)) (sym c.if-is_named.false ∙ c.is_named.ensures)

pub returns-in_ok-places-clause-next : goal.returns-in_ok-places-clause-next
returns-in_ok-places-clause-next g c =
    ap (λ (named : Bool). cond named (c.args.first + 1) c.args.first) (sym c.if-is_named.false ∙ c.is_named.ensures)
