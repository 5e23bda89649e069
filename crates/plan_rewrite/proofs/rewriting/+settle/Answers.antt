use Rattle.std.proofs.Common.{◌≡◌, ◌+◌, ◌∙◌, List, ℕ, Some, IfOk, ap, subst, sym, arith}
use Rattle.std.specs.Option.{option_copied}
use Rattle.cell_values.specs.declared.schema.Bounds.{Bounds}
use Rattle.logical_plan.specs.Arity.{binary_query, leaf_query, shape_query, unary_query}
use Rattle.logical_plan.specs.Query.{Query, query_size}
use Rattle.logical_plan.proofs.ArityLaws.{binary_size, unary_size}
use Rattle.plan_rewrite.specs.Inner.Settling.{settle}
use Rattle.plan_rewrite.proofs.StayLaws.{apply_unused, apply_used, leaf_stays, one_stays, two_stay}
use Rattle.plan_rewrite.proofs.rewriting.+settle.Goals as goal

pub settle-returns-in-Leaf : goal.settle-returns-in-Leaf
settle-returns-in-Leaf t c =
    let area = option_copied c.args.area in
    let places = option_copied c.args.places in
    let is : c.args.plan.now ≡ leaf_query c.in-Leaf.field-0 = sym c.shape.ensures ∙ ap shape_query c.in-Leaf.is in
    subst (λ (q : Query). IfOk c.enclose_made.result (λ p. p ≡ settle area places q)) (sym is)
    (subst (λ (q : Query). IfOk c.enclose_made.result (λ p. p ≡ q)) (sym (leaf_stays c.in-Leaf.field-0 area places))
    (c.enclose_made.ensures (leaf_query c.in-Leaf.field-0) (subst (λ (q : Query). IfOk c.copy.result (λ p. p ≡ q)) is c.copy.ensures)))

pub settle-returns-in-Unary : goal.settle-returns-in-Unary
settle-returns-in-Unary t c =
    let is : c.args.plan.now ≡ unary_query c.in-Unary.node c.in-Unary.source.now = sym c.shape.ensures ∙ ap shape_query c.in-Unary.is in
    subst (λ (q : Query). IfOk c.settle_one.result (λ p. p ≡ settle (option_copied c.args.area) (option_copied c.args.places) q)) (sym is)
    c.settle_one.ensures

pub settle-returns-in-Binary : goal.settle-returns-in-Binary
settle-returns-in-Binary t c =
    let is : c.args.plan.now ≡ binary_query c.in-Binary.node c.in-Binary.left.now c.in-Binary.right.now = sym c.shape.ensures ∙ ap shape_query c.in-Binary.is in
    subst (λ (q : Query). IfOk c.settle_two.result (λ p. p ≡ settle (option_copied c.args.area) (option_copied c.args.places) q)) (sym is)
    c.settle_two.ensures

pub settle-settle_one-requires : goal.settle-settle_one-requires
settle-settle_one-requires t c =
    let is : c.args.plan.now ≡ unary_query c.in-Unary.node c.in-Unary.source.now = sym c.shape.ensures ∙ ap shape_query c.in-Unary.is in
    let size : query_size c.args.plan.now ≡ query_size c.in-Unary.source.now + 1 = ap query_size is ∙ unary_size c.in-Unary.node c.in-Unary.source.now in
    (omega (arith, size, c.decreases), tt)

pub settle-settle_two-requires : goal.settle-settle_two-requires
settle-settle_two-requires t c =
    let is : c.args.plan.now ≡ binary_query c.in-Binary.node c.in-Binary.left.now c.in-Binary.right.now = sym c.shape.ensures ∙ ap shape_query c.in-Binary.is in
    let size : query_size c.args.plan.now ≡ query_size c.in-Binary.left.now + query_size c.in-Binary.right.now + 1
    = ap query_size is ∙ binary_size c.in-Binary.node c.in-Binary.left.now c.in-Binary.right.now in
    (omega (arith, size, c.decreases), tt)

pub settle_filter-returns : goal.settle_filter-returns
settle_filter-returns t c = c.filter_settled.ensures _ c.settle.ensures

pub settle_apply-returns-then-names_none : goal.settle_apply-returns-then-names_none
settle_apply-returns-then-names_none t c =
    subst (λ (q : Query). IfOk c.settle.result (λ p. p ≡ q))
    (sym (apply_unused (option_copied c.args.area) (option_copied c.args.places) c.args.source.now c.args.values.now c.in-Ok.first c.in-Ok.ensures (sym c.names_none.ensures ∙ c.if-names_none.true)))
    c.settle.ensures

pub settle_apply-returns-else-names_none : goal.settle_apply-returns-else-names_none
settle_apply-returns-else-names_none t c =
    subst (λ (q : Query). IfOk c.apply_settled.result (λ p. p ≡ q))
    (sym (apply_used (option_copied c.args.area) (option_copied c.args.places) c.args.source.now c.args.values.now c.in-Ok.first c.in-Ok.ensures (sym c.names_none.ensures ∙ c.if-names_none.false)))
    (c.apply_settled.ensures _ c.settle-in-Ok.ensures)

pub settle_project-returns-in-Ok : goal.settle_project-returns-in-Ok
settle_project-returns-in-Ok t c =
    subst (λ (l : List ℕ). IfOk c.settle-settled.result (λ p. p ≡ settle (option_copied c.args.area) (Some l) c.args.source.now)) c.in-Ok.ensures
    c.settle-settled.ensures

pub settle_between-returns : goal.settle_between-returns
settle_between-returns t c =
    subst (λ (b : Bounds). IfOk c.settle.result (λ p. p ≡ settle (Some b) (option_copied c.args.places) c.args.source.now)) c.met-both.ensures
    c.settle.ensures

pub settle_under-returns : goal.settle_under-returns
settle_under-returns t c =
    subst (λ (q : Query). IfOk c.enclose_made.result (λ p. p ≡ q))
    (sym (one_stays c.args.node c.args.source.now (option_copied c.args.area) (option_copied c.args.places) c.requires))
    (c.enclose_made.ensures _ (c.one_settled.ensures _ c.settle-settled.ensures))

pub settle_two-returns : goal.settle_two-returns
settle_two-returns t c =
    subst (λ (q : Query). IfOk c.enclose_made.result (λ p. p ≡ q))
    (sym (two_stay c.args.node c.args.left.now c.args.right.now (option_copied c.args.area) (option_copied c.args.places)))
    (c.enclose_made.ensures _ (c.two_settled.ensures _ _ c.settle-left.ensures c.settle-right.ensures))
