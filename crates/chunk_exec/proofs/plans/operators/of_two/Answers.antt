use Rattle.std.proofs.Common.{◌≡◌, List, [], ◌∷◌, sym, ap, ◌∙◌, subst}
use Rattle.std.specs.Prelude.{IfOk}
use Rattle.array_parts.specs.Cores.{meant_by_cores}
use Rattle.array_geom.specs.Link.{Is}
use Rattle.exec_join.specs.Meant.{cross_meant, join_meant}
use Rattle.logical_plan.specs.declared.arity.BinaryNode.{BinaryNode}
use Rattle.logical_plan.specs.declared.parts.Pair.{Pair}
use Rattle.logical_plan.specs.Arity.{binary_query}
use Rattle.logical_plan.specs.Query.{Query, joined, crossed, merged, concatenated}
use Rattle.logical_plan.specs.ShapeMeant.{concat_meant, merge_meant}
use Rattle.chunk_exec.specs.Inner.Operated.{IsResultOf}
use Rattle.chunk_exec.proofs.OperatorLaws.{if_ok, of_this_plan, join_result, cross_result, merge_result, concat_result}
use Rattle.chunk_exec.proofs.plans.operators.of_two.Goals as goal

pub returns-in-Join : goal.returns-in-Join
returns-in-Join g c =
    let a = c.args.a in
    let b = c.args.b in
    let left = c.args.left.now in
    let right = c.args.right.now in
    let schema = c.in-Join.schema.now in
    let query = joined left right schema in
    let is : c.args.plan.now ≡ query = c.requires.node ∙ ap (λ (n : BinaryNode). binary_query n left right) c.in-Join.is in
    subst (λ (z : Query). IfOk c.join.result (IsResultOf z (a ∷ b ∷ []))) (sym is)
    (if_ok (λ made. Is made (join_meant schema (meant_by_cores a) (meant_by_cores b))) (IsResultOf query (a ∷ b ∷ [])) c.join.result (join_result left right schema a b) c.join.ensures.array)

pub returns-in-CrossJoin : goal.returns-in-CrossJoin
returns-in-CrossJoin g c =
    let a = c.args.a in
    let b = c.args.b in
    let left = c.args.left.now in
    let right = c.args.right.now in
    let pairs = c.in-CrossJoin.pairs.now in
    let schema = c.in-CrossJoin.schema.now in
    let query = crossed left right pairs schema in
    let is : c.args.plan.now ≡ query = c.requires.node ∙ ap (λ (n : BinaryNode). binary_query n left right) c.in-CrossJoin.is in
    subst (λ (z : Query). IfOk c.cross_join.result (IsResultOf z (a ∷ b ∷ []))) (sym is)
    (if_ok (λ made. Is made (cross_meant schema pairs (meant_by_cores a) (meant_by_cores b))) (IsResultOf query (a ∷ b ∷ [])) c.cross_join.result (cross_result left right pairs schema a b)
    (subst (λ (z : List Pair). IfOk c.cross_join.result (λ made. Is made (cross_meant schema z (meant_by_cores a) (meant_by_cores b)))) c.as_slice.ensures c.cross_join.ensures.array))

pub returns-in-Merge : goal.returns-in-Merge
returns-in-Merge g c =
    let a = c.args.a in
    let b = c.args.b in
    let left = c.args.left.now in
    let right = c.args.right.now in
    let query = merged left right in
    let is : c.args.plan.now ≡ query = c.requires.node ∙ ap (λ (n : BinaryNode). binary_query n left right) c.in-Merge.is in
    of_this_plan c.args.plan.now query (a ∷ b ∷ []) (λ made. Is made (merge_meant (meant_by_cores a) (meant_by_cores b))) c.merge.result is c.requires.can
    (λ made can m. merge_result left right a b made can m) c.merge.ensures.array

pub returns-in-Concat : goal.returns-in-Concat
returns-in-Concat g c =
    let a = c.args.a in
    let b = c.args.b in
    let left = c.args.left.now in
    let right = c.args.right.now in
    let query = concatenated left right in
    let is : c.args.plan.now ≡ query = c.requires.node ∙ ap (λ (n : BinaryNode). binary_query n left right) c.in-Concat.is in
    of_this_plan c.args.plan.now query (a ∷ b ∷ []) (λ made. Is made (concat_meant (meant_by_cores a) (meant_by_cores b))) c.concat.result is c.requires.can
    (λ made can m. concat_result left right a b made can m) c.concat.ensures.array
