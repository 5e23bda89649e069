use Rattle.std.proofs.Common.{◌≡◌, ◌∙◌, ℕ, ◌-◌, ◌≤◌, List, [], ◌∷◌, ◌++◌, append_assoc, length, take, drop, get_or, ap, arith, rules}
use Rattle.std.proofs.lemmas.List.{take_all}
use Rattle.std.proofs.lemmas.Result.{IfOk-equal}
use Rattle.cell_values.specs.declared.schema.Dimension.{Dimension}
use Rattle.logical_plan.specs.Boxes.{by_pairs}
use Rattle.logical_plan.specs.ShapeSchemas.{enlarged}
use Rattle.plan_schemas.proofs.extents.+push_enlarged.Goals as goal

abbrev rest : {A : Type 0} → List A → List A
rest xs = take (length xs - 1) (drop 1 xs)

rest_is : {A : Type 0} (x : A) (xs : List A) → rest (x ∷ xs) ≡ xs
rest_is x xs = take_all (length (x ∷ xs) - 1) xs (omega arith)

blocks_next : (d : Dimension) (dims : List Dimension) (sizes : List ℕ) (b : Dimension) (old mid : List Dimension) → 1 ≤ length dims → 1 ≤ length sizes
    → d ≡ get_or dims 0 d → mid ≡ old ++ b ∷ [] → b ≡ enlarged d (get_or sizes 0 0)
    → mid ++ by_pairs enlarged (rest dims) (rest sizes) ≡ old ++ by_pairs enlarged dims sizes
blocks_next d [] sizes b old mid some _ _ _ _ = absurd (omega (arith, some))
blocks_next d (e ∷ dims) [] b old mid _ some _ _ _ = absurd (omega (arith, some))
blocks_next d (e ∷ dims) (n ∷ sizes) b old mid _ _ first pushed is =
    let behind = by_pairs enlarged dims sizes in
    ap (λ (ds : List Dimension). mid ++ by_pairs enlarged ds (rest (n ∷ sizes))) (rest_is e dims)
    ∙ ap (λ (ns : List ℕ). mid ++ by_pairs enlarged dims ns) (rest_is n sizes) ∙ ap (λ (l : List Dimension). l ++ behind) pushed
    ∙ append_assoc old (b ∷ []) behind ∙ ap (λ (z : Dimension). old ++ z ∷ behind) (is ∙ ap (λ (z : Dimension). enlarged z n) first)

pub returns-in_ok-push-in-len1-up-sizes : goal.returns-in_ok-push-in-len1-up-sizes
returns-in_ok-push-in-len1-up-sizes t c =
    IfOk-equal c.push_enlarged.result c.push_enlarged.new.made _ _ c.push_enlarged.ensures
    (blocks_next c.dimension-item.result c.args.dimensions.now c.args.sizes.now _ c.args.made.now _ c.in-len1-up.len_at_least
    c.in-len1-up-sizes.len_at_least c.dimension-item.is c.in_ok-push-in-len1-up-sizes.ensures.ok (search rules))
