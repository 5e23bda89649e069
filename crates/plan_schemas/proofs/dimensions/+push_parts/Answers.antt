use Rattle.std.proofs.Common.{◌≡◌, ◌∙◌, ◌-◌, ◌≤◌, ℤ, pos, List, [], ◌∷◌, ◌++◌, append_assoc, length, take, drop, get_or, ap, arith, rules}
use Rattle.std.proofs.lemmas.List.{take_all}
use Rattle.std.proofs.lemmas.Result.{IfOk-equal}
use Rattle.cell_values.specs.declared.schema.Dimension.{Dimension}
use Rattle.logical_plan.specs.PlanSchema.{from_zero, subarray_dimensions}
use Rattle.plan_schemas.proofs.dimensions.+push_parts.Goals as goal

abbrev rest : {A : Type 0} → List A → List A
rest xs = take (length xs - 1) (drop 1 xs)

rest_is : {A : Type 0} (x : A) (xs : List A) → rest (x ∷ xs) ≡ xs
rest_is x xs = take_all (length (x ∷ xs) - 1) xs (omega arith)

parts_next : (d : Dimension) (dims : List Dimension) (lo hi : List ℤ) (x y : ℤ) (old mid : List Dimension) → 1 ≤ length dims → 1 ≤ length lo → 1 ≤ length hi
    → d ≡ get_or dims 0 d → mid ≡ old ++ from_zero d x y ∷ [] → x ≡ get_or lo 0 (pos 0) → y ≡ get_or hi 0 (pos 0)
    → mid ++ subarray_dimensions (rest dims) (rest lo) (rest hi) ≡ old ++ subarray_dimensions dims lo hi
parts_next d [] lo hi x y old mid some _ _ _ _ _ _ = absurd (omega (arith, some))
parts_next d (e ∷ dims) [] hi x y old mid _ some _ _ _ _ _ = absurd (omega (arith, some))
parts_next d (e ∷ dims) (l ∷ lo) [] x y old mid _ _ some _ _ _ _ = absurd (omega (arith, some))
parts_next d (e ∷ dims) (l ∷ lo) (h ∷ hi) x y old mid _ _ _ first pushed low high =
    let behind = subarray_dimensions dims lo hi in
    ap (λ (ds : List Dimension). mid ++ subarray_dimensions ds (rest (l ∷ lo)) (rest (h ∷ hi))) (rest_is e dims)
    ∙ ap (λ (ls : List ℤ). mid ++ subarray_dimensions dims ls (rest (h ∷ hi))) (rest_is l lo)
    ∙ ap (λ (hs : List ℤ). mid ++ subarray_dimensions dims lo hs) (rest_is h hi) ∙ ap (λ (l : List Dimension). l ++ behind) pushed
    ∙ append_assoc old (from_zero d x y ∷ []) behind ∙ ap (λ (z : ℤ). old ++ from_zero d z y ∷ behind) low
    ∙ ap (λ (z : ℤ). old ++ from_zero d l z ∷ behind) high ∙ ap (λ (z : Dimension). old ++ from_zero z l h ∷ behind) first

pub returns-in_ok-push_part-in-len1-up-hi : goal.returns-in_ok-push_part-in-len1-up-hi
returns-in_ok-push_part-in-len1-up-hi t c =
    IfOk-equal c.push_parts.result c.push_parts.new.parts _ _ c.push_parts.ensures
    (parts_next c.dimension-item.result c.args.dimensions.now c.args.lo.now c.args.hi.now _ _ c.args.parts.now _ c.in-len1-up.len_at_least
    c.in-len1-up-lo.len_at_least c.in-len1-up-hi.len_at_least c.dimension-item.is c.in_ok-push_part-in-len1-up-hi.ensures (search rules) (search rules))
