use Rattle.std.proofs.Common.{◌≡◌, ℕ, ◌+◌, ◌≤◌, ◌<◌, List, [], ◌∷◌, ◌++◌, append_assoc, map, length, take, get_or, ap, sym, ◌∙◌}
use Rattle.std.proofs.lemmas.List.{map_more, take_all}
use Rattle.logical_plan.specs.declared.parts.Applied.{Applied}
use Rattle.logical_plan.specs.PlanSchema.{derived}
use Rattle.plan_schemas.proofs.schema.with_applied.Goals as goal

one_more : {X Y : Type 0} (f : X → Y) (start so_far next : List Y) (xs : List X) (i : ℕ) (x : X) (y : Y) → i < length xs → x ≡ get_or xs i x
    → so_far ≡ start ++ map f (take i xs) → next ≡ so_far ++ y ∷ [] → y ≡ f x → next ≡ start ++ map f (take (i + 1) xs)
one_more {X} {Y} f start so_far next xs i x y within item so pushed is =
    pushed ∙ ap (λ (l : List Y). l ++ y ∷ []) so ∙ append_assoc start (map f (take i xs)) (y ∷ [])
    ∙ ap (λ (l : List Y). start ++ l) (ap (λ (z : Y). map f (take i xs) ++ z ∷ []) (is ∙ ap f item) ∙ sym (map_more f xs i x within))

all_made : {X Y : Type 0} (f : X → Y) (start old so_far : List Y) (items xs : List X) (i : ℕ) → length items ≤ i → items ≡ xs
    → so_far ≡ start ++ map f (take i items) → start ≡ old → so_far ≡ old ++ map f xs
all_made {X} {Y} f start old so_far items xs i over is so begun =
    so ∙ ap (λ (l : List X). start ++ map f l) (take_all i items over ∙ is) ∙ ap (λ (l : List Y). l ++ map f xs) begun

pub loop-value-preserved : goal.loop-value-preserved
loop-value-preserved c =
    one_more (λ (a : Applied). derived a.name a.kind) _ _ _ c.as_slice-value-items.result.now c.loop-value.value-index c.value-item.result _
    c.loop-value-test.true c.value-item.is c.loop-value.invariant c.in_ok-push.ensures.ok c.in_ok-derived_attribute.ensures

pub returns : goal.returns
returns c =
    let attributes = all_made (λ (a : Applied). derived a.name a.kind) _ c.args.source.attributes _ c.as_slice-value-items.result.now c.args.values.now
    c.loop-value.value-index c.loop-value-test.false c.as_slice-value-items.ensures c.loop-value.invariant c.into_parts-attributes.ensures.attributes in
    λ i. record { attributes = attributes i; dimensions = c.into_parts-attributes.ensures.dimensions i }
