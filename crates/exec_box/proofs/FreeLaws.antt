-- The first number of a coordinate is left out where its place is fixed.
use Rattle.std.proofs.Common.{◌≡◌, ℕ, ◌+◌, Bool, true, false, cond, ◌||◌, List, [], ◌∷◌, ◌++◌, drop, take, length, ◌-◌, ◌≤◌, arith, refl, sym, ap, ◌∙◌, append_assoc}
use Rattle.std.proofs.lemmas.List.{take_rest}
use Rattle.std.specs.List.{list_any}
use Rattle.std.specs.Prelude.{◌==◌, slice_index_or}
use Rattle.logical_plan.specs.declared.parts.Fixed.{Fixed}
use Rattle.logical_plan.specs.BoxOps.{items_but, fixed_places}

fixed_any : (p : ℕ → Bool) (fixed : List Fixed) → list_any p (fixed_places fixed) ≡ list_any (λ f. p f.dimension) fixed
fixed_any p [] = refl
fixed_any p (f ∷ fixed) = ap (λ (b : Bool). p f.dimension || b) (fixed_any p fixed)

one_kept : {A : Type 0} (t : Bool) (old : List A) (x : A) (rest : List A) → (old ++ cond t [] (x ∷ [])) ++ rest ≡ old ++ cond t rest (x ∷ rest)
one_kept true old x rest = append_assoc old [] rest
one_kept false old x rest = append_assoc old (x ∷ []) rest

pub free_first : {A : Type 0} (fixed : List Fixed) (n : ℕ) (old : List A) (x : A) (rest : List A)
    → (old ++ cond (list_any (λ f. f.dimension == n) fixed) [] (x ∷ [])) ++ items_but (fixed_places fixed) (n + 1) rest ≡ old ++ items_but (fixed_places fixed) n (x ∷ rest)
free_first fixed n old x rest =
    one_kept (list_any (λ f. f.dimension == n) fixed) old x (items_but (fixed_places fixed) (n + 1) rest)
    ∙ ap (λ (b : Bool). old ++ cond b (items_but (fixed_places fixed) (n + 1) rest) (x ∷ items_but (fixed_places fixed) (n + 1) rest)) (sym (fixed_any (λ p. p == n) fixed))

pub free_next : {A : Type 0} (none : A) (fixed : List Fixed) (n : ℕ) (old at : List A) → 1 ≤ length at
    → (old ++ cond (list_any (λ f. f.dimension == n) fixed) [] (slice_index_or at 0 none ∷ [])) ++ items_but (fixed_places fixed) (n + 1) (take (length at - 1) (drop 1 at)) ≡ old ++ items_but (fixed_places fixed) n at
free_next none fixed n old [] few = absurd (omega arith)
free_next {A} none fixed n old (x ∷ rest) few =
    ap (λ (more : List A). (old ++ cond (list_any (λ f. f.dimension == n) fixed) [] (x ∷ [])) ++ items_but (fixed_places fixed) (n + 1) more) (take_rest (x ∷ rest) 1)
    ∙ free_first fixed n old x rest
