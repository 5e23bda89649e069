-- Values of a first attribute, and the rows along the numbers of a dimension.
use Rattle.std.proofs.Common.{◌≡◌, ℕ, zero, suc, ◌+◌, ◌≤◌, ℤ, pos, ◌+ℤ◌, List, [], ◌∷◌, ◌++◌, length, slice_index_or, sym, ◌∙◌, ap, arith, append_assoc}
use Rattle.std.specs.List.{flat_map}
use Rattle.std.proofs.lemmas.Int.{ints}
use Rattle.std.proofs.lemmas.List.{append-nil}
use Rattle.std.proofs.lemmas.Grind.{flat_map-append}
use Rattle.cell_values.specs.declared.datum.Datum.{Datum}
use Rattle.cell_values.specs.declared.datum.Row.{Row}
use Rattle.cell_values.specs.declared.schema.Attribute.{Attribute}
use Rattle.logical_plan.specs.CellOps.{fit_value, fit_values}
use Rattle.logical_plan.specs.Meaning.{count_from}

-- ---- values of a first attribute

pub fit_first : (attributes : List Attribute) (a : Attribute) (v : Datum) → 1 ≤ length attributes → a ≡ slice_index_or attributes 0 a → fit_value a v ∷ [] ≡ fit_values attributes (v ∷ [])
fit_first [] a v h is = absurd (omega arith)
fit_first (b ∷ []) a v h is = ap (λ (x : Attribute). fit_value x v ∷ []) is
fit_first (b ∷ d ∷ more) a v h is = ap (λ (x : Attribute). fit_value x v ∷ []) is

-- ---- numbers of a dimension

count_more : (lo : ℤ) (n : ℕ) → count_from lo (suc n) ≡ count_from lo n ++ (lo +ℤ pos n) ∷ []
count_more lo zero = let here : lo ≡ lo +ℤ pos 0 = omega (arith, ints) in ap (λ x. x ∷ []) here
count_more lo (suc n) =
    let there : (lo +ℤ pos 1) +ℤ pos n ≡ lo +ℤ pos (suc n) = omega (arith, ints) in
    ap (λ l. lo ∷ l) (count_more (lo +ℤ pos 1) n) ∙ ap (λ x. lo ∷ (count_from (lo +ℤ pos 1) n ++ x ∷ [])) there

module _ (f : ℤ → List Row) (lo : ℤ) (old : List Row) where
  flat_one : (x : ℤ) → flat_map f (x ∷ []) ≡ f x
  flat_one x = append-nil (f x)

  -- the rows of one more number
  pub grown : (n : ℕ) (rows now : List Row) → rows ≡ old ++ flat_map f (count_from lo n) → now ≡ rows ++ f (lo +ℤ pos n) → now ≡ old ++ flat_map f (count_from lo (n + 1))
  grown n rows now p q =
      let next : suc n ≡ n + 1 = omega arith in
      q ∙ ap (λ l. l ++ f (lo +ℤ pos n)) p ∙ append_assoc old (flat_map f (count_from lo n)) (f (lo +ℤ pos n))
      ∙ ap (λ l. old ++ l) (ap (λ l. flat_map f (count_from lo n) ++ l) (sym (flat_one (lo +ℤ pos n))) ∙ sym (flat_map-append f (count_from lo n) ((lo +ℤ pos n) ∷ [])) ∙ ap (flat_map f) (sym (count_more lo n)))
      ∙ ap (λ (k : ℕ). old ++ flat_map f (count_from lo k)) next
