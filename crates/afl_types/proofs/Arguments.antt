-- Arguments that are too few or too many.
use Rattle.std.proofs.Common.{◌≡◌, ◌<◌, ◌≤◌, List, [], ◌∷◌, length, refl, arith}
use Rattle.cell_values.specs.declared.name.Span.{Span}
use Rattle.schema_grammar.specs.declared.kinds.TypeKind.TheVariants.{WrongCount}
use Rattle.afl_trees.specs.Term.{Term, to_terms}
use Rattle.logical_plan.specs.declared.names.NameEntry.{NameEntry}
use Rattle.check_rules.specs.Checked.{refused}
use Rattle.afl_types.specs.Changes.{array_call, cut_call, list_call}

module _ (arrays : List NameEntry) (s : Span) where
  pub few_for_array : (xs : List Term) → length xs < 1 → array_call arrays s (to_terms xs) ≡ refused s WrongCount
  few_for_array [] few = refl
  few_for_array (x ∷ xs) few = absurd (omega (arith, few))

  pub many_for_array : (xs : List Term) → 2 ≤ length xs → array_call arrays s (to_terms xs) ≡ refused s WrongCount
  many_for_array [] many = absurd (omega (arith, many))
  many_for_array (x ∷ []) many = absurd (omega (arith, many))
  many_for_array (x ∷ y ∷ xs) many = refl

  pub few_for_cut : (xs : List Term) → length xs < 2 → cut_call arrays s (to_terms xs) ≡ refused s WrongCount
  few_for_cut [] few = refl
  few_for_cut (x ∷ []) few = refl
  few_for_cut (x ∷ y ∷ xs) few = absurd (omega (arith, few))

  pub many_for_cut : (xs : List Term) → 3 ≤ length xs → cut_call arrays s (to_terms xs) ≡ refused s WrongCount
  many_for_cut [] many = absurd (omega (arith, many))
  many_for_cut (x ∷ []) many = absurd (omega (arith, many))
  many_for_cut (x ∷ y ∷ []) many = absurd (omega (arith, many))
  many_for_cut (x ∷ y ∷ z ∷ xs) many = refl

module _ (s : Span) where
  pub few_for_list : (xs : List Term) → length xs < 1 → list_call s (to_terms xs) ≡ refused s WrongCount
  few_for_list [] few = refl
  few_for_list (x ∷ xs) few = absurd (omega (arith, few))

  pub many_for_list : (xs : List Term) → 2 ≤ length xs → list_call s (to_terms xs) ≡ refused s WrongCount
  many_for_list [] many = absurd (omega (arith, many))
  many_for_list (x ∷ []) many = absurd (omega (arith, many))
  many_for_list (x ∷ y ∷ xs) many = refl
