-- Arguments that are too few or too many.
use Rattle.std.proofs.Common.{◌≡◌, ◌<◌, ◌≤◌, List, [], ◌∷◌, length, refl, arith}
use Rattle.cell_values.specs.declared.name.Span.{Span}
use Rattle.schema_grammar.specs.declared.kinds.TypeKind.TheVariants.{WrongCount}
use Rattle.logical_plan.specs.declared.names.NameEntry.{NameEntry}
use Rattle.afl_trees.specs.Term.{Term, to_terms}
use Rattle.check_rules.specs.Checked.{refused}
use Rattle.check_sources.specs.Build.{build_call}
use Rattle.check_sources.specs.Stored.{scan_call}

module _ (s : Span) where
  pub few_for_build : (xs : List Term) → length xs < 2 → build_call s (to_terms xs) ≡ refused s WrongCount
  few_for_build [] few = refl
  few_for_build (x ∷ []) few = refl
  few_for_build (x ∷ y ∷ xs) few = absurd (omega (arith, few))

  pub many_for_build : (xs : List Term) → 4 ≤ length xs → build_call s (to_terms xs) ≡ refused s WrongCount
  many_for_build [] many = absurd (omega (arith, many))
  many_for_build (x ∷ []) many = absurd (omega (arith, many))
  many_for_build (x ∷ y ∷ []) many = absurd (omega (arith, many))
  many_for_build (x ∷ y ∷ z ∷ []) many = absurd (omega (arith, many))
  many_for_build (x ∷ y ∷ z ∷ w ∷ xs) many = refl

module _ (arrays : List NameEntry) (s : Span) where
  pub few_for_scan : (xs : List Term) → length xs < 1 → scan_call arrays s (to_terms xs) ≡ refused s WrongCount
  few_for_scan [] few = refl
  few_for_scan (x ∷ xs) few = absurd (omega (arith, few))

  pub many_for_scan : (xs : List Term) → 2 ≤ length xs → scan_call arrays s (to_terms xs) ≡ refused s WrongCount
  many_for_scan [] many = absurd (omega (arith, many))
  many_for_scan (x ∷ []) many = absurd (omega (arith, many))
  many_for_scan (x ∷ y ∷ xs) many = refl
