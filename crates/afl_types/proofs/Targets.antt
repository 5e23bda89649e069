-- Arguments of `store` and `insert` that are too few or too many.
use Rattle.std.proofs.Common.{◌≡◌, ◌<◌, ◌≤◌, List, [], ◌∷◌, length, refl, arith}
use Rattle.cell_values.specs.declared.name.Span.{Span}
use Rattle.schema_grammar.specs.declared.kinds.TypeKind.TheVariants.{WrongCount}
use Rattle.afl_trees.specs.Term.{Term, to_terms}
use Rattle.logical_plan.specs.declared.names.NameEntry.{NameEntry}
use Rattle.check_rules.specs.Checked.{refused}
use Rattle.afl_types.specs.Statements.{insert_of, store_of}

module _ (arrays : List NameEntry) (s : Span) where
  pub few_for_store : (xs : List Term) → length xs < 2 → store_of arrays s (to_terms xs) ≡ refused s WrongCount
  few_for_store [] few = refl
  few_for_store (x ∷ []) few = refl
  few_for_store (x ∷ y ∷ xs) few = absurd (omega (arith, few))

  pub many_for_store : (xs : List Term) → 3 ≤ length xs → store_of arrays s (to_terms xs) ≡ refused s WrongCount
  many_for_store [] many = absurd (omega (arith, many))
  many_for_store (x ∷ []) many = absurd (omega (arith, many))
  many_for_store (x ∷ y ∷ []) many = absurd (omega (arith, many))
  many_for_store (x ∷ y ∷ z ∷ xs) many = refl

  pub few_for_insert : (xs : List Term) → length xs < 2 → insert_of arrays s (to_terms xs) ≡ refused s WrongCount
  few_for_insert [] few = refl
  few_for_insert (x ∷ []) few = refl
  few_for_insert (x ∷ y ∷ xs) few = absurd (omega (arith, few))

  pub many_for_insert : (xs : List Term) → 3 ≤ length xs → insert_of arrays s (to_terms xs) ≡ refused s WrongCount
  many_for_insert [] many = absurd (omega (arith, many))
  many_for_insert (x ∷ []) many = absurd (omega (arith, many))
  many_for_insert (x ∷ y ∷ []) many = absurd (omega (arith, many))
  many_for_insert (x ∷ y ∷ z ∷ xs) many = refl
