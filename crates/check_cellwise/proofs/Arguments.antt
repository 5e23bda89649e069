-- Arguments that are too few or too many.
use Rattle.std.proofs.Common.{◌≡◌, ◌<◌, ◌≤◌, List, [], ◌∷◌, length, refl, arith}
use Rattle.cell_values.specs.declared.name.Span.{Span}
use Rattle.schema_grammar.specs.declared.kinds.TypeKind.TheVariants.{WrongCount}
use Rattle.afl_trees.specs.Term.{Term}
use Rattle.logical_plan.specs.Query.{Query}
use Rattle.check_rules.specs.Checked.{refused}
use Rattle.check_cellwise.specs.Filter.{filter_call}

module _ (s : Span) (source : Query) where
  pub few_for_filter : (xs : List Term) → length xs < 1 → filter_call s source xs ≡ refused s WrongCount
  few_for_filter [] few = refl
  few_for_filter (x ∷ xs) few = absurd (omega (arith, few))

  pub many_for_filter : (xs : List Term) → 2 ≤ length xs → filter_call s source xs ≡ refused s WrongCount
  many_for_filter [] many = absurd (omega (arith, many))
  many_for_filter (x ∷ []) many = absurd (omega (arith, many))
  many_for_filter (x ∷ y ∷ xs) many = refl
