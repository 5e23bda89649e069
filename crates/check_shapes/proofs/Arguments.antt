-- Arguments that are too few or too many.
use Rattle.std.proofs.Common.{◌≡◌, ◌<◌, ◌≤◌, List, [], ◌∷◌, length, refl, arith}
use Rattle.cell_values.specs.declared.name.Span.{Span}
use Rattle.cell_values.specs.declared.schema.Schema.{Schema}
use Rattle.schema_grammar.specs.declared.kinds.TypeKind.TheVariants.{WrongCount}
use Rattle.afl_trees.specs.Term.{Term}
use Rattle.check_rules.specs.Checked.{refused}
use Rattle.check_shapes.specs.Unpack.{unpack_parts}

module _ (s : Span) (source : Schema) where
  pub few_for_unpack : (xs : List Term) → length xs < 1 → unpack_parts s source xs ≡ refused s WrongCount
  few_for_unpack [] few = refl
  few_for_unpack (x ∷ xs) few = absurd (omega (arith, few))

  pub many_for_unpack : (xs : List Term) → 2 ≤ length xs → unpack_parts s source xs ≡ refused s WrongCount
  many_for_unpack [] many = absurd (omega (arith, many))
  many_for_unpack (x ∷ []) many = absurd (omega (arith, many))
  many_for_unpack (x ∷ y ∷ xs) many = refl
