-- What names choose: places that there are, each once.
use Rattle.std.proofs.Common.{◌≡◌, ℕ, ◌<◌, ◌==◌, Bool, true, false, not, ◌&&◌, Option, Some, None, IfOk, IfSome, List, [], ◌∷◌, ◌++◌, length, refl, ap, ◌∙◌}
use Rattle.std.specs.Prelude.{nat_lt, position}
use Rattle.std.specs.List.{AllByRecursion, list_any}
use Rattle.std.specs.Str.{bytes_eq}
use Rattle.std.proofs.lemmas.Bool.{and_from, not-true, lt-ltb}
use Rattle.std.proofs.lemmas.List.Folds.{list_all-append}
use Rattle.cell_values.specs.declared.name.Span.{Span}
use Rattle.cell_values.specs.declared.schema.Attribute.{Attribute}
use Rattle.cell_values.specs.declared.schema.Dimension.{Dimension}
use Rattle.schema_grammar.specs.declared.kinds.TypeKind.TheVariants.{RepeatedName}
use Rattle.afl_trees.specs.Term.{Term, reference}
use Rattle.logical_plan.specs.Typing.{are_apart, are_below}
use Rattle.check_rules.proofs.RulesHolding.{demanded}
use Rattle.check_rules.proofs.Turns.{turns_keep}
use Rattle.check_rules.specs.InTurn.{in_turn, new_place}
use Rattle.check_exprs.specs.Expressions.{attribute_place, dimension_place}
use Rattle.check_cellwise.specs.Project.{projected_one}
use Rattle.check_groups.specs.Names.{dimension_one}
use Rattle.check_joins.proofs.SchemasFit.{apart_more, position_below}

nothing_asked : (ts : List Term) → AllByRecursion (λ t. Unit {0}) ts
nothing_asked [] = tt
nothing_asked (t ∷ ts) = (tt, nothing_asked ts)

position_within : {A : Type 0} (p : A → Bool) (xs : List A) → IfSome (position p xs) (λ i. i < length xs)
position_within p xs = by_place (position p xs) refl
  where
    by_place : (o : Option ℕ) → position p xs ≡ o → IfSome o (λ i. i < length xs)
    by_place None e = tt
    by_place (Some i) e = position_below p xs i e

module _ (n : ℕ) where
  pub record AreOnce (places : List ℕ) : Type 0 where
    pub below : are_below n places ≡ true
    pub apart : are_apart places ≡ true

  none_once : AreOnce []
  none_once = record { below = refl; apart = refl }

  once_more : (places : List ℕ) (place : ℕ) → place < n → list_any (λ other. other == place) places ≡ false → AreOnce places → AreOnce (places ++ place ∷ [])
  once_more places place lt none once = record {
    below = list_all-append (λ p. nat_lt p n) places (place ∷ []) ∙ and_from (are_below n places) (nat_lt place n && true) once.below (ap (λ b. b && true) (lt-ltb place n lt));
    apart = apart_more places place once.apart none;
  }

  new_once : (s : Span) (places : List ℕ) (o : Option ℕ) → IfSome o (λ p. p < n) → AreOnce places → IfOk (new_place s places o) (λ p. AreOnce (places ++ p ∷ []))
  new_once s places None lt once = tt
  new_once s places (Some place) lt once =
      demanded (λ p. AreOnce (places ++ p ∷ [])) (not (list_any (λ other. other == place) places)) s RepeatedName _ (λ fresh.
      once_more places place lt (not-true (list_any (λ other. other == place) places) fresh) once)

module _ (attributes : List Attribute) where
  attribute_once : (places : List ℕ) (t : Term) → AreOnce (length attributes) places → IfOk (projected_one attributes places t) (λ p. AreOnce (length attributes) (places ++ p ∷ []))
  attribute_once places (reference s name) once =
      new_once (length attributes) s places (attribute_place attributes name) (position_within (λ (a : Attribute). bytes_eq a.name name) attributes) once
  attribute_once places t once = tt

  pub attributes_once : (names : List Term) → IfOk (in_turn (projected_one attributes) [] names) (AreOnce (length attributes))
  attributes_once names =
      turns_keep (λ t. Unit {0}) (AreOnce (length attributes)) (projected_one attributes) (λ done t asked once. attribute_once done t once) [] names (nothing_asked names)
      (none_once (length attributes))

module _ (dims : List Dimension) where
  dimension_once : (places : List ℕ) (t : Term) → AreOnce (length dims) places → IfOk (dimension_one dims places t) (λ p. AreOnce (length dims) (places ++ p ∷ []))
  dimension_once places (reference s name) once =
      new_once (length dims) s places (dimension_place dims name) (position_within (λ (d : Dimension). bytes_eq d.name name) dims) once
  dimension_once places t once = tt

  pub dimensions_once : (names : List Term) → IfOk (in_turn (dimension_one dims) [] names) (AreOnce (length dims))
  dimensions_once names =
      turns_keep (λ t. Unit {0}) (AreOnce (length dims)) (dimension_one dims) (λ done t asked once. dimension_once done t once) [] names (nothing_asked names)
      (none_once (length dims))
