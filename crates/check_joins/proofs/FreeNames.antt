-- Names that are given one after the other.
use Rattle.std.proofs.Common.{◌≡◌, ◌^◌, ◌≤◌, ◌<◌, ◌+◌, ℕ, Bool, true, false, ◌||◌, ◌==◌, IfOk, Ok, List, [], ◌∷◌, ◌++◌, length, refl, sym, ap, subst, ◌∙◌, append_assoc, arith}
use Rattle.std.specs.Prelude.{codes, nat_le}
use Rattle.std.specs.Fmt.{decimal}
use Rattle.std.specs.List.{list_all}
use Rattle.std.specs.Char.{digit_value}
use Rattle.std.specs.Str.Parse.{AllDigits}
use Rattle.std.proofs.lemmas.Bool.{and_from, le-leb}
use Rattle.std.proofs.lemmas.Fmt.{decimal_is_IsNumeral}
use Rattle.std.proofs.lemmas.Str.Parse.{digit_from_value}
use Rattle.std.proofs.lemmas.List.{append-nil, length-append, length-map}
use Rattle.cell_values.specs.Naming.{is_word_byte, is_digit, is_letter}
use Rattle.cell_values.specs.Schemas.{attribute_names, dimension_names}
use Rattle.cell_values.specs.declared.name.Span.{Span}
use Rattle.cell_values.specs.declared.schema.Attribute.{Attribute}
use Rattle.cell_values.specs.declared.schema.Dimension.{Dimension}
use Rattle.schema_grammar.specs.declared.kinds.TypeKind.TheVariants.{NameTooLong}
use Rattle.logical_plan.specs.PlanSchema.{free_name, free_names, side_by_side, with_free_names}
use Rattle.check_rules.proofs.RulesHolding.{demanded, thens, of_answer}
use Rattle.check_rules.specs.Checked.{Checked}
use Rattle.check_rules.specs.InTurn.{in_turn}
use Rattle.check_rules.proofs.Turns.{turns_count}
use Rattle.check_groups.specs.Names.{is_ending}
use Rattle.check_joins.specs.JoinSchemas.{next_name, beside}

-- a number behind a name

middle : (a b c : Bool) → b ≡ true → (a || b || c) ≡ true
middle true b c e = refl
middle false b c e = ap (λ x. x || c) e

digit_word : (d : ℕ) → digit_value d < 10 → is_word_byte d ≡ true
digit_word d h =
    let range = digit_from_value d h in
    middle (is_letter d) (is_digit d) (d == 95) (and_from (nat_le 48 d) (nat_le d 57) (le-leb 48 d (omega (arith, range))) (le-leb d 57 (omega (arith, range))))

digit_words : (ds : List ℕ) → AllDigits 10 ds → list_all is_word_byte ds ≡ true
digit_words [] all = refl
digit_words (d ∷ ds) all = and_from (is_word_byte d) (list_all is_word_byte ds) (digit_word d all.0) (digit_words ds all.1)

pub suffix_ends : (k : ℕ) → k < 2 ^ 64 → is_ending (codes "_" ++ decimal k) ≡ true
suffix_ends k h = digit_words (decimal k) (decimal_is_IsNumeral k h).0.1

-- names in turn

held_so : {A : Type 0} (r : Checked A) (P Q : A → Type 0) → ((a : A) → P a → Q a) → IfOk r P → IfOk r Q
held_so (Ok a) P Q f h = f a h
held_so r P Q f h = tt

module _ (s : Span) where
  is_free : (given : List (List ℕ)) (name : List ℕ) → IfOk (next_name s given name) (λ y. y ≡ free_name given name)
  is_free given name = demanded (λ (y : List ℕ). y ≡ free_name given name) (nat_le (length (free_name given name)) 64) s NameTooLong _ (λ short. refl)

  are_free : (given names : List (List ℕ)) → IfOk (in_turn (next_name s) given names) (λ out. out ≡ given ++ free_names given names)
  are_free given [] = sym (append-nil given)
  are_free given (name ∷ names) =
      let free = free_name given name in
      let Made : List (List ℕ) → Type 0 = λ out. out ≡ given ++ free_names given (name ∷ names) in
      thens Made (next_name s given name) _ (λ y e.
      let same : y ≡ free = of_answer (λ (z : List ℕ). z ≡ free) (next_name s given name) y (is_free given name) e in
      subst (λ (z : List ℕ). IfOk (in_turn (next_name s) (given ++ z ∷ []) names) Made) (sym same)
      (held_so (in_turn (next_name s) (given ++ free ∷ []) names) (λ out. out ≡ (given ++ free ∷ []) ++ free_names (given ++ free ∷ []) names) Made
      (λ out o. o ∙ append_assoc given (free ∷ []) (free_names (given ++ free ∷ []) names)) (are_free (given ++ free ∷ []) names)))

  pub are_free_names : (names out : List (List ℕ)) → in_turn (next_name s) [] names ≡ Ok out → out ≡ free_names [] names
  are_free_names names out e = of_answer (λ (o : List (List ℕ)). o ≡ free_names [] names) (in_turn (next_name s) [] names) out (are_free [] names) e

  -- there is a name for each dimension
  pub enough_names : (dims : List Dimension) (attributes : List Attribute) (out : List (List ℕ)) → in_turn (next_name s) [] (dimension_names dims ++ attribute_names attributes) ≡ Ok out → length dims ≤ length out
  enough_names dims attributes out e =
      let count : length out ≡ 0 + length (dimension_names dims ++ attribute_names attributes) = turns_count (next_name s) [] (dimension_names dims ++ attribute_names attributes) out e in
      omega (arith, count, length-append (dimension_names dims) (attribute_names attributes), length-map dims (λ (d : Dimension). d.name))

  pub are_side_by_side : (dims : List Dimension) (attributes : List Attribute) → IfOk (beside s dims attributes) (λ schema. schema ≡ side_by_side dims attributes)
  are_side_by_side dims attributes =
      thens (λ schema. schema ≡ side_by_side dims attributes) (in_turn (next_name s) [] (dimension_names dims ++ attribute_names attributes)) _ (λ names e.
      ap (with_free_names dims attributes) (are_free_names (dimension_names dims ++ attribute_names attributes) names e))
