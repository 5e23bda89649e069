-- What holds of each build, literal and stored array holds of what their rules answer.
use Rattle.std.proofs.Common.{◌≡◌, ℕ, ℤ, Bool, true, false, Option, Some, None, Ok, Err, IfOk, List, [], ◌∷◌, refl}
use Rattle.std.specs.Prelude.{not, nat_le}
use Rattle.std.specs.List.{find, list_all, AllByRecursion}
use Rattle.std.specs.Option.{option_map}
use Rattle.cell_values.specs.declared.name.Span.{Span}
use Rattle.cell_values.specs.declared.datum.Row.{Row}
use Rattle.cell_values.specs.declared.schema.Attribute.{Attribute}
use Rattle.cell_values.specs.declared.schema.Dimension.{Dimension}
use Rattle.cell_values.specs.declared.schema.Kind.{Kind}
use Rattle.cell_values.specs.declared.schema.Schema.{Schema}
use Rattle.cell_values.specs.Schemas.{IsValid}
use Rattle.schema_grammar.proofs.RulesValid.{rules_valid}
use Rattle.schema_grammar.specs.Rules.{first_broken, rules, schema_of}
use Rattle.schema_grammar.specs.declared.rules.Rule.{Rule}
use Rattle.schema_grammar.specs.declared.shape_text.SchemaText.{SchemaText}
use Rattle.schema_grammar.specs.declared.kinds.SchemaFault.{SchemaFault}
use Rattle.schema_grammar.specs.declared.kinds.SchemaFault.TheVariants as schema_fault
use Rattle.schema_grammar.specs.declared.kinds.TypeKind.TheVariants.{WrongType, WrongCount, NotBounded, TooManyCells}
use Rattle.afl_trees.specs.Term.{Term, text, truth, reference, version, Terms, no_terms, and_term}
use Rattle.afl_trees.specs.Grammar.{span_of}
use Rattle.logical_plan.specs.Query.{Query, built, listed, scanned}
use Rattle.logical_plan.specs.Typing.{is_bounded, places_in}
use Rattle.logical_plan.specs.declared.names.NameEntry.{NameEntry}
use Rattle.check_rules.specs.Checked.{Checked, then}
use Rattle.check_rules.proofs.RulesHolding.{demanded, thens, of_answer}
use Rattle.check_exprs.specs.Expressions.{fits, typed}
use Rattle.check_exprs.specs.declared.operand.Operand.{Operand}
use Rattle.check_rules.specs.LiteralRows.{literal_rows}
use Rattle.check_rules.specs.Sorts.{written_schema, is_expression, to_list}
use Rattle.check_sources.specs.Build.{meant, meant_by, with_one, built_of, built_within, built_from, listed_rows, listed_from, built_by, build_call}
use Rattle.check_sources.specs.Stored.{entry_named, newest, is_version, leaf_of, newest_of, at_version, version_of, referred, scan_call}

-- the schema that is written is valid
meant_at : (meaning : Schema) (o : Option Rule) → (option_map (λ (r : Rule). schema_fault.Rule r.span r.kind) o ≡ None → IsValid meaning)
    → IfOk (meant_by (option_map (λ (r : Rule). schema_fault.Rule r.span r.kind) o) meaning) IsValid
meant_at meaning None h = h refl
meant_at meaning (Some r) h = tt

pub meant_valid : (written : SchemaText) → IfOk (meant written) IsValid
meant_valid written = meant_at (schema_of written) (find (λ r. not r.holds) (rules written)) (rules_valid written)

module _ (P : Query → Type 0) where
  one_holds : {A : Type 0} (s : Span) (xs : List A) (next : A → Checked Query) → ((x : A) → xs ≡ x ∷ [] → IfOk (next x) P) → IfOk (with_one s xs next) P
  one_holds s [] next h = tt
  one_holds s (x ∷ []) next h = h x refl
  one_holds s (x ∷ y ∷ xs) next h = tt

  -- what holds of each build and literal of a valid schema
  module _
      (L : Term → Type 0)
      (of_build : (meaning : Schema) (attribute : Attribute) (value : Term) (x : Operand) → L value → IsValid meaning → list_all is_bounded meaning.dimensions ≡ true → meaning.attributes ≡ attribute ∷ []
      → nat_le (places_in meaning.dimensions) 16777216 ≡ true → typed [] meaning.dimensions value ≡ Ok x → fits attribute.kind x.kind ≡ true → P (built meaning x.expr))
      (of_literal : (meaning : Schema) (d : Dimension) (at : Span) (spelled : List ℕ) (rows : List Row) → L (text at spelled) → IsValid meaning → meaning.dimensions ≡ d ∷ [] → literal_rows meaning.attributes d spelled ≡ Some rows → P (listed meaning rows))
    where
      from_holds : (written : SchemaText) (s : Span) (value : Term) → L value → IfOk (built_from written s value) P
      from_holds written s value leaf =
          thens P (meant written) _ (λ meaning e.
          demanded P (list_all is_bounded meaning.dimensions) s NotBounded _ (λ bounded.
          one_holds s meaning.attributes _ (λ attribute one.
          demanded P (nat_le (places_in meaning.dimensions) 16777216) s TooManyCells _ (λ few.
          thens P (typed [] meaning.dimensions value) _ (λ x t.
          demanded P (fits attribute.kind x.kind) x.span WrongType _ (λ fit.
          of_build meaning attribute value x leaf (of_answer IsValid (meant written) meaning (meant_valid written) e) bounded one few t fit))))))

      rows_hold : (s at : Span) (meaning : Schema) (d : Dimension) (spelled : List ℕ) → L (text at spelled) → IsValid meaning → meaning.dimensions ≡ d ∷ [] → (o : Option (List Row)) → literal_rows meaning.attributes d spelled ≡ o → IfOk (listed_rows s meaning o) P
      rows_hold s at meaning d spelled leaf valid one (Some rows) e = of_literal meaning d at spelled rows leaf valid one e
      rows_hold s at meaning d spelled leaf valid one None e = tt

      listed_holds : (written : SchemaText) (s at : Span) (spelled : List ℕ) → L (text at spelled) → IfOk (listed_from written s at spelled) P
      listed_holds written s at spelled leaf =
          thens P (meant written) _ (λ meaning e.
          one_holds s meaning.dimensions _ (λ d one.
          rows_hold at at meaning d spelled leaf (of_answer IsValid (meant written) meaning (meant_valid written) e) one (literal_rows meaning.attributes d spelled) refl))

      by_holds : (written : SchemaText) (s : Span) (value flag : Term) → L value → IfOk (built_by written s value flag) P
      by_holds written s value (truth t false) leaf = from_holds written s value leaf
      by_holds written s (text at spelled) (truth t true) leaf = listed_holds written s at spelled leaf
      by_holds written s value flag leaf = tt

      pub build_holds : (s : Span) (arguments : Terms) → AllByRecursion L (to_list arguments) → IfOk (build_call s arguments) P
      build_holds s (and_term x (and_term y no_terms)) leaves =
          thens P (written_schema x) _ (λ written e. demanded P (is_expression y) (span_of y) WrongType _ (λ sort. from_holds written (span_of x) y leaves.1.0))
      build_holds s (and_term x (and_term y (and_term flag no_terms))) leaves =
          thens P (written_schema x) _ (λ written e. demanded P (is_expression y) (span_of y) WrongType _ (λ sort. by_holds written (span_of x) y flag leaves.1.0))
      build_holds s _ leaves = tt

  -- what holds of each version of a stored array
  module _ (arrays : List NameEntry) (of_entry : (name : List ℕ) (entry : NameEntry) (v : ℕ) → entry_named arrays name ≡ Some entry → P (leaf_of entry v)) where
    newest_holds : (s : Span) (name : List ℕ) (o : Option NameEntry) → entry_named arrays name ≡ o → IfOk (newest_of s o) P
    newest_holds s name (Some entry) e = of_entry name entry (newest entry.versions) e
    newest_holds s name None e = tt

    at_holds : (s : Span) (name : List ℕ) (entry : NameEntry) (o : Option ℕ) → entry_named arrays name ≡ Some entry → IfOk (at_version s entry o) P
    at_holds s name entry (Some v) e = of_entry name entry v e
    at_holds s name entry None e = tt

    version_holds : (s : Span) (name : List ℕ) (n : ℤ) (o : Option NameEntry) → entry_named arrays name ≡ o → IfOk (version_of s o n) P
    version_holds s name n (Some entry) e = at_holds s name entry (find (is_version n) entry.versions) e
    version_holds s name n None e = tt

    pub referred_holds : (t : Term) → IfOk (referred arrays t) P
    referred_holds (reference s name) = newest_holds s name (entry_named arrays name) refl
    referred_holds (version s name n) = version_holds s name n (entry_named arrays name) refl
    referred_holds t = tt

    pub scan_holds : (s : Span) (arguments : Terms) → IfOk (scan_call arrays s arguments) P
    scan_holds s (and_term x no_terms) = referred_holds x
    scan_holds s _ = tt
