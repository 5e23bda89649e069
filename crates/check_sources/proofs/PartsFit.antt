-- What holds of the parts that checking answers: they redimension the source, and the schema of the result is valid.
use Rattle.std.proofs.Common.{◌≡◌, ℕ, ◌+◌, ◌==◌, Bool, true, false, ◌&&◌, Option, Some, None, IfOk, List, [], ◌∷◌, length, refl, arith}
use Rattle.std.specs.Prelude.{if◌then◌else◌, nat_le}
use Rattle.std.specs.List.{list_all}
use Rattle.std.specs.Option.{option_or}
use Rattle.std.proofs.lemmas.Bool.{and_from}
use Rattle.cell_values.specs.declared.name.Span.{Span}
use Rattle.cell_values.specs.declared.schema.Attribute.{Attribute}
use Rattle.cell_values.specs.declared.schema.Kind.{Kind}
use Rattle.cell_values.specs.declared.schema.Schema.{Schema}
use Rattle.cell_values.specs.Schemas.{IsValid, attribute_names, dimension_names, are_distinct, is_among}
use Rattle.schema_grammar.specs.declared.kinds.TypeKind.{TypeKind}
use Rattle.schema_grammar.specs.declared.kinds.TypeKind.TheVariants.{UnknownName, WrongType}
use Rattle.afl_trees.specs.Term.{Term}
use Rattle.afl_trees.specs.Grammar.{span_of}
use Rattle.logical_plan.specs.Groups.{first_some}
use Rattle.logical_plan.specs.Redimension.{Origin, counted, from_attribute, from_dimension, named, value_origin}
use Rattle.logical_plan.specs.Typing.{aggregate_names, are_aggregates_of, is_kind_of, is_origin, redimensions, synthetic_count}
use Rattle.logical_plan.specs.declared.parts.Aggregate.{Aggregate}
use Rattle.check_rules.specs.Checked.{Checked}
use Rattle.check_rules.proofs.RulesHolding.{demanded, thens, of_answer}
use Rattle.check_rules.specs.Sorts.{first_but, unless_other, written_schema}
use Rattle.check_rules.proofs.Names.{distinct_front}
use Rattle.check_rules.proofs.Turns.{turns_count}
use Rattle.check_rules.proofs.ValidSchemas.{valid_parts}
use Rattle.check_groups.specs.AggregateSort.{is_aggregate}
use Rattle.check_groups.specs.Aggregates.{aggregate_one, aggregates_of}
use Rattle.check_groups.proofs.Kept.{Kept, aggregates_kept}
use Rattle.check_sources.specs.Build.{meant}
use Rattle.check_sources.proofs.Holding.{meant_valid}
use Rattle.check_sources.specs.Redimension.{redimension_parts, unless_broken, with_target}
use Rattle.check_sources.specs.Targets.{attributes_fault, carried_fault, gathered_fault, may_count, origin_fault, unnamed_fault, value_fault}
use Rattle.check_sources.specs.declared.redimension.redimension.Redimensioned.{Redimensioned}

unless_ok : {A : Type 0} (P : A → Type 0) (o : Option Span) (next : Checked A) → IfOk next P → IfOk (unless_other o next) P
unless_ok P None next h = h
unless_ok P (Some s) next h = tt

unbroken : {A : Type 0} (P : A → Type 0) (s : Span) (o : Option TypeKind) (next : Checked A) → (o ≡ None → IfOk next P) → IfOk (unless_broken s o next) P
unbroken P s None next h = h refl
unbroken P s (Some kind) next h = tt

-- no fault of either
neither : (a b : Option TypeKind) → option_or a b ≡ None → (a ≡ None) × (b ≡ None)
neither None b e = (refl, e)
neither (Some kind) b e = cc

no_fault : (b : Bool) (kind : TypeKind) → (if b then None else Some kind) ≡ None → b ≡ true
no_fault true kind e = refl
no_fault false kind e = cc

module _ (s : Span) (source target : Schema) where
  of_origin : (kind : Kind) (o : Origin) → origin_fault source.attributes kind o ≡ None → is_origin source.attributes kind o ≡ true
  of_origin kind (counted lo) e = cc
  of_origin kind (from_attribute place) e = no_fault (is_origin source.attributes kind (from_attribute place)) WrongType e
  of_origin kind (from_dimension place) e = no_fault (is_origin source.attributes kind (from_dimension place)) WrongType e

  all_carried : (attributes : List Attribute) → first_some (carried_fault source) attributes ≡ None → list_all (λ (a : Attribute). is_origin source.attributes a.kind (value_origin source a)) attributes ≡ true
  all_carried [] e = refl
  all_carried (a ∷ attributes) e =
      let both = neither (carried_fault source a) (first_some (carried_fault source) attributes) e in
      and_from (is_origin source.attributes a.kind (value_origin source a)) (list_all (λ (b : Attribute). is_origin source.attributes b.kind (value_origin source b)) attributes)
      (of_origin a.kind (value_origin source a) both.0) (all_carried attributes both.1)

  of_value : (kind : Kind) (o : Option Aggregate) → value_fault source.attributes kind o ≡ None → is_kind_of source.attributes kind o ≡ true
  of_value kind None e = cc
  of_value kind (Some g) e = no_fault (is_kind_of source.attributes kind (Some g)) WrongType e

  all_gathered : (gs : List Aggregate) (attributes : List Attribute) → first_some (gathered_fault source.attributes gs) attributes ≡ None
      → list_all (λ (a : Attribute). is_kind_of source.attributes a.kind (named gs a.name)) attributes ≡ true
  all_gathered gs [] e = refl
  all_gathered gs (a ∷ attributes) e =
      let both = neither (gathered_fault source.attributes gs a) (first_some (gathered_fault source.attributes gs) attributes) e in
      and_from (is_kind_of source.attributes a.kind (named gs a.name)) (list_all (λ (b : Attribute). is_kind_of source.attributes b.kind (named gs b.name)) attributes)
      (of_value a.kind (named gs a.name) both.0) (all_gathered gs attributes both.1)

  abbrev names : List (List ℕ)
  names = dimension_names target.dimensions

  fits : (arguments : List Term) (gs : List Aggregate) → may_count (synthetic_count source target) arguments ≡ true → length gs ≡ 0 + length arguments → Kept s source.attributes names gs
      → attributes_fault source target gs ≡ None → redimensions source target gs ≡ true
  fits [] [] counts same kept none =
      and_from (nat_le (synthetic_count source target) 1) (list_all (λ (a : Attribute). is_origin source.attributes a.kind (value_origin source a)) target.attributes)
      counts (all_carried target.attributes none)
  fits [] (g ∷ gs) counts same kept none = absurd (omega (arith, same))
  fits (t ∷ ts) [] counts same kept none = absurd (omega (arith, same))
  fits (t ∷ ts) (g ∷ gs) counts same kept none =
      let all : List Aggregate = g ∷ gs in
      let both = neither (first_some (gathered_fault source.attributes all) target.attributes) (unnamed_fault target.attributes all) none in
      let count : Bool = synthetic_count source target == 0 in
      let fit : Bool = are_aggregates_of source.attributes all in
      let distinct : Bool = are_distinct (aggregate_names all) in
      let kinds : Bool = list_all (λ (a : Attribute). is_kind_of source.attributes a.kind (named all a.name)) target.attributes in
      let each : Bool = list_all (λ name. is_among name (attribute_names target.attributes)) (aggregate_names all) in
      and_from (count && fit && distinct && kinds) each
      (and_from (count && fit && distinct) kinds
      (and_from (count && fit) distinct (and_from count fit counts kept.fit) (distinct_front (aggregate_names all) names kept.distinct).0)
      (all_gathered all target.attributes both.0))
      (no_fault each UnknownName both.1)

module _ (s : Span) (source : Schema) where
  pub record MovedFit (p : Redimensioned) : Type 0 where
    pub fit : redimensions source p.schema p.aggregates ≡ true
    pub valid : IsValid p.schema

  into_target : (at : Span) (arguments : List Term) (target : Schema) → IsValid target → IfOk (with_target s at source arguments target) MovedFit
  into_target at arguments target valid =
      let names = dimension_names target.dimensions in
      let apart = (distinct_front (attribute_names target.attributes) names (valid_parts target valid).distinct).1 in
      let step = aggregate_one s source.attributes names in
      demanded MovedFit (may_count (synthetic_count source target) arguments) at UnknownName _ (λ counts.
      thens MovedFit (aggregates_of s source.attributes names arguments) _ (λ gs e.
      let kept = of_answer (Kept s source.attributes names) (aggregates_of s source.attributes names arguments) gs (aggregates_kept s source.attributes names arguments apart) e in
      unbroken MovedFit at (attributes_fault source target gs) _ (λ none.
      record { fit = fits s source target arguments gs counts (turns_count step [] arguments gs e) kept none; valid = valid })))

  -- over any source
  pub redimension_fits : (arguments : List Term) → IfOk (redimension_parts s source arguments) MovedFit
  redimension_fits [] = tt
  redimension_fits (shape ∷ arguments) =
      thens MovedFit (written_schema shape) _ (λ written w.
      unless_ok MovedFit (first_but is_aggregate arguments) _
      (thens MovedFit (meant written) _ (λ target e.
      into_target (span_of shape) arguments target (of_answer IsValid (meant written) target (meant_valid written) e))))
