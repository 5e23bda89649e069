-- What checking keeps of aggregates: each fits its attribute, and their names differ among themselves and from those of the dimensions.
use Rattle.std.proofs.Common.{◌≡◌, ℕ, Bool, true, false, not, ◌&&◌, ◌||◌, List, [], ◌∷◌, ◌++◌, Option, Some, None, IfOk, refl, sym, ap, subst, ◌∙◌, append_assoc}
use Rattle.std.specs.Prelude.{slice_get, if◌then◌else◌, codes}
use Rattle.std.specs.List.{AllByRecursion}
use Rattle.std.specs.Str.{bytes_eq}
use Rattle.std.proofs.lemmas.Bool.{and_from, or_parts, not-true}
use Rattle.std.proofs.lemmas.List.{map-append}
use Rattle.std.proofs.lemmas.List.Folds.{list_all-append}
use Rattle.cell_values.specs.declared.name.Span.{Span}
use Rattle.cell_values.specs.declared.schema.Attribute.{Attribute}
use Rattle.cell_values.specs.Schemas.{attribute_names, is_among, are_distinct}
use Rattle.schema_grammar.specs.declared.kinds.TypeKind.TheVariants.{RepeatedName, WrongType}
use Rattle.afl_trees.specs.Term.{Term, call, reference, star}
use Rattle.afl_trees.specs.Grammar.{span_of}
use Rattle.logical_plan.specs.PlanSchema.{aggregate_attributes}
use Rattle.logical_plan.specs.Typing.{aggregate_names, are_aggregates_of, is_aggregate_of, takes}
use Rattle.logical_plan.specs.declared.parts.AggFunction.{AggFunction}
use Rattle.logical_plan.specs.declared.parts.AggFunction.TheVariants.{CountAll}
use Rattle.logical_plan.specs.declared.parts.Aggregate.{Aggregate}
use Rattle.check_rules.proofs.RulesHolding.{demanded, thens, of_answer}
use Rattle.check_exprs.specs.Expressions.{attribute_place}
use Rattle.check_rules.proofs.Names.{distinct_between}
use Rattle.check_rules.proofs.Turns.{turns_keep}
use Rattle.check_groups.specs.AggregateSort.{cells_function, function_in, function_of, function_over, operand_in, sole, unnamed}
use Rattle.check_groups.specs.Aggregates.{aggregate_one, aggregates_of, attribute_for, attribute_in, by_parts, name_for}

-- the attributes of a result have the names of its aggregates
pub derived_names : (attributes : List Attribute) (gs : List Aggregate) → attribute_names (aggregate_attributes attributes gs) ≡ aggregate_names gs
derived_names attributes [] = refl
derived_names attributes (g ∷ gs) = ap (λ (ns : List (List ℕ)). g.name ∷ ns) (derived_names attributes gs)

nothing_asked : (ts : List Term) → AllByRecursion (λ t. Unit {0}) ts
nothing_asked [] = tt
nothing_asked (t ∷ ts) = (tt, nothing_asked ts)

-- the function of all cells is the one of `*`
of_cells : (word : List ℕ) (function : AggFunction) → cells_function word ≡ Some function → function ≡ CountAll
unfolding cells_function
of_cells word function e = by_test (bytes_eq word (codes "count")) e
  where
    by_test : (b : Bool) → (if b then Some CountAll else None) ≡ Some function → function ≡ CountAll
    by_test true f = cc
    by_test false f = cc

-- the word of a call
named_by : (c : Term) (function : AggFunction) (operand : Term) → function_in c ≡ Some function → operand_in c ≡ Some operand → (word : List ℕ) × (function_over word operand ≡ Some function)
named_by (call s word arguments) function operand e f = (word, of_sole (sole arguments) f e)
  where
    of_sole : (o : Option Term) → o ≡ Some operand → function_of word o ≡ Some function → function_over word operand ≡ Some function
    of_sole (Some x) g h =
        let same : x ≡ operand = cc in
        subst (λ (y : Term). function_over word y ≡ Some function) same h
    of_sole None g h = cc
named_by _ function operand e f = cc

module _ (s : Span) (attributes : List Attribute) (names : List (List ℕ)) where
  -- the function takes the attribute at a place
  abbrev Takes : AggFunction → ℕ → Type 0
  Takes function place = takes function (slice_get attributes place) ≡ true

  at_place : (function : AggFunction) (at : Span) (o : Option ℕ) → IfOk (attribute_for attributes function at o) (Takes function)
  at_place function at (Some place) = demanded (Takes function) (takes function (slice_get attributes place)) at WrongType _ (λ fits. fits)
  at_place function at None = tt

  of_operand : (word : List ℕ) (operand : Term) (function : AggFunction) → function_over word operand ≡ Some function → IfOk (attribute_in attributes function operand) (Takes function)
  of_operand word (reference at name) function e = at_place function at (attribute_place attributes name)
  of_operand word (star at) function e = subst (λ (f : AggFunction). Takes f 0) (sym (of_cells word function e)) refl
  of_operand word _ function e = cc

  pub record Kept (gs : List Aggregate) : Type 0 where
    pub fit : are_aggregates_of attributes gs ≡ true
    pub distinct : are_distinct (aggregate_names gs ++ names) ≡ true

  with_one : (done : List Aggregate) (function : AggFunction) (place : ℕ) (name : List ℕ) → Takes function place → not (is_among name names || is_among name (aggregate_names done)) ≡ true → Kept done
      → Kept (done ++ record { function = function; attribute = place; name = name } ∷ [])
  with_one done function place name fits new kept =
      let g : Aggregate = record { function = function; attribute = place; name = name } in
      let apart = or_parts (is_among name names) (is_among name (aggregate_names done)) (not-true (is_among name names || is_among name (aggregate_names done)) new) in
      let more : aggregate_names (done ++ g ∷ []) ≡ aggregate_names done ++ name ∷ [] = map-append (λ (x : Aggregate). x.name) done (g ∷ []) in
      record {
        fit = list_all-append (is_aggregate_of attributes) done (g ∷ []) ∙ and_from (are_aggregates_of attributes done) (is_aggregate_of attributes g && true) kept.fit (ap (λ b. b && true) fits);
        distinct = ap (λ (ns : List (List ℕ)). are_distinct (ns ++ names)) more ∙ ap are_distinct (append_assoc (aggregate_names done) (name ∷ []) names)
            ∙ distinct_between (aggregate_names done) names name kept.distinct apart.1 apart.0;
      }

  by_parts_kept : (done : List Aggregate) (t : Term) (f : Option AggFunction) (o : Option Term) → function_in (unnamed t) ≡ f → operand_in (unnamed t) ≡ o → Kept done
      → IfOk (by_parts s attributes names done t f o) (λ g. Kept (done ++ g ∷ []))
  by_parts_kept done t (Some function) (Some operand) e f kept =
      let Next : Aggregate → Type 0 = λ g. Kept (done ++ g ∷ []) in
      let word = named_by (unnamed t) function operand e f in
      thens Next (attribute_in attributes function operand) _ (λ place p.
      let fits : Takes function place = of_answer (Takes function) (attribute_in attributes function operand) place (of_operand word.0 operand function word.1) p in
      thens Next (name_for s t function operand) _ (λ name n.
      demanded Next (not (is_among name names || is_among name (aggregate_names done))) (span_of t) RepeatedName _ (λ new.
      with_one done function place name fits new kept)))
  by_parts_kept done t (Some function) None e f kept = tt
  by_parts_kept done t None o e f kept = tt

  pub aggregates_kept : (arguments : List Term) → are_distinct names ≡ true → IfOk (aggregates_of s attributes names arguments) Kept
  aggregates_kept arguments apart =
      turns_keep (λ t. Unit {0}) Kept (aggregate_one s attributes names)
      (λ done t asked kept. by_parts_kept done t (function_in (unnamed t)) (operand_in (unnamed t)) refl refl kept) [] arguments (nothing_asked arguments) (record { fit = refl; distinct = apart })
