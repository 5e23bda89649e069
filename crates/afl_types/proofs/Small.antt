-- The plans that checking answers have small schemas.
use Rattle.std.proofs.Common.{◌≡◌, ◌&&◌, ℕ, length, true, false, Bool, Option, Some, None, Ok, Err, Result, IfOk, List, [], ◌∷◌, cond, IfSome, subst}
use Rattle.std.specs.Prelude.{nat_le}
use Rattle.std.specs.List.{AllByRecursion, find, list_all}
use Rattle.std.specs.Str.{bytes_eq}
use Rattle.std.proofs.lemmas.Bool.{and_parts, leb-true}
use Rattle.cell_values.specs.declared.name.Span.{Span}
use Rattle.cell_values.specs.declared.schema.Schema.{Schema}
use Rattle.cell_values.specs.Schemas.{IsValid, has_attributes, has_dimensions, are_distinct, names_of, is_dimension, frame_fits}
use Rattle.schema_grammar.specs.declared.kinds.TypeKind.TheVariants.{WrongCount}
use Rattle.afl_trees.specs.Term.{Term, call, group, Terms, no_terms, and_term}
use Rattle.logical_plan.specs.PlanSchema.{schema_of}
use Rattle.logical_plan.specs.Query.{Query, applied, projected, subarray, sliced, joined, crossed, regridded, windowed, aggregated}
use Rattle.logical_plan.specs.Query.{sorted, ranked, cumulated, transposed, unpacked, xgridded, merged, concatenated}
use Rattle.logical_plan.specs.declared.names.NameEntry.{NameEntry}
use Rattle.check_rules.specs.Checked.{Answers, demand, then}
use Rattle.check_rules.specs.Operators.{operator_named}
use Rattle.check_rules.specs.declared.rules.fault.TypeFault.{TypeFault}
use Rattle.check_rules.proofs.RulesHolding.{demanded, thens, of_answer}
use Rattle.check_rules.specs.NewSchema.{of_new_schema}
use Rattle.check_rules.specs.Sorts.{to_list}
use Rattle.check_rules.proofs.OperatorsHolding.{IsWithin, new_holds}
use Rattle.check_sources.specs.Stored.{entry_named}
use Rattle.check_sources.proofs.Holding.{build_holds, referred_holds, scan_holds}
use Rattle.check_cellwise.proofs.CellsHolding.{filter_holds, apply_holds, project_holds}
use Rattle.check_cellwise.specs.Boxes.{box_of}
use Rattle.check_cellwise.proofs.BoxesHolding.{between_holds, subarray_holds, slice_holds}
use Rattle.afl_types.specs.Calls.{call_of, fits_count, fits_two, ruled, ruled_two}
use Rattle.afl_types.specs.Arrays.{AreValid}
use Rattle.afl_types.specs.Content.{content_span}
use Rattle.afl_types.specs.Inner.Limits.{IsSmall, HasSmallSchema}
use Rattle.afl_types.specs.Queries.{called, query_of}
use Rattle.afl_types.specs.declared.queries.call.Call.{Call}
use Rattle.afl_types.specs.declared.queries.call.Call.TheVariants.{Build, Scan, Over, Two}
use Rattle.afl_types.specs.declared.queries.call.OverSource.{OverSource}
use Rattle.afl_types.specs.declared.queries.call.OverSource.TheVariants.{Filter, Apply, Project, Between, Subarray, Slice, Redimension, Regrid, Window, Aggregate}
use Rattle.afl_types.specs.declared.queries.call.OverSource.TheVariants.{Sort, Rank, Cumulate, Transpose, Reverse, Unpack, Xgrid}
use Rattle.afl_types.specs.declared.queries.call.OverTwo.{OverTwo}
use Rattle.afl_types.specs.declared.queries.call.OverTwo.TheVariants.{Join, CrossJoin, Merge, Concat}
use Rattle.check_groups.specs.Cumulations.{cumulate_parts}
use Rattle.check_shapes.specs.Pairs.{concat_rules, merge_rules}
use Rattle.check_shapes.specs.Rank.{rank_parts}
use Rattle.check_shapes.specs.Reverse.{reverse_rules}
use Rattle.check_shapes.specs.Sort.{sort_parts}
use Rattle.check_shapes.specs.Tables.{all_hold}
use Rattle.check_shapes.specs.Unpack.{unpack_parts}
use Rattle.check_shapes.specs.Xgrid.{xgrid_parts}
use Rattle.check_joins.specs.Blocks.{regrid_parts}
use Rattle.check_joins.specs.Groups.{aggregate_parts}
use Rattle.check_joins.specs.Windows.{window_parts}
use Rattle.check_joins.specs.Crosses.{cross_parts}
use Rattle.check_joins.specs.JoinSchemas.{joined_schema}
use Rattle.check_sources.specs.Redimension.{redimension_parts}
use Rattle.check_sources.proofs.PartsFit.{MovedFit, redimension_fits}
use Rattle.afl_types.proofs.NoQuery.{nested_holds}

pub small_valid : (s : Schema) → IsValid s → IsSmall s
small_valid s h =
    let a = has_attributes s.attributes in
    let b = has_dimensions s.dimensions in
    let c = are_distinct (names_of s) in
    let d = list_all is_dimension s.dimensions in
    let p = and_parts (a && b && c && d) (frame_fits s.dimensions) h in
    let q = and_parts (a && b && c) d p.0 in
    let r = and_parts (a && b) c q.0 in
    let t = and_parts a b r.0 in
    let u = and_parts (nat_le 1 (length s.attributes)) (nat_le (length s.attributes) 64) t.0 in
    let v = and_parts (nat_le 1 (length s.dimensions)) (nat_le (length s.dimensions) 6) t.1 in
    record { attributes = leb-true (length s.attributes) 64 u.1; dimensions = leb-true (length s.dimensions) 6 v.1 }

small_within : (s : Schema) → IsWithin s → IsSmall s
small_within s h = record { attributes = h.attributes; dimensions = h.dimensions }

nothing_asked : (ts : List Term) → AllByRecursion (λ t. Unit {0}) ts
nothing_asked [] = tt
nothing_asked (t ∷ ts) = (tt, nothing_asked ts)

-- a stored array that is found is one of them
module _ (P : NameEntry → Type 0) where
  found_at : (b : Bool) (x : NameEntry) (o : Option NameEntry) → P x → IfSome o P → IfSome (cond b (Some x) o) P
  found_at true x o h rest = h
  found_at false x o h rest = rest

  found : (p : NameEntry → Bool) (xs : List NameEntry) → AllByRecursion P xs → IfSome (find p xs) P
  found p [] all = tt
  found p (x ∷ xs) all = found_at (p x) x (find p xs) all.0 (found p xs all.1)

module _ (arrays : List NameEntry) (valid : AreValid arrays) where
  pub entry_valid : (name : List ℕ) (entry : NameEntry) → entry_named arrays name ≡ Some entry → IsValid entry.schema
  entry_valid name entry e =
      subst (λ (o : Option NameEntry). IfSome o (λ entry. IsValid entry.schema)) e (found (λ entry. IsValid entry.schema) (λ entry. bytes_eq entry.name name) arrays valid)

  made_small : (s : Span) (query : Query) → IfOk (of_new_schema s query) HasSmallSchema
  made_small s query = new_holds HasSmallSchema s query (λ within. small_within (schema_of query) within)

  ruled_small : (s : Span) (operator : OverSource) (at : Span) (source : Query) (arguments : List Term) → HasSmallSchema source
      → IfOk (ruled s operator at source arguments) HasSmallSchema
  ruled_small s Filter at source arguments small = filter_holds HasSmallSchema s source arguments (λ e x one t fit. small)
  ruled_small s Apply at source arguments small =
      apply_holds HasSmallSchema s source arguments (λ values e within. small_within (schema_of (applied source values)) within)
  ruled_small s Project at source arguments small =
      project_holds HasSmallSchema s source arguments (λ some places e within. small_within (schema_of (projected source places)) within)
  ruled_small s Between at source arguments small = between_holds HasSmallSchema s source arguments (λ count. small)
  ruled_small s Subarray at source arguments small =
      subarray_holds HasSmallSchema s source arguments (λ count order range within. small_within (schema_of (subarray source (box_of (schema_of source).dimensions arguments))) within)
  ruled_small s Slice at source arguments small =
      slice_holds HasSmallSchema s source arguments (λ fixed e some within. small_within (schema_of (sliced source fixed)) within)
  ruled_small s Redimension at source arguments small =
      thens HasSmallSchema (redimension_parts s (schema_of source) arguments) _ (λ p e.
      small_valid p.schema (of_answer (MovedFit s (schema_of source)) (redimension_parts s (schema_of source) arguments) p (redimension_fits s (schema_of source) arguments) e).valid)
  ruled_small s Regrid at source arguments small =
      thens HasSmallSchema (regrid_parts s (schema_of source) arguments) _ (λ p e. made_small s (regridded source p.sizes p.aggregates))
  ruled_small s Window at source arguments small =
      thens HasSmallSchema (window_parts s (schema_of source) arguments) _ (λ p e. made_small s (windowed source p.reach p.aggregates))
  ruled_small s Aggregate at source arguments small =
      thens HasSmallSchema (aggregate_parts s (schema_of source) arguments) _ (λ p e. made_small s (aggregated source p.aggregates p.places))
  ruled_small s Sort at source arguments small =
      thens HasSmallSchema (sort_parts s (schema_of source) arguments) _ (λ p e. made_small s (sorted source p.keys p.schema))
  ruled_small s Rank at source arguments small =
      thens HasSmallSchema (rank_parts s (schema_of source) arguments) _ (λ p e. made_small s (ranked source p.attribute p.dimensions))
  ruled_small s Cumulate at source arguments small =
      thens HasSmallSchema (cumulate_parts s (schema_of source) arguments) _ (λ p e. made_small s (cumulated source p.aggregates p.dimension))
  ruled_small s Transpose at source arguments small = made_small s (transposed source)
  ruled_small s Reverse at source arguments small = thens HasSmallSchema (all_hold (reverse_rules at (schema_of source))) _ (λ hold e. small)
  ruled_small s Unpack at source arguments small =
      thens HasSmallSchema (unpack_parts s (schema_of source) arguments) _ (λ schema e. made_small s (unpacked source schema))
  ruled_small s Xgrid at source arguments small =
      thens HasSmallSchema (xgrid_parts s (schema_of source) arguments) _ (λ sizes e. made_small s (xgridded source sizes))

  ruled_two_small : (s : Span) (operator : OverTwo) (at : Span) (left right : Query) (arguments : List Term)
      → IfOk (ruled_two s operator at left right arguments) HasSmallSchema
  ruled_two_small s Join at left right arguments =
      thens HasSmallSchema (joined_schema s (schema_of left) (schema_of right)) _ (λ schema e. made_small s (joined left right schema))
  ruled_two_small s CrossJoin at left right arguments =
      thens HasSmallSchema (cross_parts s (schema_of left) (schema_of right) arguments) _ (λ p e. made_small s (crossed left right p.pairs p.schema))
  ruled_two_small s Merge at left right arguments =
      thens HasSmallSchema (all_hold (merge_rules s (schema_of left) (schema_of right))) _ (λ hold e. made_small s (merged left right))
  ruled_two_small s Concat at left right arguments =
      thens HasSmallSchema (all_hold (concat_rules s at (schema_of left) (schema_of right))) _ (λ hold e. made_small s (concatenated left right))

  over_small : (s : Span) (operator : OverSource) (arguments : Terms) (t : Term) → IfOk (query_of arrays t) HasSmallSchema
      → IfOk (demand (fits_count operator (length (to_list arguments))) s WrongCount (then (query_of arrays t)
      (λ plan. ruled s operator (content_span t) plan (to_list arguments)))) HasSmallSchema
  over_small s operator arguments t small =
      demanded HasSmallSchema (fits_count operator (length (to_list arguments))) s WrongCount _ (λ count.
      thens HasSmallSchema (query_of arrays t) _ (λ plan e.
      ruled_small s operator (content_span t) plan (to_list arguments) (of_answer HasSmallSchema (query_of arrays t) plan small e)))

  over_two_small : (s : Span) (operator : OverTwo) (arguments : Terms) (x y : Term)
      → IfOk (demand (fits_two operator (length (to_list arguments))) s WrongCount (then (query_of arrays x)
      (λ l. then (query_of arrays y) (λ r. ruled_two s operator (content_span x) l r (to_list arguments))))) HasSmallSchema
  over_two_small s operator arguments x y =
      demanded HasSmallSchema (fits_two operator (length (to_list arguments))) s WrongCount _ (λ count.
      thens HasSmallSchema (query_of arrays x) _ (λ l e.
      thens HasSmallSchema (query_of arrays y) _ (λ r f.
      ruled_two_small s operator (content_span x) l r (to_list arguments))))

  mutual
    small : (t : Term) → IfOk (query_of arrays t) HasSmallSchema
    small (group s a) = small a
    small (call s name arguments) = called_small s name (call_of (operator_named name)) arguments
    small t = referred_holds HasSmallSchema arrays (λ name entry v e. small_valid entry.schema (entry_valid name entry e)) t

    called_small : (s : Span) (name : List ℕ) (o : Option Call) (arguments : Terms) → IfOk (called arrays s name o arguments) HasSmallSchema
    called_small s name (Some Build) arguments =
        build_holds HasSmallSchema (λ t. Unit {0}) (λ meaning attribute value x leaf valid b one few t fit. small_valid meaning valid) (λ meaning d at spelled rows leaf valid one e. small_valid meaning valid) s arguments (nothing_asked (to_list arguments))
    called_small s name (Some Scan) arguments = scan_holds HasSmallSchema arrays (λ name entry v e. small_valid entry.schema (entry_valid name entry e)) s arguments
    called_small s name (Some (Over operator)) (and_term source arguments) = over_small s operator arguments source (small source)
    called_small s name (Some (Over operator)) no_terms = tt
    called_small s name (Some (Two operator)) (and_term x (and_term y arguments)) = over_two_small s operator arguments x y
    called_small s name (Some (Two operator)) (and_term x no_terms) = tt
    called_small s name (Some (Two operator)) no_terms = tt
    called_small s name None arguments = nested_holds HasSmallSchema s name (operator_named name)

  pub query_small : (t : Term) (query : Query) → query_of arrays t ≡ Ok query → IsSmall (schema_of query)
  query_small t query e = of_answer HasSmallSchema (query_of arrays t) query (small t) e

-- what the rules of operators on checked sources ask

pub answer_small : (arrays : List NameEntry) (t : Term) (r : Result Query TypeFault) → AreValid arrays → Answers r (query_of arrays t) → IfOk r HasSmallSchema
answer_small arrays t (Ok query) valid e = query_small arrays valid t query e
answer_small arrays t (Err fault) valid e = tt

pub small_ok : (r : Result Query TypeFault) (query : Query) → r ≡ Ok query → IfOk r HasSmallSchema → IsSmall (schema_of query)
small_ok r query e small = subst (λ (x : Result Query TypeFault). IfOk x HasSmallSchema) e small
