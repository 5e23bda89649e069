-- A tree that is a change says the names of the change.
use Rattle.std.proofs.Common.{◌≡◌, ◌∙◌, ℕ, ℤ, Option, Some, None, Ok, IfOk, List, [], ◌∷◌, ◌++◌, map, length, refl, sym, ap, subst}
use Rattle.std.specs.List.{AllByRecursion, find}
use Rattle.std.proofs.lemmas.List.{map-append}
use Rattle.cell_values.specs.declared.name.Span.{Span}
use Rattle.cell_values.specs.declared.schema.Schema.{Schema}
use Rattle.schema_grammar.specs.declared.kinds.TypeKind.TheVariants.{WrongCount, ArrayExists, TooManyArrays}
use Rattle.schema_grammar.specs.declared.shape_text.SchemaText.{SchemaText}
use Rattle.afl_lexer.proofs.Words.{same_bytes}
use Rattle.afl_trees.specs.Grammar.{span_of}
use Rattle.afl_trees.specs.Term.{Term, create, reference, version, call, group, Terms, no_terms, and_term}
use Rattle.logical_plan.specs.Leaves.{leaves}
use Rattle.logical_plan.specs.PlanSchema.{schema_of}
use Rattle.logical_plan.specs.Query.{Query, joined, crossed, regridded, windowed, aggregated}
use Rattle.logical_plan.specs.Query.{sorted, ranked, cumulated, transposed, unpacked, xgridded, merged, concatenated}
use Rattle.logical_plan.specs.declared.names.NameEntry.{NameEntry}
use Rattle.plan_changes.specs.Changes.{entry_named, is_named, has_array}
use Rattle.plan_changes.specs.Allowed.{has_room}
use Rattle.plan_changes.specs.declared.change.Change.{Change}
use Rattle.std.specs.Prelude.{not}
use Rattle.check_rules.specs.Checked.{Checked}
use Rattle.check_rules.specs.Operators.{operator_named}
use Rattle.check_rules.specs.declared.rules.operator.Operator.{Operator}
use Rattle.check_rules.specs.declared.rules.operator.Operator.TheVariants as operator
use Rattle.check_rules.proofs.RulesHolding.{demanded, thens, of_answer}
use Rattle.check_rules.proofs.OperatorsHolding.{new_holds}
use Rattle.check_rules.specs.Sorts.{to_list, number_in}
use Rattle.check_sources.specs.Build.{meant}
use Rattle.check_sources.specs.Stored.{is_version, newest_of, at_version, version_of, referred, scan_call}
use Rattle.check_sources.proofs.Holding.{build_holds}
use Rattle.check_cellwise.proofs.CellsHolding.{filter_holds, apply_holds, project_holds}
use Rattle.check_cellwise.proofs.BoxesHolding.{between_holds, subarray_holds, slice_holds}
use Rattle.check_groups.specs.Cumulations.{cumulate_parts}
use Rattle.check_shapes.specs.Pairs.{concat_rules, merge_rules}
use Rattle.check_shapes.specs.Rank.{rank_parts}
use Rattle.check_shapes.specs.Reverse.{reverse_rules}
use Rattle.check_shapes.specs.Sort.{sort_parts}
use Rattle.check_shapes.specs.Tables.{all_hold}
use Rattle.check_shapes.specs.Unpack.{unpack_parts}
use Rattle.check_shapes.specs.Xgrid.{xgrid_parts}
use Rattle.check_groups.specs.Blocks.{regrid_parts}
use Rattle.check_groups.specs.Groups.{aggregate_parts}
use Rattle.check_groups.specs.Windows.{window_parts}
use Rattle.check_joins.specs.Crosses.{cross_parts}
use Rattle.check_joins.specs.JoinSchemas.{joined_schema}
use Rattle.check_sources.specs.Redimension.{redimension_parts}
use Rattle.afl_types.specs.Calls.{call_of, fits_count, fits_two, ruled, ruled_two}
use Rattle.afl_types.specs.Content.{content_span}
use Rattle.afl_types.specs.Queries.{called, over, over_two, query_of}
use Rattle.afl_types.specs.declared.queries.call.Call.{Call}
use Rattle.afl_types.specs.declared.queries.call.Call.TheVariants.{Build, Scan, Over, Two}
use Rattle.afl_types.specs.declared.queries.call.OverSource.{OverSource}
use Rattle.afl_types.specs.declared.queries.call.OverSource.TheVariants.{Filter, Apply, Project, Between, Subarray, Slice, Redimension, Regrid, Window, Aggregate}
use Rattle.afl_types.specs.declared.queries.call.OverSource.TheVariants.{Sort, Rank, Cumulate, Transpose, Reverse, Unpack, Xgrid}
use Rattle.afl_types.specs.declared.queries.call.OverTwo.{OverTwo}
use Rattle.afl_types.specs.declared.queries.call.OverTwo.TheVariants.{Join, CrossJoin, Merge, Concat}
use Rattle.afl_types.proofs.NoQuery.{nested_holds}
use Rattle.afl_types.specs.Changes.{created, array_call, cut_at, cut_by, cut_call, cut_from, cut_of, list_call, store_target, insert_target, stored_schema, inserted_schema, known, stored_name}
use Rattle.afl_types.specs.Place.{created_place}
use Rattle.afl_types.specs.declared.types.changes.put.Target.{Target}
use Rattle.afl_types.specs.Checking.{check_of}
use Rattle.afl_types.specs.Statements.{changed, insert_of, queried, said, statement_of, store_of}
use Rattle.afl_types.specs.declared.types.statements.checking.Typed.{Typed}
use Rattle.afl_types.specs.declared.types.statements.checking.Typed.TheVariants.{Query as AQuery, Change as AChange, Versions, Show, ListArrays}
use Rattle.afl_types.proofs.ReadVersions.{find_passes}
use Rattle.afl_types.specs.Said.{read_names, called_names, stated_names, said_names}
use Rattle.afl_types.specs.NamesLaws.{Agree, leaf_names, change_names, CheckedChangesSayTheirNames, CheckedChangesStay}
use Rattle.afl_types.proofs.Agreeing.{checking_reads_names}

nothing_asked : (ts : List Term) → AllByRecursion (λ t. Unit {0}) ts
nothing_asked [] = tt
nothing_asked (t ∷ ts) = (tt, nothing_asked ts)

-- a plan reads just these names
abbrev Reads : List (List ℕ) → Query → Type 0
Reads names plan = leaf_names plan ≡ names

module _ (names : List (List ℕ)) where
  ruled_reads : (s : Span) (operator : OverSource) (at : Span) (source : Query) (arguments : List Term) → Reads names source
      → IfOk (ruled s operator at source arguments) (Reads names)
  ruled_reads s Filter at source arguments reads = filter_holds (Reads names) s source arguments (λ e x one t fit. reads)
  ruled_reads s Apply at source arguments reads = apply_holds (Reads names) s source arguments (λ values e within. reads)
  ruled_reads s Project at source arguments reads = project_holds (Reads names) s source arguments (λ some places e within. reads)
  ruled_reads s Between at source arguments reads = between_holds (Reads names) s source arguments (λ count. reads)
  ruled_reads s Subarray at source arguments reads = subarray_holds (Reads names) s source arguments (λ count order range within. reads)
  ruled_reads s Slice at source arguments reads = slice_holds (Reads names) s source arguments (λ fixed e some within. reads)
  ruled_reads s Redimension at source arguments reads = thens (Reads names) (redimension_parts s (schema_of source) arguments) _ (λ p e. reads)
  ruled_reads s Regrid at source arguments reads =
      thens (Reads names) (regrid_parts s (schema_of source) arguments) _ (λ p e. new_holds (Reads names) s (regridded source p.sizes p.aggregates) (λ within. reads))
  ruled_reads s Window at source arguments reads =
      thens (Reads names) (window_parts s (schema_of source) arguments) _ (λ p e. new_holds (Reads names) s (windowed source p.reach p.aggregates) (λ within. reads))
  ruled_reads s Aggregate at source arguments reads =
      thens (Reads names) (aggregate_parts s (schema_of source) arguments) _ (λ p e. new_holds (Reads names) s (aggregated source p.aggregates p.places) (λ within. reads))
  ruled_reads s Sort at source arguments reads =
      thens (Reads names) (sort_parts s (schema_of source) arguments) _ (λ p e. new_holds (Reads names) s (sorted source p.keys p.schema) (λ within. reads))
  ruled_reads s Rank at source arguments reads =
      thens (Reads names) (rank_parts s (schema_of source) arguments) _ (λ p e. new_holds (Reads names) s (ranked source p.attribute p.dimensions) (λ within. reads))
  ruled_reads s Cumulate at source arguments reads =
      thens (Reads names) (cumulate_parts s (schema_of source) arguments) _ (λ p e. new_holds (Reads names) s (cumulated source p.aggregates p.dimension) (λ within. reads))
  ruled_reads s Transpose at source arguments reads = new_holds (Reads names) s (transposed source) (λ within. reads)
  ruled_reads s Reverse at source arguments reads = thens (Reads names) (all_hold (reverse_rules at (schema_of source))) _ (λ hold e. reads)
  ruled_reads s Unpack at source arguments reads =
      thens (Reads names) (unpack_parts s (schema_of source) arguments) _ (λ schema e. new_holds (Reads names) s (unpacked source schema) (λ within. reads))
  ruled_reads s Xgrid at source arguments reads =
      thens (Reads names) (xgrid_parts s (schema_of source) arguments) _ (λ sizes e. new_holds (Reads names) s (xgridded source sizes) (λ within. reads))

both_read : (left right : Query) (xs ys : List (List ℕ)) → Reads xs left → Reads ys right → map (λ leaf. leaf.name) (leaves left ++ leaves right) ≡ xs ++ ys
both_read left right xs ys l r = map-append (λ leaf. leaf.name) (leaves left) (leaves right) ∙ ap (λ (ns : List (List ℕ)). ns ++ leaf_names right) l ∙ ap (λ (ns : List (List ℕ)). xs ++ ns) r

ruled_two_reads : (xs ys : List (List ℕ)) (s : Span) (operator : OverTwo) (at : Span) (left right : Query) (arguments : List Term) → Reads xs left
    → Reads ys right → IfOk (ruled_two s operator at left right arguments) (Reads (xs ++ ys))
ruled_two_reads xs ys s Join at left right arguments l r =
    thens (Reads (xs ++ ys)) (joined_schema s (schema_of left) (schema_of right)) _ (λ schema e. new_holds (Reads (xs ++ ys)) s (joined left right schema) (λ within. both_read left right xs ys l r))
ruled_two_reads xs ys s CrossJoin at left right arguments l r =
    thens (Reads (xs ++ ys)) (cross_parts s (schema_of left) (schema_of right) arguments) _ (λ p e. new_holds (Reads (xs ++ ys)) s (crossed left right p.pairs p.schema) (λ within. both_read left right xs ys l r))
ruled_two_reads xs ys s Merge at left right arguments l r =
    thens (Reads (xs ++ ys)) (all_hold (merge_rules s (schema_of left) (schema_of right))) _ (λ hold e. new_holds (Reads (xs ++ ys)) s (merged left right) (λ within. both_read left right xs ys l r))
ruled_two_reads xs ys s Concat at left right arguments l r =
    thens (Reads (xs ++ ys)) (all_hold (concat_rules s at (schema_of left) (schema_of right))) _ (λ hold e. new_holds (Reads (xs ++ ys)) s (concatenated left right) (λ within. both_read left right xs ys l r))

module _ (arrays : List NameEntry) where
  named : (name : List ℕ) (entry : NameEntry) → entry_named arrays name ≡ Some entry → entry.name ≡ name
  named name entry e = same_bytes entry.name name (find_passes (is_named name) arrays entry e)

  one_name : (name : List ℕ) (entry : NameEntry) → entry_named arrays name ≡ Some entry → entry.name ∷ [] ≡ name ∷ []
  one_name name entry e = ap (λ (n : List ℕ). n ∷ []) (named name entry e)

  -- ---- queries

  newest_reads : (s : Span) (name : List ℕ) (o : Option NameEntry) → entry_named arrays name ≡ o → IfOk (newest_of s o) (Reads (name ∷ []))
  newest_reads s name (Some entry) e = one_name name entry e
  newest_reads s name None e = tt

  at_reads : (s : Span) (name : List ℕ) (entry : NameEntry) (o : Option ℕ) → entry_named arrays name ≡ Some entry → IfOk (at_version s entry o) (Reads (name ∷ []))
  at_reads s name entry (Some v) e = one_name name entry e
  at_reads s name entry None e = tt

  version_reads : (s : Span) (name : List ℕ) (n : ℤ) (o : Option NameEntry) → entry_named arrays name ≡ o → IfOk (version_of s o n) (Reads (name ∷ []))
  version_reads s name n (Some entry) e = at_reads s name entry (find (is_version n) entry.versions) e
  version_reads s name n None e = tt

  referred_reads : (t : Term) → IfOk (referred arrays t) (Reads (read_names t))
  referred_reads (reference s name) = newest_reads s name (entry_named arrays name) refl
  referred_reads (version s name n) = version_reads s name n (entry_named arrays name) refl
  referred_reads t = tt

  scan_reads : (s : Span) (arguments : Terms) → IfOk (scan_call arrays s arguments) (Reads (called_names (Some Scan) arguments))
  scan_reads s (and_term x no_terms) = referred_reads x
  scan_reads s arguments = tt

  over_reads : (s : Span) (operator : OverSource) (source : Term) (arguments : Terms) → IfOk (query_of arrays source) (Reads (read_names source))
      → IfOk (over s operator (content_span source) (query_of arrays source) (to_list arguments)) (Reads (read_names source))
  over_reads s operator source arguments reads =
      demanded (Reads (read_names source)) (fits_count operator (length (to_list arguments))) s WrongCount _ (λ count.
      thens (Reads (read_names source)) (query_of arrays source) _ (λ plan e.
      ruled_reads (read_names source) s operator (content_span source) plan (to_list arguments) (of_answer (Reads (read_names source)) (query_of arrays source) plan reads e)))

  over_two_reads : (s : Span) (operator : OverTwo) (left right : Term) (arguments : Terms) → IfOk (query_of arrays left) (Reads (read_names left)) → IfOk (query_of arrays right) (Reads (read_names right))
      → IfOk (over_two s operator (content_span left) (query_of arrays left) (query_of arrays right) (to_list arguments))
      (Reads (read_names left ++ read_names right))
  over_two_reads s operator left right arguments h k =
      demanded (Reads (read_names left ++ read_names right)) (fits_two operator (length (to_list arguments))) s WrongCount _ (λ count.
      thens (Reads (read_names left ++ read_names right)) (query_of arrays left) _ (λ l e.
      thens (Reads (read_names left ++ read_names right)) (query_of arrays right) _ (λ r f.
      ruled_two_reads (read_names left) (read_names right) s operator (content_span left) l r (to_list arguments)
      (of_answer (Reads (read_names left)) (query_of arrays left) l h e) (of_answer (Reads (read_names right)) (query_of arrays right) r k f))))

  mutual
    query_reads : (t : Term) → IfOk (query_of arrays t) (Reads (read_names t))
    query_reads (group s a) = query_reads a
    query_reads (call s name arguments) = called_reads s name (call_of (operator_named name)) arguments
    query_reads t = referred_reads t

    called_reads : (s : Span) (name : List ℕ) (o : Option Call) (arguments : Terms) → IfOk (called arrays s name o arguments) (Reads (called_names o arguments))
    called_reads s name (Some Build) arguments =
        build_holds (Reads []) (λ t. Unit {0}) (λ meaning attribute value x leaf valid b one few t fit. refl) (λ meaning d at spelled rows leaf valid one e. refl) s arguments (nothing_asked (to_list arguments))
    called_reads s name (Some Scan) arguments = scan_reads s arguments
    called_reads s name (Some (Over operator)) (and_term source arguments) = over_reads s operator source arguments (query_reads source)
    called_reads s name (Some (Over operator)) no_terms = tt
    called_reads s name (Some (Two operator)) (and_term left (and_term right arguments)) = over_two_reads s operator left right arguments (query_reads left) (query_reads right)
    called_reads s name (Some (Two operator)) (and_term left no_terms) = tt
    called_reads s name (Some (Two operator)) no_terms = tt
    called_reads s name None arguments = nested_holds (Reads []) s name (operator_named name)

  -- ---- changes

  -- a change has just these names
  abbrev Has : List (List ℕ) → Change → Type 0
  Has names change = names ≡ change_names change

  create_has : (t : Span) (name : List ℕ) (written : SchemaText) → IfOk (created arrays t name written) (Has (name ∷ []))
  create_has t name written =
      thens (Has (name ∷ [])) (meant written) _ (λ schema e.
      demanded (Has (name ∷ [])) (not (has_array arrays name)) t ArrayExists _ (λ fresh.
      demanded (Has (name ∷ [])) (has_room arrays) t TooManyArrays _ (λ room. refl)))

  -- the name behind the query
  abbrev Goes : Term → Target → Type 0
  Goes n target = read_names n ≡ target.name ∷ []

  store_goes : (s : Span) (shape : Schema) (n : Term) → IfOk (store_target arrays s shape n) (Goes n)
  store_goes s shape (reference t name) = thens (Goes (reference t name)) (stored_schema arrays s t shape (entry_named arrays name)) _ (λ schema e. refl)
  store_goes s shape n = tt

  insert_goes : (s : Span) (shape : Schema) (n : Term) → IfOk (insert_target arrays s shape n) (Goes n)
  insert_goes s shape (reference t name) = thens (Goes (reference t name)) (inserted_schema s t shape (entry_named arrays name)) _ (λ schema e. refl)
  insert_goes s shape n = tt

  both_names : (q n : Term) (plan : Query) (name : List ℕ) → query_of arrays q ≡ Ok plan → read_names n ≡ name ∷ [] → read_names q ++ read_names n ≡ leaf_names plan ++ name ∷ []
  both_names q n plan name e is =
      ap (λ (ns : List (List ℕ)). ns ++ read_names n) (sym (of_answer (Reads (read_names q)) (query_of arrays q) plan (query_reads q) e))
      ∙ ap (λ (ns : List (List ℕ)). leaf_names plan ++ ns) is

  store_has : (s : Span) (arguments : Terms) (names : List (List ℕ)) → IfOk (store_of arrays s arguments) (Has (stated_names (Some operator.Store) arguments names))
  store_has s (and_term q (and_term n no_terms)) names =
      thens (Has (read_names q ++ read_names n)) (query_of arrays q) _ (λ plan e.
      thens (Has (read_names q ++ read_names n)) (store_target arrays s (schema_of plan) n) _ (λ target f.
      both_names q n plan target.name e (of_answer (Goes n) (store_target arrays s (schema_of plan) n) target (store_goes s (schema_of plan) n) f)))
  store_has s arguments names = tt

  insert_has : (s : Span) (arguments : Terms) (names : List (List ℕ)) → IfOk (insert_of arrays s arguments) (Has (stated_names (Some operator.Insert) arguments names))
  insert_has s (and_term q (and_term n no_terms)) names =
      thens (Has (read_names q ++ read_names n)) (query_of arrays q) _ (λ plan e.
      thens (Has (read_names q ++ read_names n)) (insert_target arrays s (schema_of plan) n) _ (λ target f.
      both_names q n plan target.name e (of_answer (Goes n) (insert_target arrays s (schema_of plan) n) target (insert_goes s (schema_of plan) n) f)))
  insert_has s arguments names = tt

  known_is : (t : Span) (name : List ℕ) (o : Option NameEntry) → IfOk (known t (Ok name) o) (λ found. name ∷ [] ≡ found ∷ [])
  known_is t name (Some entry) = refl
  known_is t name None = tt

  name_is : (n : Term) → IfOk (stored_name arrays n) (λ found. read_names n ≡ found ∷ [])
  name_is (reference t name) = known_is t name (entry_named arrays name)
  name_is n = tt

  array_is : (s : Span) (arguments : Terms) (names : List (List ℕ)) → IfOk (array_call arrays s arguments) (λ found. stated_names (Some operator.Remove) arguments names ≡ found ∷ [])
  array_is s (and_term n no_terms) names = name_is n
  array_is s arguments names = tt

  cut_at_has : (at : Span) (name : List ℕ) (o : Option ℕ) → IfOk (cut_at at name o) (Has (name ∷ []))
  cut_at_has at name (Some below) = refl
  cut_at_has at name None = tt

  cut_of_has : (t at : Span) (name : List ℕ) (n : ℤ) (o : Option NameEntry) → IfOk (cut_of t at name n o) (Has (name ∷ []))
  cut_of_has t at name n (Some entry) = cut_at_has at name _
  cut_of_has t at name n None = tt

  cut_by_has : (t : Span) (name : List ℕ) (at : Span) (o : Option ℤ) → IfOk (cut_by arrays t name at o) (Has (name ∷ []))
  cut_by_has t name at (Some n) = cut_of_has t at name n (entry_named arrays name)
  cut_by_has t name at None = tt

  cut_from_has : (n i : Term) → IfOk (cut_from arrays n i) (Has (read_names n))
  cut_from_has (reference t name) i = cut_by_has t name (span_of i) (number_in i)
  cut_from_has n i = tt

  cut_has : (s : Span) (arguments : Terms) (names : List (List ℕ)) → IfOk (cut_call arrays s arguments) (Has (stated_names (Some operator.RemoveVersions) arguments names))
  cut_has s (and_term n (and_term i no_terms)) names = cut_from_has n i
  cut_has s arguments names = tt

  -- ---- statements

  -- what is a change has just these names
  abbrev Says : List (List ℕ) → Typed → Type 0
  Says names (AQuery query) = Unit {0}
  Says names (AChange change) = Has names change
  Says names (Versions name) = Unit {0}
  Says names (Show name) = Unit {0}
  Says names ListArrays = Unit {0}

  changed_says : (names : List (List ℕ)) (c : Checked Change) → IfOk c (Has names) → IfOk (changed c) (Says names)
  changed_says names c h = thens (Says names) c _ (λ change e. of_answer (Has names) c change h e)

  queried_says : (names : List (List ℕ)) (c : Checked Query) → IfOk (queried c) (Says names)
  queried_says names c = thens (Says names) c _ (λ query e. tt)

  said_says : (s : Span) (o : Option Operator) (arguments : Terms) (other : Checked Typed) (names : List (List ℕ)) → ((ns : List (List ℕ)) → IfOk other (Says ns)) → IfOk (said arrays s o arguments other) (Says (stated_names o arguments names))
  said_says s (Some operator.Store) arguments other names h = changed_says (stated_names (Some operator.Store) arguments names) (store_of arrays s arguments) (store_has s arguments names)
  said_says s (Some operator.Insert) arguments other names h = changed_says (stated_names (Some operator.Insert) arguments names) (insert_of arrays s arguments) (insert_has s arguments names)
  said_says s (Some operator.Remove) arguments other names h =
      thens (Says (stated_names (Some operator.Remove) arguments names)) (array_call arrays s arguments) _ (λ name e.
      of_answer (λ found. stated_names (Some operator.Remove) arguments names ≡ found ∷ []) (array_call arrays s arguments) name (array_is s arguments names) e)
  said_says s (Some operator.RemoveVersions) arguments other names h = changed_says (stated_names (Some operator.RemoveVersions) arguments names) (cut_call arrays s arguments) (cut_has s arguments names)
  said_says s (Some operator.Versions) arguments other names h = thens (Says (stated_names (Some operator.Versions) arguments names)) (array_call arrays s arguments) _ (λ name e. tt)
  said_says s (Some operator.Show) arguments other names h = thens (Says (stated_names (Some operator.Show) arguments names)) (array_call arrays s arguments) _ (λ name e. tt)
  said_says s (Some operator.ListNames) arguments other names h = thens (Says (stated_names (Some operator.ListNames) arguments names)) (list_call s arguments) _ (λ done e. tt)
  said_says s o arguments other names h = h names

  statement_says : (text : List ℕ) (tree : Term) → IfOk (statement_of arrays text tree) (Says (said_names tree))
  statement_says text (create s name written) = changed_says (name ∷ []) (created arrays (created_place text s name) name written) (create_has (created_place text s name) name written)
  statement_says text (call s name arguments) =
      said_says s (operator_named name) arguments (queried (query_of arrays (call s name arguments))) (read_names (call s name arguments)) (λ ns. queried_says ns (query_of arrays (call s name arguments)))
  statement_says text t = queried_says (said_names t) (query_of arrays t)

pub changes_say : CheckedChangesSayTheirNames
changes_say names text tree change e =
    of_answer (Says names.arrays (said_names tree)) (check_of tree text names) (AChange change) (statement_says names.arrays text tree) e

pub changes_stay : CheckedChangesStay
changes_stay a b text tree change agree e =
    let agreed : Agree a b (said_names tree) = subst (Agree a b) (sym (changes_say a text tree change e)) agree in
    sym (checking_reads_names a b text tree agreed) ∙ e
