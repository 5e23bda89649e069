-- What a checked plan reads are versions of stored arrays, or none of an array that has none.
use Rattle.std.proofs.Common.{◌≡◌, ◌⊎◌, inl, inr, ℕ, suc, ◌-◌, ℤ, Bool, true, false, cond, length, Option, Some, None, Ok, IfOk, IsTrue, List, [], ◌∷◌, ◌++◌, refl, sym, ap, subst, ◌∙◌, arith}
use Rattle.std.specs.Prelude.{nat_eq, slice_get, unwrap_or}
use Rattle.std.specs.List.{AllByRecursion, find, list_any}
use Rattle.std.proofs.lemmas.Bool.{eq-eqb, or_left, or_right}
use Rattle.cell_values.specs.declared.name.Span.{Span}
use Rattle.schema_grammar.specs.declared.kinds.TypeKind.TheVariants.{WrongCount}
use Rattle.afl_lexer.proofs.Words.{same_bytes}
use Rattle.afl_trees.specs.Term.{Term, reference, version, call, group, Terms, no_terms, and_term}
use Rattle.logical_plan.specs.Leaves.{leaves}
use Rattle.logical_plan.specs.Query.{Query, joined, crossed, regridded, windowed, aggregated}
use Rattle.logical_plan.specs.Query.{sorted, ranked, cumulated, transposed, unpacked, xgridded, merged, concatenated}
use Rattle.logical_plan.specs.PlanSchema.{schema_of}
use Rattle.logical_plan.specs.declared.parts.Leaf.{Leaf}
use Rattle.logical_plan.specs.declared.names.NameEntry.{NameEntry}
use Rattle.plan_changes.specs.Changes.{entry_named, is_named}
use Rattle.plan_changes.specs.Typed.{IsVersionOf}
use Rattle.check_rules.specs.Operators.{operator_named}
use Rattle.check_rules.proofs.RulesHolding.{demanded, thens, of_answer}
use Rattle.check_rules.specs.Sorts.{to_list}
use Rattle.check_sources.specs.Stored.{newest, is_version, leaf_of, newest_of, at_version, version_of, referred, scan_call}
use Rattle.check_sources.proofs.Holding.{build_holds}
use Rattle.check_cellwise.proofs.CellsHolding.{filter_holds, apply_holds, project_holds}
use Rattle.check_cellwise.proofs.BoxesHolding.{between_holds, subarray_holds, slice_holds}
use Rattle.afl_types.specs.Calls.{call_of, fits_count, fits_two, ruled, ruled_two}
use Rattle.afl_types.specs.Content.{content_span}
use Rattle.afl_types.specs.Queries.{called, over, over_two, query_of}
use Rattle.afl_types.specs.declared.queries.call.Call.{Call}
use Rattle.afl_types.specs.declared.queries.call.Call.TheVariants.{Build, Scan, Over, Two}
use Rattle.afl_types.specs.declared.queries.call.OverSource.{OverSource}
use Rattle.afl_types.specs.declared.queries.call.OverSource.TheVariants.{Filter, Apply, Project, Between, Subarray, Slice, Redimension, Regrid, Window, Aggregate}
use Rattle.afl_types.specs.declared.queries.call.OverSource.TheVariants.{Sort, Rank, Cumulate, Transpose, Reverse, Unpack, Xgrid}
use Rattle.afl_types.specs.declared.queries.call.OverTwo.{OverTwo}
use Rattle.afl_types.specs.declared.queries.call.OverTwo.TheVariants.{Join, CrossJoin, Merge, Concat}
use Rattle.check_groups.specs.Cumulations.{cumulate_parts}
use Rattle.check_shapes.specs.Pairs.{concat_rules, merge_rules}
use Rattle.check_shapes.specs.Rank.{rank_parts}
use Rattle.check_shapes.specs.Reverse.{reverse_rules}
use Rattle.check_shapes.specs.Sort.{sort_parts}
use Rattle.check_shapes.specs.Tables.{all_hold}
use Rattle.check_shapes.specs.Unpack.{unpack_parts}
use Rattle.check_shapes.specs.Xgrid.{xgrid_parts}
use Rattle.check_groups.specs.Blocks.{regrid_parts}
use Rattle.check_groups.specs.Groups.{aggregate_parts}
use Rattle.check_groups.specs.Windows.{window_parts}
use Rattle.check_joins.specs.Crosses.{cross_parts}
use Rattle.check_joins.specs.JoinSchemas.{joined_schema}
use Rattle.check_sources.specs.Redimension.{redimension_parts}
use Rattle.check_rules.proofs.OperatorsHolding.{new_holds}
use Rattle.afl_types.proofs.NoQuery.{nested_holds}

-- ---- what is found in a list

module _ {A : Type 0} (p : A → Bool) where
  passes_at : (b : Bool) (x : A) (rest : Option A) (y : A) → p x ≡ b → cond b (Some x) rest ≡ Some y → (rest ≡ Some y → p y ≡ true) → p y ≡ true
  passes_at true x rest y is e later = let same : x ≡ y = cc in subst (λ (z : A). p z ≡ true) same is
  passes_at false x rest y is e later = later e

  pub find_passes : (xs : List A) (y : A) → find p xs ≡ Some y → p y ≡ true
  find_passes [] y e = absurd (let no : None ≡ Some y = e in cc)
  find_passes (x ∷ xs) y e = passes_at (p x) x (find p xs) y refl e (λ later. find_passes xs y later)

module _ (p : ℕ → Bool) where
  among_at : (b : Bool) (x : ℕ) (xs : List ℕ) (rest : Option ℕ) (y : ℕ) → cond b (Some x) rest ≡ Some y → (rest ≡ Some y → list_any (λ v. nat_eq v y) xs ≡ true) → list_any (λ v. nat_eq v y) (x ∷ xs) ≡ true
  among_at true x xs rest y e later = let same : x ≡ y = cc in or_left (nat_eq x y) (list_any (λ v. nat_eq v y) xs) (eq-eqb x y same)
  among_at false x xs rest y e later = or_right (nat_eq x y) (list_any (λ v. nat_eq v y) xs) (later e)

  find_among : (xs : List ℕ) (y : ℕ) → find p xs ≡ Some y → list_any (λ v. nat_eq v y) xs ≡ true
  find_among [] y e = absurd (let no : None ≡ Some y = e in cc)
  find_among (x ∷ xs) y e = among_at (p x) x xs (find p xs) y e (λ later. find_among xs y later)

-- ---- versions

-- a version of an array, or none of an array that has none
abbrev Stands : ℕ → List ℕ → Type 0
Stands v versions = IsTrue (list_any (λ w. nat_eq w v) versions) ⊎ ((v ≡ 0) × (versions ≡ []))

newest_on : (x y : ℕ) (ys : List ℕ) → newest (x ∷ y ∷ ys) ≡ newest (y ∷ ys)
newest_on x y ys = let e : length (x ∷ y ∷ ys) - 1 ≡ suc (length (y ∷ ys) - 1) = omega arith in ap (λ (i : ℕ). unwrap_or (slice_get (x ∷ y ∷ ys) i) 0) e

newest_among : (x : ℕ) (xs : List ℕ) → list_any (λ w. nat_eq w (newest (x ∷ xs))) (x ∷ xs) ≡ true
newest_among x [] =
    let e : length (x ∷ []) - 1 ≡ 0 = omega arith in
    let same : x ≡ newest (x ∷ []) = sym (ap (λ (i : ℕ). unwrap_or (slice_get (x ∷ []) i) 0) e) in
    or_left (nat_eq x (newest (x ∷ []))) false (eq-eqb x (newest (x ∷ [])) same)
newest_among x (y ∷ ys) =
    let later : list_any (λ w. nat_eq w (newest (x ∷ y ∷ ys))) (y ∷ ys) ≡ true = subst (λ (v : ℕ). list_any (λ w. nat_eq w v) (y ∷ ys) ≡ true) (sym (newest_on x y ys)) (newest_among y ys) in
    or_right (nat_eq x (newest (x ∷ y ∷ ys))) (list_any (λ w. nat_eq w (newest (x ∷ y ∷ ys))) (y ∷ ys)) later

newest_stands : (versions : List ℕ) → Stands (newest versions) versions
newest_stands [] = inr (refl, refl)
newest_stands (x ∷ xs) = inl (newest_among x xs)

-- ---- plans

nothing_asked : (ts : List Term) → AllByRecursion (λ t. Unit {0}) ts
nothing_asked [] = tt
nothing_asked (t ∷ ts) = (tt, nothing_asked ts)

module _ (arrays : List NameEntry) where
  abbrev pub ReadsVersions : Query → Type 0
  ReadsVersions query = AllByRecursion (λ leaf. IsVersionOf leaf (entry_named arrays leaf.name)) (leaves query)

  reads_entry : (name : List ℕ) (entry : NameEntry) (v : ℕ) → entry_named arrays name ≡ Some entry → Stands v entry.versions → ReadsVersions (leaf_of entry v)
  reads_entry name entry v e stands =
      let named : entry.name ≡ name = same_bytes entry.name name (find_passes (is_named name) arrays entry e) in
      let there : entry_named arrays entry.name ≡ Some entry = ap (λ (n : List ℕ). entry_named arrays n) named ∙ e in
      (subst (λ (o : Option NameEntry). IsVersionOf (record { name = entry.name; version = v; schema = entry.schema }) o) (sym there) (refl, stands), tt)

  newest_reads : (s : Span) (name : List ℕ) (o : Option NameEntry) → entry_named arrays name ≡ o → IfOk (newest_of s o) ReadsVersions
  newest_reads s name (Some entry) e = reads_entry name entry (newest entry.versions) e (newest_stands entry.versions)
  newest_reads s name None e = tt

  at_reads : (s : Span) (name : List ℕ) (entry : NameEntry) (n : ℤ) (o : Option ℕ) → entry_named arrays name ≡ Some entry → find (is_version n) entry.versions ≡ o → IfOk (at_version s entry o) ReadsVersions
  at_reads s name entry n (Some v) e found = reads_entry name entry v e (inl (find_among (is_version n) entry.versions v found))
  at_reads s name entry n None e found = tt

  version_reads : (s : Span) (name : List ℕ) (n : ℤ) (o : Option NameEntry) → entry_named arrays name ≡ o → IfOk (version_of s o n) ReadsVersions
  version_reads s name n (Some entry) e = at_reads s name entry n (find (is_version n) entry.versions) e refl
  version_reads s name n None e = tt

  referred_reads : (t : Term) → IfOk (referred arrays t) ReadsVersions
  referred_reads (reference s name) = newest_reads s name (entry_named arrays name) refl
  referred_reads (version s name n) = version_reads s name n (entry_named arrays name) refl
  referred_reads t = tt

  scan_reads : (s : Span) (arguments : Terms) → IfOk (scan_call arrays s arguments) ReadsVersions
  scan_reads s (and_term x no_terms) = referred_reads x
  scan_reads s arguments = tt

  ruled_reads : (s : Span) (operator : OverSource) (at : Span) (source : Query) (arguments : List Term) → ReadsVersions source
      → IfOk (ruled s operator at source arguments) ReadsVersions
  ruled_reads s Filter at source arguments reads = filter_holds ReadsVersions s source arguments (λ e x one t fit. reads)
  ruled_reads s Apply at source arguments reads = apply_holds ReadsVersions s source arguments (λ values e within. reads)
  ruled_reads s Project at source arguments reads = project_holds ReadsVersions s source arguments (λ some places e within. reads)
  ruled_reads s Between at source arguments reads = between_holds ReadsVersions s source arguments (λ count. reads)
  ruled_reads s Subarray at source arguments reads = subarray_holds ReadsVersions s source arguments (λ count order range within. reads)
  ruled_reads s Slice at source arguments reads = slice_holds ReadsVersions s source arguments (λ fixed e some within. reads)
  ruled_reads s Redimension at source arguments reads = thens ReadsVersions (redimension_parts s (schema_of source) arguments) _ (λ p e. reads)
  ruled_reads s Regrid at source arguments reads =
      thens ReadsVersions (regrid_parts s (schema_of source) arguments) _ (λ p e. new_holds ReadsVersions s (regridded source p.sizes p.aggregates) (λ within. reads))
  ruled_reads s Window at source arguments reads =
      thens ReadsVersions (window_parts s (schema_of source) arguments) _ (λ p e. new_holds ReadsVersions s (windowed source p.reach p.aggregates) (λ within. reads))
  ruled_reads s Aggregate at source arguments reads =
      thens ReadsVersions (aggregate_parts s (schema_of source) arguments) _ (λ p e. new_holds ReadsVersions s (aggregated source p.aggregates p.places) (λ within. reads))
  ruled_reads s Sort at source arguments reads =
      thens ReadsVersions (sort_parts s (schema_of source) arguments) _ (λ p e. new_holds ReadsVersions s (sorted source p.keys p.schema) (λ within. reads))
  ruled_reads s Rank at source arguments reads =
      thens ReadsVersions (rank_parts s (schema_of source) arguments) _ (λ p e. new_holds ReadsVersions s (ranked source p.attribute p.dimensions) (λ within. reads))
  ruled_reads s Cumulate at source arguments reads =
      thens ReadsVersions (cumulate_parts s (schema_of source) arguments) _ (λ p e. new_holds ReadsVersions s (cumulated source p.aggregates p.dimension) (λ within. reads))
  ruled_reads s Transpose at source arguments reads = new_holds ReadsVersions s (transposed source) (λ within. reads)
  ruled_reads s Reverse at source arguments reads = thens ReadsVersions (all_hold (reverse_rules at (schema_of source))) _ (λ hold e. reads)
  ruled_reads s Unpack at source arguments reads =
      thens ReadsVersions (unpack_parts s (schema_of source) arguments) _ (λ schema e. new_holds ReadsVersions s (unpacked source schema) (λ within. reads))
  ruled_reads s Xgrid at source arguments reads =
      thens ReadsVersions (xgrid_parts s (schema_of source) arguments) _ (λ sizes e. new_holds ReadsVersions s (xgridded source sizes) (λ within. reads))

  both_read : (xs ys : List Leaf) → AllByRecursion (λ leaf. IsVersionOf leaf (entry_named arrays leaf.name)) xs → AllByRecursion (λ leaf. IsVersionOf leaf (entry_named arrays leaf.name)) ys
      → AllByRecursion (λ leaf. IsVersionOf leaf (entry_named arrays leaf.name)) (xs ++ ys)
  both_read [] ys h k = k
  both_read (x ∷ xs) ys h k = (h.0, both_read xs ys h.1 k)

  ruled_two_reads : (s : Span) (operator : OverTwo) (at : Span) (left right : Query) (arguments : List Term) → ReadsVersions left → ReadsVersions right
      → IfOk (ruled_two s operator at left right arguments) ReadsVersions
  ruled_two_reads s Join at left right arguments l r =
      thens ReadsVersions (joined_schema s (schema_of left) (schema_of right)) _ (λ schema e. new_holds ReadsVersions s (joined left right schema) (λ within. both_read (leaves left) (leaves right) l r))
  ruled_two_reads s CrossJoin at left right arguments l r =
      thens ReadsVersions (cross_parts s (schema_of left) (schema_of right) arguments) _ (λ p e. new_holds ReadsVersions s (crossed left right p.pairs p.schema) (λ within. both_read (leaves left) (leaves right) l r))
  ruled_two_reads s Merge at left right arguments l r =
      thens ReadsVersions (all_hold (merge_rules s (schema_of left) (schema_of right))) _ (λ hold e. new_holds ReadsVersions s (merged left right) (λ within. both_read (leaves left) (leaves right) l r))
  ruled_two_reads s Concat at left right arguments l r =
      thens ReadsVersions (all_hold (concat_rules s at (schema_of left) (schema_of right))) _ (λ hold e. new_holds ReadsVersions s (concatenated left right) (λ within. both_read (leaves left) (leaves right) l r))

  over_reads : (s : Span) (operator : OverSource) (source : Term) (arguments : Terms) → IfOk (query_of arrays source) ReadsVersions
      → IfOk (over s operator (content_span source) (query_of arrays source) (to_list arguments)) ReadsVersions
  over_reads s operator source arguments reads =
      demanded ReadsVersions (fits_count operator (length (to_list arguments))) s WrongCount _ (λ count.
      thens ReadsVersions (query_of arrays source) _ (λ plan e.
      ruled_reads s operator (content_span source) plan (to_list arguments) (of_answer ReadsVersions (query_of arrays source) plan reads e)))

  over_two_reads : (s : Span) (operator : OverTwo) (left right : Term) (arguments : Terms) → IfOk (query_of arrays left) ReadsVersions → IfOk (query_of arrays right) ReadsVersions
      → IfOk (over_two s operator (content_span left) (query_of arrays left) (query_of arrays right) (to_list arguments)) ReadsVersions
  over_two_reads s operator left right arguments h k =
      demanded ReadsVersions (fits_two operator (length (to_list arguments))) s WrongCount _ (λ count.
      thens ReadsVersions (query_of arrays left) _ (λ l e.
      thens ReadsVersions (query_of arrays right) _ (λ r f.
      ruled_two_reads s operator (content_span left) l r (to_list arguments) (of_answer ReadsVersions (query_of arrays left) l h e)
      (of_answer ReadsVersions (query_of arrays right) r k f))))

  mutual
    query_reads : (t : Term) → IfOk (query_of arrays t) ReadsVersions
    query_reads (group s a) = query_reads a
    query_reads (call s name arguments) = called_reads s name (call_of (operator_named name)) arguments
    query_reads t = referred_reads t

    called_reads : (s : Span) (name : List ℕ) (o : Option Call) (arguments : Terms) → IfOk (called arrays s name o arguments) ReadsVersions
    called_reads s name (Some Build) arguments =
        build_holds ReadsVersions (λ t. Unit {0}) (λ meaning attribute value x leaf valid b one few t fit. tt) (λ meaning d at spelled rows leaf valid one e. tt) s arguments (nothing_asked (to_list arguments))
    called_reads s name (Some Scan) arguments = scan_reads s arguments
    called_reads s name (Some (Over operator)) (and_term source arguments) = over_reads s operator source arguments (query_reads source)
    called_reads s name (Some (Over operator)) no_terms = tt
    called_reads s name (Some (Two operator)) (and_term left (and_term right arguments)) = over_two_reads s operator left right arguments (query_reads left) (query_reads right)
    called_reads s name (Some (Two operator)) (and_term left no_terms) = tt
    called_reads s name (Some (Two operator)) no_terms = tt
    called_reads s name None arguments = nested_holds ReadsVersions s name (operator_named name)

  pub plan_reads : (t : Term) (query : Query) → query_of arrays t ≡ Ok query → ReadsVersions query
  plan_reads t query e = of_answer ReadsVersions (query_of arrays t) query (query_reads t) e
