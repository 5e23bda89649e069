-- Checking over two lists of stored arrays that agree on the names which a tree says.
use Rattle.std.proofs.Common.{◌≡◌, ◌∙◌, ℕ, ℤ, Bool, true, false, cond, not, ◌||◌, Option, Some, None, Ok, Err, List, [], ◌∷◌, ◌++◌, refl, sym, ap}
use Rattle.std.specs.List.{AllByRecursion, find, list_any}
use Rattle.cell_values.specs.declared.name.Span.{Span}
use Rattle.cell_values.specs.declared.schema.Schema.{Schema}
use Rattle.schema_grammar.specs.declared.shape_text.SchemaText.{SchemaText}
use Rattle.schema_grammar.specs.declared.kinds.TypeKind.TheVariants.{ArrayExists, TooManyArrays}
use Rattle.afl_trees.specs.Grammar.{span_of}
use Rattle.afl_trees.specs.Term.{Term, create, reference, version, call, group, Terms, no_terms, and_term}
use Rattle.logical_plan.specs.PlanSchema.{schema_of}
use Rattle.logical_plan.specs.Query.{Query}
use Rattle.logical_plan.specs.declared.names.NameEntry.{NameEntry}
use Rattle.plan_changes.specs.Allowed.{has_room}
use Rattle.plan_changes.specs.Changes.{entry_named, has_array, is_named}
use Rattle.plan_changes.specs.declared.change.Change.TheVariants as change
use Rattle.check_rules.specs.Checked.{Checked, demand, then}
use Rattle.check_rules.specs.Operators.{operator_named}
use Rattle.check_rules.specs.declared.rules.operator.Operator.{Operator}
use Rattle.check_rules.specs.declared.rules.operator.Operator.TheVariants as operator
use Rattle.check_rules.specs.Sorts.{to_list, number_in}
use Rattle.check_sources.specs.Build.{meant}
use Rattle.check_sources.specs.Stored.{newest_of, version_of, referred, scan_call}
use Rattle.afl_types.specs.Calls.{call_of}
use Rattle.afl_types.specs.Content.{content_span}
use Rattle.afl_types.specs.Queries.{called, over, over_two, query_of}
use Rattle.afl_types.specs.declared.queries.call.Call.{Call}
use Rattle.afl_types.specs.declared.queries.call.Call.TheVariants.{Build, Scan, Over, Two}
use Rattle.afl_types.specs.declared.queries.call.OverTwo.{OverTwo}
use Rattle.afl_types.specs.Changes.{created, created_as, store_call, insert_call, array_call, cut_call, store_target, insert_target, stored_schema, inserted_schema, target_of, known, stored_name, cut_of, cut_by, cut_from}
use Rattle.afl_types.specs.Place.{created_place}
use Rattle.afl_types.specs.Statements.{queried, changed, removed, numbered, shown, store_of, insert_of, said, statement_of}
use Rattle.afl_types.specs.declared.types.statements.checking.Typed.{Typed}
use Rattle.afl_types.specs.Said.{read_names, called_names, stated_names, said_names}
use Rattle.afl_types.specs.NamesLaws.{CheckingReadsNames}

-- ---- lists

pub first_of : {A : Type 0} (P : A → Type 0) (xs ys : List A) → AllByRecursion P (xs ++ ys) → AllByRecursion P xs
first_of P [] ys all = tt
first_of P (x ∷ xs) ys all = (all.0, first_of P xs ys all.1)

pub second_of : {A : Type 0} (P : A → Type 0) (xs ys : List A) → AllByRecursion P (xs ++ ys) → AllByRecursion P ys
second_of P [] ys all = all
second_of P (x ∷ xs) ys all = second_of P xs ys all.1

-- some array has a name where one is found
abbrev pub is_some : {A : Type 0} → Option A → Bool
is_some (Some x) = true
is_some None = false

pub any_is_found : {A : Type 0} (t : A → Bool) (xs : List A) → list_any t xs ≡ is_some (find t xs)
any_is_found t [] = refl
any_is_found t (x ∷ xs) = by_test (t x) (any_is_found t xs)
  where
    by_test : (b : Bool) → list_any t xs ≡ is_some (find t xs) → (b || list_any t xs) ≡ is_some (cond b (Some x) (find t xs))
    by_test true later = refl
    by_test false later = later

-- what comes behind a part that is checked
then_same : {A B : Type 0} (c : Checked A) (f g : A → Checked B) → ((x : A) → f x ≡ g x) → then c f ≡ then c g
then_same (Ok x) f g same = same x
then_same (Err breach) f g same = refl

module _ (a b : List NameEntry) (room : has_room a ≡ has_room b) where
  -- both have the same entry of a name, or none
  abbrev Same : List ℕ → Type 0
  Same name = entry_named a name ≡ entry_named b name

  abbrev All : List (List ℕ) → Type 0
  All = AllByRecursion Same

  -- ---- queries

  same_referred : (t : Term) → All (read_names t) → referred a t ≡ referred b t
  same_referred (reference s name) same = ap (newest_of s) same.0
  same_referred (version s name n) same = ap (λ o. version_of s o n) same.0
  same_referred t same = refl

  same_scan : (s : Span) (arguments : Terms) → All (called_names (Some Scan) arguments) → scan_call a s arguments ≡ scan_call b s arguments
  same_scan s (and_term x no_terms) same = same_referred x same
  same_scan s arguments same = refl

  same_two : (s : Span) (operator : OverTwo) (at : Span) (l l' r r' : Checked Query) (arguments : List Term) → l ≡ l' → r ≡ r'
      → over_two s operator at l r arguments ≡ over_two s operator at l' r' arguments
  same_two s operator at l l' r r' arguments p q = ap (λ x. over_two s operator at x r arguments) p ∙ ap (λ x. over_two s operator at l' x arguments) q

  mutual
    same_query : (t : Term) → All (read_names t) → query_of a t ≡ query_of b t
    same_query (group s x) same = same_query x same
    same_query (call s name arguments) same = same_called s name (call_of (operator_named name)) arguments same
    same_query t same = same_referred t same

    same_called : (s : Span) (name : List ℕ) (o : Option Call) (arguments : Terms) → All (called_names o arguments) → called a s name o arguments ≡ called b s name o arguments
    same_called s name (Some Build) arguments same = refl
    same_called s name (Some Scan) arguments same = same_scan s arguments same
    same_called s name (Some (Over operator)) (and_term source arguments) same =
        ap (λ c. over s operator (content_span source) c (to_list arguments)) (same_query source same)
    same_called s name (Some (Over operator)) no_terms same = refl
    same_called s name (Some (Two operator)) (and_term left (and_term right arguments)) same =
        same_two s operator (content_span left) (query_of a left) (query_of b left) (query_of a right) (query_of b right) (to_list arguments)
        (same_query left (first_of Same (read_names left) (read_names right) same)) (same_query right (second_of Same (read_names left) (read_names right) same))
    same_called s name (Some (Two operator)) (and_term left no_terms) same = refl
    same_called s name (Some (Two operator)) no_terms same = refl
    same_called s name None arguments same = refl

  -- ---- changes

  same_array : (name : List ℕ) → Same name → has_array a name ≡ has_array b name
  same_array name same = any_is_found (is_named name) a ∙ ap is_some same ∙ sym (any_is_found (is_named name) b)

  same_created : (t : Span) (name : List ℕ) (written : SchemaText) → Same name → created a t name written ≡ created b t name written
  same_created t name written same =
      then_same (meant written) (created_as a t name) (created_as b t name) (λ schema.
      ap (λ x. demand (not x) t ArrayExists (demand (has_room a) t TooManyArrays (Ok (change.Create name schema)))) (same_array name same)
      ∙ ap (λ x. demand (not (has_array b name)) t ArrayExists (demand x t TooManyArrays (Ok (change.Create name schema)))) room)

  same_stored : (s t : Span) (shape : Schema) (o o' : Option NameEntry) → o ≡ o' → stored_schema a s t shape o ≡ stored_schema b s t shape o'
  same_stored s t shape o o' same = by_found o ∙ ap (stored_schema b s t shape) same
    where
      by_found : (x : Option NameEntry) → stored_schema a s t shape x ≡ stored_schema b s t shape x
      by_found None = ap (λ y. demand y t TooManyArrays (Ok shape)) room
      by_found (Some entry) = refl

  same_store_target : (s : Span) (shape : Schema) (n : Term) → All (read_names n) → store_target a s shape n ≡ store_target b s shape n
  same_store_target s shape (reference t name) same = ap (λ c. then c (target_of name)) (same_stored s t shape (entry_named a name) (entry_named b name) same.0)
  same_store_target s shape n same = refl

  same_insert_target : (s : Span) (shape : Schema) (n : Term) → All (read_names n) → insert_target a s shape n ≡ insert_target b s shape n
  same_insert_target s shape (reference t name) same = ap (λ o. then (inserted_schema s t shape o) (target_of name)) same.0
  same_insert_target s shape n same = refl

  same_store_of : (s : Span) (arguments : Terms) → All (stated_names (Some operator.Store) arguments []) → store_of a s arguments ≡ store_of b s arguments
  same_store_of s (and_term q (and_term n no_terms)) same =
      ap (λ c. then c (λ plan. store_call a s plan n)) (same_query q (first_of Same (read_names q) (read_names n) same))
      ∙ then_same (query_of b q) (λ plan. store_call a s plan n) (λ plan. store_call b s plan n) (λ plan.
      ap (λ c. then c (λ target. Ok (change.Store target.name target.schema plan))) (same_store_target s (schema_of plan) n (second_of Same (read_names q) (read_names n) same)))
  same_store_of s arguments same = refl

  same_insert_of : (s : Span) (arguments : Terms) → All (stated_names (Some operator.Insert) arguments []) → insert_of a s arguments ≡ insert_of b s arguments
  same_insert_of s (and_term q (and_term n no_terms)) same =
      ap (λ c. then c (λ plan. insert_call a s plan n)) (same_query q (first_of Same (read_names q) (read_names n) same))
      ∙ then_same (query_of b q) (λ plan. insert_call a s plan n) (λ plan. insert_call b s plan n) (λ plan.
      ap (λ c. then c (λ target. Ok (change.Insert target.name target.schema plan))) (same_insert_target s (schema_of plan) n (second_of Same (read_names q) (read_names n) same)))
  same_insert_of s arguments same = refl

  same_name : (n : Term) → All (read_names n) → stored_name a n ≡ stored_name b n
  same_name (reference t name) same = ap (known t (Ok name)) same.0
  same_name n same = refl

  same_array_call : (s : Span) (arguments : Terms) → All (stated_names (Some operator.Remove) arguments []) → array_call a s arguments ≡ array_call b s arguments
  same_array_call s (and_term n no_terms) same = same_name n same
  same_array_call s arguments same = refl

  same_cut_by : (t : Span) (name : List ℕ) (at : Span) (o : Option ℤ) → Same name → cut_by a t name at o ≡ cut_by b t name at o
  same_cut_by t name at (Some n) same = ap (cut_of t at name n) same
  same_cut_by t name at None same = refl

  same_cut_from : (n i : Term) → All (read_names n) → cut_from a n i ≡ cut_from b n i
  same_cut_from (reference t name) i same = same_cut_by t name (span_of i) (number_in i) same.0
  same_cut_from n i same = refl

  same_cut : (s : Span) (arguments : Terms) → All (stated_names (Some operator.RemoveVersions) arguments []) → cut_call a s arguments ≡ cut_call b s arguments
  same_cut s (and_term n (and_term i no_terms)) same = same_cut_from n i same
  same_cut s arguments same = refl

  -- ---- statements

  same_said : (s : Span) (o : Option Operator) (arguments : Terms) (x y : Checked Typed) (names : List (List ℕ)) → (All names → x ≡ y) → All (stated_names o arguments names) → said a s o arguments x ≡ said b s o arguments y
  same_said s (Some operator.Store) arguments x y names other same = ap changed (same_store_of s arguments (own arguments same))
    where
      own : (ts : Terms) → All (stated_names (Some operator.Store) ts names) → All (stated_names (Some operator.Store) ts [])
      own (and_term q (and_term n no_terms)) h = h
      own ts h = tt
  same_said s (Some operator.Insert) arguments x y names other same = ap changed (same_insert_of s arguments (own arguments same))
    where
      own : (ts : Terms) → All (stated_names (Some operator.Insert) ts names) → All (stated_names (Some operator.Insert) ts [])
      own (and_term q (and_term n no_terms)) h = h
      own ts h = tt
  same_said s (Some operator.Remove) arguments x y names other same = ap removed (same_array_call s arguments (own arguments same))
    where
      own : (ts : Terms) → All (stated_names (Some operator.Remove) ts names) → All (stated_names (Some operator.Remove) ts [])
      own (and_term n no_terms) h = h
      own ts h = tt
  same_said s (Some operator.RemoveVersions) arguments x y names other same = ap changed (same_cut s arguments (own arguments same))
    where
      own : (ts : Terms) → All (stated_names (Some operator.RemoveVersions) ts names) → All (stated_names (Some operator.RemoveVersions) ts [])
      own (and_term n (and_term i no_terms)) h = h
      own ts h = tt
  same_said s (Some operator.Versions) arguments x y names other same = ap numbered (same_array_call s arguments (own arguments same))
    where
      own : (ts : Terms) → All (stated_names (Some operator.Versions) ts names) → All (stated_names (Some operator.Remove) ts [])
      own (and_term n no_terms) h = h
      own ts h = tt
  same_said s (Some operator.Show) arguments x y names other same = ap shown (same_array_call s arguments (own arguments same))
    where
      own : (ts : Terms) → All (stated_names (Some operator.Show) ts names) → All (stated_names (Some operator.Remove) ts [])
      own (and_term n no_terms) h = h
      own ts h = tt
  same_said s (Some operator.ListNames) arguments x y names other same = refl
  same_said s o arguments x y names other same = other same

  same_statement : (text : List ℕ) (tree : Term) → All (said_names tree) → statement_of a text tree ≡ statement_of b text tree
  same_statement text (create s name written) same = ap changed (same_created (created_place text s name) name written same.0)
  same_statement text (call s name arguments) same =
      same_said s (operator_named name) arguments (queried (query_of a (call s name arguments))) (queried (query_of b (call s name arguments))) (read_names (call s name arguments))
      (λ all. ap queried (same_query (call s name arguments) all)) same
  same_statement text t same = ap queried (same_query t same)

pub checking_reads_names : CheckingReadsNames
checking_reads_names a b text tree agree = same_statement a.arrays b.arrays agree.room text tree agree.entries
