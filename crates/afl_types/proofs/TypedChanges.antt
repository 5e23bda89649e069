-- The changes that checking answers are typed for the names.
use Rattle.std.proofs.Common.{◌≡◌, ℕ, ℤ, pos, negsuc, Bool, true, false, cond, not, ◌&&◌, ◌||◌, Option, Some, None, Ok, IfOk, IsTrue, List, refl, sym, ap, subst}
use Rattle.std.specs.Prelude.{int_le, nat_le, nat_lt, unsigned_abs}
use Rattle.std.specs.List.{list_all}
use Rattle.std.proofs.lemmas.Bool.{and_parts, and_from, or_left, or_right}
use Rattle.cell_values.specs.declared.name.Span.{Span}
use Rattle.cell_values.specs.declared.schema.Schema.{Schema}
use Rattle.cell_values.specs.Schemas.{IsValid, is_valid}
use Rattle.schema_grammar.specs.declared.kinds.TypeKind.TheVariants.{ArrayExists, SchemaDiffers, TooManyArrays, TooManyVersions}
use Rattle.schema_grammar.specs.declared.shape_text.SchemaText.{SchemaText}
use Rattle.afl_trees.specs.Grammar.{span_of}
use Rattle.afl_trees.specs.Term.{Term, create, reference, call, Terms, no_terms, and_term}
use Rattle.logical_plan.proofs.SchemaLaws.{typed_valid}
use Rattle.logical_plan.specs.PlanSchema.{schema_of}
use Rattle.logical_plan.specs.Query.{Query}
use Rattle.logical_plan.specs.declared.names.NameEntry.{NameEntry}
use Rattle.logical_plan.specs.declared.names.Names.{Names}
use Rattle.plan_changes.specs.Allowed.{has_number, has_room}
use Rattle.plan_changes.specs.Changes.{entry_named, has_array, last_of, newest_of, newest_or}
use Rattle.plan_changes.specs.Stored.{AreStored}
use Rattle.plan_changes.specs.Typed.{are_alike, FitsInto, IsTypedFor, IsTypedOver}
use Rattle.plan_changes.specs.declared.change.Change.{Change}
use Rattle.plan_changes.specs.declared.change.Change.TheVariants.{Remove}
use Rattle.check_rules.specs.Checked.{Checked, then}
use Rattle.check_rules.specs.Operators.{operator_named}
use Rattle.check_rules.specs.declared.rules.operator.Operator.{Operator}
use Rattle.check_rules.specs.declared.rules.operator.Operator.TheVariants as operator
use Rattle.check_rules.proofs.RulesHolding.{demanded, thens, of_answer}
use Rattle.check_exprs.specs.Laws.{leaves_fit, all_leaves_fit}
use Rattle.check_rules.specs.Sorts.{number_in}
use Rattle.check_sources.specs.Build.{meant}
use Rattle.check_sources.proofs.Holding.{meant_valid}
use Rattle.afl_types.specs.Changes.{array_call, below_of, created, created_as, cut_at, cut_by, cut_call, cut_from, cut_of, insert_call, insert_target, inserted_schema, known, list_call, store_call, store_target, stored_name, stored_schema}
use Rattle.afl_types.specs.Place.{created_place}
use Rattle.afl_types.specs.declared.types.changes.put.Target.{Target}
use Rattle.afl_types.specs.Arrays.{AreValid}
use Rattle.afl_types.specs.Checking.{check_of}
use Rattle.afl_types.specs.Queries.{query_of}
use Rattle.afl_types.specs.Statements.{changed, insert_of, queried, said, statement_of, store_of}
use Rattle.afl_types.specs.declared.types.statements.checking.Typed.{Typed}
use Rattle.afl_types.specs.declared.types.statements.checking.Typed.TheVariants.{Query as AQuery, Change as AChange, Versions, Show, ListArrays}
use Rattle.afl_types.proofs.Small.{entry_valid}
use Rattle.afl_types.proofs.ReadVersions.{plan_reads}
use Rattle.afl_types.proofs.StoredNames.{found_numbered, has_found, none_numbered, schemas_valid}
use Rattle.afl_types.proofs.TypedQueries.{checked_typed}
use Rattle.afl_types.specs.Laws.{CheckedChangesAreTyped}

module _ (names : Names) (stored : AreStored names) where
  abbrev arrays : List NameEntry
  arrays = names.arrays

  valid : AreValid arrays
  valid = schemas_valid arrays stored.each

  abbrev Fits : Change → Type 0
  Fits change = IsTypedFor names change

  -- ---- a new array

  created_typed : (t : Span) (name : List ℕ) (schema : Schema) → IsValid schema → IfOk (created_as arrays t name schema) Fits
  created_typed t name schema good =
      demanded Fits (not (has_array arrays name)) t ArrayExists _ (λ fresh.
      demanded Fits (has_room arrays) t TooManyArrays _ (λ room.
      (and_from (is_valid schema) (has_room arrays && not (has_array arrays name)) good (and_from (has_room arrays) (not (has_array arrays name)) room fresh), tt)))

  create_typed : (t : Span) (name : List ℕ) (written : SchemaText) → IfOk (created arrays t name written) Fits
  create_typed t name written = thens Fits (meant written) _ (λ schema e. created_typed t name schema (of_answer IsValid (meant written) schema (meant_valid written) e))

  -- ---- a new version

  abbrev Known : List ℕ → Type 0
  Known name = has_array arrays name ≡ true

  abbrev Numbered : List ℕ → Type 0
  Numbered name = list_all (has_number name) arrays ≡ true

  module _ (plan : Query) (over : IsTypedOver names plan) where
    abbrev shape : Schema
    shape = schema_of plan

    -- what is asked of the schema under which a version is stored
    record Stores (name : List ℕ) (schema : Schema) : Type 0 where
      pub good : IsValid schema
      pub place : (has_array arrays name || has_room arrays) ≡ true
      pub number : Numbered name
      pub fits : FitsInto (entry_named arrays name) schema plan

    record Inserts (name : List ℕ) (schema : Schema) : Type 0 where
      pub place : Known name
      pub number : Numbered name
      pub fits : FitsInto (entry_named arrays name) schema plan

    fits_entry : (name : List ℕ) (entry : NameEntry) → entry_named arrays name ≡ Some entry → IsTrue (are_alike entry.schema shape) → FitsInto (entry_named arrays name) entry.schema plan
    fits_entry name entry e alike = subst (λ (o : Option NameEntry). FitsInto o entry.schema plan) (sym e) (refl, alike)

    fits_none : (name : List ℕ) → entry_named arrays name ≡ None → FitsInto (entry_named arrays name) shape plan
    fits_none name e = subst (λ (o : Option NameEntry). FitsInto o shape plan) (sym e) refl

    stores_schema : (s t : Span) (name : List ℕ) (o : Option NameEntry) → entry_named arrays name ≡ o → IfOk (stored_schema arrays s t shape o) (Stores name)
    stores_schema s t name None e =
        demanded (Stores name) (has_room arrays) t TooManyArrays _ (λ room.
        record { good = typed_valid plan over.typed; place = or_right (has_array arrays name) (has_room arrays) room; number = none_numbered name arrays e; fits = fits_none name e })
    stores_schema s t name (Some entry) e =
        demanded (Stores name) (nat_lt entry.next 65536) t TooManyVersions _ (λ number.
        demanded (Stores name) (are_alike entry.schema shape) s SchemaDiffers _ (λ alike.
        record {
          good = entry_valid arrays valid name entry e;
          place = or_left (has_array arrays name) (has_room arrays) (has_found arrays name entry e);
          number = found_numbered name arrays entry stored.rising e number;
          fits = fits_entry name entry e alike;
        }))

    inserts_schema : (s t : Span) (name : List ℕ) (o : Option NameEntry) → entry_named arrays name ≡ o → IfOk (inserted_schema s t shape o) (Inserts name)
    inserts_schema s t name None e = tt
    inserts_schema s t name (Some entry) e =
        demanded (Inserts name) (nat_lt entry.next 65536) t TooManyVersions _ (λ number.
        demanded (Inserts name) (are_alike entry.schema shape) s SchemaDiffers _ (λ alike.
        record { place = has_found arrays name entry e; number = found_numbered name arrays entry stored.rising e number; fits = fits_entry name entry e alike }))

    abbrev StoresIn : Target → Type 0
    StoresIn target = Stores target.name target.schema

    abbrev InsertsIn : Target → Type 0
    InsertsIn target = Inserts target.name target.schema

    stores_target : (s : Span) (n : Term) → IfOk (store_target arrays s shape n) StoresIn
    stores_target s (reference t name) =
        thens StoresIn (stored_schema arrays s t shape (entry_named arrays name)) _ (λ schema e.
        of_answer (Stores name) (stored_schema arrays s t shape (entry_named arrays name)) schema (stores_schema s t name (entry_named arrays name) refl) e)
    stores_target s n = tt

    inserts_target : (s : Span) (n : Term) → IfOk (insert_target arrays s shape n) InsertsIn
    inserts_target s (reference t name) =
        thens InsertsIn (inserted_schema s t shape (entry_named arrays name)) _ (λ schema e.
        of_answer (Inserts name) (inserted_schema s t shape (entry_named arrays name)) schema (inserts_schema s t name (entry_named arrays name) refl) e)
    inserts_target s n = tt

    store_typed : (s : Span) (n : Term) → IfOk (store_call arrays s plan n) Fits
    store_typed s n =
        thens Fits (store_target arrays s shape n) _ (λ target e.
        let h : StoresIn target = of_answer StoresIn (store_target arrays s shape n) target (stores_target s n) e in (
          and_from (is_valid target.schema) ((has_array arrays target.name || has_room arrays) && list_all (has_number target.name) arrays) h.good
              (and_from (has_array arrays target.name || has_room arrays) (list_all (has_number target.name) arrays) h.place h.number),
          (over, h.fits),
        ))

    insert_typed : (s : Span) (n : Term) → IfOk (insert_call arrays s plan n) Fits
    insert_typed s n =
        thens Fits (insert_target arrays s shape n) _ (λ target e.
        let h : InsertsIn target = of_answer InsertsIn (insert_target arrays s shape n) target (inserts_target s n) e in
        (and_from (has_array arrays target.name) (list_all (has_number target.name) arrays) h.place h.number, (over, h.fits)))

  plan_typed : (q : Term) (plan : Query) → IsTrue (leaves_fit q) → query_of arrays q ≡ Ok plan → IsTypedOver names plan
  plan_typed q plan leaves e = record { typed = checked_typed arrays q plan valid leaves e; reads = plan_reads arrays q plan e }

  store_of_typed : (s : Span) (arguments : Terms) → IsTrue (all_leaves_fit arguments) → IfOk (store_of arrays s arguments) Fits
  store_of_typed s (and_term q (and_term n no_terms)) leaves =
      thens Fits (query_of arrays q) _ (λ plan e. store_typed plan (plan_typed q plan (and_parts (leaves_fit q) (all_leaves_fit (and_term n no_terms)) leaves).0 e) s n)
  store_of_typed s arguments leaves = tt

  insert_of_typed : (s : Span) (arguments : Terms) → IsTrue (all_leaves_fit arguments) → IfOk (insert_of arrays s arguments) Fits
  insert_of_typed s (and_term q (and_term n no_terms)) leaves =
      thens Fits (query_of arrays q) _ (λ plan e. insert_typed plan (plan_typed q plan (and_parts (leaves_fit q) (all_leaves_fit (and_term n no_terms)) leaves).0 e) s n)
  insert_of_typed s arguments leaves = tt

  -- ---- an array as it stands

  known_at : (t : Span) (name : List ℕ) (o : Option NameEntry) → entry_named arrays name ≡ o → IfOk (known t (Ok name) o) Known
  known_at t name (Some entry) e = has_found arrays name entry e
  known_at t name None e = tt

  named_known : (n : Term) → IfOk (stored_name arrays n) Known
  named_known (reference t name) = known_at t name (entry_named arrays name) refl
  named_known n = tt

  array_known : (s : Span) (arguments : Terms) → IfOk (array_call arrays s arguments) Known
  array_known s (and_term n no_terms) = named_known n
  array_known s arguments = tt

  -- a number from 1 to the newest version
  abbrev IsBelow : ℕ → ℕ → Type 0
  IsBelow newest below = (nat_le 1 below && nat_le below newest) ≡ true

  below_at : (newest : ℕ) (n : ℤ) (b : Bool) (below : ℕ) → (int_le (pos 1) n && int_le n (pos newest)) ≡ b → cond b (Some (unsigned_abs n)) None ≡ Some below → IsBelow newest below
  below_at newest (pos n) true below is e = let same : n ≡ below = cc in subst (IsBelow newest) same is
  below_at newest (negsuc n) true below is e = absurd cc
  below_at newest n false below is e = absurd (let no : None ≡ Some below = e in cc)

  cut_fits : (at : Span) (name : List ℕ) (newest : ℕ) → has_array arrays name ≡ true → newest_of arrays name ≡ newest → (n : ℤ) (o : Option ℕ) → below_of newest n ≡ o → IfOk (cut_at at name o) Fits
  cut_fits at name newest there is n (Some below) e =
      let low : IsBelow newest below = below_at newest n (int_le (pos 1) n && int_le n (pos newest)) below refl e in
      (and_from (has_array arrays name) (nat_le 1 below && nat_le below (newest_of arrays name)) there (subst (λ (m : ℕ). IsBelow m below) (sym is) low), tt)
  cut_fits at name newest there is n None e = tt

  cut_of_typed : (t at : Span) (name : List ℕ) (n : ℤ) (o : Option NameEntry) → entry_named arrays name ≡ o → IfOk (cut_of t at name n o) Fits
  cut_of_typed t at name n (Some entry) e =
      cut_fits at name (last_of entry.versions) (has_found arrays name entry e) (ap newest_or e) n (below_of (last_of entry.versions) n) refl
  cut_of_typed t at name n None e = tt

  cut_by_typed : (t at : Span) (name : List ℕ) (o : Option ℤ) → IfOk (cut_by arrays t name at o) Fits
  cut_by_typed t at name (Some n) = cut_of_typed t at name n (entry_named arrays name) refl
  cut_by_typed t at name None = tt

  cut_from_typed : (n i : Term) → IfOk (cut_from arrays n i) Fits
  cut_from_typed (reference t name) i = cut_by_typed t (span_of i) name (number_in i)
  cut_from_typed n i = tt

  cut_typed : (s : Span) (arguments : Terms) → IfOk (cut_call arrays s arguments) Fits
  cut_typed s (and_term n (and_term i no_terms)) = cut_from_typed n i
  cut_typed s arguments = tt

  -- ---- statements

  abbrev IsFit : Typed → Type 0
  IsFit (AQuery query) = Unit {0}
  IsFit (AChange change) = Fits change
  IsFit (Versions name) = Unit {0}
  IsFit (Show name) = Unit {0}
  IsFit ListArrays = Unit {0}

  changed_fits : (c : Checked Change) → IfOk c Fits → IfOk (changed c) IsFit
  changed_fits c h = thens IsFit c _ (λ change e. of_answer Fits c change h e)

  queried_fits : (c : Checked Query) → IfOk (queried c) IsFit
  queried_fits c = thens IsFit c _ (λ query e. tt)

  removed_fits : (s : Span) (arguments : Terms) → IfOk (then (array_call arrays s arguments) (λ name. Ok (AChange (Remove name)))) IsFit
  removed_fits s arguments = thens IsFit (array_call arrays s arguments) _ (λ name e. (of_answer Known (array_call arrays s arguments) name (array_known s arguments) e, tt))

  said_fits : (s : Span) (o : Option Operator) (arguments : Terms) (other : Checked Typed) → IsTrue (all_leaves_fit arguments) → IfOk other IsFit → IfOk (said arrays s o arguments other) IsFit
  said_fits s (Some operator.Store) arguments other leaves h = changed_fits (store_of arrays s arguments) (store_of_typed s arguments leaves)
  said_fits s (Some operator.Insert) arguments other leaves h = changed_fits (insert_of arrays s arguments) (insert_of_typed s arguments leaves)
  said_fits s (Some operator.Remove) arguments other leaves h = removed_fits s arguments
  said_fits s (Some operator.RemoveVersions) arguments other leaves h = changed_fits (cut_call arrays s arguments) (cut_typed s arguments)
  said_fits s (Some operator.Versions) arguments other leaves h = thens IsFit (array_call arrays s arguments) _ (λ name e. tt)
  said_fits s (Some operator.Show) arguments other leaves h = thens IsFit (array_call arrays s arguments) _ (λ name e. tt)
  said_fits s (Some operator.ListNames) arguments other leaves h = thens IsFit (list_call s arguments) _ (λ done e. tt)
  said_fits s _ arguments other leaves h = h

  statement_fits : (text : List ℕ) (tree : Term) → IsTrue (leaves_fit tree) → IfOk (statement_of arrays text tree) IsFit
  statement_fits text (create s name written) leaves = changed_fits (created arrays (created_place text s name) name written) (create_typed (created_place text s name) name written)
  statement_fits text (call s name arguments) leaves =
      said_fits s (operator_named name) arguments (queried (query_of arrays (call s name arguments))) leaves (queried_fits (query_of arrays (call s name arguments)))
  statement_fits text tree leaves = queried_fits (query_of arrays tree)

pub changes_typed : CheckedChangesAreTyped
changes_typed names text tree change stored leaves e = of_answer (IsFit names stored) (check_of tree text names) (AChange change) (statement_fits names stored text tree leaves) e
