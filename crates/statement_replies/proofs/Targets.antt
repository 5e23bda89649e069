-- The newest version of an array into which something is put: the source has it.
use Rattle.std.proofs.Common.{◌≡◌, ◌⊎◌, inl, inr, ℕ, suc, ◌-◌, true, false, ◌&&◌, ◌||◌, nat_eq, List, [], ◌∷◌, length, Option, Some, None, IsTrue, refl, sym, ap, subst, ◌∙◌, arith}
use Rattle.std.specs.Prelude.{slice_index_or}
use Rattle.std.specs.List.{AllByRecursion, list_all, list_any}
use Rattle.std.proofs.lemmas.Bool.{and_parts, eq-eqb, or_left, or_right}
use Rattle.cell_values.specs.declared.schema.Schema.{Schema}
use Rattle.cell_values.specs.Schemas.{IsValid, is_valid}
use Rattle.logical_plan.specs.declared.names.NameEntry.{NameEntry}
use Rattle.logical_plan.specs.declared.names.Names.{Names}
use Rattle.logical_plan.specs.declared.parts.Leaf.{Leaf}
use Rattle.logical_plan.specs.Leaves.{leaves}
use Rattle.logical_plan.specs.Query.{Query}
use Rattle.plan_changes.specs.declared.change.Change.{Change}
use Rattle.plan_changes.specs.declared.change.Change.TheVariants.{Create, Store, Insert, Remove, RemoveVersions}
use Rattle.plan_changes.specs.Allowed.{has_number, has_room}
use Rattle.plan_changes.specs.Changes.{entry_named, has_array, is_named, last_of, newest_of, newest_or}
use Rattle.plan_changes.specs.Databases.{Database, names_of}
use Rattle.plan_changes.specs.Stored.{AreStored}
use Rattle.plan_changes.specs.Typed.{FitsInto, IsTypedFor, IsTypedOver, IsVersionOf}
use Rattle.afl_types.proofs.Small.{entry_valid}
use Rattle.afl_types.proofs.Agreeing.{any_is_found, is_some}
use Rattle.afl_types.proofs.StoredNames.{schemas_valid}
use Rattle.chunk_exec.specs.Computed.{CanCompute}
use Rattle.chunk_source.specs.Source.{Keeps, SourceState, Reads}
use Rattle.changed_chunks.specs.Changing.{CanChange, IsTargetIn, IsToldOf}
use Rattle.statement_replies.specs.Reading.{HoldsVersions}
use Rattle.statement_replies.specs.Traces.{CanTrace, newest_leaf}
use Rattle.statement_replies.proofs.TracedReplies.{can_still}
use Rattle.statement_replies.specs.Inner.Made.{IsPutUnder}
use Rattle.statement_replies.specs.Outcomes.{IsToldBy}

-- ---- the last of some versions is one of them

last_on : (n m : ℕ) (ns : List ℕ) → last_of (n ∷ m ∷ ns) ≡ last_of (m ∷ ns)
last_on n m ns =
    let a : length (n ∷ m ∷ ns) - 1 ≡ suc (length ns) = omega arith in
    let b : length (m ∷ ns) - 1 ≡ length ns = omega arith in
    ap (λ (k : ℕ). slice_index_or (n ∷ m ∷ ns) k 0) a ∙ sym (ap (λ (k : ℕ). slice_index_or (m ∷ ns) k 0) b)

last_among : (n : ℕ) (ns : List ℕ) → list_any (λ v. nat_eq v (last_of (n ∷ ns))) (n ∷ ns) ≡ true
last_among n [] = or_left (nat_eq n (last_of (n ∷ []))) false (eq-eqb n (last_of (n ∷ [])) refl)
last_among n (m ∷ ns) =
    let later : list_any (λ v. nat_eq v (last_of (n ∷ m ∷ ns))) (m ∷ ns) ≡ true =
    subst (λ (k : ℕ). list_any (λ v. nat_eq v k) (m ∷ ns) ≡ true) (sym (last_on n m ns)) (last_among m ns) in
    or_right (nat_eq n (last_of (n ∷ m ∷ ns))) (list_any (λ v. nat_eq v (last_of (n ∷ m ∷ ns))) (m ∷ ns)) later

last_stands : (versions : List ℕ) → IsTrue (list_any (λ v. nat_eq v (last_of versions)) versions) ⊎ ((last_of versions ≡ 0) × (versions ≡ []))
last_stands [] = inr (refl, refl)
last_stands (n ∷ ns) = inl (last_among n ns)

-- ---- a change that may be computed

module _ (names : Names) (source : SourceState) (holds : HoldsVersions names source) where
  abbrev arrays : List NameEntry
  arrays = names.arrays

  all_read : (all : List Leaf) → AllByRecursion (λ leaf. IsVersionOf leaf (entry_named arrays leaf.name)) all → AllByRecursion (Reads source) all
  all_read [] reads = tt
  all_read (leaf ∷ all) reads = (holds leaf reads.0, all_read all reads.1)

  -- a plan that is typed over the names
  pub computed : (plan : Query) → IsTypedOver names plan → CanCompute source plan
  computed plan over = record { typed = over.typed; reads = all_read (leaves plan) over.reads }

  -- its plan can be computed over what the source is later
  pub can_trace : (later : SourceState) (change : Change) → Keeps source later → IsTypedFor names change → CanTrace later change
  can_trace later (Create name schema) kept typed = tt
  can_trace later (Store name schema plan) kept typed = can_still source later plan kept (computed plan typed.1.0)
  can_trace later (Insert name schema plan) kept typed = can_still source later plan kept (computed plan typed.1.0)
  can_trace later (Remove name) kept typed = tt
  can_trace later (RemoveVersions name below) kept typed = tt

  module _ (stored : AreStored names) (name : List ℕ) (schema : Schema) (plan : Query) where
    -- into an array that stands
    version_stands : (o : Option NameEntry) → is_some o ≡ true → FitsInto o schema plan → IsVersionOf (record { name = name; version = newest_or o; schema = schema }) o
    version_stands None there fits = absurd (let no : false ≡ true = there in cc)
    version_stands (Some entry) there fits = (fits.0, last_stands entry.versions)

    schema_valid : (o : Option NameEntry) → entry_named arrays name ≡ o → is_some o ≡ true → FitsInto o schema plan → IsValid schema
    schema_valid None e there fits = absurd (let no : false ≡ true = there in cc)
    schema_valid (Some entry) e there fits = subst IsValid (sym fits.0) (entry_valid arrays (schemas_valid arrays stored.each) name entry e)

    can_insert : IsTypedFor names (Insert name schema plan) → CanChange source (Insert name schema plan) (newest_leaf names name schema)
    can_insert typed =
        let there : is_some (entry_named arrays name) ≡ true =
        sym (any_is_found (is_named name) arrays) ∙ (and_parts (has_array arrays name) (list_all (has_number name) arrays) typed.0).0 in (
          record {
            computed = computed plan typed.1.0;
            valid = schema_valid (entry_named arrays name) refl there typed.1.1;
            fits = (entry_named arrays name, typed.1.1);
          },
          holds (newest_leaf names name schema) (version_stands (entry_named arrays name) there typed.1.1),
          refl,
        )

    can_store : (target : Leaf) → IsTypedFor names (Store name schema plan) → CanChange source (Store name schema plan) target
    can_store target typed = record {
      computed = computed plan typed.1.0;
      valid = (and_parts (is_valid schema) ((has_array arrays name || has_room arrays) && list_all (has_number name) arrays) typed.0).0;
      fits = (entry_named arrays name, typed.1.1);
    }

  can_put : AreStored names → (change : Change) (name : List ℕ) (schema : Schema) → IsPutUnder name schema change → IsTypedFor names change → CanChange source change (newest_leaf names name schema)
  can_put stored (Create other shape) name schema put typed = absurd put
  can_put stored (Store other shape plan) name schema put typed = can_store stored other shape plan (newest_leaf names name schema) typed
  can_put stored (Insert other shape plan) name schema put typed =
      subst (CanChange source (Insert other shape plan)) (λ i. newest_leaf names (put.0 i) (put.1 i)) (can_insert stored other shape plan typed)
  can_put stored (Remove other) name schema put typed = absurd put
  can_put stored (RemoveVersions other below) name schema put typed = absurd put

  pub can_change : AreStored names → (change : Change) (name : List ℕ) (schema : Schema) (target : Leaf) → target ≡ newest_leaf names name schema → IsPutUnder name schema change → IsTypedFor names change
      → CanChange source change target
  can_change stored change name schema target is put typed = subst (CanChange source change) (sym is) (can_put stored change name schema put typed)

-- ---- its target

newest_put : (names : Names) (db : Database) (change : Change) (name : List ℕ) (schema : Schema) → names_of db ≡ names → IsPutUnder name schema change → IsTargetIn db change (newest_leaf names name schema)
newest_put names db (Create other shape) name schema named put = tt
newest_put names db (Store other shape plan) name schema named put = tt
newest_put names db (Insert other shape plan) name schema named put = (sym put.0, λ i. newest_of (sym named i).arrays (sym put.0 i))
newest_put names db (Remove other) name schema named put = tt
newest_put names db (RemoveVersions other below) name schema named put = tt

module _ (names : Names) (change : Change) (name : List ℕ) (schema : Schema) (target : Leaf) (is : target ≡ newest_leaf names name schema) (put : IsPutUnder name schema change) where
  pub told_of : (source : SourceState) (db : Database) → IsToldBy names source db → IsToldOf source change target db
  told_of source db told = record {
    database = told.database;
    tells = told.tells;
    newest = subst (IsTargetIn db change) (sym is) (newest_put names db change name schema told.named put);
  }
