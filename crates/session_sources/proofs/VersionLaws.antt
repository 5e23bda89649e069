-- The versions that can be named, as a source has them.
use Rattle.std.proofs.Common.{◌≡◌, ◌∙◌, ℕ, ◌⊎◌, inl, inr, Bool, true, false, nat_eq, if◌then◌else◌, List, [], Option, None, Some, IsTrue, refl, ap, sym}
use Rattle.std.specs.List.{list_any}
use Rattle.arrayvec.specs.ArrayVec.{ArrayVec}
use Rattle.cell_values.specs.declared.schema.Schema.{Schema}
use Rattle.afl_outside.specs.Disk.{Moment}
use Rattle.chunk_source.specs.Source.{is_among, version_chunks}
use Rattle.logical_plan.specs.declared.names.NameEntry.{NameEntry}
use Rattle.logical_plan.specs.declared.names.Names.{Names}
use Rattle.logical_plan.specs.declared.parts.Leaf.{Leaf}
use Rattle.plan_changes.specs.Changes.{entry_named}
use Rattle.plan_changes.specs.Typed.{IsVersionOf}
use Rattle.event_core.proofs.Tests.{both_not}
use Rattle.snapshot_manager.specs.Calls.{IsLeafOf}
use Rattle.session_sources.specs.Laws.{HeldSourcesHoldVersions, PinnedSourcesHoldVersions}
use Rattle.session_sources.specs.Held.{names_now, store_then}
use Rattle.session_sources.specs.Stored.{schema_in, schema_of}

chosen : (b : Bool) (schema : Schema) → b ≡ true → (if b then Some schema else None) ≡ Some schema
chosen true schema e = refl
chosen false schema e = absurd (both_not false refl e)

same_some : (schema other : Schema) → Some schema ≡ Some other → schema ≡ other
same_some schema other e = cc

taken : (b : Bool) (schema other : Schema) → (if b then Some schema else None) ≡ Some other → (b ≡ true) × (schema ≡ other)
taken true schema other e = (refl, same_some schema other e)
taken false schema other e = absurd cc

-- ---- a leaf is read by the source

named_read : (entry : NameEntry) (leaf : Leaf) → leaf.schema ≡ entry.schema →
    IsTrue (list_any (λ v. nat_eq v leaf.version) entry.versions) ⊎ ((leaf.version ≡ 0) × (entry.versions ≡ [])) →
    (leaf.version ≡ 0) ⊎ (schema_in (Some entry) leaf.version ≡ Some leaf.schema)
named_read entry leaf same (inl among) = inr (chosen (list_any (λ v. nat_eq v leaf.version) entry.versions) entry.schema among ∙ ap Some (sym same))
named_read entry leaf same (inr none) = inl none.0

version_read : (o : Option NameEntry) (leaf : Leaf) → IsVersionOf leaf o → (leaf.version ≡ 0) ⊎ (schema_in o leaf.version ≡ Some leaf.schema)
version_read None leaf e = absurd e
version_read (Some entry) leaf e = named_read entry leaf e.0 e.1

pub leaf_read : (names : Names) (leaf : Leaf) → IsLeafOf names leaf → (leaf.version ≡ 0) ⊎ (schema_of names leaf.name leaf.version ≡ Some leaf.schema)
leaf_read names leaf e = version_read (entry_named names.arrays leaf.name) leaf e

pub pinned_sources_hold_versions : {D : Type 0} (moment : D → Moment) → PinnedSourcesHoldVersions moment
pinned_sources_hold_versions moment r leaf e = leaf_read r.lent.pinned.names leaf e

pub held_sources_hold_versions : {D : Type 0} (moment : D → Moment) → HeldSourcesHoldVersions moment
held_sources_hold_versions moment h leaf e = leaf_read (names_now (store_then moment h).ledger) leaf e

-- ---- what is read, but of version 0, is a leaf

version_of_schema : (o : Option NameEntry) (leaf : Leaf) → schema_in o leaf.version ≡ Some leaf.schema → IsVersionOf leaf o
version_of_schema None leaf e = absurd cc
version_of_schema (Some entry) leaf e =
    let p : (list_any (λ v. nat_eq v leaf.version) entry.versions ≡ true) × (entry.schema ≡ leaf.schema) =
    taken (list_any (λ v. nat_eq v leaf.version) entry.versions) entry.schema leaf.schema e in
    (sym p.1, inl p.0)

pub leaf_unless : (names : Names) (leaf : Leaf) → ¬ (leaf.version ≡ 0) → (leaf.version ≡ 0) ⊎ (schema_of names leaf.name leaf.version ≡ Some leaf.schema) → IsLeafOf names leaf
leaf_unless names leaf some (inl none) = absurd (some none)
leaf_unless names leaf some (inr e) = version_of_schema (entry_named names.arrays leaf.name) leaf e

-- version 0 lists no chunk
pub leaf_listed : (names : Names) (leaf : Leaf) (chunks : List ℕ → ℕ → List (ArrayVec ℕ)) (at : ArrayVec ℕ) →
    IsTrue (is_among at (version_chunks chunks leaf.name leaf.version)) →
    (leaf.version ≡ 0) ⊎ (schema_of names leaf.name leaf.version ≡ Some leaf.schema) → IsLeafOf names leaf
leaf_listed names leaf chunks at among (inl none) =
    absurd (both_not false refl (ap (λ (n : ℕ). is_among at (version_chunks chunks leaf.name n)) (sym none) ∙ among))
leaf_listed names leaf chunks at among (inr e) = version_of_schema (entry_named names.arrays leaf.name) leaf e
