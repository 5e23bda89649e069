-- Stores and inserts of plans that read nothing.
use Rattle.std.proofs.Common.{◌≡◌, ℕ, ◌||◌, ◌&&◌, List, [], Option, Some, inl, sym, subst}
use Rattle.std.specs.List.{AllByRecursion, list_all}
use Rattle.std.proofs.lemmas.Bool.{and_parts}
use Rattle.cell_values.specs.declared.schema.Schema.{Schema}
use Rattle.cell_values.specs.Schemas.{IsValid, is_valid}
use Rattle.chunk_source.specs.InMemory.{sure_state, unread}
use Rattle.chunk_source.specs.Source.{Reads}
use Rattle.logical_plan.specs.declared.names.Names.{Names}
use Rattle.logical_plan.specs.declared.parts.Leaf.{Leaf}
use Rattle.logical_plan.specs.Leaves.{leaves}
use Rattle.logical_plan.specs.Query.{Query}
use Rattle.logical_plan.specs.declared.names.NameEntry.{NameEntry}
use Rattle.plan_changes.specs.declared.change.Change.TheVariants.{Store, Insert}
use Rattle.plan_changes.specs.Allowed.{has_number, has_room}
use Rattle.plan_changes.specs.Changes.{entry_named, has_array, is_named}
use Rattle.plan_changes.specs.Stored.{AreStored, IsStored as IsStoredEntry}
use Rattle.plan_changes.specs.Typed.{FitsInto, IsTypedFor}
use Rattle.store_state.proofs.Finds.{any_found, found_in_all}
use Rattle.test_quiet.specs.Chunks.{CanBeMade, HasNoVersion}

pub store_can_be_made : (names : Names) (name : List ℕ) (schema : Schema) (plan : Query) (target : Leaf) → IsTypedFor names (Store name schema plan) → leaves plan ≡ [] →
    CanBeMade (Store name schema plan) target
store_can_be_made names name schema plan target typed none = record {
  computed = record { typed = typed.1.0.typed; reads = subst (AllByRecursion (Reads (sure_state (unread [])))) (sym none) tt };
  valid = (and_parts (is_valid schema) ((has_array names.arrays name || has_room names.arrays) && list_all (has_number name) names.arrays) typed.0).0;
  fits = (entry_named names.arrays name, typed.1.1);
}

-- the schema of an insert is that of its array
insert_is_valid : (names : Names) (name : List ℕ) (schema : Schema) (plan : Query) → AreStored names → IsTypedFor names (Insert name schema plan) → IsValid schema
insert_is_valid names name schema plan stored typed =
    let found = any_found (is_named name) names.arrays (and_parts (has_array names.arrays name) (list_all (has_number name) names.arrays) typed.0).0 in
    let fits : FitsInto (Some found.0) schema plan = subst (λ (o : Option NameEntry). FitsInto o schema plan) found.1 typed.1.1 in
    subst IsValid (sym fits.0) (found_in_all IsStoredEntry (is_named name) names.arrays found.0 stored.each found.1).holds.schema

pub insert_can_be_made : (names : Names) (name : List ℕ) (schema : Schema) (plan : Query) (target : Leaf) → AreStored names → IsTypedFor names (Insert name schema plan) → leaves plan ≡ [] →
    HasNoVersion schema target → CanBeMade (Insert name schema plan) target
insert_can_be_made names name schema plan target stored typed none of = (
  record {
    computed = record { typed = typed.1.0.typed; reads = subst (AllByRecursion (Reads (sure_state (unread [])))) (sym none) tt };
    valid = insert_is_valid names name schema plan stored typed;
    fits = (entry_named names.arrays name, typed.1.1);
  },
  inl of.none,
  of.of,
)
