-- A change that may be made, after entries that leave its arrays alone.
use Rattle.std.proofs.Common.{◌≡◌, ◌∙◌, ◌++◌, ℕ, ◌&&◌, List, [], ◌∷◌, map, Option, None, Some, Result, IfOk, IfSome, refl, ap, sym, subst}
use Rattle.std.specs.List.{AllByRecursion}
use Rattle.cell_values.specs.declared.datum.Broken.{Broken}
use Rattle.cell_values.specs.declared.datum.Row.{Row}
use Rattle.cell_values.specs.declared.schema.Schema.{Schema}
use Rattle.array_rows.specs.Arrays.{AreRowsOf, Meant}
use Rattle.array_geom.specs.declared.chunk.Changed.{Changed}
use Rattle.array_geom.specs.Geometry.{ChunkNumber, overlaps}
use Rattle.array_geom.specs.Link.{IsPart, has_cell}
use Rattle.logical_plan.specs.CellOps.{fit_rows}
use Rattle.logical_plan.specs.Faults.{if_whole}
use Rattle.logical_plan.specs.Leaves.{leaves}
use Rattle.logical_plan.specs.Meaning.{meaning}
use Rattle.logical_plan.specs.PlanSchema.{schema_of}
use Rattle.logical_plan.specs.Query.{Query}
use Rattle.plan_changes.specs.declared.change.Change.{Change}
use Rattle.plan_changes.specs.declared.change.Change.TheVariants.{Create, Store, Insert, Remove, RemoveVersions}
use Rattle.plan_changes.specs.Databases.{Database, fitted, new_rows, rows_if_whole, rows_of}
use Rattle.plan_changes.specs.Kept.{MeansArray, StoresArray}
use Rattle.event_core.specs.Cells.{at}
use Rattle.event_core.specs.History.{History}
use Rattle.afl_types.specs.NamesLaws.{leaf_names}
use Rattle.afl_types.proofs.Agreeing.{first_of}
use Rattle.array_store.specs.ChangesLeft.{IsLeft}
use Rattle.array_store.specs.FreshLaws.{AreLeft}
use Rattle.array_store.proofs.Left.{plans_stay}
use Rattle.array_store.proofs.Fresh.{changes_mean_the_same}
use Rattle.commit_pages.specs.Lengths.{meets}
use Rattle.commit_pages.specs.Changes.{IsChangeOf, is_written}
use Rattle.array_store.specs.FreshChanges.{FreshChangesMayBeMade}

of_images : {A B : Type 0} (P : B → Type 0) (f : A → B) (xs : List A) → AllByRecursion P (map f xs) → AllByRecursion (λ x. P (f x)) xs
of_images P f [] all = tt
of_images P f (x ∷ xs) all = (all.0, of_images P f xs all.1)

module _ (db : Database) (later before : History) where
  abbrev old : Database
  old = at db before

  abbrev new : Database
  new = at db (later ++ before)

  -- ---- the plan of a change means what it did

  same_meaning : (plan : Query) (name : List ℕ) → AllByRecursion (IsLeft later) (leaf_names plan ++ name ∷ []) → meaning (rows_of new) plan ≡ meaning (rows_of old) plan
  same_meaning plan name left =
      plans_stay db later before plan (of_images (IsLeft later) (λ leaf. leaf.name) (leaves plan) (first_of (IsLeft later) (leaf_names plan) (name ∷ []) left))

  same_fitted : (schema : Schema) (plan : Query) (name : List ℕ) → AllByRecursion (IsLeft later) (leaf_names plan ++ name ∷ []) → fitted schema plan new ≡ fitted schema plan old
  same_fitted schema plan name left = ap (λ (m : Meant). if_whole (fit_rows schema.attributes) m.rows) (same_meaning plan name left)

  still_means : (plan : Query) (name : List ℕ) → AllByRecursion (IsLeft later) (leaf_names plan ++ name ∷ []) → MeansArray old plan → MeansArray new plan
  still_means plan name left means = subst (λ (m : Meant). IfOk m.rows (AreRowsOf (schema_of plan))) (sym (same_meaning plan name left)) means

  still_stores : (change : Change) → AreLeft later change → StoresArray old change → StoresArray new change
  still_stores (Create name schema) left stores = tt
  still_stores (Store name schema plan) left stores = still_means plan name left stores
  still_stores (Insert name schema plan) left stores = still_means plan name left stores
  still_stores (Remove name) left stores = tt
  still_stores (RemoveVersions name below) left stores = tt

  -- ---- it writes the same chunks

  same_rows : (change : Change) → AreLeft later change → new_rows new change ≡ new_rows old change
  same_rows change left = (changes_mean_the_same db later before change left).1

  same_written : (change : Change) → AreLeft later change → (k : ChunkNumber) → is_written new change k ≡ is_written old change k
  same_written (Create name schema) left k = refl
  same_written (Store name schema plan) left k = ap (λ (rows : List Row). has_cell schema.dimensions rows k) (same_rows (Store name schema plan) left)
  same_written (Insert name schema plan) left k =
      ap (λ (rows : List Row). has_cell schema.dimensions rows k && meets schema.dimensions (rows_if_whole (fitted schema plan new)) k) (same_rows (Insert name schema plan) left)
      ∙ ap (λ (put : Result (List Row) Broken). has_cell schema.dimensions (new_rows old (Insert name schema plan)) k && meets schema.dimensions (rows_if_whole put) k)
      (same_fitted schema plan name left)
  same_written (Remove name) left k = refl
  same_written (RemoveVersions name below) left k = refl

  still_change : (change : Change) (changed : Changed) → AreLeft later change → IsChangeOf old change changed → IsChangeOf new change changed
  still_change change changed left is =
      let rows : new_rows old change ≡ new_rows new change = sym (same_rows change left) in
      record {
        fault = (changes_mean_the_same db later before change left).0 ∙ is.fault;
        rows = subst (AreRowsOf changed.schema) rows is.rows;
        listed = λ k length. is.listed k length ∙ sym (same_written change left k);
        parts = subst (λ (rs : List Row). AllByRecursion (IsPart changed.schema.dimensions (overlaps changed.schema.dimensions) rs) changed.chunks) rows is.parts;
      }

  still_chunks : (change : Change) (changed : Option Changed) → AreLeft later change → IfSome changed (IsChangeOf old change) → IfSome changed (IsChangeOf new change)
  still_chunks change None left none = none
  still_chunks change (Some changed) left is = still_change change changed left is

pub may_be_made : FreshChangesMayBeMade
may_be_made db later before change changed left may = record {
  stores = still_stores db later before change left may.stores;
  fault = (changes_mean_the_same db later before change left).0 ∙ may.fault;
  chunks = still_chunks db later before change changed left may.chunks;
}
