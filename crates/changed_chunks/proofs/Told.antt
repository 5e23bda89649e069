-- The chunks that are written are those of the change, in a database that the source tells.
use Rattle.std.proofs.Common.{◌≡◌, ℕ, zero, suc, ◌<◌, ◌&&◌, Bool, true, false, cond, nat_eq, List, [], ◌∷◌, length, map, Option, Some, None, Result, Ok, Err, refl, sym, ap, ◌∙◌, subst, arith}
use Rattle.std.specs.Prelude.{IfOk}
use Rattle.std.specs.List.{AllByRecursion, find}
use Rattle.std.specs.Option.{option_map}
use Rattle.std.proofs.lemmas.Bool.Decides.{nat_tests}
use Rattle.cell_values.specs.declared.datum.Broken.{Broken}
use Rattle.cell_values.specs.declared.datum.Row.{Row}
use Rattle.cell_values.specs.declared.schema.Schema.{Schema}
use Rattle.array_rows.specs.Arrays.{AreRowsOf}
use Rattle.array_rows.specs.Rows.{put_all}
use Rattle.array_geom.specs.declared.chunk.Changed.{Changed}
use Rattle.array_geom.specs.Geometry.{ChunkNumber, overlaps}
use Rattle.array_geom.specs.Link.{IsPart, has_cell}
use Rattle.logical_plan.specs.declared.parts.Leaf.{Leaf}
use Rattle.logical_plan.specs.Meaning.{version_rows}
use Rattle.logical_plan.specs.Query.{Query}
use Rattle.plan_changes.specs.declared.change.Change.{Change}
use Rattle.plan_changes.specs.declared.change.Change.TheVariants.{Store, Insert}
use Rattle.plan_changes.specs.Changes.{is_named, newest_of, newest_or}
use Rattle.plan_changes.specs.Databases.{Database, Stored, Version, entry_of, fault_of_change, fitted, is_array, names_of, new_rows, newest_in, newest_rows, rows_if_whole, rows_in, rows_of, rows_or}
use Rattle.plan_changes.specs.Kept.{MeansArray}
use Rattle.plan_changes.specs.Stored.{IsDatabase, IsStored, RiseBetween}
use Rattle.plan_changes.proofs.Found.{find_image}
use Rattle.chunk_source.specs.Source.{SourceState}
use Rattle.chunk_source.specs.declared.reading.fault.ExecFault.{ExecFault}
use Rattle.commit_pages.specs.Changes.{IsChangeOf, is_written}
use Rattle.commit_pages.specs.Lengths.{meets}
use Rattle.changed_chunks.specs.declared.traces.asking.Asking.{Asking}
use Rattle.changed_chunks.specs.Changing.{IsAnswerOver, IsToldOf}
use Rattle.changed_chunks.specs.Inner.Input.{IsFound}
use Rattle.changed_chunks.specs.Inner.Writes.{IsInsertOf, IsStoreOf, Writes}
use Rattle.changed_chunks.specs.Targets.{IsTargetAsking, asking_put}

-- ---- the newest version

another : (n m : ℕ) → n < m → nat_eq m n ≡ false
another n m less = grind (arith, nat_tests)

none_numbered : (low high : ℕ) (versions : List Version) → RiseBetween low high (map (λ v. v.number) versions) → find (λ v. nat_eq v.number 0) versions ≡ None
none_numbered low high [] rise = refl
none_numbered low high (v ∷ versions) rise =
    let above : low < v.number = rise.0 in
    let some : 0 < v.number = omega (arith, above) in
    ap (λ (b : Bool). cond b (Some v) (find (λ (w : Version). nat_eq w.number 0) versions)) (another 0 v.number some) ∙ none_numbered v.number high versions rise.2

-- no version has the number 0
no_rows : (name : List ℕ) (db : Database) → AllByRecursion IsStored (map entry_of db) → rows_in (find (is_array name) db) 0 ≡ []
no_rows name [] all = refl
no_rows name (a ∷ db) all = by_test (is_array name a) (no_rows name db all.1)
  where
    by_test : (b : Bool) → rows_in (find (is_array name) db) 0 ≡ [] → rows_in (cond b (Some a) (find (is_array name) db)) 0 ≡ []
    by_test true later = ap rows_or (none_numbered 0 a.next a.versions all.0.versions)
    by_test false later = later

newest_number : (db : Database) (name : List ℕ) → newest_of (names_of db).arrays name ≡ newest_in (find (is_array name) db)
newest_number db name = ap newest_or (find_image entry_of (is_named name) db) ∙ by_found (find (is_array name) db)
  where
    by_found : (o : Option Stored) → newest_or (option_map entry_of o) ≡ newest_in o
    by_found None = refl
    by_found (Some a) = refl

by_number : (db : Database) (name : List ℕ) (n : ℕ) → IsDatabase db → version_rows (rows_of db) name n ≡ rows_of db name n
by_number db name zero is = sym (no_rows name db is.names.each)
by_number db name (suc n) is = refl

newest_told : (db : Database) (name : List ℕ) (target : Leaf) → IsDatabase db → target.name ≡ name → target.version ≡ newest_of (names_of db).arrays name → version_rows (rows_of db) target.name target.version ≡ newest_rows db name
newest_told db name target is n v =
    (λ i. version_rows (rows_of db) (n i) ((v ∙ newest_number db name) i))
    ∙ by_number db name (newest_in (find (is_array name) db)) is

-- ---- of a change

abbrev IsTold : SourceState → Change → Leaf → Result Changed Broken → Type 0
IsTold source change target made = (db : Database) → IsToldOf source change target db → IsAnswerOver db change made

pub stores_told : (source : SourceState) (change : Change) (target : Leaf) (name : List ℕ) (schema : Schema) (plan : Query) (answer : Result (Result Changed Broken) ExecFault) → change ≡ Store name schema plan
    → IfOk answer (λ made. (db : Database) → source.tells (rows_of db) → (other : List ℕ) → IsAnswerOver db (Store other schema plan) made) → IfOk answer (IsTold source change target)
stores_told source change target name schema plan (Ok made) e told = subst (λ (z : Change). IsTold source z target made) (sym e) (λ db is. told db is.tells name)
stores_told source change target name schema plan (Err fault) e told = tt

pub inserts_told : (source : SourceState) (change : Change) (target : Leaf) (name : List ℕ) (schema : Schema) (plan : Query) (answer : Result (Result Changed Broken) ExecFault) → change ≡ Insert name schema plan
    → IfOk answer (λ made. (db : Database) → source.tells (rows_of db) → (other : List ℕ) → version_rows (rows_of db) target.name target.version ≡ newest_rows db other → IsAnswerOver db (Insert other schema plan) made)
    → IfOk answer (IsTold source change target)
inserts_told source change target name schema plan (Ok made) e told =
    subst (λ (z : Change). IsTold source z target made) (sym e) (λ db is. told db is.tells name (newest_told db name target is.database is.newest.0 is.newest.1))
inserts_told source change target name schema plan (Err fault) e told = tt

-- ---- of an insert's target

abbrev IsCounted : SourceState → Change → Leaf → Asking → Type 0
IsCounted source change target asking = (db : Database) → IsToldOf source change target db → IsTargetAsking db change asking

pub stores_counted : (source : SourceState) (change : Change) (target : Leaf) (name : List ℕ) (schema : Schema) (plan : Query) (asking : Asking) (answer : Result (Result Changed Broken) ExecFault)
    → change ≡ Store name schema plan → IfOk answer (λ made. IfOk made (λ changed. IsCounted source change target asking))
stores_counted source change target name schema plan asking (Ok (Ok changed)) e = subst (λ (z : Change). IsCounted source z target asking) (sym e) (λ db is. tt)
stores_counted source change target name schema plan asking (Ok (Err broken)) e = tt
stores_counted source change target name schema plan asking (Err fault) e = tt

pub inserts_counted : (source : SourceState) (change : Change) (target : Leaf) (name : List ℕ) (schema : Schema) (plan : Query) (asking : Asking) (answer : Result (Result Changed Broken) ExecFault)
    → change ≡ Insert name schema plan
    → IfOk answer (λ made. IfOk made (λ changed. (db : Database) → source.tells (rows_of db)
    → asking ≡ asking_put schema.dimensions (rows_if_whole (fitted schema plan db)) (version_rows (rows_of db) target.name target.version)))
    → IfOk answer (λ made. IfOk made (λ changed. IsCounted source change target asking))
inserts_counted source change target name schema plan asking (Ok (Ok changed)) e counted =
    subst (λ (z : Change). IsCounted source z target asking) (sym e) (λ db is.
    counted db is.tells
    ∙ ap (asking_put schema.dimensions (rows_if_whole (fitted schema plan db))) (newest_told db name target is.database is.newest.0 is.newest.1))
inserts_counted source change target name schema plan asking (Ok (Err broken)) e counted = tt
inserts_counted source change target name schema plan asking (Err fault) e counted = tt

-- ---- what is written of the rows that are found

written_over : (db : Database) (change : Change) (schema : Schema) (whole : Bool) (rows : List Row) (chosen : ChunkNumber → Bool) (changed : Changed) → fault_of_change db change ≡ None
    → Writes schema whole rows chosen changed → rows ≡ new_rows db change → ((k : ChunkNumber) → chosen k ≡ is_written db change k) → IsChangeOf db change changed
written_over db change schema whole rows chosen changed none w same choice = record {
  fault = none;
  rows = subst (λ (z : Schema). AreRowsOf z (new_rows db change)) (sym w.is_of.0) (subst (AreRowsOf schema) same w.rows_of);
  listed = λ k len. w.listed k (len ∙ ap (λ (z : Schema). length z.dimensions) w.is_of.0) ∙ choice k;
  parts = subst (λ (z : Schema). AllByRecursion (IsPart z.dimensions (overlaps z.dimensions) (new_rows db change)) changed.chunks) (sym w.is_of.0)
      (subst (λ (some : List Row). AllByRecursion (IsPart schema.dimensions (overlaps schema.dimensions) some) changed.chunks) same w.parts);
}

module _ (db : Database) (name : List ℕ) (schema : Schema) (plan : Query) (found : Result (List Row) Broken) (input : List Row) (changed : Changed)
    (means : MeansArray db plan) (finds : IsFound (fitted schema plan db) found) (is : found ≡ Ok input) where
  whole_found : IsFound (fitted schema plan db) (Ok input)
  whole_found = subst (IsFound (fitted schema plan db)) is finds

  same_input : input ≡ rows_if_whole (fitted schema plan db)
  same_input = sym (ap rows_if_whole whole_found.0)

  pub answers_store : (rows : List Row) → rows ≡ input → IsStoreOf schema rows changed → IsAnswerOver db (Store name schema plan) (Ok changed)
  answers_store rows e w = record {
    stores = means;
    answer = written_over db (Store name schema plan) schema true rows (has_cell schema.dimensions rows) changed whole_found.1 w (e ∙ same_input)
        (λ k. ap (λ (z : List Row). has_cell schema.dimensions z k) (e ∙ same_input));
  }

  pub answers_insert : (old : List Row) → old ≡ newest_rows db name → IsInsertOf schema input old changed → IsAnswerOver db (Insert name schema plan) (Ok changed)
  answers_insert old newest w = record {
    stores = means;
    answer = written_over db (Insert name schema plan) schema false (put_all input old) (λ k. has_cell schema.dimensions (put_all input old) k && meets schema.dimensions input k) changed whole_found.1 w
        (λ i. put_all (same_input i) (newest i)) (λ k. (λ i. has_cell schema.dimensions (put_all (same_input i) (newest i)) k && meets schema.dimensions (same_input i) k));
  }
