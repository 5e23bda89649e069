-- Legal histories.
use Rattle.std.specs.Prelude.{◌≡◌, ℕ, Bool, false, not, ◌&&◌, ◌||◌, nat_eq, [], ◌∷◌, length, None, IsTrue}
use Rattle.plan_changes.specs.declared.change.Change.{Change}
use Rattle.plan_changes.specs.Databases.{Database, fault_of_change, names_of}
use Rattle.plan_changes.specs.Kept.{StoresArray}
use Rattle.plan_changes.specs.Stored.{IsDatabase, AreStored, HasItsNames}
use Rattle.plan_changes.specs.Typed.{HasTypedPlan}
use Rattle.event_core.specs.declared.entry.Entry.{Entry}
use Rattle.event_core.specs.declared.entry.Entry.TheVariants.{Pin, Unpin, Commit, Reap}
use Rattle.event_core.specs.declared.state.Core.{Core}
use Rattle.event_core.specs.History.{History, names_at}
use Rattle.event_core.specs.Pages.{fresh_at}
use Rattle.event_core.specs.Allowed.{IsBase, allows}
use Rattle.event_core.specs.Agree.{HavePages}
use Rattle.event_core.specs.Cells.{at}

-- whether a session has a commit under its open pin, told by its own entries alone
abbrev pub has_committed : ℕ → History → Bool
has_committed s [] = false
has_committed s (Pin t ∷ before) = not (nat_eq t s) && has_committed s before
has_committed s (Unpin t ∷ before) = has_committed s before
has_committed s (Commit t change used ∷ before) = nat_eq t s || has_committed s before
has_committed s (Reap ∷ before) = has_committed s before

-- one commit a pin, of a typed plan, about an array and a schema that have names
abbrev pub IsOrderly : Core → History → Entry → Type 0
IsOrderly base h (Pin s) = Unit {0}
IsOrderly base h (Unpin s) = Unit {0}
IsOrderly base h (Commit s change used) = IsTrue (not (has_committed s h)) × HasItsNames change × HasTypedPlan (names_at base h) change
IsOrderly base h Reap = Unit {0}

-- how many pages a change takes over a database after a history: those of its payloads, its directory and its record or
-- catalogue. The layout of the file tells it
abbrev pub Cost : Type 0
Cost = Database → History → Change → ℕ

-- a change without fault, on as many fresh pages as it costs
abbrev pub IsSound : Cost → Database → Core → History → Entry → Type 0
IsSound cost db base h (Pin s) = Unit {0}
IsSound cost db base h (Unpin s) = Unit {0}
IsSound cost db base h (Commit s change used) = (fault_of_change (at db h) change ≡ None) × (length (fresh_at base h change used) ≡ cost (at db h) h change)
IsSound cost db base h Reap = Unit {0}

-- where a legal history begins: a base that has the names of a database, and pages for each version that can be named, and for no other
pub record BeginsAt (db : Database) (start : Core) : Type 0 where
  pub base : IsBase start
  pub database : IsDatabase db
  pub names : start.names ≡ names_of db
  pub pages : HavePages start.names start.pages

-- each entry is allowed, orderly and sound after those before it
abbrev pub IsLegal : Cost → Database → Core → History → Type 0
IsLegal cost db base [] = BeginsAt db base
IsLegal cost db base (entry ∷ before) = IsLegal cost db base before × IsTrue (allows base before entry)
    × IsOrderly base before entry × IsSound cost db base before entry

-- ---- where nothing is known of the cells

-- the same of a base, without a database
pub record BeginsWithNames (start : Core) : Type 0 where
  pub base : IsBase start
  pub names : AreStored start.names
  pub pages : HavePages start.names start.pages

-- each entry is allowed and orderly after those before it. Nothing is said of faults and of costs
abbrev pub IsOrdered : Core → History → Type 0
IsOrdered base [] = BeginsWithNames base
IsOrdered base (entry ∷ before) = IsOrdered base before × IsTrue (allows base before entry) × IsOrderly base before entry

-- the plan of each change of a history means an array of its schema over the database before it
abbrev pub AllStoreArrays : Database → History → Type 0
AllStoreArrays db [] = Unit {0}
AllStoreArrays db (Pin s ∷ before) = AllStoreArrays db before
AllStoreArrays db (Unpin s ∷ before) = AllStoreArrays db before
AllStoreArrays db (Commit s change used ∷ before) = AllStoreArrays db before × StoresArray (at db before) change
AllStoreArrays db (Reap ∷ before) = AllStoreArrays db before
