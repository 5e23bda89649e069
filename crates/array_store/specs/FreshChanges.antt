-- Changes that may be made of a database still may be made of it after entries that leave their arrays as they were.
use Rattle.std.specs.Prelude.{[], ◌∷◌, ◌++◌, codes, Option, Some}
use Rattle.array_geom.specs.declared.chunk.Changed.{Changed}
use Rattle.plan_changes.specs.declared.change.Change.{Change}
use Rattle.plan_changes.specs.declared.change.Change.TheVariants.{Create}
use Rattle.plan_changes.specs.Databases.{Database}
use Rattle.event_core.specs.declared.entry.Entry.TheVariants.{Commit, Pin}
use Rattle.event_core.specs.Cells.{at}
use Rattle.event_core.specs.History.{History}
use Rattle.array_store.specs.FreshLaws.{AreLeft}
use Rattle.commit_pages.specs.Inner.Examples.{insert_at, schema, stored}
use Rattle.commit_pages.specs.Inner.Example.{changed as the_chunk}
use Rattle.prepared_commits.specs.Prepared.{MayBeMade}

-- no commit of the later entries is about an array that the change reads or is about
abbrev pub FreshChangesMayBeMade : Type 0
FreshChangesMayBeMade = (db : Database) (later before : History) (change : Change) (changed : Option Changed) → AreLeft later change
    → MayBeMade (at db before) change changed → MayBeMade (at db (later ++ before)) change changed

-- ---- worked: under a pin a cell is put into A, and then B is made

abbrev pub a_pin : History
a_pin = Pin 1 ∷ []

abbrev pub a_new_array : History
a_new_array = Commit 0 (Create (codes "B") (schema 0)) (record { version = []; catalogue = 5 ∷ [] }) ∷ Pin 0 ∷ []

pub record AFreshInsertMayBeMade : Type 0 where
  pub left : AreLeft a_new_array (insert_at 0 2)
  pub before : MayBeMade (at (stored 0) a_pin) (insert_at 0 2) (Some the_chunk)
  pub now : MayBeMade (at (stored 0) (a_new_array ++ a_pin)) (insert_at 0 2) (Some the_chunk)
