-- Whether a change that was computed after a history may be committed after a longer one.
use Rattle.std.specs.Prelude.{◌≡◌, ℕ, Bool, true, not, ◌&&◌, nat_eq, List, ◌++◌, length, reverse, IsTrue}
use Rattle.std.specs.List.{AllByRecursion, list_all, list_any}
use Rattle.std.specs.Str.{bytes_eq}
use Rattle.logical_plan.specs.declared.names.Names.{Names}
use Rattle.plan_changes.specs.Changes.{entry_named, name_of}
use Rattle.plan_changes.specs.declared.change.Change.{Change}
use Rattle.afl_types.specs.NamesLaws.{change_names}
use Rattle.event_core.specs.declared.entry.Entry.{Entry}
use Rattle.event_core.specs.declared.entry.Entry.TheVariants.{Pin, Unpin, Commit, Reap}
use Rattle.event_core.specs.declared.state.Core.{Core}
use Rattle.event_core.specs.History.{History, names_at}
use Rattle.array_store.specs.FreshLaws.{AreLeft, SameRoom}

-- whether a change reads an array of a name, or is about it
abbrev pub has_name : Change → List ℕ → Bool
has_name change name = list_any (λ other. bytes_eq name other) (change_names change)

-- whether an entry is no commit about an array that a change reads or is about
abbrev pub leaves_change : Change → Entry → Bool
leaves_change change (Commit session other used) = not (has_name change (name_of other))
leaves_change change (Pin session) = true
leaves_change change (Unpin session) = true
leaves_change change Reap = true

-- A CHANGE IS FRESH after later entries: no commit of them is about an array that it reads or is about, and as many arrays stand as before
abbrev pub is_fresh : List Entry → Names → Names → Change → Bool
is_fresh later now before change = list_all (leaves_change change) later && nat_eq (length now.arrays) (length before.arrays)

-- then such an array has the same entry as before, or none, and what holds of changes of arrays that are left holds of it
pub record IsFresh (base : Core) (later before : History) (change : Change) : Type 0 where
  pub entries : AllByRecursion (λ name. entry_named (names_at base (later ++ before)).arrays name ≡ entry_named (names_at base before).arrays name)
      (change_names change)
  pub left : AreLeft later change
  pub room : SameRoom base later before

abbrev pub FreshChangesAreLeft : Type 0
FreshChangesAreLeft = (base : Core) (later before : History) (change : Change) →
    IsTrue (is_fresh (reverse later) (names_at base (later ++ before)) (names_at base before) change) → IsFresh base later before change
