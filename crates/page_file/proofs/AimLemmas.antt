-- Another target keeps the slots sound.
use Rattle.std.proofs.Common.{◌≡◌, ℕ, List, false, None, IfSome}
use Rattle.page_chain.specs.Places.{other, SameBut}
use Rattle.page_chain.specs.Standing.{ZeroHolds, IsAlone, IsSound, filled_gate, entry_gate}
use Rattle.page_chain.specs.Steps.{aimed}
use Rattle.page_chain.specs.declared.slots.slots.slots.Slots.{Slots}
use Rattle.page_chain.specs.declared.slots.slots.slots.Target.{Target}
use Rattle.page_chain.specs.declared.slots.slots.slots.Target.TheVariants as targets
use Rattle.page_file.proofs.Emptied.{other_emptied, log_emptied, still_root, still_entry, root_unfilled, entry_unfilled}

pub aimed_sound : (target : Target) (slots : Slots) (seen : List ℕ) (may_leave : List ℕ → Type 0) → slots.doubtful ≡ false → IsSound slots seen may_leave → IsSound (aimed target slots) seen may_leave
aimed_sound target slots seen may_leave sure sound = record {
  images = λ c left. let hold = sound.images c left in record {
    roots = record { front = hold.roots.front; current = hold.roots.current; other = other_emptied slots.other (other slots.current.side) slots.current.root.sequence c hold.roots.other };
    log = log_emptied slots.current.format slots.current.root.log slots.records slots.next c hold.log;
  };
  zeroed = no_zero target;
  alone = alone target;
  sure = λ is. (still_root slots.other (sound.sure sure).0, still_entry slots.next (sound.sure sure).1);
  filled = unfilled target;
}
  where
    no_zero : (t : Target) → ZeroHolds t None seen
    no_zero targets.Root = tt
    no_zero targets.Record = tt

    alone : (t : Target) → IsAlone t (aimed target slots)
    alone targets.Root = still_entry slots.next (sound.sure sure).1
    alone targets.Record = still_root slots.other (sound.sure sure).0

    unfilled : (t : Target) → IfSome (filled_gate t (aimed target slots)) (λ at. (c : List ℕ) → may_leave c → SameBut at 1 seen c)
    unfilled targets.Root = root_unfilled slots.other (other slots.current.side) (λ at. (c : List ℕ) → may_leave c → SameBut at 1 seen c) (sound.sure sure).0
    unfilled targets.Record = entry_unfilled slots.next (entry_gate slots) (λ at. (c : List ℕ) → may_leave c → SameBut at 1 seen c) (sound.sure sure).1
