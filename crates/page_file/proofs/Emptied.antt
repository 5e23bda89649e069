-- Nothing that was written for the target counts: what is known stays true.
use Rattle.std.proofs.Common.{◌≡◌, ℕ, ◌+◌, ◌*◌, List, length, IfSome, refl}
use Rattle.page_chain.specs.declared.slots.layout.sides.Side.{Side}
use Rattle.page_chain.specs.declared.slots.layout.sides.Format.{Format}
use Rattle.page_chain.specs.declared.slots.layout.sides.Format.TheVariants.{One, Two}
use Rattle.page_chain.specs.declared.slots.layout.logs.RecordAt.{RecordAt}
use Rattle.page_chain.specs.Standing.{OtherHolds, NextHolds, LogHolds, IsStillRoot, IsStillEntry, filled_root, filled_entry}
use Rattle.page_chain.specs.Steps.{emptied_root, emptied_entry}
use Rattle.page_chain.specs.declared.slots.slots.slots.RootSlot.{RootSlot}
use Rattle.page_chain.specs.declared.slots.slots.slots.RootSlot.TheVariants as roots
use Rattle.page_chain.specs.declared.slots.slots.slots.NextEntry.{NextEntry}
use Rattle.page_chain.specs.declared.slots.slots.slots.NextEntry.TheVariants as entries

pub other_emptied : (known : RootSlot) (side : Side) (sequence : ℕ) (c : List ℕ) → OtherHolds known side sequence c → OtherHolds (emptied_root known) side sequence c
other_emptied roots.Closed side sequence c hold = hold
other_emptied roots.Older side sequence c hold = hold
other_emptied (roots.Written root) side sequence c hold = hold.0
other_emptied (roots.Opening root) side sequence c hold = hold

next_emptied : (known : NextEntry) (at : ℕ) (c : List ℕ) → NextHolds known at c → NextHolds (emptied_entry known) at c
next_emptied entries.Closed at c hold = hold
next_emptied (entries.Written entry) at c hold = hold.0
next_emptied (entries.Opening entry) at c hold = hold

closed_emptied : (known : NextEntry) → known ≡ entries.Closed → emptied_entry known ≡ entries.Closed
closed_emptied entries.Closed is = refl
closed_emptied (entries.Written entry) is = refl
closed_emptied (entries.Opening entry) is = is

pub log_emptied : (format : Format) (log : ℕ) (records : List RecordAt) (known : NextEntry) (c : List ℕ) → LogHolds format log records known c → LogHolds format log records (emptied_entry known) c
log_emptied One log records known c hold = (hold.0, closed_emptied known hold.1)
log_emptied Two log records known c hold = record {
  is_page = hold.is_page;
  fits = hold.fits;
  opened = hold.opened;
  next = λ room. next_emptied known (4096 * log + 64 * length records) c (hold.next room);
  closed = hold.closed;
  each = hold.each;
}

pub still_root : (known : RootSlot) → IsStillRoot known → IsStillRoot (emptied_root known)
still_root roots.Closed still = still
still_root roots.Older still = still
still_root (roots.Written root) still = tt
still_root (roots.Opening root) still = absurd still

pub still_entry : (known : NextEntry) → IsStillEntry known → IsStillEntry (emptied_entry known)
still_entry entries.Closed still = still
still_entry (entries.Written entry) still = tt
still_entry (entries.Opening entry) still = absurd still

pub root_unfilled : (known : RootSlot) (side : Side) (P : ℕ → Type 0) → IsStillRoot known → IfSome (filled_root (emptied_root known) side) P
root_unfilled roots.Closed side P still = tt
root_unfilled roots.Older side P still = tt
root_unfilled (roots.Written root) side P still = tt
root_unfilled (roots.Opening root) side P still = absurd still

pub entry_unfilled : (known : NextEntry) (at : ℕ) (P : ℕ → Type 0) → IsStillEntry known → IfSome (filled_entry (emptied_entry known) at) P
entry_unfilled entries.Closed at P still = tt
entry_unfilled (entries.Written entry) at P still = tt
entry_unfilled (entries.Opening entry) at P still = absurd still
