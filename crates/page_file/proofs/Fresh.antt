-- What was read is what is known.
use Rattle.std.proofs.Common.{ℕ, List, length, Option, None, refl, sym, subst, arith}
use Rattle.page_chain.specs.Disk.{Only}
use Rattle.page_chain.specs.Places.{other}
use Rattle.page_chain.specs.Opens.{HasLog, OpensAs}
use Rattle.page_chain.specs.declared.slots.layout.sides.Format.{Format}
use Rattle.page_chain.specs.declared.slots.layout.sides.Format.TheVariants.{One, Two}
use Rattle.page_chain.specs.declared.slots.layout.logs.RecordAt.{RecordAt}
use Rattle.page_chain.specs.Standing.{OtherHolds, LogHolds, Holds, ZeroHolds, IsAlone, IsStillRoot, IsStillEntry, IsSound, filled_gate}
use Rattle.page_chain.specs.declared.slots.slots.slots.Slots.{Slots}
use Rattle.page_chain.specs.declared.slots.slots.slots.RootSlot.{RootSlot}
use Rattle.page_chain.specs.declared.slots.slots.slots.RootSlot.TheVariants as roots
use Rattle.page_chain.specs.declared.slots.slots.slots.NextEntry.{NextEntry}
use Rattle.page_chain.specs.declared.slots.slots.slots.NextEntry.TheVariants as entries
use Rattle.page_chain.specs.declared.slots.slots.slots.Target.{Target}
use Rattle.page_chain.specs.declared.slots.slots.slots.Target.TheVariants as targets
use Rattle.page_chain.proofs.RootCommits.{all_same}
use Rattle.page_file.specs.OpeningOpened.{IsRead, AreFresh}
use Rattle.page_file.proofs.Fronts.{chosen}

log_holds : (format : Format) (log : ℕ) (records : List RecordAt) (file : List ℕ) → HasLog format log records file → LogHolds format log records entries.Closed file
log_holds One log records file has = (has, refl)
log_holds Two log records file has = record {
  is_page = has.0;
  fits = has.1.fits;
  opened = has.1.opened;
  next = λ room. has.1.closed (length records) (omega arith) room;
  closed = λ k low high. has.1.closed k (omega arith) high;
  each = has.1.each;
}

still : (known : RootSlot) → IsRead known → IsStillRoot known
still roots.Closed read = tt
still roots.Older read = tt
still (roots.Written root) read = absurd read
still (roots.Opening root) read = absurd read

pub fresh_sound : (slots : Slots) (seen : List ℕ) (now : List ℕ → Type 0) → Only seen now → OpensAs slots.current slots.records seen → OtherHolds slots.other (other slots.current.side) slots.current.root.sequence seen
    → AreFresh slots → IsSound slots seen now
fresh_sound slots seen now only opens beside fresh = record {
  images = λ c left. subst (Holds slots) (sym (only c left)) holds;
  zeroed = subst (λ (o : Option ℕ). ZeroHolds slots.target o seen) (sym fresh.zeroed) (no_zero slots.target);
  alone = alone slots.target;
  sure = λ is. (still slots.other fresh.other, still_next);
  filled = all_same (filled_gate slots.target slots) seen now only;
}
  where
    holds : Holds slots seen
    holds = record {
      roots = record { front = (chosen seen slots.current opens.slot).front; current = (chosen seen slots.current opens.slot).here; other = beside };
      log = subst (λ (next : NextEntry). LogHolds slots.current.format slots.current.root.log slots.records next seen) (sym fresh.next)
          (log_holds slots.current.format slots.current.root.log slots.records seen opens.log);
    }

    no_zero : (t : Target) → ZeroHolds t None seen
    no_zero targets.Root = tt
    no_zero targets.Record = tt

    still_next : IsStillEntry slots.next
    still_next = subst (λ (next : NextEntry). IsStillEntry next) (sym fresh.next) tt

    alone : (t : Target) → IsAlone t slots
    alone targets.Root = still_next
    alone targets.Record = still slots.other fresh.other
