-- Pages that aren't page 0 or the log page were written: the slots stay sound.
use Rattle.std.proofs.Common.{◌≡◌, ◌<◌, ◌≤◌, ℕ, ◌+◌, ◌-◌, ◌*◌, true, false, List, length, slice_index, Option, Some, None, IfSome, sym, ◌∙◌, ap, subst, arith}
use Rattle.std.proofs.lemmas.Bool.Decides.{nat_tests}
use Rattle.page_chain.proofs.Moments.{moment_at, seeing, stated}
use Rattle.page_chain.specs.Disk.{DiskState, Follows, LeavesOnly}
use Rattle.page_chain.specs.Places.{other, IsNone, KeepsPages, SameBut}
use Rattle.page_chain.specs.Roots.{has_front}
use Rattle.page_chain.specs.declared.slots.layout.sides.Format.{Format}
use Rattle.page_chain.specs.declared.slots.layout.sides.Format.TheVariants.{One, Two}
use Rattle.page_chain.specs.declared.slots.layout.logs.RecordAt.{RecordAt}
use Rattle.page_chain.specs.Inner.Runs.{Over, OnlyWrites, Sees}
use Rattle.page_chain.specs.Standing.{Holds, LogHolds, IsClosed, IsSound, IsAlone, IsStillRoot, ZeroHolds, filled_gate, entry_gate, KeepsSound, LeavesOpening, MayOpen}
use Rattle.page_chain.specs.Steps.{emptied_root, emptied_entry, emptied}
use Rattle.page_chain.specs.declared.slots.slots.slots.Slots.{Slots}
use Rattle.page_chain.specs.declared.slots.slots.slots.NextEntry.{NextEntry}
use Rattle.page_chain.specs.declared.slots.slots.slots.Target.{Target}
use Rattle.page_chain.specs.declared.slots.slots.slots.Target.TheVariants as targets
use Rattle.page_chain.proofs.RootImages.{roots_kept}
use Rattle.page_chain.proofs.LogImages.{page_kept}
use Rattle.page_chain.proofs.Opening.{may_open}
use Rattle.page_chain.proofs.PutLemmas.{if_some, wider}
use Rattle.page_chain.specs.Pages.{page_size, HoldsBlob}
use Rattle.page_chain.specs.Standing.{IsZeroed}
use Rattle.page_file.specs.Written.{MayWrite, unwritten, zeroed_by, blob_written, pages_written}
use Rattle.page_file.proofs.Zeros.{unwritten_holds, zeroed_holds}
use Rattle.page_file.proofs.Emptied.{other_emptied, log_emptied, still_root, still_entry, root_unfilled, entry_unfilled}

for_some : (o : Option (List ℕ)) (Q : List ℕ → Type 0) → ((x : List ℕ) → Q x) → IfSome o Q
for_some None Q f = tt
for_some (Some x) Q f = f x

long_front : (c : List ℕ) → has_front c ≡ true → 4096 ≤ length c
long_front c front = grind (arith, nat_tests)

front_stays : (pages d c : List ℕ) → IsNone pages 0 → KeepsPages pages d c → 4096 ≤ length d → (k : ℕ) → k < 4096 → slice_index c k ≡ slice_index d k
front_stays pages d c none keeps long k low =
    subst (λ (i : ℕ). slice_index c i ≡ slice_index d i) (place k) (keeps.others 0 k none low (omega arith))
  where
    place : (k : ℕ) → 4096 * 0 + k ≡ k
    place k = omega arith

log_stays : (format : Format) (log : ℕ) (records : List RecordAt) (next : NextEntry) (pages d c : List ℕ) → IsNone pages log → KeepsPages pages d c → LogHolds format log records next d → LogHolds format log records next c
log_stays One log records next pages d c none keeps hold = hold
log_stays Two log records next pages d c none keeps hold = page_kept log records next d c keeps.no_shorter each hold
  where
    each : (k : ℕ) → 4096 * log ≤ k → k < 4096 * log + 4096 → slice_index c k ≡ slice_index d k
    each k low high = subst (λ (i : ℕ). slice_index c i ≡ slice_index d i) (omega arith) (keeps.others log (k - 4096 * log) none (omega arith) (omega (arith, hold.is_page.within)))

-- an image that holds what is known does so behind the writes
holds_on : (slots : Slots) (zeroed : Option ℕ) (pages d c : List ℕ) → IsStillRoot slots.other → IsNone pages 0 → IsNone pages slots.current.root.log → KeepsPages pages d c → Holds slots d
    → Holds (record slots { other = emptied_root slots.other; next = emptied_entry slots.next; zeroed = zeroed }) c
holds_on slots zeroed pages d c still none apart keeps hold =
    let kept = roots_kept slots d c still keeps.no_shorter (front_stays pages d c none keeps (long_front d hold.roots.front)) hold.roots in
    let log = log_stays slots.current.format slots.current.root.log slots.records slots.next pages d c apart keeps hold.log in
    record {
      roots = record { front = kept.front; current = kept.current; other = other_emptied slots.other (other slots.current.side) slots.current.root.sequence c kept.other };
      log = log_emptied slots.current.format slots.current.root.log slots.records slots.next c log;
    }

pub written_sound : (slots : Slots) (zeroed : Option ℕ) (pages seen now : List ℕ) (before after : List ℕ → Type 0) → slots.doubtful ≡ false → IsNone pages 0 → IsNone pages slots.current.root.log → Follows (KeepsPages pages) before after
    → ZeroHolds slots.target zeroed now → IsSound slots seen before → IsSound (record slots { other = emptied_root slots.other; next = emptied_entry slots.next; zeroed = zeroed }) now after
written_sound slots zeroed pages seen now before after sure none apart crash zero_ sound = record {
  images = λ c left. let under = crash c left in holds_on slots zeroed pages under.0 c (sound.sure sure).0 none apart under.2 (sound.images under.0 under.1);
  zeroed = zero_;
  alone = alone slots.target;
  sure = λ is. (still_root slots.other (sound.sure sure).0, still_entry slots.next (sound.sure sure).1);
  filled = unfilled slots.target;
}
  where
    alone : (t : Target) → IsAlone t (record slots { other = emptied_root slots.other; next = emptied_entry slots.next; zeroed = zeroed })
    alone targets.Root = still_entry slots.next (sound.sure sure).1
    alone targets.Record = still_root slots.other (sound.sure sure).0

    unfilled : (t : Target) → IfSome (filled_gate t (record slots { other = emptied_root slots.other; next = emptied_entry slots.next; zeroed = zeroed })) (λ at. (c : List ℕ) → after c → SameBut at 1 now c)
    unfilled targets.Root = root_unfilled slots.other (other slots.current.side) (λ at. (c : List ℕ) → after c → SameBut at 1 now c) (sound.sure sure).0
    unfilled targets.Record = entry_unfilled slots.next (entry_gate slots) (λ at. (c : List ℕ) → after c → SameBut at 1 now c) (sound.sure sure).1

pub writes_sound : (slots : Slots) (zeroed : Option ℕ) (pages : List ℕ) (old new : DiskState) (past since : ℕ → List ℕ → Type 0) (before after : List ℕ → Type 0) (P : List ℕ → List ℕ → Type 0) → IsClosed slots → MayWrite pages slots
    → OnlyWrites pages (moment_at old past before) (moment_at new since after) → Sees old new P → ((seen now : List ℕ) → P seen now → ZeroHolds slots.target slots.zeroed seen → ZeroHolds slots.target zeroed now)
    → KeepsSound slots (record slots { other = emptied_root slots.other; next = emptied_entry slots.next; zeroed = zeroed }) (seeing old before) (seeing new after)
writes_sound slots zeroed pages old new past since before after P closed may writes sees zeros honest =
    if_some old.seen (λ seen. (now : List ℕ) × (new.seen ≡ Some now) × P seen now)
    (λ seen. IsSound slots seen before → (now : List ℕ) × (new.seen ≡ Some now) × IsSound (record slots { other = emptied_root slots.other; next = emptied_entry slots.next; zeroed = zeroed }) now after)
    (λ seen told. λ sound. (told.0, told.1, written_sound slots zeroed pages seen told.0 before after closed.sure may.apart may.log writes.crash (zeros seen told.0 told.2 sound.zeroed) sound))
    (sees honest)

pub writes_opens : (slots : Slots) (pages : List ℕ) (old new : DiskState) (past since : ℕ → List ℕ → Type 0) (before after : List ℕ → Type 0) → IsClosed slots → MayWrite pages slots
    → OnlyWrites pages (moment_at old past before) (moment_at new since after) → LeavesOpening slots (emptied slots) (moment_at old past before) (stated new since)
writes_opens slots pages old new past since before after closed may writes = λ honest.
    for_some old.seen (λ seen. IsSound slots seen before → LeavesOnly old.moment new.moment past since (MayOpen (emptied slots)))
    (λ seen. λ sound. wider old.moment new.moment past since (Over pages before) (MayOpen (emptied slots)) (λ c over. may_open (emptied slots) c (holds_on slots slots.zeroed pages over.0 c (sound.sure closed.sure).0 may.apart may.log over.2 (sound.images over.0 over.1))) writes.time)

zero_on : (t : Target) (zeroed later : Option ℕ) (seen now : List ℕ) → (IfSome zeroed (λ page. IsZeroed page seen) → IfSome later (λ page. IsZeroed page now)) → ZeroHolds t zeroed seen → ZeroHolds t later now
zero_on targets.Root zeroed later seen now f hold = f hold
zero_on targets.Record zeroed later seen now f hold = tt

-- the slots as the calls leave them
pub pages_sound : (slots s : Slots) (z : Option ℕ) (pages : List ℕ) (old new : DiskState) (past since : ℕ → List ℕ → Type 0) (before after : List ℕ → Type 0) (P : List ℕ → List ℕ → Type 0) → s ≡ emptied slots → z ≡ unwritten pages s.zeroed
    → IsClosed slots → MayWrite pages slots → OnlyWrites pages (moment_at old past before) (moment_at new since after) → Sees old new P → ((seen now : List ℕ) → P seen now → KeepsPages pages seen now) → KeepsSound slots (record s { zeroed = z }) (seeing old before) (seeing new after)
pages_sound slots s z pages old new past since before after P is zero_is closed may writes sees keeps =
    let z_is : z ≡ unwritten pages slots.zeroed = zero_is ∙ ap (λ (t : Slots). unwritten pages t.zeroed) is in
    subst (λ (t : Slots). KeepsSound slots (record t { zeroed = z }) (seeing old before) (seeing new after)) (sym is)
    (writes_sound slots z pages old new past since before after P closed may writes sees
    (λ seen now told. zero_on slots.target slots.zeroed z seen now (λ hold. subst (λ (y : Option ℕ). IfSome y (λ page. IsZeroed page now)) (sym z_is) (unwritten_holds pages slots.zeroed seen now (keeps seen now told) hold))))

pub blob_sound : (slots s : Slots) (z : Option ℕ) (pages bytes : List ℕ) (old new : DiskState) (past since : ℕ → List ℕ → Type 0) (before after : List ℕ → Type 0) → s ≡ emptied slots → z ≡ zeroed_by pages bytes s.zeroed
    → IsClosed slots → MayWrite pages slots → OnlyWrites pages (moment_at old past before) (moment_at new since after) → Sees old new (λ seen now. KeepsPages pages seen now × HoldsBlob page_size now pages bytes) → KeepsSound slots (record s { zeroed = z }) (seeing old before) (seeing new after)
blob_sound slots s z pages bytes old new past since before after is zero_is closed may writes sees =
    let z_is : z ≡ zeroed_by pages bytes slots.zeroed = zero_is ∙ ap (λ (t : Slots). zeroed_by pages bytes t.zeroed) is in
    subst (λ (t : Slots). KeepsSound slots (record t { zeroed = z }) (seeing old before) (seeing new after)) (sym is)
    (writes_sound slots z pages old new past since before after (λ seen now. KeepsPages pages seen now × HoldsBlob page_size now pages bytes) closed may writes sees
    (λ seen now told. zero_on slots.target slots.zeroed z seen now (λ hold. subst (λ (y : Option ℕ). IfSome y (λ page. IsZeroed page now)) (sym z_is) (zeroed_holds pages bytes slots.zeroed seen now may.apart told.0 told.1 hold))))

-- what the slots are once a blob or a chain was written
pub blob_slots : (slots s : Slots) (z : Option ℕ) (pages bytes : List ℕ) → s ≡ emptied slots → z ≡ zeroed_by pages bytes s.zeroed → record s { zeroed = z } ≡ blob_written pages bytes slots
blob_slots slots s z pages bytes is zeroed =
    ap (λ (t : Slots). record t { zeroed = z }) is ∙ ap (λ (y : Option ℕ). record (emptied slots) { zeroed = y }) (zeroed ∙ ap (λ (t : Slots). zeroed_by pages bytes t.zeroed) is)

pub pages_slots : (slots s : Slots) (z : Option ℕ) (pages : List ℕ) → s ≡ emptied slots → z ≡ unwritten pages s.zeroed → record s { zeroed = z } ≡ pages_written pages slots
pages_slots slots s z pages is zeroed =
    ap (λ (t : Slots). record t { zeroed = z }) is ∙ ap (λ (y : Option ℕ). record (emptied slots) { zeroed = y }) (zeroed ∙ ap (λ (t : Slots). unwritten pages t.zeroed) is)
