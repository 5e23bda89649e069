-- The writes of a log entry.
use Rattle.std.proofs.Common.{◌≡◌, ◌≢◌, ◌<◌, ◌≤◌, inl, ℕ, ◌+◌, List, [], ◌∷◌, ◌++◌, length, slice_index, true, false, None, IfSome, sym, ◌∙◌, ap, subst, arith}
use Rattle.afl_outside.specs.Disk.{Follows, Only, Torn, written}
use Rattle.page_chain.specs.Places.{SameBut}
use Rattle.page_chain.specs.Logs.{record_at}
use Rattle.page_chain.specs.declared.slots.layout.sides.Format.{Format}
use Rattle.page_chain.specs.declared.slots.layout.sides.Format.TheVariants.{Two}
use Rattle.page_chain.specs.declared.slots.layout.logs.RecordAt.{RecordAt}
use Rattle.page_chain.proofs.SlotsKept.{record_moved}
use Rattle.page_chain.specs.Puts.{Over}
use Rattle.page_chain.specs.Standing.{NextHolds, PageHolds, LogHolds, Holds, IsSound, IsShutEntry, IsAlone, IsStillRoot, IsStillEntry, IsTarget, ZeroHolds, filled_entry, filled_gate, entry_gate, MayOpen}
use Rattle.page_chain.specs.Steps.{shut_entry, shut, with_record}
use Rattle.page_chain.specs.declared.slots.slots.slots.Slots.{Slots}
use Rattle.page_chain.specs.declared.slots.slots.slots.NextEntry.{NextEntry}
use Rattle.page_chain.specs.declared.slots.slots.slots.NextEntry.TheVariants as entries
use Rattle.page_chain.specs.declared.slots.slots.slots.Target.{Target}
use Rattle.page_chain.specs.declared.slots.slots.slots.Target.TheVariants as targets
use Rattle.page_chain.proofs.Bytes.{torn_same, written_same, written_byte, same_wide}
use Rattle.page_chain.proofs.RootImages.{roots_kept}
use Rattle.page_chain.proofs.LogImages.{next_changed, entry_kept, page_pushed}
use Rattle.page_chain.proofs.Opening.{may_open}
use Rattle.page_chain.proofs.RootCommits.{byte_at_gate, any_doubt, gate_filled, all_same, not_both}

-- what holds at a target that is known
at_record : (target : Target) (P : Target → Type 0) → target ≡ targets.Record → P targets.Record → P target
at_record target P is here = subst P (sym is) here

from_record : (target : Target) (P : Target → Type 0) → target ≡ targets.Record → P target → P targets.Record
from_record target P is here = subst P is here

shut_next : (next : NextEntry) (at : ℕ) (d : List ℕ) → IsShutEntry next → NextHolds next at d → slice_index d at ≢ 1
shut_next entries.Closed at d shut_ hold = hold
shut_next (entries.Written entry) at d shut_ hold = hold.0
shut_next (entries.Opening entry) at d shut_ hold = absurd shut_

ajar_next : (next : NextEntry) (at : ℕ) (d c : List ℕ) → ¬ IsShutEntry next → SameBut at 1 d c → NextHolds next at d → NextHolds next at c
ajar_next entries.Closed at d c ajar same hold = absurd (ajar tt)
ajar_next (entries.Written entry) at d c ajar same hold = absurd (ajar tt)
ajar_next (entries.Opening entry) at d c ajar same hold = entry_kept at d c same ∙ hold

zero_next : (next : NextEntry) (at : ℕ) (d c : List ℕ) → ¬ IsShutEntry next → SameBut at 1 d c → slice_index c at ≡ 0 → NextHolds next at d → NextHolds (shut_entry next) at c
zero_next entries.Closed at d c ajar same zero hold = absurd (ajar tt)
zero_next (entries.Written entry) at d c ajar same zero hold = absurd (ajar tt)
zero_next (entries.Opening entry) at d c ajar same zero hold = (λ is. never (sym zero ∙ is), entry_kept at d c same ∙ hold)
  where
    never : ◌≡◌ {A = ℕ} 0 1 → ⊥
    never is = omega arith

still_entry : (next : NextEntry) → IsStillEntry (shut_entry next)
still_entry entries.Closed = tt
still_entry (entries.Written entry) = tt
still_entry (entries.Opening entry) = tt

entry_filled : (next : NextEntry) (at : ℕ) (seen torn : List ℕ) (before now : List ℕ → Type 0) → SameBut at 1 seen torn → ((c : List ℕ) → now c → (d : List ℕ) × before d × SameBut at 1 d c)
    → IfSome (filled_entry next at) (λ at. (c : List ℕ) → before c → SameBut at 1 seen c) → IfSome (filled_entry next at) (λ at. (c : List ℕ) → now c → SameBut at 1 torn c)
entry_filled entries.Closed at seen torn before now tore from filled = tt
entry_filled (entries.Written entry) at seen torn before now tore from filled = gate_filled at seen torn before now tore from filled
entry_filled (entries.Opening entry) at seen torn before now tore from filled = gate_filled at seen torn before now tore from filled

nothing_zeroed : (target : Target) (file : List ℕ) → ZeroHolds target None file
nothing_zeroed targets.Root file = tt
nothing_zeroed targets.Record file = tt

module _ (slots : Slots) (target : slots.target ≡ targets.Record) (there : IsTarget slots) where
  format : slots.current.format ≡ Two
  format = (there target).0

  room : length slots.records < 64
  room = (there target).1

  page : (d : List ℕ) → Holds slots d → PageHolds slots.current.root.log slots.records slots.next d
  page d hold = subst (λ (f : Format). LogHolds f slots.current.root.log slots.records slots.next d) format hold.log

  within : (d : List ℕ) → Holds slots d → entry_gate slots + 20 ≤ length d
  within d hold = omega (arith, (page d hold).is_page.within, room)

  -- a write in the entry, after which it holds what is said
  changed : (known : NextEntry) (d c : List ℕ) → IsStillRoot slots.other → SameBut (entry_gate slots) 20 d c → Holds slots d → NextHolds known (entry_gate slots) c → Holds (record slots { next = known }) c
  changed known d c still same hold new =
      let first : 0 < slots.current.root.log = (page d hold).is_page.least in
      let kept = roots_kept slots d c still (omega (arith, same.size)) (λ k low. same.each k (inl (omega arith))) hold.roots in
      let logged : PageHolds slots.current.root.log slots.records known c = next_changed slots.current.root.log slots.records slots.next known d c same (page d hold) (λ _. new) in
      record {
        roots = record { front = kept.front; current = kept.current; other = kept.other };
        log = subst (λ (f : Format). LogHolds f slots.current.root.log slots.records known c) (sym format) logged;
      }

  wide : (at n : ℕ) (d c : List ℕ) → entry_gate slots ≤ at → at + n ≤ entry_gate slots + 20 → SameBut at n d c → SameBut (entry_gate slots) 20 d c
  wide at n d c low high same = same_wide at n (entry_gate slots) 20 d c low high same

  next_of : (d : List ℕ) → Holds slots d → NextHolds slots.next (entry_gate slots) d
  next_of d hold = (page d hold).next room

  stays_shut : (d c : List ℕ) → IsShutEntry slots.next → SameBut (entry_gate slots + 8) 12 d c → Holds slots d → slice_index c (entry_gate slots) ≢ 1
  stays_shut d c shut_ same hold = λ is. shut_next slots.next (entry_gate slots) d shut_ (next_of d hold) (sym (same.each (entry_gate slots) (inl (omega arith))) ∙ is)

  -- the body
  body_torn : (d c : List ℕ) → IsStillRoot slots.other → IsShutEntry slots.next → Torn (entry_gate slots + 8) 12 d c → Holds slots d → Holds (record slots { next = entries.Closed }) c
  body_torn d c still shut_ torn hold =
      let same = torn_same (entry_gate slots + 8) 12 d c (omega (arith, within d hold)) torn in
      changed entries.Closed d c still (wide (entry_gate slots + 8) 12 d c (omega arith) (omega arith) same) hold (stays_shut d c shut_ same hold)

  pub write_failed : (seen torn : List ℕ) (before now : List ℕ → Type 0) → IsShutEntry slots.next → slots.doubtful ≡ false → before seen → Torn (entry_gate slots + 8) 12 seen torn
      → Follows (Torn (entry_gate slots + 8) 12) before now → IsSound slots seen before → IsSound (record slots { next = entries.Closed; doubtful = true }) torn now
  write_failed seen torn before now shut_ sure here tore crash sound =
      let later : Slots = record slots { next = entries.Closed; doubtful = true } in
      record {
        images = λ c left. let from = crash c left in any_doubt (record slots { next = entries.Closed }) true c (body_torn from.0 c (sound.sure sure).0 shut_ from.2 (sound.images from.0 from.1));
        zeroed = at_record slots.target (λ t. ZeroHolds t slots.zeroed torn) target tt;
        alone = at_record slots.target (λ t. IsAlone t later) target (sound.sure sure).0;
        sure = λ is. not_both is;
        filled = at_record slots.target (λ t. IfSome (filled_gate t later) (λ at. (c : List ℕ) → now c → SameBut at 1 torn c)) target tt;
      }

  pub write_done : (at : RecordAt) (bytes seen : List ℕ) (before now : List ℕ → Type 0) → IsShutEntry slots.next → slots.doubtful ≡ false → record_at 0 bytes ≡ at → length bytes ≡ 12 → before seen
      → Only (written (entry_gate slots + 8) bytes seen) now → IsSound slots seen before → IsSound (record slots { next = entries.Written at }) (written (entry_gate slots + 8) bytes seen) now
  write_done at bytes seen before now shut_ sure spelled size here only sound =
      let later : Slots = record slots { next = entries.Written at } in
      let file = written (entry_gate slots + 8) bytes seen in
      let hold = sound.images seen here in
      let low : entry_gate slots + 8 + length bytes ≤ length seen = omega (arith, size, within seen hold) in
      let same : SameBut (entry_gate slots + 8) 12 seen file = subst (λ (n : ℕ). SameBut (entry_gate slots + 8) n seen file) size (written_same (entry_gate slots + 8) bytes seen low) in
      let body : record_at (entry_gate slots + 8) file ≡ at = record_moved 0 (entry_gate slots + 8) bytes file (λ k small. moved k bytes file (written_byte (entry_gate slots + 8) k bytes seen (omega (arith, low)) (omega (arith, size, small)))) ∙ spelled in
      record {
        images = λ c left. subst (Holds later) (sym (only c left)) (changed (entries.Written at) seen file (sound.sure sure).0 (wide (entry_gate slots + 8) 12 seen file (omega arith) (omega arith) same) hold (stays_shut seen file shut_ same hold, body));
        zeroed = at_record slots.target (λ t. ZeroHolds t slots.zeroed file) target tt;
        alone = at_record slots.target (λ t. IsAlone t later) target (sound.sure sure).0;
        sure = λ is. ((sound.sure sure).0, tt);
        filled = all_same (filled_gate slots.target later) file now only;
      }
    where
      moved : (k : ℕ) (bytes file : List ℕ) → slice_index file (entry_gate slots + 8 + k) ≡ slice_index bytes k → slice_index file (entry_gate slots + 8 + k) ≡ slice_index bytes (0 + k)
      moved k bytes file is = let e : k ≡ 0 + k = omega arith in is ∙ ap (λ (m : ℕ). slice_index bytes m) e

  pub write_opens : (seen : List ℕ) (before : List ℕ → Type 0) → IsShutEntry slots.next → slots.doubtful ≡ false → IsSound slots seen before → (c : List ℕ) → Over (entry_gate slots + 8) 12 before c
      → MayOpen (record slots { next = entries.Closed }) c
  write_opens seen before shut_ sure sound c over = may_open (record slots { next = entries.Closed }) c (body_torn over.0 c (sound.sure sure).0 shut_ over.2 (sound.images over.0 over.1))

  -- the gate is closed
  still_other : (seen : List ℕ) (before : List ℕ → Type 0) → IsSound slots seen before → IsStillRoot slots.other
  still_other seen before sound = from_record slots.target (λ t. IsAlone t slots) target sound.alone

  gate_same : (d c : List ℕ) → Holds slots d → Torn (entry_gate slots) 1 d c → SameBut (entry_gate slots) 1 d c
  gate_same d c hold torn = torn_same (entry_gate slots) 1 d c (omega (arith, within d hold)) torn

  gate_torn : (d c : List ℕ) → IsStillRoot slots.other → ¬ IsShutEntry slots.next → SameBut (entry_gate slots) 1 d c → Holds slots d → Holds slots c
  gate_torn d c still ajar same hold = changed slots.next d c still (wide (entry_gate slots) 1 d c (omega arith) (omega arith) same) hold (ajar_next slots.next (entry_gate slots) d c ajar same (next_of d hold))

  pub close_failed : (seen torn : List ℕ) (before now : List ℕ → Type 0) → ¬ IsShutEntry slots.next → before seen → Torn (entry_gate slots) 1 seen torn → Follows (Torn (entry_gate slots) 1) before now
      → IsSound slots seen before → IsSound (record slots { doubtful = true }) torn now
  close_failed seen torn before now ajar here tore crash sound =
      let later : Slots = record slots { doubtful = true } in
      let from_before : (c : List ℕ) → now c → (d : List ℕ) × before d × SameBut (entry_gate slots) 1 d c = λ c left. let from = crash c left in (from.0, from.1, gate_same from.0 c (sound.images from.0 from.1) from.2) in
      record {
        images = λ c left. let from = from_before c left in any_doubt slots true c (gate_torn from.0 c (still_other seen before sound) ajar from.2 (sound.images from.0 from.1));
        zeroed = at_record slots.target (λ t. ZeroHolds t slots.zeroed torn) target tt;
        alone = at_record slots.target (λ t. IsAlone t later) target (still_other seen before sound);
        sure = λ is. not_both is;
        filled = at_record slots.target (λ t. IfSome (filled_gate t later) (λ at. (c : List ℕ) → now c → SameBut at 1 torn c)) target
            (entry_filled slots.next (entry_gate slots) seen torn before now (gate_same seen torn (sound.images seen here) tore) from_before
            (from_record slots.target (λ t. IfSome (filled_gate t slots) (λ at. (c : List ℕ) → before c → SameBut at 1 seen c)) target sound.filled));
      }

  pub close_done : (seen : List ℕ) (before now : List ℕ → Type 0) → ¬ IsShutEntry slots.next → before seen → Only (written (entry_gate slots) (0 ∷ []) seen) now → IsSound slots seen before
      → IsSound (shut slots.target slots) (written (entry_gate slots) (0 ∷ []) seen) now
  close_done seen before now ajar here only sound =
      let later : Slots = record slots { next = shut_entry slots.next; doubtful = false } in
      let file = written (entry_gate slots) (0 ∷ []) seen in
      let hold = sound.images seen here in
      let low : entry_gate slots + 1 ≤ length seen = omega (arith, within seen hold) in
      let same : SameBut (entry_gate slots) 1 seen file = written_same (entry_gate slots) (0 ∷ []) seen low in
      let zero : slice_index file (entry_gate slots) ≡ 0 = byte_at_gate (entry_gate slots) 0 seen low in
      let closed : IsSound later file now = record {
        images = λ c left. subst (Holds later) (sym (only c left)) (any_doubt (record slots { next = shut_entry slots.next }) false file
            (changed (shut_entry slots.next) seen file (still_other seen before sound) (wide (entry_gate slots) 1 seen file (omega arith) (omega arith) same) hold (zero_next slots.next (entry_gate slots) seen file ajar same zero (next_of seen hold))));
        zeroed = at_record slots.target (λ t. ZeroHolds t slots.zeroed file) target tt;
        alone = at_record slots.target (λ t. IsAlone t later) target (still_other seen before sound);
        sure = λ is. (still_other seen before sound, still_entry slots.next);
        filled = all_same (filled_gate slots.target later) file now only;
      } in
      at_record slots.target (λ t. IsSound (shut t slots) file now) target closed

  pub close_opens : (seen : List ℕ) (before : List ℕ → Type 0) → ¬ IsShutEntry slots.next → IsSound slots seen before → (c : List ℕ) → Over (entry_gate slots) 1 before c → MayOpen slots c
  close_opens seen before ajar sound c over = may_open slots c (gate_torn over.0 c (still_other seen before sound) ajar (gate_same over.0 c (sound.images over.0 over.1) over.2) (sound.images over.0 over.1))

  -- the gate is opened
  open_torn : (at : RecordAt) (d c : List ℕ) → IsStillRoot slots.other → slots.next ≡ entries.Written at → SameBut (entry_gate slots) 1 d c → Holds slots d → Holds (record slots { next = entries.Opening at }) c
  open_torn at d c still is_written same hold =
      let was : NextHolds (entries.Written at) (entry_gate slots) d = subst (λ (n : NextEntry). NextHolds n (entry_gate slots) d) is_written (next_of d hold) in
      changed (entries.Opening at) d c still (wide (entry_gate slots) 1 d c (omega arith) (omega arith) same) hold (entry_kept (entry_gate slots) d c same ∙ was.1)

  pub open_failed : (at : RecordAt) (seen torn : List ℕ) (before now : List ℕ → Type 0) → slots.next ≡ entries.Written at → slots.doubtful ≡ false → before seen → Torn (entry_gate slots) 1 seen torn
      → Follows (Torn (entry_gate slots) 1) before now → IsSound slots seen before → IsSound (record slots { next = entries.Opening at; doubtful = true }) torn now
  open_failed at seen torn before now is_written sure here tore crash sound =
      let later : Slots = record slots { next = entries.Opening at; doubtful = true } in
      let from_before : (c : List ℕ) → now c → (d : List ℕ) × before d × SameBut (entry_gate slots) 1 d c = λ c left. let from = crash c left in (from.0, from.1, gate_same from.0 c (sound.images from.0 from.1) from.2) in
      let filled_seen : (c : List ℕ) → before c → SameBut (entry_gate slots) 1 seen c =
      subst (λ (n : NextEntry). IfSome (filled_entry n (entry_gate slots)) (λ at. (c : List ℕ) → before c → SameBut at 1 seen c)) is_written (from_record slots.target (λ t. IfSome (filled_gate t slots) (λ at. (c : List ℕ) → before c → SameBut at 1 seen c)) target sound.filled) in
      record {
        images = λ c left. let from = from_before c left in any_doubt (record slots { next = entries.Opening at }) true c (open_torn at from.0 c (sound.sure sure).0 is_written from.2 (sound.images from.0 from.1));
        zeroed = at_record slots.target (λ t. ZeroHolds t slots.zeroed torn) target tt;
        alone = at_record slots.target (λ t. IsAlone t later) target (sound.sure sure).0;
        sure = λ is. not_both is;
        filled = at_record slots.target (λ t. IfSome (filled_gate t later) (λ at. (c : List ℕ) → now c → SameBut at 1 torn c)) target
            (gate_filled (entry_gate slots) seen torn before now (gate_same seen torn (sound.images seen here) tore) from_before filled_seen);
      }

  pub open_opens : (at : RecordAt) (seen : List ℕ) (before : List ℕ → Type 0) → slots.next ≡ entries.Written at → slots.doubtful ≡ false → IsSound slots seen before → (c : List ℕ) → Over (entry_gate slots) 1 before c
      → MayOpen (record slots { next = entries.Opening at }) c
  open_opens at seen before is_written sure sound c over = may_open (record slots { next = entries.Opening at }) c
      (open_torn at over.0 c (sound.sure sure).0 is_written (gate_same over.0 c (sound.images over.0 over.1) over.2) (sound.images over.0 over.1))

  pub open_done : (at : RecordAt) (seen : List ℕ) (before now : List ℕ → Type 0) → slots.next ≡ entries.Written at → slots.doubtful ≡ false → before seen → Only (written (entry_gate slots) (1 ∷ []) seen) now
      → IsSound slots seen before → IsSound (with_record at slots) (written (entry_gate slots) (1 ∷ []) seen) now
  open_done at seen before now is_written sure here only sound =
      let later : Slots = with_record at slots in
      let file = written (entry_gate slots) (1 ∷ []) seen in
      let hold = sound.images seen here in
      let low : entry_gate slots + 1 ≤ length seen = omega (arith, within seen hold) in
      let same : SameBut (entry_gate slots) 1 seen file = written_same (entry_gate slots) (1 ∷ []) seen low in
      let one : slice_index file (entry_gate slots) ≡ 1 = byte_at_gate (entry_gate slots) 1 seen low in
      let opening : Holds (record slots { next = entries.Opening at }) file = open_torn at seen file (sound.sure sure).0 is_written same hold in
      let opened : PageHolds slots.current.root.log slots.records (entries.Opening at) file = subst (λ (f : Format). LogHolds f slots.current.root.log slots.records (entries.Opening at) file) format opening.log in
      let pushed = page_pushed slots.current.root.log slots.records at file room one opened in
      record {
        images = λ c left. subst (Holds later) (sym (only c left)) (record {
          roots = record { front = opening.roots.front; current = opening.roots.current; other = opening.roots.other };
          log = subst (λ (f : Format). LogHolds f slots.current.root.log (slots.records ++ at ∷ []) entries.Closed file) (sym format) pushed;
        });
        zeroed = nothing_zeroed later.target file;
        alone = either later.target;
        sure = λ is. ((sound.sure sure).0, tt);
        filled = all_same (filled_gate later.target later) file now only;
      }
    where
      either : (t : Target) → IsAlone t (with_record at slots)
      either targets.Root = tt
      either targets.Record = (sound.sure sure).0
