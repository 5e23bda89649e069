-- From a page that was read to the file.
use Rattle.std.proofs.Common.{◌≡◌, ◌≢◌, ◌<◌, ◌≤◌, inl, inr, ⊎_elim, ℕ, ◌+◌, ◌*◌, List, length, slice_index, nat_le, ◌==◌, ◌&&◌, ◌||◌, if◌then◌else◌, Bool, true, false, MatchBool, Option, Some, None, IfSome, IfErr, IfOk, Result, Ok, Err, refl, sym, ◌∙◌, ap, subst, arith}
use Rattle.std.proofs.lemmas.Bool.Decides.{nat_tests}
use Rattle.page_chain.specs.Disk.{DiskState, Only}
use Rattle.page_chain.specs.Places.{number_at, gate_of, body_of, other}
use Rattle.page_chain.specs.Roots.{has_front, slot_in, newer, current, text_number}
use Rattle.page_chain.specs.Logs.{HasStray}
use Rattle.page_chain.specs.Opens.{OpensAs}
use Rattle.page_chain.specs.declared.slots.layout.sides.Side.{Side}
use Rattle.page_chain.specs.declared.slots.layout.sides.Side.TheVariants.{A, B}
use Rattle.page_chain.specs.declared.slots.layout.roots.Root.{Root}
use Rattle.page_chain.specs.declared.slots.layout.roots.OpenRoot.{OpenRoot}
use Rattle.page_chain.specs.declared.slots.layout.logs.RecordAt.{RecordAt}
use Rattle.page_chain.proofs.SlotsKept.{number_kept, root_kept, log_moved}
use Rattle.page_chain.specs.Standing.{OtherHolds, IsSound}
use Rattle.page_chain.specs.declared.slots.slots.slots.Slots.{Slots}
use Rattle.page_chain.specs.declared.slots.slots.slots.RootSlot.{RootSlot}
use Rattle.page_chain.specs.declared.slots.slots.slots.RootSlot.TheVariants as roots
use Rattle.page_chain.proofs.RootImages.{slot_kept, side_high, gate_then_body}
use Rattle.page_file.specs.OpeningOpened.{HasPage, CutsPage, FrontRead, PageLog, LogRead, IsRead, IsOpened, AreFresh, IsDeviceFault, HasCause, RecordsRead}
use Rattle.page_chain.specs.declared.fault.OpenCause.{OpenCause}
use Rattle.page_chain.specs.declared.fault.OpenCause.TheVariants.{Disk, NotDatabase, Memory}
use Rattle.page_file.proofs.Fresh.{fresh_sound}

whole_front : (file : List ℕ) → 4096 ≤ length file → nat_le 4096 (length file) ≡ true
whole_front file size = grind (arith, nat_tests)

cut_front : (file : List ℕ) → length file < 4096 → current file ≡ None
cut_front file short = grind (arith, nat_tests)

-- the bytes of page 0 alone decide
current_kept : (page file : List ℕ) → length page ≡ 4096 → HasPage 0 page file → current file ≡ current page
current_kept page file size has =
    let fronts : has_front file ≡ has_front page =
    ap (λ (b : Bool). b && (number_at 8 0 file == text_number && (number_at 4 8 file == 1 || number_at 4 8 file == 2))) (whole_front file (omega (arith, has.whole)) ∙ sym (whole_front page (omega (arith, size))))
    ∙ ap (λ (n : ℕ). nat_le 4096 (length page) && (n == text_number && (number_at 4 8 file == 1 || number_at 4 8 file == 2))) (number_kept 8 0 page file (λ k low high. same k (omega arith)))
    ∙ ap (λ (n : ℕ). nat_le 4096 (length page) && (number_at 8 0 page == text_number && (n == 1 || n == 2))) (number_kept 4 8 page file (λ k low high. same k (omega arith))) in
    ap (λ (b : Bool). if b then newer (slot_in A file) (slot_in B file) else None) fronts
    ∙ ap (λ (a : Option OpenRoot). if has_front page then newer a (slot_in B file) else None) (slot A)
    ∙ ap (λ (b : Option OpenRoot). if has_front page then newer (slot_in A page) b else None) (slot B)
  where
    same : (k : ℕ) → k < 4096 → slice_index file k ≡ slice_index page k
    same k low = sym (has.bytes k low ∙ ap (λ (m : ℕ). slice_index file m) (at_front k))
      where
        at_front : (k : ℕ) → 4096 * 0 + k ≡ k
        at_front k = omega arith

    slot : (side : Side) → slot_in side file ≡ slot_in side page
    slot side = slot_kept side page file (same (gate_of side) (omega (arith, side_high side))) (λ k low high. same k (omega (arith, side_high side, gate_then_body side)))

other_moved : (known : RootSlot) (side : Side) (sequence : ℕ) (page file : List ℕ) → IsRead known → HasPage 0 page file → OtherHolds known side sequence page → OtherHolds known side sequence file
other_moved roots.Closed side sequence page file read has hold = slot_kept side page file (there (gate_of side) (omega (arith, side_high side))) (λ k low high. there k (omega (arith, side_high side, gate_then_body side))) ∙ hold
  where
    there : (k : ℕ) → k < 4096 → slice_index file k ≡ slice_index page k
    there k low = let at_front : 4096 * 0 + k ≡ k = omega arith in sym (has.bytes k low ∙ ap (λ (m : ℕ). slice_index file m) at_front)
other_moved roots.Older side sequence page file read has hold =
    subst (λ (r : Root). r.sequence < sequence) (sym (root_kept (body_of side) page file (λ k low high. there k (omega (arith, side_high side, gate_then_body side))))) hold
  where
    there : (k : ℕ) → k < 4096 → slice_index file k ≡ slice_index page k
    there k low = let at_front : 4096 * 0 + k ≡ k = omega arith in sym (has.bytes k low ∙ ap (λ (m : ℕ). slice_index file m) at_front)
other_moved (roots.Written root) side sequence page file read has hold = absurd read
other_moved (roots.Opening root) side sequence page file read has hold = absurd read

front_moved : (page file : List ℕ) (r : Result (OpenRoot × RootSlot) OpenCause) → length page ≡ 4096 → HasPage 0 page file → IfOk r (λ x. IsRead x.1) → FrontRead page r → FrontRead file r
front_moved page file (Ok x) size has read front = (current_kept page file size has ∙ front.0, other_moved x.1 (other x.0.side) x.0.root.sequence page file read has front.1)
front_moved page file (Err Disk) size has read front = tt
front_moved page file (Err (NotDatabase number)) size has read front = (front.0, current_kept page file size has ∙ front.1)
front_moved page file (Err Memory) size has read front = tt

pub front_told : (page : List ℕ) (seen : Option (List ℕ)) (r : Result (OpenRoot × RootSlot) OpenCause) (whole : Bool) → length page ≡ 4096 → IfSome seen (λ file. MatchBool whole (HasPage 0 page file) (CutsPage 0 file)) → whole ≡ true
    → IfOk r (λ x. IsRead x.1) → FrontRead page r → IfSome seen (λ file. FrontRead file r)
front_told page None r whole size has is read front = tt
front_told page (Some file) r whole size has is read front = front_moved page file r size (subst (λ (b : Bool). MatchBool b (HasPage 0 page file) (CutsPage 0 file)) is has) read front

pub front_cut : (page : List ℕ) (seen : Option (List ℕ)) (whole : Bool) → IfSome seen (λ file. MatchBool whole (HasPage 0 page file) (CutsPage 0 file)) → whole ≡ false
    → IfSome seen (λ file. FrontRead file (Err (NotDatabase 0)))
front_cut page None whole has is = tt
front_cut page (Some file) whole has is = let cut : CutsPage 0 file = subst (λ (b : Bool). MatchBool b (HasPage 0 page file) (CutsPage 0 file)) is has in (refl, cut_front file (omega (arith, cut)))

pub front_failed : (fault : OpenCause) (old new : DiskState) (seen : Option (List ℕ)) → IsDeviceFault fault old new → IfSome seen (λ file. FrontRead file (Err fault))
front_failed Disk old new None is = tt
front_failed Disk old new (Some file) is = tt
front_failed (NotDatabase page) old new seen is = absurd is
front_failed Memory old new None is = tt
front_failed Memory old new (Some file) is = tt

pub log_failed : (fault : OpenCause) (log : ℕ) (old new : DiskState) (seen : Option (List ℕ)) → IsDeviceFault fault old new → IfSome seen (λ file. LogRead file log (Err fault))
log_failed Disk log old new None is = tt
log_failed Disk log old new (Some file) is = tt
log_failed (NotDatabase page) log old new seen is = absurd is
log_failed Memory log old new None is = tt
log_failed Memory log old new (Some file) is = tt

pub opened_failed : (fault : OpenCause) (old new : DiskState) (seen : Option (List ℕ)) → IsDeviceFault fault old new → IfSome seen (λ file. IsOpened file (Err fault))
opened_failed Disk old new None is = tt
opened_failed Disk old new (Some file) is = tt
opened_failed (NotDatabase page) old new seen is = absurd is
opened_failed Memory old new None is = tt
opened_failed Memory old new (Some file) is = tt

stray_moved : (log : ℕ) (page file : List ℕ) → HasPage log page file → HasStray 0 page → HasStray (4096 * log) file
stray_moved log page file has stray = record {
  shut = stray.shut;
  stray = stray.stray;
  order = stray.order;
  within = stray.within;
  is_shut = λ is. stray.is_shut (at_page stray.shut (omega (arith, stray.order, stray.within)) ∙ is);
  is_open = sym (at_page stray.stray stray.within) ∙ stray.is_open;
}
  where
    at_page : (k : ℕ) → k < 64 → slice_index page (0 + 64 * k) ≡ slice_index file (4096 * log + 64 * k)
    at_page k low = let front : 0 + 64 * k ≡ 64 * k = omega arith in ap (λ (m : ℕ). slice_index page m) front ∙ has.bytes (64 * k) (omega arith)

log_read : (log : ℕ) (page file : List ℕ) (r : Result (List RecordAt) OpenCause) → log ≢ 0 → HasPage log page file → PageLog page log r → LogRead file log r
log_read log page file (Ok records) some has read = (
  record { least = omega (arith, some); within = has.whole },
  log_moved 0 (4096 * log) records page file (λ k low. let front : 0 + k ≡ k = omega arith in sym (ap (λ (m : ℕ). slice_index page m) front ∙ has.bytes k low)) read.0,
)
log_read log page file (Err Disk) some has read = tt
log_read log page file (Err (NotDatabase number)) some has read =
    let named : number ≡ log = let told = read.0 in cc in
    inr (record { least = omega (arith, some); within = has.whole }, named, subst (λ (n : ℕ). HasStray (4096 * n) file) (sym named) (stray_moved log page file has read.1))
log_read log page file (Err Memory) some has read = tt

pub log_told : (log : ℕ) (page : List ℕ) (seen : Option (List ℕ)) (r : Result (List RecordAt) OpenCause) (whole : Bool) → log ≢ 0 → IfSome seen (λ file. MatchBool whole (HasPage log page file) (CutsPage log file)) → whole ≡ true
    → PageLog page log r → IfSome seen (λ file. LogRead file log r)
log_told log page None r whole some has is read = tt
log_told log page (Some file) r whole some has is read = log_read log page file r some (subst (λ (b : Bool). MatchBool b (HasPage log page file) (CutsPage log file)) is has) read

pub log_cut : (log : ℕ) (page : List ℕ) (seen : Option (List ℕ)) (whole : Bool) → IfSome seen (λ file. MatchBool whole (HasPage log page file) (CutsPage log file)) → whole ≡ false
    → IfSome seen (λ file. LogRead file log (Err (NotDatabase 0)))
log_cut log page None whole has is = tt
log_cut log page (Some file) whole has is = let cut : CutsPage log file = subst (λ (b : Bool). MatchBool b (HasPage log page file) (CutsPage log file)) is has in inl (refl, λ page_is. past cut page_is.within)
  where
    past : length file < 4096 * (log + 1) → 4096 * (log + 1) ≤ length file → ⊥
    past short long = omega arith

pub log_zero : (log : ℕ) (seen : Option (List ℕ)) → log ≡ 0 → IfSome seen (λ file. LogRead file log (Err (NotDatabase 0)))
log_zero log None is = tt
log_zero log (Some file) is = inl (refl, λ page_is. none page_is.least)
  where
    none : 0 < log → ⊥
    none some = omega arith

pub sound_told : (slots : Slots) (seen : Option (List ℕ)) (now : List ℕ → Type 0) → AreFresh slots → IfSome seen (λ file. OpensAs slots.current slots.records file)
    → IfSome seen (λ file. OtherHolds slots.other (other slots.current.side) slots.current.root.sequence file) → IfSome seen (λ file. Only file now) → IfSome seen (λ file. IsSound slots file now)
sound_told slots None now fresh opens beside only = tt
sound_told slots (Some file) now fresh opens beside only = fresh_sound slots file now only opens beside fresh

-- ---- what is told of page 0 and of the log page, as what the file opens as

front_wrong : (fault : OpenCause) (file : List ℕ) → FrontRead file (Err fault) → IsOpened file (Err fault)
front_wrong Disk file told = tt
front_wrong (NotDatabase page) file told = inl (told.0, inl told.1)
front_wrong Memory file told = tt

log_wrong : (fault : OpenCause) (x : OpenRoot × RootSlot) (file : List ℕ) → FrontRead file (Ok x) → RecordsRead file x.0 (Err fault) → IsOpened file (Err fault)
log_wrong Disk x file front told = tt
log_wrong (NotDatabase page) x file front told = ⊎_elim
    (λ out. inl (out.0, inr (record { slot = x.0; is = front.0; format = told.0; out = out.1 })))
    (λ stray. inr (record { slot = x.0; is = front.0; format = told.0; log = stray.0; named = stray.1; stray = stray.2 })) told.1
log_wrong Memory x file front told = tt

front_at : (x : OpenRoot × RootSlot) (s0 s1 s2 : Option (List ℕ)) (P Q : List ℕ → Type 0) → s1 ≡ s0 → s2 ≡ s1 → ((file : List ℕ) → FrontRead file (Ok x) → P file → Q file)
    → IfSome s1 (λ file. FrontRead file (Ok x)) → IfSome s2 P → IfSome s0 Q
front_at x s0 s1 s2 P Q before then_ both front told =
    subst (λ (s : Option (List ℕ)). IfSome s Q) before (go s1 front (subst (λ (s : Option (List ℕ)). IfSome s P) then_ told))
  where
    go : (s : Option (List ℕ)) → IfSome s (λ file. FrontRead file (Ok x)) → IfSome s P → IfSome s Q
    go None f t = tt
    go (Some file) f t = both file f t

pub front_refused : (fault : OpenCause) (s0 s1 : Option (List ℕ)) → s1 ≡ s0 → IfSome s1 (λ file. FrontRead file (Err fault)) → IfSome s0 (λ file. IsOpened file (Err fault))
front_refused fault s0 s1 before told = subst (λ (s : Option (List ℕ)). IfSome s (λ file. IsOpened file (Err fault))) before (go s1 told)
  where
    go : (s : Option (List ℕ)) → IfSome s (λ file. FrontRead file (Err fault)) → IfSome s (λ file. IsOpened file (Err fault))
    go None t = tt
    go (Some file) t = front_wrong fault file t

pub log_refused : (fault : OpenCause) (x : OpenRoot × RootSlot) (s0 s1 s2 : Option (List ℕ)) → s1 ≡ s0 → s2 ≡ s1
    → IfSome s1 (λ file. FrontRead file (Ok x)) → IfSome s2 (λ file. RecordsRead file x.0 (Err fault)) → IfSome s0 (λ file. IsOpened file (Err fault))
log_refused fault x s0 s1 s2 before then_ front told =
    front_at x s0 s1 s2 (λ file. RecordsRead file x.0 (Err fault)) (λ file. IsOpened file (Err fault)) before then_ (log_wrong fault x) front told

pub slots_opened : (slots : Slots) (x : OpenRoot × RootSlot) (records : List RecordAt) (s0 s1 s2 : Option (List ℕ)) → slots.current ≡ x.0 → slots.records ≡ records → s1 ≡ s0 → s2 ≡ s1
    → IfSome s1 (λ file. FrontRead file (Ok x)) → IfSome s2 (λ file. RecordsRead file x.0 (Ok records)) → IfSome s0 (λ file. OpensAs slots.current slots.records file)
slots_opened slots x records s0 s1 s2 current_is records_are before then_ front told =
    front_at x s0 s1 s2 (λ file. RecordsRead file x.0 (Ok records)) (λ file. OpensAs slots.current slots.records file) before then_
    (λ file f t. subst (λ (root : OpenRoot). OpensAs root slots.records file) (sym current_is) (subst (λ (rs : List RecordAt). OpensAs x.0 rs file) (sym records_are) (record { slot = f.0; log = t }))) front told

pub other_told : (slots : Slots) (x : OpenRoot × RootSlot) (s0 s1 : Option (List ℕ)) → slots.current ≡ x.0 → slots.other ≡ x.1 → s1 ≡ s0
    → IfSome s1 (λ file. FrontRead file (Ok x)) → IfSome s0 (λ file. OtherHolds slots.other (other slots.current.side) slots.current.root.sequence file)
other_told slots x s0 s1 current_is other_is before front =
    front_at x s0 s1 s1 (λ file. FrontRead file (Ok x)) (λ file. OtherHolds slots.other (other slots.current.side) slots.current.root.sequence file) before refl
    (λ file f t. subst (λ (root : OpenRoot). OtherHolds slots.other (other root.side) root.root.sequence file) (sym current_is)
    (subst (λ (known : RootSlot). OtherHolds known (other x.0.side) x.0.root.sequence file) (sym other_is) f.1)) front front

-- what is told of a log page on its own
pub log_fits : (page : List ℕ) (log : ℕ) (r : Result (List RecordAt) OpenCause) → PageLog page log r → IfOk r (λ records. length records ≤ 64)
log_fits page log (Ok records) told = told.1
log_fits page log (Err fault) told = tt

pub log_cause : (page : List ℕ) (log : ℕ) (r : Result (List RecordAt) OpenCause) (old new : DiskState) → PageLog page log r → IfErr r (λ fault. HasCause fault old new)
log_cause page log (Ok records) old new told = tt
log_cause page log (Err fault) old new told = subst (λ (f : OpenCause). HasCause f old new) (sym told.0) tt

pub front_cause : {A : Type 0} (r : Result A OpenCause) (old new : DiskState) → IfErr r (λ fault. fault ≡ NotDatabase 0) → IfErr r (λ fault. HasCause fault old new)
front_cause (Ok x) old new told = tt
front_cause (Err fault) old new told = subst (λ (f : OpenCause). HasCause f old new) (sym told) tt
