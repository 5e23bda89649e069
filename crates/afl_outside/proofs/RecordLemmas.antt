-- What one call more does to the record of a disk in memory.
use Rattle.std.proofs.Common.{◌≡◌, ◌≤◌, ◌⊎◌, inl, inr, ℕ, List, [], ◌∷◌, ◌++◌, length, true, false, IsTrue, refl, sym, ◌∙◌, ap, subst, arith, Result, Ok, Err, IsOk, OnOk, OnErr, Option, None, Some, IfSome, take, length-append}
use Rattle.std.proofs.lemmas.List.{take_at}
use Rattle.std.specs.Prelude.{MatchOption}
use Rattle.afl_outside.specs.Counts.{risen, Rose}
use Rattle.afl_outside.specs.Disk.{written, Torn, Elapses, Follows, Only, Writes, DiskGoesOn}
use Rattle.afl_outside.specs.Images.{next_content, NextImages, content_after, IsNote}
use Rattle.afl_outside.specs.Lemmas.TornLaws.{Torn-written, Torn-same}
use Rattle.afl_outside.specs.Lemmas.ImageLaws.{content_after_push, images-push, elapses_push, elapses_same, content_is_left}
use Rattle.afl_outside.specs.Inner.Records.{Recorded, with_call, content_of, images_of, images_since, MemoryDisk, MemoryCalls, SureBytes, SureCalls, memory_disk_state, sure_disk_state}
use Rattle.afl_outside.specs.declared.source.Failed.{Failed}
use Rattle.afl_outside.specs.declared.in_memory.device_call.DeviceCall.{DeviceCall}
use Rattle.afl_outside.specs.declared.in_memory.device_call.DeviceCall.TheVariants.{Length, Read, Write, Sync}

next_content-note : (seen : List ℕ) (call : DeviceCall) → IsNote call → next_content seen call ≡ seen
next_content-note seen Length note = refl
next_content-note seen (Read at length) note = refl
next_content-note seen (Write at bytes) note = absurd note
next_content-note seen (Sync done) note = refl

pub content_of-note : (r : Recorded) (call : DeviceCall) → IsNote call → content_of (with_call call r) ≡ content_of r
content_of-note r call note = content_after_push r.first r.calls call ∙ next_content-note (content_of r) call note

-- whether such a call was recorded or not
pub content_after-note : {T E : Type 0} (result : Result T E) (r : Recorded) (calls : List DeviceCall) (call : DeviceCall) → IsNote call → OnOk result (calls ≡ r.calls ++ call ∷ []) → OnErr result (calls ≡ r.calls)
    → content_after r.first calls ≡ content_of r
content_after-note (Ok x) r calls call note more same = ap (content_after r.first) more ∙ content_of-note r call note
content_after-note (Err e) r calls call note more same = ap (content_after r.first) same

-- a call that changes no byte leaves no other image
notes : (seen : List ℕ) (images : List ℕ → Type 0) (call : DeviceCall) → IsNote call → images seen → (c : List ℕ) → NextImages seen images call c → images c
notes seen images Length note here c left = left
notes seen images (Read at length) note here c left = left
notes seen images (Write at bytes) note here c left = absurd note
notes seen images (Sync false) note here c left = left
notes seen images (Sync true) note here c left = subst images (sym left) here

pub images_of-note : (r : Recorded) (call : DeviceCall) → IsNote call → (c : List ℕ) → images_of (with_call call r) c → images_of r c
images_of-note r call note c left = notes (content_of r) (images_of r) call note (content_is_left r.first r.calls) c (images-push r.first (λ d. d ≡ r.first) r.calls call c left)

pub images_of-write : (r : Recorded) (at : ℕ) (bytes : List ℕ) → Follows (Torn at (length bytes)) (images_of r) (images_of (with_call (Write at bytes) r))
images_of-write r at bytes c left = images-push r.first (λ d. d ≡ r.first) r.calls (Write at bytes) c left

pub images_of-sync : (r : Recorded) → Only (content_of r) (images_of (with_call (Sync true) r))
images_of-sync r c left = images-push r.first (λ d. d ≡ r.first) r.calls (Sync true) c left

-- what holds of both ways in which a call can end holds after it
outcomes : {T : Type 0} (P : MemoryDisk → Type 0) (done undone : DeviceCall) (old new : MemoryDisk) (result : Result T Failed) → MemoryCalls done undone old new result
    → ((faults : ℕ) → P (record old { bytes = with_call done old.bytes; faults = faults })) → ((faults : ℕ) → P (record old { bytes = with_call undone old.bytes; faults = faults }))
    → ((wants : ℕ) → P (record old { wants = wants })) → P new
outcomes P done undone old new (Ok x) (fits, is) d u n = subst P (sym is) (d old.faults)
outcomes P done undone old new (Err e) (inl (listed, is)) d u n = subst P (sym is) (u (risen old.faults))
outcomes P done undone old new (Err e) (inr is) d u n = subst P (sym is) (n (risen old.wants))

pub memory_seen : {T : Type 0} (done undone : DeviceCall) (old new : MemoryDisk) (result : Result T Failed) → MemoryCalls done undone old new result → IsNote done → IsNote undone
    → (memory_disk_state new).seen ≡ (memory_disk_state old).seen
memory_seen done undone old new result calls d u = outcomes (λ m. (memory_disk_state m).seen ≡ (memory_disk_state old).seen) done undone old new result calls
    (λ _. ap Some (content_of-note old.bytes done d)) (λ _. ap Some (content_of-note old.bytes undone u)) (λ _. refl)

pub memory_same : {T : Type 0} (done undone : DeviceCall) (old new : MemoryDisk) (result : Result T Failed) → MemoryCalls done undone old new result → old.faults ≤ new.faults → old.wants ≤ new.wants
    → DiskGoesOn (memory_disk_state old) (memory_disk_state new)
memory_same done undone old new result calls later wants_later =
    let names = outcomes (λ m. (m.name ≡ old.name) × (m.bytes.first ≡ old.bytes.first)) done undone old new result calls (λ _. (refl, refl)) (λ _. (refl, refl)) (λ _. (refl, refl)) in
    record { name = ap Some names.0; first = ap Some names.1; honest = refl; later = later; wants_later = wants_later }

pub memory_crash : {T : Type 0} (done undone : DeviceCall) (old new : MemoryDisk) (result : Result T Failed) → MemoryCalls done undone old new result → IsNote done → IsNote undone
    → (c : List ℕ) → images_of new.bytes c → images_of old.bytes c
memory_crash done undone old new result calls d u = outcomes (λ m. (c : List ℕ) → images_of m.bytes c → images_of old.bytes c) done undone old new result calls
    (λ _. images_of-note old.bytes done d) (λ _. images_of-note old.bytes undone u) (λ _ c left. left)

pub memory_time : {T : Type 0} (done undone : DeviceCall) (old new : MemoryDisk) (result : Result T Failed) → MemoryCalls done undone old new result
    → Elapses (memory_disk_state old).moment (memory_disk_state new).moment (images_since old.bytes) (images_since new.bytes) (images_of new.bytes)
memory_time done undone old new result calls =
    outcomes (λ m. Elapses (length old.bytes.calls) (length m.bytes.calls) (images_since old.bytes) (images_since m.bytes) (images_of m.bytes)) done undone old new result calls
    (λ _. elapses_push old.bytes.first old.bytes.calls done) (λ _. elapses_push old.bytes.first old.bytes.calls undone) (λ _. elapses_same old.bytes.first old.bytes.calls)

pub memory_cause : {T : Type 0} (done undone : DeviceCall) (old new : MemoryDisk) (result : Result T Failed) → MemoryCalls done undone old new result
    → OnErr result (Rose old.faults new.faults ⊎ Rose old.wants new.wants)
memory_cause done undone old new (Ok x) calls = tt
memory_cause done undone old new (Err e) (inl (listed, is)) = inl (omega (arith, ap (λ (m : MemoryDisk). m.faults) is))
memory_cause done undone old new (Err e) (inr is) = inr (omega (arith, ap (λ (m : MemoryDisk). m.wants) is))

pub memory_written : (at : ℕ) (bytes : List ℕ) (old new : MemoryDisk) (result : Result (Unit {0}) Failed) → MemoryCalls (Write at bytes) (Write at bytes) old new result
    → Writes at bytes (memory_disk_state old) (memory_disk_state new) result
memory_written at bytes old new (Ok x) (fits, is) = λ honest. ap (λ (m : MemoryDisk). Some (content_of m.bytes)) is ∙ ap Some (content_after_push old.bytes.first old.bytes.calls (Write at bytes))
memory_written at bytes old new (Err e) (inl (listed, is)) = λ honest. (
  written at bytes (content_of old.bytes),
  ap (λ (m : MemoryDisk). Some (content_of m.bytes)) is ∙ ap Some (content_after_push old.bytes.first old.bytes.calls (Write at bytes)),
  Torn-written at bytes (content_of old.bytes),
)
memory_written at bytes old new (Err e) (inr is) = λ honest. (content_of old.bytes, ap (λ (m : MemoryDisk). Some (content_of m.bytes)) is, Torn-same at (length bytes) (content_of old.bytes))

pub memory_torn : {T : Type 0} (at : ℕ) (bytes : List ℕ) (old new : MemoryDisk) (result : Result T Failed) → MemoryCalls (Write at bytes) (Write at bytes) old new result
    → Follows (Torn at (length bytes)) (images_of old.bytes) (images_of new.bytes)
memory_torn at bytes old new result calls = outcomes (λ m. Follows (Torn at (length bytes)) (images_of old.bytes) (images_of m.bytes)) (Write at bytes) (Write at bytes) old new result calls
    (λ _. images_of-write old.bytes at bytes) (λ _. images_of-write old.bytes at bytes) (λ _ c left. (c, left, Torn-same at (length bytes) c))

pub memory_durable : {T : Type 0} (undone : DeviceCall) (old new : MemoryDisk) (result : Result T Failed) → MemoryCalls (Sync true) undone old new result
    → OnOk result (IsTrue (memory_disk_state old).honest → IfSome (memory_disk_state old).seen (λ seen. Only seen (images_of new.bytes)))
memory_durable undone old new (Ok x) (fits, is) = λ honest. subst (λ (m : MemoryDisk). Only (content_of old.bytes) (images_of m.bytes)) (sym is) (images_of-sync old.bytes)
memory_durable undone old new (Err e) calls = tt

-- the same of a disk that fails only where no memory is found
sure_outcomes : {T : Type 0} (P : SureBytes → Type 0) (call : DeviceCall) (old new : SureBytes) (result : Result T Failed) → SureCalls call old new result
    → P (record old { bytes = with_call call old.bytes }) → ((wants : ℕ) → P (record old { wants = wants })) → P new
sure_outcomes P call old new (Ok x) is d n = subst P (sym is) d
sure_outcomes P call old new (Err e) is d n = subst P (sym is) (n (risen old.wants))

pub sure_seen : {T : Type 0} (call : DeviceCall) (old new : SureBytes) (result : Result T Failed) → SureCalls call old new result → IsNote call → (sure_disk_state new).seen ≡ (sure_disk_state old).seen
sure_seen call old new result calls d = sure_outcomes (λ m. (sure_disk_state m).seen ≡ (sure_disk_state old).seen) call old new result calls (ap Some (content_of-note old.bytes call d)) (λ _. refl)

pub sure_same : {T : Type 0} (call : DeviceCall) (old new : SureBytes) (result : Result T Failed) → SureCalls call old new result → old.wants ≤ new.wants → DiskGoesOn (sure_disk_state old) (sure_disk_state new)
sure_same call old new result calls wants_later =
    let first = sure_outcomes (λ m. m.bytes.first ≡ old.bytes.first) call old new result calls refl (λ _. refl) in
    record { name = refl; first = ap Some first; honest = refl; later = omega arith; wants_later = wants_later }

pub sure_crash : {T : Type 0} (call : DeviceCall) (old new : SureBytes) (result : Result T Failed) → SureCalls call old new result → IsNote call → (c : List ℕ) → images_of new.bytes c → images_of old.bytes c
sure_crash call old new result calls d = sure_outcomes (λ m. (c : List ℕ) → images_of m.bytes c → images_of old.bytes c) call old new result calls (images_of-note old.bytes call d) (λ _ c left. left)

pub sure_time : {T : Type 0} (call : DeviceCall) (old new : SureBytes) (result : Result T Failed) → SureCalls call old new result
    → Elapses (sure_disk_state old).moment (sure_disk_state new).moment (images_since old.bytes) (images_since new.bytes) (images_of new.bytes)
sure_time call old new result calls =
    sure_outcomes (λ m. Elapses (length old.bytes.calls) (length m.bytes.calls) (images_since old.bytes) (images_since m.bytes) (images_of m.bytes)) call old new result calls
    (elapses_push old.bytes.first old.bytes.calls call) (λ _. elapses_same old.bytes.first old.bytes.calls)

-- what a call that changes nothing leaves
pub record Still (old new : SureBytes) : Type 0 where
  pub seen : (sure_disk_state new).seen ≡ (sure_disk_state old).seen
  pub same : DiskGoesOn (sure_disk_state old) (sure_disk_state new)
  pub crash : (c : List ℕ) → images_of new.bytes c → images_of old.bytes c
  pub time : Elapses (sure_disk_state old).moment (sure_disk_state new).moment (images_since old.bytes) (images_since new.bytes) (images_of new.bytes)

pub sure_stays : (old new : SureBytes) → new ≡ old → Still old new
sure_stays old new is = subst (Still old) (sym is) (record {
  seen = refl;
  same = record { name = refl; first = refl; honest = refl; later = omega arith; wants_later = omega arith };
  crash = λ c left. left;
  time = elapses_same old.bytes.first old.bytes.calls;
})

-- a call that succeeds has no cause of failure
pub no_cause : {T E : Type 0} (result : Result T E) (P : Type 0) → IsOk result → OnErr result P
no_cause (Ok x) P ok = tt
no_cause (Err e) P ok = cc

pub sure_cause : {T : Type 0} (call : DeviceCall) (old new : SureBytes) (result : Result T Failed) → SureCalls call old new result → OnErr result (Rose 0 0 ⊎ Rose old.wants new.wants)
sure_cause call old new (Ok x) calls = tt
sure_cause call old new (Err e) is = inr (omega (arith, ap (λ (m : SureBytes). m.wants) is))

pub sure_written : (at : ℕ) (bytes : List ℕ) (old new : SureBytes) (result : Result (Unit {0}) Failed) → SureCalls (Write at bytes) old new result
    → Writes at bytes (sure_disk_state old) (sure_disk_state new) result
sure_written at bytes old new (Ok x) is = λ honest. ap (λ (m : SureBytes). Some (content_of m.bytes)) is ∙ ap Some (content_after_push old.bytes.first old.bytes.calls (Write at bytes))
sure_written at bytes old new (Err e) is = λ honest. (content_of old.bytes, ap (λ (m : SureBytes). Some (content_of m.bytes)) is, Torn-same at (length bytes) (content_of old.bytes))

pub sure_torn : {T : Type 0} (at : ℕ) (bytes : List ℕ) (old new : SureBytes) (result : Result T Failed) → SureCalls (Write at bytes) old new result
    → Follows (Torn at (length bytes)) (images_of old.bytes) (images_of new.bytes)
sure_torn at bytes old new result calls = sure_outcomes (λ m. Follows (Torn at (length bytes)) (images_of old.bytes) (images_of m.bytes)) (Write at bytes) old new result calls
    (images_of-write old.bytes at bytes) (λ _ c left. (c, left, Torn-same at (length bytes) c))

pub sure_durable : {T : Type 0} (old new : SureBytes) (result : Result T Failed) → SureCalls (Sync true) old new result
    → OnOk result (IsTrue (sure_disk_state old).honest → IfSome (sure_disk_state old).seen (λ seen. Only seen (images_of new.bytes)))
sure_durable old new (Ok x) is = λ honest. subst (λ (m : SureBytes). Only (content_of old.bytes) (images_of m.bytes)) (sym is) (images_of-sync old.bytes)
sure_durable old new (Err e) is = tt

-- what was pushed and then taken off
pub popped : {A : Type 0} (old pushed now : List A) (x : A) (last : Option A) → pushed ≡ old ++ x ∷ []
    → MatchOption last ((pushed ≡ []) × (now ≡ [])) (λ y. pushed ≡ now ++ y ∷ []) → now ≡ old
popped old pushed now x None more none = absurd (omega (arith, ap length (sym more ∙ none.0), length-append old (x ∷ [])))
popped old pushed now x (Some y) more off =
    let both : old ++ x ∷ [] ≡ now ++ y ∷ [] = sym more ∙ off in
    let long : length now ≡ length old = omega (arith, ap length both, length-append old (x ∷ []), length-append now (y ∷ [])) in
    sym (take_at now (y ∷ []) (length old) long) ∙ ap (take (length old)) (sym both) ∙ take_at old (x ∷ []) (length old) refl
