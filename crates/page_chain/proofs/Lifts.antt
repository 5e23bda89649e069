-- From what a write does to a disk's bytes to what the call does to the slots.
use Rattle.std.proofs.Common.{◌≡◌, ℕ, List, IsTrue, Option, Some, None, IfSome, subst}
use Rattle.afl_outside.proofs.Moments.{moment_at, seeing, stated}
use Rattle.afl_outside.specs.Disk.{DiskState, LeavesOnly, Only, Torn, written}
use Rattle.page_chain.specs.Puts.{Over, OnlyPuts, OnlySyncs}
use Rattle.page_chain.specs.Standing.{IsSound, MayOpen, KeepsSound, LeavesOpening}
use Rattle.page_chain.specs.declared.slots.slots.slots.Slots.{Slots}
use Rattle.page_chain.proofs.PutLemmas.{if_some_with, wider}

-- what is known of a put that was done, and of one that failed
abbrev pub Done : DiskState → DiskState → (List ℕ → Type 0) → ℕ → List ℕ → Type 0
Done old new now at bytes = IsTrue old.honest → IfSome old.seen (λ seen. (new.seen ≡ Some (written at bytes seen)) × Only (written at bytes seen) now)

abbrev pub Failed_at : DiskState → DiskState → ℕ → ℕ → Type 0
Failed_at old new at n = IsTrue old.honest → IfSome old.seen (λ seen. (torn : List ℕ) × (new.seen ≡ Some torn) × Torn at n seen torn)

pub done_at : (old new : DiskState) (now : List ℕ → Type 0) (at at' : ℕ) (bytes bytes' : List ℕ) → at ≡ at' → bytes ≡ bytes' → Done old new now at bytes → Done old new now at' bytes'
done_at old new now at at' bytes bytes' p q fact = subst (λ (b : List ℕ). Done old new now at' b) q (subst (λ (a : ℕ). Done old new now a bytes) p fact)

pub failed_at : (old new : DiskState) (at at' n n' : ℕ) → at ≡ at' → n ≡ n' → Failed_at old new at n → Failed_at old new at' n'
failed_at old new at at' n n' p q fact = subst (λ (b : ℕ). Failed_at old new at' b) q (subst (λ (a : ℕ). Failed_at old new a n) p fact)

pub puts_at : (at at' n n' : ℕ) (old new : DiskState) (past since : ℕ → List ℕ → Type 0) (before now : List ℕ → Type 0) → at ≡ at' → n ≡ n' → OnlyPuts at n (moment_at old past before) (moment_at new since now) → OnlyPuts at' n' (moment_at old past before) (moment_at new since now)
puts_at at at' n n' old new past since before now p q puts =
    subst (λ (b : ℕ). OnlyPuts at' b (moment_at old past before) (moment_at new since now)) q (subst (λ (a : ℕ). OnlyPuts a n (moment_at old past before) (moment_at new since now)) p puts)

for_some : {A : Type 0} (o : Option A) (Q : A → Type 0) → ((x : A) → Q x) → IfSome o Q
for_some None Q f = tt
for_some (Some x) Q f = f x

pub sound_done : (slots later : Slots) (at : ℕ) (bytes : List ℕ) (old new : DiskState) (before now : List ℕ → Type 0) → IfSome old.seen before → Done old new now at bytes
    → ((seen : List ℕ) → before seen → Only (written at bytes seen) now → IsSound slots seen before → IsSound later (written at bytes seen) now) → KeepsSound slots later (seeing old before) (seeing new now)
sound_done slots later at bytes old new before now read done step = λ honest.
    if_some_with old.seen before (λ seen. (new.seen ≡ Some (written at bytes seen)) × Only (written at bytes seen) now)
    (λ seen. IsSound slots seen before → (seen_now : List ℕ) × (new.seen ≡ Some seen_now) × IsSound later seen_now now)
    (λ seen here put. λ sound. (written at bytes seen, put.0, step seen here put.1 sound)) read (done honest)

pub sound_failed : (slots later : Slots) (at n : ℕ) (old new : DiskState) (before now : List ℕ → Type 0) → IfSome old.seen before → Failed_at old new at n
    → ((seen torn : List ℕ) → before seen → Torn at n seen torn → IsSound slots seen before → IsSound later torn now) → KeepsSound slots later (seeing old before) (seeing new now)
sound_failed slots later at n old new before now read failed step = λ honest.
    if_some_with old.seen before (λ seen. (torn : List ℕ) × (new.seen ≡ Some torn) × Torn at n seen torn)
    (λ seen. IsSound slots seen before → (seen_now : List ℕ) × (new.seen ≡ Some seen_now) × IsSound later seen_now now)
    (λ seen here put. λ sound. (put.0, put.1, step seen put.0 here put.2 sound)) read (failed honest)

pub always_opens : (slots during : Slots) (at n : ℕ) (old new : DiskState) (past since : ℕ → List ℕ → Type 0) (before now : List ℕ → Type 0) → OnlyPuts at n (moment_at old past before) (moment_at new since now)
    → ((seen : List ℕ) → IsSound slots seen before → (c : List ℕ) → Over at n before c → MayOpen during c) → LeavesOpening slots during (moment_at old past before) (stated new since)
always_opens slots during at n old new past since before now puts step = λ honest.
    for_some old.seen (λ seen. IsSound slots seen before → LeavesOnly old.moment new.moment past since (MayOpen during))
    (λ seen. λ sound. wider old.moment new.moment past since (Over at n before) (MayOpen during) (step seen sound) puts.time)

-- the same for a sync alone
pub sound_synced : (slots later : Slots) (old new : DiskState) (past since : ℕ → List ℕ → Type 0) (before now : List ℕ → Type 0) → OnlySyncs (moment_at old past before) (moment_at new since now)
    → ((seen : List ℕ) → IsSound slots seen before → ((c : List ℕ) → now c → before c) → IsSound later seen now) → KeepsSound slots later (seeing old before) (seeing new now)
sound_synced slots later old new past since before now syncs step = λ honest. keep old.seen syncs.seen
  where
    keep : (seen : Option (List ℕ)) → new.seen ≡ seen → IfSome seen (λ x. IsSound slots x before → (seen_now : List ℕ) × (new.seen ≡ Some seen_now) × IsSound later seen_now now)
    keep None is = tt
    keep (Some x) is = λ sound. (x, is, step x sound syncs.crash)

pub synced_opens : (slots during : Slots) (old new : DiskState) (past since : ℕ → List ℕ → Type 0) (before now : List ℕ → Type 0) → OnlySyncs (moment_at old past before) (moment_at new since now)
    → ((seen : List ℕ) → IsSound slots seen before → (c : List ℕ) → before c → MayOpen during c) → LeavesOpening slots during (moment_at old past before) (stated new since)
synced_opens slots during old new past since before now syncs step = λ honest.
    for_some old.seen (λ seen. IsSound slots seen before → LeavesOnly old.moment new.moment past since (MayOpen during))
    (λ seen. λ sound. wider old.moment new.moment past since before (MayOpen during) (step seen sound) syncs.time)
