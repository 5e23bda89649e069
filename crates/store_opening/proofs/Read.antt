-- What is read of a file, and why it isn't.
use Rattle.std.proofs.Common.{◌≡◌, ◌≤◌, ℕ, List, Option, None, Some, IfSome, IsTrue, Result, Ok, Err, sym, ◌∙◌, subst, arith}
use Rattle.afl_outside.specs.Counts.{Rose}
use Rattle.afl_outside.specs.Disk.{DiskState, Moment, Only}
use Rattle.page_chain.specs.Opens.{OpensAs}
use Rattle.page_chain.specs.declared.fault.OpenCause.{OpenCause}
use Rattle.page_chain.specs.declared.fault.OpenCause.TheVariants.{Disk, NotDatabase, Memory}
use Rattle.page_chain.specs.Inner.Runs.{OnlyReads}
use Rattle.page_chain.specs.Puts.{OnlySyncs}
use Rattle.page_chain.specs.Standing.{IsSound}
use Rattle.page_chain.specs.declared.slots.slots.slots.Slots.{Slots}
use Rattle.page_file.specs.OpeningOpened.{AreFresh, HasCause as HasOpenCause, IsOpened}
use Rattle.file_meaning.specs.Slots.{slots_in}
use Rattle.file_meaning.specs.Opening.{found_in, opened}
use Rattle.file_meaning.specs.declared.meaning.found.Found.{Found}
use Rattle.file_meaning.proofs.SlotLaws.{slots_are}
use Rattle.file_meaning.proofs.Steps.{then_is}
use Rattle.file_meaning.proofs.WrongSlots.{wrong_file}
use Rattle.file_reading.specs.Reading.{Answers, slots_of}
use Rattle.file_reading.proofs.Steps.{if_some}
use Rattle.store_opening.specs.Opened.{HasCause, IsToldBy}
use Rattle.store_opening.specs.Inner.Read.{IsOpenFile, StopsBy}

-- ---- where a file is wrong

stops : (cause : OpenCause) (step : Result Found ℕ) → Answers {X = Found} (Err cause) step → StopsBy step cause
stops Disk step is = tt
stops (NotDatabase page) step is = is
stops Memory step is = tt

pub found_stops : (cause : OpenCause) (tells : Option (List ℕ)) (slots : Slots) → IfSome tells (λ seen. Answers {X = Found} (Err cause) (found_in seen (slots_of slots)))
    → IfSome tells (λ seen. StopsBy (found_in seen (slots_of slots)) cause)
found_stops cause tells slots is =
    if_some (λ (seen : List ℕ). Answers {X = Found} (Err cause) (found_in seen (slots_of slots))) (λ seen. StopsBy (found_in seen (slots_of slots)) cause) tells is
    (λ seen told. stops cause (found_in seen (slots_of slots)) told)

-- a disk that was only read, and is handed back
pub read_back : {D : Type 0} (moment : D → Moment) (old now back : D) → back ≡ now → OnlyReads (moment old) (moment now) → OnlySyncs (moment old) (moment back)
read_back {D} moment old now back is reads =
    subst (λ (d : D). OnlySyncs (moment old) (moment d)) (sym is) (record { same = reads.same; seen = reads.seen; crash = reads.crash; time = reads.time })

-- by its slots the file opens as what is found
pub opens_so : (file : List ℕ) (slots : Slots) → OpensAs slots.current slots.records file → opened file ≡ found_in file (slots_of slots)
unfolding opened
opens_so file slots opens = then_is (slots_in file) (λ s. found_in file s) (slots_of slots) (slots_are slots.current slots.records file opens)

told_by : (cause : OpenCause) (file : List ℕ) (slots : Slots) → OpensAs slots.current slots.records file → StopsBy (found_in file (slots_of slots)) cause → IsToldBy file cause
told_by Disk file slots opens is = tt
told_by (NotDatabase page) file slots opens is = opens_so file slots opens ∙ is
told_by Memory file slots opens is = tt

pub both_some : {A : Type 0} (P Q R : A → Type 0) (o : Option A) → IfSome o P → IfSome o Q → ((x : A) → P x → Q x → R x) → IfSome o R
both_some P Q R o p q go = at_each o p q
  where
    at_each : (o : Option _) → IfSome o P → IfSome o Q → IfSome o R
    at_each None p q = tt
    at_each (Some x) p q = go x p q

pub wrong_so : (cause : OpenCause) (tells : Option (List ℕ)) (slots : Slots) → IfSome tells (OpensAs slots.current slots.records) → IfSome tells (λ seen. StopsBy (found_in seen (slots_of slots)) cause)
    → IfSome tells (λ seen. IsToldBy seen cause)
wrong_so cause tells slots opens is =
    both_some (OpensAs slots.current slots.records) (λ seen. StopsBy (found_in seen (slots_of slots)) cause) (λ seen. IsToldBy seen cause) tells opens is (λ seen. told_by cause seen slots)

-- where the slots are wrong so is the file
unopened : (cause : OpenCause) (file : List ℕ) → IsOpened file (Err cause) → IsToldBy file cause
unopened Disk file is = tt
unopened (NotDatabase page) file is = wrong_file page file is
unopened Memory file is = tt

pub unopened_so : (cause : OpenCause) (tells : Option (List ℕ)) → IfSome tells (λ seen. IsOpened seen (Err cause)) → IfSome tells (λ seen. IsToldBy seen cause)
unopened_so cause tells is = if_some (λ (seen : List ℕ). IsOpened seen (Err cause)) (λ seen. IsToldBy seen cause) tells is (λ seen. unopened cause seen)

-- ---- the file behind its sync

-- what was promised of the disk before a sync is so of the disk after it
pub is_open_file : (old now : Moment) (slots : Slots) → OnlySyncs old now → AreFresh slots → IfSome old.state.seen (λ seen. IsOpened seen (Ok slots))
    → (IsTrue old.state.honest → IfSome old.state.seen (λ seen. Only seen now.may_leave)) → (IsTrue old.state.honest → IfSome old.state.seen (λ seen. IsSound slots seen now.may_leave))
    → IsOpenFile now slots
is_open_file old now slots syncs fresh opens durable sound = record {
  fresh = fresh;
  opens = subst (λ (o : Option (List ℕ)). IfSome o (OpensAs slots.current slots.records)) (sym syncs.seen) opens;
  durable = λ honest. subst (λ (o : Option (List ℕ)). IfSome o (λ seen. Only seen now.may_leave)) (sym syncs.seen) (durable (sym syncs.same.honest ∙ honest));
  sound = λ honest. subst (λ (o : Option (List ℕ)). IfSome o (λ seen. IsSound slots seen now.may_leave)) (sym syncs.seen) (sound (sym syncs.same.honest ∙ honest));
}

-- ---- causes

rose_since : (old mid now : ℕ) → old ≤ mid → Rose mid now → Rose old now
rose_since old mid now later rose = omega (arith, later, rose)

pub cause_since : (cause : OpenCause) (old mid now : DiskState) → old.faults ≤ mid.faults → HasCause cause mid now → HasCause cause old now
cause_since Disk old mid now later is = rose_since old.faults mid.faults now.faults later is
cause_since (NotDatabase page) old mid now later is = tt
cause_since Memory old mid now later is = tt

pub open_cause : (cause : OpenCause) (old now : DiskState) → HasOpenCause cause old now → HasCause cause old now
open_cause Disk old now is = is
open_cause (NotDatabase page) old now is = tt
open_cause Memory old now is = tt
