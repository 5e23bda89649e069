-- What is answered of a file as it opens.
use Rattle.std.proofs.Common.{◌≡◌, ◌≤◌, ℕ, List, Option, Some, IfSome, IfErr, Result, Ok, Err, refl, sym, ◌∙◌, subst}
use Rattle.std.specs.Prelude.{IsErrOf, IfOk}
use Rattle.afl_outside.specs.Counts.{Rose}
use Rattle.afl_outside.specs.Disk.{DiskState, Moment}
use Rattle.page_chain.specs.Opens.{OpensAs}
use Rattle.page_chain.specs.declared.fault.OpenCause.{OpenCause}
use Rattle.page_chain.specs.declared.fault.OpenCause.TheVariants as causes
use Rattle.page_chain.specs.declared.slots.slots.slots.Slots.{Slots}
use Rattle.page_chain.specs.Inner.Runs.{OnlyReads}
use Rattle.page_chain.specs.Puts.{OnlySyncs}
use Rattle.page_file.specs.OpeningOpened.{IsOpened, HasCause as HasOpenCause}
use Rattle.page_file.proofs.PageReads.{syncs_twice}
use Rattle.plan_changes.specs.Databases.{Database}
use Rattle.file_meaning.specs.Slots.{slots_in}
use Rattle.file_meaning.specs.Opening.{found_in, opened}
use Rattle.file_meaning.specs.Standing.{Stands}
use Rattle.file_meaning.specs.declared.meaning.found.Found.{Found}
use Rattle.file_meaning.proofs.SlotLaws.{slots_are}
use Rattle.file_meaning.proofs.Steps.{then_is}
use Rattle.file_meaning.proofs.WrongSlots.{wrong_file}
use Rattle.file_reading.specs.Reading.{slots_of}
use Rattle.file_reading.specs.Reading as reading
use Rattle.file_reading.proofs.Steps.{at_some, if_some, told}
use Rattle.file_checking.specs.Checks.{Answers, HasCause, checked, sound_database}
use Rattle.file_checking.specs.Inner.Steps.{IsAnswer, fault_by}
use Rattle.file_checking.specs.declared.sound.Sound.{Sound}
use Rattle.file_checking.specs.declared.sound.CheckFault.{CheckFault}
use Rattle.file_checking.proofs.Answered.{disk_answer, memory_answer, unopened_answer}
use Rattle.file_checking.proofs.Tests.{cause_since}

-- ---- causes

pub cause_of : (cause : OpenCause) (fault : CheckFault) (old now : DiskState) → fault ≡ fault_by cause → (IsErrOf {T = Found} {E = OpenCause} (Err cause) causes.Disk → Rose old.faults now.faults) → HasCause fault old now
cause_of causes.Disk fault old now is rose = subst (λ (f : CheckFault). HasCause f old now) (sym is) (rose refl)
cause_of (causes.NotDatabase page) fault old now is rose = subst (λ (f : CheckFault). HasCause f old now) (sym is) tt
cause_of causes.Memory fault old now is rose = subst (λ (f : CheckFault). HasCause f old now) (sym is) tt

pub open_cause : (cause : OpenCause) (fault : CheckFault) (old now : DiskState) → fault ≡ fault_by cause → HasOpenCause cause old now → HasCause fault old now
open_cause causes.Disk fault old now is rose = subst (λ (f : CheckFault). HasCause f old now) (sym is) rose
open_cause (causes.NotDatabase page) fault old now is rose = subst (λ (f : CheckFault). HasCause f old now) (sym is) tt
open_cause causes.Memory fault old now is rose = subst (λ (f : CheckFault). HasCause f old now) (sym is) tt

-- ---- by its slots

-- a file that opens so is what is found by its slots
pub opens_so : (file : List ℕ) (slots : Slots) → OpensAs slots.current slots.records file → opened file ≡ found_in file (slots_of slots)
unfolding opened
opens_so file slots opens = then_is (slots_in file) (λ s. found_in file s) (slots_of slots) (slots_are slots.current slots.records file opens)

answer_by : (cause : OpenCause) (file : List ℕ) → reading.Answers {X = Found} (Err cause) (opened file) → IsAnswer file (Err (fault_by cause))
answer_by causes.Disk file is = disk_answer file
answer_by (causes.NotDatabase page) file is = unopened_answer file page is
answer_by causes.Memory file is = memory_answer file

-- where nothing is found
pub none_found : (cause : OpenCause) (fault : CheckFault) (tells : Option (List ℕ)) (slots : Slots) → fault ≡ fault_by cause → IfSome tells (OpensAs slots.current slots.records)
    → IfSome tells (λ seen. reading.Answers {X = Found} (Err cause) (found_in seen (slots_of slots))) → IfSome tells (λ seen. IsAnswer seen (Err fault))
none_found cause fault tells slots is opens wrong =
    told (λ (seen : List ℕ). IsAnswer seen (Err fault)) tells (λ seen tell.
    let own = opens_so seen slots (at_some (OpensAs slots.current slots.records) tells seen opens tell) in
    let found = at_some (λ (s : List ℕ). reading.Answers {X = Found} (Err cause) (found_in s (slots_of slots))) tells seen wrong tell in
    subst (λ (f : CheckFault). IsAnswer seen (Err f)) (sym is) (answer_by cause seen (subst (reading.Answers {X = Found} (Err cause)) (sym own) found)))

-- where something is
pub some_found : (found : Found) (answer : Result Sound CheckFault) (tells now : Option (List ℕ)) (slots : Slots) → now ≡ tells → IfSome tells (OpensAs slots.current slots.records)
    → IfSome tells (λ seen. reading.Answers {X = Found} (Ok found) (found_in seen (slots_of slots))) → ((seen : List ℕ) → now ≡ Some seen → opened seen ≡ Ok found → IsAnswer seen answer) → IfSome tells (λ seen. IsAnswer seen answer)
some_found found answer tells now slots same opens is answers =
    told (λ (seen : List ℕ). IsAnswer seen answer) tells (λ seen tell.
    let own = opens_so seen slots (at_some (OpensAs slots.current slots.records) tells seen opens tell) in
    answers seen (same ∙ tell) (own ∙ at_some (λ (s : List ℕ). reading.Answers {X = Found} (Ok found) (found_in s (slots_of slots))) tells seen is tell))

-- ---- a file that doesn't open by its slots

unopened : (cause : OpenCause) (file : List ℕ) → IsOpened file (Err cause) → IsAnswer file (Err (fault_by cause))
unopened causes.Disk file is = disk_answer file
unopened (causes.NotDatabase page) file is = unopened_answer file page (wrong_file page file is)
unopened causes.Memory file is = memory_answer file

pub never_opened : (cause : OpenCause) (fault : CheckFault) (tells : Option (List ℕ)) → fault ≡ fault_by cause → IfSome tells (λ seen. IsOpened seen (Err cause)) → IfSome tells (λ seen. IsAnswer seen (Err fault))
never_opened cause fault tells is opens =
    subst (λ (f : CheckFault). IfSome tells (λ seen. IsAnswer seen (Err f))) (sym is)
    (if_some (λ (seen : List ℕ). IsOpened seen (Err cause)) (λ seen. IsAnswer seen (Err (fault_by cause))) tells opens (λ seen. unopened cause seen))

-- ---- the parts of an answer

pub exact_of : (answer : Result Sound CheckFault) (tells : Option (List ℕ)) → IfSome tells (λ seen. IsAnswer seen answer) → IfSome tells (λ seen. Answers answer (checked seen))
exact_of answer tells is = if_some (λ (seen : List ℕ). IsAnswer seen answer) (λ seen. Answers answer (checked seen)) tells is (λ seen a. a.exact)

pub stands_of : (answer : Result Sound CheckFault) (tells : Option (List ℕ)) → IfSome tells (λ seen. IsAnswer seen answer)
    → IfSome tells (λ seen. IfOk answer (λ sound. (db : Database) × Stands seen db × (sound ≡ sound_database db)))
stands_of answer tells is =
    if_some (λ (seen : List ℕ). IsAnswer seen answer) (λ seen. IfOk answer (λ sound. (db : Database) × Stands seen db × (sound ≡ sound_database db))) tells is (λ seen a. a.stands)

pub sound_of : (answer : Result Sound CheckFault) (tells : Option (List ℕ)) → IfSome tells (λ seen. IsAnswer seen answer) → IfSome tells (λ seen. (db : Database) → Stands seen db → Answers answer (Ok (sound_database db)))
sound_of answer tells is = if_some (λ (seen : List ℕ). IsAnswer seen answer) (λ seen. (db : Database) → Stands seen db → Answers answer (Ok (sound_database db))) tells is (λ seen a. a.sound)

-- ---- the disk that is handed back

pub back_read : {D : Type 0} (moment : D → Moment) (disk mid now back : D) → back ≡ now → OnlySyncs (moment disk) (moment mid) → OnlyReads (moment mid) (moment now) → OnlySyncs (moment disk) (moment back)
back_read {D} moment disk mid now back is syncs reads =
    subst (λ (d : D). OnlySyncs (moment disk) (moment d)) (sym is)
    (syncs_twice _ _ _ _ _ _ _ _ _ syncs (record { same = reads.same; seen = reads.seen; crash = reads.crash; time = reads.time }))

pub back_cause : {D : Type 0} (moment : D → Moment) (answer : Result Sound CheckFault) (disk mid now back : D) → back ≡ now → (moment disk).state.faults ≤ (moment mid).state.faults
    → IfErr answer (λ fault. HasCause fault (moment mid).state (moment now).state) → IfErr answer (λ fault. HasCause fault (moment disk).state (moment back).state)
back_cause {D} moment (Ok sound) disk mid now back is later cause = tt
back_cause {D} moment (Err fault) disk mid now back is later cause =
    subst (λ (d : D). HasCause fault (moment disk).state (moment d).state) (sym is) (cause_since fault (moment disk).state (moment mid).state (moment now).state later cause)
