-- What restoring answers, by the step at which it ends.
use Rattle.std.proofs.Common.{◌≡◌, ◌≢◌, ℕ, Bool, List, [], length, IsTrue, Option, Some, None, IfSome, IfErr, Result, Ok, Err, refl, sym, subst}
use Rattle.std.specs.Prelude.{OnOk}
use Rattle.std.proofs.KnownBytes.{Consumes-all}
use Rattle.afl_outside.specs.Disk.{DiskGoesOn, Moment}
use Rattle.afl_outside.specs.Source.{SourceState, Gives}
use Rattle.afl_outside.proofs.Streams.{Gives-nothing}
use Rattle.page_chain.specs.Puts.{OnlySyncs}
use Rattle.page_chain.proofs.RunLemmas.{goes, rose_on}
use Rattle.page_file.proofs.PageReads.{syncs_twice}
use Rattle.plan_changes.specs.Databases.{Database}
use Rattle.backup_format.specs.Laws.{AreArrays, AreBytes}
use Rattle.backup_format.specs.Pieces.{PiecesArray, pieces_of}
use Rattle.backup_format.specs.Table.{backup_in}
use Rattle.backup_format.specs.declared.arrays.ArrayAt.{ArrayAt}
use Rattle.backup_meaning.proofs.Backing.{reads_are_backups}
use Rattle.backup_restoring.specs.Restores.{HasCause, HasRead, IsMeasured, IsRestored, IsTested, WhereUnwritten}
use Rattle.backup_restoring.specs.Inner.Making.{FailsNew, IsMakeFault, IsMeasureFault, IsRestoreFault, IsRestoredFrom}
use Rattle.backup_restoring.specs.Inner.Steps.{IsReadBackup, MayRestore, WasRead}
use Rattle.backup_restoring.specs.Inner.Writing.{IsMade}
use Rattle.backup_restoring.specs.declared.fault.RestoreFault.{RestoreFault}
use Rattle.backup_restoring.specs.declared.fault.RestoreFault.TheVariants as faults
use Rattle.backup_restoring.proofs.Standing.{stands_restored}

-- ---- these bytes

-- a database that was made of the pieces of a backup
pub made_is_restored : (bytes : List ℕ) (all : List PiecesArray) (at : Moment) → AreBytes bytes → backup_in bytes ≡ Ok all → AreArrays all → IsMade all at → IsRestoredFrom bytes at
made_is_restored bytes all at small read are made =
    let back = reads_are_backups bytes all small read in
    let db : Database = back.0 in
    let same : all ≡ pieces_of db = back.4 in
    let again : IsMade (pieces_of db) at = subst (λ (arrays : List PiecesArray). IsMade arrays at) same made in
    record {
      db = db;
      database = back.1;
      is = back.3;
      image = record {
        file = again.file;
        stands = stands_restored again.file again.side db back.1 (subst AreArrays same are) again.holds again.opens;
        reads = again.reads;
        leaves = again.leaves;
      };
    }

pub made_in : (bytes : List ℕ) (all : List PiecesArray) (old at : Moment) → AreBytes bytes → backup_in bytes ≡ Ok all → AreArrays all → (IsTrue old.state.honest → IfSome old.state.seen (λ _. IsMade all at))
    → IsTrue old.state.honest → IfSome old.state.seen (λ _. IsRestoredFrom bytes at)
made_in bytes all old at small read are made honest = go old.state.seen (made honest)
  where
    go : (o : Option (List ℕ)) → IfSome o (λ _. IsMade all at) → IfSome o (λ _. IsRestoredFrom bytes at)
    go None is = tt
    go (Some seen) is = made_is_restored bytes all at small read are is

pub all_made : (bytes : List ℕ) (all : List PiecesArray) (old at : Moment) (answer : Result (Unit {0}) RestoreFault) → AreBytes bytes → backup_in bytes ≡ Ok all → AreArrays all
    → OnOk answer (IsTrue old.state.honest → IfSome old.state.seen (λ _. IsMade all at)) → OnOk answer (IsTrue old.state.honest → IfSome old.state.seen (λ _. IsRestoredFrom bytes at))
all_made bytes all old at (Err fault) small read are made = tt
all_made bytes all old at (Ok u) small read are made = made_in bytes all old at small read are made

pub made_tested : (pages : ℕ) (bytes : List ℕ) (arrays : List ArrayAt) (old new : Moment) (answer : Result (Unit {0}) RestoreFault) → MayRestore pages bytes arrays → IfErr answer (λ fault. FailsNew fault old new) → IsTested pages bytes answer
made_tested pages bytes arrays old new (Ok u) may fails = may.by
made_tested pages bytes arrays old new (Err faults.Source) may fails = tt
made_tested pages bytes arrays old new (Err faults.Disk) may fails = tt
made_tested pages bytes arrays old new (Err (faults.NotEmpty count)) may fails = tt
made_tested pages bytes arrays old new (Err (faults.NotBackup at)) may fails = absurd fails.cause
made_tested pages bytes arrays old new (Err (faults.Full needed free)) may fails = absurd fails.cause
made_tested pages bytes arrays old new (Err (faults.NotDatabase page)) may fails = may.by
made_tested pages bytes arrays old new (Err faults.Memory) may fails = tt

made_fault : (fault : RestoreFault) (old new : Moment) → IsMakeFault fault old new → IsRestoreFault fault old new
made_fault faults.Source old new is = is
made_fault faults.Disk old new is = is
made_fault (faults.NotEmpty count) old new is = is
made_fault (faults.NotBackup at) old new is = absurd is
made_fault (faults.Full needed free) old new is = absurd is
made_fault (faults.NotDatabase page) old new is = is
made_fault faults.Memory old new is = is

pub made_faults : (answer : Result (Unit {0}) RestoreFault) (old new : Moment) → IfErr answer (λ fault. FailsNew fault old new) → IfErr answer (λ fault. IsRestoreFault fault old new)
made_faults (Ok u) old new fails = tt
made_faults (Err fault) old new fails = made_fault fault old new fails.cause

pub read_tested : (pages : ℕ) (bytes : List ℕ) (fault : RestoreFault) → IsReadBackup pages bytes (Err fault) → IsTested pages bytes (Err fault)
read_tested pages bytes faults.Source is = tt
read_tested pages bytes faults.Disk is = tt
read_tested pages bytes (faults.NotEmpty count) is = tt
read_tested pages bytes (faults.NotBackup at) is = is
read_tested pages bytes (faults.Full needed free) is = is
read_tested pages bytes (faults.NotDatabase page) is = absurd is
read_tested pages bytes faults.Memory is = tt

pub read_fault : (pages : ℕ) (bytes : List ℕ) (fault : RestoreFault) (at : Moment) → OnlySyncs at at → IsReadBackup pages bytes (Err fault) → IsRestoreFault fault at at
read_fault pages bytes faults.Source at none is = is
read_fault pages bytes faults.Disk at none is = absurd is
read_fault pages bytes (faults.NotEmpty count) at none is = absurd is
read_fault pages bytes (faults.NotBackup place) at none is = none
read_fault pages bytes (faults.Full needed free) at none is = none
read_fault pages bytes (faults.NotDatabase page) at none is = absurd is
read_fault pages bytes faults.Memory at none is = tt

-- ---- the whole

pub record IsAnswer (pages : ℕ) (s s' : SourceState) (old new : Moment) (answer : Result (Unit {0}) RestoreFault) : Type 0 where
  pub measured : IfSome old.state.seen (λ file. IsMeasured file answer)
  pub tested : IfSome s.left (λ bytes. IsTested pages bytes answer)
  pub restored : OnOk answer (IsTrue old.state.honest → IfSome old.state.seen (λ _. IsRestored s s' new))
  pub kept : IfErr answer (λ fault. WhereUnwritten fault (OnlySyncs old new))
  pub read : HasRead s s' answer
  pub same : DiskGoesOn old.state new.state
  pub cause : IfErr answer (λ fault. HasCause fault s s' old.state new.state)

all_some : (o : Option (List ℕ)) (P : List ℕ → Type 0) → ((x : List ℕ) → P x) → IfSome o P
all_some None P all = tt
all_some (Some x) P all = all x

-- the disk wasn't found empty
pub measure_answer : (pages : ℕ) (s : SourceState) (old new : Moment) (fault : RestoreFault) → IfSome old.state.seen (λ file. IsMeasured file (Err fault)) → OnlySyncs old new → IsMeasureFault fault old.state new.state
    → IsAnswer pages s s old new (Err fault)
measure_answer pages s old new faults.Source measured reads is = absurd is
measure_answer pages s old new faults.Disk measured reads is = record {
  measured = measured;
  tested = all_some s.left (λ bytes. Unit {0}) (λ x. tt);
  restored = tt;
  kept = tt;
  read = record { bytes = []; gives = Gives-nothing s };
  same = reads.same;
  cause = is;
}
measure_answer pages s old new (faults.NotEmpty count) measured reads is = record {
  measured = measured;
  tested = all_some s.left (λ bytes. Unit {0}) (λ x. tt);
  restored = tt;
  kept = reads;
  read = record { bytes = []; gives = Gives-nothing s };
  same = reads.same;
  cause = tt;
}
measure_answer pages s old new (faults.NotBackup at) measured reads is = absurd is
measure_answer pages s old new (faults.Full needed free) measured reads is = absurd is
measure_answer pages s old new (faults.NotDatabase page) measured reads is = absurd is
measure_answer pages s old new faults.Memory measured reads is = record {
  measured = measured;
  tested = all_some s.left (λ bytes. Unit {0}) (λ x. tt);
  restored = tt;
  kept = tt;
  read = record { bytes = []; gives = Gives-nothing s };
  same = reads.same;
  cause = tt;
}

-- the source wasn't read to its end
pub source_answer : (pages : ℕ) (s s' : SourceState) (old new : Moment) (fault : RestoreFault) → IfSome old.state.seen (λ file. IsMeasured file (Ok tt)) → OnlySyncs old new → WasRead s s' (Err fault)
    → IsAnswer pages s s' old new (Err fault)
source_answer pages s s' old new faults.Source measured reads is = record {
  measured = measured;
  tested = all_some s.left (λ bytes. Unit {0}) (λ x. tt);
  restored = tt;
  kept = reads;
  read = is.0;
  same = reads.same;
  cause = is.1;
}
source_answer pages s s' old new faults.Disk measured reads is = absurd is
source_answer pages s s' old new (faults.NotEmpty count) measured reads is = absurd is
source_answer pages s s' old new (faults.NotBackup at) measured reads is = absurd is
source_answer pages s s' old new (faults.Full needed free) measured reads is = absurd is
source_answer pages s s' old new (faults.NotDatabase page) measured reads is = absurd is
source_answer pages s s' old new faults.Memory measured reads is = record {
  measured = all_some old.state.seen (λ file. Unit {0}) (λ x. tt);
  tested = all_some s.left (λ bytes. Unit {0}) (λ x. tt);
  restored = tt;
  kept = tt;
  read = is;
  same = reads.same;
  cause = tt;
}

-- ---- the source was read to its end

some_map : (o : Option (List ℕ)) (P Q : List ℕ → Type 0) → ((x : List ℕ) → P x → Q x) → IfSome o P → IfSome o Q
some_map None P Q over is = tt
some_map (Some x) P Q over is = over x is

tested_by : (pages : ℕ) (s s' : SourceState) (bytes : List ℕ) (answer : Result (Unit {0}) RestoreFault) → WasRead s s' (Ok bytes) → IsTested pages bytes answer → IfSome s.left (λ told. IsTested pages told answer)
tested_by pages s s' bytes answer read is =
    some_map s.left (λ told. bytes ≡ told) (λ told. IsTested pages told answer) (λ told same. subst (λ (b : List ℕ). IsTested pages b answer) same is)
    (Consumes-all s.left s'.left bytes [] bytes read.0.left read.1 refl)

measured_by : (file : List ℕ) (old new : Moment) (answer : Result (Unit {0}) RestoreFault) → old.state.seen ≡ Some file → length file ≡ 0 → IfErr answer (λ fault. IsRestoreFault fault old new) → IsMeasured file answer
measured_by file old new (Ok u) told empty fault = empty
measured_by file old new (Err faults.Source) told empty fault = empty
measured_by file old new (Err faults.Disk) told empty fault = tt
measured_by file old new (Err (faults.NotEmpty count)) told empty fault = subst (λ (o : Option (List ℕ)). IfSome o (λ f. (count ≡ length f) × (count ≢ 0))) told fault.1
measured_by file old new (Err (faults.NotBackup at)) told empty fault = empty
measured_by file old new (Err (faults.Full needed free)) told empty fault = empty
measured_by file old new (Err (faults.NotDatabase page)) told empty fault = empty
measured_by file old new (Err faults.Memory) told empty fault = tt

all_measured : (old mid new : Moment) (answer : Result (Unit {0}) RestoreFault) → OnlySyncs old mid → IfSome old.state.seen (λ file. IsMeasured file (Ok tt)) → IfErr answer (λ fault. IsRestoreFault fault mid new)
    → IfSome old.state.seen (λ file. IsMeasured file answer)
all_measured old mid new answer reads measured fault = go old.state.seen reads.seen measured
  where
    go : (o : Option (List ℕ)) → mid.state.seen ≡ o → IfSome o (λ file. IsMeasured file (Ok tt)) → IfSome o (λ file. IsMeasured file answer)
    go None is empty = tt
    go (Some file) is empty = measured_by file mid new answer is empty fault

restored_by : (s s' : SourceState) (bytes : List ℕ) (at : Moment) → WasRead s s' (Ok bytes) → IsRestoredFrom bytes at → IsRestored s s' at
restored_by s s' bytes at read is = record { db = is.db; database = is.database; gives = subst (Gives s s') is.is read.0; ends = read.1; image = is.image }

all_restored : (s s' : SourceState) (bytes : List ℕ) (old mid new : Moment) (answer : Result (Unit {0}) RestoreFault) → OnlySyncs old mid → WasRead s s' (Ok bytes)
    → OnOk answer (IsTrue mid.state.honest → IfSome mid.state.seen (λ _. IsRestoredFrom bytes new)) → OnOk answer (IsTrue old.state.honest → IfSome old.state.seen (λ _. IsRestored s s' new))
all_restored s s' bytes old mid new (Err fault) reads read is = tt
all_restored s s' bytes old mid new (Ok u) reads read is = λ honest.
    some_map old.state.seen (λ _. IsRestoredFrom bytes new) (λ _. IsRestored s s' new) (λ x from. restored_by s s' bytes new read from)
    (subst (λ (o : Option (List ℕ)). IfSome o (λ _. IsRestoredFrom bytes new)) reads.seen (is (subst (λ (b : Bool). IsTrue b) (sym reads.same.honest) honest)))

kept_by : (old mid new : Moment) (fault : RestoreFault) → OnlySyncs old mid → IsRestoreFault fault mid new → WhereUnwritten fault (OnlySyncs old new)
kept_by old mid new faults.Source reads is = absurd is
kept_by old mid new faults.Disk reads is = tt
kept_by old mid new (faults.NotEmpty count) reads is =
    syncs_twice old.state mid.state new.state old.left_since mid.left_since new.left_since old.may_leave mid.may_leave new.may_leave reads is.0
kept_by old mid new (faults.NotBackup at) reads is =
    syncs_twice old.state mid.state new.state old.left_since mid.left_since new.left_since old.may_leave mid.may_leave new.may_leave reads is
kept_by old mid new (faults.Full needed free) reads is =
    syncs_twice old.state mid.state new.state old.left_since mid.left_since new.left_since old.may_leave mid.may_leave new.may_leave reads is
kept_by old mid new (faults.NotDatabase page) reads is = tt
kept_by old mid new faults.Memory reads is = tt

all_kept : (old mid new : Moment) (answer : Result (Unit {0}) RestoreFault) → OnlySyncs old mid → IfErr answer (λ fault. IsRestoreFault fault mid new) → IfErr answer (λ fault. WhereUnwritten fault (OnlySyncs old new))
all_kept old mid new (Ok u) reads is = tt
all_kept old mid new (Err fault) reads is = kept_by old mid new fault reads is

all_read : (s s' : SourceState) (bytes : List ℕ) (mid new : Moment) (answer : Result (Unit {0}) RestoreFault) → WasRead s s' (Ok bytes) → IfErr answer (λ fault. IsRestoreFault fault mid new) → HasRead s s' answer
all_read s s' bytes mid new (Ok u) read is = record { bytes = bytes; gives = read.0; ends = read.1 }
all_read s s' bytes mid new (Err faults.Source) read is = absurd is
all_read s s' bytes mid new (Err faults.Disk) read is = record { bytes = bytes; gives = read.0 }
all_read s s' bytes mid new (Err (faults.NotEmpty count)) read is = record { bytes = bytes; gives = read.0 }
all_read s s' bytes mid new (Err (faults.NotBackup at)) read is = record { bytes = bytes; gives = read.0; ends = read.1 }
all_read s s' bytes mid new (Err (faults.Full needed free)) read is = record { bytes = bytes; gives = read.0; ends = read.1 }
all_read s s' bytes mid new (Err (faults.NotDatabase page)) read is = record { bytes = bytes; gives = read.0; ends = read.1 }
all_read s s' bytes mid new (Err faults.Memory) read is = record { bytes = bytes; gives = read.0 }

cause_by : (s s' : SourceState) (old mid new : Moment) (fault : RestoreFault) → OnlySyncs old mid → IsRestoreFault fault mid new → HasCause fault s s' old.state new.state
cause_by s s' old mid new faults.Source reads is = absurd is
cause_by s s' old mid new faults.Disk reads is = rose_on old.state.faults mid.state.faults new.state.faults reads.same.later is
cause_by s s' old mid new (faults.NotEmpty count) reads is = tt
cause_by s s' old mid new (faults.NotBackup at) reads is = tt
cause_by s s' old mid new (faults.Full needed free) reads is = tt
cause_by s s' old mid new (faults.NotDatabase page) reads is = λ honest.
    subst (λ (o : Option (List ℕ)). IfSome o (λ _. ⊥)) reads.seen (is (subst (λ (b : Bool). IsTrue b) (sym reads.same.honest) honest))
cause_by s s' old mid new faults.Memory reads is = tt

all_caused : (s s' : SourceState) (old mid new : Moment) (answer : Result (Unit {0}) RestoreFault) → OnlySyncs old mid → IfErr answer (λ fault. IsRestoreFault fault mid new)
    → IfErr answer (λ fault. HasCause fault s s' old.state new.state)
all_caused s s' old mid new (Ok u) reads is = tt
all_caused s s' old mid new (Err fault) reads is = cause_by s s' old mid new fault reads is

pub bytes_answer : (pages : ℕ) (s s' : SourceState) (bytes : List ℕ) (old mid new : Moment) (answer : Result (Unit {0}) RestoreFault) → IfSome old.state.seen (λ file. IsMeasured file (Ok tt)) → OnlySyncs old mid
    → WasRead s s' (Ok bytes) → IsTested pages bytes answer → OnOk answer (IsTrue mid.state.honest → IfSome mid.state.seen (λ _. IsRestoredFrom bytes new)) → DiskGoesOn mid.state new.state
    → IfErr answer (λ fault. IsRestoreFault fault mid new) → IsAnswer pages s s' old new answer
bytes_answer pages s s' bytes old mid new answer measured reads read tested restored same fault = record {
  measured = all_measured old mid new answer reads measured fault;
  tested = tested_by pages s s' bytes answer read tested;
  restored = all_restored s s' bytes old mid new answer reads read restored;
  kept = all_kept old mid new answer reads fault;
  read = all_read s s' bytes mid new answer read fault;
  same = goes old.state mid.state new.state reads.same same;
  cause = all_caused s s' old mid new answer reads fault;
}
