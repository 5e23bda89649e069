use Rattle.std.proofs.Common.{◌∷◌, sym, ◌∙◌, subst}
use Rattle.page_chain.proofs.RunLemmas.{ok_no_fault, reads_on, wrong_no_fault}
use Rattle.page_chain.specs.Inner.Runs.{OnlyReads}
use Rattle.page_chain.specs.declared.slots.slots.slots.Slots.{Slots}
use Rattle.file_meaning.specs.Opening.{catalogue_pages, stored_pages}
use Rattle.file_reading.specs.Reading.{slots_of}
use Rattle.file_reading.specs.Inner.Rows.{AreBeside}
use Rattle.file_reading.proofs.FrontLaws.{none_stops}
use Rattle.file_reading.proofs.FoundLaws.{all_told, base_stopped, behind_stopped}
use Rattle.file_reading.proofs.Steps.{sound_there}
use Rattle.file_reading.proofs.found.read_found.Goals as goal

pub returns-else-has_front-clause-exact : goal.returns-else-has_front-clause-exact
returns-else-has_front-clause-exact g c =
    let old = c.args.file.now in
    let mid = c.base_found.new.file in
    all_told old.slots mid.slots (g.D.Disk.moment old.disk).state.seen (g.D.Disk.moment mid.disk).state.seen c.in-Ok.found c.read_behind.new.found c.in-Ok.ensures.slots c.in-Ok.ensures.reads.seen c.in-Ok.ensures.exact
    c.in-Ok-read_behind.ensures.exact

pub returns-then-has_front-clause-exact : goal.returns-then-has_front-clause-exact
returns-then-has_front-clause-exact g c =
    let old = c.args.file.now in
    let mid = c.base_found.new.file in
    none_stops (g.D.Disk.moment old.disk).state.seen (slots_of old.slots) c.read_behind.new.found (sym c.has_front.ensures ∙ c.if-has_front.true)
    (all_told old.slots mid.slots (g.D.Disk.moment old.disk).state.seen (g.D.Disk.moment mid.disk).state.seen c.in-Ok.found c.read_behind.new.found c.in-Ok.ensures.slots c.in-Ok.ensures.reads.seen c.in-Ok.ensures.exact
    c.in-Ok-read_behind.ensures.exact)

pub returns-else-has_front-clause-apart : goal.returns-else-has_front-clause-apart
returns-else-has_front-clause-apart g c =
    let found = c.read_behind.new.found in
    record {
      front = sym c.has_front.ensures ∙ c.if-has_front.false;
      stored = subst (λ (s : Slots). AreBeside (s.current.root.log ∷ catalogue_pages found) (stored_pages found)) c.in-Ok.ensures.slots c.in-Ok-read_behind.ensures.stored;
    }

pub returns-in-Err-read_behind-clause-exact : goal.returns-in-Err-read_behind-clause-exact
returns-in-Err-read_behind-clause-exact g c =
    let old = c.args.file.now in
    let mid = c.base_found.new.file in
    behind_stopped old.slots mid.slots (g.D.Disk.moment old.disk).state.seen (g.D.Disk.moment mid.disk).state.seen c.in-Ok.found c.read_behind.new.found c.in-Err-read_behind.cause c.in-Ok.ensures.slots c.in-Ok.ensures.reads.seen c.in-Ok.ensures.exact
    c.in-Err-read_behind.ensures.exact

pub returns-in-Err-clause-exact : goal.returns-in-Err-clause-exact
returns-in-Err-clause-exact g c =
    let old = c.args.file.now in
    base_stopped old.slots (g.D.Disk.moment old.disk).state.seen c.in-Err.cause c.in-Err.ensures.exact

pub returns-then-has_front-clause-reads : goal.returns-then-has_front-clause-reads
returns-then-has_front-clause-reads g c = reads_on _ _ _ _ _ _ _ _ _ c.base_found.ensures.reads c.read_behind.ensures.reads

pub returns-then-has_front-clause-sound : goal.returns-then-has_front-clause-sound
returns-then-has_front-clause-sound g c = λ seen sound.
    let old = c.args.file.now in
    let new = c.read_behind.new.file in
    let reads : OnlyReads (g.D.Disk.moment old.disk) (g.D.Disk.moment new.disk) = reads_on _ _ _ _ _ _ _ _ _ c.base_found.ensures.reads c.read_behind.ensures.reads in
    sound_there old.slots new.slots seen (g.D.Disk.moment old.disk).may_leave (g.D.Disk.moment new.disk).may_leave (c.read_behind.ensures.slots ∙ c.base_found.ensures.slots) reads.crash sound

pub returns-else-has_front-clause-reads : goal.returns-else-has_front-clause-reads
returns-else-has_front-clause-reads g c = reads_on _ _ _ _ _ _ _ _ _ c.base_found.ensures.reads c.read_behind.ensures.reads

pub returns-else-has_front-clause-sound : goal.returns-else-has_front-clause-sound
returns-else-has_front-clause-sound g c = λ seen sound.
    let old = c.args.file.now in
    let new = c.read_behind.new.file in
    let reads : OnlyReads (g.D.Disk.moment old.disk) (g.D.Disk.moment new.disk) = reads_on _ _ _ _ _ _ _ _ _ c.base_found.ensures.reads c.read_behind.ensures.reads in
    sound_there old.slots new.slots seen (g.D.Disk.moment old.disk).may_leave (g.D.Disk.moment new.disk).may_leave (c.read_behind.ensures.slots ∙ c.base_found.ensures.slots) reads.crash sound

pub returns-in-Err-read_behind-clause-reads : goal.returns-in-Err-read_behind-clause-reads
returns-in-Err-read_behind-clause-reads g c = reads_on _ _ _ _ _ _ _ _ _ c.base_found.ensures.reads c.read_behind.ensures.reads

pub returns-in-Err-read_behind-clause-sound : goal.returns-in-Err-read_behind-clause-sound
returns-in-Err-read_behind-clause-sound g c = λ seen sound.
    let old = c.args.file.now in
    let new = c.read_behind.new.file in
    let reads : OnlyReads (g.D.Disk.moment old.disk) (g.D.Disk.moment new.disk) = reads_on _ _ _ _ _ _ _ _ _ c.base_found.ensures.reads c.read_behind.ensures.reads in
    sound_there old.slots new.slots seen (g.D.Disk.moment old.disk).may_leave (g.D.Disk.moment new.disk).may_leave (c.read_behind.ensures.slots ∙ c.base_found.ensures.slots) reads.crash sound

pub returns-in-Err-clause-sound : goal.returns-in-Err-clause-sound
returns-in-Err-clause-sound g c = λ seen sound.
    let old = c.args.file.now in
    let new = c.base_found.new.file in
    sound_there old.slots new.slots seen (g.D.Disk.moment old.disk).may_leave (g.D.Disk.moment new.disk).may_leave c.base_found.ensures.slots c.base_found.ensures.reads.crash sound

pub returns-then-has_front-clause-fault : goal.returns-then-has_front-clause-fault
returns-then-has_front-clause-fault g c = wrong_no_fault 0

pub returns-else-has_front-clause-fault : goal.returns-else-has_front-clause-fault
returns-else-has_front-clause-fault g c = ok_no_fault c.read_behind.new.found _
