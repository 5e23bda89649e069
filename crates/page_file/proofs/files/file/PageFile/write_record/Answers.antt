use Rattle.std.proofs.Common.{subst, sym}
use Rattle.std.specs.Prelude.{MatchResult, OnOk, false, true, ◌+◌, ◌≡◌}
use Rattle.page_chain.specs.Disk.{FailsWithCause}
use Rattle.page_chain.specs.Puts.{OnlyPuts}
use Rattle.page_chain.specs.Standing.{IsDurable, IsShutEntry, IsTarget, KeepsSound, LeavesOpening, entry_gate}
use Rattle.page_chain.specs.declared.slots.slots.slots.NextEntry.TheVariants as entries
use Rattle.page_chain.specs.declared.slots.slots.slots.Target.TheVariants as targets
use Rattle.page_file.specs.FilesOpened.{OpenFile}
use Rattle.page_file.proofs.files.file.PageFile.write_record.Goals as goal

pub write_record-requires-clause-closed : goal.write_record-requires-clause-closed
write_record-requires-clause-closed g c = subst (λ (f : OpenFile _). IsShutEntry f.slots.next) (sym c.self.view_is) c.requires.closed

pub write_record-requires-clause-sure : goal.write_record-requires-clause-sure
write_record-requires-clause-sure g c = subst (λ (f : OpenFile _). f.slots.doubtful ≡ false) (sym c.self.view_is) c.requires.sure

pub write_record-requires-clause-target : goal.write_record-requires-clause-target
write_record-requires-clause-target g c = subst (λ (f : OpenFile _). f.slots.target ≡ targets.Record) (sym c.self.view_is) c.requires.target

pub write_record-requires-clause-there : goal.write_record-requires-clause-there
write_record-requires-clause-there g c = subst (λ (f : OpenFile _). IsTarget f.slots) (sym c.self.view_is) c.requires.there

pub returns : goal.returns
returns g c =
    let is = c.self.view_is in
    let did = c.write_record.ensures in
    let answer = c.write_record.result in
    let slots = c.write_record.new.slots in
    let moment = g.D.Disk.moment in
    let new = moment c.write_record.new.disk in record {
      slots = subst
          (λ (f : OpenFile _). MatchResult answer (λ _. slots ≡ record (f.slots) { next = entries.Written c.args.at }) (λ _. slots ≡ record (f.slots) { next = entries.Closed; doubtful = true }))
          is did.slots;
      sound = subst
          (λ (f : OpenFile _). KeepsSound f.slots slots (moment f.disk) new)
          is did.sound;
      opens = subst
          (λ (f : OpenFile _). LeavesOpening f.slots (record (f.slots) { next = entries.Closed }) (moment f.disk) new)
          is did.opens;
      durable = subst
          (λ (f : OpenFile _). OnOk answer (IsDurable (moment f.disk) new))
          is did.durable;
      writes = subst
          (λ (f : OpenFile _). OnlyPuts (entry_gate f.slots + 8) 12 (moment f.disk) new)
          is did.writes;
      cause = subst
          (λ (f : OpenFile _). FailsWithCause answer (moment f.disk) new)
          is did.cause;
    }
