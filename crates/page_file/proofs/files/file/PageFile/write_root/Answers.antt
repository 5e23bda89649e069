use Rattle.std.proofs.Common.{subst, sym}
use Rattle.std.specs.Prelude.{MatchResult, OnOk, false, true, ◌<◌, ◌≡◌}
use Rattle.page_chain.specs.Disk.{FailsWithCause}
use Rattle.page_chain.specs.Places.{body_of, other}
use Rattle.page_chain.specs.Puts.{OnlyPuts}
use Rattle.page_chain.specs.Standing.{IsDurable, IsShutRoot, KeepsSound, LeavesOpening}
use Rattle.page_chain.specs.declared.slots.slots.slots.RootSlot.TheVariants as roots
use Rattle.page_chain.specs.declared.slots.slots.slots.Target.TheVariants as targets
use Rattle.page_file.specs.FilesOpened.{OpenFile}
use Rattle.page_file.proofs.files.file.PageFile.write_root.Goals as goal

pub write_root-requires-clause-closed : goal.write_root-requires-clause-closed
write_root-requires-clause-closed g c = subst (λ (f : OpenFile _). IsShutRoot f.slots.other) (sym c.self.view_is) c.requires.closed

pub write_root-requires-clause-sure : goal.write_root-requires-clause-sure
write_root-requires-clause-sure g c = subst (λ (f : OpenFile _). f.slots.doubtful ≡ false) (sym c.self.view_is) c.requires.sure

pub write_root-requires-clause-target : goal.write_root-requires-clause-target
write_root-requires-clause-target g c = subst (λ (f : OpenFile _). f.slots.target ≡ targets.Root) (sym c.self.view_is) c.requires.target

pub write_root-requires-clause-newer : goal.write_root-requires-clause-newer
write_root-requires-clause-newer g c = subst (λ (f : OpenFile _). f.slots.current.root.sequence < c.args.root.sequence) (sym c.self.view_is) c.requires.newer

pub returns : goal.returns
returns g c =
    let is = c.self.view_is in
    let did = c.write_root.ensures in
    let answer = c.write_root.result in
    let slots = c.write_root.new.slots in
    let moment = g.D.Disk.moment in
    let new = moment c.write_root.new.disk in record {
      slots = subst
          (λ (f : OpenFile _). MatchResult answer (λ _. slots ≡ record (f.slots) { other = roots.Written c.args.root }) (λ _. slots ≡ record (f.slots) { other = roots.Closed; doubtful = true }))
          is did.slots;
      sound = subst
          (λ (f : OpenFile _). KeepsSound f.slots slots (moment f.disk) new)
          is did.sound;
      opens = subst
          (λ (f : OpenFile _). LeavesOpening f.slots (record (f.slots) { other = roots.Closed }) (moment f.disk) new)
          is did.opens;
      durable = subst
          (λ (f : OpenFile _). OnOk answer (IsDurable (moment f.disk) new))
          is did.durable;
      writes = subst
          (λ (f : OpenFile _). OnlyPuts (body_of (other f.slots.current.side)) 24 (moment f.disk) new)
          is did.writes;
      cause = subst
          (λ (f : OpenFile _). FailsWithCause answer (moment f.disk) new)
          is did.cause;
    }
