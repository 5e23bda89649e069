use Rattle.std.proofs.Common.{subst, sym}
use Rattle.std.specs.Prelude.{MatchResult, OnOk, false, ◌≡◌}
use Rattle.page_chain.specs.Disk.{FailsWithCause}
use Rattle.page_chain.specs.Puts.{OnlyPuts}
use Rattle.page_chain.specs.Standing.{IsDurable, IsReady, IsTarget, KeepsSound, LeavesOpening, gate_place}
use Rattle.page_chain.specs.Steps.{ajar, doubted, with_target}
use Rattle.page_file.specs.FilesOpened.{OpenFile}
use Rattle.page_file.proofs.files.file.PageFile.open_slot.Goals as goal

pub open_slot-requires-clause-ready : goal.open_slot-requires-clause-ready
open_slot-requires-clause-ready g c = subst (λ (f : OpenFile _). IsReady f.slots.target f.slots) (sym c.self.view_is) c.requires.ready

pub open_slot-requires-clause-sure : goal.open_slot-requires-clause-sure
open_slot-requires-clause-sure g c = subst (λ (f : OpenFile _). f.slots.doubtful ≡ false) (sym c.self.view_is) c.requires.sure

pub open_slot-requires-clause-there : goal.open_slot-requires-clause-there
open_slot-requires-clause-there g c = subst (λ (f : OpenFile _). IsTarget f.slots) (sym c.self.view_is) c.requires.there

pub returns : goal.returns
returns g c =
    let is = c.self.view_is in
    let did = c.open_slot.ensures in
    let answer = c.open_slot.result in
    let slots = c.open_slot.new.slots in
    let moment = g.D.Disk.moment in
    let new = moment c.open_slot.new.disk in record {
      slots = subst
          (λ (f : OpenFile _). MatchResult answer (λ _. slots ≡ with_target f.slots.target f.slots) (λ _. slots ≡ doubted (ajar f.slots.target f.slots)))
          is did.slots;
      sound = subst
          (λ (f : OpenFile _). KeepsSound f.slots slots (moment f.disk) new)
          is did.sound;
      opens = subst
          (λ (f : OpenFile _). LeavesOpening f.slots (ajar f.slots.target f.slots) (moment f.disk) new)
          is did.opens;
      durable = subst
          (λ (f : OpenFile _). OnOk answer (IsDurable (moment f.disk) new))
          is did.durable;
      writes = subst
          (λ (f : OpenFile _). OnlyPuts (gate_place f.slots.target f.slots) 1 (moment f.disk) new)
          is did.writes;
      cause = subst
          (λ (f : OpenFile _). FailsWithCause answer (moment f.disk) new)
          is did.cause;
    }
