use Rattle.std.proofs.Common.{subst, sym}
use Rattle.std.specs.Prelude.{MatchResult, OnOk, ◌≡◌}
use Rattle.page_chain.specs.Disk.{FailsWithCause}
use Rattle.page_chain.specs.Puts.{OnlyPuts, OnlySyncs}
use Rattle.page_chain.specs.Standing.{IsDurable, IsShut, IsTarget, KeepsSound, LeavesOpening, gate_place}
use Rattle.page_chain.specs.Steps.{doubted, shut}
use Rattle.page_file.specs.FilesOpened.{OpenFile}
use Rattle.page_file.proofs.files.file.PageFile.close_slot.Goals as goal

pub close_slot-requires : goal.close_slot-requires
close_slot-requires g c = subst (λ (f : OpenFile _). IsTarget f.slots) (sym c.self.view_is) c.requires

pub returns : goal.returns
returns g c =
    let is = c.self.view_is in
    let did = c.close_slot.ensures in
    let answer = c.close_slot.result in
    let slots = c.close_slot.new.slots in
    let moment = g.D.Disk.moment in
    let new = moment c.close_slot.new.disk in record {
      slots = subst
          (λ (f : OpenFile _). MatchResult answer (λ _. slots ≡ shut f.slots.target f.slots) (λ _. slots ≡ doubted f.slots))
          is did.slots;
      sound = subst
          (λ (f : OpenFile _). KeepsSound f.slots slots (moment f.disk) new)
          is did.sound;
      opens = subst
          (λ (f : OpenFile _). LeavesOpening f.slots f.slots (moment f.disk) new)
          is did.opens;
      durable = subst
          (λ (f : OpenFile _). OnOk answer (IsDurable (moment f.disk) new))
          is did.durable;
      writes = subst
          (λ (f : OpenFile _). OnlyPuts (gate_place f.slots.target f.slots) 1 (moment f.disk) new)
          is did.writes;
      quiet = subst
          (λ (f : OpenFile _). IsShut f.slots.target f.slots → OnlySyncs (moment f.disk) new)
          is did.quiet;
      cause = subst
          (λ (f : OpenFile _). FailsWithCause answer (moment f.disk) new)
          is did.cause;
    }
