use Rattle.std.proofs.Common.{inl, ap, sym, ◌∙◌, subst}
use Rattle.afl_outside.specs.Disk.{DiskState, DiskGoesOn}
use Rattle.page_chain.proofs.RunLemmas.{rose_told}
use Rattle.page_file.proofs.Kept.{root_there}
use Rattle.page_chain.specs.declared.slots.slots.slots.Slots.{Slots}
use Rattle.backup_restoring.proofs.Parts.{aims_root, closes_by}
use Rattle.backup_restoring.proofs.making.close.Goals as goal

pub aim-requires : goal.aim-requires
aim-requires g c = record { sure = c.requires.sure; slot = inl c.other_root-other.ensures }

pub close_slot-requires : goal.close_slot-requires
close_slot-requires g c =
    root_there c.aim.new.self.slots (ap (λ (s : Slots). s.target) c.aim.ensures.slots ∙ aims_root c.other_root-other.result c.args.file.now.slots c.other_root-other.ensures)

pub returns-in-Ok : goal.returns-in-Ok
returns-in-Ok g c =
    let old = c.args.file.now in
    let mid = c.aim.new.self in
    let new = c.close_slot.new.self in
    record {
      closed = closes_by c.other_root-other.result old.slots mid.slots new.slots (g.D.Disk.moment old.disk) (g.D.Disk.moment mid.disk) (g.D.Disk.moment new.disk) c.other_root-other.ensures c.aim.ensures.slots c.in-Ok.ensures.slots
          c.requires.root (ap (λ d. (g.D.Disk.moment d).state) (sym c.aim.ensures.disk)) c.aim.ensures.sound c.in-Ok.ensures.writes.same c.in-Ok.ensures.sound;
      fault = tt;
    }

pub returns-in-Err : goal.returns-in-Err
returns-in-Err g c =
    let still = ap (λ d. (g.D.Disk.moment d).state) c.aim.ensures.disk in
    record {
      closed = tt;
      fault = record {
        same = subst (λ (s : DiskState). DiskGoesOn s (g.D.Disk.moment c.close_slot.new.self.disk).state) still c.in-Err.ensures.writes.same;
        cause = rose_told _ _ _ _ (c.faults-before.ensures ∙ ap (λ (s : DiskState). s.faults) still) c.faults.ensures (c.has_risen.ensures.0 c.if-has_risen.true);
      };
    }

pub returns-in-Err-2 : goal.returns-in-Err-2
returns-in-Err-2 g c =
    let still = ap (λ d. (g.D.Disk.moment d).state) c.aim.ensures.disk in
    record { closed = tt; fault = record { same = subst (λ (s : DiskState). DiskGoesOn s (g.D.Disk.moment c.close_slot.new.self.disk).state) still c.in-Err-2.ensures.writes.same; cause = tt } }
