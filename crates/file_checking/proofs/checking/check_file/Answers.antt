use Rattle.std.proofs.Common.{sym, subst, List, ℕ, Option, IfSome, Err}
use Rattle.page_chain.specs.Opens.{OpensAs}
use Rattle.file_checking.specs.Inner.Steps.{IsAnswer}
use Rattle.file_checking.proofs.Opened.{back_cause, back_read, exact_of, never_opened, open_cause, sound_of, stands_of}
use Rattle.file_checking.proofs.checking.check_file.Goals as goal

pub check_opened-answer-requires-clause-opens : goal.check_opened-answer-requires-clause-opens
check_opened-answer-requires-clause-opens g c =
    subst (λ (o : Option (List ℕ)). IfSome o (OpensAs c.in-Ok.file.slots.current c.in-Ok.file.slots.records)) (sym c.in-Ok.ensures.reads.seen) c.in-Ok.ensures.opened

pub returns-in-Ok-clause-exact : goal.returns-in-Ok-clause-exact
returns-in-Ok-clause-exact g c =
    exact_of c.check_opened-answer.result (g.D.Disk.moment c.args.disk).state.seen (subst (λ (o : Option (List ℕ)). IfSome o (λ seen. IsAnswer seen c.check_opened-answer.result)) c.in-Ok.ensures.reads.seen c.check_opened-answer.ensures.told)

pub returns-in-Ok-clause-stands : goal.returns-in-Ok-clause-stands
returns-in-Ok-clause-stands g c =
    stands_of c.check_opened-answer.result (g.D.Disk.moment c.args.disk).state.seen (subst (λ (o : Option (List ℕ)). IfSome o (λ seen. IsAnswer seen c.check_opened-answer.result)) c.in-Ok.ensures.reads.seen c.check_opened-answer.ensures.told)

pub returns-in-Ok-clause-sound : goal.returns-in-Ok-clause-sound
returns-in-Ok-clause-sound g c =
    sound_of c.check_opened-answer.result (g.D.Disk.moment c.args.disk).state.seen (subst (λ (o : Option (List ℕ)). IfSome o (λ seen. IsAnswer seen c.check_opened-answer.result)) c.in-Ok.ensures.reads.seen c.check_opened-answer.ensures.told)

pub returns-in-Ok-clause-reads : goal.returns-in-Ok-clause-reads
returns-in-Ok-clause-reads g c = back_read g.D.Disk.moment c.args.disk c.in-Ok.file.disk c.check_opened-answer.new.file.disk c.close.result c.close.ensures c.in-Ok.ensures.reads c.check_opened-answer.ensures.reads

pub returns-in-Ok-clause-cause : goal.returns-in-Ok-clause-cause
returns-in-Ok-clause-cause g c =
    back_cause g.D.Disk.moment c.check_opened-answer.result c.args.disk c.in-Ok.file.disk c.check_opened-answer.new.file.disk c.close.result c.close.ensures c.in-Ok.ensures.reads.same.later c.check_opened-answer.ensures.cause

pub returns-in-Err-clause-exact : goal.returns-in-Err-clause-exact
returns-in-Err-clause-exact g c = exact_of (Err c.fault_of.result) (g.D.Disk.moment c.args.disk).state.seen (never_opened c.in-Err.cause c.fault_of.result (g.D.Disk.moment c.args.disk).state.seen c.fault_of.ensures c.in-Err.ensures.opened)

pub returns-in-Err-clause-stands : goal.returns-in-Err-clause-stands
returns-in-Err-clause-stands g c = stands_of (Err c.fault_of.result) (g.D.Disk.moment c.args.disk).state.seen (never_opened c.in-Err.cause c.fault_of.result (g.D.Disk.moment c.args.disk).state.seen c.fault_of.ensures c.in-Err.ensures.opened)

pub returns-in-Err-clause-sound : goal.returns-in-Err-clause-sound
returns-in-Err-clause-sound g c = sound_of (Err c.fault_of.result) (g.D.Disk.moment c.args.disk).state.seen (never_opened c.in-Err.cause c.fault_of.result (g.D.Disk.moment c.args.disk).state.seen c.fault_of.ensures c.in-Err.ensures.opened)

pub returns-in-Err-clause-cause : goal.returns-in-Err-clause-cause
returns-in-Err-clause-cause g c = open_cause c.in-Err.cause c.fault_of.result (g.D.Disk.moment c.args.disk).state (g.D.Disk.moment c.in-Err.disk).state c.fault_of.ensures c.in-Err.ensures.cause
