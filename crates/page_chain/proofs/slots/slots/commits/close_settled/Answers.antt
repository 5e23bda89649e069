use Rattle.std.proofs.Common.{true, sym, subst}
use Rattle.page_chain.specs.Standing.{IsSound}
use Rattle.page_chain.specs.declared.slots.slots.slots.Slots.{Slots}
use Rattle.page_chain.proofs.Lifts.{sound_synced, synced_opens}
use Rattle.page_chain.proofs.Settled.{settle_done, settle_failed, settle_opens}
use Rattle.page_chain.proofs.slots.slots.commits.close_settled.Goals as goal

pub returns-in-Ok-clause-sound : goal.returns-in-Ok-clause-sound
returns-in-Ok-clause-sound g c =
    sound_synced c.args.slots.now c.shut.new.self (g.D.Disk.moment c.args.disk.now).state (g.D.Disk.moment c.settle.new.disk).state (g.D.Disk.moment c.args.disk.now).left_since (g.D.Disk.moment c.settle.new.disk).left_since (g.D.Disk.moment c.args.disk.now).may_leave (g.D.Disk.moment c.settle.new.disk).may_leave c.settle.ensures.syncs (λ seen sound less. subst (λ (s : Slots). IsSound s seen (g.D.Disk.moment c.settle.new.disk).may_leave) (sym c.shut.ensures) (settle_done c.args.slots.now seen (g.D.Disk.moment c.args.disk.now).may_leave (g.D.Disk.moment c.settle.new.disk).may_leave c.requires less sound))

pub returns-in-Ok-clause-opens : goal.returns-in-Ok-clause-opens
returns-in-Ok-clause-opens g c = synced_opens c.args.slots.now c.args.slots.now (g.D.Disk.moment c.args.disk.now).state (g.D.Disk.moment c.settle.new.disk).state (g.D.Disk.moment c.args.disk.now).left_since (g.D.Disk.moment c.settle.new.disk).left_since (g.D.Disk.moment c.args.disk.now).may_leave (g.D.Disk.moment c.settle.new.disk).may_leave c.settle.ensures.syncs (λ seen sound. settle_opens c.args.slots.now seen (g.D.Disk.moment c.args.disk.now).may_leave sound)

pub returns-in-Err-clause-sound : goal.returns-in-Err-clause-sound
returns-in-Err-clause-sound g c =
    sound_synced c.args.slots.now (record (c.args.slots.now) { doubtful = true }) (g.D.Disk.moment c.args.disk.now).state (g.D.Disk.moment c.settle.new.disk).state (g.D.Disk.moment c.args.disk.now).left_since (g.D.Disk.moment c.settle.new.disk).left_since (g.D.Disk.moment c.args.disk.now).may_leave (g.D.Disk.moment c.settle.new.disk).may_leave c.settle.ensures.syncs (λ seen sound less. settle_failed c.args.slots.now seen (g.D.Disk.moment c.args.disk.now).may_leave (g.D.Disk.moment c.settle.new.disk).may_leave less sound)

pub returns-in-Err-clause-opens : goal.returns-in-Err-clause-opens
returns-in-Err-clause-opens g c = synced_opens c.args.slots.now c.args.slots.now (g.D.Disk.moment c.args.disk.now).state (g.D.Disk.moment c.settle.new.disk).state (g.D.Disk.moment c.args.disk.now).left_since (g.D.Disk.moment c.settle.new.disk).left_since (g.D.Disk.moment c.args.disk.now).may_leave (g.D.Disk.moment c.settle.new.disk).may_leave c.settle.ensures.syncs (λ seen sound. settle_opens c.args.slots.now seen (g.D.Disk.moment c.args.disk.now).may_leave sound)
