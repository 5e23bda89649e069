use Rattle.std.proofs.Common.{◌≡◌, ℕ, length, true, refl, ◌+◌, ap}
use Rattle.page_chain.specs.Standing.{entry_gate}
use Rattle.page_chain.specs.declared.slots.slots.slots.NextEntry.TheVariants as entries
use Rattle.page_chain.proofs.Lifts.{done_at, failed_at, puts_at, sound_done, sound_failed, always_opens}
use Rattle.page_chain.proofs.EntryCommits.{write_done, write_failed, write_opens}
use Rattle.page_chain.proofs.slots.slots.commits.write_record.Goals as goal

pub returns-in-Ok-clause-sound : goal.returns-in-Ok-clause-sound
returns-in-Ok-clause-sound g c =
    let at : c.entry_gate-place.result + 8 ≡ entry_gate c.args.slots.now + 8 = ap (λ (m : ℕ). m + 8) c.entry_gate-place.ensures in
    sound_done c.args.slots.now (record (c.args.slots.now) { next = entries.Written c.args.at }) (entry_gate c.args.slots.now + 8) (c.record_body.result) (g.D.Disk.moment c.args.disk.now).state (g.D.Disk.moment c.put.new.disk).state (g.D.Disk.moment c.args.disk.now).may_leave (g.D.Disk.moment c.put.new.disk).may_leave (g.met.D.Disk.as_read c.args.disk.now)
    (done_at (g.D.Disk.moment c.args.disk.now).state (g.D.Disk.moment c.put.new.disk).state (g.D.Disk.moment c.put.new.disk).may_leave (c.entry_gate-place.result + 8) (entry_gate c.args.slots.now + 8) (c.record_body.result) (c.record_body.result) at refl c.in-Ok.ensures.put)
    (λ seen here only sound. write_done c.args.slots.now c.requires.target c.requires.there c.args.at c.record_body.result seen (g.D.Disk.moment c.args.disk.now).may_leave (g.D.Disk.moment c.put.new.disk).may_leave c.requires.closed c.requires.sure c.record_body.ensures.reads c.record_body.ensures.size here only sound)

pub returns-in-Ok-clause-opens : goal.returns-in-Ok-clause-opens
returns-in-Ok-clause-opens g c =
    let at : c.entry_gate-place.result + 8 ≡ entry_gate c.args.slots.now + 8 = ap (λ (m : ℕ). m + 8) c.entry_gate-place.ensures in
    always_opens c.args.slots.now (record (c.args.slots.now) { next = entries.Closed }) (entry_gate c.args.slots.now + 8) 12 (g.D.Disk.moment c.args.disk.now).state (g.D.Disk.moment c.put.new.disk).state (g.D.Disk.moment c.args.disk.now).left_since (g.D.Disk.moment c.put.new.disk).left_since (g.D.Disk.moment c.args.disk.now).may_leave (g.D.Disk.moment c.put.new.disk).may_leave
    (puts_at (c.entry_gate-place.result + 8) (entry_gate c.args.slots.now + 8) (length c.record_body.result) 12 (g.D.Disk.moment c.args.disk.now).state (g.D.Disk.moment c.put.new.disk).state (g.D.Disk.moment c.args.disk.now).left_since (g.D.Disk.moment c.put.new.disk).left_since (g.D.Disk.moment c.args.disk.now).may_leave (g.D.Disk.moment c.put.new.disk).may_leave at (c.record_body.ensures.size) c.put.ensures.writes)
    (λ seen sound. write_opens c.args.slots.now c.requires.target c.requires.there seen (g.D.Disk.moment c.args.disk.now).may_leave c.requires.closed c.requires.sure sound)

pub returns-in-Err-clause-sound : goal.returns-in-Err-clause-sound
returns-in-Err-clause-sound g c =
    let at : c.entry_gate-place.result + 8 ≡ entry_gate c.args.slots.now + 8 = ap (λ (m : ℕ). m + 8) c.entry_gate-place.ensures in
    let puts = puts_at (c.entry_gate-place.result + 8) (entry_gate c.args.slots.now + 8) (length c.record_body.result) 12 (g.D.Disk.moment c.args.disk.now).state (g.D.Disk.moment c.put.new.disk).state (g.D.Disk.moment c.args.disk.now).left_since (g.D.Disk.moment c.put.new.disk).left_since (g.D.Disk.moment c.args.disk.now).may_leave (g.D.Disk.moment c.put.new.disk).may_leave at (c.record_body.ensures.size) c.put.ensures.writes in
    sound_failed c.args.slots.now (record (c.args.slots.now) { next = entries.Closed; doubtful = true }) (entry_gate c.args.slots.now + 8) 12 (g.D.Disk.moment c.args.disk.now).state (g.D.Disk.moment c.put.new.disk).state (g.D.Disk.moment c.args.disk.now).may_leave (g.D.Disk.moment c.put.new.disk).may_leave (g.met.D.Disk.as_read c.args.disk.now)
    (failed_at (g.D.Disk.moment c.args.disk.now).state (g.D.Disk.moment c.put.new.disk).state (c.entry_gate-place.result + 8) (entry_gate c.args.slots.now + 8) (length c.record_body.result) 12 at (c.record_body.ensures.size) c.in-Err.ensures.put)
    (λ seen torn here tore sound. write_failed c.args.slots.now c.requires.target c.requires.there seen torn (g.D.Disk.moment c.args.disk.now).may_leave (g.D.Disk.moment c.put.new.disk).may_leave c.requires.closed c.requires.sure here tore puts.crash sound)

pub returns-in-Err-clause-opens : goal.returns-in-Err-clause-opens
returns-in-Err-clause-opens g c =
    let at : c.entry_gate-place.result + 8 ≡ entry_gate c.args.slots.now + 8 = ap (λ (m : ℕ). m + 8) c.entry_gate-place.ensures in
    always_opens c.args.slots.now (record (c.args.slots.now) { next = entries.Closed }) (entry_gate c.args.slots.now + 8) 12 (g.D.Disk.moment c.args.disk.now).state (g.D.Disk.moment c.put.new.disk).state (g.D.Disk.moment c.args.disk.now).left_since (g.D.Disk.moment c.put.new.disk).left_since (g.D.Disk.moment c.args.disk.now).may_leave (g.D.Disk.moment c.put.new.disk).may_leave
    (puts_at (c.entry_gate-place.result + 8) (entry_gate c.args.slots.now + 8) (length c.record_body.result) 12 (g.D.Disk.moment c.args.disk.now).state (g.D.Disk.moment c.put.new.disk).state (g.D.Disk.moment c.args.disk.now).left_since (g.D.Disk.moment c.put.new.disk).left_since (g.D.Disk.moment c.args.disk.now).may_leave (g.D.Disk.moment c.put.new.disk).may_leave at (c.record_body.ensures.size) c.put.ensures.writes)
    (λ seen sound. write_opens c.args.slots.now c.requires.target c.requires.there seen (g.D.Disk.moment c.args.disk.now).may_leave c.requires.closed c.requires.sure sound)

pub returns-in-Ok-clause-writes : goal.returns-in-Ok-clause-writes
returns-in-Ok-clause-writes g c =
    let at : c.entry_gate-place.result + 8 ≡ entry_gate c.args.slots.now + 8 = ap (λ (m : ℕ). m + 8) c.entry_gate-place.ensures in
    puts_at (c.entry_gate-place.result + 8) (entry_gate c.args.slots.now + 8) (length c.record_body.result) 12 _ _ _ _ _ _ at c.record_body.ensures.size c.put.ensures.writes

pub returns-in-Err-clause-writes : goal.returns-in-Err-clause-writes
returns-in-Err-clause-writes g c =
    let at : c.entry_gate-place.result + 8 ≡ entry_gate c.args.slots.now + 8 = ap (λ (m : ℕ). m + 8) c.entry_gate-place.ensures in
    puts_at (c.entry_gate-place.result + 8) (entry_gate c.args.slots.now + 8) (length c.record_body.result) 12 _ _ _ _ _ _ at c.record_body.ensures.size c.put.ensures.writes
