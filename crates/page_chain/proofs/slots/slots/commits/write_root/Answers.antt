use Rattle.std.proofs.Common.{◌≡◌, length, refl, ◌∙◌, ap}
use Rattle.page_chain.specs.Places.{body_of, other}
use Rattle.page_chain.specs.declared.slots.layout.sides.Side.{Side}
use Rattle.page_chain.specs.declared.slots.slots.slots.RootSlot.TheVariants as roots
use Rattle.page_chain.proofs.Lifts.{done_at, failed_at, puts_at, sound_done, sound_failed, always_opens}
use Rattle.page_chain.proofs.RootCommits.{body_done, body_failed, body_opens}
use Rattle.page_chain.proofs.slots.slots.commits.write_root.Goals as goal

pub returns-in-Ok-clause-sound : goal.returns-in-Ok-clause-sound
returns-in-Ok-clause-sound g c =
    let at : c.body-at.result ≡ body_of (other c.args.slots.now.current.side) = c.body-at.ensures ∙ ap (λ (s : Side). body_of s) c.other.ensures in
    sound_done c.args.slots.now _ (body_of (other c.args.slots.now.current.side)) c.root_body.result (g.D.Disk.moment c.args.disk.now).state (g.D.Disk.moment c.put.new.disk).state (g.D.Disk.moment c.args.disk.now).may_leave (g.D.Disk.moment c.put.new.disk).may_leave
    (g.met.D.Disk.as_read c.args.disk.now)
    (done_at (g.D.Disk.moment c.args.disk.now).state (g.D.Disk.moment c.put.new.disk).state (g.D.Disk.moment c.put.new.disk).may_leave c.body-at.result (body_of (other c.args.slots.now.current.side)) c.root_body.result c.root_body.result at refl c.in-Ok.ensures.put)
    (λ seen here only sound. body_done c.args.slots.now c.args.root c.root_body.result seen (g.D.Disk.moment c.args.disk.now).may_leave (g.D.Disk.moment c.put.new.disk).may_leave c.requires.closed c.requires.sure c.requires.target c.requires.newer c.root_body.ensures.reads c.root_body.ensures.size here only sound)

pub returns-in-Ok-clause-opens : goal.returns-in-Ok-clause-opens
returns-in-Ok-clause-opens g c =
    let at : c.body-at.result ≡ body_of (other c.args.slots.now.current.side) = c.body-at.ensures ∙ ap (λ (s : Side). body_of s) c.other.ensures in
    always_opens c.args.slots.now (record (c.args.slots.now) { other = roots.Closed }) (body_of (other c.args.slots.now.current.side)) 24 (g.D.Disk.moment c.args.disk.now).state (g.D.Disk.moment c.put.new.disk).state (g.D.Disk.moment c.args.disk.now).left_since (g.D.Disk.moment c.put.new.disk).left_since (g.D.Disk.moment c.args.disk.now).may_leave (g.D.Disk.moment c.put.new.disk).may_leave
    (puts_at c.body-at.result (body_of (other c.args.slots.now.current.side)) (length c.root_body.result) 24 _ _ _ _ _ _ at c.root_body.ensures.size c.put.ensures.writes)
    (λ seen sound. body_opens c.args.slots.now seen (g.D.Disk.moment c.args.disk.now).may_leave c.requires.closed sound)

pub returns-in-Err-clause-sound : goal.returns-in-Err-clause-sound
returns-in-Err-clause-sound g c =
    let at : c.body-at.result ≡ body_of (other c.args.slots.now.current.side) = c.body-at.ensures ∙ ap (λ (s : Side). body_of s) c.other.ensures in
    let puts = puts_at c.body-at.result (body_of (other c.args.slots.now.current.side)) (length c.root_body.result) 24 (g.D.Disk.moment c.args.disk.now).state (g.D.Disk.moment c.put.new.disk).state (g.D.Disk.moment c.args.disk.now).left_since (g.D.Disk.moment c.put.new.disk).left_since (g.D.Disk.moment c.args.disk.now).may_leave (g.D.Disk.moment c.put.new.disk).may_leave
    at c.root_body.ensures.size c.put.ensures.writes in
    sound_failed c.args.slots.now _ (body_of (other c.args.slots.now.current.side)) 24 (g.D.Disk.moment c.args.disk.now).state (g.D.Disk.moment c.put.new.disk).state (g.D.Disk.moment c.args.disk.now).may_leave (g.D.Disk.moment c.put.new.disk).may_leave
    (g.met.D.Disk.as_read c.args.disk.now)
    (failed_at (g.D.Disk.moment c.args.disk.now).state (g.D.Disk.moment c.put.new.disk).state c.body-at.result (body_of (other c.args.slots.now.current.side)) (length c.root_body.result) 24 at c.root_body.ensures.size c.in-Err.ensures.put)
    (λ seen torn here tore sound. body_failed c.args.slots.now seen torn (g.D.Disk.moment c.args.disk.now).may_leave (g.D.Disk.moment c.put.new.disk).may_leave c.requires.closed c.requires.target here tore puts.crash sound)

pub returns-in-Err-clause-opens : goal.returns-in-Err-clause-opens
returns-in-Err-clause-opens g c =
    let at : c.body-at.result ≡ body_of (other c.args.slots.now.current.side) = c.body-at.ensures ∙ ap (λ (s : Side). body_of s) c.other.ensures in
    always_opens c.args.slots.now (record (c.args.slots.now) { other = roots.Closed }) (body_of (other c.args.slots.now.current.side)) 24 (g.D.Disk.moment c.args.disk.now).state (g.D.Disk.moment c.put.new.disk).state (g.D.Disk.moment c.args.disk.now).left_since (g.D.Disk.moment c.put.new.disk).left_since (g.D.Disk.moment c.args.disk.now).may_leave (g.D.Disk.moment c.put.new.disk).may_leave
    (puts_at c.body-at.result (body_of (other c.args.slots.now.current.side)) (length c.root_body.result) 24 _ _ _ _ _ _ at c.root_body.ensures.size c.put.ensures.writes)
    (λ seen sound. body_opens c.args.slots.now seen (g.D.Disk.moment c.args.disk.now).may_leave c.requires.closed sound)

pub returns-in-Ok-clause-writes : goal.returns-in-Ok-clause-writes
returns-in-Ok-clause-writes g c =
    let at : c.body-at.result ≡ body_of (other c.args.slots.now.current.side) = c.body-at.ensures ∙ ap (λ (s : Side). body_of s) c.other.ensures in
    puts_at c.body-at.result (body_of (other c.args.slots.now.current.side)) (length c.root_body.result) 24 _ _ _ _ _ _ at c.root_body.ensures.size c.put.ensures.writes

pub returns-in-Err-clause-writes : goal.returns-in-Err-clause-writes
returns-in-Err-clause-writes g c =
    let at : c.body-at.result ≡ body_of (other c.args.slots.now.current.side) = c.body-at.ensures ∙ ap (λ (s : Side). body_of s) c.other.ensures in
    puts_at c.body-at.result (body_of (other c.args.slots.now.current.side)) (length c.root_body.result) 24 _ _ _ _ _ _ at c.root_body.ensures.size c.put.ensures.writes
