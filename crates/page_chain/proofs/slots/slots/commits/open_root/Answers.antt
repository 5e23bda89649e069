use Rattle.std.proofs.Common.{◌≡◌, ℕ, [], ◌∷◌, length, true, refl, sym, subst, ◌∙◌, ap}
use Rattle.page_chain.specs.Places.{gate_of, other}
use Rattle.page_chain.specs.declared.slots.layout.sides.Side.{Side}
use Rattle.afl_outside.specs.Disk.{written}
use Rattle.page_chain.specs.declared.slots.slots.slots.Slots.{Slots}
use Rattle.page_chain.specs.Standing.{IsSound}
use Rattle.page_chain.specs.declared.slots.slots.slots.RootSlot.TheVariants as roots
use Rattle.page_chain.proofs.Lifts.{done_at, failed_at, puts_at, sound_done, sound_failed, always_opens}
use Rattle.page_chain.proofs.RootCommits.{open_done, open_failed, open_opens}
use Rattle.page_chain.proofs.slots.slots.commits.open_root.Goals as goal

pub returns-in-Ok-clause-sound : goal.returns-in-Ok-clause-sound
returns-in-Ok-clause-sound g c =
    let at : c.gate-place.result ≡ gate_of (other c.args.slots.now.current.side) = c.gate-place.ensures ∙ ap (λ (s : Side). gate_of s) c.other.ensures in
    sound_done c.args.slots.now c.take_root.new.self (gate_of (other c.args.slots.now.current.side)) (2 ∷ []) (g.D.Disk.moment c.args.disk.now).state (g.D.Disk.moment c.put.new.disk).state (g.D.Disk.moment c.args.disk.now).may_leave (g.D.Disk.moment c.put.new.disk).may_leave (g.met.D.Disk.as_read c.args.disk.now)
    (done_at (g.D.Disk.moment c.args.disk.now).state (g.D.Disk.moment c.put.new.disk).state (g.D.Disk.moment c.put.new.disk).may_leave (c.gate-place.result) (gate_of (other c.args.slots.now.current.side)) (2 ∷ []) (2 ∷ []) at refl c.in-Ok.ensures.put)
    (λ seen here only sound. subst (λ (s : Slots). IsSound s (written (gate_of (other c.args.slots.now.current.side)) (2 ∷ []) seen) (g.D.Disk.moment c.put.new.disk).may_leave) (sym c.take_root.ensures) (open_done c.args.slots.now c.args.root c.requires.written c.requires.target c.requires.zeroed seen (g.D.Disk.moment c.args.disk.now).may_leave (g.D.Disk.moment c.put.new.disk).may_leave here only sound))

pub returns-in-Ok-clause-opens : goal.returns-in-Ok-clause-opens
returns-in-Ok-clause-opens g c =
    let at : c.gate-place.result ≡ gate_of (other c.args.slots.now.current.side) = c.gate-place.ensures ∙ ap (λ (s : Side). gate_of s) c.other.ensures in
    always_opens c.args.slots.now (record (c.args.slots.now) { other = roots.Opening c.args.root }) (gate_of (other c.args.slots.now.current.side)) 1 (g.D.Disk.moment c.args.disk.now).state (g.D.Disk.moment c.put.new.disk).state (g.D.Disk.moment c.args.disk.now).left_since (g.D.Disk.moment c.put.new.disk).left_since (g.D.Disk.moment c.args.disk.now).may_leave (g.D.Disk.moment c.put.new.disk).may_leave
    (puts_at (c.gate-place.result) (gate_of (other c.args.slots.now.current.side)) (length {A = ℕ} (2 ∷ [])) 1 (g.D.Disk.moment c.args.disk.now).state (g.D.Disk.moment c.put.new.disk).state (g.D.Disk.moment c.args.disk.now).left_since (g.D.Disk.moment c.put.new.disk).left_since (g.D.Disk.moment c.args.disk.now).may_leave (g.D.Disk.moment c.put.new.disk).may_leave at (refl) c.put.ensures.writes)
    (λ seen sound. open_opens c.args.slots.now c.args.root c.requires.written c.requires.target c.requires.zeroed seen (g.D.Disk.moment c.args.disk.now).may_leave sound)

pub returns-in-Err-clause-sound : goal.returns-in-Err-clause-sound
returns-in-Err-clause-sound g c =
    let at : c.gate-place.result ≡ gate_of (other c.args.slots.now.current.side) = c.gate-place.ensures ∙ ap (λ (s : Side). gate_of s) c.other.ensures in
    let puts = puts_at (c.gate-place.result) (gate_of (other c.args.slots.now.current.side)) (length {A = ℕ} (2 ∷ [])) 1 (g.D.Disk.moment c.args.disk.now).state (g.D.Disk.moment c.put.new.disk).state (g.D.Disk.moment c.args.disk.now).left_since (g.D.Disk.moment c.put.new.disk).left_since (g.D.Disk.moment c.args.disk.now).may_leave (g.D.Disk.moment c.put.new.disk).may_leave at (refl) c.put.ensures.writes in
    sound_failed c.args.slots.now (record (c.args.slots.now) { other = roots.Opening c.args.root; doubtful = true }) (gate_of (other c.args.slots.now.current.side)) 1 (g.D.Disk.moment c.args.disk.now).state (g.D.Disk.moment c.put.new.disk).state (g.D.Disk.moment c.args.disk.now).may_leave (g.D.Disk.moment c.put.new.disk).may_leave (g.met.D.Disk.as_read c.args.disk.now)
    (failed_at (g.D.Disk.moment c.args.disk.now).state (g.D.Disk.moment c.put.new.disk).state (c.gate-place.result) (gate_of (other c.args.slots.now.current.side)) (length {A = ℕ} (2 ∷ [])) 1 at (refl) c.in-Err.ensures.put)
    (λ seen torn here tore sound. open_failed c.args.slots.now c.args.root c.requires.written c.requires.target c.requires.zeroed seen torn (g.D.Disk.moment c.args.disk.now).may_leave (g.D.Disk.moment c.put.new.disk).may_leave here tore puts.crash sound)

pub returns-in-Err-clause-opens : goal.returns-in-Err-clause-opens
returns-in-Err-clause-opens g c =
    let at : c.gate-place.result ≡ gate_of (other c.args.slots.now.current.side) = c.gate-place.ensures ∙ ap (λ (s : Side). gate_of s) c.other.ensures in
    always_opens c.args.slots.now (record (c.args.slots.now) { other = roots.Opening c.args.root }) (gate_of (other c.args.slots.now.current.side)) 1 (g.D.Disk.moment c.args.disk.now).state (g.D.Disk.moment c.put.new.disk).state (g.D.Disk.moment c.args.disk.now).left_since (g.D.Disk.moment c.put.new.disk).left_since (g.D.Disk.moment c.args.disk.now).may_leave (g.D.Disk.moment c.put.new.disk).may_leave
    (puts_at (c.gate-place.result) (gate_of (other c.args.slots.now.current.side)) (length {A = ℕ} (2 ∷ [])) 1 (g.D.Disk.moment c.args.disk.now).state (g.D.Disk.moment c.put.new.disk).state (g.D.Disk.moment c.args.disk.now).left_since (g.D.Disk.moment c.put.new.disk).left_since (g.D.Disk.moment c.args.disk.now).may_leave (g.D.Disk.moment c.put.new.disk).may_leave at (refl) c.put.ensures.writes)
    (λ seen sound. open_opens c.args.slots.now c.args.root c.requires.written c.requires.target c.requires.zeroed seen (g.D.Disk.moment c.args.disk.now).may_leave sound)

pub returns-in-Ok-clause-writes : goal.returns-in-Ok-clause-writes
returns-in-Ok-clause-writes g c =
    let at : c.gate-place.result ≡ gate_of (other c.args.slots.now.current.side) = c.gate-place.ensures ∙ ap (λ (s : Side). gate_of s) c.other.ensures in
    puts_at c.gate-place.result (gate_of (other c.args.slots.now.current.side)) (length {A = ℕ} (2 ∷ [])) 1 _ _ _ _ _ _ at refl c.put.ensures.writes

pub returns-in-Err-clause-writes : goal.returns-in-Err-clause-writes
returns-in-Err-clause-writes g c =
    let at : c.gate-place.result ≡ gate_of (other c.args.slots.now.current.side) = c.gate-place.ensures ∙ ap (λ (s : Side). gate_of s) c.other.ensures in
    puts_at c.gate-place.result (gate_of (other c.args.slots.now.current.side)) (length {A = ℕ} (2 ∷ [])) 1 _ _ _ _ _ _ at refl c.put.ensures.writes
