use Rattle.std.proofs.Common.{◌≡◌, ◌∙◌, refl, subst, sym}
use Rattle.chunk_source.specs.Source.{listed, AreNumbersIn, Keeps}
use Rattle.logical_plan.specs.Meaning.{Database as Rows}
use Rattle.snapshot_manager.specs.Seats.{seen, session_of, start}
use Rattle.snapshot_manager.specs.Calls.{IsLeafOf}
use Rattle.session_sources.specs.Pinned.{pinned_state}
use Rattle.session_sources.proofs.Answering.{no_numbers, same_le}
use Rattle.session_sources.proofs.PinnedSteps.{adds_nothing, chunks_lent, keeps_source, lent_of, list_keeps, listed_leaf, reading, rows_lent}
use Rattle.session_sources.proofs.pinned.PinnedSourceChunkSource.listed.Goals as goal

pub listed-requires-clause-leaf : goal.listed-requires-clause-leaf
listed-requires-clause-leaf g c =
    subst (λ r. IsLeafOf r.lent.pinned.names c.args.leaf.now) (sym c.self.view_is)
    (listed_leaf g.D.Disk.moment c.args.self.now c.args.leaf.now c.if-leaf-eq0.false c.requires)

pub invariant_of-self : goal.invariant_of-self
invariant_of-self g c =
    let moment = g.D.Disk.moment in
    let i = c.self.inside in
    let e = c.listed.ensures in
    list_keeps moment (lent_of i.shared.now i.pinned.now i.lent.value) i.seat i.marks c.self.invariant c.listed.new.seat e.seat e.same
    (adds_nothing (start moment i.shared.now) (session_of i.seat) (seen i.seat) (seen c.listed.new.seat) e.adds) e.pin e.reads

pub invariant_of-self-2 : goal.invariant_of-self-2
invariant_of-self-2 g c =
    let moment = g.D.Disk.moment in
    let i = c.self.inside in
    let e = c.listed.ensures in
    list_keeps moment (lent_of i.shared.now i.pinned.now i.lent.value) i.seat i.marks c.self.invariant c.listed.new.seat e.seat e.same
    (adds_nothing (start moment i.shared.now) (session_of i.seat) (seen i.seat) (seen c.listed.new.seat) e.adds) e.pin e.reads

pub returns-clause-listed : goal.returns-clause-listed
returns-clause-listed g c =
    let moment = g.D.Disk.moment in
    let i = c.self.inside in
    subst (λ r. c.in_ok-chunks.chunks ≡ listed (pinned_state moment r) c.args.leaf.now) c.self.view_is
    (c.in_ok-chunks.ensures.listed ∙ chunks_lent moment (lent_of i.shared.now i.pinned.now i.lent.value) i.seat i.marks c.self.invariant c.args.leaf.now)

pub returns-clause-told : goal.returns-clause-told
returns-clause-told g c =
    let moment = g.D.Disk.moment in
    let i = c.self.inside in
    subst (λ r. (rows : Rows) → (pinned_state moment r).tells rows → AreNumbersIn rows c.args.leaf.now c.in_ok-chunks.chunks) c.self.view_is
    (rows_lent moment (lent_of i.shared.now i.pinned.now i.lent.value) i.seat i.marks c.self.invariant
    (λ rows. AreNumbersIn rows c.args.leaf.now c.in_ok-chunks.chunks) c.in_ok-chunks.ensures.told)

pub returns-in_err-chunks-clause-kept : goal.returns-in_err-chunks-clause-kept
returns-in_err-chunks-clause-kept g c =
    let moment = g.D.Disk.moment in
    let i = c.self.inside in
    let lent = lent_of i.shared.now i.pinned.now i.lent.value in
    subst (λ r. Keeps (pinned_state moment r) (pinned_state moment (reading lent c.listed.new.seat i.marks))) c.self.view_is
    (keeps_source moment lent i.seat c.listed.new.seat i.marks i.marks (same_le i.marks.faults))

pub returns-clause-kept : goal.returns-clause-kept
returns-clause-kept g c =
    let moment = g.D.Disk.moment in
    let i = c.self.inside in
    let lent = lent_of i.shared.now i.pinned.now i.lent.value in
    subst (λ r. Keeps (pinned_state moment r) (pinned_state moment (reading lent c.listed.new.seat i.marks))) c.self.view_is
    (keeps_source moment lent i.seat c.listed.new.seat i.marks i.marks (same_le i.marks.faults))

pub returns-clause-start : goal.returns-clause-start
returns-clause-start g c =
    let i = c.self.inside in
    subst (λ r. lent_of i.shared.now i.pinned.now i.lent.value ≡ r.lent) c.self.view_is refl

pub returns-then-leaf-eq0-clause-told : goal.returns-then-leaf-eq0-clause-told
returns-then-leaf-eq0-clause-told g c =
    λ rows tells. subst (λ numbers. AreNumbersIn rows c.args.leaf.now numbers) (sym c.new.ensures) (no_numbers rows c.args.leaf.now c.if-leaf-eq0.true)
