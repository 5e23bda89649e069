use Rattle.std.proofs.Common.{◌≡◌, ◌∙◌, refl, subst, sym}
use Rattle.chunk_source.specs.Source.{listed, AreNumbersIn, Keeps}
use Rattle.logical_plan.specs.Meaning.{Database as Rows}
use Rattle.snapshot_manager.specs.Calls.{IsLeafOf}
use Rattle.turn_lock.specs.Inner.Lent.{turn_with}
use Rattle.session_sources.specs.Held.{held_state, names_now, store_then}
use Rattle.session_sources.proofs.Answering.{no_numbers, same_le}
use Rattle.session_sources.proofs.HeldSteps.{chunks_then, holding, in_hand, keeps_source, leaf_now, lent_of, listed_leaf, rows_then}
use Rattle.session_sources.proofs.held.HeldSourceChunkSource.listed.Goals as goal

pub listed_now-requires : goal.listed_now-requires
listed_now-requires g c =
    let moment = g.D.Disk.moment in
    let i = c.self.inside in
    let was = in_hand moment (lent_of i.session i.lent.value) i.turn i.marks c.self.invariant c.value.result.now c.value.ensures.value in
    record {
      leaf = leaf_now moment (lent_of i.session i.lent.value) i.turn c.value.result.now i.marks was c.args.leaf.now
          (subst (λ h. IsLeafOf (names_now (store_then moment h).ledger) c.args.leaf.now) (sym c.self.view_is)
          (listed_leaf moment c.args.self.now c.args.leaf.now c.if-leaf-eq0.false c.requires));
    }

pub invariant_of-self : goal.invariant_of-self
invariant_of-self g c =
    let i = c.self.inside in
    in_hand g.D.Disk.moment (lent_of i.session i.lent.value) i.turn i.marks c.self.invariant c.value.result.now c.value.ensures.value

pub invariant_of-self-2 : goal.invariant_of-self-2
invariant_of-self-2 g c =
    let i = c.self.inside in
    in_hand g.D.Disk.moment (lent_of i.session i.lent.value) i.turn i.marks c.self.invariant c.value.result.now c.value.ensures.value

pub returns-clause-listed : goal.returns-clause-listed
returns-clause-listed g c =
    let moment = g.D.Disk.moment in
    let i = c.self.inside in
    let was = in_hand moment (lent_of i.session i.lent.value) i.turn i.marks c.self.invariant c.value.result.now c.value.ensures.value in
    subst (λ h. c.in_ok-chunks.chunks ≡ listed (held_state moment h) c.args.leaf.now) c.self.view_is
    (c.in_ok-chunks.ensures.listed ∙ chunks_then moment (lent_of i.session i.lent.value) i.turn c.value.result.now i.marks was c.args.leaf.now)

pub returns-clause-told : goal.returns-clause-told
returns-clause-told g c =
    let moment = g.D.Disk.moment in
    let i = c.self.inside in
    let was = in_hand moment (lent_of i.session i.lent.value) i.turn i.marks c.self.invariant c.value.result.now c.value.ensures.value in
    subst (λ h. (rows : Rows) → (held_state moment h).tells rows → AreNumbersIn rows c.args.leaf.now c.in_ok-chunks.chunks) c.self.view_is
    (rows_then moment (lent_of i.session i.lent.value) i.turn c.value.result.now i.marks was
    (λ rows. AreNumbersIn rows c.args.leaf.now c.in_ok-chunks.chunks) c.in_ok-chunks.ensures.told)

pub returns-clause-kept : goal.returns-clause-kept
returns-clause-kept g c =
    let moment = g.D.Disk.moment in
    let i = c.self.inside in
    let lent = lent_of i.session i.lent.value in
    let after = turn_with i.turn c.value.result.now in
    subst (λ h. Keeps (held_state moment h) (held_state moment (holding lent after i.marks))) c.self.view_is
    (keeps_source moment lent i.turn after i.marks i.marks (same_le i.marks.faults))

pub returns-clause-start : goal.returns-clause-start
returns-clause-start g c =
    let i = c.self.inside in
    subst (λ h. lent_of i.session i.lent.value ≡ h.lent) c.self.view_is refl

pub returns-then-leaf-eq0-clause-told : goal.returns-then-leaf-eq0-clause-told
returns-then-leaf-eq0-clause-told g c =
    λ rows tells. subst (λ numbers. AreNumbersIn rows c.args.leaf.now numbers) (sym c.new.ensures) (no_numbers rows c.args.leaf.now c.if-leaf-eq0.true)
