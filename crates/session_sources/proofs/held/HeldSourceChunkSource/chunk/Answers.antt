use Rattle.std.proofs.Common.{◌≡◌, IfOk, IsTrue, subst, sym, ap, refl}
use Rattle.chunk_source.specs.Source.{is_among, listed, AsksFor, Blames, IsChunkIn, IsStored, Keeps}
use Rattle.logical_plan.specs.Meaning.{Database as Rows}
use Rattle.snapshot_manager.specs.Calls.{IsLeafOf}
use Rattle.turn_lock.specs.Inner.Lent.{turn_with}
use Rattle.session_sources.specs.declared.marks.Marks.{Marks}
use Rattle.session_sources.specs.Held.{held_state, names_now, store_then, HasHeld}
use Rattle.session_sources.proofs.Answering.{asks_by, blames, marked, ok_answer, with_asked}
use Rattle.session_sources.proofs.HeldSteps.{chunk_leaf, chunks_then, holding, in_hand, keeps_source, leaf_now, lent_of, pinned_now, read_keeps, told_then}
use Rattle.session_sources.proofs.held.HeldSourceChunkSource.chunk.Goals as goal

pub read_now-answer-requires-clause-pinned : goal.read_now-answer-requires-clause-pinned
read_now-answer-requires-clause-pinned g c =
    let moment = g.D.Disk.moment in
    let i = c.self.inside in
    let lent = lent_of i.session i.lent.value in
    pinned_now moment lent i.turn c.value.result.now i.marks (in_hand moment lent i.turn i.marks c.self.invariant c.value.result.now c.value.ensures.value)

pub read_now-answer-requires-clause-leaf : goal.read_now-answer-requires-clause-leaf
read_now-answer-requires-clause-leaf g c =
    let moment = g.D.Disk.moment in
    let i = c.self.inside in
    let lent = lent_of i.session i.lent.value in
    leaf_now moment lent i.turn c.value.result.now i.marks (in_hand moment lent i.turn i.marks c.self.invariant c.value.result.now c.value.ensures.value) c.args.leaf.now
    (subst (λ h. IsLeafOf (names_now (store_then moment h).ledger) c.args.leaf.now) (sym c.self.view_is)
    (chunk_leaf moment c.args.self.now c.args.leaf.now c.args.at.now c.requires.listed c.requires.reads))

pub read_now-answer-requires-clause-listed : goal.read_now-answer-requires-clause-listed
read_now-answer-requires-clause-listed g c =
    let moment = g.D.Disk.moment in
    let i = c.self.inside in
    let lent = lent_of i.session i.lent.value in
    let was = in_hand moment lent i.turn i.marks c.self.invariant c.value.result.now c.value.ensures.value in
    subst (λ chunks. IsTrue (is_among c.args.at.now chunks)) (sym (chunks_then moment lent i.turn c.value.result.now i.marks was c.args.leaf.now))
    (subst (λ h. IsTrue (is_among c.args.at.now (listed (held_state moment h) c.args.leaf.now))) (sym c.self.view_is) c.requires.listed)

pub invariant_of-self-2 : goal.invariant_of-self-2
invariant_of-self-2 g c =
    let moment = g.D.Disk.moment in
    let i = c.self.inside in
    let e = c.read_now-answer.ensures in
    let lent = lent_of i.session i.lent.value in
    let was = in_hand moment lent i.turn i.marks c.self.invariant c.value.result.now c.value.ensures.value in
    let m = marked c.read_now-answer.result c.args.number c.args.at.now i.marks c.ask.new.self c.answer.new.self c.in_ok-ask.ensures.ok c.answer.ensures.marks c.answer.ensures.later in
    read_keeps moment lent i.turn c.value.result.now i.marks was c.read_now-answer.new.self e.same e.adds e.notes
    c.args.number c.args.leaf.now c.args.at.now
    (subst (λ h. IsLeafOf (names_now (store_then moment h).ledger) c.args.leaf.now) (sym c.self.view_is)
    (chunk_leaf moment c.args.self.now c.args.leaf.now c.args.at.now c.requires.listed c.requires.reads))
    (subst (λ h. IsTrue (is_among c.args.at.now (listed (held_state moment h) c.args.leaf.now))) (sym c.self.view_is) c.requires.listed)
    c.read_now-answer.result c.answer.new.self m.is e.cause e.damaged e.whole

pub returns-clause-stored : goal.returns-clause-stored
returns-clause-stored g c = ok_answer c.read_now-answer.result c.answer.result (IsStored c.args.leaf.now.schema c.args.at.now) c.answer.ensures.answer c.read_now-answer.ensures.stored

pub returns-clause-told : goal.returns-clause-told
returns-clause-told g c =
    let moment = g.D.Disk.moment in
    let i = c.self.inside in
    let lent = lent_of i.session i.lent.value in
    let was = in_hand moment lent i.turn i.marks c.self.invariant c.value.result.now c.value.ensures.value in
    ok_answer c.read_now-answer.result c.answer.result (λ chunk. (rows : Rows) → (held_state moment c.args.self.now).tells rows → IsChunkIn rows c.args.leaf.now chunk) c.answer.ensures.answer
    (subst (λ h. IfOk c.read_now-answer.result (λ chunk. (rows : Rows) → (held_state moment h).tells rows → IsChunkIn rows c.args.leaf.now chunk)) c.self.view_is
    (told_then moment lent i.turn c.value.result.now i.marks was (λ chunk rows. IsChunkIn rows c.args.leaf.now chunk) c.read_now-answer.result c.read_now-answer.ensures.told))

pub returns-clause-asked : goal.returns-clause-asked
returns-clause-asked g c =
    let moment = g.D.Disk.moment in
    let i = c.self.inside in
    let lent = lent_of i.session i.lent.value in
    let after = turn_with i.turn c.read_now-answer.new.self in
    let m = marked c.read_now-answer.result c.args.number c.args.at.now i.marks c.ask.new.self c.answer.new.self c.in_ok-ask.ensures.ok c.answer.ensures.marks c.answer.ensures.later in
    subst (λ h. AsksFor c.args.number c.args.at.now (held_state moment h) (held_state moment (holding lent after c.answer.new.self)) c.answer.result) c.self.view_is
    (asks_by c.answer.result c.args.number c.args.at.now (held_state moment (holding lent i.turn i.marks)) (held_state moment (holding lent after c.answer.new.self)) m.asked)

pub returns-clause-kept : goal.returns-clause-kept
returns-clause-kept g c =
    let moment = g.D.Disk.moment in
    let i = c.self.inside in
    let lent = lent_of i.session i.lent.value in
    let after = turn_with i.turn c.read_now-answer.new.self in
    let m = marked c.read_now-answer.result c.args.number c.args.at.now i.marks c.ask.new.self c.answer.new.self c.in_ok-ask.ensures.ok c.answer.ensures.marks c.answer.ensures.later in
    subst (λ h. Keeps (held_state moment h) (held_state moment (holding lent after c.answer.new.self))) c.self.view_is
    (keeps_source moment lent i.turn after i.marks c.answer.new.self m.later)

pub returns-clause-cause : goal.returns-clause-cause
returns-clause-cause g c =
    let moment = g.D.Disk.moment in
    let i = c.self.inside in
    let lent = lent_of i.session i.lent.value in
    let after = turn_with i.turn c.read_now-answer.new.self in
    let m = marked c.read_now-answer.result c.args.number c.args.at.now i.marks c.ask.new.self c.answer.new.self c.in_ok-ask.ensures.ok c.answer.ensures.marks c.answer.ensures.later in
    subst (λ h. Blames (held_state moment h) (held_state moment (holding lent after c.answer.new.self)) c.answer.result) c.self.view_is
    (blames c.read_now-answer.result c.answer.result (held_state moment (holding lent i.turn i.marks))
    (held_state moment (holding lent after c.answer.new.self)) (with_asked c.args.number c.args.at.now i.marks) c.answer.ensures.answer
    refl refl (ap (λ (x : Marks). x.damaged) m.is) (ap (λ (x : Marks). x.faults) m.is))

pub invariant_of-self : goal.invariant_of-self
invariant_of-self g c =
    let i = c.self.inside in
    subst (λ m. HasHeld g.D.Disk.moment (holding (lent_of i.session i.lent.value) i.turn m)) (sym c.in_err-ask.ensures.err) c.self.invariant

pub returns-clause-start : goal.returns-clause-start
returns-clause-start g c =
    let i = c.self.inside in
    subst (λ h. lent_of i.session i.lent.value ≡ h.lent) c.self.view_is refl
