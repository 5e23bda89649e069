use Rattle.std.proofs.Common.{◌≡◌, IfOk, IsTrue, subst, sym, ap, refl}
use Rattle.chunk_source.specs.Source.{is_among, listed, AsksFor, Blames, IsChunkIn, IsStored, Keeps}
use Rattle.logical_plan.specs.Meaning.{Database as Rows}
use Rattle.snapshot_manager.specs.Calls.{IsLeafOf}
use Rattle.session_sources.specs.declared.marks.Marks.{Marks}
use Rattle.session_sources.specs.Pinned.{pinned_state, HasRead}
use Rattle.session_sources.proofs.Answering.{asks_by, blames, marked, ok_answer, with_asked}
use Rattle.session_sources.proofs.PinnedSteps.{chunk_leaf, chunks_lent, keeps_source, lent_of, read_keeps, reading, told_lent}
use Rattle.session_sources.proofs.pinned.PinnedSourceChunkSource.chunk.Goals as goal

pub read_chunk-answer-requires-clause-leaf : goal.read_chunk-answer-requires-clause-leaf
read_chunk-answer-requires-clause-leaf g c =
    subst (λ r. IsLeafOf r.lent.pinned.names c.args.leaf.now) (sym c.self.view_is)
    (chunk_leaf g.D.Disk.moment c.args.self.now c.args.leaf.now c.args.at.now c.requires.listed c.requires.reads)

pub read_chunk-answer-requires-clause-listed : goal.read_chunk-answer-requires-clause-listed
read_chunk-answer-requires-clause-listed g c =
    let moment = g.D.Disk.moment in
    let i = c.self.inside in
    subst (λ chunks. IsTrue (is_among c.args.at.now chunks)) (sym (chunks_lent moment (lent_of i.shared.now i.pinned.now i.lent.value) i.seat i.marks c.self.invariant c.args.leaf.now))
    (subst (λ r. IsTrue (is_among c.args.at.now (listed (pinned_state moment r) c.args.leaf.now))) (sym c.self.view_is) c.requires.listed)

pub invariant_of-self-2 : goal.invariant_of-self-2
invariant_of-self-2 g c =
    let moment = g.D.Disk.moment in
    let i = c.self.inside in
    let e = c.read_chunk-answer.ensures in
    let m = marked c.read_chunk-answer.result c.args.number c.args.at.now i.marks c.ask.new.self c.answer.new.self c.in_ok-ask.ensures.ok c.answer.ensures.marks c.answer.ensures.later in
    read_keeps moment (lent_of i.shared.now i.pinned.now i.lent.value) i.seat i.marks c.self.invariant c.read_chunk-answer.new.seat e.seat e.same e.adds e.pin
    c.args.number c.args.leaf.now c.args.at.now
    (subst (λ r. IsLeafOf r.lent.pinned.names c.args.leaf.now) (sym c.self.view_is)
    (chunk_leaf moment c.args.self.now c.args.leaf.now c.args.at.now c.requires.listed c.requires.reads))
    (subst (λ r. IsTrue (is_among c.args.at.now (listed (pinned_state moment r) c.args.leaf.now))) (sym c.self.view_is) c.requires.listed)
    c.read_chunk-answer.result c.answer.new.self m.is e.cause e.damaged e.whole e.reads

pub returns-clause-stored : goal.returns-clause-stored
returns-clause-stored g c = ok_answer c.read_chunk-answer.result c.answer.result (IsStored c.args.leaf.now.schema c.args.at.now) c.answer.ensures.answer c.read_chunk-answer.ensures.stored

pub returns-clause-told : goal.returns-clause-told
returns-clause-told g c =
    let moment = g.D.Disk.moment in
    let i = c.self.inside in
    ok_answer c.read_chunk-answer.result c.answer.result (λ chunk. (rows : Rows) → (pinned_state moment c.args.self.now).tells rows → IsChunkIn rows c.args.leaf.now chunk) c.answer.ensures.answer
    (subst (λ r. IfOk c.read_chunk-answer.result (λ chunk. (rows : Rows) → (pinned_state moment r).tells rows → IsChunkIn rows c.args.leaf.now chunk)) c.self.view_is
    (told_lent moment (lent_of i.shared.now i.pinned.now i.lent.value) i.seat i.marks c.self.invariant (λ chunk rows. IsChunkIn rows c.args.leaf.now chunk)
    c.read_chunk-answer.result c.read_chunk-answer.ensures.told))

pub returns-clause-asked : goal.returns-clause-asked
returns-clause-asked g c =
    let moment = g.D.Disk.moment in
    let i = c.self.inside in
    let lent = lent_of i.shared.now i.pinned.now i.lent.value in
    let m = marked c.read_chunk-answer.result c.args.number c.args.at.now i.marks c.ask.new.self c.answer.new.self c.in_ok-ask.ensures.ok c.answer.ensures.marks c.answer.ensures.later in
    subst (λ r. AsksFor c.args.number c.args.at.now (pinned_state moment r) (pinned_state moment (reading lent c.read_chunk-answer.new.seat c.answer.new.self)) c.answer.result) c.self.view_is
    (asks_by c.answer.result c.args.number c.args.at.now (pinned_state moment (reading lent i.seat i.marks))
    (pinned_state moment (reading lent c.read_chunk-answer.new.seat c.answer.new.self)) m.asked)

pub returns-clause-kept : goal.returns-clause-kept
returns-clause-kept g c =
    let moment = g.D.Disk.moment in
    let i = c.self.inside in
    let lent = lent_of i.shared.now i.pinned.now i.lent.value in
    let m = marked c.read_chunk-answer.result c.args.number c.args.at.now i.marks c.ask.new.self c.answer.new.self c.in_ok-ask.ensures.ok c.answer.ensures.marks c.answer.ensures.later in
    subst (λ r. Keeps (pinned_state moment r) (pinned_state moment (reading lent c.read_chunk-answer.new.seat c.answer.new.self))) c.self.view_is
    (keeps_source moment lent i.seat c.read_chunk-answer.new.seat i.marks c.answer.new.self m.later)

pub returns-clause-cause : goal.returns-clause-cause
returns-clause-cause g c =
    let moment = g.D.Disk.moment in
    let i = c.self.inside in
    let lent = lent_of i.shared.now i.pinned.now i.lent.value in
    let m = marked c.read_chunk-answer.result c.args.number c.args.at.now i.marks c.ask.new.self c.answer.new.self c.in_ok-ask.ensures.ok c.answer.ensures.marks c.answer.ensures.later in
    subst (λ r. Blames (pinned_state moment r) (pinned_state moment (reading lent c.read_chunk-answer.new.seat c.answer.new.self)) c.answer.result) c.self.view_is
    (blames c.read_chunk-answer.result c.answer.result (pinned_state moment (reading lent i.seat i.marks))
    (pinned_state moment (reading lent c.read_chunk-answer.new.seat c.answer.new.self)) (with_asked c.args.number c.args.at.now i.marks) c.answer.ensures.answer
    refl refl (ap (λ (x : Marks). x.damaged) m.is) (ap (λ (x : Marks). x.faults) m.is))

pub invariant_of-self : goal.invariant_of-self
invariant_of-self g c =
    let i = c.self.inside in
    subst (λ m. HasRead g.D.Disk.moment (reading (lent_of i.shared.now i.pinned.now i.lent.value) i.seat m)) (sym c.in_err-ask.ensures.err) c.self.invariant

pub returns-clause-start : goal.returns-clause-start
returns-clause-start g c =
    let i = c.self.inside in
    subst (λ r. lent_of i.shared.now i.pinned.now i.lent.value ≡ r.lent) c.self.view_is refl
