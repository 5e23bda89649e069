use Rattle.std.proofs.Common.{IfErr, sym, subst, ap, ◌≡◌, IfOk}
use Rattle.store_opening.specs.At.{standing, keeping}
use Rattle.store_opening.specs.Calls.{IsUnread, payload_at, NotesFault, database_with}
use Rattle.store_opening.specs.Payloads.{HasTold, WasDamagedAt}
use Rattle.store_opening.specs.Standings.{BeganAs}
use Rattle.chunk_source.specs.Source.{IsChunkIn}
use Rattle.page_chain.specs.Inner.Runs.{OnlyReads}
use Rattle.plan_changes.specs.Databases.{Database, rows_of}
use Rattle.array_store.proofs.Added.{adds_fault}
use Rattle.array_store.proofs.Going.{moves, same_doubt}
use Rattle.array_store.proofs.store.store.Store.read_chunk.Goals as goal

pub returns-clause-adds : goal.returns-clause-adds
returns-clause-adds g c =
    let moment = g.D.Disk.moment in
    adds_fault moment c.self.inside.parts c.args.self.now c.self.view_is (standing moment c.read_chunk.new.parts) c.args.pinned.now.session c.read_chunk.ensures.notes c.read_chunk.ensures.same

pub returns-clause-whole : goal.returns-clause-whole
returns-clause-whole g c = λ db page began.
    c.read_chunk.ensures.whole db page (subst (λ parts. BeganAs (g.D.Disk.moment parts.opened.value.disk).state db) (sym c.self.view_is) began)

pub returns-clause-cause : goal.returns-clause-cause
returns-clause-cause g c =
    let moment = g.D.Disk.moment in
    subst (λ parts. IfErr c.read_chunk.result (IsUnread (moment parts.file.disk).state (moment c.read_chunk.new.parts.file.disk).state c.args.leaf.now.schema
    (payload_at (standing moment parts) c.args.pinned.now.place c.args.leaf.now c.args.at.now)))
    c.self.view_is c.read_chunk.ensures.cause

pub returns-clause-damaged : goal.returns-clause-damaged
returns-clause-damaged g c = λ page file e told.
    let moment = g.D.Disk.moment in
    subst (λ parts. WasDamagedAt page (standing moment parts).first file c.args.leaf.now.schema) c.self.view_is
    (c.read_chunk.ensures.damaged page file e (subst (λ parts. HasTold (moment parts.opened.value.disk).state file) (sym c.self.view_is) told))

pub invariant_of-self : goal.invariant_of-self
invariant_of-self g c =
    let moment = g.D.Disk.moment in
    moves moment c.self.inside.parts c.read_chunk.new.parts c.self.invariant c.read_chunk.ensures.at (ap (λ s. s.opened) c.read_chunk.ensures.same) c.read_chunk.ensures.reads.same
    (same_doubt (moment c.self.inside.parts.file.disk).state (moment c.read_chunk.new.parts.file.disk).state c.read_chunk.new.parts.doubt c.self.inside.parts.doubt (ap (λ s. s.doubt) c.read_chunk.ensures.same))

pub returns-clause-reads : goal.returns-clause-reads
returns-clause-reads g c =
    let moment = g.D.Disk.moment in
    subst (λ parts. OnlyReads (moment parts.file.disk) (moment c.read_chunk.new.parts.file.disk)) c.self.view_is c.read_chunk.ensures.reads

pub returns-clause-same : goal.returns-clause-same
returns-clause-same g c =
    let moment = g.D.Disk.moment in
    subst (λ parts. standing moment c.read_chunk.new.parts ≡ record (standing moment parts) { disk = c.read_chunk.new.parts.file.disk; ledger = c.read_chunk.new.parts.ledger }) c.self.view_is c.read_chunk.ensures.same

pub returns-clause-kept : goal.returns-clause-kept
returns-clause-kept g c =
    subst (λ parts. keeping c.read_chunk.new.parts ≡ keeping parts) c.self.view_is c.read_chunk.ensures.kept

pub returns-clause-told : goal.returns-clause-told
returns-clause-told g c =
    let moment = g.D.Disk.moment in
    subst (λ parts. IfOk c.read_chunk.result (λ chunk. (db : Database) → BeganAs (moment parts.opened.value.disk).state db
    → IsChunkIn (rows_of (database_with db (standing moment parts) c.args.pinned.now.place)) c.args.leaf.now chunk)) c.self.view_is c.read_chunk.ensures.told

pub returns-clause-notes : goal.returns-clause-notes
returns-clause-notes g c =
    let moment = g.D.Disk.moment in
    subst (λ parts. NotesFault (moment parts.file.disk).state (moment c.read_chunk.new.parts.file.disk).state c.args.pinned.now.session parts.ledger c.read_chunk.new.parts.ledger) c.self.view_is c.read_chunk.ensures.notes
