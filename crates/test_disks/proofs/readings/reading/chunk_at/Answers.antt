use Rattle.std.proofs.Common.{IfSome, IsTrue, subst}
use Rattle.chunk_source.specs.Source.{is_among}
use Rattle.store_state.specs.At.{standing}
use Rattle.store_state.specs.Calls.{chunks_at}
use Rattle.test_disks.proofs.Holding.{notes_leave_all, notes_leave_open}
use Rattle.test_quiet.proofs.ReadLemmas.{read_at}
use Rattle.test_disks.proofs.readings.reading.chunk_at.Goals as goal

pub read_chunk-requires-clause-listed : goal.read_chunk-requires-clause-listed
read_chunk-requires-clause-listed g c =
    let arm = c.in-Ok-Some in
    let chunks = chunks_at (standing g.D.Disk.moment c.args.store.now) c.args.pinned.now.place c.args.leaf.now in
    subst (λ found. IfSome found (λ at. IsTrue (is_among at chunks))) arm.field-0-is (arm.ensures chunks c.listed-numbers.ensures.listed)

pub returns-in-Ok-clause-all : goal.returns-in-Ok-clause-all
returns-in-Ok-clause-all g c = notes_leave_all _ _ c.args.pinned.now.session _ _ c.read_chunk.ensures.notes

pub returns-in-Err-read_chunk-clause-all : goal.returns-in-Err-read_chunk-clause-all
returns-in-Err-read_chunk-clause-all g c = notes_leave_all _ _ c.args.pinned.now.session _ _ c.read_chunk.ensures.notes

pub returns-in-Ok-clause-open : goal.returns-in-Ok-clause-open
returns-in-Ok-clause-open g c = notes_leave_open _ _ c.args.pinned.now.session _ _ c.args.pinned.now c.read_chunk.ensures.notes c.requires.open

pub returns-in-Err-read_chunk-clause-open : goal.returns-in-Err-read_chunk-clause-open
returns-in-Err-read_chunk-clause-open g c = notes_leave_open _ _ c.args.pinned.now.session _ _ c.args.pinned.now c.read_chunk.ensures.notes c.requires.open

pub returns-in-Ok-clause-read : goal.returns-in-Ok-clause-read
returns-in-Ok-clause-read g c = read_at c.args.leaf.now.schema c.in-Ok-Some.at c.in-Ok.chunk c.in-Ok.ensures.stored
