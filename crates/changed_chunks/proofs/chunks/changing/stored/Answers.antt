use Rattle.std.proofs.Common.{sym, subst}
use Rattle.plan_changes.specs.Databases.{rows_of}
use Rattle.chunk_source.proofs.ReadLemmas.{asked_all}
use Rattle.changed_chunks.specs.Inner.Input.{TakesRows}
use Rattle.changed_chunks.proofs.Rows.{takes_rows, means_array}
use Rattle.changed_chunks.proofs.chunks.changing.stored.Goals as goal

pub chunks_of-requires-clause-takes : goal.chunks_of-requires-clause-takes
chunks_of-requires-clause-takes g c =
    subst (TakesRows c.args.schema.now) (sym c.in-Ok.ensures.schema) (takes_rows (g.S.ChunkSource.state c.args.source.now) c.args.schema.now c.args.plan.now c.requires.can)

pub returns-in-Ok-chunks_of-clause-is_of : goal.returns-in-Ok-chunks_of-clause-is_of
returns-in-Ok-chunks_of-clause-is_of g c = c.in-Ok-chunks_of.ensures.is_of

pub returns-in-Ok-chunks_of-clause-valid : goal.returns-in-Ok-chunks_of-clause-valid
returns-in-Ok-chunks_of-clause-valid g c = c.in-Ok-chunks_of.ensures.valid

pub returns-in-Ok-chunks_of-clause-told : goal.returns-in-Ok-chunks_of-clause-told
returns-in-Ok-chunks_of-clause-told g c db tells name =
    let of = c.in-Ok.ensures.means (rows_of db) tells in
    c.in-Ok-chunks_of.ensures.told db name c.args.plan.now of (means_array db c.args.plan.now c.in-Ok.array c.in-Ok.ensures.schema of)

pub returns-in-Ok-chunks_of-clause-asked : goal.returns-in-Ok-chunks_of-clause-asked
returns-in-Ok-chunks_of-clause-asked g c = c.in-Ok.ensures.asked

pub returns-in-Ok-chunks_of-clause-kept : goal.returns-in-Ok-chunks_of-clause-kept
returns-in-Ok-chunks_of-clause-kept g c = c.in-Ok.ensures.kept

pub returns-in-Ok-chunks_of-clause-cause : goal.returns-in-Ok-chunks_of-clause-cause
returns-in-Ok-chunks_of-clause-cause g c = c.in-Ok.ensures.cause

pub returns-in-Ok-chunks_of-clause-start : goal.returns-in-Ok-chunks_of-clause-start
returns-in-Ok-chunks_of-clause-start g c = c.in-Ok.ensures.start

pub returns-in-Err-chunks_of-clause-front : goal.returns-in-Err-chunks_of-clause-front
returns-in-Err-chunks_of-clause-front g c = asked_all _ _ _ c.in-Ok.ensures.asked

pub returns-in-Err-chunks_of-clause-kept : goal.returns-in-Err-chunks_of-clause-kept
returns-in-Err-chunks_of-clause-kept g c = c.in-Ok.ensures.kept

pub returns-in-Err-chunks_of-clause-cause : goal.returns-in-Err-chunks_of-clause-cause
returns-in-Err-chunks_of-clause-cause g c = c.in-Ok.ensures.cause

pub returns-in-Err-chunks_of-clause-start : goal.returns-in-Err-chunks_of-clause-start
returns-in-Err-chunks_of-clause-start g c = c.in-Ok.ensures.start

pub returns-in-Err-clause-front : goal.returns-in-Err-clause-front
returns-in-Err-clause-front g c = c.in-Err.ensures.front

pub returns-in-Err-clause-cause : goal.returns-in-Err-clause-cause
returns-in-Err-clause-cause g c = c.in-Err.ensures.cause

pub returns-in-Err-clause-start : goal.returns-in-Err-clause-start
returns-in-Err-clause-start g c = c.in-Err.ensures.start
