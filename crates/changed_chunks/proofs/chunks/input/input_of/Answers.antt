use Rattle.std.proofs.Common.{sym, subst}
use Rattle.plan_changes.specs.Databases.{rows_of}
use Rattle.chunk_source.proofs.ReadLemmas.{asked_all}
use Rattle.changed_chunks.specs.Inner.Input.{TakesRows, found_cores}
use Rattle.changed_chunks.proofs.Rows.{found_there, takes_rows, means_array}
use Rattle.changed_chunks.proofs.chunks.input.input_of.Goals as goal

pub array_in-requires-clause-takes : goal.array_in-requires-clause-takes
array_in-requires-clause-takes g c =
    subst (TakesRows c.args.schema.now) (sym c.in-Ok.ensures.schema) (takes_rows (g.S.ChunkSource.state c.args.source.now) c.args.schema.now c.args.plan.now c.requires.can)

pub returns-in-Ok-array_in-clause-found : goal.returns-in-Ok-array_in-clause-found
returns-in-Ok-array_in-clause-found g c db tells =
    found_there db c.args.schema.now c.args.plan.now c.in-Ok.array (found_cores c.in-Ok-array_in.found) (c.in-Ok.ensures.means (rows_of db) tells) c.in-Ok-array_in.ensures.found

pub returns-in-Err-clause-front : goal.returns-in-Err-clause-front
returns-in-Err-clause-front g c = c.in-Err.ensures.front

pub returns-in-Ok-array_in-clause-start : goal.returns-in-Ok-array_in-clause-start
returns-in-Ok-array_in-clause-start g c = c.in-Ok.ensures.start

pub returns-in-Ok-array_in-clause-may : goal.returns-in-Ok-array_in-clause-may
returns-in-Ok-array_in-clause-may g c = c.in-Ok-array_in.ensures.may

pub returns-in-Err-clause-cause : goal.returns-in-Err-clause-cause
returns-in-Err-clause-cause g c = c.in-Err.ensures.cause

pub returns-in-Err-clause-start : goal.returns-in-Err-clause-start
returns-in-Err-clause-start g c = c.in-Err.ensures.start

pub returns-in-Ok-array_in-clause-kept : goal.returns-in-Ok-array_in-clause-kept
returns-in-Ok-array_in-clause-kept g c = c.in-Ok.ensures.kept

pub returns-in-Err-array_in-clause-kept : goal.returns-in-Err-array_in-clause-kept
returns-in-Err-array_in-clause-kept g c = c.in-Ok.ensures.kept

pub returns-in-Ok-array_in-clause-means : goal.returns-in-Ok-array_in-clause-means
returns-in-Ok-array_in-clause-means g c db tells = means_array db c.args.plan.now c.in-Ok.array c.in-Ok.ensures.schema (c.in-Ok.ensures.means (rows_of db) tells)

pub returns-in-Err-array_in-clause-cause : goal.returns-in-Err-array_in-clause-cause
returns-in-Err-array_in-clause-cause g c = c.in-Ok.ensures.cause

pub returns-in-Err-array_in-clause-front : goal.returns-in-Err-array_in-clause-front
returns-in-Err-array_in-clause-front g c = asked_all _ _ _ c.in-Ok.ensures.asked

pub returns-in-Ok-array_in-clause-cause : goal.returns-in-Ok-array_in-clause-cause
returns-in-Ok-array_in-clause-cause g c = c.in-Ok.ensures.cause

pub returns-in-Ok-array_in-clause-asked : goal.returns-in-Ok-array_in-clause-asked
returns-in-Ok-array_in-clause-asked g c = c.in-Ok.ensures.asked

pub returns-in-Err-array_in-clause-start : goal.returns-in-Err-array_in-clause-start
returns-in-Err-array_in-clause-start g c = c.in-Ok.ensures.start
