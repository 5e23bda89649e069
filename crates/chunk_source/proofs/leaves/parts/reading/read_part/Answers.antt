use Rattle.std.proofs.Common.{ℕ, List, map, ap, ◌∙◌, subst}
use Rattle.std.specs.List.{AllZip}
use Rattle.arrayvec.specs.ArrayVec.{ArrayVec}
use Rattle.array_geom.specs.Geometry.{core_meets}
use Rattle.plan_needs.specs.Wanted.{wanted_of}
use Rattle.chunk_source.specs.Source.{IsStored, asks, listed}
use Rattle.chunk_source.proofs.ReadLemmas.{asked_after, asked_all, asked_none, front_after, keeps_on, on_err, reads_still}
use Rattle.chunk_source.proofs.AssembledLaws.{valid_stored, wanted_rise}
use Rattle.chunk_source.proofs.ReadLaws.{told_by_calls, wanted_among}
use Rattle.chunk_source.proofs.leaves.parts.reading.read_part.Goals as goal

pub read_chunks-requires-clause-listed : goal.read_chunks-requires-clause-listed
read_chunks-requires-clause-listed g c =
    let leaf = c.args.leaf.now in
    wanted_among (g.S.ChunkSource.state c.args.source.now) (g.S.ChunkSource.state c.listed.new.self) leaf (λ chunk. core_meets leaf.schema.dimensions c.args.area.now chunk.items) c.in_ok-stored.stored c.as_slice.result.now
    c.in_ok-stored.ensures.kept c.in_ok-stored.ensures.listed (c.as_slice.ensures ∙ c.in_ok-wanted.ensures.wanted)

pub part_array-requires-clause-chunks : goal.part_array-requires-clause-chunks
part_array-requires-clause-chunks g c = valid_stored c.args.leaf.now.schema c.as_slice.result.now c.in_ok-chunks.chunks c.in_ok-chunks.ensures.stored

pub part_array-requires-clause-rise : goal.part_array-requires-clause-rise
part_array-requires-clause-rise g c =
    wanted_rise c.args.leaf.now c.args.area.now c.in_ok-stored.stored c.as_slice.result.now c.in_ok-chunks.chunks c.in_ok-stored.ensures.rising (c.as_slice.ensures ∙ c.in_ok-wanted.ensures.wanted) c.in_ok-chunks.ensures.stored

pub returns-clause-told : goal.returns-clause-told
returns-clause-told g c db tells =
    let leaf = c.args.leaf.now in
    let stored : List (ArrayVec ℕ) = c.in_ok-stored.stored in
    let wanted : List (ArrayVec ℕ) = c.in_ok-wanted.wanted in
    told_by_calls db leaf c.args.area.now (listed (g.S.ChunkSource.state c.args.source.now) leaf) stored wanted c.in_ok-chunks.chunks c.in_ok-wanted.alone c.in_ok-part_array.field-0
    c.in_ok-stored.ensures.listed c.in_ok-wanted.ensures.wanted c.in_ok-wanted.ensures.alone c.requires.valid c.in_ok-stored.ensures.rising
    (subst (λ (z : List (ArrayVec ℕ)). AllZip (IsStored leaf.schema) z c.in_ok-chunks.chunks) c.as_slice.ensures c.in_ok-chunks.ensures.stored)
    (c.in_ok-stored.ensures.told db tells) (c.in_ok-chunks.ensures.told db ((c.in_ok-stored.ensures.kept.tells db).1 tells))
    c.in_ok-part_array.ensures.read c.in_ok-part_array.ensures.alone c.in_ok-part_array.ensures.together

pub returns-in_err-stored-clause-front : goal.returns-in_err-stored-clause-front
returns-in_err-stored-clause-front g c = on_err _ _ (asked_none _ _ _ c.in_err-stored.ensures.asked)

pub returns-in_err-wanted-clause-front : goal.returns-in_err-wanted-clause-front
returns-in_err-wanted-clause-front g c = on_err _ _ (asked_none _ _ _ c.in_ok-stored.ensures.asked)

pub returns-in_err-chunks-clause-front : goal.returns-in_err-chunks-clause-front
returns-in_err-chunks-clause-front g c =
    let leaf = c.args.leaf.now in
    on_err _ _ (front_after _ _ (g.S.ChunkSource.state c.args.source.now) (g.S.ChunkSource.state c.listed.new.self) _
    (ap (map (asks c.args.number)) (c.as_slice.ensures ∙ c.in_ok-wanted.ensures.wanted ∙ ap (wanted_of leaf.schema.dimensions c.args.area.now) c.in_ok-stored.ensures.listed)) c.in_ok-stored.ensures.asked
    c.in_err-chunks.ensures.front)

pub returns-in_err-part_array-clause-front : goal.returns-in_err-part_array-clause-front
returns-in_err-part_array-clause-front g c =
    let leaf = c.args.leaf.now in
    on_err _ _ (front_after _ _ (g.S.ChunkSource.state c.args.source.now) (g.S.ChunkSource.state c.listed.new.self) _
    (ap (map (asks c.args.number)) (c.as_slice.ensures ∙ c.in_ok-wanted.ensures.wanted ∙ ap (wanted_of leaf.schema.dimensions c.args.area.now) c.in_ok-stored.ensures.listed)) c.in_ok-stored.ensures.asked
    (asked_all _ _ _ c.in_ok-chunks.ensures.asked))

pub read_chunks-requires-clause-reads : goal.read_chunks-requires-clause-reads
read_chunks-requires-clause-reads g c =
    reads_still (g.S.ChunkSource.state c.args.source.now) (g.S.ChunkSource.state c.listed.new.self) c.args.leaf.now c.in_ok-stored.ensures.kept c.requires.reads

pub returns-clause-asked : goal.returns-clause-asked
returns-clause-asked g c =
    let wanted = wanted_of c.args.leaf.now.schema.dimensions c.args.area.now in
    asked_after _ _ (g.S.ChunkSource.state c.args.source.now) (g.S.ChunkSource.state c.listed.new.self) (g.S.ChunkSource.state c.read_chunks.new.source)
    (ap (map (asks c.args.number)) (c.as_slice.ensures ∙ c.in_ok-wanted.ensures.wanted ∙ ap wanted c.in_ok-stored.ensures.listed))
    c.in_ok-stored.ensures.asked c.in_ok-chunks.ensures.asked

pub returns-clause-kept : goal.returns-clause-kept
returns-clause-kept g c =
    keeps_on (g.S.ChunkSource.state c.args.source.now) (g.S.ChunkSource.state c.listed.new.self) (g.S.ChunkSource.state c.read_chunks.new.source)
    c.in_ok-stored.ensures.kept c.in_ok-chunks.ensures.kept

pub returns-clause-cause : goal.returns-clause-cause
returns-clause-cause g c = c.in_ok-chunks.ensures.cause ∙ c.in_ok-stored.ensures.cause

pub returns-clause-start : goal.returns-clause-start
returns-clause-start g c = c.in_ok-chunks.ensures.start ∙ c.in_ok-stored.ensures.start

pub returns-in_err-chunks-clause-kept : goal.returns-in_err-chunks-clause-kept
returns-in_err-chunks-clause-kept g c =
    keeps_on (g.S.ChunkSource.state c.args.source.now) (g.S.ChunkSource.state c.listed.new.self) (g.S.ChunkSource.state c.read_chunks.new.source)
    c.in_ok-stored.ensures.kept c.in_err-chunks.ensures.kept

pub returns-in_err-part_array-clause-kept : goal.returns-in_err-part_array-clause-kept
returns-in_err-part_array-clause-kept g c =
    keeps_on (g.S.ChunkSource.state c.args.source.now) (g.S.ChunkSource.state c.listed.new.self) (g.S.ChunkSource.state c.read_chunks.new.source)
    c.in_ok-stored.ensures.kept c.in_ok-chunks.ensures.kept

pub returns-in_err-part_array-clause-start : goal.returns-in_err-part_array-clause-start
returns-in_err-part_array-clause-start g c = c.in_ok-chunks.ensures.start ∙ c.in_ok-stored.ensures.start
