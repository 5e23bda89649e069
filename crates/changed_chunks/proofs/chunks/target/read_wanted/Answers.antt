use Rattle.std.proofs.Common.{◌∙◌, ap, subst}
use Rattle.cell_values.specs.declared.schema.Schema.{Schema}
use Rattle.cell_values.specs.Schemas.{IsValid}
use Rattle.array_parts.specs.Cores.{cores_of}
use Rattle.chunk_source.specs.Source.{listed}
use Rattle.chunk_source.proofs.ReadLemmas.{asked_none, on_err, keeps_on, reads_still}
use Rattle.chunk_source.proofs.ReadLaws.{wanted_among}
use Rattle.changed_chunks.specs.Wanted.{is_wanted, target_wanted}
use Rattle.changed_chunks.proofs.Asked.{asked_listed, front_listed}
use Rattle.changed_chunks.proofs.ChunkLaws.{read_stored, wanted_rising}
use Rattle.changed_chunks.proofs.Counted.{asking_is, asking_listed, asking_told, whatever}
use Rattle.changed_chunks.proofs.Serves.{read_serves}
use Rattle.changed_chunks.proofs.chunks.target.read_wanted.Goals as goal

pub read_chunks-requires-clause-listed : goal.read_chunks-requires-clause-listed
read_chunks-requires-clause-listed g c =
    wanted_among (g.S.ChunkSource.state c.args.source.now) (g.S.ChunkSource.state c.listed.new.self) c.args.leaf.now
    (λ at. is_wanted c.args.put.now.schema.dimensions (cores_of c.args.put.now) at.items) c.in_ok-listed.listed c.as_slice-3.result.now
    c.in_ok-listed.ensures.kept c.in_ok-listed.ensures.listed (c.as_slice-3.ensures ∙ c.in_ok-wanted.ensures)

pub returns-clause-stored : goal.returns-clause-stored
returns-clause-stored g c = read_stored c.args.leaf.now c.as_slice-3.result.now c.read_chunks.result (subst IsValid c.requires.schema c.requires.put.holds.rows_of.valid)
    (wanted_rising (λ at. is_wanted c.args.put.now.schema.dimensions (cores_of c.args.put.now) at.items) c.in_ok-listed.listed c.as_slice-3.result.now (c.as_slice-3.ensures ∙ c.in_ok-wanted.ensures) c.in_ok-listed.ensures.rising)
    c.read_chunks.ensures.stored

pub returns-clause-told : goal.returns-clause-told
returns-clause-told g c =
    let valid : IsValid c.args.leaf.now.schema = subst IsValid c.requires.schema c.requires.put.holds.rows_of.valid in
    let are = read_stored c.args.leaf.now c.as_slice-3.result.now c.read_chunks.result valid
    (wanted_rising (λ at. is_wanted c.args.put.now.schema.dimensions (cores_of c.args.put.now) at.items) c.in_ok-listed.listed c.as_slice-3.result.now (c.as_slice-3.ensures ∙ c.in_ok-wanted.ensures) c.in_ok-listed.ensures.rising)
    c.read_chunks.ensures.stored in
    read_serves (g.S.ChunkSource.state c.args.source.now) (g.S.ChunkSource.state c.listed.new.self) c.args.leaf.now (cores_of c.args.put.now) c.in_ok-listed.listed c.as_slice-3.result.now c.read_chunks.result
    (c.as_slice-3.ensures ∙ c.in_ok-wanted.ensures ∙ ap (λ (z : Schema). target_wanted z.dimensions (cores_of c.args.put.now) c.in_ok-listed.listed) c.requires.schema)
    c.in_ok-listed.ensures.kept (λ db t. c.in_ok-listed.ensures.told db t valid) c.read_chunks.ensures.stored are c.read_chunks.ensures.told

pub returns-clause-counted : goal.returns-clause-counted
returns-clause-counted g c =
    let leaf = c.args.leaf.now in
    let rows = cores_of c.args.put.now in
    whatever c.read_chunks.result _
    (λ chunks db tells. asking_told leaf rows c.in_ok-listed.listed _
    (asking_is leaf c.args.put.now.schema rows c.in_ok-listed.listed c.in_ok-wanted.wanted c.as_slice.result.now c.as_slice-2.result.now c.count_chunks-asked.result c.count_chunks-stored.result
    c.requires.schema c.in_ok-wanted.ensures c.as_slice.ensures c.as_slice-2.ensures c.count_chunks-asked.ensures c.count_chunks-stored.ensures)
    db (subst IsValid c.requires.schema c.requires.put.holds.rows_of.valid) c.in_ok-listed.ensures.rising (c.in_ok-listed.ensures.told db tells))

pub returns-clause-over : goal.returns-clause-over
returns-clause-over g c =
    let leaf = c.args.leaf.now in
    let rows = cores_of c.args.put.now in
    whatever c.read_chunks.result _
    (λ chunks. asking_listed leaf rows c.in_ok-listed.listed _
    (asking_is leaf c.args.put.now.schema rows c.in_ok-listed.listed c.in_ok-wanted.wanted c.as_slice.result.now c.as_slice-2.result.now c.count_chunks-asked.result c.count_chunks-stored.result
    c.requires.schema c.in_ok-wanted.ensures c.as_slice.ensures c.as_slice-2.ensures c.count_chunks-asked.ensures c.count_chunks-stored.ensures)
    (g.S.ChunkSource.state c.args.source.now) c.in_ok-listed.ensures.listed)

pub returns-clause-asked : goal.returns-clause-asked
returns-clause-asked g c =
    asked_listed c.read_chunks.result c.args.number (g.S.ChunkSource.state c.args.source.now) (g.S.ChunkSource.state c.listed.new.self) (g.S.ChunkSource.state c.read_chunks.new.source) c.as_slice-3.result.now
    (target_wanted c.args.leaf.now.schema.dimensions (cores_of c.args.put.now) (listed (g.S.ChunkSource.state c.args.source.now) c.args.leaf.now))
    (c.as_slice-3.ensures ∙ c.in_ok-wanted.ensures ∙ (λ i. target_wanted (c.requires.schema i).dimensions (cores_of c.args.put.now) (c.in_ok-listed.ensures.listed i)))
    c.in_ok-listed.ensures.asked c.read_chunks.ensures.asked

pub returns-clause-front : goal.returns-clause-front
returns-clause-front g c =
    front_listed c.read_chunks.result c.args.number (g.S.ChunkSource.state c.args.source.now) (g.S.ChunkSource.state c.listed.new.self) (g.S.ChunkSource.state c.read_chunks.new.source) c.as_slice-3.result.now
    (target_wanted c.args.leaf.now.schema.dimensions (cores_of c.args.put.now) (listed (g.S.ChunkSource.state c.args.source.now) c.args.leaf.now))
    (c.as_slice-3.ensures ∙ c.in_ok-wanted.ensures ∙ (λ i. target_wanted (c.requires.schema i).dimensions (cores_of c.args.put.now) (c.in_ok-listed.ensures.listed i)))
    c.in_ok-listed.ensures.asked c.read_chunks.ensures.front

pub returns-in_err-listed-clause-front : goal.returns-in_err-listed-clause-front
returns-in_err-listed-clause-front g c = on_err _ _ (asked_none _ _ _ c.in_err-listed.ensures.asked)

pub returns-in_err-wanted-clause-front : goal.returns-in_err-wanted-clause-front
returns-in_err-wanted-clause-front g c = on_err _ _ (asked_none _ _ _ c.in_ok-listed.ensures.asked)

pub returns-clause-kept : goal.returns-clause-kept
returns-clause-kept g c = keeps_on (g.S.ChunkSource.state c.args.source.now) (g.S.ChunkSource.state c.listed.new.self) (g.S.ChunkSource.state c.read_chunks.new.source) c.in_ok-listed.ensures.kept c.read_chunks.ensures.kept

pub returns-clause-start : goal.returns-clause-start
returns-clause-start g c = c.read_chunks.ensures.start ∙ c.in_ok-listed.ensures.start

pub read_chunks-requires-clause-reads : goal.read_chunks-requires-clause-reads
read_chunks-requires-clause-reads g c = reads_still (g.S.ChunkSource.state c.args.source.now) (g.S.ChunkSource.state c.listed.new.self) c.args.leaf.now c.in_ok-listed.ensures.kept c.requires.reads

pub returns-in_err-wanted-clause-kept : goal.returns-in_err-wanted-clause-kept
returns-in_err-wanted-clause-kept g c = c.in_ok-listed.ensures.kept

pub returns-in_err-wanted-clause-start : goal.returns-in_err-wanted-clause-start
returns-in_err-wanted-clause-start g c = c.in_ok-listed.ensures.start
