use Rattle.std.proofs.Common.{List, map, sym, subst}
use Rattle.std.specs.Prelude.{IfOk}
use Rattle.array_geom.specs.declared.chunk.Chunk.{Chunk}
use Rattle.array_geom.specs.Link.{core_rows}
use Rattle.array_parts.specs.Cores.{cores_of}
use Rattle.redimension_exec.specs.Inner.Bands.{AreBands}
use Rattle.redimension_exec.specs.Inner.Filling.{Fill}
use Rattle.redimension_exec.specs.Inner.Places.{origin}
use Rattle.redimension_exec.proofs.FillLaws.{all_of}
use Rattle.redimension_exec.proofs.moving.filled_by.Goals as goal

pub fill_bands-moved-requires-clause-bands : goal.fill_bands-moved-requires-clause-bands
fill_bands-moved-requires-clause-bands c =
    let array = c.args.array.now in
    subst (AreBands array.schema array.margins.items) (sym c.as_slice-chunks.ensures) c.requires.bands

pub returns : goal.returns
returns c =
    let array = c.args.array.now in
    let to = c.args.to.now in
    all_of to.schema.now (map origin to.places.now) to.bounds.now (map origin to.values.now) (cores_of array) c.new-counts.result c.fill_bands-moved.new.counts c.new-filled.result c.fill_bands-moved.new.filled c.fill_bands-moved.result c.finished.result
    c.new-counts.ensures.empty c.new-filled.ensures
    (subst (λ (chunks : List Chunk). IfOk c.fill_bands-moved.result (λ broken. Fill to.schema.now (map origin to.places.now) to.bounds.now (map origin to.values.now) (core_rows array.schema.dimensions array.margins.items chunks) broken
    c.new-counts.result c.new-filled.result c.fill_bands-moved.new.counts c.fill_bands-moved.new.filled)) c.as_slice-chunks.ensures c.fill_bands-moved.ensures)
    c.finished.ensures
