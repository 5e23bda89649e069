use Rattle.std.proofs.Common.{rules, ◌<◌, length, map, arith}
use Rattle.array_geom.specs.Link.{core_rows}
use Rattle.area_cells.proofs.CutLaws.{each_core}
use Rattle.redimension_exec.specs.Inner.Places.{origin}
use Rattle.redimension_exec.proofs.BandLaws.{back_bands, cut_rows, front_bands}
use Rattle.redimension_exec.proofs.FillLaws.{fill_both, fill_front}
use Rattle.redimension_exec.proofs.moving.+fill_bands.Goals as goal

pub half_of_bands-half-requires-clause-cores : goal.half_of_bands-half-requires-clause-cores
half_of_bands-half-requires-clause-cores t c = each_core c.args.source.now c.args.margins.now.items c.args.chunks.now c.requires.bands.places.all

pub fill_bands-requires : goal.fill_bands-requires
fill_bands-requires t c =
    let source = c.args.source.now in
    let margins = c.args.margins.now.items in
    let chunks = c.args.chunks.now in
    let half = c.half_of_bands-half.result in
    let front = c.split_at.result.0.now in
    let back = c.split_at.result.1.now in
    let split = cut_rows source.dimensions margins half chunks front back (c.half_of_bands-half.ensures.rows margins) c.split_at.ensures.front c.split_at.ensures.back in
    let less : half < length chunks = search rules in (
      omega (arith, c.split_at.ensures.front_len, less, c.decreases),
      (front_bands source margins half chunks front back c.requires.bands split c.split_at.ensures.front, c.requires.target),
    )

pub fill_bands-requires-in-None : goal.fill_bands-requires-in-None
fill_bands-requires-in-None t c =
    let source = c.args.source.now in
    let margins = c.args.margins.now.items in
    let chunks = c.args.chunks.now in
    let half = c.half_of_bands-half.result in
    let front = c.split_at.result.0.now in
    let back = c.split_at.result.1.now in
    let split = cut_rows source.dimensions margins half chunks front back (c.half_of_bands-half.ensures.rows margins) c.split_at.ensures.front c.split_at.ensures.back in
    let less : half < length chunks = search rules in (
      omega (arith, c.split_at.ensures.back_len, c.half_of_bands-half.ensures.some (omega (arith, less)), less, c.decreases),
      (back_bands source margins half chunks front back c.requires.bands split c.split_at.ensures.back, c.requires.target),
    )

pub returns-in-Some : goal.returns-in-Some
returns-in-Some t c =
    let source = c.args.source.now in
    let margins = c.args.margins.now.items in
    let chunks = c.args.chunks.now in
    let front = c.split_at.result.0.now in
    let back = c.split_at.result.1.now in
    let to = c.args.to.now in
    let split = cut_rows source.dimensions margins c.half_of_bands-half.result chunks front back (c.half_of_bands-half.ensures.rows margins) c.split_at.ensures.front c.split_at.ensures.back in
    fill_front to.schema.now (map origin to.places.now) to.bounds.now (map origin to.values.now) (core_rows source.dimensions margins front) (core_rows source.dimensions margins back) (core_rows source.dimensions margins chunks)
    c.args.counts.now c.fill_bands.new.counts c.args.filled.now c.fill_bands.new.filled c.in-Some.broken split (rw c.in-Some.is at c.in_ok-broken.ensures)

pub returns-in-None : goal.returns-in-None
returns-in-None t c =
    let source = c.args.source.now in
    let margins = c.args.margins.now.items in
    let chunks = c.args.chunks.now in
    let front = c.split_at.result.0.now in
    let back = c.split_at.result.1.now in
    let to = c.args.to.now in
    let split = cut_rows source.dimensions margins c.half_of_bands-half.result chunks front back (c.half_of_bands-half.ensures.rows margins) c.split_at.ensures.front c.split_at.ensures.back in
    fill_both to.schema.now (map origin to.places.now) to.bounds.now (map origin to.values.now) (core_rows source.dimensions margins front) (core_rows source.dimensions margins back) (core_rows source.dimensions margins chunks)
    c.args.counts.now c.fill_bands.new.counts c.fill_bands-in-None.new.counts c.args.filled.now c.fill_bands.new.filled c.fill_bands-in-None.new.filled c.fill_bands-in-None.result split
    (rw c.in-None.is at c.in_ok-broken.ensures) c.fill_bands-in-None.ensures
