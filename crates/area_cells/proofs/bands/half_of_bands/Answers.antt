use Rattle.std.proofs.Common.{rules}
use Rattle.std.specs.Prelude.{IsTrue}
use Rattle.area_cells.proofs.BandLaws.{band_begins}
use Rattle.area_cells.proofs.bands.half_of_bands.Goals as goal

pub returns-then-begins_band-clause-some : goal.returns-then-begins_band-clause-some
returns-then-begins_band-clause-some c = let t : IsTrue c.begins_band.result = search rules in λ some. (c.begins_band.ensures t).some

pub returns-then-begins_band-clause-rows : goal.returns-then-begins_band-clause-rows
returns-then-begins_band-clause-rows c =
    let t : IsTrue c.begins_band.result = search rules in
    λ margins. band_begins c.args.schema.now margins _ c.args.chunks.now c.requires.valid c.requires.cores c.requires.rise (c.begins_band.ensures t)

pub returns-then-begins_band-2-clause-some : goal.returns-then-begins_band-2-clause-some
returns-then-begins_band-2-clause-some c = let t : IsTrue c.begins_band-in-loop-step.result = search rules in λ some. (c.begins_band-in-loop-step.ensures t).some

pub returns-then-begins_band-2-clause-rows : goal.returns-then-begins_band-2-clause-rows
returns-then-begins_band-2-clause-rows c =
    let t : IsTrue c.begins_band-in-loop-step.result = search rules in
    λ margins. band_begins c.args.schema.now margins _ c.args.chunks.now c.requires.valid c.requires.cores c.requires.rise (c.begins_band-in-loop-step.ensures t)
