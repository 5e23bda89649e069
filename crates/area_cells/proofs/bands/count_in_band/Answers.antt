use Rattle.std.proofs.Common.{◌∙◌}
use Rattle.area_cells.proofs.BandLaws.{band_ended}
use Rattle.area_cells.proofs.bands.count_in_band.Goals as goal

pub returns-then-first_number-first-clause-rows : goal.returns-then-first_number-first-clause-rows
returns-then-first_number-first-clause-rows c = λ margins.
    band_ended c.args.schema.now margins c.first_number-first.result c.loop-count.count c.args.chunks.now c.index-chunks-0.result c.index-chunks-count.result c.requires.valid c.requires.cores c.requires.rise c.loop-count.invariant c.loop-count-test.true c.index-chunks-0.is
    c.first_number-first.ensures c.index-chunks-count.is (λ e. c.if-first_number-first.true (c.first_number.ensures ∙ e))
