use Rattle.std.proofs.Common.{sym, ◌∙◌}
use Rattle.area_cells.proofs.ApartLaws.{off_the_box}
use Rattle.area_cells.proofs.gathering.lie_off.Goals as goal

pub returns : goal.returns
returns c = λ off margins.
    off_the_box c.args.schema.now.dimensions margins c.args.area.now c.args.chunks.now c.index-chunks-0.result c.index-chunks-chunks.result c.requires.some c.index-chunks-0.is c.index-chunks-chunks.is c.requires.rise (sym c.lies_off.ensures ∙ off)
