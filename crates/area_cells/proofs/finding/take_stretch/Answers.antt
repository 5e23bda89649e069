use Rattle.std.proofs.Common.{arith}
use Rattle.array_rows.specs.Inner.CellsIn.{cells_in}
use Rattle.area_cells.proofs.TakingLaws.{passed}
use Rattle.area_cells.proofs.finding.take_stretch.Goals as goal

pub returns-else-stretch-clause-taken : goal.returns-else-stretch-clause-taken
returns-else-stretch-clause-taken c = λ taken.
    let from = c.stretch_at-stretch.ensures.from in
    passed c.args.source.now c.args.target.now c.args.core.now c.args.area.now c.args.places.now (cells_in c.args.form.now) c.args.found.now c.stretch_at-stretch.result c.args.from c.end_of-end.result
    c.stretch_at-stretch.ensures.stretch c.if-stretch.false c.requires.rising c.requires.each c.end_of-end.ensures.some c.end_of-end.ensures.within (omega (arith, from)) c.end_of-end.ensures.last taken
