use Rattle.std.proofs.Common.{sym, ◌∙◌}
use Rattle.shape_exec.proofs.NumberedCells.{doubt_here, doubt_later}
use Rattle.shape_exec.proofs.numbered_cells.doubt_from.Goals as goal

pub returns-in-Some : goal.returns-in-Some
returns-in-Some c = λ number rows later. doubt_here c.args.grid.now c.args.found.now number rows c.place.result c.in-Some.kind c.place.ensures (sym c.doubt_of.ensures ∙ c.in-Some.is)

pub returns-in-None : goal.returns-in-None
returns-in-None c = λ number rows later. doubt_later c.args.grid.now c.args.found.now number rows c.args.later (sym c.doubt_of.ensures ∙ c.in-None.is) later
