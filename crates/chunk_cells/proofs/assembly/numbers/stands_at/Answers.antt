use Rattle.std.proofs.Common.{ap, ◌∙◌}
use Rattle.std.specs.Ordering.{is_eq}
use Rattle.chunk_cells.proofs.NumberLaws.{none_starts, found_starts}
use Rattle.chunk_cells.proofs.assembly.numbers.stands_at.Goals as goal

pub returns-in-None : goal.returns-in-None
returns-in-None c = none_starts c.args.number.now.items c.args.listed.now c.args.at c.in-None.ensures.lookup.3

pub returns-in-Some : goal.returns-in-Some
returns-in-Some c =
    c.is_eq.ensures ∙ ap is_eq c.compare_numbers.ensures
    ∙ found_starts c.args.number.now.items c.args.listed.now c.args.at c.in-Some.found.now c.in-Some.ensures.lookup.3.0 c.in-Some.ensures.lookup.1
