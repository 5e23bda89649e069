use Rattle.std.proofs.Common.{length, sym, ap}
use Rattle.std.proofs.lemmas.Bool.{ltb-false}
use Rattle.std.proofs.lemmas.List.{drop_all}
use Rattle.afl_trees.specs.Statement.{start_of}
use Rattle.afl_parser.proofs.parser.place_of.Goals as goal

pub returns-in-None : goal.returns-in-None
returns-in-None c =
    let tokens = c.args.tokens.now in
    sym (ap (start_of c.args.text.now) (drop_all c.args.index tokens (ltb-false c.args.index (length tokens) (sym c.in-None.ensures.lookup.0))))
