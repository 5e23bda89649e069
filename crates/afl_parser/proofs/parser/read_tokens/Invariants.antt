use Rattle.std.proofs.Common.{◌≡◌, [], take}
use Rattle.afl_parser.specs.Inner.Machine.{Go, run}
use Rattle.afl_trees.specs.Statement.{lexemes}
use Rattle.afl_parser.specs.declared.frame.Focus.TheVariants.{Start}
use Rattle.afl_parser.proofs.parser.read_tokens.Given as goal

abbrev pub invariant-loop-index : goal.invariant-loop-index
invariant-loop-index l = run 128 [] Start (lexemes l.text (take l.index l.tokens)) ≡ Go l.reader.stack l.reader.focus
