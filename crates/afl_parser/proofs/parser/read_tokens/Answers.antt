use Rattle.std.proofs.Common.{take, subst, sym}
use Rattle.afl_trees.specs.Statement.{lexemes}
use Rattle.afl_parser.specs.Inner.Reply.{IsTokenStop}
use Rattle.afl_parser.specs.declared.parser.TokenFault.{TokenFault}
use Rattle.afl_parser.proofs.Parsing.{fits_reached, next_reached, stops_at, all_reached, stop_at_end, statement_reached}
use Rattle.afl_parser.proofs.parser.read_tokens.Goals as goal

pub read-requires-clause-fits : goal.read-requires-clause-fits
read-requires-clause-fits c =
    fits_reached (lexemes c.args.text.now (take c.loop-index.index c.args.tokens.now)) c.loop-index.reader.stack c.loop-index.reader.focus c.loop-index.invariant

pub returns-in-Err-clause-stop : goal.returns-in-Err-clause-stop
returns-in-Err-clause-stop c =
    subst (λ (e : TokenFault). IsTokenStop 128 (lexemes c.args.text.now c.args.tokens.now) e) (sym c.placed.ensures)
    (stops_at c.args.text.now c.args.tokens.now c.loop-index.index _ c.loop-index.reader.stack c.loop-index.reader.focus c.in-Err.fault c.loop-index-test.true c.loop-index.invariant c.in-Err.ensures)

pub loop-index-preserved : goal.loop-index-preserved
loop-index-preserved c =
    next_reached c.args.text.now c.args.tokens.now c.loop-index.index _ c.loop-index.reader.stack c.loop-index.reader.focus c.in-Ok.next c.loop-index-test.true c.loop-index.invariant c.in-Ok.ensures

pub finish-requires : goal.finish-requires
finish-requires c =
    fits_reached (lexemes c.args.text.now (take c.loop-index.index c.args.tokens.now)) c.loop-index.reader.stack c.loop-index.reader.focus c.loop-index.invariant

pub returns-in-Ok-finish-clause-tree : goal.returns-in-Ok-finish-clause-tree
returns-in-Ok-finish-clause-tree c =
    statement_reached (lexemes c.args.text.now c.args.tokens.now) c.loop-index.reader.stack c.loop-index.reader.focus c.in-Ok-finish.tree
    (all_reached c.args.text.now c.args.tokens.now c.loop-index.index c.loop-index.reader.stack c.loop-index.reader.focus c.loop-index.auto.index-end c.loop-index-test.false c.loop-index.invariant)
    c.in-Ok-finish.ensures

pub returns-in-Err-finish-clause-stop : goal.returns-in-Err-finish-clause-stop
returns-in-Err-finish-clause-stop c =
    subst (λ (e : TokenFault). IsTokenStop 128 (lexemes c.args.text.now c.args.tokens.now) e) (sym c.placed-in-Err-finish.ensures)
    (stop_at_end c.args.text.now c.args.tokens.now c.loop-index.reader.stack c.loop-index.reader.focus c.in-Err-finish.fault
    (all_reached c.args.text.now c.args.tokens.now c.loop-index.index c.loop-index.reader.stack c.loop-index.reader.focus c.loop-index.auto.index-end c.loop-index-test.false c.loop-index.invariant)
    c.in-Err-finish.ensures)
