use Rattle.std.proofs.Common.{[]}
use Rattle.afl_lexer.specs.Inner.Standing.{StandsAfter}
use Rattle.run_opening.proofs.RoomLemmas.{all_more, count_more}
use Rattle.run_opening.proofs.opening.room.splitters.Goals as goal

pub loop-preserved : goal.loop-preserved
loop-preserved c =
    let before = c.loop.made.items in
    let after = c.push.new.self.items in
    let splitter = c.in_ok-new.field-0 in
    let grown = c.in_ok-push.ensures.items in record {
      each = all_more (StandsAfter []) before after splitter grown c.loop.invariant.each c.in_ok-new.ensures;
      count = count_more before after splitter c.loop.counter grown c.loop.invariant.count;
    }
