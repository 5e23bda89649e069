use Rattle.std.proofs.Common.{◌≡◌, [], length}
use Rattle.std.specs.List.{AllByRecursion}
use Rattle.afl_lexer.specs.Inner.Standing.{StandsAfter}
use Rattle.run_opening.proofs.opening.room.splitters.Given as goal

abbrev pub invariant-loop : goal.invariant-loop
invariant-loop l = record {
  each : AllByRecursion (StandsAfter []) l.made.items;
  count : length l.made.items ≡ l.counter;
}
