use Rattle.std.proofs.Common.{◌≡◌, length}
use Rattle.redimension_exec.specs.Inner.Dense.{AreEmpty}
use Rattle.redimension_exec.proofs.dense.columns.empty_states.Given as goal

abbrev pub invariant-loop : goal.invariant-loop
invariant-loop l = record {
  empty : AreEmpty l.aggregate l.states;
  long : length l.states ≡ l.counter;
}
