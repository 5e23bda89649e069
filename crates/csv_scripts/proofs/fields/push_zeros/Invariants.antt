use Rattle.std.proofs.Common.{◌≡◌, ◌++◌, replicate}
use Rattle.csv_scripts.proofs.fields.push_zeros.Given as goal

abbrev pub invariant-loop : goal.invariant-loop
invariant-loop l = l.digits ≡ l.fn.digits ++ replicate l.counter 48
