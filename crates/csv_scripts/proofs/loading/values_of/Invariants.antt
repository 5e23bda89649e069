use Rattle.std.proofs.Common.{◌≡◌, length}
use Rattle.csv.specs.Records.{fields_of}
use Rattle.csv_scripts.specs.Records.{HaveColumnValues, HasColumnValue}
use Rattle.csv_scripts.proofs.loading.values_of.Given as goal

abbrev pub invariant-loop-at : goal.invariant-loop-at
invariant-loop-at l =
    HaveColumnValues (HasColumnValue l.plan l.options.is_bare l.options.null.now (fields_of l.row) l.places) 0 l.values × (length l.values ≡ l.at)
