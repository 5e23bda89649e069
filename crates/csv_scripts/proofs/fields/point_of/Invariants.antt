use Rattle.std.proofs.Common.{◌≡◌, ◌++◌, take, drop}
use Rattle.csv_scripts.specs.Fields.{decimal_part, whole_part}
use Rattle.csv_scripts.proofs.fields.point_of.Given as goal

abbrev pub invariant-loop-at : goal.invariant-loop-at
invariant-loop-at l = (take l.at l.field ++ whole_part (drop l.at l.field) ≡ whole_part l.field) × (decimal_part (drop l.at l.field) ≡ decimal_part l.field)
