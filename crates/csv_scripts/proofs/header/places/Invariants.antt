use Rattle.std.proofs.Common.{take}
use Rattle.csv.specs.Records.{fields_of}
use Rattle.csv_scripts.specs.Conversion.{AreColumns}
use Rattle.csv_scripts.proofs.header.places.Given as goal

abbrev pub invariant-loop-at : goal.invariant-loop-at
invariant-loop-at l = AreColumns (fields_of l.names) (take l.at l.columns) l.places
