use Rattle.std.proofs.Common.{map, drop}
use Rattle.redimension_exec.specs.Inner.Places.{origin}
use Rattle.redimension_exec.proofs.FillLaws.{IsFilling}
use Rattle.redimension_exec.proofs.places.filling.fill_rows.Given as goal

abbrev pub invariant-loop-row : goal.invariant-loop-row
invariant-loop-row l =
    IsFilling l.to.schema.now (map origin l.to.places.now) l.to.bounds.now (map origin l.to.values.now) l.rows (drop l.row-index l.row-items) l.initial.counts l.initial.filled l.counts l.filled
