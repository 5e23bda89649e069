use Rattle.std.proofs.Common.{◌<◌, [], length, rules}
use Rattle.cell_values.specs.declared.datum.Cell.TheVariants.{Full}
use Rattle.array_parts.specs.Inner.Quickly.{StaysAnywhere}
use Rattle.array_parts.proofs.StayLaws.{one_more}
use Rattle.array_parts.proofs.chunks.chunks.all_rows_stay.Goals as goal

pub loop-k-preserved : goal.loop-k-preserved
loop-k-preserved g c = λ rest.
    let within : c.loop-k.k < length c.args.rows.now = search rules in
    c.loop-k.invariant (one_more (λ row. StaysAnywhere (g.C.CellChange.changed c.args.change.now) (Full row)) c.args.rows.now c.loop-k.k [] within (c.stays.ensures c.if-not-stays.false) rest)
