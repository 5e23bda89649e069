use Rattle.std.proofs.Common.{refl}
use Rattle.chunk_cells.proofs.MergeLaws.{if_ok}
use Rattle.chunk_cells.proofs.WholeLaws.{cores_rise, core_rows_held}
use Rattle.chunk_cells.proofs.reading.whole.into_rows.Goals as goal

pub returns : goal.returns
returns c = λ held holds.
    if_ok c.gathered.result (c.gathered.ensures (cores_rise c.args.array.schema c.args.array held c.args.array.chunks refl holds))
    (λ rows e. core_rows_held c.args.array rows held holds e)
