use Rattle.chunk_cells.proofs.MergeLaws.{if_ok}
use Rattle.area_cells.proofs.CutLaws.{all_gathered}
use Rattle.area_cells.proofs.gathering.rows_in_area.Goals as goal

pub returns : goal.returns
returns c =
    if_ok c.into_core_rows.result c.into_core_rows.ensures
    (λ rows e. all_gathered c.args.schema.now c.in_ok-copy.field-0 c.args.margins.now c.copy_numbers.result c.args.area.now c.args.chunks.now c.another-cuts.result c.push_cuts.new.cuts rows c.in_ok-copy.ensures c.copy_numbers.ensures c.another-cuts.ensures c.in_ok-push_cuts.ensures e)
