use Rattle.area_cells.proofs.FillLaws.{one_more_row}
use Rattle.chunk_cells.proofs.MergeLaws.{on_ok}
use Rattle.area_cells.proofs.framing.add_row.Goals as goal

pub returns-clause-filled : goal.returns-clause-filled
returns-clause-filled c =
    on_ok c.push-2.result c.push-2.ensures.ok (λ pushed rows is.
    one_more_row c.args.grid.now.low.items c.args.grid.now.lengths.items c.args.row c.position-place.result c.args.chunk.now (record { at = c.args.chunk.now.at; positions = c.push.new.self; cells = c.push-2.new.self }) rows c.requires.inside c.position-place.ensures.value c.in_ok-push.ensures.ok pushed is)
