use Rattle.chunk_cells.proofs.MergeLaws.{on_ok}
use Rattle.shape_exec.proofs.FoundChunks.{found_more}
use Rattle.shape_exec.proofs.found_chunks.push_found.Goals as goal

pub returns-clause-filled : goal.returns-clause-filled
returns-clause-filled c =
    on_ok c.push_cell.result c.push_cell.ensures (λ pushed rows is.
    found_more c.args.grid.now c.args.found.now c.args.chunk.now (record { at = c.args.chunk.now.at; positions = c.push.new.self; cells = c.push_cell.new.cells }) c.requires c.in_ok-push.ensures.ok pushed rows is)
