use Rattle.chunk_cells.proofs.MergeLaws.{on_ok}
use Rattle.exec_box.proofs.PieceLaws.{sliced_reached}
use Rattle.exec_box.proofs.arrays.slice_pieces.push_sliced.Goals as goal

pub returns : goal.returns
returns c =
    on_ok c.push_core.result c.push_core.ensures
    (λ adds. sliced_reached c.args.source.now c.args.target.now.dimensions c.args.fixed.now c.args.number.now.items c.number_but.result.items c.args.found.now c.push_core.new.found c.requires.valid c.requires.core c.number_but.ensures adds)
