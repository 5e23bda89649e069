use Rattle.std.specs.declared.cmp.Ordering.TheVariants.{Less, Equal, Greater}
use Rattle.std.proofs.lemmas.Cmp.{ranked}
use Rattle.chunk_cells.proofs.OverLaws.{goes_new, goes_old, goes_past, less_at, same_at}
use Rattle.chunk_cells.proofs.overlay.over.put_next.Goals as goal

pub returns-in_ok-push_cell-in-Less-clause-made : goal.returns-in_ok-push_cell-in-Less-clause-made
returns-in_ok-push_cell-in-Less-clause-made c =
    goes_new c.args.new.now c.args.old.now c.args.made.now c.push_cell.new.made c.args.at_new c.args.at_old c.requires.new_each c.requires.old_each c.requires.new_inside c.requires.old_inside
    (less_at c.args.new.now.positions c.args.old.now.positions c.args.at_new c.args.at_old c.index.result.now c.index-2.result.now c.requires.new_inside c.requires.old_inside c.index.ensures c.index-2.ensures (ranked c.index.result.now c.index-2.result.now Less c.in-Less.ensures))
    c.in_ok-push_cell-in-Less.ensures

pub returns-in_ok-push_cell-in-Greater-clause-made : goal.returns-in_ok-push_cell-in-Greater-clause-made
returns-in_ok-push_cell-in-Greater-clause-made c =
    goes_old c.args.new.now c.args.old.now c.args.made.now c.push_cell-in-Greater.new.made c.args.at_new c.args.at_old c.requires.new_each c.requires.old_each c.requires.new_inside c.requires.old_inside
    (less_at c.args.old.now.positions c.args.new.now.positions c.args.at_old c.args.at_new c.index-2.result.now c.index.result.now c.requires.old_inside c.requires.new_inside c.index-2.ensures c.index.ensures (ranked c.index.result.now c.index-2.result.now Greater c.in-Greater.ensures))
    c.in_ok-push_cell-in-Greater.ensures

pub returns-in-Equal-clause-made : goal.returns-in-Equal-clause-made
returns-in-Equal-clause-made c =
    goes_past c.args.new.now c.args.old.now c.args.made.now c.args.at_new c.args.at_old c.requires.new_each c.requires.old_each c.requires.new_inside c.requires.old_inside
    (same_at c.args.new.now.positions c.args.old.now.positions c.args.at_new c.args.at_old c.index.result.now c.index-2.result.now c.requires.new_inside c.requires.old_inside c.index.ensures c.index-2.ensures (ranked c.index.result.now c.index-2.result.now Equal c.in-Equal.ensures))
