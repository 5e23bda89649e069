use Rattle.std.proofs.Common.{rules}
use Rattle.std.proofs.lemmas.Int.{to_z-of_z}
use mir.Val.{SFits}
use mir.Syntax.{w64}
use Rattle.area_cells.proofs.FoundLaws.{found_at}
use Rattle.window_overlap.proofs.DenseLaws.{next_numbers}
use Rattle.window_overlap.proofs.dense.columns.dense_of.Goals as goal

pub loop-k-preserved : goal.loop-k-preserved
loop-k-preserved c =
    let f = c.index-found-k.result in
    let fits : SFits w64 c.in-Some.number = search rules in
    next_numbers c.args.grid.now c.args.found.now c.loop-k.k c.args.attribute c.loop-k.present c.set.new.self c.loop-k.numbers c.set-in-Some.new.self f c.in-Some.number c.requires.grid c.requires.found c.requires.rising c.loop-k-test.true c.index-found-k.is
    (found_at c.args.grid.now c.args.found.now c.loop-k.k f c.requires.found c.loop-k-test.true c.index-found-k.is) c.in-Some.ensures c.set.ensures (simp to_z-of_z at c.set-in-Some.ensures) c.loop-k.invariant
