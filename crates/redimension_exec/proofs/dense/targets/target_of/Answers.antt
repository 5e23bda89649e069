use Rattle.std.proofs.Common.{get_or, [], sym}
use Rattle.redimension_exec.proofs.TargetLaws.{is_target_of}
use Rattle.redimension_exec.proofs.dense.targets.target_of.Goals as goal

pub returns : goal.returns
returns c =
    is_target_of c.args.area.now c.args.to.now.places.now c.args.to.now.bounds.now c.args.to.now.grid.now c.args.at.now.items (get_or c.args.rows.now c.args.k []) c.push_numbers.new.out c.new-key.result.items c.position.result
    c.requires.grid (sym c.if-not-is_in_box.ensures) c.new-key.ensures (c.push_numbers.ensures c.if-not-push_numbers.false) (sym c.if-not-is_in_box-2.ensures) c.position.ensures.value c.position.ensures.below
