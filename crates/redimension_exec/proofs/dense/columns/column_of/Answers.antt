use Rattle.std.proofs.Common.{get_or, pos, refl, rules}
use Rattle.std.proofs.lemmas.Int.{to_z-of_z}
use mir.Val.{SFits}
use mir.Syntax.{w64}
use Rattle.redimension_exec.proofs.ColumnLaws.{all_stand, next_stand, none_stand, room_at}
use Rattle.redimension_exec.proofs.dense.columns.column_of.Goals as goal

pub loop-k-init : goal.loop-k-init
loop-k-init c = none_stand c.args.aggregate.now c.args.to.now c.args.targets.now c.args.numbers.now c.in_ok-states.states.items _ c.in_ok-states.ensures.empty c.in_ok-states.ensures.long c.volume.ensures

pub take_at-requires-clause-inside : goal.take_at-requires-clause-inside
take_at-requires-clause-inside c =
    (room_at c.args.aggregate.now c.args.to.now c.args.targets.now c.args.numbers.now c.loop-k.k (get_or c.args.targets.now c.loop-k.k 0) c.loop-k.states.items c.requires.below c.loop-k-test.true c.requires.few refl c.loop-k.invariant).0

pub take_at-requires-clause-room : goal.take_at-requires-clause-room
take_at-requires-clause-room c =
    (room_at c.args.aggregate.now c.args.to.now c.args.targets.now c.args.numbers.now c.loop-k.k (get_or c.args.targets.now c.loop-k.k 0) c.loop-k.states.items c.requires.below c.loop-k-test.true c.requires.few refl c.loop-k.invariant).1

pub loop-k-preserved : goal.loop-k-preserved
loop-k-preserved c =
    let fits : SFits w64 (get_or c.args.numbers.now c.loop-k.k (pos 0)) = search rules in
    next_stand c.args.aggregate.now c.args.to.now c.args.targets.now c.args.numbers.now c.loop-k.k (get_or c.args.targets.now c.loop-k.k 0) (get_or c.args.numbers.now c.loop-k.k (pos 0)) c.loop-k.states.items c.take_at.new.states.items
    c.requires.grid c.requires.below c.loop-k-test.true c.requires.each refl refl (simp to_z-of_z at c.take_at.ensures) c.loop-k.invariant

pub returns : goal.returns
returns c = all_stand c.args.aggregate.now c.args.to.now c.args.targets.now c.args.numbers.now c.loop-k.k c.loop-k.states.items c.from_vec.result c.loop-k-test.false c.from_vec.ensures c.loop-k.invariant
