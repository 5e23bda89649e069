use Rattle.group_rows.proofs.MergeLaws.{both_move, cells_united, both_fewer, room_of_firsts}
use Rattle.group_rows.proofs.rows.merging.move_both.Goals as goal

pub returns-in_ok-push-clause-moved : goal.returns-in_ok-push-clause-moved
returns-in_ok-push-clause-moved c =
    both_move c.args.merged.now c.push.new.self c.args.left.now.items c.args.right.now.items c.pop_front.new.self.items c.pop_front-in-Some.new.self.items c.in-Some.group c.in-Some-pop_front.other c.in_ok-merge_group.field-0
    c.in-Some.ensures.items c.in-Some-pop_front.ensures.items c.requires.same c.in_ok-merge_group.ensures.at c.in_ok-merge_group.ensures.states c.in_ok-push.ensures.ok

pub returns-in_ok-push-clause-cells : goal.returns-in_ok-push-clause-cells
returns-in_ok-push-clause-cells c =
    cells_united c.args.merged.now c.push.new.self c.args.left.now.items c.args.right.now.items c.pop_front.new.self.items c.pop_front-in-Some.new.self.items c.in-Some.group c.in-Some-pop_front.other c.in_ok-merge_group.field-0
    c.in-Some.ensures.items c.in-Some-pop_front.ensures.items c.in_ok-push.ensures.ok c.in_ok-merge_group.ensures.cells

pub merge_group-requires : goal.merge_group-requires
merge_group-requires c = record { room = room_of_firsts c.args.left.now.items c.args.right.now.items _ _ c.in-Some.group c.in-Some-pop_front.other c.in-Some.ensures.items c.in-Some-pop_front.ensures.items c.requires.room }

pub returns-in_ok-push-clause-fewer : goal.returns-in_ok-push-clause-fewer
returns-in_ok-push-clause-fewer c = both_fewer c.args.left.now.items c.args.right.now.items _ _ c.in-Some.group c.in-Some-pop_front.other c.in-Some.ensures.items c.in-Some-pop_front.ensures.items
