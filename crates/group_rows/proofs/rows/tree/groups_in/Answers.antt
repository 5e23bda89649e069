use Rattle.std.proofs.Common.{map, length}
use Rattle.group_rows.specs.Taken.{group_of}
use Rattle.group_rows.proofs.TakenLaws.{groups_made, cells_made, made_all, made_more, none_left}
use Rattle.group_rows.proofs.rows.tree.groups_in.Goals as goal

pub returns-clause-groups : goal.returns-clause-groups
returns-clause-groups c = λ gs sets h.
    let none = none_left c.pop_first.result (length c.moving.groups.entries) c.in_default.not-Some c.pop_first.ensures.variant.1 in
    groups_made gs sets c.args.groups c.moving.made c.len.ensures.ordered (made_all c.moving.made (map group_of c.args.groups.entries) c.moving.groups.entries c.moving.invariant none) h

pub returns-clause-cells : goal.returns-clause-cells
returns-clause-cells c =
    let none = none_left c.pop_first.result (length c.moving.groups.entries) c.in_default.not-Some c.pop_first.ensures.variant.1 in
    cells_made c.args.groups c.moving.made (made_all c.moving.made (map group_of c.args.groups.entries) c.moving.groups.entries c.moving.invariant none)

pub moving-preserved : goal.moving-preserved
moving-preserved c =
    made_more c.moving.made c.push.new.self (map group_of c.args.groups.entries) c.moving.groups.entries c.pop_first.new.self.entries c.in-Some.at
    c.in-Some.states c.moving.invariant c.in-Some.ensures.removal c.in_ok-push.ensures.ok
