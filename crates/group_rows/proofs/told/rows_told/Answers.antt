use Rattle.std.proofs.Common.{List, ◌∙◌, subst}
use Rattle.std.specs.List.{AllZip}
use Rattle.group_rows.specs.declared.rows.groups.Group.{Group}
use Rattle.group_rows.specs.Told.{IsRowOf}
use Rattle.group_rows.proofs.ToldLaws.{first_way, next_way, none_left, last_way}
use Rattle.group_rows.proofs.told.rows_told.Goals as goal

pub loop-group-init : goal.loop-group-init
loop-group-init c = first_way c.from_vec-groups.result.items c.another-rows.result c.another-rows.ensures

pub loop-group-preserved : goal.loop-group-preserved
loop-group-preserved c =
    next_way c.from_vec-groups.result.items c.loop-group.groups.items c.pop_front.new.self.items c.loop-group.rows c.push.new.self c.in-Some.group c.in_ok-row_told.field-0 c.loop-group.invariant c.in-Some.ensures.items c.in_ok-push.ensures.ok c.in_ok-row_told.ensures

pub returns : goal.returns
returns c =
    subst (λ (groups : List Group). AllZip IsRowOf groups c.loop-group.rows) (c.from_vec-groups.ensures.items ∙ c.into_vec.ensures)
    (last_way c.from_vec-groups.result.items c.loop-group.groups.items c.loop-group.rows c.loop-group.invariant (none_left c.loop-group.groups.items c.pop_front.new.self.items c.in_default.ensures.items c.in_default.ensures.rest))
