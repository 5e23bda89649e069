use Rattle.std.proofs.Common.{List, ◌≡◌, ◌≤◌, ◌∙◌, IfOk, take, ap, arith, subst, sym}
use Rattle.std.specs.Vec.Iter.{into_iter_items}
use Rattle.std.proofs.lemmas.List.{take_all}
use Rattle.group_rows.specs.declared.rows.groups.Groups.{Groups}
use Rattle.group_rows.specs.Counts.{cells_in, cells_in_all}
use Rattle.group_rows.specs.Grouped.{ArePartsOf}
use Rattle.group_rows.proofs.rows.united.merge_all.Goals as goal

pub returns-clause-cells : goal.returns-clause-cells
returns-clause-cells c =
    let all : take c.len-count.result (into_iter_items c.into_iter-parts.result) ≡ c.args.parts
    = ap (take c.len-count.result) (c.into_iter-parts.ensures.rest ∙ c.into_vec.ensures) ∙ take_all c.len-count.result c.args.parts
    (omega (arith, c.len-count.ensures)) in
    subst (λ (parts : List Groups). IfOk c.gather.result (λ all. cells_in all.groups ≤ cells_in_all parts)) all c.gather.ensures.cells

pub returns-clause-groups : goal.returns-clause-groups
returns-clause-groups c =
    λ gs sets parts apart.
    let all : take c.len-count.result (into_iter_items c.into_iter-parts.result) ≡ c.args.parts
    = ap (take c.len-count.result) (c.into_iter-parts.ensures.rest ∙ c.into_vec.ensures) ∙ take_all c.len-count.result c.args.parts
    (omega (arith, c.len-count.ensures)) in
    c.gather.ensures.groups gs sets (subst (ArePartsOf gs sets) (sym all) parts) apart
