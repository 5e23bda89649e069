use Rattle.std.proofs.Common.{take_all, ◌∙◌}
use Rattle.cell_values.proofs.list.List.copy.Goals as goal

pub returns : goal.returns
returns g c =
    let items = c.as_slice-item-items.result.now in
    c.loop-item.invariant ∙ take_all c.loop-item.item-index items c.loop-item-test.false ∙ c.as_slice-item-items.ensures
