use Rattle.std.proofs.Common.{sym}
use Rattle.order_exec.proofs.GroupPlaceLaws.{has_group}
use Rattle.order_exec.proofs.group_places.place_of_group.Goals as goal

pub returns : goal.returns
returns c =
    has_group c.args.to.now.dims.now c.args.to.now.bounds.now c.args.to.now.grid.now c.args.at.now.items c.key_at-key.result.items c.position.result c.requires c.key_at-key.ensures (sym c.if-not-is_in_box.ensures)
    c.position.ensures.value c.position.ensures.below
