use Rattle.std.proofs.Common.{◌∙◌}
use Rattle.version_catalog.proofs.Maps.{without_first_is}
use Rattle.version_catalog.proofs.changing.arrays.without_first.Goals as goal

pub returns : goal.returns
returns c =
    let items = c.into_vec-items.result in
    without_first_is c.args.directories items.items c.rotate_left.new.self.items c.truncate.new.self.items c.from_vec.result c.args.count c.len.result c.min-gone.result c.len-2.result
    c.into_vec-items.ensures (c.len.ensures ∙ items.ok.0) c.min-gone.ensures (c.len-2.ensures ∙ items.ok.0) c.rotate_left.ensures.items c.truncate.ensures.items c.from_vec.ensures
