use Rattle.std.proofs.Common.{◌∙◌}
use Rattle.store_versions.specs.Rows.{ended, is_row_below}
use Rattle.store_versions.proofs.Ends.{all_changed}
use Rattle.store_versions.proofs.table.VersionTable.removed_below.Goals as goal

pub returns : goal.returns
returns c =
    all_changed (ended (is_row_below c.args.name.now c.args.below) c.args.place) c.into_vec-items.result.len c.as_mut_slice.result.now c.end_below.new.rows _
    c.args.self.now.rows c.from_vec.result c.from_vec.ensures c.end_below.ensures c.as_mut_slice.ensures.len
    (c.as_mut_slice.ensures.value ∙ c.into_vec-items.ensures ∙ c.take.ensures.items)
