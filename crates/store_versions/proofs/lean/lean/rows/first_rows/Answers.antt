use Rattle.std.proofs.Common.{◌∙◌, sym}
use Rattle.std.specs.Vec.Iter.{into_iter_items, into_iter_len}
use Rattle.store_versions.specs.LeanRows.{first_row}
use Rattle.store_versions.proofs.Ends.{map_end, nothing_left, one_less, one_more}
use Rattle.store_versions.proofs.lean.lean.rows.first_rows.Goals as goal

pub loop-version-preserved : goal.loop-version-preserved
loop-version-preserved c =
    let l = c.loop-version in
    let items = into_iter_items l.version-iterator in
    let more = into_iter_items c.next.new.self in
    record {
      rows = one_more first_row l.rows.items c.push.new.self.items c.in-Some.version items more _ c.in-Some.ensures.steps.0 c.in_ok-push.ensures.items
          l.invariant.rows;
      count = one_less (into_iter_len l.version-iterator) (into_iter_len c.next.new.self) c.in-Some.version items more l.invariant.count
          c.in-Some.ensures.steps.0 c.in-Some.ensures.steps.1;
    }

pub returns : goal.returns
returns c =
    let l = c.loop-version in
    let items = into_iter_items l.version-iterator in
    map_end first_row l.rows.items items _ c.args.versions (nothing_left items (sym l.invariant.count ∙ c.in-None.ensures.steps.0)) l.invariant.rows
    (c.into_iter-version-iterator.ensures.into_iter_gives.0 ∙ c.into_vec-version-items.ensures)
