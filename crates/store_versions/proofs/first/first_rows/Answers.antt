use Rattle.std.proofs.Common.{◌≡◌, ◌∙◌, [], sym}
use Rattle.std.specs.Vec.Iter.{into_iter_items, into_iter_len}
use Rattle.store_versions.proofs.Ends.{first_end, first_more, first_past, none_below, nothing_left, one_less, some_item}
use Rattle.store_versions.proofs.first.first_rows.Goals as goal

pub returns : goal.returns
returns c =
    let none = c.in-None.ensures.steps in
    let empty : into_iter_items c.loop-row.row-iterator ≡ [] = nothing_left _ (sym c.loop-row.invariant.count ∙ none.0) in
    first_end _ _ _ _ _ _ empty c.loop-row.invariant.rows
    (c.into_iter-row-iterator.ensures.into_iter_gives.0 ∙ c.into_vec-row-items.ensures)

pub loop-row-preserved : goal.loop-row-preserved
loop-row-preserved c =
    let l = c.loop-row in
    let items = into_iter_items l.row-iterator in
    let more = into_iter_items c.next.new.self in
    let is = c.in-Some.ensures.steps.0 in
    record {
      rows = first_more l.rows c.push_array.new.rows _ l.left.now _ c.entry-item.result c.in-Some.row items more
          (some_item l.left.now c.entry-item.result c.in-len1-up.len_at_least c.entry-item.is) is c.in_ok-push_array.ensures l.invariant.rows;
      count = one_less (into_iter_len l.row-iterator) (into_iter_len c.next.new.self) c.in-Some.row items more l.invariant.count is c.in-Some.ensures.steps.1;
    }

pub loop-row-preserved-then-left-lt1 : goal.loop-row-preserved-then-left-lt1
loop-row-preserved-then-left-lt1 c =
    let l = c.loop-row in
    let items = into_iter_items l.row-iterator in
    let more = into_iter_items c.next.new.self in
    let is = c.in-Some.ensures.steps.0 in
    record {
      rows = first_past l.rows _ l.left.now items more (none_below l.left.now c.in_default.len_below) l.invariant.rows;
      count = one_less (into_iter_len l.row-iterator) (into_iter_len c.next.new.self) c.in-Some.row items more l.invariant.count is c.in-Some.ensures.steps.1;
    }
