use Rattle.std.proofs.Common.{◌≡◌, ◌∙◌, [], get_or, sym}
use Rattle.std.specs.Vec.Iter.{into_iter_items, into_iter_len}
use Rattle.store_versions.proofs.Ends.{array_end, array_more, array_past, none_below, nothing_left, one_less, some_first}
use Rattle.store_versions.proofs.first.push_array.Goals as goal

pub returns : goal.returns
returns c =
    let none = c.in-None.ensures.steps in
    let empty : into_iter_items c.loop-directory.directory-iterator ≡ [] = nothing_left _ (sym c.loop-directory.invariant.count ∙ none.0) in
    array_end _ _ _ _ _ _ _ _ empty c.loop-directory.invariant.rows
    (c.into_iter-directory-iterator.ensures.into_iter_gives.0 ∙ c.into_vec-directory-items.ensures)

pub loop-directory-preserved : goal.loop-directory-preserved
loop-directory-preserved c =
    let l = c.loop-directory in
    let items = into_iter_items l.directory-iterator in
    let more = into_iter_items c.next.new.self in
    let is = c.in-Some.ensures.steps.0 in
    record {
      rows = array_more c.args.rows.now l.rows c.push_first.new.rows c.args.entry.now.name c.args.entry.now.versions c.in-Some.directory items more _ is
          l.left.now _ (get_or l.left.now 0 0)
          (some_first l.left.now 0 c.in-len1-up.len_at_least) c.in_ok-push_first.ensures l.invariant.rows;
      count = one_less (into_iter_len l.directory-iterator) (into_iter_len c.next.new.self) c.in-Some.directory items more l.invariant.count is
          c.in-Some.ensures.steps.1;
    }

pub loop-directory-preserved-then-left-lt1 : goal.loop-directory-preserved-then-left-lt1
loop-directory-preserved-then-left-lt1 c =
    let l = c.loop-directory in
    let items = into_iter_items l.directory-iterator in
    let more = into_iter_items c.next.new.self in
    let is = c.in-Some.ensures.steps.0 in
    record {
      rows = array_past c.args.rows.now l.rows c.args.entry.now.name c.args.entry.now.versions l.left.now items more _
          (none_below l.left.now c.in_default.len_below) l.invariant.rows;
      count = one_less (into_iter_len l.directory-iterator) (into_iter_len c.next.new.self) c.in-Some.directory items more l.invariant.count is
          c.in-Some.ensures.steps.1;
    }
