use Rattle.std.proofs.Common.{◌≡◌, ◌++◌}
use Rattle.std.specs.Vec.Iter.{into_iter_items}
use Rattle.array_rows.specs.Boxes.{by_pairs}
use Rattle.store_opening.specs.Bases.{pages_named}
use Rattle.store_opening.proofs.bases.base.push_named.Given as goal

abbrev pub invariant-loop-pages : goal.invariant-loop-pages
invariant-loop-pages l =
    l.versions ++ by_pairs (pages_named l.name) l.left (into_iter_items l.pages-iterator)
    ≡ l.fn.versions ++ by_pairs (pages_named l.name) l.numbers (into_iter_items l.initial.pages-iterator)
