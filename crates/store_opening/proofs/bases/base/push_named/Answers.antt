use Rattle.std.proofs.Common.{◌≡◌, ◌∙◌, ◌++◌, ℕ, List, length, sym, ap, arith}
use Rattle.std.specs.Vec.Iter.{into_iter_items}
use Rattle.array_rows.specs.Boxes.{by_pairs}
use Rattle.store_opening.specs.Bases.{pages_named}
use Rattle.store_opening.proofs.PairLaws.{named_end, nothing_left}
use Rattle.store_opening.proofs.bases.base.push_named.Goals as goal

pub loop-pages-preserved : goal.loop-pages-preserved
loop-pages-preserved c =
    let l = c.loop-pages in
    c.in_ok-left.ensures (into_iter_items c.next.new.self)
    ∙ sym (ap (λ (ys : List (List ℕ)). l.versions ++ by_pairs (pages_named c.args.name.now) l.left.now ys) c.in-Some.ensures.steps.0)
    ∙ l.invariant

pub returns : goal.returns
returns c =
    let left = c.loop-pages.pages-iterator in
    let empty : length (into_iter_items left) ≡ 0 = omega (arith, left.rest.ok.0, c.in-None.ensures.steps.0) in
    named_end (pages_named c.args.name.now) _ _ _ _ _ _ _ (nothing_left _ empty) c.loop-pages.invariant
    (c.into_iter-pages-iterator.ensures.into_iter_gives.0 ∙ c.into_vec-pages-items.ensures)
