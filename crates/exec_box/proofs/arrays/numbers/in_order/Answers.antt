use Rattle.std.proofs.Common.{◌≡◌, ℕ, List, sym, ◌∙◌, ap, subst}
use Rattle.std.specs.List.{dedup}
use Rattle.std.specs.List.Sorted.{IsPermutation}
use Rattle.std.proofs.lemmas.List.Filters.{dedup_is}
use Rattle.arrayvec.specs.ArrayVec.{ArrayVec}
use Rattle.array_geom.specs.Link.{NumbersRise, is_listed}
use Rattle.chunk_cells.specs.Inner.Numbers.{numbers_in}
use Rattle.chunk_cells.proofs.SortedLaws.{is_same, sorted_rises, sorted_listed}
use Rattle.exec_box.proofs.arrays.numbers.in_order.Goals as goal

pub returns-clause-in_order : goal.returns-clause-in_order
returns-clause-in_order c =
    let sorted = c.sort.new.self.items in
    let left : c.from_vec.result ≡ dedup is_same sorted = c.from_vec.ensures ∙ dedup_is is_same sorted c.dedup.new.self.items c.dedup.ensures.filtered in
    subst (λ (xs : List (ArrayVec ℕ)). NumbersRise (numbers_in xs)) (sym left) (sorted_rises sorted c.in_ok-sort.ensures.sorted)

pub returns-clause-listed : goal.returns-clause-listed
returns-clause-listed c =
    let sorted = c.sort.new.self.items in
    let left : c.from_vec.result ≡ dedup is_same sorted = c.from_vec.ensures ∙ dedup_is is_same sorted c.dedup.new.self.items c.dedup.ensures.filtered in
    let moved : IsPermutation c.args.found sorted = subst (λ (xs : List (ArrayVec ℕ)). IsPermutation xs sorted) c.into_vec-numbers.ensures c.sort.ensures.permutation in
    λ k. ap (λ (xs : List (ArrayVec ℕ)). is_listed k (numbers_in xs)) left ∙ sorted_listed k c.args.found sorted moved
