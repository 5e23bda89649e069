use Rattle.std.proofs.Common.{◌≡◌, ℕ, true, ◌||◌, List, [], ◌∷◌, length, drop, sym, ◌∙◌, subst}
use Rattle.arrayvec.specs.ArrayVec.{ArrayVec}
use Rattle.std.specs.List.{AllByRecursion}
use Rattle.std.specs.Ordering.{is_eq}
use Rattle.array_geom.specs.Geometry.{ChunkNumber}
use Rattle.array_geom.specs.Link.{is_listed, number_order}
use Rattle.chunk_cells.specs.Inner.Numbers.{numbers_in, starts_with}
use Rattle.chunk_cells.proofs.NumberLaws.{all_append, listed_again, listed_end}
use Rattle.chunk_cells.proofs.assembly.numbers.push_other.Goals as goal

pub returns-then-stands_at-clause-listed : goal.returns-then-stands_at-clause-listed
returns-then-stands_at-clause-listed c =
    let n = c.args.number in
    let last = c.saturating_sub-last.result in
    let there : starts_with n.items (drop last c.args.found.now) ≡ true = subst (λ (xs : List (ArrayVec ℕ)). starts_with n.items (drop last xs) ≡ true) c.as_slice.ensures (sym c.stands_at.ensures ∙ c.if-stands_at.true) in
    λ k. listed_again k n last c.args.found.now there

pub returns-clause-sized : goal.returns-clause-sized
returns-clause-sized c = λ count one all. subst (λ (zs : List (ArrayVec ℕ)). AllByRecursion (λ (k : ChunkNumber). length k ≡ count) (numbers_in zs)) (sym c.in_ok-push.ensures.ok) (all_append (λ (k : ChunkNumber). length k ≡ count) c.args.found.now (c.args.number ∷ []) all (one, tt))

pub returns-clause-listed : goal.returns-clause-listed
returns-clause-listed c = λ k. subst (λ (zs : List (ArrayVec ℕ)). is_listed k (numbers_in zs) ≡ (is_eq (number_order c.args.number.items k) || is_listed k (numbers_in c.args.found.now))) (sym c.in_ok-push.ensures.ok) (listed_end k c.args.number c.args.found.now)
