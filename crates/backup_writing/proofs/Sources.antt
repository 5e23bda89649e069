-- Each of the numbers that a source lists is among them.
use Rattle.std.proofs.Common.{◌≡◌, ◌∙◌, ℕ, Bool, true, false, cond, ◌||◌, List, [], ◌∷◌, refl, sym, ap, subst}
use Rattle.std.specs.Prelude.{IsTrue}
use Rattle.std.specs.List.{AllByRecursion, filter}
use Rattle.arrayvec.specs.ArrayVec.{ArrayVec}
use Rattle.std.specs.Ordering.{is_eq}
use Rattle.array_geom.specs.Link.{number_order}
use Rattle.logical_plan.specs.declared.parts.Leaf.{Leaf}
use Rattle.chunk_source.specs.Source.{SourceState, Keeps, is_among, listed, numbers_of, version_chunks}
use Rattle.backup_format.proofs.RisingNumbers.{first_listed}

or_later : (a b : Bool) → b ≡ true → (a || b) ≡ true
or_later true b is = refl
or_later false b is = is

among_more : (c : ArrayVec ℕ) (cs xs : List (ArrayVec ℕ)) → AllByRecursion (λ at. IsTrue (is_among at cs)) xs → AllByRecursion (λ at. IsTrue (is_among at (c ∷ cs))) xs
among_more c cs [] all = tt
among_more c cs (x ∷ xs) all = (or_later (is_eq (number_order c.items x.items)) (is_among x cs) all.0, among_more c cs xs all.1)

pub all_among : (keeps : ArrayVec ℕ → Bool) (chunks : List (ArrayVec ℕ)) → AllByRecursion (λ at. IsTrue (is_among at chunks)) (filter keeps chunks)
all_among keeps [] = tt
all_among keeps (c ∷ cs) = by_test (keeps c) (among_more c cs (filter keeps cs) (all_among keeps cs))
  where
    by_test : (b : Bool) → AllByRecursion (λ at. IsTrue (is_among at (c ∷ cs))) (filter keeps cs) → AllByRecursion (λ at. IsTrue (is_among at (c ∷ cs))) (cond b (c ∷ filter keeps cs) (filter keeps cs))
    by_test true later = (first_listed c.items (numbers_of cs), later)
    by_test false later = later

pub numbers_among : (a b : SourceState) (leaf : Leaf) (chunks : List (ArrayVec ℕ)) (keeps : ArrayVec ℕ → Bool) → Keeps a b → chunks ≡ listed a leaf → AllByRecursion (λ at. IsTrue (is_among at (listed b leaf))) (filter keeps chunks)
numbers_among a b leaf chunks keeps kept is =
    let same : chunks ≡ listed b leaf = is ∙ ap (λ (f : List ℕ → ℕ → List (ArrayVec ℕ)). version_chunks f leaf.name leaf.version) (sym kept.chunks) in
    subst (λ (cs : List (ArrayVec ℕ)). AllByRecursion (λ at. IsTrue (is_among at cs)) (filter keeps chunks)) same (all_among keeps chunks)
