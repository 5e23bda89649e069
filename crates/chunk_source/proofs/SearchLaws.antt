-- A search among chunks by their rising numbers.
use Rattle.std.proofs.Common.{◌≡◌, ℕ, zero, suc, ◌+◌, ◌<◌, ◌≤◌, ⊎_elim, Bool, true, false, ◌||◌, List, [], ◌∷◌, map, length, get_or, refl, sym, ap, ◌∙◌, subst, arith, add-one}
use Rattle.std.proofs.lemmas.Bool.{cases_lt}
use Rattle.std.proofs.lemmas.Cmp.{lists_total, nat_cmp_total}
use Rattle.std.proofs.lemmas.List.Sorted.{searchable_from_sorted}
use Rattle.std.specs.List.{AllByRecursion, Contains}
use Rattle.std.specs.List.Sorted.{IsSortedBy, IsNonDecreasingBy, IsPartitionPoint}
use Rattle.std.specs.Ordering.{is_eq, is_lt, ordering_index, ordering_reverse}
use Rattle.std.specs.declared.cmp.Ordering.{Ordering}
use Rattle.std.specs.declared.cmp.Ordering.TheVariants.{Less, Equal, Greater}
use Rattle.arrayvec.specs.ArrayVec.{ArrayVec}
use Rattle.array_geom.specs.declared.chunk.Chunk.{Chunk}
use Rattle.array_geom.specs.Geometry.{ChunkNumber}
use Rattle.array_geom.specs.Link.{number_order, NumbersRise, numbers, is_listed}
use Rattle.array_geom.proofs.NumberLaws.{is_equal, same_number}

at_place : {A : Type 0} (P : A → Type 0) (xs : List A) (k : ℕ) (d : A) → AllByRecursion P xs → k < length xs → P (get_or xs k d)
at_place P [] k d a lt = absurd (omega arith)
at_place P (x ∷ xs) zero d a lt = a.0
at_place P (x ∷ xs) (suc k) d a lt = at_place P xs k d a.1 (omega arith)

-- what holds of each holds of one among them
pub of_each : {A : Type 0} (P : A → Type 0) (xs : List A) (x : A) → AllByRecursion P xs → Contains xs x → P x
of_each P xs x a (k, lt, is) = subst P is (at_place P xs k x a lt)

not_less : (t : Ordering) → ordering_reverse t ≡ Less → is_lt t ≡ false
not_less Less e = absurd (let f : Greater ≡ Less = e in cc)
not_less Equal e = refl
not_less Greater e = refl

not_before : (a b : ChunkNumber) → number_order a b ≡ Less → is_lt (number_order b a) ≡ false
not_before a b e = not_less (number_order b a) (sym ((lists_total nat_cmp_total).antisymm a b) ∙ e)

next_rises : (chunks : List Chunk) (k : ℕ) (d : Chunk) → NumbersRise (numbers chunks) → suc k < length chunks → is_lt (number_order (get_or chunks (suc k) d).at.items (get_or chunks k d).at.items) ≡ false
next_rises [] k d r lt = absurd (omega arith)
next_rises (a ∷ []) k d r lt = absurd (omega arith)
next_rises (a ∷ b ∷ chunks) zero d r lt = not_before a.at.items b.at.items r.0.0
next_rises (a ∷ b ∷ chunks) (suc k) d r lt = next_rises (b ∷ chunks) k d r.1 (omega arith)

numbers_sorted : (chunks : List Chunk) → NumbersRise (numbers chunks) → IsSortedBy (λ a b. is_lt (number_order a.at.items b.at.items)) chunks
numbers_sorted chunks r k d low high = rw add-one (next_rises chunks k d r (omega arith))

record IsPlace (chunks : List Chunk) (at : ChunkNumber) (d : Chunk) : Type 0 where
  place : ℕ
  inside : place < length chunks
  equal : number_order (get_or chunks place d).at.items at ≡ Equal

listed_place : (chunks : List Chunk) (at : ChunkNumber) (d : Chunk) → is_listed at (numbers chunks) ≡ true → IsPlace chunks at d
listed_place [] at d e = absurd cc
listed_place (chunk ∷ chunks) at d e = cases (is_eq (number_order chunk.at.items at)) refl e (listed_place chunks at d)
  where
    next : IsPlace chunks at d → IsPlace (chunk ∷ chunks) at d
    next p = record { place = suc p.place; inside = omega (arith, p.inside); equal = p.equal }

    cases : (t : Bool) → is_eq (number_order chunk.at.items at) ≡ t → (t || is_listed at (numbers chunks)) ≡ true → (is_listed at (numbers chunks) ≡ true → IsPlace chunks at d) → IsPlace (chunk ∷ chunks) at d
    cases true f e rest = record { place = zero; inside = omega arith; equal = is_equal (number_order chunk.at.items at) f }
    cases false f e rest = next (rest e)

abbrev no_chunk : Chunk
no_chunk = record { at = record { items = [] }; positions = []; cells = [] }

less_is_not_equal : Less ≡ Equal → ⊥
less_is_not_equal e = cc

greater_is_not_equal : Greater ≡ Equal → ⊥
greater_is_not_equal e = cc

-- a listed number is found
pub is_found : (chunks : List Chunk) (at : ChunkNumber) (i : ℕ) → NumbersRise (numbers chunks) → is_listed at (numbers chunks) ≡ true
    → (IsNonDecreasingBy (λ (chunk : Chunk). ordering_index (number_order chunk.at.items at)) chunks
    → IsPartitionPoint (λ (chunk : Chunk). number_order chunk.at.items at ≡ Less) (λ chunk. number_order chunk.at.items at ≡ Greater) chunks i) → ⊥
is_found chunks at i r e point =
    let parts = point (searchable_from_sorted (lists_total nat_cmp_total) (λ (chunk : Chunk). chunk.at.items) chunks at (numbers_sorted chunks r)) in
    let p = listed_place chunks at no_chunk e in
    ⊎_elim
    (λ below. less_is_not_equal (sym (parts.0 p.place no_chunk (omega arith) below) ∙ p.equal))
    (λ above. greater_is_not_equal (sym (parts.1 p.place no_chunk above p.inside) ∙ p.equal))
    (cases_lt p.place i)

-- numbers that compare alike are one
pub same_at : (a b : ArrayVec ℕ) → number_order a.items b.items ≡ Equal → a ≡ b
same_at a b e = ap (λ xs. record { items = xs }) (same_number a.items b.items e)
