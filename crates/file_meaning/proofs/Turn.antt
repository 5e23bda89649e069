-- Free pages in another order.
use Rattle.std.proofs.Common.{◌≢◌, ◌<◌, ℕ, zero, suc, List, [], ◌∷◌, ◌++◌, length, slice_index, sym, arith}
use Rattle.std.specs.List.{AllByRecursion}
use Rattle.page_chain.specs.Places.{IsNone}
use Rattle.page_file.specs.Pages.{AreDistinct}
use Rattle.file_meaning.proofs.Parts.{front_all, rest_all}
use Rattle.file_meaning.proofs.Apart.{both_all}
use Rattle.file_meaning.specs.NextLaws.{FreePagesTurn}
use Rattle.file_meaning.proofs.Free.{Differ, differ_by, by_index, weaker, pair_all}

at_index : (P : ℕ → Type 0) (pages : List ℕ) → AllByRecursion P pages → (k : ℕ) → k < length pages → P (slice_index pages k)
at_index P [] all k low = absurd (omega arith)
at_index P (p ∷ pages) all zero low = all.0
at_index P (p ∷ pages) all (suc k) low = at_index P pages all.1 k (omega arith)

distinct_by : (pages : List ℕ) → Differ pages → AreDistinct pages
distinct_by [] differ i j less low = absurd (omega arith)
distinct_by (p ∷ pages) differ zero zero less low = absurd (omega arith)
distinct_by (p ∷ pages) differ (suc i) zero less low = absurd (omega arith)
distinct_by (p ∷ pages) differ zero (suc j) less low = at_index (λ q. p ≢ q) pages differ.0 j (omega arith)
distinct_by (p ∷ pages) differ (suc i) (suc j) less low = distinct_by pages differ.1 i j (omega arith) (omega arith)

-- each of the one list differs from each of the other
abbrev Cross : List ℕ → List ℕ → Type 0
Cross xs ys = AllByRecursion (λ x. AllByRecursion (λ y. x ≢ y) ys) xs

differ_front : (xs ys : List ℕ) → Differ (xs ++ ys) → Differ xs
differ_front [] ys differ = tt
differ_front (x ∷ xs) ys differ = (front_all (λ q. x ≢ q) xs ys differ.0, differ_front xs ys differ.1)

differ_rest : (xs ys : List ℕ) → Differ (xs ++ ys) → Differ ys
differ_rest [] ys differ = differ
differ_rest (x ∷ xs) ys differ = differ_rest xs ys differ.1

differ_cross : (xs ys : List ℕ) → Differ (xs ++ ys) → Cross xs ys
differ_cross [] ys differ = tt
differ_cross (x ∷ xs) ys differ = (rest_all (λ q. x ≢ q) xs ys differ.0, differ_cross xs ys differ.1)

differ_join : (xs ys : List ℕ) → Differ xs → Differ ys → Cross xs ys → Differ (xs ++ ys)
differ_join [] ys a b cross = b
differ_join (x ∷ xs) ys a b cross = (both_all (λ q. x ≢ q) xs ys a.0 cross.0, differ_join xs ys a.1 b cross.1)

cross_none : (ys : List ℕ) → Cross ys []
cross_none [] = tt
cross_none (y ∷ ys) = (tt, cross_none ys)

cross_turn : (xs ys : List ℕ) → Cross xs ys → Cross ys xs
cross_turn [] ys cross = cross_none ys
cross_turn (x ∷ xs) ys cross =
    weaker (λ y. (x ≢ y) × AllByRecursion (λ z. y ≢ z) xs) (λ y. AllByRecursion (λ z. y ≢ z) (x ∷ xs)) (λ y both. ((λ same. both.0 (sym same)), both.1)) ys
    (pair_all (λ y. x ≢ y) (λ y. AllByRecursion (λ z. y ≢ z) xs) ys cross.0 (cross_turn xs ys cross.1))

all_turn : (P : ℕ → Type 0) (a b c : List ℕ) → ((k : ℕ) → k < length (a ++ (b ++ c)) → P (slice_index (a ++ (b ++ c)) k)) → (k : ℕ) → k < length (a ++ (c ++ b)) → P (slice_index (a ++ (c ++ b)) k)
all_turn P a b c each =
    let all = by_index P (a ++ (b ++ c)) each in
    let rest = rest_all P a (b ++ c) all in
    at_index P (a ++ (c ++ b)) (both_all P a (c ++ b) (front_all P a (b ++ c) all) (both_all P c b (rest_all P b c rest) (front_all P b c rest)))

differ_turn : (a b c : List ℕ) → Differ (a ++ (b ++ c)) → Differ (a ++ (c ++ b))
differ_turn a b c differ =
    let rest = differ_rest a (b ++ c) differ in
    differ_join a (c ++ b) (differ_front a (b ++ c) differ)
    (differ_join c b (differ_rest b c rest) (differ_front b c rest) (cross_turn b c (differ_cross b c rest)))
    (weaker (λ x. AllByRecursion (λ y. x ≢ y) (b ++ c)) (λ x. AllByRecursion (λ y. x ≢ y) (c ++ b))
    (λ x all. both_all (λ y. x ≢ y) c b (rest_all (λ y. x ≢ y) b c all) (front_all (λ y. x ≢ y) b c all)) a (differ_cross a (b ++ c) differ))

pub pages_turn : FreePagesTurn
pages_turn taken before front behind free = record {
  least = all_turn (λ p. 0 < p) before front behind free.least;
  most = all_turn (λ p. p < 4294967296) before front behind free.most;
  apart = all_turn (IsNone taken) before front behind free.apart;
  distinct = distinct_by (before ++ (behind ++ front)) (differ_turn before front behind (differ_by (before ++ (front ++ behind)) free.distinct));
}
