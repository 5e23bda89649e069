-- Entries of rising numbers, found by halves.
use Rattle.std.proofs.Common.{◌≡◌, ◌∙◌, ℕ, zero, suc, ◌+◌, ◌<◌, false, List, [], ◌∷◌, length, take, drop, get_or, Some, None, refl, sym, ap, subst, arith, add-one}
use Rattle.std.specs.List.{AllByRecursion, find}
use Rattle.std.specs.Cmp.{IsTotalOrder}
use Rattle.std.specs.Ordering.{is_eq}
use Rattle.std.specs.declared.cmp.Ordering.{Ordering}
use Rattle.std.specs.declared.cmp.Ordering.TheVariants.{Less, Equal, Greater}
use Rattle.std.proofs.lemmas.Cmp.{lists_total, nat_cmp_total}
use Rattle.array_geom.specs.Geometry.{ChunkNumber}
use Rattle.array_geom.specs.Link.{number_order}
use Rattle.array_geom.proofs.NumberLaws.{same_number}
use Rattle.chunk_map.specs.declared.directory.DirEntry.{DirEntry}
use Rattle.chunk_map.specs.Entries.{AreRising, numbers}

number_order_total : IsTotalOrder number_order
number_order_total = lists_total nat_cmp_total

-- not the entry of the chunk
abbrev pub IsOther : ChunkNumber → DirEntry → Type 0
IsOther k entry = is_eq (number_order entry.at.items k) ≡ false

abbrev pub AreOthers : ChunkNumber → List DirEntry → Type 0
AreOthers k = AllByRecursion (IsOther k)

-- what holds of each number holds of that of the entry at a place
number_at : (P : ChunkNumber → Type 0) (es : List DirEntry) (i : ℕ) (e : DirEntry) → AllByRecursion P (numbers es) → i < length es → e ≡ get_or es i e → P e.at.items
number_at P [] i e all low is = absurd (omega (arith, low))
number_at P (x ∷ es) zero e all low is = subst (λ (y : DirEntry). P y.at.items) (sym is) all.0
number_at P (x ∷ es) (suc i) e all low is = number_at P es i e all.1 (omega (arith, low)) is

other : (x k : ChunkNumber) → number_order x k ≡ Less → is_eq (number_order x k) ≡ false
other x k e = ap is_eq e

up_to : (es : List DirEntry) (i : ℕ) (e : DirEntry) (k : ChunkNumber) → AreRising es → i < length es → e ≡ get_or es i e → number_order e.at.items k ≡ Less → AreOthers k (take (suc i) es)
up_to [] i e k rise low is less = absurd (omega (arith, low))
up_to (x ∷ es) zero e k rise low is less = (other x.at.items k (ap (λ (y : DirEntry). number_order y.at.items k) (sym is) ∙ less), tt)
up_to (x ∷ es) (suc i) e k rise low is less = (
  other x.at.items k (number_order_total.trans x.at.items e.at.items k (number_at (λ (later : ChunkNumber). number_order x.at.items later ≡ Less) es i e rise.0 (omega (arith, low)) is) less),
  up_to es i e k rise.1 (omega (arith, low)) is less,
)

pub others_up_to : (es : List DirEntry) (i : ℕ) (e : DirEntry) (k : ChunkNumber) → AreRising es → i < length es → e ≡ get_or es i e → number_order e.at.items k ≡ Less → AreOthers k (take (i + 1) es)
others_up_to es i e k rise low is less = rw add-one (up_to es i e k rise low is less)

-- a number behind a greater one is another
not_later : (x y k : ChunkNumber) → number_order x k ≡ Greater → number_order x y ≡ Less → is_eq (number_order y k) ≡ false
not_later x y k greater less = cases (number_order y k) refl
  where
    cases : (t : Ordering) → number_order y k ≡ t → is_eq t ≡ false
    cases Less e = refl
    cases Greater e = refl
    cases Equal e =
        let same : y ≡ k = same_number y k e in
        let both : Less ≡ Greater = sym less ∙ ap (number_order x) same ∙ greater in absurd cc

none_later : (x k : ChunkNumber) (es : List DirEntry) → number_order x k ≡ Greater → AllByRecursion (λ later. number_order x later ≡ Less) (numbers es) → AreOthers k es
none_later x k [] greater less = tt
none_later x k (y ∷ es) greater less = (not_later x y.at.items k greater less.0, none_later x k es greater less.1)

pub others_from : (es : List DirEntry) (i : ℕ) (e : DirEntry) (k : ChunkNumber) → AreRising es → i < length es → e ≡ get_or es i e → number_order e.at.items k ≡ Greater → AreOthers k (drop i es)
others_from [] i e k rise low is greater = absurd (omega (arith, low))
others_from (x ∷ es) zero e k rise low is greater =
    let here : number_order x.at.items k ≡ Greater = ap (λ (y : DirEntry). number_order y.at.items k) (sym is) ∙ greater in
    (ap is_eq here, none_later x.at.items k es here rise.0)
others_from (x ∷ es) (suc i) e k rise low is greater = others_from es i e k rise.1 (omega (arith, low)) is greater

pub none_found : (k : ChunkNumber) (es : List DirEntry) (i : ℕ) → AreOthers k (take i es) → AreOthers k (drop i es) → find (λ entry. is_eq (number_order entry.at.items k)) es ≡ None
none_found k [] i before from = refl
none_found k (x ∷ es) zero before from = rw (from.0, none_found k es zero tt from.1) refl
none_found k (x ∷ es) (suc i) before from = rw (before.0, none_found k es i before.1 from) refl

pub none_at : (k : ChunkNumber) (es : List DirEntry) (start end : ℕ) → start ≡ end → AreOthers k (take start es) → AreOthers k (drop end es) → find (λ entry. is_eq (number_order entry.at.items k)) es ≡ None
none_at k es start end same before from = none_found k es start before (subst (λ (i : ℕ). AreOthers k (drop i es)) (sym same) from)

pub found_here : (es : List DirEntry) (i : ℕ) (e : DirEntry) (k : ChunkNumber) → AreRising es → i < length es → e ≡ get_or es i e → number_order e.at.items k ≡ Equal → find (λ entry. is_eq (number_order entry.at.items k)) es ≡ Some e
found_here [] i e k rise low is equal = absurd (omega (arith, low))
found_here (x ∷ es) zero e k rise low is equal =
    let here : number_order x.at.items k ≡ Equal = ap (λ (y : DirEntry). number_order y.at.items k) (sym is) ∙ equal in
    rw here (ap (λ (y : DirEntry). Some y) (sym is))
found_here (x ∷ es) (suc i) e k rise low is equal =
    let less : number_order x.at.items k ≡ Less =
    ap (number_order x.at.items) (sym (same_number e.at.items k equal)) ∙ number_at (λ (later : ChunkNumber). number_order x.at.items later ≡ Less) es i e rise.0 (omega (arith, low)) is in
    rw less (found_here es i e k rise.1 (omega (arith, low)) is equal)
