-- Counted coordinates and their bounds, as functions read lists from the front.
use Rattle.std.proofs.Common.{◌≡◌, ◌∙◌, ◌⊎◌, inl, inr, Bool, true, false, ℕ, ◌≤◌, ◌<◌, ℤ, pos, ◌+ℤ◌, List, [], ◌∷◌, ◌++◌, append_assoc, map, length, get_or, refl, rules, sym, ap, arith}
use Rattle.std.specs.Prelude.{int_le, ◌&&◌, ◌==◌}
use Rattle.array_rows.specs.Boxes.{is_between}
use Rattle.array_geom.proofs.Fronts.{rest, rest_is}
use Rattle.logical_plan.specs.Redimension.{counted_up}
use Rattle.redimension_exec.specs.declared.places.places.Place.{Place}
use Rattle.redimension_exec.specs.declared.places.places.Place.TheVariants.{OfDimension, OfAttribute, Counted}
use Rattle.redimension_exec.specs.Inner.Counting.{uncounted}
use Rattle.redimension_exec.specs.Inner.Places.{origin}

-- ---- numbers but the synthetic ones

pub kept_alone : (places : List Place) (at old more new : List ℤ) (z : ℤ) → 1 ≤ length at → length places < 1 → more ≡ old ++ z ∷ []
    → new ≡ more ++ uncounted (map origin places) (rest at) → z ≡ get_or at 0 (pos 0) → new ≡ old ++ uncounted (map origin places) at
kept_alone places [] old more new z some _ _ _ _ = absurd (omega (arith, some))
kept_alone (p ∷ places) (x ∷ at) old more new z _ none _ _ _ = absurd (omega (arith, none))
kept_alone [] (x ∷ at) old more new z _ _ pushed after is =
    after ∙ ap (λ (c : List ℤ). more ++ c) (rest_is x at) ∙ ap (λ (l : List ℤ). l ++ at) pushed ∙ append_assoc old (z ∷ []) at
    ∙ ap (λ (y : ℤ). old ++ y ∷ at) is

-- ---- numbers that are raised where they are synthetic

abbrev pub raised : Place → ℕ → ℤ → ℤ
raised (Counted lo) n x = x +ℤ pos n
raised (OfDimension k) n x = x
raised (OfAttribute k) n x = x

pub plain : (p : Place) (n : ℕ) (x : ℤ) → ((k : ℕ) × (p ≡ OfDimension k)) ⊎ ((k : ℕ) × (p ≡ OfAttribute k)) → x ≡ raised p n x
plain p n x (inl h) = sym (ap (λ (q : Place). raised q n x) h.1)
plain p n x (inr h) = sym (ap (λ (q : Place). raised q n x) h.1)

up_first : (p : Place) (places : List Place) (n : ℕ) (x : ℤ) (at : List ℤ)
    → counted_up (map origin (p ∷ places)) n (x ∷ at) ≡ raised p n x ∷ counted_up (map origin places) n at
up_first (Counted lo) places n x at = refl
up_first (OfDimension k) places n x at = refl
up_first (OfAttribute k) places n x at = refl

pub up_pushed : (places : List Place) (d : Place) (n : ℕ) (at old more new : List ℤ) (z : ℤ) → 1 ≤ length places → 1 ≤ length at
    → z ≡ raised (get_or places 0 d) n (get_or at 0 (pos 0)) → more ≡ old ++ z ∷ [] → new ≡ more ++ counted_up (map origin (rest places)) n (rest at)
    → new ≡ old ++ counted_up (map origin places) n at
up_pushed [] d n at old more new z some _ _ _ _ = absurd (omega (arith, some))
up_pushed (q ∷ places) d n [] old more new z _ some _ _ _ = absurd (omega (arith, some))
up_pushed (q ∷ places) d n (x ∷ at) old more new z _ _ is pushed after =
    let behind = counted_up (map origin places) n at in
    after ∙ ap (λ (ps : List Place). more ++ counted_up (map origin ps) n (rest (x ∷ at))) (rest_is q places)
    ∙ ap (λ (c : List ℤ). more ++ counted_up (map origin places) n c) (rest_is x at) ∙ ap (λ (l : List ℤ). l ++ behind) pushed
    ∙ append_assoc old (z ∷ []) behind ∙ ap (λ (y : ℤ). old ++ y ∷ behind) is
    ∙ ap (λ (l : List ℤ). old ++ l) (sym (up_first q places n x at))

-- ---- numbers between others

own_between : (l h x : ℤ) (others : Bool) (own : Bool) → own ≡ (int_le l x && int_le x h) → own ≡ true → others ≡ (int_le l x && int_le x h && others)
own_between l h x others own is holds = sym (ap (λ (b : Bool). b && others) (sym is ∙ holds))

pub first_between : (places : List Place) (d : Place) (n : ℕ) (at low high : List ℤ) (z : ℤ) (own others : Bool) → 1 ≤ length places → 1 ≤ length at
    → 1 ≤ length low → 1 ≤ length high → z ≡ raised (get_or places 0 d) n (get_or at 0 (pos 0))
    → own ≡ (int_le (get_or low 0 (pos 0)) z && int_le z (get_or high 0 (pos 0))) → own ≡ true
    → others ≡ is_between (rest low) (rest high) (counted_up (map origin (rest places)) n (rest at))
    → others ≡ is_between low high (counted_up (map origin places) n at)
first_between [] d n at low high z own others some _ _ _ _ _ _ _ = absurd (omega (arith, some))
first_between (q ∷ places) d n [] low high z own others _ some _ _ _ _ _ _ = absurd (omega (arith, some))
first_between (q ∷ places) d n (x ∷ at) [] high z own others _ _ some _ _ _ _ _ = absurd (omega (arith, some))
first_between (q ∷ places) d n (x ∷ at) (l ∷ low) [] z own others _ _ _ some _ _ _ _ = absurd (omega (arith, some))
first_between (q ∷ places) d n (x ∷ at) (l ∷ low) (h ∷ high) z own others _ _ _ _ is inside holds after =
    let behind = is_between low high (counted_up (map origin places) n at) in
    after ∙ ap (λ (ls : List ℤ). is_between ls (rest (h ∷ high)) (counted_up (map origin (rest (q ∷ places))) n (rest (x ∷ at)))) (rest_is l low)
    ∙ ap (λ (hs : List ℤ). is_between low hs (counted_up (map origin (rest (q ∷ places))) n (rest (x ∷ at)))) (rest_is h high)
    ∙ ap (λ (ps : List Place). is_between low high (counted_up (map origin ps) n (rest (x ∷ at)))) (rest_is q places)
    ∙ ap (λ (c : List ℤ). is_between low high (counted_up (map origin places) n c)) (rest_is x at)
    ∙ own_between l h z behind own inside holds
    ∙ ap (λ (y : ℤ). int_le l y && int_le y h && behind) is
    ∙ ap (is_between (l ∷ low) (h ∷ high)) (sym (up_first q places n x at))

pub first_beyond : (places : List Place) (d : Place) (n : ℕ) (at low high : List ℤ) (z : ℤ) (own : Bool) → 1 ≤ length places → 1 ≤ length at
    → 1 ≤ length low → 1 ≤ length high → z ≡ raised (get_or places 0 d) n (get_or at 0 (pos 0))
    → own ≡ (int_le (get_or low 0 (pos 0)) z && int_le z (get_or high 0 (pos 0))) → own ≡ false
    → false ≡ is_between low high (counted_up (map origin places) n at)
first_beyond [] d n at low high z own some _ _ _ _ _ _ = absurd (omega (arith, some))
first_beyond (q ∷ places) d n [] low high z own _ some _ _ _ _ _ = absurd (omega (arith, some))
first_beyond (q ∷ places) d n (x ∷ at) [] high z own _ _ some _ _ _ _ = absurd (omega (arith, some))
first_beyond (q ∷ places) d n (x ∷ at) (l ∷ low) [] z own _ _ _ some _ _ _ = absurd (omega (arith, some))
first_beyond (q ∷ places) d n (x ∷ at) (l ∷ low) (h ∷ high) z own _ _ _ _ is inside fails =
    let behind = is_between low high (counted_up (map origin places) n at) in
    ap (λ (b : Bool). b && behind) (sym fails ∙ inside)
    ∙ ap (λ (y : ℤ). int_le l y && int_le y h && behind) is
    ∙ ap (is_between (l ∷ low) (h ∷ high)) (sym (up_first q places n x at))

pub low_ends : (places : List Place) (n : ℕ) (at low high : List ℤ) → 1 ≤ length places → 1 ≤ length at → length low < 1
    → false ≡ is_between low high (counted_up (map origin places) n at)
low_ends [] n at low high some _ _ = absurd (omega (arith, some))
low_ends (p ∷ places) n [] low high _ some _ = absurd (omega (arith, some))
low_ends (p ∷ places) n (x ∷ at) (l ∷ low) high _ _ none = absurd (omega (arith, none))
low_ends (p ∷ places) n (x ∷ at) [] [] _ _ _ = ap (is_between [] []) (sym (up_first p places n x at))
low_ends (p ∷ places) n (x ∷ at) [] (h ∷ high) _ _ _ = ap (is_between [] (h ∷ high)) (sym (up_first p places n x at))

pub all_between : (places : List Place) (n : ℕ) (at low high : List ℤ) (b : Bool) → length places < 1 → length at ≡ length places → length low < 1
    → b ≡ is_between [] high [] → b ≡ is_between low high (counted_up (map origin places) n at)
all_between (p ∷ places) n at low high b none _ _ _ = absurd (omega (arith, none))
all_between [] n (x ∷ at) low high b _ each _ _ = absurd (omega (arith, each))
all_between [] n [] (l ∷ low) high b _ _ none _ = absurd (omega (arith, none))
all_between [] n [] [] high b _ _ _ is = is

pub none_high : (high : List ℤ) → (length high == 0) ≡ is_between [] high []
none_high [] = refl
none_high (h ∷ high) = search rules
