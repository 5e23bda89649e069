-- Which chunks have a coordinate in their frame, as functions read lists from the front: what is pushed first stands before what the rest gives.
use Rattle.std.proofs.lemmas.List.{length-take-le, take_more}
use Rattle.std.proofs.Common.{Bool, false, cond, ◌≡◌, ◌∙◌, ℕ, ◌+◌, ◌-◌, ◌/◌, ◌≤◌, ◌<◌, ℤ, pos, ◌-ℤ◌, List, [], ◌∷◌, ◌++◌, append-nil, append_assoc, length, get_or, sym, ap, arith, true, take, length-append}
use Rattle.std.specs.Ordering.{is_lt}
use Rattle.std.specs.Prelude.{unsigned_abs}
use Rattle.std.proofs.lemmas.Bool.{le-ltb}
use Rattle.cell_values.specs.declared.schema.Dimension.{Dimension}
use Rattle.array_geom.specs.Link.{number_order}
use Rattle.array_geom.proofs.Fronts.{rest, rest_is}
use Rattle.chunk_cells.specs.Inner.Near.{near_high, near_low, next_between}

-- ---- the first chunk

pub no_low : (dims : List Dimension) (margins : List ℕ) (at : List ℤ) (old : List ℕ) → length dims < 1 → old ≡ old ++ near_low dims margins at
no_low [] margins at old none = sym (append-nil old)
no_low (d ∷ dims) margins at old none = absurd (omega (arith, none))

pub no_low_margin : (dims : List Dimension) (margins : List ℕ) (at : List ℤ) (old : List ℕ) → length margins < 1 → old ≡ old ++ near_low dims margins at
no_low_margin [] margins at old none = sym (append-nil old)
no_low_margin (d ∷ dims) [] at old none = sym (append-nil old)
no_low_margin (d ∷ dims) (m ∷ margins) at old none = absurd (omega (arith, none))

pub no_low_number : (dims : List Dimension) (margins : List ℕ) (at : List ℤ) (old : List ℕ) → length at < 1 → old ≡ old ++ near_low dims margins at
no_low_number [] margins at old none = sym (append-nil old)
no_low_number (d ∷ dims) [] at old none = sym (append-nil old)
no_low_number (d ∷ dims) (m ∷ margins) [] old none = sym (append-nil old)
no_low_number (d ∷ dims) (m ∷ margins) (x ∷ at) old none = absurd (omega (arith, none))

pub low_pushed : (d : Dimension) (dims : List Dimension) (margins : List ℕ) (at : List ℤ) (old more new : List ℕ) (n : ℕ) → 1 ≤ length dims → 1 ≤ length margins
    → 1 ≤ length at → d ≡ get_or dims 0 d → more ≡ old ++ n ∷ [] → new ≡ more ++ near_low (rest dims) (rest margins) (rest at)
    → n ≡ (unsigned_abs (get_or at 0 (pos 0) -ℤ d.lo) - get_or margins 0 0) / d.chunk → new ≡ old ++ near_low dims margins at
low_pushed d [] margins at old more new n some _ _ _ _ _ _ = absurd (omega (arith, some))
low_pushed d (e ∷ dims) [] at old more new n _ some _ _ _ _ _ = absurd (omega (arith, some))
low_pushed d (e ∷ dims) (m ∷ margins) [] old more new n _ _ some _ _ _ _ = absurd (omega (arith, some))
low_pushed d (e ∷ dims) (m ∷ margins) (x ∷ at) old more new n _ _ _ first pushed after is =
    after ∙ ap (λ (ds : List Dimension). more ++ near_low ds (rest (m ∷ margins)) (rest (x ∷ at))) (rest_is e dims)
    ∙ ap (λ (ms : List ℕ). more ++ near_low dims ms (rest (x ∷ at))) (rest_is m margins)
    ∙ ap (λ (c : List ℤ). more ++ near_low dims margins c) (rest_is x at)
    ∙ ap (λ (z : List ℕ). z ++ near_low dims margins at) pushed ∙ append_assoc old (n ∷ []) (near_low dims margins at)
    ∙ ap (λ (k : ℕ). old ++ k ∷ near_low dims margins at) (is ∙ ap (λ (y : Dimension). (unsigned_abs (x -ℤ y.lo) - m) / y.chunk) first)

-- ---- the last chunk

pub no_high : (dims : List Dimension) (margins : List ℕ) (at : List ℤ) (old : List ℕ) → length dims < 1 → old ≡ old ++ near_high dims margins at
no_high [] margins at old none = sym (append-nil old)
no_high (d ∷ dims) margins at old none = absurd (omega (arith, none))

pub no_high_margin : (dims : List Dimension) (margins : List ℕ) (at : List ℤ) (old : List ℕ) → length margins < 1 → old ≡ old ++ near_high dims margins at
no_high_margin [] margins at old none = sym (append-nil old)
no_high_margin (d ∷ dims) [] at old none = sym (append-nil old)
no_high_margin (d ∷ dims) (m ∷ margins) at old none = absurd (omega (arith, none))

pub no_high_number : (dims : List Dimension) (margins : List ℕ) (at : List ℤ) (old : List ℕ) → length at < 1 → old ≡ old ++ near_high dims margins at
no_high_number [] margins at old none = sym (append-nil old)
no_high_number (d ∷ dims) [] at old none = sym (append-nil old)
no_high_number (d ∷ dims) (m ∷ margins) [] old none = sym (append-nil old)
no_high_number (d ∷ dims) (m ∷ margins) (x ∷ at) old none = absurd (omega (arith, none))

pub high_pushed : (d : Dimension) (dims : List Dimension) (margins : List ℕ) (at : List ℤ) (old more new : List ℕ) (n : ℕ) → 1 ≤ length dims → 1 ≤ length margins
    → 1 ≤ length at → d ≡ get_or dims 0 d → more ≡ old ++ n ∷ [] → new ≡ more ++ near_high (rest dims) (rest margins) (rest at)
    → n ≡ (unsigned_abs (get_or at 0 (pos 0) -ℤ d.lo) + get_or margins 0 0) / d.chunk → new ≡ old ++ near_high dims margins at
high_pushed d [] margins at old more new n some _ _ _ _ _ _ = absurd (omega (arith, some))
high_pushed d (e ∷ dims) [] at old more new n _ some _ _ _ _ _ = absurd (omega (arith, some))
high_pushed d (e ∷ dims) (m ∷ margins) [] old more new n _ _ some _ _ _ _ = absurd (omega (arith, some))
high_pushed d (e ∷ dims) (m ∷ margins) (x ∷ at) old more new n _ _ _ first pushed after is =
    after ∙ ap (λ (ds : List Dimension). more ++ near_high ds (rest (m ∷ margins)) (rest (x ∷ at))) (rest_is e dims)
    ∙ ap (λ (ms : List ℕ). more ++ near_high dims ms (rest (x ∷ at))) (rest_is m margins)
    ∙ ap (λ (c : List ℤ). more ++ near_high dims margins c) (rest_is x at)
    ∙ ap (λ (z : List ℕ). z ++ near_high dims margins at) pushed ∙ append_assoc old (n ∷ []) (near_high dims margins at)
    ∙ ap (λ (k : ℕ). old ++ k ∷ near_high dims margins at) (is ∙ ap (λ (y : Dimension). (unsigned_abs (x -ℤ y.lo) + m) / y.chunk) first)

-- ---- the next chunk

-- the first number stays, or is raised where the others are past
pub next_kept : (low high chunk old more new : List ℕ) → 1 ≤ length low → 1 ≤ length high → 1 ≤ length chunk → get_or low 0 0 ≤ get_or chunk 0 0
    → is_lt (number_order (rest high) (rest chunk)) ≡ false → more ≡ old ++ get_or chunk 0 0 ∷ []
    → new ≡ more ++ next_between (rest low) (rest high) (rest chunk) → new ≡ old ++ next_between low high chunk
next_kept [] high chunk old more new some _ _ _ _ _ _ = absurd (omega (arith, some))
next_kept (l ∷ low) [] chunk old more new _ some _ _ _ _ _ = absurd (omega (arith, some))
next_kept (l ∷ low) (h ∷ high) [] old more new _ _ some _ _ _ _ = absurd (omega (arith, some))
next_kept (l ∷ low) (h ∷ high) (k ∷ ks) old more new _ _ _ from before pushed after =
    let behind = next_between low high ks in
    let raised = cond (is_lt (number_order high ks)) ((k + 1) ∷ low) (k ∷ behind) in
    let not_past = ap (λ (ns : List ℕ). is_lt (number_order ns ks)) (sym (rest_is h high))
    ∙ ap (λ (ns : List ℕ). is_lt (number_order (rest (h ∷ high)) ns)) (sym (rest_is k ks)) ∙ before in
    after ∙ ap (λ (ns : List ℕ). more ++ next_between ns (rest (h ∷ high)) (rest (k ∷ ks))) (rest_is l low)
    ∙ ap (λ (ns : List ℕ). more ++ next_between low ns (rest (k ∷ ks))) (rest_is h high)
    ∙ ap (λ (ns : List ℕ). more ++ next_between low high ns) (rest_is k ks)
    ∙ ap (λ (z : List ℕ). z ++ behind) pushed ∙ append_assoc old (k ∷ []) behind
    ∙ sym (ap (λ (b : Bool). old ++ cond b (l ∷ low) raised) (le-ltb k l from) ∙ ap (λ (b : Bool). old ++ cond b ((k + 1) ∷ low) (k ∷ behind)) not_past)

-- the first number is raised, and the others are the lowest
pub next_raised : (low high chunk old more new : List ℕ) → 1 ≤ length low → 1 ≤ length high → 1 ≤ length chunk → get_or low 0 0 ≤ get_or chunk 0 0
    → is_lt (number_order (rest high) (rest chunk)) ≡ true → more ≡ old ++ (get_or chunk 0 0 + 1) ∷ []
    → new ≡ more ++ rest low → new ≡ old ++ next_between low high chunk
next_raised [] high chunk old more new some _ _ _ _ _ _ = absurd (omega (arith, some))
next_raised (l ∷ low) [] chunk old more new _ some _ _ _ _ _ = absurd (omega (arith, some))
next_raised (l ∷ low) (h ∷ high) [] old more new _ _ some _ _ _ _ = absurd (omega (arith, some))
next_raised (l ∷ low) (h ∷ high) (k ∷ ks) old more new _ _ _ from past pushed after =
    let behind = next_between low high ks in
    let raised = cond (is_lt (number_order high ks)) ((k + 1) ∷ low) (k ∷ behind) in
    let is_past = ap (λ (ns : List ℕ). is_lt (number_order ns ks)) (sym (rest_is h high))
    ∙ ap (λ (ns : List ℕ). is_lt (number_order (rest (h ∷ high)) ns)) (sym (rest_is k ks)) ∙ past in
    after ∙ ap (λ (ns : List ℕ). more ++ ns) (rest_is l low) ∙ ap (λ (z : List ℕ). z ++ low) pushed ∙ append_assoc old ((k + 1) ∷ []) low
    ∙ sym (ap (λ (b : Bool). old ++ cond b (l ∷ low) raised) (le-ltb k l from) ∙ ap (λ (b : Bool). old ++ cond b ((k + 1) ∷ low) (k ∷ behind)) is_past)

pub no_next : (low high chunk old : List ℕ) → length low < 1 → old ≡ old ++ next_between low high chunk
no_next [] high chunk old none = sym (append-nil old)
no_next (l ∷ low) high chunk old none = absurd (omega (arith, none))

-- ---- numbers pushed one by one

pub room_for_one : (old numbers out : List ℕ) (i : ℕ) → out ≡ old ++ take i numbers → i < length numbers → length old + length numbers ≤ 6 → length out < 6
room_for_one old numbers out i is low room =
    let n : length out ≡ length old + i = ap length is ∙ length-append old (take i numbers) ∙ ap (λ (k : ℕ). length old + k) (length-take-le i numbers (omega (arith, low))) in
    omega (arith, n, low, room)

pub pushed_more : (old numbers out new : List ℕ) (i : ℕ) → out ≡ old ++ take i numbers → i < length numbers → new ≡ out ++ get_or numbers i 0 ∷ [] → new ≡ old ++ take (i + 1) numbers
pushed_more old numbers out new i is low pushed =
    pushed ∙ ap (λ (xs : List ℕ). xs ++ get_or numbers i 0 ∷ []) is ∙ append_assoc old (take i numbers) (get_or numbers i 0 ∷ [])
    ∙ ap (λ (xs : List ℕ). old ++ xs) (sym (take_more numbers i 0 low))
