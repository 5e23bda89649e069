-- One step from the front on: what is counted at some bytes, by what is counted behind their first item.
use Rattle.std.proofs.Common.{◌≡◌, ℕ, suc, ◌+◌, ◌-◌, ◌<◌, ◌≤◌, Bool, true, false, cond, Option, Some, None, List, [], ◌∷◌, ◌++◌, length, map, take, drop, get_or, refl, sym, ap, subst, ◌∙◌, arith}
use Rattle.std.specs.Prelude.{if◌then◌else◌, ◌==◌, ◌&&◌, ◌||◌, not}
use Rattle.std.specs.List.{prefix_len}
use Rattle.std.proofs.lemmas.Bool.{false≢true, true≢false, ne_eqb, eq-eqb, eqb-true, cond_both}
use Rattle.std.proofs.lemmas.List.{drop-drop, get_or-drop, append_assoc, length-drop, take_rest}
use Rattle.afl_lexer.specs.Quoted.{items, byte_of}
use Rattle.afl_lexer.specs.Tokens.{is_white}
use Rattle.afl_lexer.specs.Scan.{is_in_line, blank_len, gap_len, line_len, further, item_len, quote_at, begins_badly, escape_at}

pub further_more : (a b : ℕ) (o : Option ℕ) → further a (further b o) ≡ further (a + b) o
further_more a b None = refl
further_more a b (Some k) = ap Some (omega arith)

pub further_none : (o : Option ℕ) → o ≡ further 0 o
further_none None = refl
further_none (Some k) = ap Some (omega arith)

quote_by : (v : Bool) (b c : ℕ) (rest : List ℕ) → (if v then further 2 (quote_at rest) else further 1 (quote_at (c ∷ rest)))
    ≡ further (if v then 2 else 1) (quote_at (drop (if v then 2 else 1) (b ∷ c ∷ rest)))
quote_by true b c rest = refl
quote_by false b c rest = refl

quote_step : (xs : List ℕ) → (get_or xs 0 0 ≡ 39 → ⊥) → quote_at xs ≡ further (item_len xs) (quote_at (drop (item_len xs) xs))
quote_step [] h = refl
quote_step (b ∷ []) h = rw (ne_eqb b 39 h) refl
quote_step (b ∷ c ∷ rest) h = rw (ne_eqb b 39 h) (quote_by (b == 92) b c rest)

quote_here : (xs : List ℕ) → 0 < length xs → get_or xs 0 0 ≡ 39 → quote_at xs ≡ Some 0
quote_here [] h e = absurd (omega arith)
quote_here (b ∷ []) h e = rw (eq-eqb b 39 e) refl
quote_here (b ∷ c ∷ rest) h e = rw (eq-eqb b 39 e) refl

first_at : (xs : List ℕ) (at : ℕ) → get_or (drop at xs) 0 0 ≡ get_or xs at 0
first_at xs at = let e : at + 0 ≡ at = omega arith in get_or-drop at xs 0 0 ∙ ap (λ n. get_or xs n 0) e

-- no closing quote stands here
pub quote_more : (xs : List ℕ) (at : ℕ) → (get_or xs at 0 ≡ 39 → ⊥) → quote_at xs ≡ further at (quote_at (drop at xs))
    → quote_at xs ≡ further (at + item_len (drop at xs)) (quote_at (drop (at + item_len (drop at xs)) xs))
quote_more xs at h e =
    let k = item_len (drop at xs) in
    e ∙ ap (further at) (quote_step (drop at xs) (λ (p : get_or (drop at xs) 0 0 ≡ 39). h (sym (first_at xs at) ∙ p)))
    ∙ further_more at k (quote_at (drop k (drop at xs)))
    ∙ ap (λ ys. further (at + k) (quote_at ys)) (drop-drop k at xs)

-- the closing quote stands here
pub quote_found : (xs : List ℕ) (at : ℕ) → at < length xs → get_or xs at 0 ≡ 39 → quote_at xs ≡ further at (quote_at (drop at xs)) → Some at ≡ quote_at xs
quote_found xs at h q e =
    let some : 0 < length (drop at xs) = simp length-drop (omega arith) in
    let same : at ≡ at + 0 = omega arith in
    ap Some same ∙ ap (further at) (sym (quote_here (drop at xs) some (first_at xs at ∙ q))) ∙ sym e

item_by : (v : Bool) (b c : ℕ) (rest : List ℕ) → (if v then (b ∷ c ∷ []) ∷ items rest else (b ∷ []) ∷ items (c ∷ rest))
    ≡ take (if v then 2 else 1) (b ∷ c ∷ rest) ∷ items (drop (if v then 2 else 1) (b ∷ c ∷ rest))
item_by true b c rest = refl
item_by false b c rest = refl

pub items_step : (xs : List ℕ) → 0 < length xs → items xs ≡ take (item_len xs) xs ∷ items (drop (item_len xs) xs)
items_step [] h = absurd (omega arith)
items_step (b ∷ []) h = refl
items_step (b ∷ c ∷ rest) h = item_by (b == 92) b c rest

pub items_at : (xs : List ℕ) (at : ℕ) → at < length xs
    → items (drop at xs) ≡ take (item_len (drop at xs)) (drop at xs) ∷ items (drop (at + item_len (drop at xs)) xs)
items_at xs at h =
    let k = item_len (drop at xs) in
    let some : 0 < length (drop at xs) = simp length-drop (omega arith) in
    items_step (drop at xs) some ∙ ap (λ ys. take k (drop at xs) ∷ items ys) (drop-drop k at xs)

pub count_more : (xs : List ℕ) (at n : ℕ) → at < length xs → length (items xs) ≡ n + length (items (drop at xs))
    → length (items xs) ≡ n + 1 + length (items (drop (at + item_len (drop at xs)) xs))
count_more xs at n h e =
    let one : length (items (drop at xs)) ≡ suc (length (items (drop (at + item_len (drop at xs)) xs))) = ap length (items_at xs at h) in
    omega arith

byte_by : (v : Bool) (b c : ℕ) (rest : List ℕ) → byte_of (take (if v then 2 else 1) (b ∷ c ∷ rest)) ≡ get_or (b ∷ c ∷ rest) ((if v then 2 else 1) - 1) 0
byte_by true b c rest = refl
byte_by false b c rest = refl

-- the byte that the item at the front stands for is its last one
last_byte : (xs : List ℕ) → 0 < length xs → byte_of (take (item_len xs) xs) ≡ get_or xs (item_len xs - 1) 0
last_byte [] h = absurd (omega arith)
last_byte (b ∷ []) h = refl
last_byte (b ∷ c ∷ rest) h = byte_by (b == 92) b c rest

pub content_more : (xs so_far : List ℕ) (at k : ℕ) → at < length xs → k ≡ item_len (drop at xs) → 0 < k
    → map byte_of (items xs) ≡ so_far ++ map byte_of (items (drop at xs))
    → map byte_of (items xs) ≡ (so_far ++ get_or xs (at + k - 1) 0 ∷ []) ++ map byte_of (items (drop (at + k) xs))
content_more xs so_far at k h is pos e =
    let some : 0 < length (drop at xs) = simp length-drop (omega arith) in
    let place : at + (item_len (drop at xs) - 1) ≡ at + k - 1 = omega arith in
    let byte : byte_of (take (item_len (drop at xs)) (drop at xs)) ≡ get_or xs (at + k - 1) 0
    = last_byte (drop at xs) some ∙ get_or-drop at xs (item_len (drop at xs) - 1) 0 ∙ ap (λ n. get_or xs n 0) place in
    e ∙ ap (λ is. so_far ++ map byte_of is) (items_at xs at h)
    ∙ ap (λ b. so_far ++ b ∷ map byte_of (items (drop (at + item_len (drop at xs)) xs))) byte
    ∙ ap (λ n. so_far ++ get_or xs (at + k - 1) 0 ∷ map byte_of (items (drop (at + n) xs))) (sym is)
    ∙ sym (append_assoc so_far (get_or xs (at + k - 1) 0 ∷ []) (map byte_of (items (drop (at + k) xs))))

escape_by : (v w : Bool) (b c : ℕ) (rest : List ℕ) → (v && not w) ≡ false
    → (if v then (if w then further 2 (escape_at rest) else Some 0) else further 1 (escape_at (c ∷ rest)))
    ≡ further (if v then 2 else 1) (escape_at (drop (if v then 2 else 1) (b ∷ c ∷ rest)))
escape_by true true b c rest h = refl
escape_by true false b c rest h = absurd (true≢false h)
escape_by false w b c rest h = refl

escape_step : (xs : List ℕ) → begins_badly xs ≡ false → escape_at xs ≡ further (item_len xs) (escape_at (drop (item_len xs) xs))
escape_step [] h = refl
escape_step (b ∷ []) h = refl
escape_step (b ∷ c ∷ rest) h = escape_by (b == 92) (c == 39 || c == 92) b c rest h

here_by : (v w : Bool) (o p : Option ℕ) → (v && not w) ≡ true → (if v then (if w then o else Some 0) else p) ≡ Some 0
here_by true true o p h = absurd (false≢true h)
here_by true false o p h = refl
here_by false w o p h = absurd (false≢true h)

escape_here : (xs : List ℕ) → begins_badly xs ≡ true → escape_at xs ≡ Some 0
escape_here [] h = absurd (false≢true h)
escape_here (b ∷ []) h = absurd (false≢true h)
escape_here (b ∷ c ∷ rest) h = here_by (b == 92) (c == 39 || c == 92) (further 2 (escape_at rest)) (further 1 (escape_at (c ∷ rest))) h

-- no bad escape stands here
pub escape_more : (xs : List ℕ) (at : ℕ) → begins_badly (drop at xs) ≡ false → escape_at xs ≡ further at (escape_at (drop at xs))
    → escape_at xs ≡ further (at + item_len (drop at xs)) (escape_at (drop (at + item_len (drop at xs)) xs))
escape_more xs at h e =
    let k = item_len (drop at xs) in
    e ∙ ap (further at) (escape_step (drop at xs) h)
    ∙ further_more at k (escape_at (drop k (drop at xs)))
    ∙ ap (λ ys. further (at + k) (escape_at ys)) (drop-drop k at xs)

-- a bad escape stands here
pub escape_found : (xs : List ℕ) (at : ℕ) → begins_badly (drop at xs) ≡ true → escape_at xs ≡ further at (escape_at (drop at xs)) → Some at ≡ escape_at xs
escape_found xs at h e =
    let same : at ≡ at + 0 = omega arith in
    ap Some same ∙ ap (further at) (sym (escape_here (drop at xs) h)) ∙ sym e

gap_at_feed : (rest : List ℕ) → gap_len (10 ∷ rest) ≡ 1 + gap_len rest
gap_at_feed [] = refl
gap_at_feed (c ∷ rest) = refl

line_by : (b : ℕ) (rest : List ℕ) (v : Bool) → (b == 10) ≡ v → line_len rest ≡ prefix_len is_in_line rest + gap_len (drop (prefix_len is_in_line rest) rest)
    → (if v then 1 + gap_len rest else 1 + line_len rest)
    ≡ cond (not v) (1 + prefix_len is_in_line rest) 0 + gap_len (drop (cond (not v) (1 + prefix_len is_in_line rest) 0) (b ∷ rest))
line_by b rest true e behind =
    let none : gap_len (b ∷ rest) ≡ 0 + gap_len (b ∷ rest) = omega arith in
    sym (gap_at_feed rest) ∙ ap (λ x. gap_len (x ∷ rest)) (sym (eqb-true b 10 e)) ∙ none
line_by b rest false e behind =
    let n = prefix_len is_in_line rest in
    let moved : drop n rest ≡ drop (1 + n) (b ∷ rest) = drop-drop n 1 (b ∷ rest) in
    let same : gap_len (drop n rest) ≡ gap_len (drop (1 + n) (b ∷ rest)) = ap gap_len moved in
    omega arith

line_step : (xs : List ℕ) → line_len xs ≡ prefix_len is_in_line xs + gap_len (drop (prefix_len is_in_line xs) xs)
line_step [] = refl
line_step (b ∷ rest) = line_by b rest (b == 10) refl (line_step rest)

gap_same : (xs : List ℕ) → gap_len xs ≡ 0 + gap_len (drop 0 xs)
gap_same xs = omega arith

gap_step : (xs : List ℕ) → gap_len xs ≡ blank_len xs + gap_len (drop (blank_len xs) xs)
gap_step [] = refl
gap_step (b ∷ []) = cond_both (is_white b) 1 0 (λ k. gap_len (b ∷ []) ≡ k + gap_len (drop k (b ∷ []))) (λ w. rw w refl) (λ w. gap_same (b ∷ []))
gap_step (b ∷ c ∷ rest) =
    let P : ℕ → Type 0 = λ k. gap_len (b ∷ c ∷ rest) ≡ k + gap_len (drop k (b ∷ c ∷ rest)) in
    let n = prefix_len is_in_line rest in
    let moved : drop n rest ≡ drop (2 + n) (b ∷ c ∷ rest) = drop-drop n 2 (b ∷ c ∷ rest) in
    let same : gap_len (drop n rest) ≡ gap_len (drop (2 + n) (b ∷ c ∷ rest)) = ap gap_len moved in
    let line : 2 + line_len rest ≡ 2 + n + gap_len (drop (2 + n) (b ∷ c ∷ rest)) = omega (arith, line_step rest) in
    cond_both (b == 45 && c == 45) (2 + n) (if is_white b then 1 else 0) P
    (λ d. ap (λ v. if v then 2 + line_len rest else if is_white b then 1 + gap_len (c ∷ rest) else 0) d ∙ line)
    (λ d. cond_both (is_white b) 1 0 P
    (λ w. ap (λ v. if v then 2 + line_len rest else if is_white b then 1 + gap_len (c ∷ rest) else 0) d ∙ ap (λ v. if v then 1 + gap_len (c ∷ rest) else 0) w)
    (λ w. gap_same (b ∷ c ∷ rest)))

pub gap_more : (xs : List ℕ) (at k : ℕ) → k ≡ blank_len (drop at xs) → gap_len xs ≡ at + gap_len (drop at xs) → gap_len xs ≡ at + k + gap_len (drop (at + k) xs)
gap_more xs at k is e =
    let moved : gap_len (drop k (drop at xs)) ≡ gap_len (drop (at + k) xs) = ap gap_len (drop-drop k at xs) in
    let step : gap_len (drop at xs) ≡ k + gap_len (drop k (drop at xs)) = subst (λ n. gap_len (drop at xs) ≡ n + gap_len (drop n (drop at xs))) (sym is) (gap_step (drop at xs)) in
    omega arith

stops_by : (v w : Bool) (m g l : ℕ) → (if v then 2 + m else if w then 1 else 0) ≡ 0 → (if v then 2 + l else if w then 1 + g else 0) ≡ 0
stops_by true w m g l h = absurd (omega arith)
stops_by false true m g l h = absurd (omega arith)
stops_by false false m g l h = refl

pub gap_stops : (xs : List ℕ) → blank_len xs ≡ 0 → gap_len xs ≡ 0
gap_stops [] h = refl
gap_stops (b ∷ []) h = h
gap_stops (b ∷ c ∷ rest) h = stops_by (b == 45 && c == 45) (is_white b) (prefix_len is_in_line rest) (gap_len (c ∷ rest)) (line_len rest) h

pub gap_found : (xs : List ℕ) (at : ℕ) → blank_len (drop at xs) ≡ 0 → gap_len xs ≡ at + gap_len (drop at xs) → at ≡ gap_len xs
gap_found xs at h e = let none : gap_len (drop at xs) ≡ 0 = gap_stops (drop at xs) h in omega arith

-- what is counted behind a place stays within the bytes
pub step_within : (xs : List ℕ) (at k : ℕ) → at ≤ length xs → k ≤ length (take (length xs - at) (drop at xs)) → at + k ≤ length xs
step_within xs at k h e =
    let all : k ≤ length (drop at xs) = subst (λ (ys : List ℕ). k ≤ length ys) (take_rest xs at) e in
    omega (arith, length-drop at xs)

pub some_left : (xs : List ℕ) (at : ℕ) → at < length xs → 0 < length (take (length xs - at) (drop at xs))
some_left xs at h = subst (λ (ys : List ℕ). 0 < length ys) (sym (take_rest xs at)) (simp length-drop (omega arith))
