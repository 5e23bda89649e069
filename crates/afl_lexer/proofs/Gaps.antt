-- The longest gap at the front.
use Rattle.std.proofs.Common.{◌≡◌, ℕ, zero, suc, ◌+◌, ◌≤◌, Bool, true, false, List, [], ◌∷◌, ◌++◌, length, take, refl, sym, ap, subst, ◌∙◌, arith}
use Rattle.std.specs.Prelude.{if◌then◌else◌, ◌==◌, ◌&&◌, not}
use Rattle.std.specs.List.{list_all, concat}
use Rattle.std.proofs.lemmas.Bool.{and_parts, and_from, and_left, eqb-true, cond_both, not-true, not_from_false}
use Rattle.afl_lexer.specs.Tokens.{is_white, is_gap_piece, IsGap}
use Rattle.afl_lexer.specs.Scan.{is_in_line, gap_len, line_len}
use Rattle.afl_lexer.proofs.Fronts.{IsFront, take_one, take_two}

-- a gap, and what may follow the two dashes of a comment
abbrev mutual
  gap_test : List ℕ → Bool
  gap_test [] = true
  gap_test (b ∷ []) = is_white b
  gap_test (b ∷ c ∷ rest) = if b == 45 && c == 45 then line_test rest else is_white b && gap_test (c ∷ rest)

  line_test : List ℕ → Bool
  line_test [] = true
  line_test (b ∷ rest) = if b == 10 then gap_test rest else line_test rest

dash_false : (b c : ℕ) → is_white b ≡ true → (b == 45 && c == 45) ≡ false
dash_false b c w = and_left (b == 45) (c == 45) (no_dash (b == 45) refl) where
  no_dash : (v : Bool) → (b == 45) ≡ v → v ≡ false
  no_dash false e = refl
  no_dash true e = let same : is_white 45 ≡ true = subst (λ x. is_white x ≡ true) (eqb-true b 45 e) w in cc

white_first : (b : ℕ) (rest : List ℕ) → is_white b ≡ true → gap_test rest ≡ true → gap_test (b ∷ rest) ≡ true
white_first b [] w g = w
white_first b (c ∷ rest) w g = ap (λ v. if v then line_test rest else is_white b && gap_test (c ∷ rest)) (dash_false b c w) ∙ and_from (is_white b) (gap_test (c ∷ rest)) w g

if_true : (v : Bool) (x y : Bool) → v ≡ true → (if v then x else y) ≡ x
if_true v x y e = ap (λ u. if u then x else y) e

if_false : (v : Bool) (x y : Bool) → v ≡ false → (if v then x else y) ≡ y
if_false v x y e = ap (λ u. if u then x else y) e

fits_white : (b : ℕ) (rest : List ℕ) (n : ℕ) → is_white b ≡ true → gap_test (take n rest) ≡ true → gap_test (take (1 + n) (b ∷ rest)) ≡ true
fits_white b rest n w g = ap gap_test (take_one n b rest) ∙ white_first b (take n rest) w g

fits_dash : (b c : ℕ) (rest : List ℕ) (n : ℕ) → (b == 45 && c == 45) ≡ true → line_test (take n rest) ≡ true → gap_test (take (2 + n) (b ∷ c ∷ rest)) ≡ true
fits_dash b c rest n d g = ap gap_test (take_two n b c rest) ∙ if_true (b == 45 && c == 45) (line_test (take n rest)) (is_white b && gap_test (c ∷ take n rest)) d ∙ g

fits_line : (b : ℕ) (rest : List ℕ) (v : Bool) → (b == 10) ≡ v → gap_test (take (gap_len rest) rest) ≡ true → line_test (take (line_len rest) rest) ≡ true
    → line_test (take (if v then 1 + gap_len rest else 1 + line_len rest) (b ∷ rest)) ≡ true
fits_line b rest true e g l = ap line_test (take_one (gap_len rest) b rest) ∙ if_true (b == 10) (gap_test (take (gap_len rest) rest)) (line_test (take (gap_len rest) rest)) e ∙ g
fits_line b rest false e g l = ap line_test (take_one (line_len rest) b rest) ∙ if_false (b == 10) (gap_test (take (line_len rest) rest)) (line_test (take (line_len rest) rest)) e ∙ l

mutual
  gap_fits : (xs : List ℕ) → gap_test (take (gap_len xs) xs) ≡ true
  gap_fits [] = refl
  gap_fits (b ∷ []) = cond_both (is_white b) 1 0 (λ k. gap_test (take k (b ∷ [])) ≡ true) (λ w. w) (λ w. refl)
  gap_fits (b ∷ c ∷ rest) =
      let P : ℕ → Type 0 = λ k. gap_test (take k (b ∷ c ∷ rest)) ≡ true in
      cond_both (b == 45 && c == 45) (2 + line_len rest) (if is_white b then 1 + gap_len (c ∷ rest) else 0) P
      (λ d. fits_dash b c rest (line_len rest) d (line_fits rest))
      (λ d. cond_both (is_white b) (1 + gap_len (c ∷ rest)) 0 P (λ w. fits_white b (c ∷ rest) (gap_len (c ∷ rest)) w (gap_fits (c ∷ rest))) (λ w. refl))

  line_fits : (xs : List ℕ) → line_test (take (line_len xs) xs) ≡ true
  line_fits [] = refl
  line_fits (b ∷ rest) = fits_line b rest (b == 10) refl (gap_fits rest) (line_fits rest)

one_by : (v w : Bool) (l g : ℕ) → w ≡ true → 1 ≤ (if v then 2 + l else if w then 1 + g else 0)
one_by true w l g e = omega arith
one_by false true l g e = omega arith
one_by false false l g e = cc

more_by : (v w : Bool) (g l : Bool) (k m n : ℕ) → (if v then l else w && g) ≡ true → (l ≡ true → k ≤ m) → (g ≡ true → suc k ≤ n) → suc (suc k) ≤ (if v then 2 + m else if w then 1 + n else 0)
more_by true w g l k m n e h i = let r : k ≤ m = h e in omega arith
more_by false true g l k m n e h i = let r : suc k ≤ n = i e in omega arith
more_by false false g l k m n e h i = cc

line_more_by : (v g l : Bool) (k m n : ℕ) → (if v then g else l) ≡ true → (g ≡ true → k ≤ m) → (l ≡ true → k ≤ n) → suc k ≤ (if v then 1 + m else 1 + n)
line_more_by true g l k m n e h i = let r : k ≤ m = h e in omega arith
line_more_by false g l k m n e h i = let r : k ≤ n = i e in omega arith

mutual
  gap_most : (xs : List ℕ) (m : ℕ) → m ≤ length xs → gap_test (take m xs) ≡ true → m ≤ gap_len xs
  gap_most [] m h t = h
  gap_most (b ∷ []) zero h t = omega arith
  gap_most (b ∷ []) (suc zero) h t = subst (λ v. 1 ≤ (if v then 1 else 0)) (sym t) (omega arith)
  gap_most (b ∷ []) (suc (suc m)) h t = absurd (omega arith)
  gap_most (b ∷ c ∷ rest) zero h t = omega arith
  gap_most (b ∷ c ∷ rest) (suc zero) h t = one_by (b == 45 && c == 45) (is_white b) (line_len rest) (gap_len (c ∷ rest)) t
  gap_most (b ∷ c ∷ rest) (suc (suc k)) h t = more_by (b == 45 && c == 45) (is_white b) (gap_test (c ∷ take k rest)) (line_test (take k rest)) k (line_len rest) (gap_len (c ∷ rest)) t
      (λ l. line_most rest k (omega arith) l) (λ g. gap_most (c ∷ rest) (suc k) (omega arith) g)

  line_most : (xs : List ℕ) (m : ℕ) → m ≤ length xs → line_test (take m xs) ≡ true → m ≤ line_len xs
  line_most [] m h t = h
  line_most (b ∷ rest) zero h t = omega arith
  line_most (b ∷ rest) (suc k) h t = line_more_by (b == 10) (gap_test (take k rest)) (line_test (take k rest)) k (gap_len rest) (line_len rest) t
      (λ g. gap_most rest k (omega arith) g) (λ l. line_most rest k (omega arith) l)

-- A gap may stand in a comment.
in_line_one : (v : Bool) → (if v then gap_test [] else line_test []) ≡ true
in_line_one true = refl
in_line_one false = refl

dash_line : (b c : ℕ) (rest : List ℕ) → (b == 45 && c == 45) ≡ true → line_test rest ≡ true → line_test (b ∷ c ∷ rest) ≡ true
dash_line b c rest d l =
    let both : ((b == 45) ≡ true) × ((c == 45) ≡ true) = and_parts (b == 45) (c == 45) d in
    subst (λ x. line_test (x ∷ c ∷ rest) ≡ true) (sym (eqb-true b 45 both.0)) (subst (λ x. line_test (x ∷ rest) ≡ true) (sym (eqb-true c 45 both.1)) l)

either_line : (v g l : Bool) → g ≡ true → l ≡ true → (if v then g else l) ≡ true
either_line true g l p q = p
either_line false g l p q = q

in_line_by : (b c : ℕ) (rest : List ℕ) (v w : Bool) → (b == 45 && c == 45) ≡ v → (if v then line_test rest else w && gap_test (c ∷ rest)) ≡ true
    → (gap_test (c ∷ rest) ≡ true → line_test (c ∷ rest) ≡ true) → line_test (b ∷ c ∷ rest) ≡ true
in_line_by b c rest true w d t behind = dash_line b c rest d t
in_line_by b c rest false w d t behind =
    let g : gap_test (c ∷ rest) ≡ true = (and_parts w (gap_test (c ∷ rest)) t).1 in
    either_line (b == 10) (gap_test (c ∷ rest)) (line_test (c ∷ rest)) g (behind g)

gap_in_line : (xs : List ℕ) → gap_test xs ≡ true → line_test xs ≡ true
gap_in_line [] t = refl
gap_in_line (b ∷ []) t = in_line_one (b == 10)
gap_in_line (b ∷ c ∷ rest) t = in_line_by b c rest (b == 45 && c == 45) (is_white b) refl t (λ g. gap_in_line (c ∷ rest) g)

line_over : (r rest : List ℕ) → list_all is_in_line r ≡ true → gap_test rest ≡ true → line_test (r ++ rest) ≡ true
line_over [] rest a g = gap_in_line rest g
line_over (b ∷ r) rest a g =
    let both : (not (b == 10) ≡ true) × (list_all is_in_line r ≡ true) = and_parts (not (b == 10)) (list_all is_in_line r) a in
    if_false (b == 10) (gap_test (r ++ rest)) (line_test (r ++ rest)) (not-true (b == 10) both.0) ∙ line_over r rest both.1 g

blank_first : (p rest : List ℕ) → is_gap_piece p ≡ true → gap_test rest ≡ true → gap_test (p ++ rest) ≡ true
blank_first [] rest a g = cc
blank_first (b ∷ []) rest a g = white_first b rest a g
blank_first (b ∷ c ∷ r) rest a g =
    let both : ((b == 45 && c == 45) ≡ true) × (list_all is_in_line r ≡ true) = and_parts (b == 45 && c == 45) (list_all is_in_line r) a in
    if_true (b == 45 && c == 45) (line_test (r ++ rest)) (is_white b && gap_test (c ∷ (r ++ rest))) both.0 ∙ line_over r rest both.1 g

pieces_test : (ps : List (List ℕ)) → list_all is_gap_piece ps ≡ true → gap_test (concat ps) ≡ true
pieces_test [] a = refl
pieces_test (p ∷ ps) a =
    let both : (is_gap_piece p ≡ true) × (list_all is_gap_piece ps ≡ true) = and_parts (is_gap_piece p) (list_all is_gap_piece ps) a in
    blank_first p (concat ps) both.0 (pieces_test ps both.1)

gap_tested : (xs : List ℕ) → IsGap xs → gap_test xs ≡ true
gap_tested xs g = ap gap_test g.2 ∙ pieces_test g.0 g.1

abbrev IsLineGap : List ℕ → Type 0
IsLineGap xs = (line : List ℕ) × (pieces : List (List ℕ)) × (list_all is_in_line line ≡ true) × (list_all is_gap_piece pieces ≡ true) × (xs ≡ line ++ concat pieces)

gap_white : (b : ℕ) (rest : List ℕ) → is_white b ≡ true → IsGap rest → IsGap (b ∷ rest)
gap_white b rest w g = ((b ∷ []) ∷ g.0, and_from (is_white b) (list_all is_gap_piece g.0) w g.1, ap (λ ys. b ∷ ys) g.2)

gap_dash : (b c : ℕ) (rest : List ℕ) → (b == 45 && c == 45) ≡ true → IsLineGap rest → IsGap (b ∷ c ∷ rest)
gap_dash b c rest d g = ((b ∷ c ∷ g.0) ∷ g.1, and_from (is_gap_piece (b ∷ c ∷ g.0)) (list_all is_gap_piece g.1) (and_from (b == 45 && c == 45) (list_all is_in_line g.0) d g.2) g.3, ap (λ ys. b ∷ c ∷ ys) g.4)

line_feed : (b : ℕ) (rest : List ℕ) → (b == 10) ≡ true → IsGap rest → IsLineGap (b ∷ rest)
line_feed b rest e g =
    let white : is_white b ≡ true = subst (λ x. is_white x ≡ true) (sym (eqb-true b 10 e)) refl in
    ([], (b ∷ []) ∷ g.0, refl, and_from (is_white b) (list_all is_gap_piece g.0) white g.1, ap (λ ys. b ∷ ys) g.2)

line_on : (b : ℕ) (rest : List ℕ) → (b == 10) ≡ false → IsLineGap rest → IsLineGap (b ∷ rest)
line_on b rest e g = (b ∷ g.0, g.1, and_from (not (b == 10)) (list_all is_in_line g.0) (not_from_false (b == 10) e) g.2, g.3, ap (λ ys. b ∷ ys) g.4)

gap_by : (b c : ℕ) (rest : List ℕ) (v w : Bool) → (b == 45 && c == 45) ≡ v → is_white b ≡ w → (if v then line_test rest else w && gap_test (c ∷ rest)) ≡ true
    → (line_test rest ≡ true → IsLineGap rest) → (gap_test (c ∷ rest) ≡ true → IsGap (c ∷ rest)) → IsGap (b ∷ c ∷ rest)
gap_by b c rest true w d e t h i = gap_dash b c rest d (h t)
gap_by b c rest false true d e t h i = gap_white b (c ∷ rest) e (i t)
gap_by b c rest false false d e t h i = cc

line_by : (b : ℕ) (rest : List ℕ) (v : Bool) → (b == 10) ≡ v → (if v then gap_test rest else line_test rest) ≡ true → (gap_test rest ≡ true → IsGap rest) → (line_test rest ≡ true → IsLineGap rest) → IsLineGap (b ∷ rest)
line_by b rest true e t h i = line_feed b rest e (h t)
line_by b rest false e t h i = line_on b rest e (i t)

mutual
  tested_gap : (xs : List ℕ) → gap_test xs ≡ true → IsGap xs
  tested_gap [] t = ([], refl, refl)
  tested_gap (b ∷ []) t = ((b ∷ []) ∷ [], and_from (is_white b) true t refl, refl)
  tested_gap (b ∷ c ∷ rest) t = gap_by b c rest (b == 45 && c == 45) (is_white b) refl refl t (λ l. tested_line rest l) (λ g. tested_gap (c ∷ rest) g)

  tested_line : (xs : List ℕ) → line_test xs ≡ true → IsLineGap xs
  tested_line [] t = ([], [], refl, refl, refl)
  tested_line (b ∷ rest) t = line_by b rest (b == 10) refl t (λ g. tested_gap rest g) (λ l. tested_line rest l)

within_by : (v w : Bool) (l g n : ℕ) → l ≤ n → g ≤ n + 1 → (if v then 2 + l else if w then 1 + g else 0) ≤ suc (suc n)
within_by true w l g n h i = omega arith
within_by false true l g n h i = omega arith
within_by false false l g n h i = omega arith

line_within_by : (v : Bool) (l g n : ℕ) → l ≤ n → g ≤ n → (if v then 1 + g else 1 + l) ≤ suc n
line_within_by true l g n h i = omega arith
line_within_by false l g n h i = omega arith

mutual
  pub gap_within : (xs : List ℕ) → gap_len xs ≤ length xs
  gap_within [] = omega arith
  gap_within (b ∷ []) = cond_both (is_white b) 1 0 (λ k. k ≤ 1) (λ w. omega arith) (λ w. omega arith)
  gap_within (b ∷ c ∷ rest) = within_by (b == 45 && c == 45) (is_white b) (line_len rest) (gap_len (c ∷ rest)) (length rest) (line_within rest) (omega (arith, gap_within (c ∷ rest)))

  line_within : (xs : List ℕ) → line_len xs ≤ length xs
  line_within [] = omega arith
  line_within (b ∷ rest) = line_within_by (b == 10) (line_len rest) (gap_len rest) (length rest) (line_within rest) (gap_within rest)

pub gap_front : (xs : List ℕ) → IsFront IsGap xs (gap_len xs)
gap_front xs = record {
  within = gap_within xs;
  fits = tested_gap (take (gap_len xs) xs) (gap_fits xs);
  longest = λ m more within g. let most : m ≤ gap_len xs = gap_most xs m within (gap_tested (take m xs) g) in omega arith;
}
