-- Which form some bytes may have, by the first one.
use Rattle.std.proofs.Common.{◌≡◌, ℕ, ◌<◌, ◌≤◌, Bool, true, false, List, [], ◌∷◌, ◌++◌, length, get_or, refl, sym, ap, subst, ◌∙◌, arith}
use Rattle.std.specs.Prelude.{if◌then◌else◌, ◌==◌, nat_le}
use Rattle.std.specs.List.{list_all}
use Rattle.std.proofs.lemmas.Bool.{and_parts, eqb-true, leb-true, lt-leb, ne_eqb}
use Rattle.cell_values.specs.Naming.{is_digit, is_first_byte, is_word_byte}
use Rattle.afl_lexer.specs.declared.token.Symbol.{Symbol}
use Rattle.afl_lexer.specs.declared.token.Symbol.TheVariants.{LeftParen, RightParen, LeftBracket, RightBracket, Less, More, AtMost, AtLeast, Equal, Differs, NotEqual, Comma, Colon, Star, Plus, Minus, Slash, Percent, At}
use Rattle.afl_lexer.specs.Quoted.{inside, IsText}
use Rattle.afl_lexer.specs.Tokens.{is_word, is_number, is_code, symbol_bytes, IsForm, word_form, number_form, code_form, text_form, symbol_form}

-- what a token that begins with a byte can be
pub data Start : Type 0 where
  letter : Start
  digit : Start
  question : Start
  quote : Start
  other : Start

abbrev pub start_of : ℕ → Start
start_of b = if is_first_byte b then letter else if is_digit b then digit else if b == 63 then question else if b == 39 then quote else other

abbrev pub FormBy : Start → List ℕ → Type 0
FormBy letter bytes = is_word bytes ≡ true
FormBy digit bytes = is_number bytes ≡ true
FormBy question bytes = is_code bytes ≡ true
FormBy quote bytes = IsText bytes
FormBy other bytes = (symbol : Symbol) × (bytes ≡ symbol_bytes symbol)

choose_true : (v : Bool) (x y : Start) → v ≡ true → (if v then x else y) ≡ x
choose_true v x y e = ap (λ u. if u then x else y) e

choose_false : (v : Bool) (x y : Start) → v ≡ false → (if v then x else y) ≡ y
choose_false v x y e = ap (λ u. if u then x else y) e

-- a digit is no letter and no `_`
pub digit_not_first : (b : ℕ) → is_digit b ≡ true → is_first_byte b ≡ false
digit_not_first b d =
    let both : (nat_le 48 b ≡ true) × (nat_le b 57 ≡ true) = and_parts (nat_le 48 b) (nat_le b 57) d in
    let low : 48 ≤ b = leb-true 48 b both.0 in
    let high : b ≤ 57 = leb-true b 57 both.1 in
    rw (lt-leb 65 b (omega arith), lt-leb 97 b (omega arith), ne_eqb b 95 (λ (e : b ≡ 95). absurd (omega arith))) refl

pub at_letter : (b : ℕ) → is_first_byte b ≡ true → start_of b ≡ letter
at_letter b e = choose_true (is_first_byte b) letter _ e

pub at_digit : (b : ℕ) → is_digit b ≡ true → start_of b ≡ digit
at_digit b e = choose_false (is_first_byte b) letter _ (digit_not_first b e) ∙ choose_true (is_digit b) digit _ e

pub at_question : (b : ℕ) → (b == 63) ≡ true → start_of b ≡ question
at_question b e = ap start_of (eqb-true b 63 e)

pub at_quote : (b : ℕ) → (b == 39) ≡ true → start_of b ≡ quote
at_quote b e = ap start_of (eqb-true b 39 e)

pub at_other : (b : ℕ) → is_first_byte b ≡ false → is_digit b ≡ false → (b == 63) ≡ false → (b == 39) ≡ false → start_of b ≡ other
at_other b e f g h = choose_false (is_first_byte b) letter _ e ∙ choose_false (is_digit b) digit _ f ∙ choose_false (b == 63) question _ g ∙ choose_false (b == 39) quote _ h

symbol_start : (s : Symbol) → start_of (get_or (symbol_bytes s) 0 0) ≡ other
symbol_start LeftParen = refl
symbol_start RightParen = refl
symbol_start LeftBracket = refl
symbol_start RightBracket = refl
symbol_start Less = refl
symbol_start More = refl
symbol_start AtMost = refl
symbol_start AtLeast = refl
symbol_start Equal = refl
symbol_start Differs = refl
symbol_start NotEqual = refl
symbol_start Comma = refl
symbol_start Colon = refl
symbol_start Star = refl
symbol_start Plus = refl
symbol_start Minus = refl
symbol_start Slash = refl
symbol_start Percent = refl
symbol_start At = refl

pub form_by : (b : ℕ) (rest : List ℕ) → IsForm (b ∷ rest) → FormBy (start_of b) (b ∷ rest)
form_by b rest (word_form h) = subst (λ k. FormBy k (b ∷ rest)) (sym (at_letter b (and_parts (is_first_byte b) (list_all is_word_byte (b ∷ rest)) h).0)) h
form_by b rest (number_form h) = subst (λ k. FormBy k (b ∷ rest)) (sym (at_digit b (and_parts (is_digit b) (list_all is_digit rest) h).0)) h
form_by b rest (code_form h) = subst (λ k. FormBy k (b ∷ rest)) (sym (at_question b (and_parts (b == 63) (is_number rest) h).0)) h
form_by b rest (text_form h) = subst (λ k. FormBy k (b ∷ rest)) (sym (ap (λ (ys : List ℕ). start_of (get_or ys 0 0)) h.quotes)) h
form_by b rest (symbol_form s e) = subst (λ k. FormBy k (b ∷ rest)) (sym (ap (λ (ys : List ℕ). start_of (get_or ys 0 0)) e ∙ symbol_start s)) (s, e)

-- no bytes have no form
nil_length : (s : Symbol) → 0 < length (symbol_bytes s)
nil_length LeftParen = omega arith
nil_length RightParen = omega arith
nil_length LeftBracket = omega arith
nil_length RightBracket = omega arith
nil_length Less = omega arith
nil_length More = omega arith
nil_length AtMost = omega arith
nil_length AtLeast = omega arith
nil_length Equal = omega arith
nil_length Differs = omega arith
nil_length NotEqual = omega arith
nil_length Comma = omega arith
nil_length Colon = omega arith
nil_length Star = omega arith
nil_length Plus = omega arith
nil_length Minus = omega arith
nil_length Slash = omega arith
nil_length Percent = omega arith
nil_length At = omega arith

pub nil_no_form : IsForm [] → ⊥
nil_no_form (word_form h) = cc
nil_no_form (number_form h) = cc
nil_no_form (code_form h) = cc
nil_no_form (text_form h) = let e : length {A = ℕ} [] ≡ length {A = ℕ} (39 ∷ inside [] ++ 39 ∷ []) = ap length h.quotes in omega arith
nil_no_form (symbol_form s e) = let p : 0 < length {A = ℕ} [] = subst (λ (ys : List ℕ). 0 < length ys) (sym e) (nil_length s) in omega arith
