-- The values of tokens are within the limits.
use Rattle.std.proofs.Common.{◌≡◌, ℕ, zero, suc, ◌-◌, ◌≤◌, ◌==◌, ℤ, Bool, true, false, ◌&&◌, List, [], ◌∷◌, length, map, take, drop, refl, ap, ◌∙◌, arith}
use Rattle.std.specs.Prelude.{nat_le, nat_lt, slice_range, if◌then◌else◌, neg_ℤ, cond}
use Rattle.std.specs.List.{list_all}
use Rattle.std.specs.Str.Parse.{digits_value}
use Rattle.std.proofs.lemmas.Bool.{and_parts, and_from, le-leb, leb-true, lt-ltb}
use Rattle.std.proofs.lemmas.List.{length-map}
use Rattle.cell_values.specs.Cells.{is_of_kind}
use Rattle.cell_values.specs.Table.{negation, fits_int64, null_of_code}
use Rattle.cell_values.specs.declared.datum.Datum.{Datum}
use Rattle.cell_values.specs.declared.datum.Datum.TheVariants.{Missing, Int, Text, Bad}
use Rattle.cell_values.specs.declared.datum.FaultKind.TheVariants as overflow
use Rattle.cell_values.specs.declared.schema.Kind.TheVariants.{Str}
use Rattle.afl_lexer.specs.Lexemes.{Lexeme, Placed, a_name, a_number, a_text, a_code, a_word, a_symbol, lexeme_of, bytes_of, what_of}
use Rattle.afl_lexer.specs.Quoted.{items, byte_of, inside, items_of, content_of}
use Rattle.afl_lexer.specs.Tokens.{IsSpelled, Reaches, AreTokens}
use Rattle.afl_lexer.specs.declared.token.Token.{Token}
use Rattle.afl_lexer.specs.declared.token.TokenKind.{TokenKind}
use Rattle.afl_lexer.specs.declared.token.TokenKind.TheVariants as kind
use Rattle.afl_lexer.specs.declared.token.Word.TheVariants as word
use Rattle.check_rules.specs.Literals.{mark_of, whats}
use Rattle.check_rules.specs.declared.literals.literal.Mark.{Mark}
use Rattle.check_rules.specs.declared.literals.literal.Mark.TheVariants.{Value}

-- a number of 64 bits, a text within its limit, a code of a null
abbrev pub is_within : Datum → Bool
is_within (Int n) = fits_int64 n
is_within (Text s) = is_of_kind Str (Text s)
is_within (Missing c) = nat_le 1 c && nat_le c 127
is_within v = true

abbrev pub is_mark_within : Mark → Bool
is_mark_within (Value v) = is_within v
is_mark_within x = true

abbrev pub are_bytes : List ℕ → Bool
are_bytes = list_all (λ b. nat_lt b 256)

bytes_drop : (n : ℕ) (xs : List ℕ) → are_bytes xs ≡ true → are_bytes (drop n xs) ≡ true
bytes_drop zero xs h = h
bytes_drop (suc n) [] h = refl
bytes_drop (suc n) (x ∷ xs) h = bytes_drop n xs (and_parts (nat_lt x 256) (are_bytes xs) h).1

bytes_take : (n : ℕ) (xs : List ℕ) → are_bytes xs ≡ true → are_bytes (take n xs) ≡ true
bytes_take zero xs h = refl
bytes_take (suc n) [] h = refl
bytes_take (suc n) (x ∷ xs) h = let p = and_parts (nat_lt x 256) (are_bytes xs) h in and_from (nat_lt x 256) (are_bytes (take n xs)) p.0 (bytes_take n xs p.1)

bytes_range : (xs : List ℕ) (from to : ℕ) → are_bytes xs ≡ true → are_bytes (slice_range xs from to) ≡ true
bytes_range xs from to h = bytes_take (to - from) (drop from xs) (bytes_drop from xs h)

bytes_items : (xs : List ℕ) → are_bytes xs ≡ true → are_bytes (map byte_of (items xs)) ≡ true
bytes_items [] h = refl
bytes_items (b ∷ []) h = h
bytes_items (b ∷ c ∷ rest) h =
    let p = and_parts (nat_lt b 256) (are_bytes (c ∷ rest)) h in
    let q = and_parts (nat_lt c 256) (are_bytes rest) p.1 in
    by_test (b == 92) (and_from (nat_lt c 256) (are_bytes (map byte_of (items rest))) q.0 (bytes_items rest q.1)) (and_from (nat_lt b 256) (are_bytes (map byte_of (items (c ∷ rest)))) p.0 (bytes_items (c ∷ rest) p.1))
  where
    by_test : (t : Bool) → are_bytes (c ∷ map byte_of (items rest)) ≡ true → are_bytes (b ∷ map byte_of (items (c ∷ rest))) ≡ true → are_bytes (map byte_of (if t then (b ∷ c ∷ []) ∷ items rest else (b ∷ []) ∷ items (c ∷ rest))) ≡ true
    by_test true x y = x
    by_test false x y = y

code_within : (n : ℕ) → n ≤ 127 → is_within (null_of_code n) ≡ true
code_within zero few = refl
code_within (suc n) few = and_from (nat_le 1 (suc n)) (nat_le (suc n) 127) (le-leb 1 (suc n) (omega arith)) (le-leb (suc n) 127 few)

-- a number of 64 bits, a text within its limit, a code up to 127
abbrev pub is_lexeme_within : Lexeme → Bool
is_lexeme_within (a_number n) = fits_int64 n
is_lexeme_within (a_text s) = is_of_kind Str (Text s)
is_lexeme_within (a_code c) = nat_le c 127
is_lexeme_within x = true

spelled_within : (k : TokenKind) (bytes : List ℕ) → are_bytes bytes ≡ true → IsSpelled k bytes → is_lexeme_within (what_of k bytes) ≡ true
spelled_within kind.Name bytes h s = refl
spelled_within (kind.Int n) bytes h s = ap fits_int64 s.1 ∙ lt-ltb (digits_value 10 bytes) 9223372036854775808 s.2
spelled_within kind.Text bytes h s =
    let few : length (content_of bytes) ≤ 65535 = omega (arith, s.2, length-map (items_of bytes) byte_of) in
    and_from (nat_le (length (content_of bytes)) 65535) (are_bytes (content_of bytes)) (le-leb (length (content_of bytes)) 65535 few) (bytes_items (inside bytes) (bytes_range bytes 1 (length bytes - 1) h))
spelled_within (kind.Code n) bytes h s = le-leb n 127 s.2
spelled_within (kind.Word word) bytes h s = refl
spelled_within (kind.Symbol symbol) bytes h s = refl

reached_within : (text : List ℕ) (from to : ℕ) (tokens : List Token) → are_bytes text ≡ true → Reaches text from tokens to → list_all (λ (p : Placed). is_lexeme_within p.what) (map (lexeme_of text) tokens) ≡ true
reached_within text from to [] h r = refl
reached_within text from to (token ∷ tokens) h (gap, form, is, rest) =
    and_from (is_lexeme_within (what_of token.kind (bytes_of text token.span))) (list_all (λ (p : Placed). is_lexeme_within p.what) (map (lexeme_of text) tokens))
    (spelled_within token.kind (bytes_of text token.span) (bytes_range text token.span.start token.span.end h) is.spelled) (reached_within text token.span.end to tokens h rest)

-- what the tokens of a text say is within the limits
pub lexemes_within : (text : List ℕ) (tokens : List Token) → are_bytes text ≡ true → AreTokens text tokens → list_all (λ (p : Placed). is_lexeme_within p.what) (map (lexeme_of text) tokens) ≡ true
lexemes_within text tokens h are = reached_within text 0 are.end tokens h are.reached

mark_within : (x : Lexeme) → is_lexeme_within x ≡ true → is_mark_within (mark_of x) ≡ true
mark_within (a_name s) h = refl
mark_within (a_number n) h = h
mark_within (a_text s) h = h
mark_within (a_code n) h = code_within n (leb-true n 127 h)
mark_within (a_word word.And) h = refl
mark_within (a_word word.Or) h = refl
mark_within (a_word word.Not) h = refl
mark_within (a_word word.Null) h = refl
mark_within (a_word word.True) h = refl
mark_within (a_word word.False) h = refl
mark_within (a_word word.As) h = refl
mark_within (a_word word.Create) h = refl
mark_within (a_word word.Array) h = refl
mark_within (a_symbol symbol) h = refl

each_mark : (text : List ℕ) (tokens : List Token) → list_all (λ (p : Placed). is_lexeme_within p.what) (map (lexeme_of text) tokens) ≡ true → list_all is_mark_within (map mark_of (whats text tokens)) ≡ true
each_mark text [] h = refl
each_mark text (token ∷ tokens) h =
    let x = (lexeme_of text token).what in
    let p = and_parts (is_lexeme_within x) (list_all (λ (p : Placed). is_lexeme_within p.what) (map (lexeme_of text) tokens)) h in
    and_from (is_mark_within (mark_of x)) (list_all is_mark_within (map mark_of (whats text tokens))) (mark_within x p.0) (each_mark text tokens p.1)

pub marks_within : (text : List ℕ) (tokens : List Token) → are_bytes text ≡ true → AreTokens text tokens → list_all is_mark_within (map mark_of (whats text tokens)) ≡ true
marks_within text tokens h are = each_mark text tokens (lexemes_within text tokens h are)

-- the opposite of a number is one, or no value
exact_within : (z : ℤ) (b : Bool) → fits_int64 z ≡ b → is_within (cond b (Int z) (Bad overflow.Overflow)) ≡ true
exact_within z true e = e
exact_within z false e = refl

pub opposite_within : (n : ℤ) → is_within (negation (Int n)) ≡ true
opposite_within n = exact_within (neg_ℤ n) (fits_int64 (neg_ℤ n)) refl
