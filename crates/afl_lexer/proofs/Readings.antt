-- What stands at the front of some bytes, and from a place of a text on.
use Rattle.std.proofs.Common.{◌≡◌, ℕ, ◌+◌, ◌-◌, ◌<◌, ◌≤◌, Bool, true, false, List, [], ◌∷◌, ◌++◌, length, take, drop, refl, sym, ap, subst, ◌∙◌, arith}
use Rattle.std.specs.Prelude.{if◌then◌else◌, ◌==◌}
use Rattle.std.proofs.lemmas.Bool.{eqb-true, cond_both}
use Rattle.std.specs.List.{concat}
use Rattle.std.proofs.lemmas.List.{length-append, length-take, length-drop, take_rest}
use Rattle.std.proofs.lemmas.List.Folds.{concat-append}
use Rattle.cell_values.specs.Naming.{is_digit, is_first_byte}
use Rattle.afl_lexer.specs.declared.token.TokenKind.{TokenKind}
use Rattle.afl_lexer.specs.declared.token.LexKind.{LexKind}
use Rattle.afl_lexer.specs.declared.token.LexKind.TheVariants.{UnknownCharacter, OpenText, BadEscape, TextTooLong, NameTooLong, LiteralTooLarge}
use Rattle.afl_lexer.specs.declared.reading.Reading.{Reading}
use Rattle.afl_lexer.specs.declared.reading.Reading.TheVariants.{Found, Wrong}
use Rattle.afl_lexer.specs.Quoted.{items, inside, IsText}
use Rattle.afl_lexer.specs.Tokens.{IsBadEscape}
use Rattle.afl_lexer.specs.Scan.{reading_of, word_reading, number_reading, code_reading, text_reading, symbol_reading}
use Rattle.afl_lexer.proofs.Forms.{at_quote, at_other}
use Rattle.afl_lexer.proofs.Judged.{IsRight}
use Rattle.afl_lexer.proofs.Symbols.{symbol_right}
use Rattle.afl_lexer.proofs.Texts.{text_right, text_length}
use Rattle.afl_lexer.proofs.Words.{word_right, number_right, code_right}

pub reading_right : (bytes : List ℕ) → 0 < length bytes → IsRight bytes (reading_of bytes)
unfolding reading_of
reading_right [] h = absurd (omega arith)
reading_right (b ∷ rest) h =
    let P = IsRight (b ∷ rest) in
    cond_both (is_first_byte b) (word_reading (b ∷ rest)) _ P (λ e. word_right b rest e) (λ e.
    cond_both (is_digit b) (number_reading (b ∷ rest)) _ P (λ f. number_right b rest f) (λ f.
    cond_both (b == 63) (code_reading rest) _ P (λ g. code_right b rest g) (λ g.
    cond_both (b == 39) (text_reading rest) (symbol_reading (b ∷ rest)) P (λ q. text_right b rest (at_quote b q) (eqb-true b 39 q)) (λ q.
    symbol_right b rest (at_other b e f g q)))))

items_by : (v : Bool) (b c : ℕ) (rest : List ℕ) → concat (items rest) ≡ rest → concat (items (c ∷ rest)) ≡ c ∷ rest
    → concat (if v then (b ∷ c ∷ []) ∷ items rest else (b ∷ []) ∷ items (c ∷ rest)) ≡ b ∷ c ∷ rest
items_by true b c rest e f = ap (λ ys. b ∷ c ∷ ys) e
items_by false b c rest e f = ap (λ ys. b ∷ ys) f

-- the items are all the bytes
items_join : (xs : List ℕ) → concat (items xs) ≡ xs
items_join [] = refl
items_join (b ∷ []) = refl
items_join (b ∷ c ∷ rest) = items_by (b == 92) b c rest (items_join rest) (items_join (c ∷ rest))

escape_within : (bytes : List ℕ) (at : ℕ) → IsText bytes → IsBadEscape bytes at → at ≤ length bytes
escape_within bytes at text bad =
    let inner : List ℕ = inside bytes in
    let all : inner ≡ concat bad.before ++ concat (bad.item ∷ bad.after) = sym (items_join inner) ∙ ap concat bad.parts ∙ concat-append bad.before (bad.item ∷ bad.after) in
    let sum : length inner ≡ length (concat bad.before) + length (concat (bad.item ∷ bad.after)) = ap length all ∙ length-append (concat bad.before) (concat (bad.item ∷ bad.after)) in
    let size : length inner + 2 ≡ length bytes = text_length bytes text in
    omega (arith, bad.place)

pub found_within : (bytes : List ℕ) (kind : TokenKind) (n : ℕ) → IsRight bytes (Found kind n) → (0 < n) × (n ≤ length bytes)
found_within bytes kind n (some, front, spelled) = (some, front.within)

pub wrong_within : (bytes : List ℕ) (kind : LexKind) (at : ℕ) → IsRight bytes (Wrong kind at) → at ≤ length bytes
wrong_within bytes UnknownCharacter at (e, none, q) = omega arith
wrong_within bytes OpenText at (e, none, q) = omega arith
wrong_within bytes NameTooLong at (n, front, wrong) = omega (arith, wrong.0)
wrong_within bytes LiteralTooLarge at (n, front, wrong) = omega (arith, wrong.0)
wrong_within bytes TextTooLong at (n, front, wrong) = omega (arith, wrong.0)
wrong_within bytes BadEscape at (n, front, wrong) =
    let low : at ≤ length (take n bytes) = escape_within (take n bytes) at wrong.0 wrong.2 in
    omega (arith, length-take n bytes)

-- the reading of a rest, as code takes it
pub right_here : (text : List ℕ) (at : ℕ) (reading : Reading) → at < length text → reading ≡ reading_of (take (length text - at) (drop at text)) → IsRight (drop at text) reading
right_here text at reading h e =
    subst (IsRight (drop at text)) (sym (e ∙ ap reading_of (take_rest text at))) (reading_right (drop at text) (simp length-drop (omega arith)))
