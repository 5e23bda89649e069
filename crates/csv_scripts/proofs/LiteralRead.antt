-- What a literal of records spells is read as the records.
use Rattle.std.proofs.Common.{◌≡◌, inl, inr, ℕ, zero, suc, ◌≤◌, ◌<◌, ◌^◌, pos, negsuc, Bool, true, false, List, [], ◌∷◌, ◌++◌, map, length, refl, sym, ap, subst, ◌∙◌, arith, append_assoc}
use Rattle.std.specs.Prelude.{nat_le}
use Rattle.std.specs.List.{join_with_byte, list_all}
use Rattle.std.specs.Fmt.{decimal}
use Rattle.std.proofs.lemmas.Bool.{and_parts, ne_eqb, leb-true, ltb-true}
use Rattle.cell_values.specs.Naming.{is_digit}
use Rattle.cell_values.specs.declared.datum.Datum.{Datum}
use Rattle.cell_values.specs.declared.datum.Datum.TheVariants.{Null, Missing, Int, Text, Truth, Bad}
use Rattle.cell_values.specs.Table.{negation}
use Rattle.afl_lexer.specs.declared.token.Word.{Word as AWord}
use Rattle.afl_lexer.specs.declared.token.Word.TheVariants as word
use Rattle.afl_lexer.specs.declared.token.TokenKind.TheVariants as kind
use Rattle.afl_lexer.specs.declared.token.Symbol.{Symbol as ASymbol}
use Rattle.afl_lexer.specs.declared.token.Symbol.TheVariants.{LeftParen, RightParen, LeftBracket, RightBracket, Comma, Minus}
use Rattle.afl_lexer.specs.Lexemes.{a_number, a_symbol}
use Rattle.afl_lexer.specs.Tokens.{is_number}
use Rattle.afl_lexer.specs.Spelling.{Mark, says, spelled, said, EndsBefore, AreApart, lengthens_symbol}
use Rattle.afl_lexer.proofs.Printing.{lexeme_spelled, read_again}
use Rattle.result_print.specs.Texts.{spelled as value_bytes}
use Rattle.check_rules.specs.Literals.{mark_of, SpellsValue, SpellsValues, SpellsElement, SpellsElements, SpellsLiteral, SpellsElementsOf}
use Rattle.csv_scripts.specs.Literal.{element_bytes, literal_bytes, is_spellable, are_spellable, are_all_spellable, LiteralsAreRead}
use Rattle.csv_scripts.specs.Marks.{value_marks, values_marks, element_marks, elements_marks, literal_marks}

-- The bytes.

value_spelled : (v : Datum) (rest : List Mark) → spelled (value_marks v rest) ≡ value_bytes v ++ spelled rest
value_spelled Null rest = refl
value_spelled (Missing code) rest = refl
value_spelled (Int (pos n)) rest = refl
value_spelled (Int (negsuc n)) rest = refl
value_spelled (Text content) rest = refl
value_spelled (Truth true) rest = refl
value_spelled (Truth false) rest = refl
value_spelled (Bad kind) rest = refl

values_spelled : (v : Datum) (vs : List Datum) (rest : List Mark)
    → spelled (values_marks v vs rest) ≡ join_with_byte 44 (map value_bytes (v ∷ vs)) ++ 41 ∷ spelled rest
values_spelled v [] rest = value_spelled v (says (a_symbol RightParen) ∷ rest)
values_spelled v (w ∷ ws) rest =
    value_spelled v (says (a_symbol Comma) ∷ values_marks w ws rest)
    ∙ ap (λ l. value_bytes v ++ 44 ∷ l) (values_spelled w ws rest)
    ∙ sym (append_assoc (value_bytes v) (44 ∷ join_with_byte 44 (map value_bytes (w ∷ ws))) (41 ∷ spelled rest))

element_spelled : (e : List Datum) (rest : List Mark) → spelled (element_marks e rest) ≡ element_bytes e ++ spelled rest
element_spelled [] rest = refl
element_spelled (v ∷ vs) rest =
    ap (λ l. 40 ∷ l) (values_spelled v vs rest ∙ sym (append_assoc (join_with_byte 44 (map value_bytes (v ∷ vs))) (41 ∷ []) (spelled rest)))

elements_spelled : (e : List Datum) (es : List (List Datum)) → spelled (elements_marks e es) ≡ join_with_byte 44 (map element_bytes (e ∷ es)) ++ 93 ∷ []
elements_spelled e [] = element_spelled e (says (a_symbol RightBracket) ∷ [])
elements_spelled e (f ∷ fs) =
    element_spelled e (says (a_symbol Comma) ∷ elements_marks f fs)
    ∙ ap (λ l. element_bytes e ++ 44 ∷ l) (elements_spelled f fs)
    ∙ sym (append_assoc (element_bytes e) (44 ∷ join_with_byte 44 (map element_bytes (f ∷ fs))) (93 ∷ []))

literal_spelled : (rows : List (List Datum)) → spelled (literal_marks rows) ≡ literal_bytes rows
literal_spelled [] = refl
literal_spelled (e ∷ es) = ap (λ l. 91 ∷ l) (elements_spelled e es)

-- What stands behind a token does not lengthen it.

number_front : (ds : List ℕ) → is_number ds ≡ true → (b : ℕ) × (rest : List ℕ) × (ds ≡ b ∷ rest) × (is_digit b ≡ true)
number_front [] h = cc
number_front (b ∷ rest) h = (b, rest, refl, (and_parts (is_digit b) (list_all is_digit rest) h).0)

minus_ends : (n : ℕ) (xs : List ℕ) → n < 2 ^ 63 → EndsBefore (kind.Symbol Minus) (decimal n ++ xs)
minus_ends n xs h =
    let front = number_front (decimal n) (lexeme_spelled (a_number (pos n)) h).0 in
    let high : 48 ≤ front.0 = leb-true 48 front.0 (and_parts (nat_le 48 front.0) (nat_le front.0 57) front.3).0 in
    subst (λ (l : List ℕ). EndsBefore (kind.Symbol Minus) (l ++ xs)) (sym front.2) (ne_eqb front.0 45 (λ (q : front.0 ≡ 45). absurd (omega arith)))

free_ends : (s : ASymbol) → ((b : ℕ) → lengthens_symbol s b ≡ false) → (xs : List ℕ) → EndsBefore (kind.Symbol s) xs
free_ends s h [] = tt
free_ends s h (b ∷ rest) = h b

-- no value goes on into what stands behind it
record Closes (xs : List ℕ) : Type 0 where
  words : (w : AWord) → EndsBefore (kind.Word w) xs
  numbers : (n : ℕ) → EndsBefore (kind.Int (pos n)) xs
  codes : (n : ℕ) → EndsBefore (kind.Code n) xs
  texts : EndsBefore kind.Text xs

comma_closes : (xs : List ℕ) → Closes (44 ∷ xs)
comma_closes xs = record { words = λ w. refl; numbers = λ n. refl; codes = λ n. refl; texts = refl }

paren_closes : (xs : List ℕ) → Closes (41 ∷ xs)
paren_closes xs = record { words = λ w. refl; numbers = λ n. refl; codes = λ n. refl; texts = refl }

value_apart : (v : Datum) (rest : List Mark) → is_spellable v ≡ true → Closes (spelled rest) → AreApart rest → AreApart (value_marks v rest)
value_apart Null rest h c a = (tt, c.words word.Null, a)
value_apart (Missing code) rest h c a = (leb-true code 127 (and_parts (nat_le 1 code) (nat_le code 127) h).1, c.codes code, a)
value_apart (Int (pos n)) rest h c a = let low = ltb-true n 9223372036854775808 h in (low, c.numbers n, a)
value_apart (Int (negsuc n)) rest h c a =
    let low : n < 9223372036854775807 = ltb-true n 9223372036854775807 h in
    let next : suc n < 2 ^ 63 = omega arith in
    (tt, minus_ends (suc n) (spelled rest) next, (next, c.numbers (suc n), a))
value_apart (Text content) rest h c a = (leb-true (length content) 65535 h, c.texts, a)
value_apart (Truth true) rest h c a = (tt, c.words word.True, a)
value_apart (Truth false) rest h c a = (tt, c.words word.False, a)
value_apart (Bad kind) rest h c a = cc

values_apart : (v : Datum) (vs : List Datum) (rest : List Mark) → are_spellable (v ∷ vs) ≡ true → AreApart rest → AreApart (values_marks v vs rest)
values_apart v [] rest h a =
    value_apart v (says (a_symbol RightParen) ∷ rest) (and_parts (is_spellable v) true h).0 (paren_closes (spelled rest))
    (tt, free_ends RightParen (λ b. refl) (spelled rest), a)
values_apart v (w ∷ ws) rest h a =
    let parts = and_parts (is_spellable v) (are_spellable (w ∷ ws)) h in
    value_apart v (says (a_symbol Comma) ∷ values_marks w ws rest) parts.0 (comma_closes (spelled (values_marks w ws rest)))
    (tt, free_ends Comma (λ b. refl) (spelled (values_marks w ws rest)), values_apart w ws rest parts.1 a)

element_apart : (e : List Datum) (rest : List Mark) → are_spellable e ≡ true → AreApart rest → AreApart (element_marks e rest)
element_apart [] rest h a = (tt, refl, (tt, free_ends RightParen (λ b. refl) (spelled rest), a))
element_apart (v ∷ vs) rest h a = (tt, free_ends LeftParen (λ b. refl) (spelled (values_marks v vs rest)), values_apart v vs rest h a)

elements_apart : (e : List Datum) (es : List (List Datum)) → are_all_spellable (e ∷ es) ≡ true → AreApart (elements_marks e es)
elements_apart e [] h = element_apart e (says (a_symbol RightBracket) ∷ []) (and_parts (are_spellable e) true h).0 (tt, tt, tt)
elements_apart e (f ∷ fs) h =
    let parts = and_parts (are_spellable e) (are_all_spellable (f ∷ fs)) h in
    element_apart e (says (a_symbol Comma) ∷ elements_marks f fs) parts.0
    (tt, free_ends Comma (λ b. refl) (spelled (elements_marks f fs)), elements_apart f fs parts.1)

literal_apart : (rows : List (List Datum)) → are_all_spellable rows ≡ true → AreApart (literal_marks rows)
literal_apart [] h = (tt, refl, (tt, tt, tt))
literal_apart (e ∷ es) h = (tt, free_ends LeftBracket (λ b. refl) (spelled (elements_marks e es)), elements_apart e es h)

-- What the tokens say.

opposite : (n : ℕ) → n < 9223372036854775807 → Int (negsuc n) ≡ negation (Int (pos (suc n)))
opposite n h = grind arith

value_said : (v : Datum) (rest : List Mark) → is_spellable v ≡ true → SpellsValue v (map mark_of (said (value_marks v rest))) (map mark_of (said rest))
value_said Null rest h = inl refl
value_said (Missing zero) rest h = cc
value_said (Missing (suc code)) rest h = inl refl
value_said (Int (pos n)) rest h = inl refl
value_said (Int (negsuc n)) rest h = inr (pos (suc n), opposite n (ltb-true n 9223372036854775807 h), refl)
value_said (Text content) rest h = inl refl
value_said (Truth true) rest h = inl refl
value_said (Truth false) rest h = inl refl
value_said (Bad kind) rest h = cc

values_said : (v : Datum) (vs : List Datum) (rest : List Mark) → are_spellable (v ∷ vs) ≡ true → SpellsValues v vs (map mark_of (said (values_marks v vs rest))) (map mark_of (said rest))
values_said v [] rest h = value_said v (says (a_symbol RightParen) ∷ rest) (and_parts (is_spellable v) true h).0
values_said v (w ∷ ws) rest h =
    let parts = and_parts (is_spellable v) (are_spellable (w ∷ ws)) h in
    (map mark_of (said (values_marks w ws rest)), value_said v (says (a_symbol Comma) ∷ values_marks w ws rest) parts.0, values_said w ws rest parts.1)

element_said : (bare : Bool) (e : List Datum) (rest : List Mark) → are_spellable e ≡ true → SpellsElement bare e (map mark_of (said (element_marks e rest))) (map mark_of (said rest))
element_said bare [] rest h = refl
element_said bare (v ∷ vs) rest h = inl (map mark_of (said (values_marks v vs rest)), refl, values_said v vs rest h)

elements_said : (bare : Bool) (e : List Datum) (es : List (List Datum)) → are_all_spellable (e ∷ es) ≡ true → SpellsElements bare e es (map mark_of (said (elements_marks e es)))
elements_said bare e [] h = element_said bare e (says (a_symbol RightBracket) ∷ []) (and_parts (are_spellable e) true h).0
elements_said bare e (f ∷ fs) h =
    let parts = and_parts (are_spellable e) (are_all_spellable (f ∷ fs)) h in
    (map mark_of (said (elements_marks f fs)), element_said bare e (says (a_symbol Comma) ∷ elements_marks f fs) parts.0, elements_said bare f fs parts.1)

literal_said : (bare : Bool) (rows : List (List Datum)) → are_all_spellable rows ≡ true → SpellsLiteral bare rows (map mark_of (said (literal_marks rows)))
literal_said bare [] h = refl
literal_said bare (e ∷ es) h = (map mark_of (said (elements_marks e es)), refl, elements_said bare e es h)

pub literals_are_read : LiteralsAreRead
literals_are_read bare rows h few =
    let read = read_again (literal_marks rows) (literal_apart rows h) in
    let marks : SpellsLiteral bare rows (map mark_of _) = subst (λ xs. SpellsLiteral bare rows (map mark_of xs)) (sym read.2) (literal_said bare rows h) in
    let same : spelled (literal_marks rows) ≡ literal_bytes rows = literal_spelled rows in
    let short : length (spelled (literal_marks rows)) ≤ 65535 = subst (λ (l : List ℕ). length l ≤ 65535) (sym same) few in
    subst (λ (text : List ℕ). SpellsElementsOf bare text rows) same (record { few = short; tokens = read.0; are_tokens = read.1; marks = marks })
