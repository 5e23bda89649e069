-- What is spelled is read again: tokens of a text are found from its end on, one before the others.
use Rattle.std.proofs.Common.{◌≡◌, ℕ, ◌+◌, ◌<◌, ◌≤◌, ◌^◌, Bool, true, false, List, [], ◌∷◌, ◌++◌, length, map, take, drop, ◌⊎◌, inl, inr, refl, sym, ap, subst, ◌∙◌, arith}
use Rattle.std.specs.Prelude.{if◌then◌else◌, ◌==◌, ◌||◌, nat_le, pos, negsuc, slice_range}
use Rattle.std.specs.Fmt.{decimal}
use Rattle.std.specs.List.{list_all, flat_map}
use Rattle.std.specs.Char.{digit_value}
use Rattle.std.specs.Str.Parse.{digits_value, AllDigits}
use Rattle.std.proofs.lemmas.Bool.{cases_lt, and_parts, and_from, or_parts, le-leb, leb-true, lt-leb, eqb-true, ne_eqb, not_from_false}
use Rattle.std.proofs.lemmas.Fmt.{decimal_is_IsNumeral}
use Rattle.std.proofs.lemmas.Str.Parse.{digit_from_value}
use Rattle.std.proofs.lemmas.List.{append-nil, append_assoc, length-append, length-map, length-drop, drop_at, drop_all, drop-drop, take_at}
use Rattle.cell_values.specs.Naming.{is_digit, is_first_byte, begins_well, is_word_byte}
use Rattle.afl_lexer.specs.declared.token.Token.{Token}
use Rattle.afl_lexer.specs.declared.token.TokenKind.{TokenKind}
use Rattle.afl_lexer.specs.declared.token.TokenKind.TheVariants.{Name, Int, Text, Code, Word, Symbol}
use Rattle.afl_lexer.specs.declared.token.Word.{Word as AWord}
use Rattle.afl_lexer.specs.declared.token.Word.TheVariants.{And, Or, Not, Null, True, False, As, Create, Array}
use Rattle.afl_lexer.specs.declared.token.Symbol.{Symbol as ASymbol}
use Rattle.afl_lexer.specs.declared.token.Symbol.TheVariants.{LeftParen, RightParen, LeftBracket, RightBracket, Less, More, AtMost, AtLeast, Equal, Differs, NotEqual, Comma, Colon, Star, Plus, Minus, Slash, Percent, At}
use Rattle.afl_lexer.specs.declared.reading.Reading.TheVariants.{Found}
use Rattle.afl_lexer.specs.Lexemes.{Lexeme, a_name, a_number, a_text, a_code, a_word, a_symbol, what_of}
use Rattle.afl_lexer.specs.Quoted.{items, items_of, is_item, is_known, byte_of}
use Rattle.afl_lexer.specs.Scan.{gap_len, reading_of}
use Rattle.afl_lexer.specs.Spelling.{escaped, quoted_text, spelling_of, kind_of, IsLexeme, EndsBefore, Mark, a_space, says, spelled, said, AreApart, lexemes, AreReadAgain}
use Rattle.afl_lexer.specs.Tokens.{is_white, is_number, is_code, word_bytes, symbol_bytes, IsGap, IsSpelled, IsLongest, Reaches, AreTokens, BeginsAt}
use Rattle.afl_lexer.proofs.Fronts.{slice_is, one_longest}
use Rattle.afl_lexer.proofs.Judged.{IsRight}
use Rattle.afl_lexer.proofs.Places.{gap_at, token_at}
use Rattle.afl_lexer.proofs.Readings.{reading_right}
use Rattle.afl_lexer.proofs.Spelled.{name_parts, spelled_reads}
use Rattle.afl_lexer.proofs.Texts.{items_plain, inside_quoted, quoted_is_text}
use Rattle.afl_lexer.proofs.Walks.{begins_at}

-- from a place on the text has these tokens, and nothing else
abbrev pub Lexes : List ℕ → ℕ → List Token → Type 0
Lexes text from tokens = (end : ℕ) × Reaches text from tokens end × IsLongest IsGap text end (length text)

pub are_tokens : (text : List ℕ) (tokens : List Token) → Lexes text 0 tokens → AreTokens text tokens
are_tokens text tokens (end, reached, gap) = record { end = end; reached = reached; last_gap = gap }

-- the end has no tokens
pub lexes_end : (text : List ℕ) (at : ℕ) → at ≡ length text → Lexes text at []
lexes_end text at e =
    let none : drop at text ≡ [] = drop_all at text (omega arith) in
    let same : at + gap_len (drop at text) ≡ length text = ap (λ ys. at + gap_len ys) none ∙ omega arith in
    (at, refl, subst (λ (k : ℕ). IsLongest IsGap text at k) same (gap_at text at (omega arith)))

-- no gap begins with this byte
gap_none : (b : ℕ) (rest : List ℕ) → is_white b ≡ false → (b == 45) ≡ false → gap_len (b ∷ rest) ≡ 0
gap_none b [] w d = rw w refl
gap_none b (c ∷ rest) w d = rw (d, w) refl

white_apart : (b : ℕ) → 33 ≤ b → is_white b ≡ false
white_apart b h =
    rw (ne_eqb b 9 (λ (e : b ≡ 9). absurd (omega arith)), ne_eqb b 10 (λ (e : b ≡ 10). absurd (omega arith)), ne_eqb b 13 (λ (e : b ≡ 13). absurd (omega arith)), ne_eqb b 32 (λ (e : b ≡ 32). absurd (omega arith))) refl

high_none : (b : ℕ) (rest : List ℕ) → 46 ≤ b → gap_len (b ∷ rest) ≡ 0
high_none b rest h = gap_none b rest (white_apart b (omega arith)) (ne_eqb b 45 (λ (e : b ≡ 45). absurd (omega arith)))

first_high : (b : ℕ) → is_first_byte b ≡ true → 46 ≤ b
first_high b e = by (cases_lt b 46) where
  by : (b < 46) ⊎ (46 ≤ b) → 46 ≤ b
  by (inr h) = h
  by (inl h) =
      let no : is_first_byte b ≡ false = rw (lt-leb 65 b (omega arith), lt-leb 97 b (omega arith), ne_eqb b 95 (λ (q : b ≡ 95). absurd (omega arith))) refl in
      let both : true ≡ false = sym e ∙ no in cc

digit_high : (b : ℕ) → is_digit b ≡ true → 46 ≤ b
digit_high b e = let low : 48 ≤ b = leb-true 48 b (and_parts (nat_le 48 b) (nat_le b 57) e).0 in omega arith

name_gap : (piece rest : List ℕ) → begins_well piece ≡ true → gap_len (piece ++ rest) ≡ 0
name_gap [] rest w = cc
name_gap (b ∷ piece) rest w = high_none b (piece ++ rest) (first_high b w)

number_gap : (piece rest : List ℕ) → is_number piece ≡ true → gap_len (piece ++ rest) ≡ 0
number_gap [] rest w = cc
number_gap (b ∷ piece) rest w = high_none b (piece ++ rest) (digit_high b (and_parts (is_digit b) (list_all is_digit piece) w).0)

code_gap : (piece rest : List ℕ) → is_code piece ≡ true → gap_len (piece ++ rest) ≡ 0
code_gap [] rest w = cc
code_gap (b ∷ piece) rest w = let same : b ≡ 63 = eqb-true b 63 (and_parts (b == 63) (is_number piece) w).0 in high_none b (piece ++ rest) (omega arith)

quote_gap : (rest : List ℕ) → gap_len (39 ∷ rest) ≡ 0
quote_gap rest = gap_none 39 rest refl refl

word_gap : (w : AWord) (rest : List ℕ) → gap_len (word_bytes w ++ rest) ≡ 0
word_gap And rest = refl
word_gap Or rest = refl
word_gap Not rest = refl
word_gap Null rest = refl
word_gap True rest = refl
word_gap False rest = refl
word_gap As rest = refl
word_gap Create rest = refl
word_gap Array rest = refl

minus_gap : (rest : List ℕ) → EndsBefore (Symbol Minus) rest → gap_len (45 ∷ rest) ≡ 0
minus_gap [] e = refl
minus_gap (c ∷ rest) e = rw e refl

symbol_gap : (s : ASymbol) (rest : List ℕ) → EndsBefore (Symbol s) rest → gap_len (symbol_bytes s ++ rest) ≡ 0
symbol_gap LeftParen rest e = gap_none 40 rest refl refl
symbol_gap RightParen rest e = gap_none 41 rest refl refl
symbol_gap LeftBracket rest e = gap_none 91 rest refl refl
symbol_gap RightBracket rest e = gap_none 93 rest refl refl
symbol_gap Less rest e = gap_none 60 rest refl refl
symbol_gap More rest e = gap_none 62 rest refl refl
symbol_gap AtMost rest e = refl
symbol_gap AtLeast rest e = refl
symbol_gap Equal rest e = gap_none 61 rest refl refl
symbol_gap Differs rest e = refl
symbol_gap NotEqual rest e = refl
symbol_gap Comma rest e = gap_none 44 rest refl refl
symbol_gap Colon rest e = gap_none 58 rest refl refl
symbol_gap Star rest e = gap_none 42 rest refl refl
symbol_gap Plus rest e = gap_none 43 rest refl refl
symbol_gap Minus rest e = minus_gap rest e
symbol_gap Slash rest e = gap_none 47 rest refl refl
symbol_gap Percent rest e = gap_none 37 rest refl refl
symbol_gap At rest e = gap_none 64 rest refl refl

-- no gap begins where a token does
token_gap : (kind : TokenKind) (piece rest : List ℕ) → IsSpelled kind piece → EndsBefore kind rest → gap_len (piece ++ rest) ≡ 0
token_gap Name piece rest s e = name_gap piece rest (and_parts (begins_well piece) (list_all is_word_byte piece) (name_parts piece s).word).0
token_gap (Word w) piece rest s e = ap (λ ys. gap_len (ys ++ rest)) s ∙ word_gap w rest
token_gap (Int n) piece rest s e = number_gap piece rest s.0
token_gap (Code n) piece rest s e = code_gap piece rest s.0
token_gap Text piece rest s e = ap (λ ys. gap_len (ys ++ rest)) s.0.quotes ∙ quote_gap _
token_gap (Symbol s) piece rest same e = ap (λ ys. gap_len (ys ++ rest)) same ∙ symbol_gap s rest e

some_by : (bytes : List ℕ) (kind : TokenKind) (n : ℕ) → reading_of bytes ≡ Found kind n → 0 < length bytes
unfolding reading_of
some_by [] kind n r = cc
some_by (b ∷ bytes) kind n r = omega arith

some_bytes : (kind : TokenKind) (piece rest : List ℕ) → IsSpelled kind piece → EndsBefore kind rest → 0 < length (piece ++ rest)
some_bytes kind piece rest s e = some_by (piece ++ rest) kind (length piece) (spelled_reads kind piece rest s e)

-- a token before others
pub lexes_token : (text piece rest : List ℕ) (at : ℕ) (kind : TokenKind) (tokens : List Token) → drop at text ≡ piece ++ rest → IsSpelled kind piece → EndsBefore kind rest
    → Lexes text (at + length piece) tokens → Lexes text at (token_at kind at (at + length piece) ∷ tokens)
lexes_token text piece rest at kind tokens e s ends (end, reached, gap) =
    let some : 0 < length (piece ++ rest) = some_bytes kind piece rest s ends in
    let total : length (drop at text) ≡ length (piece ++ rest) = ap length e in
    let before : at < length text = omega (arith, length-drop at text) in
    let reads : reading_of (drop at text) ≡ Found kind (length piece) = ap reading_of e ∙ spelled_reads kind piece rest s ends in
    let right : IsRight (drop at text) (Found kind (length piece)) = subst (IsRight (drop at text)) reads (reading_right (drop at text) (omega arith)) in
    let token : BeginsAt text at (token_at kind at (at + length piece)) = begins_at text at kind (length piece) before right in
    let none : at + gap_len (drop at text) ≡ at = ap (λ ys. at + gap_len ys) e ∙ ap (λ n. at + n) (token_gap kind piece rest s ends) ∙ omega arith in
    let here : at ≤ length text = omega arith in
    (end, (subst (λ (k : ℕ). IsLongest IsGap text at k) none (gap_at text at here), token.form, token.is_token, reached), gap)

gap_white : (b : ℕ) (rest : List ℕ) → is_white b ≡ true → (b == 45) ≡ false → gap_len (b ∷ rest) ≡ 1 + gap_len rest
gap_white b [] w d = rw w refl
gap_white b (c ∷ rest) w d = rw (d, w) refl

longer_gap : (text rest : List ℕ) (at to : ℕ) → drop at text ≡ 32 ∷ rest → IsLongest IsGap text (at + 1) to → IsLongest IsGap text at to
longer_gap text rest at to e gap =
    let total : length (drop at text) ≡ length (32 ∷ rest) = ap length e in
    let here : at ≤ length text = omega (arith, length-drop at text) in
    let behind : drop (at + 1) text ≡ rest = sym (drop-drop 1 at text) ∙ ap (λ (ys : List ℕ). drop 1 ys) e in
    let size : gap_len (drop at text) ≡ 1 + gap_len rest = ap gap_len e ∙ gap_white 32 rest refl refl in
    let same : gap_len (drop (at + 1) text) ≡ gap_len rest = ap gap_len behind in
    let place : at + 1 + gap_len (drop (at + 1) text) ≡ to = one_longest IsGap text (at + 1) (at + 1 + gap_len (drop (at + 1) text)) to (gap_at text (at + 1) (omega (arith, gap.rises, gap.within))) gap in
    subst (λ (k : ℕ). IsLongest IsGap text at k) (omega arith) (gap_at text at here)

-- a space before tokens
pub lexes_space : (text rest : List ℕ) (at : ℕ) (tokens : List Token) → drop at text ≡ 32 ∷ rest → Lexes text (at + 1) tokens → Lexes text at tokens
lexes_space text rest at [] e (end, reached, gap) = (at, refl, longer_gap text rest at (length text) e (subst (λ (k : ℕ). IsLongest IsGap text k (length text)) (sym reached) gap))
lexes_space text rest at (token ∷ tokens) e (end, (first, form, is, reached), gap) = (end, (longer_gap text rest at token.span.start e first, form, is, reached), gap)

-- the content of a quoted text
escaped_first : (b : ℕ) (v : Bool) (rest : List ℕ) → (b == 39 || b == 92) ≡ v → items ((if v then 92 ∷ b ∷ [] else b ∷ []) ++ rest) ≡ (if v then 92 ∷ b ∷ [] else b ∷ []) ∷ items rest
escaped_first b true rest e = refl
escaped_first b false rest e = items_plain b rest (or_parts (b == 39) (b == 92) e).1

items_escaped : (content : List ℕ) → items (flat_map escaped content) ≡ map escaped content
items_escaped [] = refl
items_escaped (b ∷ content) = escaped_first b (b == 39 || b == 92) (flat_map escaped content) refl ∙ ap (λ is. escaped b ∷ is) (items_escaped content)

byte_by : (b : ℕ) (v : Bool) → byte_of (if v then 92 ∷ b ∷ [] else b ∷ []) ≡ b
byte_by b true = refl
byte_by b false = refl

bytes_escaped : (content : List ℕ) → map byte_of (map escaped content) ≡ content
bytes_escaped [] = refl
bytes_escaped (b ∷ content) = ap (λ x. x ∷ map byte_of (map escaped content)) (byte_by b (b == 39 || b == 92)) ∙ ap (λ ys. b ∷ ys) (bytes_escaped content)

item_by : (b : ℕ) (v : Bool) → (b == 39 || b == 92) ≡ v → is_item (if v then 92 ∷ b ∷ [] else b ∷ []) ≡ true
item_by b true e = refl
item_by b false e = not_from_false (b == 39 || b == 92) e

known_by : (b : ℕ) (v : Bool) → (b == 39 || b == 92) ≡ v → is_known (if v then 92 ∷ b ∷ [] else b ∷ []) ≡ true
known_by b true e = e
known_by b false e = refl

all_items : (content : List ℕ) → list_all is_item (map escaped content) ≡ true
all_items [] = refl
all_items (b ∷ content) = and_from (is_item (escaped b)) (list_all is_item (map escaped content)) (item_by b (b == 39 || b == 92) refl) (all_items content)

all_known : (content : List ℕ) → list_all is_known (map escaped content) ≡ true
all_known [] = refl
all_known (b ∷ content) = and_from (is_known (escaped b)) (list_all is_known (map escaped content)) (known_by b (b == 39 || b == 92) refl) (all_known content)

text_items : (content : List ℕ) → items_of (quoted_text content) ≡ map escaped content
text_items content = ap items (inside_quoted (flat_map escaped content)) ∙ items_escaped content

text_spelled : (content : List ℕ) → length content ≤ 65535 → IsSpelled Text (quoted_text content)
text_spelled content h =
    let size : length (items_of (quoted_text content)) ≡ length content = ap length (text_items content) ∙ length-map content escaped in (
      quoted_is_text (flat_map escaped content) (ap (list_all is_item) (items_escaped content) ∙ all_items content),
      ap (list_all is_known) (text_items content) ∙ all_known content,
      omega arith,
    )

-- decimal digits
is_digit_from : (c : ℕ) → digit_value c < 10 → is_digit c ≡ true
is_digit_from c h = let range = digit_from_value c h in and_from (nat_le 48 c) (nat_le c 57) (le-leb 48 c (omega (arith, range))) (le-leb c 57 (omega (arith, range)))

all_digits : (ds : List ℕ) → AllDigits 10 ds → list_all is_digit ds ≡ true
all_digits [] a = refl
all_digits (d ∷ ds) a = and_from (is_digit d) (list_all is_digit ds) (is_digit_from d a.0) (all_digits ds a.1)

number_from : (ds : List ℕ) → 0 < length ds → AllDigits 10 ds → is_number ds ≡ true
number_from [] h a = absurd (omega arith)
number_from (d ∷ ds) h a = all_digits (d ∷ ds) a

decimal_number : (n : ℕ) → n < 2 ^ 64 → (is_number (decimal n) ≡ true) × (digits_value 10 (decimal n) ≡ n)
decimal_number n h = let numeral = decimal_is_IsNumeral n h in (number_from (decimal n) numeral.0.0 numeral.0.1, numeral.1)

number_spelled : (n : ℕ) → n < 2 ^ 63 → IsSpelled (Int (pos n)) (decimal n)
number_spelled n h =
    let number = decimal_number n (omega arith) in
    (number.0, ap pos (sym number.1), subst (λ k. k < 2 ^ 63) (sym number.1) h)

code_spelled : (n : ℕ) → n ≤ 127 → IsSpelled (Code n) (63 ∷ decimal n)
code_spelled n h =
    let number = decimal_number n (omega arith) in
    (and_from (63 == 63) (is_number (decimal n)) refl number.0, sym number.1, h)

pub lexeme_spelled : (l : Lexeme) → IsLexeme l → IsSpelled (kind_of l) (spelling_of l)
lexeme_spelled (a_name bytes) is = is
lexeme_spelled (a_number (pos n)) is = number_spelled n is
lexeme_spelled (a_number (negsuc n)) is = absurd is
lexeme_spelled (a_text content) is = text_spelled content is
lexeme_spelled (a_code n) is = code_spelled n is
lexeme_spelled (a_word w) is = refl
lexeme_spelled (a_symbol s) is = refl

pub lexeme_said : (l : Lexeme) → what_of (kind_of l) (spelling_of l) ≡ l
lexeme_said (a_name bytes) = refl
lexeme_said (a_number n) = refl
lexeme_said (a_text content) = ap (λ is. a_text (map byte_of is)) (text_items content) ∙ ap a_text (bytes_escaped content)
lexeme_said (a_code n) = refl
lexeme_said (a_word w) = refl
lexeme_said (a_symbol s) = refl

-- the marks behind a front are read as what they say
abbrev Read : List ℕ → ℕ → List Mark → Type 0
Read text at marks = (tokens : List Token) × Lexes text at tokens × (lexemes text tokens ≡ said marks)

space_read : (text front : List ℕ) (marks : List Mark) → text ≡ front ++ 32 ∷ spelled marks → Read text (length (front ++ 32 ∷ [])) marks → Read text (length front) marks
space_read text front marks e (tokens, lexes, same) =
    let place : length (front ++ 32 ∷ []) ≡ length front + 1 = length-append front (32 ∷ []) in
    let rest : drop (length front) text ≡ 32 ∷ spelled marks = ap (drop (length front)) e ∙ drop_at front (32 ∷ spelled marks) (length front) refl in
    (tokens, lexes_space text (spelled marks) (length front) tokens rest (subst (λ (k : ℕ). Lexes text k tokens) place lexes), same)

lexeme_read : (text front : List ℕ) (l : Lexeme) (marks : List Mark) → text ≡ front ++ (spelling_of l ++ spelled marks) → IsLexeme l → EndsBefore (kind_of l) (spelled marks)
    → Read text (length (front ++ spelling_of l)) marks → Read text (length front) (says l ∷ marks)
lexeme_read text front l marks e is ends (tokens, lexes, same) =
    let piece : List ℕ = spelling_of l in
    let at : ℕ = length front in
    let place : length (front ++ piece) ≡ at + length piece = length-append front piece in
    let rest : drop at text ≡ piece ++ spelled marks = ap (drop at) e ∙ drop_at front (piece ++ spelled marks) at refl in
    let bytes : slice_range text at (at + length piece) ≡ piece = slice_is text at (length piece) ∙ ap (take (length piece)) rest ∙ take_at piece (spelled marks) (length piece) refl in
    let what : what_of (kind_of l) (slice_range text at (at + length piece)) ≡ l = ap (what_of (kind_of l)) bytes ∙ lexeme_said l in (
      token_at (kind_of l) at (at + length piece) ∷ tokens,
      lexes_token text piece (spelled marks) at (kind_of l) tokens rest (lexeme_spelled l is) ends (subst (λ (k : ℕ). Lexes text k tokens) place lexes),
      ap (λ x. x ∷ lexemes text tokens) what ∙ ap (λ xs. l ∷ xs) same,
    )

marks_read : (text front : List ℕ) (marks : List Mark) → text ≡ front ++ spelled marks → AreApart marks → Read text (length front) marks
marks_read text front [] e a =
    let size : length front ≡ length text = sym (ap length e ∙ ap length (append-nil front)) in
    ([], lexes_end text (length front) size, refl)
marks_read text front (a_space ∷ marks) e a =
    space_read text front marks e (marks_read text (front ++ 32 ∷ []) marks (e ∙ sym (append_assoc front (32 ∷ []) (spelled marks))) a)
marks_read text front (says l ∷ marks) e (is, ends, a) =
    lexeme_read text front l marks e is ends (marks_read text (front ++ spelling_of l) marks (e ∙ sym (append_assoc front (spelling_of l) (spelled marks))) a)

pub read_again : AreReadAgain
read_again marks a =
    let read : Read (spelled marks) 0 marks = marks_read (spelled marks) [] marks refl a in
    (read.0, are_tokens (spelled marks) read.0 read.1, read.2)
