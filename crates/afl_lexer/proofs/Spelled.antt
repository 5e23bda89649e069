-- What the reading of a form is, before bytes that do not lengthen it.
use Rattle.std.proofs.Common.{◌≡◌, ℕ, ◌+◌, ◌<◌, ◌≤◌, Bool, true, false, List, [], ◌∷◌, ◌++◌, Option, Some, None, length, take, drop, refl, sym, ap, subst, ◌∙◌, arith, inl, inr}
use Rattle.std.specs.Prelude.{if◌then◌else◌, ◌==◌, ◌&&◌, not, nat_le, nat_lt, pos, ⊤}
use Rattle.std.specs.List.{list_all, prefix_len, concat}
use Rattle.std.specs.Str.Parse.{digits_value}
use Rattle.std.proofs.lemmas.Bool.{and_parts, and_from, or_parts, eqb-true, leb-true, ne_eqb, not-true, lt-ltb, le-ltb, le-leb, lt-leb, cond-true, cond-false}
use Rattle.std.proofs.lemmas.List.{append-nil, take_at, append_assoc}
use Rattle.std.proofs.lemmas.List.Folds.{list_all-append}
use Rattle.cell_values.specs.Naming.{is_digit, is_first_byte, is_word_byte, begins_well, is_reserved, is_name}
use Rattle.afl_lexer.specs.declared.token.Word.{Word as AWord}
use Rattle.afl_lexer.specs.declared.token.Word.TheVariants.{And, Or, Not, Null, True, False, As, Create, Array}
use Rattle.afl_lexer.specs.declared.token.Symbol.{Symbol as ASymbol}
use Rattle.afl_lexer.specs.declared.token.Symbol.TheVariants.{LeftParen, RightParen, LeftBracket, RightBracket, Less, More, AtMost, AtLeast, Equal, Differs, NotEqual, Comma, Colon, Star, Plus, Minus, Slash, Percent, At}
use Rattle.afl_lexer.specs.declared.token.TokenKind.{TokenKind}
use Rattle.afl_lexer.specs.declared.token.TokenKind.TheVariants.{Name, Int, Text, Code, Word, Symbol}
use Rattle.afl_lexer.specs.declared.token.LexKind.{LexKind}
use Rattle.afl_lexer.specs.declared.token.LexKind.TheVariants.{UnknownCharacter, OpenText, BadEscape, TextTooLong, NameTooLong, LiteralTooLarge}
use Rattle.afl_lexer.specs.declared.reading.Reading.{Reading}
use Rattle.afl_lexer.specs.declared.reading.Reading.TheVariants.{Found, Wrong}
use Rattle.afl_lexer.specs.Quoted.{items, items_of, is_item, is_known, inside, IsText}
use Rattle.afl_lexer.specs.Tokens.{is_word, is_number, is_code, word_bytes, symbol_bytes, IsSpelled, IsWrong, IsBadEscape}
use Rattle.afl_lexer.specs.Scan.{word_of, word_kind, word_reading, number_reading, code_reading, escape_at, escape_reading, content_reading, closed_reading, text_reading, symbol_reading, reading_of}
use Rattle.afl_lexer.specs.Spelling.{lengthens, EndsBefore}
use Rattle.afl_lexer.proofs.Forms.{digit_not_first}
use Rattle.afl_lexer.proofs.Texts.{closes, EscapeTells, escape_tells, text_length}
use Rattle.afl_lexer.proofs.Words.{number_digits, word_tells, WordTells}

-- the front that passes is all of these bytes, if the next one does not
abbrev pub StopsAt : (ℕ → Bool) → List ℕ → Type 0
StopsAt p [] = ⊤
StopsAt p (b ∷ rest) = p b ≡ false

pub prefix_all : (p : ℕ → Bool) (xs rest : List ℕ) → list_all p xs ≡ true → StopsAt p rest → prefix_len p (xs ++ rest) ≡ length xs
prefix_all p [] [] t s = refl
prefix_all p [] (b ∷ rest) t s = cond-false (p b) (1 + prefix_len p rest) 0 s
prefix_all p (x ∷ xs) rest t s =
    let both : (p x ≡ true) × (list_all p xs ≡ true) = and_parts (p x) (list_all p xs) t in
    let behind : prefix_len p (xs ++ rest) ≡ length xs = prefix_all p xs rest both.1 s in
    cond-true (p x) (1 + prefix_len p (xs ++ rest)) 0 both.0 ∙ omega arith

abbrev word_from : ℕ → List ℕ → Reading
word_from n word = if nat_lt 64 n then Wrong NameTooLong 0 else Found (word_kind (word_of word)) n

abbrev number_from : ℕ → ℕ → Reading
number_from n value = if nat_lt value 9223372036854775808 then Found (Int (pos value)) n else Wrong LiteralTooLarge 0

abbrev code_from : ℕ → ℕ → Reading
code_from n value = if n == 0 then Wrong UnknownCharacter 0 else if nat_le value 127 then Found (Code value) (n + 1) else Wrong LiteralTooLarge 0

reads_word : (b : ℕ) (rest : List ℕ) → is_first_byte b ≡ true → reading_of (b ∷ rest) ≡ word_reading (b ∷ rest)
unfolding reading_of
reads_word b rest e = cond-true (is_first_byte b) (word_reading (b ∷ rest)) _ e

reads_number : (b : ℕ) (rest : List ℕ) → is_digit b ≡ true → reading_of (b ∷ rest) ≡ number_reading (b ∷ rest)
unfolding reading_of
reads_number b rest e = cond-false (is_first_byte b) (word_reading (b ∷ rest)) _ (digit_not_first b e) ∙ cond-true (is_digit b) (number_reading (b ∷ rest)) _ e

reads_code : (rest : List ℕ) → reading_of (63 ∷ rest) ≡ code_reading rest
unfolding reading_of
reads_code rest = refl

reads_text : (rest : List ℕ) → reading_of (39 ∷ rest) ≡ text_reading rest
unfolding reading_of
reads_text rest = refl

word_here : (piece rest : List ℕ) → list_all is_word_byte piece ≡ true → StopsAt is_word_byte rest → word_reading (piece ++ rest) ≡ word_from (length piece) piece
unfolding word_reading
word_here piece rest t s =
    let n : prefix_len is_word_byte (piece ++ rest) ≡ length piece = prefix_all is_word_byte piece rest t s in
    ap (λ k. word_from k (take k (piece ++ rest))) n ∙ ap (word_from (length piece)) (take_at piece rest (length piece) refl)

pub word_form_reads : (piece rest : List ℕ) → is_word piece ≡ true → StopsAt is_word_byte rest → reading_of (piece ++ rest) ≡ word_from (length piece) piece
word_form_reads [] rest w s = cc
word_form_reads (b ∷ piece) rest w s =
    let both : (is_first_byte b ≡ true) × (list_all is_word_byte (b ∷ piece) ≡ true) = and_parts (is_first_byte b) (list_all is_word_byte (b ∷ piece)) w in
    reads_word b (piece ++ rest) both.0 ∙ word_here (b ∷ piece) rest both.1 s

number_here : (piece rest : List ℕ) → list_all is_digit piece ≡ true → StopsAt is_digit rest → number_reading (piece ++ rest) ≡ number_from (length piece) (digits_value 10 piece)
unfolding number_reading
number_here piece rest t s =
    let n : prefix_len is_digit (piece ++ rest) ≡ length piece = prefix_all is_digit piece rest t s in
    ap (λ k. number_from k (digits_value 10 (take k (piece ++ rest)))) n ∙ ap (λ ys. number_from (length piece) (digits_value 10 ys)) (take_at piece rest (length piece) refl)

pub number_form_reads : (piece rest : List ℕ) → is_number piece ≡ true → StopsAt is_digit rest → reading_of (piece ++ rest) ≡ number_from (length piece) (digits_value 10 piece)
number_form_reads [] rest w s = cc
number_form_reads (b ∷ piece) rest w s = reads_number b (piece ++ rest) (and_parts (is_digit b) (list_all is_digit piece) w).0 ∙ number_here (b ∷ piece) rest w s

code_here : (ds rest : List ℕ) → list_all is_digit ds ≡ true → StopsAt is_digit rest → code_reading (ds ++ rest) ≡ code_from (length ds) (digits_value 10 ds)
unfolding code_reading
code_here ds rest t s =
    let n : prefix_len is_digit (ds ++ rest) ≡ length ds = prefix_all is_digit ds rest t s in
    ap (λ k. code_from k (digits_value 10 (take k (ds ++ rest)))) n ∙ ap (λ ys. code_from (length ds) (digits_value 10 ys)) (take_at ds rest (length ds) refl)

abbrev code_some : ℕ → ℕ → Reading
code_some n value = if nat_le value 127 then Found (Code value) n else Wrong LiteralTooLarge 0

pub code_form_reads : (piece rest : List ℕ) → is_code piece ≡ true → StopsAt is_digit rest → reading_of (piece ++ rest) ≡ code_some (length piece) (digits_value 10 (drop 1 piece))
code_form_reads [] rest w s = cc
code_form_reads (b ∷ ds) rest w s =
    let both : ((b == 63) ≡ true) × (is_number ds ≡ true) = and_parts (b == 63) (is_number ds) w in
    let digits : (0 < length ds) × (list_all is_digit ds ≡ true) = number_digits ds both.1 in
    let some : (length ds == 0) ≡ false = ne_eqb (length ds) 0 (λ (z : length ds ≡ 0). omega (arith, digits.0)) in
    let one : length ds + 1 ≡ length (b ∷ ds) = omega arith in
    ap (λ x. reading_of (x ∷ (ds ++ rest))) (eqb-true b 63 both.0) ∙ reads_code (ds ++ rest) ∙ code_here ds rest digits.1 s
    ∙ cond-false (length ds == 0) (Wrong UnknownCharacter 0) _ some ∙ ap (λ k. code_some k (digits_value 10 ds)) one

text_here : (inner rest : List ℕ) (k : ℕ) → k ≡ length inner → closed_reading (inner ++ 39 ∷ rest) (Some k) ≡ content_reading inner
text_here inner rest k e = ap content_reading (ap (λ n. take n (inner ++ 39 ∷ rest)) e ∙ take_at inner (39 ∷ rest) (length inner) refl)

text_read : (inner rest : List ℕ) → list_all is_item (items inner) ≡ true → text_reading (inner ++ 39 ∷ rest) ≡ content_reading inner
unfolding text_reading
text_read inner rest t = ap (closed_reading (inner ++ 39 ∷ rest)) (closes inner rest t) ∙ text_here inner rest (length inner) refl

pub text_form_reads : (piece rest : List ℕ) → IsText piece → reading_of (piece ++ rest) ≡ content_reading (inside piece)
text_form_reads piece rest text =
    let inner : List ℕ = inside piece in
    ap (λ ys. reading_of (ys ++ rest)) text.quotes
    ∙ ap (λ ys. reading_of (39 ∷ ys)) (append_assoc inner (39 ∷ []) rest)
    ∙ reads_text (inner ++ 39 ∷ rest) ∙ text_read inner rest text.closed

-- words, and the reserved ones among them
word_of_bytes : (w : AWord) → word_of (word_bytes w) ≡ Some w
word_of_bytes And = refl
word_of_bytes Or = refl
word_of_bytes Not = refl
word_of_bytes Null = refl
word_of_bytes True = refl
word_of_bytes False = refl
word_of_bytes As = refl
word_of_bytes Create = refl
word_of_bytes Array = refl

word_is_word : (w : AWord) → is_word (word_bytes w) ≡ true
word_is_word And = refl
word_is_word Or = refl
word_is_word Not = refl
word_is_word Null = refl
word_is_word True = refl
word_is_word False = refl
word_is_word As = refl
word_is_word Create = refl
word_is_word Array = refl

word_is_short : (w : AWord) → length (word_bytes w) ≤ 64
word_is_short And = omega arith
word_is_short Or = omega arith
word_is_short Not = omega arith
word_is_short Null = omega arith
word_is_short True = omega arith
word_is_short False = omega arith
word_is_short As = omega arith
word_is_short Create = omega arith
word_is_short Array = omega arith

word_is_reserved : (w : AWord) → is_reserved (word_bytes w) ≡ true
word_is_reserved And = refl
word_is_reserved Or = refl
word_is_reserved Not = refl
word_is_reserved Null = refl
word_is_reserved True = refl
word_is_reserved False = refl
word_is_reserved As = refl
word_is_reserved Create = refl
word_is_reserved Array = refl

name_no_word : (bytes : List ℕ) (o : Option AWord) → WordTells bytes o → is_reserved bytes ≡ false → o ≡ None
name_no_word bytes None t r = refl
name_no_word bytes (Some w) t r = let both : true ≡ false = sym (word_is_reserved w) ∙ ap is_reserved (sym t) ∙ r in cc

pub record NameParts (bytes : List ℕ) : Type 0 where
  pub short : length bytes ≤ 64
  pub word : is_word bytes ≡ true
  pub free : is_reserved bytes ≡ false

pub name_parts : (bytes : List ℕ) → is_name bytes ≡ true → NameParts bytes
name_parts bytes t =
    let a = and_parts (nat_le (length bytes) 64 && begins_well bytes && list_all is_word_byte bytes) (not (is_reserved bytes)) t in
    let b = and_parts (nat_le (length bytes) 64 && begins_well bytes) (list_all is_word_byte bytes) a.0 in
    let c = and_parts (nat_le (length bytes) 64) (begins_well bytes) b.0 in
    record { short = leb-true (length bytes) 64 c.0; word = and_from (begins_well bytes) (list_all is_word_byte bytes) c.1 b.1; free = not-true (is_reserved bytes) a.1 }

stops_at : (p : ℕ → Bool) (kind : TokenKind) (rest : List ℕ) → ((b : ℕ) → lengthens kind b ≡ p b) → EndsBefore kind rest → StopsAt p rest
stops_at p kind [] same e = e
stops_at p kind (b ∷ rest) same e = sym (same b) ∙ e

short_word : (piece : List ℕ) (o : Option AWord) → word_of piece ≡ o → length piece ≤ 64 → word_from (length piece) piece ≡ Found (word_kind o) (length piece)
short_word piece o e h = cond-false (nat_lt 64 (length piece)) (Wrong NameTooLong 0) (Found (word_kind (word_of piece)) (length piece)) (le-ltb 64 (length piece) h) ∙ ap (λ p. Found (word_kind p) (length piece)) e

symbol_less : (rest : List ℕ) → EndsBefore (Symbol Less) rest → reading_of (60 ∷ rest) ≡ Found (Symbol Less) 1
unfolding reading_of symbol_reading
symbol_less [] e = refl
symbol_less (c ∷ rest) e = let both : ((c == 61) ≡ false) × ((c == 62) ≡ false) = or_parts (c == 61) (c == 62) e in rw (both.0, both.1) refl

symbol_more : (rest : List ℕ) → EndsBefore (Symbol More) rest → reading_of (62 ∷ rest) ≡ Found (Symbol More) 1
unfolding reading_of symbol_reading
symbol_more [] e = refl
symbol_more (c ∷ rest) e = rw e refl

symbol_reads : (s : ASymbol) (rest : List ℕ) → EndsBefore (Symbol s) rest → reading_of (symbol_bytes s ++ rest) ≡ Found (Symbol s) (length (symbol_bytes s))
unfolding reading_of symbol_reading
symbol_reads LeftParen [] e = refl
symbol_reads LeftParen (c ∷ rest) e = refl
symbol_reads RightParen [] e = refl
symbol_reads RightParen (c ∷ rest) e = refl
symbol_reads LeftBracket [] e = refl
symbol_reads LeftBracket (c ∷ rest) e = refl
symbol_reads RightBracket [] e = refl
symbol_reads RightBracket (c ∷ rest) e = refl
symbol_reads Less rest e = symbol_less rest e
symbol_reads More rest e = symbol_more rest e
symbol_reads AtMost rest e = refl
symbol_reads AtLeast rest e = refl
symbol_reads Equal [] e = refl
symbol_reads Equal (c ∷ rest) e = refl
symbol_reads Differs rest e = refl
symbol_reads NotEqual rest e = refl
symbol_reads Comma [] e = refl
symbol_reads Comma (c ∷ rest) e = refl
symbol_reads Colon [] e = refl
symbol_reads Colon (c ∷ rest) e = refl
symbol_reads Star [] e = refl
symbol_reads Star (c ∷ rest) e = refl
symbol_reads Plus [] e = refl
symbol_reads Plus (c ∷ rest) e = refl
symbol_reads Minus [] e = refl
symbol_reads Minus (c ∷ rest) e = refl
symbol_reads Slash [] e = refl
symbol_reads Slash (c ∷ rest) e = refl
symbol_reads Percent [] e = refl
symbol_reads Percent (c ∷ rest) e = refl
symbol_reads At [] e = refl
symbol_reads At (c ∷ rest) e = refl

escape_none : (inner : List ℕ) (o : Option ℕ) → EscapeTells inner o → list_all is_known (items inner) ≡ true → o ≡ None
escape_none inner None t k = refl
escape_none inner (Some n) (before, item, after, same, known, bad, place) k =
    let all : (list_all is_known before && list_all is_known (item ∷ after)) ≡ true = sym (list_all-append is_known before (item ∷ after)) ∙ ap (list_all is_known) (sym same) ∙ k in
    let both = and_parts (list_all is_known before) (list_all is_known (item ∷ after)) all in
    let one = and_parts (is_known item) (list_all is_known after) both.1 in
    let no : true ≡ false = sym one.0 ∙ bad in cc

content_found : (piece : List ℕ) → IsText piece → list_all is_known (items_of piece) ≡ true → length (items_of piece) ≤ 65535 → content_reading (inside piece) ≡ Found Text (length piece)
unfolding content_reading
content_found piece text known low =
    cond-false (nat_lt 65535 (length (items_of piece))) (Wrong TextTooLong 0) (escape_reading (length (inside piece)) (escape_at (inside piece))) (le-ltb 65535 (length (items_of piece)) low)
    ∙ ap (escape_reading (length (inside piece))) (escape_none (inside piece) (escape_at (inside piece)) (escape_tells (inside piece)) known)
    ∙ ap (Found Text) (text_length piece text)

-- a token is read as what it is
pub spelled_reads : (kind : TokenKind) (piece rest : List ℕ) → IsSpelled kind piece → EndsBefore kind rest → reading_of (piece ++ rest) ≡ Found kind (length piece)
spelled_reads Name piece rest s e =
    let parts : NameParts piece = name_parts piece s in
    word_form_reads piece rest parts.word (stops_at is_word_byte Name rest (λ b. refl) e) ∙ short_word piece None (name_no_word piece (word_of piece) (word_tells piece) parts.free) parts.short
spelled_reads (Word w) piece rest s e =
    word_form_reads piece rest (ap is_word s ∙ word_is_word w) (stops_at is_word_byte (Word w) rest (λ b. refl) e)
    ∙ short_word piece (Some w) (ap word_of s ∙ word_of_bytes w) (subst (λ (ys : List ℕ). length ys ≤ 64) (sym s) (word_is_short w))
spelled_reads (Int n) piece rest (number, is, low) e =
    number_form_reads piece rest number (stops_at is_digit (Int n) rest (λ b. refl) e)
    ∙ cond-true (nat_lt (digits_value 10 piece) 9223372036854775808) (Found (Int (pos (digits_value 10 piece))) (length piece)) (Wrong LiteralTooLarge 0) (lt-ltb (digits_value 10 piece) 9223372036854775808 low)
    ∙ ap (λ z. Found (Int z) (length piece)) (sym is)
spelled_reads (Code n) piece rest (code, is, low) e =
    code_form_reads piece rest code (stops_at is_digit (Code n) rest (λ b. refl) e)
    ∙ cond-true (nat_le (digits_value 10 (drop 1 piece)) 127) (Found (Code (digits_value 10 (drop 1 piece))) (length piece)) (Wrong LiteralTooLarge 0) (le-leb (digits_value 10 (drop 1 piece)) 127 (subst (λ k. k ≤ 127) is low))
    ∙ ap (λ z. Found (Code z) (length piece)) (sym is)
spelled_reads Text piece rest (text, known, low) e = text_form_reads piece rest text ∙ content_found piece text known low
spelled_reads (Symbol s) piece rest same e = ap (λ ys. reading_of (ys ++ rest)) same ∙ symbol_reads s rest e ∙ ap (λ (ys : List ℕ). Found (Symbol s) (length ys)) (sym same)

-- the first item that is not known is one
one_first : (p : List ℕ → Bool) (xs ys : List (List ℕ)) (x y : List ℕ) (us bs : List (List ℕ)) → xs ++ x ∷ us ≡ ys ++ y ∷ bs
    → list_all p xs ≡ true → p x ≡ false → list_all p ys ≡ true → p y ≡ false → xs ≡ ys
one_first p [] [] x y us bs e a b c d = refl
one_first p [] (z ∷ ys) x y us bs e a b c d =
    let same : x ≡ z = cc in let no : true ≡ false = sym (and_parts (p z) (list_all p ys) c).0 ∙ ap p (sym same) ∙ b in cc
one_first p (z ∷ xs) [] x y us bs e a b c d =
    let same : z ≡ y = cc in let no : true ≡ false = sym (and_parts (p z) (list_all p xs) a).0 ∙ ap p same ∙ d in cc
one_first p (z ∷ xs) (w ∷ ys) x y us bs e a b c d =
    let same : z ≡ w = cc in
    let rest : xs ++ x ∷ us ≡ ys ++ y ∷ bs = cc in
    let behind : xs ≡ ys = one_first p xs ys x y us bs rest (and_parts (p z) (list_all p xs) a).1 b (and_parts (p w) (list_all p ys) c).1 d in
    cc

escape_there : (inner : List ℕ) (o : Option ℕ) → EscapeTells inner o → (before : List (List ℕ)) (item : List ℕ) (after : List (List ℕ)) → items inner ≡ before ++ item ∷ after
    → list_all is_known before ≡ true → is_known item ≡ false → o ≡ Some (length (concat before))
escape_there inner None t before item after same known bad =
    let all : (list_all is_known before && list_all is_known (item ∷ after)) ≡ true = sym (list_all-append is_known before (item ∷ after)) ∙ ap (list_all is_known) (sym same) ∙ t in
    let both = and_parts (list_all is_known before) (list_all is_known (item ∷ after)) all in
    let one = and_parts (is_known item) (list_all is_known after) both.1 in
    let no : true ≡ false = sym one.0 ∙ bad in cc
escape_there inner (Some k) (front, other, back, parts, good, wrong, place) before item after same known bad =
    let one : front ≡ before = one_first is_known front before other item back after (sym parts ∙ same) good wrong known bad in
    ap Some (place ∙ ap (λ ps. length (concat ps)) one)

text_long : (piece : List ℕ) → 65535 < length (items_of piece) → content_reading (inside piece) ≡ Wrong TextTooLong 0
unfolding content_reading
text_long piece h = cond-true (nat_lt 65535 (length (items_of piece))) (Wrong TextTooLong 0) (escape_reading (length (inside piece)) (escape_at (inside piece))) (lt-ltb 65535 (length (items_of piece)) h)

text_bad : (piece : List ℕ) (at : ℕ) → length (items_of piece) ≤ 65535 → IsBadEscape piece at → content_reading (inside piece) ≡ Wrong BadEscape at
unfolding content_reading
text_bad piece at h bad =
    let there : escape_at (inside piece) ≡ Some (length (concat bad.before)) = escape_there (inside piece) (escape_at (inside piece)) (escape_tells (inside piece)) bad.before bad.item bad.after bad.parts bad.known bad.bad in
    let place : length (concat bad.before) + 1 ≡ at = omega (arith, bad.place) in
    cond-false (nat_lt 65535 (length (items_of piece))) (Wrong TextTooLong 0) (escape_reading (length (inside piece)) (escape_at (inside piece))) (le-ltb 65535 (length (items_of piece)) h)
    ∙ ap (escape_reading (length (inside piece))) there ∙ ap (Wrong BadEscape) place

too_large : (piece : List ℕ) → (is_number piece ≡ true) × (9223372036854775808 ≤ digits_value 10 piece) → reading_of (piece ++ []) ≡ Wrong LiteralTooLarge 0
too_large piece (number, high) =
    number_form_reads piece [] number tt
    ∙ cond-false (nat_lt (digits_value 10 piece) 9223372036854775808) (Found (Int (pos (digits_value 10 piece))) (length piece)) (Wrong LiteralTooLarge 0) (le-ltb (digits_value 10 piece) 9223372036854775808 high)

code_too_large : (piece : List ℕ) → (is_code piece ≡ true) × (127 < digits_value 10 (drop 1 piece)) → reading_of (piece ++ []) ≡ Wrong LiteralTooLarge 0
code_too_large piece (code, high) =
    code_form_reads piece [] code tt
    ∙ cond-false (nat_le (digits_value 10 (drop 1 piece)) 127) (Found (Code (digits_value 10 (drop 1 piece))) (length piece)) (Wrong LiteralTooLarge 0) (lt-leb (digits_value 10 (drop 1 piece)) 127 high)

-- a form that breaks a rule is read as that
pub wrong_reads : (kind : LexKind) (piece : List ℕ) (at : ℕ) → IsWrong kind piece at → reading_of (piece ++ []) ≡ Wrong kind at
wrong_reads NameTooLong piece at (zero_at, word, long) =
    word_form_reads piece [] word tt ∙ cond-true (nat_lt 64 (length piece)) (Wrong NameTooLong 0) (Found (word_kind (word_of piece)) (length piece)) (lt-ltb 64 (length piece) long) ∙ ap (Wrong NameTooLong) (sym zero_at)
wrong_reads LiteralTooLarge piece at (zero_at, inl large) = too_large piece large ∙ ap (Wrong LiteralTooLarge) (sym zero_at)
wrong_reads LiteralTooLarge piece at (zero_at, inr large) = code_too_large piece large ∙ ap (Wrong LiteralTooLarge) (sym zero_at)
wrong_reads TextTooLong piece at (zero_at, text, long) = text_form_reads piece [] text ∙ text_long piece long ∙ ap (Wrong TextTooLong) (sym zero_at)
wrong_reads BadEscape piece at (text, low, bad) = text_form_reads piece [] text ∙ text_bad piece at low bad
wrong_reads OpenText piece at w = absurd w
wrong_reads UnknownCharacter piece at w = absurd w

pub spelled_alone : (kind : TokenKind) (piece : List ℕ) → IsSpelled kind piece → reading_of piece ≡ Found kind (length piece)
spelled_alone kind piece s = ap reading_of (sym (append-nil piece)) ∙ spelled_reads kind piece [] s tt

pub wrong_alone : (kind : LexKind) (piece : List ℕ) (at : ℕ) → IsWrong kind piece at → reading_of piece ≡ Wrong kind at
wrong_alone kind piece at w = ap reading_of (sym (append-nil piece)) ∙ wrong_reads kind piece at w
