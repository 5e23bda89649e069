-- What a schema's syntax tree is printed as is read as the same tree but for places.
use Rattle.std.proofs.Common.{◌≡◌, ◌≢◌, ◌⊎◌, inl, inr, ℕ, suc, ◌≤◌, ◌<◌, ◌^◌, ℤ, pos, negsuc, Bool, true, false, ◌&&◌, List, [], ◌∷◌, ◌++◌, map, refl, sym, ap, subst, ◌∙◌, arith, append_assoc}
use Rattle.std.specs.Prelude.{◌==◌, nat_le, if◌then◌else◌, unsigned_abs, codes, length, not}
use Rattle.std.specs.List.{join_with_byte, list_all, AllByRecursion}
use Rattle.std.specs.Fmt.{decimal, signed_decimal}
use Rattle.std.proofs.lemmas.Bool.{and_parts, ne_eqb, eqb-true, leb-true, lt-leb, cases_lt}
use Rattle.afl_lexer.specs.Naming.{IsName, is_first_byte, is_digit, is_word_byte, begins_well, is_reserved}
use Rattle.afl_lexer.specs.Span.{Span}
use Rattle.afl_lexer.specs.declared.token.TokenKind.TheVariants.{Name, Int, Word, Symbol}
use Rattle.afl_lexer.specs.declared.token.Word.TheVariants.{Not, Null}
use Rattle.afl_lexer.specs.declared.token.Symbol.{Symbol as ASymbol}
use Rattle.afl_lexer.specs.declared.token.Symbol.TheVariants.{LeftBracket, RightBracket, Less, More, Equal, Comma, Colon, Star, Minus}
use Rattle.afl_lexer.specs.Lexemes.{Lexeme, a_name, a_number, a_word, a_symbol, Placed}
use Rattle.afl_lexer.specs.Tokens.{is_number}
use Rattle.afl_lexer.specs.Spelling.{Mark, says, spelled, said, EndsBefore, AreApart, lengthens_symbol}
use Rattle.afl_lexer.proofs.Printing.{lexeme_spelled}
use Rattle.schema_grammar.specs.declared.shape_text.SchemaText.{SchemaText}
use Rattle.schema_grammar.specs.declared.shape_text.AttrText.{AttrText}
use Rattle.schema_grammar.specs.declared.shape_text.DimText.{DimText}
use Rattle.schema_grammar.specs.Spelling.{placed, across, SpellsNull, SpellsAttr, SpellsAttrs, SpellsBound, SpellsHigh, SpellsDim, SpellsDims, SpellsSchema}
use Rattle.schema_grammar.specs.SchemaBytes.{null_bytes, high_bytes, bounds_bytes, lengths_bytes, attr_text_bytes, dim_text_bytes, shape_bytes}
use Rattle.schema_grammar.specs.Inner.SchemaMarks.{nowhere, bare_attr, bare_dim, bare_shape, null_marks, attr_marks, bound_marks, high_marks, lengths_marks, dim_marks, attrs_marks, dims_marks, shape_marks, IsAttrPrintable, IsDimPrintable, IsPrintable}

-- The bytes.

assoc3 : (a b c d : List ℕ) → (a ++ b ++ c) ++ d ≡ a ++ (b ++ (c ++ d))
assoc3 a b c d = append_assoc (a ++ b) c d ∙ append_assoc a b (c ++ d)

assoc4 : (a b c d e : List ℕ) → (a ++ b ++ c ++ d) ++ e ≡ a ++ (b ++ (c ++ (d ++ e)))
assoc4 a b c d e = append_assoc (a ++ b ++ c) d e ∙ assoc3 a b c (d ++ e)

assoc5 : (a b c d e f : List ℕ) → (a ++ b ++ c ++ d ++ e) ++ f ≡ a ++ (b ++ (c ++ (d ++ (e ++ f))))
assoc5 a b c d e f = append_assoc (a ++ b ++ c ++ d) e f ∙ assoc4 a b c d (e ++ f)

null_spelled : (null : Bool) (rest : List Mark) → spelled (null_marks null rest) ≡ null_bytes null ++ spelled rest
null_spelled true rest = refl
null_spelled false rest = refl

attr_spelled : (a : AttrText) (rest : List Mark) → spelled (attr_marks a rest) ≡ attr_text_bytes a ++ spelled rest
attr_spelled a rest =
    ap (λ l. a.name ++ 58 ∷ (a.word ++ l)) (null_spelled a.nullable rest)
    ∙ sym (assoc4 a.name (codes ":") a.word (null_bytes a.nullable) (spelled rest))

bound_spelled : (z : ℤ) (rest : List Mark) → spelled (bound_marks z rest) ≡ signed_decimal z ++ spelled rest
bound_spelled (pos n) rest = refl
bound_spelled (negsuc n) rest = refl

high_spelled : (z : ℤ) (rest : List Mark) → spelled (high_marks z rest) ≡ high_bytes z ++ spelled rest
high_spelled (pos n) rest = cases (n == 4611686018427387903)
  where
    cases : (b : Bool) → spelled ((if b then says (a_symbol Star) else says (a_number (pos n))) ∷ rest) ≡ (if b then codes "*" else decimal n) ++ spelled rest
    cases true = refl
    cases false = refl
high_spelled (negsuc n) rest = refl

lengths_spelled : (chunk overlap : ℕ) (rest : List Mark) → spelled (lengths_marks chunk overlap rest) ≡ codes "," ++ (lengths_bytes chunk overlap ++ spelled rest)
lengths_spelled chunk overlap rest = ap (λ l. 44 ∷ l) (sym (assoc3 (decimal chunk) (codes ",") (decimal overlap) (spelled rest)))

dim_spelled : (d : DimText) (rest : List Mark) → spelled (dim_marks d rest) ≡ dim_text_bytes d ++ spelled rest
dim_spelled d rest =
    let ends = codes "," ++ (lengths_bytes d.chunk d.overlap ++ spelled rest) in
    let high : spelled (high_marks d.hi (lengths_marks d.chunk d.overlap rest)) ≡ high_bytes d.hi ++ ends
    = high_spelled d.hi (lengths_marks d.chunk d.overlap rest) ∙ ap (λ l. high_bytes d.hi ++ l) (lengths_spelled d.chunk d.overlap rest) in
    let bounds : spelled (bound_marks d.lo (says (a_symbol Colon) ∷ high_marks d.hi (lengths_marks d.chunk d.overlap rest))) ≡ bounds_bytes d.lo d.hi ++ ends
    = bound_spelled d.lo (says (a_symbol Colon) ∷ high_marks d.hi (lengths_marks d.chunk d.overlap rest))
    ∙ ap (λ l. signed_decimal d.lo ++ 58 ∷ l) high ∙ sym (assoc3 (signed_decimal d.lo) (codes ":") (high_bytes d.hi) ends) in
    ap (λ l. d.name ++ 61 ∷ l) bounds
    ∙ sym (assoc5 d.name (codes "=") (bounds_bytes d.lo d.hi) (codes ",") (lengths_bytes d.chunk d.overlap) (spelled rest))

attrs_spelled : (bs : List AttrText) (rest : List Mark) → spelled (attrs_marks bs rest) ≡ join_with_byte 44 (map attr_text_bytes bs) ++ spelled rest
attrs_spelled [] rest = refl
attrs_spelled (a ∷ []) rest = attr_spelled a rest
attrs_spelled (a ∷ b ∷ bs) rest =
    attr_spelled a (says (a_symbol Comma) ∷ attrs_marks (b ∷ bs) rest)
    ∙ ap (λ l. attr_text_bytes a ++ 44 ∷ l) (attrs_spelled (b ∷ bs) rest)
    ∙ sym (append_assoc (attr_text_bytes a) (44 ∷ join_with_byte 44 (map attr_text_bytes (b ∷ bs))) (spelled rest))

dims_spelled : (ds : List DimText) (rest : List Mark) → spelled (dims_marks ds rest) ≡ join_with_byte 44 (map dim_text_bytes ds) ++ spelled rest
dims_spelled [] rest = refl
dims_spelled (d ∷ []) rest = dim_spelled d rest
dims_spelled (d ∷ e ∷ es) rest =
    dim_spelled d (says (a_symbol Comma) ∷ dims_marks (e ∷ es) rest)
    ∙ ap (λ l. dim_text_bytes d ++ 44 ∷ l) (dims_spelled (e ∷ es) rest)
    ∙ sym (append_assoc (dim_text_bytes d) (44 ∷ join_with_byte 44 (map dim_text_bytes (e ∷ es))) (spelled rest))

-- the marks of a tree spell its text
pub shape_spelled : (t : SchemaText) (rest : List Mark) → spelled (shape_marks t rest) ≡ shape_bytes t ++ spelled rest
shape_spelled t rest =
    let dimensions = join_with_byte 44 (map dim_text_bytes t.dimensions) in
    let attributes = join_with_byte 44 (map attr_text_bytes t.attributes) in
    ap (λ l. 60 ∷ l) (attrs_spelled t.attributes (says (a_symbol More) ∷ says (a_symbol LeftBracket) ∷ dims_marks t.dimensions (says (a_symbol RightBracket) ∷ rest)))
    ∙ ap (λ l. 60 ∷ (attributes ++ 62 ∷ 91 ∷ l)) (dims_spelled t.dimensions (says (a_symbol RightBracket) ∷ rest))
    ∙ sym (assoc5 (codes "<") attributes (codes ">[") dimensions (codes "]") (spelled rest))

-- What stands behind a token does not lengthen it.

-- bytes that begin with one that passes
abbrev Begins : (ℕ → Bool) → List ℕ → Type 0
Begins p xs = (b : ℕ) × (rest : List ℕ) × (xs ≡ b ∷ rest) × (p b ≡ true)

begins_more : (p : ℕ → Bool) (xs ys : List ℕ) → Begins p xs → Begins p (xs ++ ys)
begins_more p xs ys (b, rest, e, h) = (b, rest ++ ys, ap (λ l. l ++ ys) e, h)

name_front : (n : List ℕ) → begins_well n ≡ true → Begins is_first_byte n
name_front [] h = cc
name_front (b ∷ rest) h = (b, rest, refl, h)

name_begins : (n : List ℕ) → IsName n → Begins is_first_byte n
name_begins n h =
    let most = and_parts (nat_le (length n) 64 && begins_well n && list_all is_word_byte n) (not (is_reserved n)) h in
    let front = and_parts (nat_le (length n) 64 && begins_well n) (list_all is_word_byte n) most.0 in
    name_front n (and_parts (nat_le (length n) 64) (begins_well n) front.0).1

number_front : (ds : List ℕ) → is_number ds ≡ true → Begins is_digit ds
number_front [] h = cc
number_front (b ∷ rest) h = (b, rest, refl, (and_parts (is_digit b) (list_all is_digit rest) h).0)

number_begins : (n : ℕ) → n < 2 ^ 63 → Begins is_digit (decimal n)
number_begins n h = number_front (decimal n) (lexeme_spelled (a_number (pos n)) h).0

first_above : (b : ℕ) → is_first_byte b ≡ true → 63 ≤ b
first_above b e = by (cases_lt b 63)
  where
    by : (b < 63) ⊎ (63 ≤ b) → 63 ≤ b
    by (inr h) = h
    by (inl h) =
        let no : is_first_byte b ≡ false = rw (lt-leb 65 b (omega arith), lt-leb 97 b (omega arith), ne_eqb b 95 (λ (q : b ≡ 95). absurd (omega arith))) refl in
        let both : true ≡ false = sym e ∙ no in cc

less_ends : (xs : List ℕ) → Begins is_first_byte xs → EndsBefore (Symbol Less) xs
less_ends xs (b, rest, e, h) =
    let high : 63 ≤ b = first_above b h in
    subst (EndsBefore (Symbol Less)) (sym e) (rw (ne_eqb b 61 (λ (q : b ≡ 61). absurd (omega arith)), ne_eqb b 62 (λ (q : b ≡ 62). absurd (omega arith))) refl)

minus_ends : (xs : List ℕ) → Begins is_digit xs → EndsBefore (Symbol Minus) xs
minus_ends xs (b, rest, e, h) =
    let high : 48 ≤ b = leb-true 48 b (and_parts (nat_le 48 b) (nat_le b 57) h).0 in
    subst (EndsBefore (Symbol Minus)) (sym e) (ne_eqb b 45 (λ (q : b ≡ 45). absurd (omega arith)))

-- nothing lengthens these symbols
free_ends : (s : ASymbol) → ((b : ℕ) → lengthens_symbol s b ≡ false) → (xs : List ℕ) → EndsBefore (Symbol s) xs
free_ends s h [] = tt
free_ends s h (b ∷ rest) = h b

null_apart : (null : Bool) (word : List ℕ) (rest : List Mark) → IsName word → EndsBefore Name (spelled rest) → EndsBefore (Word Null) (spelled rest) → AreApart rest → AreApart (says (a_name word) ∷ null_marks null rest)
null_apart true word rest w n e h = (w, n, h)
null_apart false word rest w n e h = (w, refl, (tt, refl, (tt, e, h)))

attr_apart : (a : AttrText) (rest : List Mark) → IsAttrPrintable a → EndsBefore Name (spelled rest) → EndsBefore (Word Null) (spelled rest) → AreApart rest → AreApart (attr_marks a rest)
attr_apart a rest p n e h =
    (p.name, refl, (tt, free_ends Colon (λ b. refl) _, null_apart a.nullable a.word rest p.word n e h))

bound_apart : (z : ℤ) (rest : List Mark) → unsigned_abs z < 2 ^ 63 → EndsBefore (Int z) (spelled rest) → AreApart rest → AreApart (bound_marks z rest)
bound_apart (pos n) rest h e r = (h, e, r)
bound_apart (negsuc n) rest h e r = (tt, minus_ends _ (begins_more is_digit (decimal (suc n)) (spelled rest) (number_begins (suc n) h)), (h, e, r))

high_apart : (z : ℤ) (rest : List Mark) → unsigned_abs z < 2 ^ 63 → EndsBefore (Int z) (spelled rest) → AreApart rest → AreApart (high_marks z rest)
high_apart (pos n) rest h e r = cases (n == 4611686018427387903)
  where
    cases : (b : Bool) → AreApart ((if b then says (a_symbol Star) else says (a_number (pos n))) ∷ rest)
    cases true = (tt, free_ends Star (λ b. refl) (spelled rest), r)
    cases false = (h, e, r)
high_apart (negsuc n) rest h e r = bound_apart (negsuc n) rest h e r

dim_apart : (d : DimText) (rest : List Mark) → IsDimPrintable d → EndsBefore (Int (pos d.overlap)) (spelled rest) → AreApart rest → AreApart (dim_marks d rest)
dim_apart d rest p e r =
    let lengths : AreApart (lengths_marks d.chunk d.overlap rest)
    = (tt, free_ends Comma (λ b. refl) _, (p.chunk, refl, (tt, free_ends Comma (λ b. refl) _, (p.overlap, e, r)))) in
    let high : AreApart (high_marks d.hi (lengths_marks d.chunk d.overlap rest)) = high_apart d.hi (lengths_marks d.chunk d.overlap rest) p.hi refl lengths in
    (p.name, refl, (tt, free_ends Equal (λ b. refl) _, bound_apart d.lo (says (a_symbol Colon) ∷ high_marks d.hi (lengths_marks d.chunk d.overlap rest)) p.lo refl (tt, free_ends Colon (λ b. refl) _, high)))

attrs_apart : (bs : List AttrText) (rest : List Mark) → AllByRecursion IsAttrPrintable bs → EndsBefore Name (spelled rest) → EndsBefore (Word Null) (spelled rest) → AreApart rest → AreApart (attrs_marks bs rest)
attrs_apart [] rest p n e h = h
attrs_apart (a ∷ []) rest p n e h = attr_apart a rest p.0 n e h
attrs_apart (a ∷ b ∷ bs) rest p n e h =
    attr_apart a (says (a_symbol Comma) ∷ attrs_marks (b ∷ bs) rest) p.0 refl refl (tt, free_ends Comma (λ b. refl) _, attrs_apart (b ∷ bs) rest p.1 n e h)

dims_apart : (ds : List DimText) (rest : List Mark) → AllByRecursion IsDimPrintable ds → ((n : ℤ) → EndsBefore (Int n) (spelled rest)) → AreApart rest → AreApart (dims_marks ds rest)
dims_apart [] rest p e h = h
dims_apart (d ∷ []) rest p e h = dim_apart d rest p.0 (e (pos d.overlap)) h
dims_apart (d ∷ f ∷ fs) rest p e h =
    dim_apart d (says (a_symbol Comma) ∷ dims_marks (f ∷ fs) rest) p.0 refl (tt, free_ends Comma (λ b. refl) _, dims_apart (f ∷ fs) rest p.1 e h)

first_attr : (bs : List AttrText) (rest : List Mark) → bs ≢ [] → AllByRecursion IsAttrPrintable bs → Begins is_first_byte (spelled (attrs_marks bs rest))
first_attr [] rest some p = absurd (some refl)
first_attr (a ∷ []) rest some p = begins_more is_first_byte a.name _ (name_begins a.name p.0.name)
first_attr (a ∷ b ∷ bs) rest some p = begins_more is_first_byte a.name _ (name_begins a.name p.0.name)

-- no token of a printed tree is lengthened by what stands behind it
pub shape_apart : (t : SchemaText) (rest : List Mark) → IsPrintable t → AreApart rest → AreApart (shape_marks t rest)
shape_apart t rest p r =
    let dimensions : AreApart (dims_marks t.dimensions (says (a_symbol RightBracket) ∷ rest))
    = dims_apart t.dimensions (says (a_symbol RightBracket) ∷ rest) p.dimensions (λ n. refl) (tt, free_ends RightBracket (λ b. refl) (spelled rest), r) in
    let behind : AreApart (says (a_symbol More) ∷ says (a_symbol LeftBracket) ∷ dims_marks t.dimensions (says (a_symbol RightBracket) ∷ rest))
    = (tt, refl, (tt, free_ends LeftBracket (λ b. refl) _, dimensions)) in
    (tt, less_ends _ (first_attr t.attributes _ p.some_attribute p.attributes), attrs_apart t.attributes _ p.attributes refl refl behind)

-- The tokens spell the same tree.

abbrev pub whats : List Placed → List Lexeme
whats us = map (λ (x : Placed). x.what) us

-- the first token, by what it says
front : (l : Lexeme) (rest : List Lexeme) (us : List Placed) → whats us ≡ l ∷ rest → (s : Span) × (vs : List Placed) × (us ≡ placed l s ∷ vs) × (whats vs ≡ rest)
front l rest [] e = cc
front l rest (x ∷ vs) e =
    let same : x.what ≡ l = cc in
    (x.span, vs, ap (λ k. placed k x.span ∷ vs) same, cc)

null_again : (null : Bool) (us : List Placed) (rest : List Mark) → whats us ≡ said (null_marks null rest) → (vs : List Placed) × (whats vs ≡ said rest) × SpellsNull null us vs
null_again true us rest e = (us, e, inl refl)
null_again false us rest e =
    let (s, vs, f, m) = front (a_word Not) (a_word Null ∷ said rest) us e in
    let (t, ws, g, n) = front (a_word Null) (said rest) vs m in
    (ws, n, (s, t, f ∙ ap (λ l. placed (a_word Not) s ∷ l) g))

attr_again : (a : AttrText) (us : List Placed) (rest : List Mark) → whats us ≡ said (attr_marks a rest)
    → (b : AttrText) × (vs : List Placed) × (whats vs ≡ said rest) × (bare_attr b ≡ bare_attr a) × SpellsAttr b us vs
attr_again a us rest e =
    let (s, vs, f, m) = front (a_name a.name) (a_symbol Colon ∷ a_name a.word ∷ said (null_marks a.nullable rest)) us e in
    let (c, ws, g, n) = front (a_symbol Colon) (a_name a.word ∷ said (null_marks a.nullable rest)) vs m in
    let (t, ns, h, o) = front (a_name a.word) (said (null_marks a.nullable rest)) ws n in
    let (ys, p, q) = null_again a.nullable ns rest o in (
      record { name = a.name; name_span = s; word = a.word; word_span = t; nullable = a.nullable },
      ys,
      p,
      refl,
      (c, ns, f ∙ ap (λ l. placed (a_name a.name) s ∷ l) g ∙ ap (λ l. placed (a_name a.name) s ∷ placed (a_symbol Colon) c ∷ l) h, q),
    )

bound_again : (z : ℤ) (us : List Placed) (rest : List Mark) → whats us ≡ said (bound_marks z rest) → (s : Span) × (vs : List Placed) × (whats vs ≡ said rest) × SpellsBound z s us vs
bound_again (pos n) us rest e =
    let (s, vs, f, m) = front (a_number (pos n)) (said rest) us e in
    (s, vs, m, inl (n, refl, f))
bound_again (negsuc n) us rest e =
    let (m, vs, f, o) = front (a_symbol Minus) (a_number (pos (suc n)) ∷ said rest) us e in
    let (t, ws, g, p) = front (a_number (pos (suc n))) (said rest) vs o in
    (across m t, ws, p, inr (suc n, m, t, refl, refl, f ∙ ap (λ l. placed (a_symbol Minus) m ∷ l) g))

high_again : (z : ℤ) (us : List Placed) (rest : List Mark) → whats us ≡ said (high_marks z rest) → (s : Span) × (vs : List Placed) × (whats vs ≡ said rest) × SpellsHigh z s us vs
high_again (pos n) us rest e = cases (n == 4611686018427387903) refl e
  where
    cases : (b : Bool) → (n == 4611686018427387903) ≡ b → whats us ≡ said ((if b then says (a_symbol Star) else says (a_number (pos n))) ∷ rest)
        → (s : Span) × (vs : List Placed) × (whats vs ≡ said rest) × SpellsHigh (pos n) s us vs
    cases true h e =
        let (s, vs, f, m) = front (a_symbol Star) (said rest) us e in
        (s, vs, m, inr (ap pos (eqb-true n 4611686018427387903 h), f))
    cases false h e =
        let (s, vs, f, m) = front (a_number (pos n)) (said rest) us e in
        (s, vs, m, inl (inl (n, refl, f)))
high_again (negsuc n) us rest e = let (s, vs, m, h) = bound_again (negsuc n) us rest e in (s, vs, m, inl h)

-- the tokens of a chunk's length and an overlap, each with its comma
pub record Lengths (chunk overlap : ℕ) (us : List Placed) (rest : List Mark) : Type 0 where
  pub first : Span
  pub chunk_span : Span
  pub second : Span
  pub overlap_span : Span
  pub after : List Placed
  pub is : us ≡ placed (a_symbol Comma) first ∷ placed (a_number (pos chunk)) chunk_span ∷ placed (a_symbol Comma) second ∷ placed (a_number (pos overlap)) overlap_span ∷ after
  pub left : whats after ≡ said rest

lengths_are : (chunk overlap : ℕ) (s1 s2 s3 s4 : Span) (us vs ws xs ys : List Placed) (rest : List Mark)
    → us ≡ placed (a_symbol Comma) s1 ∷ vs → vs ≡ placed (a_number (pos chunk)) s2 ∷ ws → ws ≡ placed (a_symbol Comma) s3 ∷ xs → xs ≡ placed (a_number (pos overlap)) s4 ∷ ys
    → whats ys ≡ said rest → Lengths chunk overlap us rest
lengths_are chunk overlap s1 s2 s3 s4 us vs ws xs ys rest h1 h2 h3 h4 e = record {
  first = s1;
  chunk_span = s2;
  second = s3;
  overlap_span = s4;
  after = ys;
  is = h1 ∙ ap (λ l. placed (a_symbol Comma) s1 ∷ l) h2 ∙ ap (λ l. placed (a_symbol Comma) s1 ∷ placed (a_number (pos chunk)) s2 ∷ l) h3
      ∙ ap (λ l. placed (a_symbol Comma) s1 ∷ placed (a_number (pos chunk)) s2 ∷ placed (a_symbol Comma) s3 ∷ l) h4;
  left = e;
}

lengths_again : (chunk overlap : ℕ) (us : List Placed) (rest : List Mark) → whats us ≡ said (lengths_marks chunk overlap rest) → Lengths chunk overlap us rest
lengths_again chunk overlap us rest e =
    let (f1, bs, h1, p1) = front (a_symbol Comma) (a_number (pos chunk) ∷ a_symbol Comma ∷ a_number (pos overlap) ∷ said rest) us e in
    let (k, cs, h2, p2) = front (a_number (pos chunk)) (a_symbol Comma ∷ a_number (pos overlap) ∷ said rest) bs p1 in
    let (f2, ds, h3, p3) = front (a_symbol Comma) (a_number (pos overlap) ∷ said rest) cs p2 in
    let (v, es, h4, p4) = front (a_number (pos overlap)) (said rest) ds p3 in
    lengths_are chunk overlap f1 k f2 v us bs cs ds es rest h1 h2 h3 h4 p4

-- the same dimension at other places
abbrev DimAgain : DimText → List Placed → List Mark → Type 0
DimAgain d us rest = (u : DimText) × (vs : List Placed) × (whats vs ≡ said rest) × (bare_dim u ≡ bare_dim d) × SpellsDim u us vs

dim_is : (d : DimText) (s q c lo hi : Span) (us vs ws ys zs after : List Placed) (rest : List Mark)
    → us ≡ placed (a_name d.name) s ∷ vs → vs ≡ placed (a_symbol Equal) q ∷ ws → SpellsBound d.lo lo ws ys → ys ≡ placed (a_symbol Colon) c ∷ zs → SpellsHigh d.hi hi zs after
    → Lengths d.chunk d.overlap after rest → DimAgain d us rest
dim_is d s q c lo hi us vs ws ys zs after rest f g low h high l = (
  record {
    name = d.name;
    name_span = s;
    lo = d.lo;
    lo_span = lo;
    hi = d.hi;
    hi_span = hi;
    chunk = d.chunk;
    chunk_span = l.chunk_span;
    overlap = d.overlap;
    overlap_span = l.overlap_span;
  },
  l.after,
  l.left,
  refl,
  (q, c, l.first, l.second, ws, zs, f ∙ ap (λ r. placed (a_name d.name) s ∷ r) g, subst (SpellsBound d.lo lo ws) h low, subst (SpellsHigh d.hi hi zs) l.is high),
)

dim_again : (d : DimText) (us : List Placed) (rest : List Mark) → whats us ≡ said (dim_marks d rest) → DimAgain d us rest
dim_again d us rest e =
    let lengths = lengths_marks d.chunk d.overlap rest in
    let (s, vs, f, m) = front (a_name d.name) _ us e in
    let (q, ws, g, n) = front (a_symbol Equal) (said (bound_marks d.lo (says (a_symbol Colon) ∷ high_marks d.hi lengths))) vs m in
    let (lo, ys, o, low) = bound_again d.lo ws (says (a_symbol Colon) ∷ high_marks d.hi lengths) n in
    let (c, zs, h, p) = front (a_symbol Colon) (said (high_marks d.hi lengths)) ys o in
    let (hi, after, r, high) = high_again d.hi zs lengths p in
    dim_is d s q c lo hi us vs ws ys zs after rest f g low h high (lengths_again d.chunk d.overlap after rest r)

attrs_cons : (a : AttrText) (bs : List AttrText) (c : Span) (xs ys zs : List Placed) → SpellsAttr a xs (placed (a_symbol Comma) c ∷ ys) → SpellsAttrs bs ys zs → SpellsAttrs (a ∷ bs) xs zs
attrs_cons a [] c xs ys zs g h = absurd h
attrs_cons a (b ∷ bs) c xs ys zs g h = (c, ys, g, h)

dims_cons : (d : DimText) (es : List DimText) (c : Span) (xs ys zs : List Placed) → SpellsDim d xs (placed (a_symbol Comma) c ∷ ys) → SpellsDims es ys zs → SpellsDims (d ∷ es) xs zs
dims_cons d [] c xs ys zs g h = absurd h
dims_cons d (e ∷ es) c xs ys zs g h = (c, ys, g, h)

attrs_again : (bs : List AttrText) (us : List Placed) (rest : List Mark) → bs ≢ [] → whats us ≡ said (attrs_marks bs rest)
    → (cs : List AttrText) × (vs : List Placed) × (whats vs ≡ said rest) × (map bare_attr cs ≡ map bare_attr bs) × SpellsAttrs cs us vs
attrs_again [] us rest some e = absurd (some refl)
attrs_again (a ∷ []) us rest some e =
    let (b, vs, m, same, h) = attr_again a us rest e in
    (b ∷ [], vs, m, ap (λ x. x ∷ []) same, h)
attrs_again (a ∷ b ∷ bs) us rest some e =
    let (x, vs, m, same, h) = attr_again a us (says (a_symbol Comma) ∷ attrs_marks (b ∷ bs) rest) e in
    let (c, ws, f, n) = front (a_symbol Comma) (said (attrs_marks (b ∷ bs) rest)) vs m in
    let (xs, zs, o, all, g) = attrs_again (b ∷ bs) ws rest (λ q. cc) n in
    (x ∷ xs, zs, o, ap (λ y. y ∷ map bare_attr xs) same ∙ ap (λ l. bare_attr a ∷ l) all, attrs_cons x xs c us ws zs (subst (SpellsAttr x us) f h) g)

dims_again : (ds : List DimText) (us : List Placed) (rest : List Mark) → ds ≢ [] → whats us ≡ said (dims_marks ds rest)
    → (cs : List DimText) × (vs : List Placed) × (whats vs ≡ said rest) × (map bare_dim cs ≡ map bare_dim ds) × SpellsDims cs us vs
dims_again [] us rest some e = absurd (some refl)
dims_again (d ∷ []) us rest some e =
    let (b, vs, m, same, h) = dim_again d us rest e in
    (b ∷ [], vs, m, ap (λ x. x ∷ []) same, h)
dims_again (d ∷ b ∷ bs) us rest some e =
    let (x, vs, m, same, h) = dim_again d us (says (a_symbol Comma) ∷ dims_marks (b ∷ bs) rest) e in
    let (c, ws, f, n) = front (a_symbol Comma) (said (dims_marks (b ∷ bs) rest)) vs m in
    let (xs, zs, o, all, g) = dims_again (b ∷ bs) ws rest (λ q. cc) n in
    (x ∷ xs, zs, o, ap (λ y. y ∷ map bare_dim xs) same ∙ ap (λ l. bare_dim d ∷ l) all, dims_cons x xs c us ws zs (subst (SpellsDim x us) f h) g)

shape_is : (t : SchemaText) (attrs : List AttrText) (dims : List DimText) (l k b c : Span) (us xs ys zs ws vs ts : List Placed) (rest : List Mark)
    → us ≡ placed (a_symbol Less) l ∷ xs → SpellsAttrs attrs xs ys → ys ≡ placed (a_symbol More) k ∷ zs → zs ≡ placed (a_symbol LeftBracket) b ∷ ws
    → SpellsDims dims ws vs → vs ≡ placed (a_symbol RightBracket) c ∷ ts → map bare_attr attrs ≡ map bare_attr t.attributes → map bare_dim dims ≡ map bare_dim t.dimensions → whats ts ≡ said rest
    → (u : SchemaText) × (s : Span) × (vs : List Placed) × SpellsSchema u s us vs × (bare_shape u ≡ bare_shape t) × (whats vs ≡ said rest)
shape_is t attrs dims l k b c us xs ys zs ws vs ts rest f g h p i j same_attrs same_dims last =
    let behind : ys ≡ placed (a_symbol More) k ∷ placed (a_symbol LeftBracket) b ∷ ws = h ∙ ap (λ x. placed (a_symbol More) k ∷ x) p in (
      record { attributes = attrs; dimensions = dims; brackets = across b c },
      across l c,
      ts,
      (l, k, b, c, xs, ws, f, subst (SpellsAttrs attrs xs) behind g, subst (SpellsDims dims ws) j i, refl, refl),
      ap (λ attrs. record { attributes = attrs; dimensions = map bare_dim dims; brackets = nowhere }) same_attrs ∙ ap (λ ds. record { attributes = map bare_attr t.attributes; dimensions = ds; brackets = nowhere }) same_dims,
      last,
    )

-- whatever tokens say what a tree is printed as spell that tree, but for places
pub shape_again : (t : SchemaText) (us : List Placed) (rest : List Mark) → t.attributes ≢ [] → t.dimensions ≢ [] → whats us ≡ said (shape_marks t rest)
    → (u : SchemaText) × (s : Span) × (vs : List Placed) × SpellsSchema u s us vs × (bare_shape u ≡ bare_shape t) × (whats vs ≡ said rest)
shape_again t us rest some_attribute some_dimension e =
    let dimensions = says (a_symbol RightBracket) ∷ rest in
    let (l, xs, f, m) = front (a_symbol Less) _ us e in
    let (attrs, ys, n, same_attrs, g) = attrs_again t.attributes xs (says (a_symbol More) ∷ says (a_symbol LeftBracket) ∷ dims_marks t.dimensions dimensions) some_attribute m in
    let (k, zs, h, o) = front (a_symbol More) (a_symbol LeftBracket ∷ said (dims_marks t.dimensions dimensions)) ys n in
    let (b, ws, p, q) = front (a_symbol LeftBracket) (said (dims_marks t.dimensions dimensions)) zs o in
    let (dims, vs, r, same_dims, i) = dims_again t.dimensions ws dimensions some_dimension q in
    let (c, ts, j, last) = front (a_symbol RightBracket) (said rest) vs r in
    shape_is t attrs dims l k b c us xs ys zs ws vs ts rest f g h p i j same_attrs same_dims last
