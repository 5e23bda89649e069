-- What a tree is printed as is read as the same tree but for places.
use Rattle.std.proofs.Common.{◌≡◌, ◌≢◌, inl, inr, ℕ, zero, suc, ◌<◌, ◌^◌, ℤ, pos, neg_ℤ, Bool, true, false, List, [], ◌∷◌, ◌++◌, refl, sym, ap, subst, ◌∙◌, arith, append_assoc}
use Rattle.std.specs.Prelude.{◌==◌, ⊤, unsigned_abs, codes}
use Rattle.std.specs.Fmt.{signed_decimal}
use Rattle.std.specs.List.{join_with_byte, AllByRecursion}
use Rattle.std.proofs.lemmas.List.{length-map}
use Rattle.cell_values.specs.Naming.{IsName, is_word_byte, is_digit}
use Rattle.cell_values.specs.declared.name.Span.{Span}
use Rattle.afl_lexer.specs.declared.token.Token.{Token}
use Rattle.afl_lexer.specs.declared.token.TokenKind.{TokenKind}
use Rattle.afl_lexer.specs.declared.token.TokenKind.TheVariants.{Name, Int, Text, Code, Word, Symbol}
use Rattle.afl_lexer.specs.declared.token.Word.TheVariants.{And as AndWord, Or as OrWord, Not, Null, True, False, As, Create, Array}
use Rattle.afl_lexer.specs.declared.token.Symbol.{Symbol as ASymbol}
use Rattle.afl_lexer.specs.declared.token.Symbol.TheVariants as symbol
use Rattle.afl_lexer.specs.Lexemes.{Lexeme, a_name, a_number, a_text, a_code, a_word, a_symbol, Placed, what_of, bytes_of}
use Rattle.afl_lexer.specs.Quoted.{items_of, byte_of}
use Rattle.afl_lexer.specs.Tokens.{IsSpelled, Reaches}
use Rattle.afl_lexer.specs.Spelling.{Mark, a_space, says, spelled, kind_of, spelling_of, IsLexeme, lengthens, lengthens_symbol, EndsBefore, AreApart}
use Rattle.schema_grammar.specs.declared.shape_text.SchemaText.{SchemaText}
use Rattle.schema_grammar.specs.declared.shape_text.AttrText.{AttrText}
use Rattle.schema_grammar.specs.declared.shape_text.DimText.{DimText}
use Rattle.schema_grammar.specs.Spelling.{unbounded, SpellsNull, SpellsAttr, SpellsAttrs, SpellsBound, SpellsHigh, SpellsDim, SpellsDims, SpellsSchema}
use Rattle.schema_grammar.specs.SchemaBytes.{shape_bytes}
use Rattle.schema_grammar.specs.Inner.SchemaMarks.{shape_marks, IsAttrPrintable, IsDimPrintable, IsPrintable}
use Rattle.schema_grammar.proofs.SchemaPrinted.{shape_spelled, shape_apart}
use Rattle.afl_trees.specs.Term.{Term, create, number, text, truth, null, missing, reference, version, call, schema, star, renamed, opposite, negative, binary, group, Terms, no_terms, and_term}
use Rattle.afl_trees.specs.Grammar.{truth_word, Spells, SpellsArguments, SpellsMore, SpellsCreate, Derives}
use Rattle.afl_trees.specs.Statement.{lexemes}
use Rattle.afl_trees.specs.Print.{op_bytes, truth_bytes, printed, all_printed}
use Rattle.afl_trees.specs.declared.tree.BinaryOp.{BinaryOp}
use Rattle.afl_trees.specs.declared.tree.BinaryOp.TheVariants.{Or, And, Equal, Differs, Less, AtMost, More, AtLeast, Add, Sub, Mul, Div, Rem}

-- What a tree is printed as, and then the rest.

abbrev pub op_lexeme : BinaryOp → Lexeme
op_lexeme Or = a_word OrWord
op_lexeme And = a_word AndWord
op_lexeme Equal = a_symbol symbol.Equal
op_lexeme Differs = a_symbol symbol.Differs
op_lexeme Less = a_symbol symbol.Less
op_lexeme AtMost = a_symbol symbol.AtMost
op_lexeme More = a_symbol symbol.More
op_lexeme AtLeast = a_symbol symbol.AtLeast
op_lexeme Add = a_symbol symbol.Plus
op_lexeme Sub = a_symbol symbol.Minus
op_lexeme Mul = a_symbol symbol.Star
op_lexeme Div = a_symbol symbol.Slash
op_lexeme Rem = a_symbol symbol.Percent

abbrev mutual
  pub marks : Term → List Mark → List Mark
  marks (create s n m) rest = says (a_word Create) ∷ a_space ∷ says (a_word Array) ∷ a_space ∷ says (a_name n) ∷ a_space ∷ shape_marks m rest
  marks (number s n) rest = says (a_number n) ∷ rest
  marks (text s x) rest = says (a_text x) ∷ rest
  marks (truth s b) rest = says (truth_word b) ∷ rest
  marks (null s) rest = says (a_word Null) ∷ rest
  marks (missing s c) rest = says (a_code c) ∷ rest
  marks (reference s n) rest = says (a_name n) ∷ rest
  marks (version s n v) rest = says (a_name n) ∷ says (a_symbol symbol.At) ∷ says (a_number v) ∷ rest
  marks (call s n ts) rest = says (a_name n) ∷ says (a_symbol symbol.LeftParen) ∷ arguments_marks ts rest
  marks (schema s m) rest = shape_marks m rest
  marks (star s) rest = says (a_symbol symbol.Star) ∷ rest
  marks (renamed s a n) rest = marks a (a_space ∷ says (a_word As) ∷ a_space ∷ says (a_name n) ∷ rest)
  marks (opposite s a) rest = says (a_word Not) ∷ a_space ∷ marks a rest
  marks (negative s a) rest = says (a_symbol symbol.Minus) ∷ a_space ∷ marks a rest
  marks (binary s o a b) rest = marks a (a_space ∷ says (op_lexeme o) ∷ a_space ∷ marks b rest)
  marks (group s a) rest = says (a_symbol symbol.LeftParen) ∷ marks a (says (a_symbol symbol.RightParen) ∷ rest)

  pub arguments_marks : Terms → List Mark → List Mark
  arguments_marks no_terms rest = says (a_symbol symbol.RightParen) ∷ rest
  arguments_marks (and_term t ts) rest = marks t (more_marks ts rest)

  pub more_marks : Terms → List Mark → List Mark
  more_marks no_terms rest = says (a_symbol symbol.RightParen) ∷ rest
  more_marks (and_term t ts) rest = says (a_symbol symbol.Comma) ∷ marks t (more_marks ts rest)

-- The bytes.

assoc3 : (a b c d : List ℕ) → (a ++ b ++ c) ++ d ≡ a ++ (b ++ (c ++ d))
assoc3 a b c d = append_assoc (a ++ b) c d ∙ append_assoc a b (c ++ d)

assoc4 : (a b c d e : List ℕ) → (a ++ b ++ c ++ d) ++ e ≡ a ++ (b ++ (c ++ (d ++ e)))
assoc4 a b c d e = append_assoc (a ++ b ++ c) d e ∙ assoc3 a b c (d ++ e)

assoc5 : (a b c d e f : List ℕ) → (a ++ b ++ c ++ d ++ e) ++ f ≡ a ++ (b ++ (c ++ (d ++ (e ++ f))))
assoc5 a b c d e f = append_assoc (a ++ b ++ c ++ d) e f ∙ assoc4 a b c d (e ++ f)

op_spelled : (o : BinaryOp) → spelling_of (op_lexeme o) ≡ op_bytes o
op_spelled Or = refl
op_spelled And = refl
op_spelled Equal = refl
op_spelled Differs = refl
op_spelled Less = refl
op_spelled AtMost = refl
op_spelled More = refl
op_spelled AtLeast = refl
op_spelled Add = refl
op_spelled Sub = refl
op_spelled Mul = refl
op_spelled Div = refl
op_spelled Rem = refl

truth_spelled : (b : Bool) → spelling_of (truth_word b) ≡ truth_bytes b
truth_spelled true = refl
truth_spelled false = refl

mutual
  pub marks_spelled : (t : Term) (rest : List Mark) → spelled (marks t rest) ≡ printed t ++ spelled rest
  marks_spelled (create s n m) rest =
      ap (λ l. codes "create array " ++ (n ++ 32 ∷ l)) (shape_spelled m rest)
      ∙ sym (assoc4 (codes "create array ") n (codes " ") (shape_bytes m) (spelled rest))
  marks_spelled (number s n) rest = refl
  marks_spelled (text s x) rest = refl
  marks_spelled (truth s b) rest = ap (λ l. l ++ spelled rest) (truth_spelled b)
  marks_spelled (null s) rest = refl
  marks_spelled (missing s c) rest = refl
  marks_spelled (reference s n) rest = refl
  marks_spelled (version s n v) rest = sym (assoc3 n (codes "@") (signed_decimal v) (spelled rest))
  marks_spelled (call s n ts) rest =
      ap (λ l. n ++ 40 ∷ l) (arguments_spelled ts rest)
      ∙ sym (assoc4 n (codes "(") (join_with_byte 44 (all_printed ts)) (codes ")") (spelled rest))
  marks_spelled (schema s m) rest = shape_spelled m rest
  marks_spelled (star s) rest = refl
  marks_spelled (renamed s a n) rest =
      marks_spelled a (a_space ∷ says (a_word As) ∷ a_space ∷ says (a_name n) ∷ rest)
      ∙ sym (assoc3 (printed a) (codes " as ") n (spelled rest))
  marks_spelled (opposite s a) rest = ap (λ l. codes "not " ++ l) (marks_spelled a rest)
  marks_spelled (negative s a) rest = ap (λ l. codes "- " ++ l) (marks_spelled a rest)
  marks_spelled (binary s o a b) rest =
      marks_spelled a (a_space ∷ says (op_lexeme o) ∷ a_space ∷ marks b rest)
      ∙ ap (λ l. printed a ++ 32 ∷ (l ++ 32 ∷ spelled (marks b rest))) (op_spelled o)
      ∙ ap (λ l. printed a ++ 32 ∷ (op_bytes o ++ 32 ∷ l)) (marks_spelled b rest)
      ∙ sym (assoc5 (printed a) (codes " ") (op_bytes o) (codes " ") (printed b) (spelled rest))
  marks_spelled (group s a) rest =
      ap (λ l. 40 ∷ l) (marks_spelled a (says (a_symbol symbol.RightParen) ∷ rest))
      ∙ sym (assoc3 (codes "(") (printed a) (codes ")") (spelled rest))

  arguments_spelled : (ts : Terms) (rest : List Mark) → spelled (arguments_marks ts rest) ≡ join_with_byte 44 (all_printed ts) ++ 41 ∷ spelled rest
  arguments_spelled no_terms rest = refl
  arguments_spelled (and_term t ts) rest = marks_spelled t (more_marks ts rest) ∙ more_spelled (printed t) ts rest

  more_spelled : (x : List ℕ) (ts : Terms) (rest : List Mark) → x ++ spelled (more_marks ts rest) ≡ join_with_byte 44 (x ∷ all_printed ts) ++ 41 ∷ spelled rest
  more_spelled x no_terms rest = refl
  more_spelled x (and_term t ts) rest =
      ap (λ l. x ++ 44 ∷ l) (marks_spelled t (more_marks ts rest) ∙ more_spelled (printed t) ts rest)
      ∙ sym (append_assoc x (44 ∷ join_with_byte 44 (printed t ∷ all_printed ts)) (41 ∷ spelled rest))

-- What stands behind a token does not lengthen it.

-- each lexeme is one that some token says
abbrev pub AreLexemes : List Placed → Type 0
AreLexemes [] = ⊤
AreLexemes (x ∷ xs) = IsLexeme x.what × AreLexemes xs

-- a tree whose parts some tokens say
abbrev mutual
  pub CanPrint : Term → Type 0
  CanPrint (create s n m) = IsName n × IsPrintable m
  CanPrint (number s n) = IsLexeme (a_number n)
  CanPrint (text s x) = IsLexeme (a_text x)
  CanPrint (truth s b) = ⊤
  CanPrint (null s) = ⊤
  CanPrint (missing s c) = IsLexeme (a_code c)
  CanPrint (reference s n) = IsName n
  CanPrint (version s n v) = IsName n × IsLexeme (a_number v)
  CanPrint (call s n ts) = IsName n × CanPrintAll ts
  CanPrint (schema s m) = IsPrintable m
  CanPrint (star s) = ⊤
  CanPrint (renamed s a n) = CanPrint a × IsName n
  CanPrint (opposite s a) = CanPrint a
  CanPrint (negative s a) = CanPrint a
  CanPrint (binary s o a b) = CanPrint a × CanPrint b
  CanPrint (group s a) = CanPrint a

  pub CanPrintAll : Terms → Type 0
  CanPrintAll no_terms = ⊤
  CanPrintAll (and_term t ts) = CanPrint t × CanPrintAll ts

-- a schema's part

null_lexemes : (b : Bool) (xs zs : List Placed) → SpellsNull b xs zs → AreLexemes xs → AreLexemes zs
null_lexemes true xs zs (inl e) h = subst AreLexemes e h
null_lexemes true xs zs (inr (n, e)) h = (subst AreLexemes e h).1
null_lexemes false xs zs (m, n, e) h = (subst AreLexemes e h).1.1

attr_printable : (a : AttrText) (xs zs : List Placed) → SpellsAttr a xs zs → AreLexemes xs → IsAttrPrintable a × AreLexemes zs
attr_printable a xs zs (c, ys, e, n) h =
    let all = subst AreLexemes e h in
    (record { name = all.0; word = all.1.1.0 }, null_lexemes a.nullable ys zs n all.1.1.1)

attrs_printable : (bs : List AttrText) (xs zs : List Placed) → SpellsAttrs bs xs zs → AreLexemes xs → AllByRecursion IsAttrPrintable bs × (bs ≢ []) × AreLexemes zs
attrs_printable [] xs zs g h = absurd g
attrs_printable (a ∷ []) xs zs g h = let (p, r) = attr_printable a xs zs g h in ((p, tt), λ q. cc, r)
attrs_printable (a ∷ b ∷ bs) xs zs (c, ys, g, i) h =
    let (p, r) = attr_printable a xs _ g h in
    let (ps, some, rs) = attrs_printable (b ∷ bs) ys zs i r.1 in
    ((p, ps), λ q. cc, rs)

below : (n : ℕ) → n < 2 ^ 63 → unsigned_abs (neg_ℤ (pos n)) < 2 ^ 63
below zero h = h
below (suc n) h = h

bound_printable : (z : ℤ) (s : Span) (xs zs : List Placed) → SpellsBound z s xs zs → AreLexemes xs → (unsigned_abs z < 2 ^ 63) × AreLexemes zs
bound_printable z s xs zs (inl (n, p, e)) h =
    let all = subst AreLexemes e h in
    (subst (λ k. unsigned_abs k < 2 ^ 63) (sym p) all.0, all.1)
bound_printable z s xs zs (inr (n, m, t, p, q, e)) h =
    let all = subst AreLexemes e h in
    (subst (λ k. unsigned_abs k < 2 ^ 63) (sym p) (below n all.1.0), all.1.1)

high_printable : (z : ℤ) (s : Span) (xs zs : List Placed) → SpellsHigh z s xs zs → AreLexemes xs → (unsigned_abs z < 2 ^ 63) × AreLexemes zs
high_printable z s xs zs (inl g) h = bound_printable z s xs zs g h
high_printable z s xs zs (inr (p, e)) h =
    let most : unsigned_abs unbounded < 2 ^ 63 = omega arith in
    (subst (λ k. unsigned_abs k < 2 ^ 63) (sym p) most, (subst AreLexemes e h).1)

dim_printable : (d : DimText) (xs zs : List Placed) → SpellsDim d xs zs → AreLexemes xs → IsDimPrintable d × AreLexemes zs
dim_printable d xs zs (e, c, f, g, ys, ws, p, lo, hi) h =
    let all = subst AreLexemes p h in
    let (low, after) = bound_printable d.lo d.lo_span ys _ lo all.1.1 in
    let (high, ends) = high_printable d.hi d.hi_span ws _ hi after.1 in
    (record { name = all.0; lo = low; hi = high; chunk = ends.1.0; overlap = ends.1.1.1.0 }, ends.1.1.1.1)

dims_printable : (ds : List DimText) (xs zs : List Placed) → SpellsDims ds xs zs → AreLexemes xs → AllByRecursion IsDimPrintable ds × (ds ≢ []) × AreLexemes zs
dims_printable [] xs zs g h = absurd g
dims_printable (d ∷ []) xs zs g h = let (p, r) = dim_printable d xs zs g h in ((p, tt), λ q. cc, r)
dims_printable (d ∷ e ∷ es) xs zs (c, ys, g, i) h =
    let (p, r) = dim_printable d xs _ g h in
    let (ps, some, rs) = dims_printable (e ∷ es) ys zs i r.1 in
    ((p, ps), λ q. cc, rs)

schema_printable : (m : SchemaText) (s : Span) (xs zs : List Placed) → SpellsSchema m s xs zs → AreLexemes xs → IsPrintable m × AreLexemes zs
schema_printable m s xs zs (l, g, b, e, ys, ws, p, attrs, dims, q, r) h =
    let all = subst AreLexemes p h in
    let (as_, some_attr, after) = attrs_printable m.attributes ys _ attrs all.1 in
    let (ds, some_dim, ends) = dims_printable m.dimensions ws _ dims after.1.1 in
    (record { attributes = as_; some_attribute = some_attr; dimensions = ds; some_dimension = some_dim }, ends.1)

mutual
  can_print : (t : Term) (xs zs : List Placed) → Spells t xs zs → AreLexemes xs → CanPrint t × AreLexemes zs
  can_print (create s n m) xs zs g h = absurd g
  can_print (number s n) xs zs e h = subst AreLexemes e h
  can_print (text s x) xs zs e h = subst AreLexemes e h
  can_print (truth s b) xs zs e h = (tt, (subst AreLexemes e h).1)
  can_print (null s) xs zs (inl e) h = (tt, (subst AreLexemes e h).1)
  can_print (null s) xs zs (inr e) h = (tt, (subst AreLexemes e h).1)
  can_print (missing s c) xs zs (p, e) h = subst AreLexemes e h
  can_print (reference s n) xs zs e h = subst AreLexemes e h
  can_print (version s n v) xs zs (b, w, e, p, q) h = let all = subst AreLexemes p h in ((all.0, all.1.1.0), all.1.1.1)
  can_print (call s n ts) xs zs (b, l, r, ys, p, q, g) h =
      let all = subst AreLexemes p h in
      let (cs, after) = can_print_arguments ts r ys zs g all.1.1 in
      ((all.0, cs), after)
  can_print (schema s m) xs zs g h = schema_printable m s xs zs g h
  can_print (star s) xs zs e h = (tt, (subst AreLexemes e h).1)
  can_print (renamed s a n) xs zs (w, e, p, l, g) h = let (c, after) = can_print a xs _ g h in ((c, after.1.0), after.1.1)
  can_print (opposite s a) xs zs (w, ys, p, q, l, g) h = can_print a ys zs g (subst AreLexemes p h).1
  can_print (negative s a) xs zs (w, ys, p, q, l, g) h = can_print a ys zs g (subst AreLexemes p h).1
  can_print (binary s o a b) xs zs (x, w, ys, p, q, l, ga, r, gb) h =
      let (c, between) = can_print a xs _ ga h in
      let (d, after) = can_print b ys zs gb between.1 in
      ((c, d), after)
  can_print (group s a) xs zs (l, r, ys, p, q, i, g) h = let (c, after) = can_print a ys _ g (subst AreLexemes p h).1 in (c, after.1)

  can_print_arguments : (ts : Terms) (r : Span) (xs zs : List Placed) → SpellsArguments ts r xs zs → AreLexemes xs → CanPrintAll ts × AreLexemes zs
  can_print_arguments no_terms r xs zs e h = (tt, (subst AreLexemes e h).1)
  can_print_arguments (and_term t ts) r xs zs (ys, g, i) h =
      let (c, between) = can_print t xs ys g h in
      let (cs, after) = can_print_more ts r ys zs i between in
      ((c, cs), after)

  can_print_more : (ts : Terms) (r : Span) (xs zs : List Placed) → SpellsMore ts r xs zs → AreLexemes xs → CanPrintAll ts × AreLexemes zs
  can_print_more no_terms r xs zs e h = (tt, (subst AreLexemes e h).1)
  can_print_more (and_term t ts) r xs zs (w, ys, ws, p, g, i) h =
      let (c, between) = can_print t ys ws g (subst AreLexemes p h).1 in
      let (cs, after) = can_print_more ts r ws zs i between in
      ((c, cs), after)

create_can_print : (t : Term) (xs zs : List Placed) → SpellsCreate t xs zs → AreLexemes xs → CanPrint t
create_can_print (create s n m) xs zs (c, a, b, e, ys, p, q, g) h =
    let all = subst AreLexemes p h in
    (all.1.1.0, (schema_printable m e ys zs g all.1.1.1).0)
create_can_print _ xs zs g h = absurd g

pub statement_can_print : (t : Term) (xs : List Placed) → Derives xs t → AreLexemes xs → CanPrint t
statement_can_print t xs (inl g) h = create_can_print t xs [] g h
statement_can_print t xs (inr (l, g)) h = (can_print t xs [] g h).0

-- the tokens of a text say lexemes

lexeme_said : (kind : TokenKind) (bytes : List ℕ) → IsSpelled kind bytes → IsLexeme (what_of kind bytes)
lexeme_said Name bytes h = h
lexeme_said (Int n) bytes h = subst (λ z. IsLexeme (a_number z)) (sym h.1) h.2
lexeme_said Text bytes h = omega (arith, length-map (items_of bytes) byte_of, h.2)
lexeme_said (Code n) bytes h = h.2
lexeme_said (Word w) bytes h = tt
lexeme_said (Symbol s) bytes h = tt

pub reached_lexemes : (bytes : List ℕ) (from : ℕ) (tokens : List Token) (to : ℕ) → Reaches bytes from tokens to → AreLexemes (lexemes bytes tokens)
reached_lexemes bytes from [] to r = tt
reached_lexemes bytes from (token ∷ tokens) to (gap, form, is, r) =
    (lexeme_said token.kind (bytes_of bytes token.span) is.spelled, reached_lexemes bytes token.span.end tokens to r)

-- bytes that lengthen no token

symbol_calm : (s : ASymbol) (b : ℕ) → (b == 61) ≡ false → (b == 62) ≡ false → (b == 45) ≡ false → lengthens_symbol s b ≡ false
symbol_calm symbol.Less b e m d = rw (e, m) refl
symbol_calm symbol.More b e m d = e
symbol_calm symbol.Minus b e m d = d
symbol_calm _ b e m d = refl

calm : (b : ℕ) → is_word_byte b ≡ false → is_digit b ≡ false → (b == 61) ≡ false → (b == 62) ≡ false → (b == 45) ≡ false → (kind : TokenKind) → lengthens kind b ≡ false
calm b w n e m d Name = w
calm b w n e m d (Word x) = w
calm b w n e m d (Int x) = n
calm b w n e m d (Code x) = n
calm b w n e m d Text = refl
calm b w n e m d (Symbol s) = symbol_calm s b e m d

space_calm : (kind : TokenKind) → lengthens kind 32 ≡ false
space_calm = calm 32 refl refl refl refl refl

comma_calm : (kind : TokenKind) → lengthens kind 44 ≡ false
comma_calm = calm 44 refl refl refl refl refl

paren_calm : (kind : TokenKind) → lengthens kind 41 ≡ false
paren_calm = calm 41 refl refl refl refl refl

-- nothing lengthens these symbols
free : (s : ASymbol) → ((b : ℕ) → lengthens_symbol s b ≡ false) → (xs : List ℕ) → EndsBefore (Symbol s) xs
free s h [] = tt
free s h (b ∷ rest) = h b

-- each token ends before the marks
abbrev pub Calm : List Mark → Type 0
Calm rest = (kind : TokenKind) → EndsBefore kind (spelled rest)

more_calm : (ts : Terms) (rest : List Mark) → Calm (more_marks ts rest)
more_calm no_terms rest = paren_calm
more_calm (and_term t ts) rest = comma_calm

truth_apart : (b : Bool) (rest : List Mark) → Calm rest → AreApart rest → AreApart (says (truth_word b) ∷ rest)
truth_apart true rest q r = (tt, q (Word True), r)
truth_apart false rest q r = (tt, q (Word False), r)

op_is : (o : BinaryOp) → IsLexeme (op_lexeme o)
op_is Or = tt
op_is And = tt
op_is Equal = tt
op_is Differs = tt
op_is Less = tt
op_is AtMost = tt
op_is More = tt
op_is AtLeast = tt
op_is Add = tt
op_is Sub = tt
op_is Mul = tt
op_is Div = tt
op_is Rem = tt

mutual
  pub apart : (t : Term) → CanPrint t → (rest : List Mark) → Calm rest → AreApart rest → AreApart (marks t rest)
  apart (create s n m) h rest q r = (tt, refl, (tt, refl, (h.0, refl, shape_apart m rest h.1 r)))
  apart (number s n) h rest q r = (h, q (Int n), r)
  apart (text s x) h rest q r = (h, q Text, r)
  apart (truth s b) h rest q r = truth_apart b rest q r
  apart (null s) h rest q r = (tt, q (Word Null), r)
  apart (missing s c) h rest q r = (h, q (Code c), r)
  apart (reference s n) h rest q r = (h, q Name, r)
  apart (version s n v) h rest q r = (h.0, refl, (tt, free symbol.At (λ b. refl) _, (h.1, q (Int v), r)))
  apart (call s n ts) h rest q r = (h.0, refl, (tt, free symbol.LeftParen (λ b. refl) _, arguments_apart ts h.1 rest r))
  apart (schema s m) h rest q r = shape_apart m rest h r
  apart (star s) h rest q r = (tt, free symbol.Star (λ b. refl) _, r)
  apart (renamed s a n) h rest q r = apart a h.0 (a_space ∷ says (a_word As) ∷ a_space ∷ says (a_name n) ∷ rest) space_calm (tt, refl, (h.1, q Name, r))
  apart (opposite s a) h rest q r = (tt, refl, apart a h rest q r)
  apart (negative s a) h rest q r = (tt, refl, apart a h rest q r)
  apart (binary s o a b) h rest q r =
      apart a h.0 (a_space ∷ says (op_lexeme o) ∷ a_space ∷ marks b rest) space_calm (op_is o, space_calm (kind_of (op_lexeme o)), apart b h.1 rest q r)
  apart (group s a) h rest q r =
      (tt, free symbol.LeftParen (λ b. refl) _, apart a h (says (a_symbol symbol.RightParen) ∷ rest) paren_calm (tt, free symbol.RightParen (λ b. refl) _, r))

  arguments_apart : (ts : Terms) → CanPrintAll ts → (rest : List Mark) → AreApart rest → AreApart (arguments_marks ts rest)
  arguments_apart no_terms h rest r = (tt, free symbol.RightParen (λ b. refl) _, r)
  arguments_apart (and_term t ts) h rest r = apart t h.0 (more_marks ts rest) (more_calm ts rest) (more_apart ts h.1 rest r)

  more_apart : (ts : Terms) → CanPrintAll ts → (rest : List Mark) → AreApart rest → AreApart (more_marks ts rest)
  more_apart no_terms h rest r = (tt, free symbol.RightParen (λ b. refl) _, r)
  more_apart (and_term t ts) h rest r = (tt, free symbol.Comma (λ b. refl) _, apart t h.0 (more_marks ts rest) (more_calm ts rest) (more_apart ts h.1 rest r))
