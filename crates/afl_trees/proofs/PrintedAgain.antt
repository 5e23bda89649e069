-- Whatever tokens say what a tree is printed as spell that tree but for places.
use Rattle.std.proofs.Common.{◌≡◌, ◌≢◌, inl, inr, ℕ, ◌+◌, ◌≤◌, max, Some, List, [], ◌∷◌, refl, sym, ap, subst, ◌∙◌}
use Rattle.std.proofs.lemmas.List.{append-nil}
use Rattle.cell_values.specs.declared.name.Span.{Span}
use Rattle.afl_lexer.specs.declared.token.Token.{Token}
use Rattle.afl_lexer.specs.declared.token.Word.TheVariants.{Not, Null, As, Create, Array}
use Rattle.afl_lexer.specs.declared.token.Symbol.TheVariants as symbol
use Rattle.afl_lexer.specs.Lexemes.{Lexeme, a_name, a_number, a_text, a_code, a_word, a_symbol, Placed, lexeme_of}
use Rattle.afl_lexer.specs.Spelling.{Mark, a_space, says, spelled, said, AreApart, lexemes as lexemes_said}
use Rattle.afl_lexer.proofs.Printing.{read_again}
use Rattle.schema_grammar.specs.declared.shape_text.SchemaText.{SchemaText}
use Rattle.schema_grammar.specs.declared.shape_text.AttrText.{AttrText}
use Rattle.schema_grammar.specs.declared.shape_text.DimText.{DimText}
use Rattle.schema_grammar.specs.Spelling.{placed, across, SpellsAttrs, SpellsDims, SpellsSchema}
use Rattle.schema_grammar.specs.Inner.SchemaMarks.{nowhere, bare_shape, shape_marks}
use Rattle.schema_grammar.proofs.SchemaPrinted.{whats, shape_again}
use Rattle.afl_trees.specs.Term.{Term, create, number, text, truth, null, missing, reference, version, call, schema, star, renamed, opposite, negative, binary, group, Terms, no_terms, and_term}
use Rattle.afl_trees.specs.Grammar.{left_line, right_line, op_of, line, span_of, truth_word, height, heights, Spells, SpellsArguments, SpellsMore, SpellsCreate, Derives}
use Rattle.afl_trees.specs.Statement.{lexemes, DerivesText}
use Rattle.afl_trees.specs.Print.{printed, without_spans, all_without_spans, AreReadAgain}
use Rattle.afl_trees.specs.declared.tree.BinaryOp.{BinaryOp}
use Rattle.afl_trees.specs.declared.tree.BinaryOp.TheVariants.{Or, And, Equal, Differs, Less, AtMost, More, AtLeast, Add, Sub, Mul, Div, Rem}
use Rattle.afl_trees.proofs.Printing.{op_lexeme, marks, arguments_marks, more_marks, marks_spelled, AreLexemes, statement_can_print, reached_lexemes, apart}

line_bare : (t : Term) → line (without_spans t) ≡ line t
line_bare (create s n m) = refl
line_bare (number s n) = refl
line_bare (text s x) = refl
line_bare (truth s b) = refl
line_bare (null s) = refl
line_bare (missing s c) = refl
line_bare (reference s n) = refl
line_bare (version s n v) = refl
line_bare (call s n ts) = refl
line_bare (schema s m) = refl
line_bare (star s) = refl
line_bare (renamed s a n) = refl
line_bare (opposite s a) = refl
line_bare (negative s a) = refl
line_bare (binary s o a b) = refl
line_bare (group s a) = refl

same_line : (u t : Term) → without_spans u ≡ without_spans t → line u ≡ line t
same_line u t e = sym (line_bare u) ∙ ap line e ∙ line_bare t

mutual
  height_bare : (t : Term) → height (without_spans t) ≡ height t
  height_bare (create s n m) = refl
  height_bare (number s n) = refl
  height_bare (text s x) = refl
  height_bare (truth s b) = refl
  height_bare (null s) = refl
  height_bare (missing s c) = refl
  height_bare (reference s n) = refl
  height_bare (version s n v) = refl
  height_bare (call s n ts) = ap (λ h. h + 1) (heights_bare ts)
  height_bare (schema s m) = refl
  height_bare (star s) = refl
  height_bare (renamed s a n) = ap (λ h. h + 1) (height_bare a)
  height_bare (opposite s a) = ap (λ h. h + 1) (height_bare a)
  height_bare (negative s a) = ap (λ h. h + 1) (height_bare a)
  height_bare (binary s o a b) = ap (λ h. max h (height (without_spans b)) + 1) (height_bare a) ∙ ap (λ h. max (height a) h + 1) (height_bare b)
  height_bare (group s a) = ap (λ h. h + 1) (height_bare a)

  heights_bare : (ts : Terms) → heights (all_without_spans ts) ≡ heights ts
  heights_bare no_terms = refl
  heights_bare (and_term t ts) = ap (λ h. max h (heights (all_without_spans ts))) (height_bare t) ∙ ap (λ h. max (height t) h) (heights_bare ts)

same_height : (u t : Term) → without_spans u ≡ without_spans t → height u ≡ height t
same_height u t e = sym (height_bare u) ∙ ap height e ∙ height_bare t

-- the first token, by what it says
front : (l : Lexeme) (rest : List Lexeme) (us : List Placed) → whats us ≡ l ∷ rest → (s : Span) × (vs : List Placed) × (us ≡ placed l s ∷ vs) × (whats vs ≡ rest)
front l rest [] e = cc
front l rest (x ∷ vs) e =
    let same : x.what ≡ l = cc in
    (x.span, vs, ap (λ k. placed k x.span ∷ vs) same, cc)

op_again : (o : BinaryOp) → op_of (op_lexeme o) ≡ Some o
op_again Or = refl
op_again And = refl
op_again Equal = refl
op_again Differs = refl
op_again Less = refl
op_again AtMost = refl
op_again More = refl
op_again AtLeast = refl
op_again Add = refl
op_again Sub = refl
op_again Mul = refl
op_again Div = refl
op_again Rem = refl

some_attrs : (bs : List AttrText) (xs zs : List Placed) → SpellsAttrs bs xs zs → bs ≢ []
some_attrs [] xs zs g = absurd g
some_attrs (b ∷ bs) xs zs g = λ q. cc

some_dims : (ds : List DimText) (xs zs : List Placed) → SpellsDims ds xs zs → ds ≢ []
some_dims [] xs zs g = absurd g
some_dims (d ∷ ds) xs zs g = λ q. cc

schema_again : (m : SchemaText) (s : Span) (xs zs : List Placed) → SpellsSchema m s xs zs → (us : List Placed) (rest : List Mark) → whats us ≡ said (shape_marks m rest)
    → (u : SchemaText) × (r : Span) × (vs : List Placed) × SpellsSchema u r us vs × (bare_shape u ≡ bare_shape m) × (whats vs ≡ said rest)
schema_again m s xs zs (l, g, b, e, ys, ws, p, attrs, dims, q, r) us rest same =
    shape_again m us rest (some_attrs m.attributes ys _ attrs) (some_dims m.dimensions ws _ dims) same

mutual
  respell : (t : Term) (xs zs : List Placed) → Spells t xs zs → (us : List Placed) (rest : List Mark) → whats us ≡ said (marks t rest)
      → (u : Term) × (vs : List Placed) × (whats vs ≡ said rest) × (without_spans u ≡ without_spans t) × Spells u us vs
  respell (create s n m) xs zs g us rest e = absurd g
  respell (number s n) xs zs g us rest e = let (r, vs, f, m) = front (a_number n) (said rest) us e in (number r n, vs, m, refl, f)
  respell (text s x) xs zs g us rest e = let (r, vs, f, m) = front (a_text x) (said rest) us e in (text r x, vs, m, refl, f)
  respell (truth s b) xs zs g us rest e = let (r, vs, f, m) = front (truth_word b) (said rest) us e in (truth r b, vs, m, refl, f)
  respell (null s) xs zs g us rest e = let (r, vs, f, m) = front (a_word Null) (said rest) us e in (null r, vs, m, refl, inl f)
  respell (missing s c) xs zs (some, g) us rest e = let (r, vs, f, m) = front (a_code c) (said rest) us e in (missing r c, vs, m, refl, (some, f))
  respell (reference s n) xs zs g us rest e = let (r, vs, f, m) = front (a_name n) (said rest) us e in (reference r n, vs, m, refl, f)
  respell (version s n v) xs zs g us rest e =
      let (b, ws, f, o) = front (a_name n) (a_symbol symbol.At ∷ a_number v ∷ said rest) us e in
      let (w, ys, h, p) = front (a_symbol symbol.At) (a_number v ∷ said rest) ws o in
      let (z, vs, j, m) = front (a_number v) (said rest) ys p in
      (version (across b z) n v, vs, m, refl, (b, w, z, f ∙ ap (λ l. placed (a_name n) b ∷ l) h ∙ ap (λ l. placed (a_name n) b ∷ placed (a_symbol symbol.At) w ∷ l) j, refl))
  respell (call s n ts) xs zs (b, lp, rp, ys, q, p, g) us rest e =
      let (v, ws, f, o) = front (a_name n) (a_symbol symbol.LeftParen ∷ said (arguments_marks ts rest)) us e in
      let (z, ns, j, i) = front (a_symbol symbol.LeftParen) (said (arguments_marks ts rest)) ws o in
      let (bs, vs, r, m, same, h) = respell_arguments ts rp ys zs g ns rest i in
      (call (across v r) n bs, vs, m, ap (call nowhere n) same, (v, z, r, ns, f ∙ ap (λ l. placed (a_name n) v ∷ l) j, refl, h))
  respell (schema s m) xs zs g us rest e =
      let (u, r, vs, h, same, o) = schema_again m s xs zs g us rest e in
      (schema r u, vs, o, ap (schema nowhere) same, h)
  respell (star s) xs zs g us rest e = let (r, vs, f, m) = front (a_symbol symbol.Star) (said rest) us e in (star r, vs, m, refl, f)
  respell (renamed s a n) xs zs (w, q, p, l, g) us rest e =
      let (b, vs, m, same, h) = respell a xs _ g us (a_space ∷ says (a_word As) ∷ a_space ∷ says (a_name n) ∷ rest) e in
      let (v, ws, f, o) = front (a_word As) (a_name n ∷ said rest) vs m in
      let (z, ys, j, i) = front (a_name n) (said rest) ws o in (
        renamed (across (span_of b) z) b n,
        ys,
        i,
        ap (λ c. renamed nowhere c n) same,
        (v, z, refl, subst (λ k. 1 ≤ k) (sym (same_line b a same)) l, subst (Spells b us) (f ∙ ap (λ l. placed (a_word As) v ∷ l) j) h),
      )
  respell (opposite s a) xs zs (w, ys, q, p, l, g) us rest e =
      let (v, ws, f, o) = front (a_word Not) (said (marks a rest)) us e in
      let (b, vs, m, same, h) = respell a ys zs g ws rest o in
      (opposite (across v (span_of b)) b, vs, m, ap (opposite nowhere) same, (v, ws, f, refl, subst (λ k. 3 ≤ k) (sym (same_line b a same)) l, h))
  respell (negative s a) xs zs (w, ys, q, p, l, g) us rest e =
      let (v, ws, f, o) = front (a_symbol symbol.Minus) (said (marks a rest)) us e in
      let (b, vs, m, same, h) = respell a ys zs g ws rest o in
      (negative (across v (span_of b)) b, vs, m, ap (negative nowhere) same, (v, ws, f, refl, subst (λ k. 7 ≤ k) (sym (same_line b a same)) l, h))
  respell (binary s o a b) xs zs (x, w, ys, q, p, l, ga, r, gb) us rest e =
      let (c, vs, m, same_a, ha) = respell a xs _ ga us (a_space ∷ says (op_lexeme o) ∷ a_space ∷ marks b rest) e in
      let (v, ws, f, i) = front (op_lexeme o) (said (marks b rest)) vs m in
      let (d, ns, j, same_b, hb) = respell b ys zs gb ws rest i in (
        binary (across (span_of c) (span_of d)) o c d,
        ns,
        j,
        ap (λ y. binary nowhere o y (without_spans d)) same_a ∙ ap (λ y. binary nowhere o (without_spans a) y) same_b,
        (
          op_lexeme o,
          v,
          ws,
          op_again o,
          refl,
          subst (λ k. left_line o ≤ k) (sym (same_line c a same_a)) l,
          subst (Spells c us) f ha,
          subst (λ k. right_line o ≤ k) (sym (same_line d b same_b)) r,
          hb,
        ),
      )
  respell (group s a) xs zs (lp, rp, ys, q, p, l, g) us rest e =
      let (v, ws, f, o) = front (a_symbol symbol.LeftParen) (said (marks a (says (a_symbol symbol.RightParen) ∷ rest))) us e in
      let (b, vs, m, same, h) = respell a ys _ g ws (says (a_symbol symbol.RightParen) ∷ rest) o in
      let (z, ns, j, i) = front (a_symbol symbol.RightParen) (said rest) vs m in
      (group (across v z) b, ns, i, ap (group nowhere) same, (v, z, ws, f, refl, subst (λ k. 1 ≤ k) (sym (same_line b a same)) l, subst (Spells b ws) j h))

  respell_arguments : (ts : Terms) (r : Span) (xs zs : List Placed) → SpellsArguments ts r xs zs → (us : List Placed) (rest : List Mark) → whats us ≡ said (arguments_marks ts rest)
      → (bs : Terms) × (vs : List Placed) × (e : Span) × (whats vs ≡ said rest) × (all_without_spans bs ≡ all_without_spans ts) × SpellsArguments bs e us vs
  respell_arguments no_terms r xs zs g us rest e = let (v, vs, f, m) = front (a_symbol symbol.RightParen) (said rest) us e in (no_terms, vs, v, m, refl, f)
  respell_arguments (and_term t ts) r xs zs (ys, g, q) us rest e =
      let (u, ws, m, same, h) = respell t xs ys g us (more_marks ts rest) e in
      let (bs, vs, z, i, all_same, j) = respell_more ts r ys zs q ws rest m in
      (and_term u bs, vs, z, i, ap (λ x. and_term x (all_without_spans bs)) same ∙ ap (and_term (without_spans t)) all_same, (ws, h, j))

  respell_more : (ts : Terms) (r : Span) (xs zs : List Placed) → SpellsMore ts r xs zs → (us : List Placed) (rest : List Mark) → whats us ≡ said (more_marks ts rest)
      → (bs : Terms) × (vs : List Placed) × (e : Span) × (whats vs ≡ said rest) × (all_without_spans bs ≡ all_without_spans ts) × SpellsMore bs e us vs
  respell_more no_terms r xs zs g us rest e = let (v, vs, f, m) = front (a_symbol symbol.RightParen) (said rest) us e in (no_terms, vs, v, m, refl, f)
  respell_more (and_term t ts) r xs zs (w, ys, ws, q, g, o) us rest e =
      let (v, ns, f, m) = front (a_symbol symbol.Comma) (said (marks t (more_marks ts rest))) us e in
      let (u, js, i, same, h) = respell t ys ws g ns (more_marks ts rest) m in
      let (bs, vs, z, k, all_same, j) = respell_more ts r ws zs o js rest i in
      (and_term u bs, vs, z, k, ap (λ x. and_term x (all_without_spans bs)) same ∙ ap (and_term (without_spans t)) all_same, (v, ns, js, f, h, j))

none_left : (vs : List Placed) → whats vs ≡ [] → vs ≡ []
none_left [] e = refl
none_left (x ∷ vs) e = cc

-- the tokens are a statement's, whose tree is this but for places
abbrev Again : Term → List Placed → Type 0
Again t us = (u : Term) × Derives us u × (without_spans u ≡ without_spans t)

create_again : (t : Term) (xs : List Placed) → SpellsCreate t xs [] → (us : List Placed) → whats us ≡ said (marks t []) → Again t us
create_again (create s n m) xs (c, a, b, z, ys, q, p, g) us e =
    let (d, vs, f, o) = front (a_word Create) (a_word Array ∷ a_name n ∷ said (shape_marks m [])) us e in
    let (i, ws, h, j) = front (a_word Array) (a_name n ∷ said (shape_marks m [])) vs o in
    let (k, ns, l, r) = front (a_name n) (said (shape_marks m [])) ws j in
    let (u, t, js, spells, same, last) = schema_again m z ys [] g ns [] r in
    let first : us ≡ placed (a_word Create) d ∷ placed (a_word Array) i ∷ placed (a_name n) k ∷ ns
    = f ∙ ap (λ y. placed (a_word Create) d ∷ y) h ∙ ap (λ y. placed (a_word Create) d ∷ placed (a_word Array) i ∷ y) l in
    (create (across d t) n u, inl (d, i, k, t, ns, first, refl, subst (SpellsSchema u t ns) (none_left js last) spells), ap (create nowhere n) same)
create_again _ xs g us e = absurd g

again : (t : Term) (xs : List Placed) → Derives xs t → (us : List Placed) → whats us ≡ said (marks t []) → Again t us
again t xs (inl g) us e = create_again t xs g us e
again t xs (inr (l, g)) us e =
    let (u, vs, m, same, h) = respell t xs [] g us [] e in
    (u, inr (subst (λ k. 1 ≤ k) (sym (same_line u t same)) l, subst (Spells u us) (none_left vs m) h), same)

whats_are : (bytes : List ℕ) (tokens : List Token) → whats (lexemes bytes tokens) ≡ lexemes_said bytes tokens
whats_are bytes [] = refl
whats_are bytes (t ∷ ts) = ap (λ l. (lexeme_of bytes t).what ∷ l) (whats_are bytes ts)

-- what the marks of a tree spell has a tree
marks_again : (bytes : List ℕ) (t : Term) → DerivesText bytes t → (u : Term) × DerivesText (spelled (marks t [])) u × (without_spans u ≡ without_spans t)
marks_again bytes t d =
    let xs = lexemes bytes d.tokens in
    let lexed : AreLexemes xs = reached_lexemes bytes 0 d.tokens d.cut.end d.cut.reached in
    let separate : AreApart (marks t []) = apart t (statement_can_print t xs d.statement.derived lexed) [] (λ kind. tt) tt in
    let read = read_again (marks t []) separate in
    let spelling = spelled (marks t []) in
    let (u, derived, same) = again t xs d.statement.derived (lexemes spelling read.0) (whats_are spelling read.0 ∙ read.2) in (
      u,
      record {
        tokens = read.0;
        cut = read.1;
        statement = record { derived = derived; depth = subst (λ k. k ≤ 128) (sym (same_height u t same)) d.statement.depth };
      },
      same,
    )

pub are_read_again : AreReadAgain
are_read_again bytes t d =
    let same_bytes : spelled (marks t []) ≡ printed t = marks_spelled t [] ∙ append-nil (printed t) in
    let (u, derived, same) = marks_again bytes t d in
    (u, subst (λ l. DerivesText l u) same_bytes derived, same)
