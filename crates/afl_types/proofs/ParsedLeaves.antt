-- The numbers, texts and codes of a tree that is parsed are within the limits.
use Rattle.std.proofs.Common.{◌≡◌, inl, inr, ℕ, suc, ℤ, pos, ◌<◌, get_or, Bool, true, false, IsTrue, List, [], ◌∷◌, map, refl, subst, arith}
use Rattle.std.specs.Prelude.{nat_le, nat_lt}
use Rattle.std.specs.List.{list_all}
use Rattle.std.proofs.lemmas.Bool.{and_parts, and_from, le-leb}
use Rattle.cell_values.specs.declared.name.Span.{Span}
use Rattle.afl_lexer.specs.Lexemes.{Placed, a_name, a_number, a_symbol, a_word, lexeme_of}
use Rattle.afl_lexer.specs.declared.token.Word.TheVariants.{As}
use Rattle.afl_lexer.specs.declared.token.Symbol.TheVariants.{Colon, Comma, LeftBracket, More, RightBracket, RightParen}
use Rattle.schema_grammar.specs.Spelling.{placed, SpellsNull, SpellsAttr, SpellsAttrs, SpellsBound, SpellsHigh, SpellsDim, SpellsDims, SpellsSchema}
use Rattle.schema_grammar.specs.declared.shape_text.SchemaText.{SchemaText}
use Rattle.schema_grammar.specs.declared.shape_text.AttrText.{AttrText}
use Rattle.schema_grammar.specs.declared.shape_text.DimText.{DimText}
use Rattle.afl_trees.specs.Grammar.{Spells, SpellsArguments, SpellsMore, SpellsCreate, Derives}
use Rattle.afl_trees.specs.Term.{Term, create, number, text, truth, null, missing, reference, version, call, schema, star, renamed, opposite, negative, binary, group, Terms, no_terms, and_term}
use Rattle.check_exprs.specs.Laws.{leaves_fit, all_leaves_fit}
use Rattle.afl_types.specs.Laws.{ParsedLeavesFit}
use Rattle.check_rules.proofs.Limits.{is_lexeme_within, lexemes_within, are_bytes}

abbrev is_ok : Placed → Bool
is_ok p = is_lexeme_within p.what

abbrev Ok_all : List Placed → Type 0
Ok_all xs = list_all is_ok xs ≡ true

first : {p : Placed} {xs zs : List Placed} → xs ≡ p ∷ zs → Ok_all xs → is_ok p ≡ true
first {p} {xs} {zs} e h = (and_parts (is_ok p) (list_all is_ok zs) (subst Ok_all e h)).0

off : (p : Placed) (xs : List Placed) → Ok_all (p ∷ xs) → Ok_all xs
off p xs h = (and_parts (is_ok p) (list_all is_ok xs) h).1

off_one : {p : Placed} {xs zs : List Placed} → xs ≡ p ∷ zs → Ok_all xs → Ok_all zs
off_one {p} {xs} {zs} e h = off p zs (subst Ok_all e h)

off_two : {p q : Placed} {xs zs : List Placed} → xs ≡ p ∷ q ∷ zs → Ok_all xs → Ok_all zs
off_two {p} {q} {xs} {zs} e h = off q zs (off_one e h)

off_three : {p q r : Placed} {xs zs : List Placed} → xs ≡ p ∷ q ∷ r ∷ zs → Ok_all xs → Ok_all zs
off_three {p} {q} {r} {xs} {zs} e h = off r zs (off_two e h)

-- Schemas

null_rest : (b : Bool) (xs zs : List Placed) → SpellsNull b xs zs → Ok_all xs → Ok_all zs
null_rest true xs zs (inl e) h = subst Ok_all e h
null_rest true xs zs (inr (n, e)) h = off_one e h
null_rest false xs zs (m, n, e) h = off_two e h

attr_rest : (a : AttrText) (xs zs : List Placed) → SpellsAttr a xs zs → Ok_all xs → Ok_all zs
attr_rest a xs zs (c, ys, e, rest) h = null_rest a.nullable ys zs rest (off_three e h)

attrs_rest : (attributes : List AttrText) (xs zs : List Placed) → SpellsAttrs attributes xs zs → Ok_all xs → Ok_all zs
attrs_rest [] xs zs s h = absurd s
attrs_rest (a ∷ []) xs zs s h = attr_rest a xs zs s h
attrs_rest (a ∷ b ∷ bs) xs zs (c, ys, one, more) h = attrs_rest (b ∷ bs) ys zs more (off (placed (a_symbol Comma) c) ys (attr_rest a xs (placed (a_symbol Comma) c ∷ ys) one h))

bound_rest : (z : ℤ) (s : Span) (xs zs : List Placed) → SpellsBound z s xs zs → Ok_all xs → Ok_all zs
bound_rest z s xs zs (inl (n, same, e)) h = off_one e h
bound_rest z s xs zs (inr (n, m, t, same, place, e)) h = off_two e h

high_rest : (z : ℤ) (s : Span) (xs zs : List Placed) → SpellsHigh z s xs zs → Ok_all xs → Ok_all zs
high_rest z s xs zs (inl b) h = bound_rest z s xs zs b h
high_rest z s xs zs (inr (same, e)) h = off_one e h

dim_rest : (d : DimText) (xs zs : List Placed) → SpellsDim d xs zs → Ok_all xs → Ok_all zs
dim_rest d xs zs (e, c, f, g, ys, ws, same, low, high) h =
    let overlap : List Placed = placed (a_number (pos d.overlap)) d.overlap_span ∷ zs in
    let chunk : List Placed = placed (a_number (pos d.chunk)) d.chunk_span ∷ placed (a_symbol Comma) g ∷ overlap in
    let behind_low = off (placed (a_symbol Colon) c) ws (bound_rest d.lo d.lo_span ys (placed (a_symbol Colon) c ∷ ws) low (off_two same h)) in
    let behind_high = high_rest d.hi d.hi_span ws (placed (a_symbol Comma) f ∷ chunk) high behind_low in
    off (placed (a_number (pos d.overlap)) d.overlap_span) zs
    (off (placed (a_symbol Comma) g) overlap (off (placed (a_number (pos d.chunk)) d.chunk_span) (placed (a_symbol Comma) g ∷ overlap) (off (placed (a_symbol Comma) f) chunk behind_high)))

dims_rest : (ds : List DimText) (xs zs : List Placed) → SpellsDims ds xs zs → Ok_all xs → Ok_all zs
dims_rest [] xs zs s h = absurd s
dims_rest (d ∷ []) xs zs s h = dim_rest d xs zs s h
dims_rest (d ∷ e ∷ es) xs zs (c, ys, one, more) h = dims_rest (e ∷ es) ys zs more (off (placed (a_symbol Comma) c) ys (dim_rest d xs (placed (a_symbol Comma) c ∷ ys) one h))

schema_rest : (t : SchemaText) (s : Span) (xs zs : List Placed) → SpellsSchema t s xs zs → Ok_all xs → Ok_all zs
schema_rest t s xs zs (l, g, b, e, ys, ws, same, attrs, dims, brackets, place) h =
    let behind = attrs_rest t.attributes ys (placed (a_symbol More) g ∷ placed (a_symbol LeftBracket) b ∷ ws) attrs (off_one same h) in
    off (placed (a_symbol RightBracket) e) zs
    (dims_rest t.dimensions ws (placed (a_symbol RightBracket) e ∷ zs) dims (off (placed (a_symbol LeftBracket) b) ws (off (placed (a_symbol More) g) (placed (a_symbol LeftBracket) b ∷ ws) behind)))

-- Trees

mutual
  parsed : (t : Term) (xs zs : List Placed) → Spells t xs zs → Ok_all xs → IsTrue (leaves_fit t) × Ok_all zs
  parsed (create s n m) xs zs e h = absurd e
  parsed (number s n) xs zs e h = (first e h, off_one e h)
  parsed (text s x) xs zs e h = (first e h, off_one e h)
  parsed (truth s b) xs zs e h = (refl, off_one e h)
  parsed (null s) xs zs (inl e) h = (refl, off_one e h)
  parsed (null s) xs zs (inr e) h = (refl, off_one e h)
  parsed (missing s c) xs zs (some, e) h = (and_from (nat_le 1 c) (nat_le c 127) (le-leb 1 c some) (first e h), off_one e h)
  parsed (reference s n) xs zs e h = (refl, off_one e h)
  parsed (version s n v) xs zs (b, w, t, e, place) h = (refl, off_three e h)
  parsed (call s n ts) xs zs (b, l, r, ys, e, place, arguments) h = parsed_arguments ts r ys zs arguments (off_two e h)
  parsed (schema s m) xs zs e h = (refl, schema_rest m s xs zs e h)
  parsed (star s) xs zs e h = (refl, off_one e h)
  parsed (renamed s a n) xs zs (w, e, place, above, inner) h = let p = parsed a xs (placed (a_word As) w ∷ placed (a_name n) e ∷ zs) inner h in (p.0, off (placed (a_name n) e) zs (off (placed (a_word As) w) (placed (a_name n) e ∷ zs) p.1))
  parsed (opposite s a) xs zs (w, ys, e, place, above, inner) h = parsed a ys zs inner (off_one e h)
  parsed (negative s a) xs zs (w, ys, e, place, above, inner) h = parsed a ys zs inner (off_one e h)
  parsed (binary s o a b) xs zs (x, w, ys, op, place, left, one, right, two) h =
      let p = parsed a xs (placed x w ∷ ys) one h in
      let q = parsed b ys zs two (off (placed x w) ys p.1) in
      (and_from (leaves_fit a) (leaves_fit b) p.0 q.0, q.1)
  parsed (group s a) xs zs (l, r, ys, e, place, above, inner) h = let p = parsed a ys (placed (a_symbol RightParen) r ∷ zs) inner (off_one e h) in (p.0, off (placed (a_symbol RightParen) r) zs p.1)

  parsed_arguments : (ts : Terms) (r : Span) (xs zs : List Placed) → SpellsArguments ts r xs zs → Ok_all xs → IsTrue (all_leaves_fit ts) × Ok_all zs
  parsed_arguments no_terms r xs zs e h = (refl, off_one e h)
  parsed_arguments (and_term t ts) r xs zs (ys, one, more) h =
      let p = parsed t xs ys one h in
      let q = parsed_more ts r ys zs more p.1 in
      (and_from (leaves_fit t) (all_leaves_fit ts) p.0 q.0, q.1)

  parsed_more : (ts : Terms) (r : Span) (xs zs : List Placed) → SpellsMore ts r xs zs → Ok_all xs → IsTrue (all_leaves_fit ts) × Ok_all zs
  parsed_more no_terms r xs zs e h = (refl, off_one e h)
  parsed_more (and_term t ts) r xs zs (w, ys, ws, e, one, more) h =
      let p = parsed t ys ws one (off_one e h) in
      let q = parsed_more ts r ws zs more p.1 in
      (and_from (leaves_fit t) (all_leaves_fit ts) p.0 q.0, q.1)

created : (t : Term) (xs zs : List Placed) → SpellsCreate t xs zs → IsTrue (leaves_fit t)
created (create s n m) xs zs e = refl
created _ xs zs e = absurd e

by_form : (t : Term) (xs : List Placed) → Ok_all xs → Derives xs t → IsTrue (leaves_fit t)
by_form t xs h (inl e) = created t xs [] e
by_form t xs h (inr (above, e)) = (parsed t xs [] e h).0

all_bytes : (s : List ℕ) → ((i : ℕ) → get_or s i 0 < 256) → are_bytes s ≡ true
all_bytes [] h = refl
all_bytes (b ∷ s) h = let here : nat_lt b 256 ≡ true = grind (arith, h 0) in and_from (nat_lt b 256) (are_bytes s) here (all_bytes s (λ i. h (suc i)))

pub parsed_leaves : ParsedLeavesFit
parsed_leaves bytes t h derives = by_form t (map (lexeme_of bytes) derives.tokens) (lexemes_within bytes derives.tokens (all_bytes bytes h) derives.cut) derives.statement.derived
