-- What is spelled is read: over the tokens of a schema the reader comes to its syntax tree.
use Rattle.std.proofs.Common.{◌≡◌, inl, inr, ℤ, Bool, true, false, List, [], ◌∷◌, ◌++◌, refl, sym, ap, ◌∙◌, append_assoc}
use Rattle.afl_lexer.specs.Span.{Span}
use Rattle.afl_lexer.specs.Lexemes.{Lexeme, a_symbol, Placed}
use Rattle.afl_lexer.specs.declared.token.Symbol.TheVariants.{LeftBracket, RightBracket, More, Comma}
use Rattle.schema_grammar.specs.declared.shape_text.SchemaText.{SchemaText}
use Rattle.schema_grammar.specs.declared.shape_text.AttrText.{AttrText}
use Rattle.schema_grammar.specs.declared.shape_text.DimText.{DimText}
use Rattle.schema_grammar.specs.declared.state.Label.{Label}
use Rattle.schema_grammar.specs.declared.state.Bound.{Bound}
use Rattle.schema_grammar.specs.declared.state.AttrPlace.TheVariants as attr
use Rattle.schema_grammar.specs.declared.state.DimPlace.{DimPlace}
use Rattle.schema_grammar.specs.declared.state.DimPlace.TheVariants as dim
use Rattle.schema_grammar.specs.declared.state.BoundPlace.TheVariants.{Low, Lowered, High}
use Rattle.schema_grammar.specs.declared.state.NumberPlace.TheVariants.{Bounded}
use Rattle.schema_grammar.specs.declared.state.ShapeState.{ShapeState}
use Rattle.schema_grammar.specs.declared.state.ShapeState.TheVariants.{Start, Attributes, Between, Dimensions}
use Rattle.schema_grammar.specs.Spelling.{placed, across, SpellsNull, SpellsAttr, SpellsAttrs, SpellsBound, SpellsHigh, SpellsDim, SpellsDims, SpellsSchema}
use Rattle.schema_grammar.specs.Inner.Reading.{label, bound, whole_schema, head, attr_end, attr_word, attr_goes, Read, shape_go, shape_run}

-- what ends an attribute
abbrev EndsAttr : Lexeme → Type 0
EndsAttr (a_symbol Comma) = Unit {0}
EndsAttr (a_symbol More) = Unit {0}
EndsAttr _ = ⊥

ends_word : (a : AttrText) (what : Lexeme) → EndsAttr what → attr_word a what ≡ attr_end a what
ends_word a (a_symbol Comma) h = refl
ends_word a (a_symbol More) h = refl
ends_word a _ h = absurd h

abbrev of_null : AttrText → Bool → AttrText
of_null a null = record { name = a.name; name_span = a.name_span; word = a.word; word_span = a.word_span; nullable = null }

read_null : (null : Bool) (a : AttrText) (l : Span) (done : List AttrText) (xs : List Placed) (what : Lexeme) (s : Span) (zs : List Placed)
    → EndsAttr what → SpellsNull null xs (placed what s ∷ zs)
    → shape_run (Attributes l done (attr.Worded (of_null a true))) xs ≡ shape_run (Attributes l done (attr.Ended (of_null a null))) (placed what s ∷ zs)
read_null true a l done xs what s zs h (inl e) =
    ap (shape_run (Attributes l done (attr.Worded (of_null a true)))) e
    ∙ ap (λ step. shape_go (attr_goes l done step) zs (λ state. shape_run state zs)) (ends_word (of_null a true) what h)
read_null true a l done xs what s zs h (inr (n, e)) = ap (shape_run (Attributes l done (attr.Worded (of_null a true)))) e
read_null false a l done xs what s zs h (m, n, e) = ap (shape_run (Attributes l done (attr.Worded (of_null a true)))) e

read_attr : (a : AttrText) (l : Span) (done : List AttrText) (xs : List Placed) (what : Lexeme) (s : Span) (zs : List Placed)
    → EndsAttr what → SpellsAttr a xs (placed what s ∷ zs)
    → shape_run (Attributes l done attr.First) xs ≡ shape_run (Attributes l done (attr.Ended a)) (placed what s ∷ zs)
read_attr a l done xs what s zs h (c, ys, e, g) =
    ap (shape_run (Attributes l done attr.First)) e
    ∙ read_null a.nullable a l done ys what s zs h g

read_attrs : (bs done : List AttrText) (l g : Span) (xs zs : List Placed) → SpellsAttrs bs xs (placed (a_symbol More) g ∷ zs)
    → shape_run (Attributes l done attr.First) xs ≡ shape_run (Between l (done ++ bs)) zs
read_attrs [] done l g xs zs h = absurd h
read_attrs (a ∷ []) done l g xs zs h = read_attr a l done xs (a_symbol More) g zs tt h
read_attrs (a ∷ b ∷ bs) done l g xs zs (c, ys, h, m) =
    read_attr a l done xs (a_symbol Comma) c ys tt h
    ∙ read_attrs (b ∷ bs) (done ++ a ∷ []) l g ys zs m
    ∙ ap (λ bs. shape_run (Between l bs) zs) (append_assoc done (a ∷ []) (b ∷ bs))

module _ (l : Span) (attrs : List AttrText) (b : Span) where
  abbrev at : List DimText → DimPlace → ShapeState
  at done place = Dimensions (head l attrs b) done place

  read_low : (z : ℤ) (s : Span) (n : Label) (done : List DimText) (xs zs : List Placed) → SpellsBound z s xs zs
      → shape_run (at done (dim.Bounds n Low)) xs ≡ shape_run (at done (dim.Bounds n (Lowered (bound z s)))) zs
  read_low z s n done xs zs (inl (v, p, e)) =
      ap (shape_run (at done (dim.Bounds n Low))) e ∙ ap (λ z. shape_run (at done (dim.Bounds n (Lowered (bound z s)))) zs) (sym p)
  read_low z s n done xs zs (inr (v, m, t, p, q, e)) =
      ap (shape_run (at done (dim.Bounds n Low))) e
      ∙ ap (λ z. shape_run (at done (dim.Bounds n (Lowered (bound z (across m t))))) zs) (sym p)
      ∙ ap (λ s. shape_run (at done (dim.Bounds n (Lowered (bound z s)))) zs) (sym q)

  read_high : (z : ℤ) (s : Span) (n : Label) (lo : Bound) (done : List DimText) (xs zs : List Placed) → SpellsHigh z s xs zs
      → shape_run (at done (dim.Bounds n (High lo))) xs ≡ shape_run (at done (dim.Numbers n lo (bound z s) Bounded)) zs
  read_high z s n lo done xs zs (inl (inl (v, p, e))) =
      ap (shape_run (at done (dim.Bounds n (High lo)))) e ∙ ap (λ z. shape_run (at done (dim.Numbers n lo (bound z s) Bounded)) zs) (sym p)
  read_high z s n lo done xs zs (inl (inr (v, m, t, p, q, e))) =
      ap (shape_run (at done (dim.Bounds n (High lo)))) e
      ∙ ap (λ z. shape_run (at done (dim.Numbers n lo (bound z (across m t)) Bounded)) zs) (sym p)
      ∙ ap (λ s. shape_run (at done (dim.Numbers n lo (bound z s) Bounded)) zs) (sym q)
  read_high z s n lo done xs zs (inr (p, e)) =
      ap (shape_run (at done (dim.Bounds n (High lo)))) e ∙ ap (λ z. shape_run (at done (dim.Numbers n lo (bound z s) Bounded)) zs) (sym p)

  read_dim : (d : DimText) (done : List DimText) (xs zs : List Placed) → SpellsDim d xs zs
      → shape_run (at done dim.First) xs ≡ shape_run (at done (dim.Ended d)) zs
  read_dim d done xs zs (e, c, f, g, ys, ws, p, low, high) =
      ap (shape_run (at done dim.First)) p
      ∙ read_low d.lo d.lo_span (label d.name d.name_span) done ys _ low
      ∙ read_high d.hi d.hi_span (label d.name d.name_span) (bound d.lo d.lo_span) done ws _ high

  read_dims : (ds done : List DimText) (e : Span) (xs zs : List Placed) → SpellsDims ds xs (placed (a_symbol RightBracket) e ∷ zs)
      → shape_run (at done dim.First) xs ≡ Read (whole_schema attrs (done ++ ds) (across b e)) (across l e) zs
  read_dims [] done e xs zs h = absurd h
  read_dims (d ∷ []) done e xs zs h = read_dim d done xs (placed (a_symbol RightBracket) e ∷ zs) h
  read_dims (d ∷ f ∷ fs) done e xs zs (c, ys, h, m) =
      read_dim d done xs (placed (a_symbol Comma) c ∷ ys) h
      ∙ read_dims (f ∷ fs) (done ++ d ∷ []) e ys zs m
      ∙ ap (λ ds. Read (whole_schema attrs ds (across b e)) (across l e) zs) (append_assoc done (d ∷ []) (f ∷ fs))

-- over the tokens of a schema the reader comes to its tree, its span and the tokens behind it
pub shape_read : (t : SchemaText) (s : Span) (xs zs : List Placed) → SpellsSchema t s xs zs → shape_run Start xs ≡ Read t s zs
shape_read t s xs zs (l, g, b, e, ys, ws, p, attrs, dims, q, r) =
    ap (shape_run Start) p
    ∙ read_attrs t.attributes [] l g ys (placed (a_symbol LeftBracket) b ∷ ws) attrs
    ∙ read_dims l t.attributes b t.dimensions [] e ws zs dims
    ∙ ap (λ s. Read (whole_schema t.attributes t.dimensions s) (across l e) zs) (sym q)
    ∙ ap (λ s. Read t s zs) (sym r)
