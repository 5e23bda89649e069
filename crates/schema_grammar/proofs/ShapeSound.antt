-- What is read is spelled: the reader holds the tokens that it went over.
use Rattle.std.proofs.Common.{◌≡◌, inl, inr, pos, true, false, List, [], ◌∷◌, ◌++◌, refl, sym, subst}
use Rattle.afl_lexer.specs.Span.{Span}
use Rattle.afl_lexer.specs.Lexemes.{Lexeme, a_name, a_number, a_word, a_symbol, Placed}
use Rattle.afl_lexer.specs.declared.token.Word.TheVariants.{Not, Null}
use Rattle.afl_lexer.specs.declared.token.Symbol.TheVariants.{LeftBracket, RightBracket, Less, More, Equal, Comma, Colon, Star, Minus}
use Rattle.schema_grammar.specs.declared.shape_text.AttrText.{AttrText}
use Rattle.schema_grammar.specs.declared.shape_text.DimText.{DimText}
use Rattle.schema_grammar.specs.declared.state.Label.{Label}
use Rattle.schema_grammar.specs.declared.state.Bound.{Bound}
use Rattle.schema_grammar.specs.declared.state.AttrPlace.{AttrPlace}
use Rattle.schema_grammar.specs.declared.state.AttrPlace.TheVariants as attr
use Rattle.schema_grammar.specs.declared.state.DimPlace.{DimPlace}
use Rattle.schema_grammar.specs.declared.state.DimPlace.TheVariants as dim
use Rattle.schema_grammar.specs.declared.state.Head.{Head}
use Rattle.schema_grammar.specs.declared.state.BoundPlace.TheVariants.{Low, LowMinus, Lowered, High, HighMinus}
use Rattle.schema_grammar.specs.declared.state.NumberPlace.TheVariants.{Bounded, Chunk, Chunked, Overlap}
use Rattle.schema_grammar.specs.declared.state.ShapeState.{ShapeState}
use Rattle.schema_grammar.specs.declared.state.ShapeState.TheVariants.{Start, Attributes, Between, Dimensions}
use Rattle.schema_grammar.specs.declared.state.ShapeStep.{ShapeStep}
use Rattle.schema_grammar.specs.declared.state.ShapeStep.TheVariants.{On, Whole, Unexpected}
use Rattle.schema_grammar.specs.Spelling.{placed, SpellsNull, SpellsAttr, SpellsAttrs, SpellsBound, SpellsHigh, SpellsDim, SpellsDims, SpellsSchema}
use Rattle.schema_grammar.specs.Inner.Reading.{attr_end, attr_word, attr_step, dim_step, attr_goes, dim_goes, start_turn, between_turn, shape_turn}

-- these attributes, each with a comma behind it
abbrev pub PassedAttrs : List AttrText → List Placed → List Placed → Type 0
PassedAttrs [] xs zs = xs ≡ zs
PassedAttrs (a ∷ bs) xs zs = (c : Span) × (ys : List Placed) × SpellsAttr a xs (placed (a_symbol Comma) c ∷ ys) × PassedAttrs bs ys zs

-- the tokens of an attribute up to a place
abbrev pub HoldsAttr : AttrPlace → List Placed → List Placed → Type 0
HoldsAttr attr.First xs zs = xs ≡ zs
HoldsAttr (attr.Named n) xs zs = xs ≡ placed (a_name n.name) n.span ∷ zs
HoldsAttr (attr.Typed n) xs zs = (c : Span) × (xs ≡ placed (a_name n.name) n.span ∷ placed (a_symbol Colon) c ∷ zs)
HoldsAttr (attr.Worded a) xs zs = (c : Span)
    × (xs ≡ placed (a_name a.name) a.name_span ∷ placed (a_symbol Colon) c ∷ placed (a_name a.word) a.word_span ∷ zs) × (a.nullable ≡ true)
HoldsAttr (attr.Negated a) xs zs = (c : Span) × (m : Span)
    × (xs ≡ placed (a_name a.name) a.name_span ∷ placed (a_symbol Colon) c ∷ placed (a_name a.word) a.word_span ∷ placed (a_word Not) m ∷ zs) × (a.nullable ≡ false)
HoldsAttr (attr.Ended a) xs zs = SpellsAttr a xs zs

-- these dimensions, each with a comma behind it
abbrev pub PassedDims : List DimText → List Placed → List Placed → Type 0
PassedDims [] xs zs = xs ≡ zs
PassedDims (d ∷ ds) xs zs = (c : Span) × (ys : List Placed) × SpellsDim d xs (placed (a_symbol Comma) c ∷ ys) × PassedDims ds ys zs

-- a name and `=`
abbrev Opened : Label → Span → List Placed → List Placed → Type 0
Opened n e xs ys = xs ≡ placed (a_name n.name) n.span ∷ placed (a_symbol Equal) e ∷ ys

-- a name, its bounds, and then `zs`
abbrev Within : Label → Bound → Bound → List Placed → List Placed → Type 0
Within n lo hi xs zs = (e : Span) × (c : Span) × (ys : List Placed) × (ws : List Placed)
    × Opened n e xs ys × SpellsBound lo.value lo.span ys (placed (a_symbol Colon) c ∷ ws) × SpellsHigh hi.value hi.span ws zs

-- the tokens of a dimension up to a place
abbrev pub HoldsDim : DimPlace → List Placed → List Placed → Type 0
HoldsDim dim.First xs zs = xs ≡ zs
HoldsDim (dim.Named n) xs zs = xs ≡ placed (a_name n.name) n.span ∷ zs
HoldsDim (dim.Bounds n Low) xs zs = (e : Span) × Opened n e xs zs
HoldsDim (dim.Bounds n (LowMinus m)) xs zs = (e : Span) × Opened n e xs (placed (a_symbol Minus) m ∷ zs)
HoldsDim (dim.Bounds n (Lowered lo)) xs zs = (e : Span) × (ys : List Placed) × Opened n e xs ys × SpellsBound lo.value lo.span ys zs
HoldsDim (dim.Bounds n (High lo)) xs zs = (e : Span) × (c : Span) × (ys : List Placed) × Opened n e xs ys × SpellsBound lo.value lo.span ys (placed (a_symbol Colon) c ∷ zs)
HoldsDim (dim.Bounds n (HighMinus lo m)) xs zs = (e : Span) × (c : Span) × (ys : List Placed)
    × Opened n e xs ys × SpellsBound lo.value lo.span ys (placed (a_symbol Colon) c ∷ placed (a_symbol Minus) m ∷ zs)
HoldsDim (dim.Numbers n lo hi Bounded) xs zs = Within n lo hi xs zs
HoldsDim (dim.Numbers n lo hi Chunk) xs zs = (f : Span) × Within n lo hi xs (placed (a_symbol Comma) f ∷ zs)
HoldsDim (dim.Numbers n lo hi (Chunked k)) xs zs = (f : Span) × Within n lo hi xs (placed (a_symbol Comma) f ∷ placed (a_number (pos k.value)) k.span ∷ zs)
HoldsDim (dim.Numbers n lo hi (Overlap k)) xs zs = (f : Span) × (g : Span)
    × Within n lo hi xs (placed (a_symbol Comma) f ∷ placed (a_number (pos k.value)) k.span ∷ placed (a_symbol Comma) g ∷ zs)
HoldsDim (dim.Ended d) xs zs = SpellsDim d xs zs

-- from `xs` to `zs` the reader went to where it stands
abbrev pub HoldsShape : ShapeState → List Placed → List Placed → Type 0
HoldsShape Start xs zs = xs ≡ zs
HoldsShape (Attributes l done place) xs zs = (ys : List Placed) × (us : List Placed)
    × (xs ≡ placed (a_symbol Less) l ∷ ys) × PassedAttrs done ys us × HoldsAttr place us zs
HoldsShape (Between l attrs) xs zs = (g : Span) × (ys : List Placed) × (xs ≡ placed (a_symbol Less) l ∷ ys) × SpellsAttrs attrs ys (placed (a_symbol More) g ∷ zs)
HoldsShape (Dimensions h done place) xs zs = (g : Span) × (ys : List Placed) × (ws : List Placed) × (us : List Placed)
    × (xs ≡ placed (a_symbol Less) h.start ∷ ys) × SpellsAttrs h.attributes ys (placed (a_symbol More) g ∷ placed (a_symbol LeftBracket) h.bracket ∷ ws)
    × PassedDims done ws us × HoldsDim place us zs

abbrev pub HoldsStep : ShapeStep → List Placed → List Placed → Type 0
HoldsStep (On state) xs zs = HoldsShape state xs zs
HoldsStep (Whole t s) xs zs = SpellsSchema t s xs zs
HoldsStep Unexpected xs zs = Unit {0}

passed_attr : (bs : List AttrText) (a : AttrText) (c : Span) (xs ys zs : List Placed) → PassedAttrs bs xs ys → SpellsAttr a ys (placed (a_symbol Comma) c ∷ zs) → PassedAttrs (bs ++ a ∷ []) xs zs
passed_attr [] a c xs ys zs p h = (c, zs, subst (λ l. SpellsAttr a l (placed (a_symbol Comma) c ∷ zs)) (sym p) h, refl)
passed_attr (b ∷ bs) a c xs ys zs (d, us, g, p) h = (d, us, g, passed_attr bs a c us ys zs p h)

all_attrs : (bs : List AttrText) (a : AttrText) (xs ys zs : List Placed) → PassedAttrs bs xs ys → SpellsAttr a ys zs → SpellsAttrs (bs ++ a ∷ []) xs zs
all_attrs [] a xs ys zs p h = subst (λ l. SpellsAttr a l zs) (sym p) h
all_attrs (b ∷ []) a xs ys zs (d, us, g, p) h = (d, us, g, all_attrs [] a us ys zs p h)
all_attrs (b ∷ c ∷ bs) a xs ys zs (d, us, g, p) h = (d, us, g, all_attrs (c ∷ bs) a us ys zs p h)

passed_dim : (bs : List DimText) (a : DimText) (c : Span) (xs ys zs : List Placed) → PassedDims bs xs ys → SpellsDim a ys (placed (a_symbol Comma) c ∷ zs) → PassedDims (bs ++ a ∷ []) xs zs
passed_dim [] a c xs ys zs p h = (c, zs, subst (λ l. SpellsDim a l (placed (a_symbol Comma) c ∷ zs)) (sym p) h, refl)
passed_dim (b ∷ bs) a c xs ys zs (d, us, g, p) h = (d, us, g, passed_dim bs a c us ys zs p h)

all_dims : (bs : List DimText) (a : DimText) (xs ys zs : List Placed) → PassedDims bs xs ys → SpellsDim a ys zs → SpellsDims (bs ++ a ∷ []) xs zs
all_dims [] a xs ys zs p h = subst (λ l. SpellsDim a l zs) (sym p) h
all_dims (b ∷ []) a xs ys zs (d, us, g, p) h = (d, us, g, all_dims [] a us ys zs p h)
all_dims (b ∷ c ∷ bs) a xs ys zs (d, us, g, p) h = (d, us, g, all_dims (c ∷ bs) a us ys zs p h)

-- Attributes.

word_ends : (a : AttrText) (us zs : List Placed) → HoldsAttr (attr.Worded a) us zs → SpellsAttr a us zs
word_ends a us zs (c, h, e) = (c, zs, h, subst (λ null. SpellsNull null zs zs) (sym e) (inl refl))

holds_attr_end : (l : Span) (done : List AttrText) (a : AttrText) (s : Span) (what : Lexeme) (xs zs : List Placed)
    → HoldsShape (Attributes l done (attr.Ended a)) xs (placed what s ∷ zs) → HoldsStep (attr_goes l done (attr_end a what)) xs zs
holds_attr_end l done a s (a_symbol Comma) xs zs (ys, us, e, p, h) = (ys, zs, e, passed_attr done a s ys us zs p h, refl)
holds_attr_end l done a s (a_symbol More) xs zs (ys, us, e, p, h) = (s, ys, e, all_attrs done a ys us _ p h)
holds_attr_end l done a s _ xs zs h = tt

holds_worded : (l : Span) (done : List AttrText) (a : AttrText) (s : Span) (what : Lexeme) (xs zs : List Placed)
    → HoldsShape (Attributes l done (attr.Worded a)) xs (placed what s ∷ zs) → HoldsStep (attr_goes l done (attr_word a what)) xs zs
holds_worded l done a s (a_word Not) xs zs (ys, us, e, p, (c, h, q)) = (ys, us, e, p, (c, s, h, refl))
holds_worded l done a s (a_word Null) xs zs (ys, us, e, p, (c, h, q)) =
    (ys, us, e, p, (c, placed (a_word Null) s ∷ zs, h, subst (λ null. SpellsNull null (placed (a_word Null) s ∷ zs) zs) (sym q) (inr (s, refl))))
holds_worded l done a s what xs zs (ys, us, e, p, h) = holds_attr_end l done a s what xs zs (ys, us, e, p, word_ends a us _ h)

holds_attr : (l : Span) (done : List AttrText) (place : AttrPlace) (s : Span) (what : Lexeme) (xs zs : List Placed)
    → HoldsShape (Attributes l done place) xs (placed what s ∷ zs) → HoldsStep (attr_goes l done (attr_step place s what)) xs zs
holds_attr l done attr.First s (a_name n) xs zs h = h
holds_attr l done attr.First s _ xs zs h = tt
holds_attr l done (attr.Named n) s (a_symbol Colon) xs zs (ys, us, e, p, h) = (ys, us, e, p, (s, h))
holds_attr l done (attr.Named n) s _ xs zs h = tt
holds_attr l done (attr.Typed n) s (a_name w) xs zs (ys, us, e, p, (c, h)) = (ys, us, e, p, (c, h, refl))
holds_attr l done (attr.Typed n) s _ xs zs h = tt
holds_attr l done (attr.Worded a) s what xs zs h = holds_worded l done a s what xs zs h
holds_attr l done (attr.Negated a) s (a_word Null) xs zs (ys, us, e, p, (c, m, h, q)) =
    (ys, us, e, p, (c, placed (a_word Not) m ∷ placed (a_word Null) s ∷ zs, h, subst (λ null. SpellsNull null (placed (a_word Not) m ∷ placed (a_word Null) s ∷ zs) zs) (sym q) (m, s, refl)))
holds_attr l done (attr.Negated a) s _ xs zs h = tt
holds_attr l done (attr.Ended a) s what xs zs h = holds_attr_end l done a s what xs zs h

-- Dimensions.

module _ (t : Head) where
  holds_dim_end : (done : List DimText) (d : DimText) (s : Span) (what : Lexeme) (xs zs : List Placed)
      → HoldsShape (Dimensions t done (dim.Ended d)) xs (placed what s ∷ zs) → HoldsStep (dim_goes t done (dim_step (dim.Ended d) s what) s) xs zs
  holds_dim_end done d s (a_symbol Comma) xs zs (g, ys, ws, us, e, h, p, i) = (g, ys, ws, zs, e, h, passed_dim done d s ws us zs p i, refl)
  holds_dim_end done d s (a_symbol RightBracket) xs zs (g, ys, ws, us, e, h, p, i) = (t.start, g, t.bracket, s, ys, ws, e, h, all_dims done d ws us _ p i, refl, refl)
  holds_dim_end done d s _ xs zs h = tt

  holds_dim : (done : List DimText) (place : DimPlace) (s : Span) (what : Lexeme) (xs zs : List Placed)
      → HoldsShape (Dimensions t done place) xs (placed what s ∷ zs) → HoldsStep (dim_goes t done (dim_step place s what) s) xs zs
  holds_dim done dim.First s (a_name n) xs zs h = h
  holds_dim done dim.First s _ xs zs h = tt
  holds_dim done (dim.Named n) s (a_symbol Equal) xs zs (g, ys, ws, us, e, h, p, i) = (g, ys, ws, us, e, h, p, (s, i))
  holds_dim done (dim.Named n) s _ xs zs h = tt
  holds_dim done (dim.Bounds n Low) s (a_symbol Minus) xs zs h = h
  holds_dim done (dim.Bounds n Low) s (a_number (pos v)) xs zs (g, ys, ws, us, e, h, p, (q, i)) = (g, ys, ws, us, e, h, p, (q, placed (a_number (pos v)) s ∷ zs, i, inl (v, refl, refl)))
  holds_dim done (dim.Bounds n Low) s _ xs zs h = tt
  holds_dim done (dim.Bounds n (LowMinus m)) s (a_number (pos v)) xs zs (g, ys, ws, us, e, h, p, (q, i)) =
      (g, ys, ws, us, e, h, p, (q, placed (a_symbol Minus) m ∷ placed (a_number (pos v)) s ∷ zs, i, inr (v, m, s, refl, refl, refl)))
  holds_dim done (dim.Bounds n (LowMinus m)) s _ xs zs h = tt
  holds_dim done (dim.Bounds n (Lowered lo)) s (a_symbol Colon) xs zs (g, ys, ws, us, e, h, p, (q, vs, i, j)) = (g, ys, ws, us, e, h, p, (q, s, vs, i, j))
  holds_dim done (dim.Bounds n (Lowered lo)) s _ xs zs h = tt
  holds_dim done (dim.Bounds n (High lo)) s (a_symbol Minus) xs zs h = h
  holds_dim done (dim.Bounds n (High lo)) s (a_symbol Star) xs zs (g, ys, ws, us, e, h, p, (q, c, vs, i, j)) =
      (g, ys, ws, us, e, h, p, (q, c, vs, placed (a_symbol Star) s ∷ zs, i, j, inr (refl, refl)))
  holds_dim done (dim.Bounds n (High lo)) s (a_number (pos v)) xs zs (g, ys, ws, us, e, h, p, (q, c, vs, i, j)) =
      (g, ys, ws, us, e, h, p, (q, c, vs, placed (a_number (pos v)) s ∷ zs, i, j, inl (inl (v, refl, refl))))
  holds_dim done (dim.Bounds n (High lo)) s _ xs zs h = tt
  holds_dim done (dim.Bounds n (HighMinus lo m)) s (a_number (pos v)) xs zs (g, ys, ws, us, e, h, p, (q, c, vs, i, j)) =
      (g, ys, ws, us, e, h, p, (q, c, vs, placed (a_symbol Minus) m ∷ placed (a_number (pos v)) s ∷ zs, i, j, inl (inr (v, m, s, refl, refl, refl))))
  holds_dim done (dim.Bounds n (HighMinus lo m)) s _ xs zs h = tt
  holds_dim done (dim.Numbers n lo hi Bounded) s (a_symbol Comma) xs zs (g, ys, ws, us, e, h, p, i) = (g, ys, ws, us, e, h, p, (s, i))
  holds_dim done (dim.Numbers n lo hi Bounded) s _ xs zs h = tt
  holds_dim done (dim.Numbers n lo hi Chunk) s (a_number (pos v)) xs zs h = h
  holds_dim done (dim.Numbers n lo hi Chunk) s _ xs zs h = tt
  holds_dim done (dim.Numbers n lo hi (Chunked k)) s (a_symbol Comma) xs zs (g, ys, ws, us, e, h, p, (f, i)) = (g, ys, ws, us, e, h, p, (f, s, i))
  holds_dim done (dim.Numbers n lo hi (Chunked k)) s _ xs zs h = tt
  holds_dim done (dim.Numbers n lo hi (Overlap k)) s (a_number (pos v)) xs zs (g, ys, ws, us, e, h, p, (f, f', (q, c, vs, os, i, j, m))) =
      (g, ys, ws, us, e, h, p, (q, c, f, f', vs, os, i, j, m))
  holds_dim done (dim.Numbers n lo hi (Overlap k)) s _ xs zs h = tt
  holds_dim done (dim.Ended d) s what xs zs h = holds_dim_end done d s what xs zs h

-- one more token
pub holds_turn : (state : ShapeState) (x : Placed) (xs zs : List Placed) → HoldsShape state xs (x ∷ zs) → HoldsStep (shape_turn state x) xs zs
holds_turn Start x xs zs h = holds_start x.span x.what xs zs h
  where
    holds_start : (s : Span) (what : Lexeme) (xs zs : List Placed) → xs ≡ placed what s ∷ zs → HoldsStep (start_turn s what) xs zs
    holds_start s (a_symbol Less) xs zs e = (zs, zs, e, refl, refl)
    holds_start s _ xs zs e = tt
holds_turn (Attributes l done place) x xs zs h = holds_attr l done place x.span x.what xs zs h
holds_turn (Between l attrs) x xs zs h = holds_between l attrs x.span x.what xs zs h
  where
    holds_between : (l : Span) (attrs : List AttrText) (s : Span) (what : Lexeme) (xs zs : List Placed)
        → HoldsShape (Between l attrs) xs (placed what s ∷ zs) → HoldsStep (between_turn l attrs s what) xs zs
    holds_between l attrs s (a_symbol LeftBracket) xs zs (g, ys, e, h) = (g, ys, zs, zs, e, h, refl, refl)
    holds_between l attrs s _ xs zs h = tt
holds_turn (Dimensions t done place) x xs zs h = holds_dim t done place x.span x.what xs zs h
