-- The grammar of schemas: which tokens a schema's syntax tree has.
-- Each production relates the tokens `xs` to the tokens `zs` that are left behind what it spells.
use Rattle.std.specs.Prelude.{◌≡◌, ◌⊎◌, ℕ, ℤ, pos, neg_ℤ, Bool, true, false, List, [], ◌∷◌}
use Rattle.afl_lexer.specs.Span.{Span}
use Rattle.afl_lexer.specs.Lexemes.{Lexeme, a_name, a_number, a_word, a_symbol, Placed}
use Rattle.afl_lexer.specs.declared.token.Word.TheVariants.{Not, Null}
use Rattle.afl_lexer.specs.declared.token.Symbol.TheVariants.{LeftBracket, RightBracket, Less, More, Equal, Comma, Colon, Star, Minus}
use Rattle.schema_grammar.specs.declared.shape_text.SchemaText.{SchemaText}
use Rattle.schema_grammar.specs.declared.shape_text.AttrText.{AttrText}
use Rattle.schema_grammar.specs.declared.shape_text.DimText.{DimText}

-- a token at its place
abbrev pub placed : Lexeme → Span → Placed
placed what span = record { what = what; span = span }

-- from the start of the first to the end of the second
abbrev pub across : Span → Span → Span
across s t = record { start = s.start; end = t.end }

-- the number that `*` stands for
abbrev pub unbounded : ℤ
unbounded = pos 4611686018427387903

-- `not null`, or `null`, which may be left out
abbrev pub SpellsNull : Bool → List Placed → List Placed → Type 0
SpellsNull true xs zs = (xs ≡ zs) ⊎ ((n : Span) × (xs ≡ placed (a_word Null) n ∷ zs))
SpellsNull false xs zs = (m : Span) × (n : Span) × (xs ≡ placed (a_word Not) m ∷ placed (a_word Null) n ∷ zs)

-- name : name [ not null | null ]
abbrev pub SpellsAttr : AttrText → List Placed → List Placed → Type 0
SpellsAttr a xs zs = (c : Span) × (ys : List Placed)
    × (xs ≡ placed (a_name a.name) a.name_span ∷ placed (a_symbol Colon) c ∷ placed (a_name a.word) a.word_span ∷ ys)
    × SpellsNull a.nullable ys zs

-- attr { , attr }
abbrev pub SpellsAttrs : List AttrText → List Placed → List Placed → Type 0
SpellsAttrs [] xs zs = ⊥
SpellsAttrs (a ∷ []) xs zs = SpellsAttr a xs zs
SpellsAttrs (a ∷ b ∷ bs) xs zs = (c : Span) × (ys : List Placed) × SpellsAttr a xs (placed (a_symbol Comma) c ∷ ys) × SpellsAttrs (b ∷ bs) ys zs

-- number | - number, whose span includes the sign
abbrev pub SpellsBound : ℤ → Span → List Placed → List Placed → Type 0
SpellsBound z s xs zs =
    ((n : ℕ) × (z ≡ pos n) × (xs ≡ placed (a_number (pos n)) s ∷ zs))
    ⊎ ((n : ℕ) × (m : Span) × (t : Span) × (z ≡ neg_ℤ (pos n)) × (s ≡ across m t) × (xs ≡ placed (a_symbol Minus) m ∷ placed (a_number (pos n)) t ∷ zs))

-- a bound, or `*`, which is kept as its number
abbrev pub SpellsHigh : ℤ → Span → List Placed → List Placed → Type 0
SpellsHigh z s xs zs = SpellsBound z s xs zs ⊎ ((z ≡ unbounded) × (xs ≡ placed (a_symbol Star) s ∷ zs))

-- name = bound : ( bound | * ) , number , number
abbrev pub SpellsDim : DimText → List Placed → List Placed → Type 0
SpellsDim d xs zs = (e : Span) × (c : Span) × (f : Span) × (g : Span) × (ys : List Placed) × (ws : List Placed)
    × (xs ≡ placed (a_name d.name) d.name_span ∷ placed (a_symbol Equal) e ∷ ys)
    × SpellsBound d.lo d.lo_span ys (placed (a_symbol Colon) c ∷ ws)
    × SpellsHigh d.hi d.hi_span ws (placed (a_symbol Comma) f ∷ placed (a_number (pos d.chunk)) d.chunk_span ∷ placed
    (a_symbol Comma) g ∷ placed (a_number (pos d.overlap)) d.overlap_span ∷ zs)

-- dim { , dim }
abbrev pub SpellsDims : List DimText → List Placed → List Placed → Type 0
SpellsDims [] xs zs = ⊥
SpellsDims (d ∷ []) xs zs = SpellsDim d xs zs
SpellsDims (d ∷ e ∷ es) xs zs = (c : Span) × (ys : List Placed) × SpellsDim d xs (placed (a_symbol Comma) c ∷ ys) × SpellsDims (e ∷ es) ys zs

-- < attr { , attr } > [ dim { , dim } ], whose span `s` runs from `<` to `]`
abbrev pub SpellsSchema : SchemaText → Span → List Placed → List Placed → Type 0
SpellsSchema t s xs zs = (l : Span) × (g : Span) × (b : Span) × (e : Span) × (ys : List Placed) × (ws : List Placed)
    × (xs ≡ placed (a_symbol Less) l ∷ ys)
    × SpellsAttrs t.attributes ys (placed (a_symbol More) g ∷ placed (a_symbol LeftBracket) b ∷ ws)
    × SpellsDims t.dimensions ws (placed (a_symbol RightBracket) e ∷ zs)
    × (t.brackets ≡ across b e) × (s ≡ across l e)
