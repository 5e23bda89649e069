-- What is open can be ended: from each place in a schema there are tokens that end it, whatever stands behind them.
use Rattle.std.proofs.Common.{◌≡◌, ℕ, pos, List, [], ◌∷◌, refl}
use Rattle.afl_lexer.specs.Span.{Span}
use Rattle.afl_lexer.specs.Lexemes.{Lexeme, a_name, a_number, a_word, a_symbol, Placed}
use Rattle.afl_lexer.specs.declared.token.Word.TheVariants.{Null}
use Rattle.afl_lexer.specs.declared.token.Symbol.TheVariants.{LeftBracket, RightBracket, Less, More, Equal, Comma, Colon}
use Rattle.schema_grammar.specs.declared.shape_text.SchemaText.{SchemaText}
use Rattle.schema_grammar.specs.declared.shape_text.AttrText.{AttrText}
use Rattle.schema_grammar.specs.declared.shape_text.DimText.{DimText}
use Rattle.schema_grammar.specs.declared.state.AttrPlace.{AttrPlace}
use Rattle.schema_grammar.specs.declared.state.AttrPlace.TheVariants as attr
use Rattle.schema_grammar.specs.declared.state.DimPlace.{DimPlace}
use Rattle.schema_grammar.specs.declared.state.DimPlace.TheVariants as dim
use Rattle.schema_grammar.specs.declared.state.Head.{Head}
use Rattle.schema_grammar.specs.declared.state.BoundPlace.TheVariants.{Low, LowMinus, Lowered, High, HighMinus}
use Rattle.schema_grammar.specs.declared.state.NumberPlace.TheVariants.{Bounded, Chunk, Chunked, Overlap}
use Rattle.schema_grammar.specs.declared.state.ShapeState.{ShapeState}
use Rattle.schema_grammar.specs.declared.state.ShapeState.TheVariants.{Start, Attributes, Between, Dimensions}
use Rattle.schema_grammar.specs.Spelling.{placed}
use Rattle.schema_grammar.specs.Inner.Reading.{Read, shape_run}

abbrev nowhere : Span
nowhere = record { start = 0; end = 0 }

-- the name `a`
abbrev name_a : List ℕ
name_a = 97 ∷ []

-- the number 1
abbrev one : Lexeme
one = a_number (pos 1)

-- `]`
abbrev end_dims : List Placed → List Placed
end_dims zs = placed (a_symbol RightBracket) nowhere ∷ zs

-- `, 1 ]`
abbrev end_chunk : List Placed → List Placed
end_chunk zs = placed (a_symbol Comma) nowhere ∷ placed one nowhere ∷ end_dims zs

-- `, 1 , 1 ]`
abbrev end_bounds : List Placed → List Placed
end_bounds zs = placed (a_symbol Comma) nowhere ∷ placed one nowhere ∷ end_chunk zs

-- `: 1 , 1 , 1 ]`
abbrev end_low : List Placed → List Placed
end_low zs = placed (a_symbol Colon) nowhere ∷ placed one nowhere ∷ end_bounds zs

-- `= 1 : 1 , 1 , 1 ]`
abbrev end_name : List Placed → List Placed
end_name zs = placed (a_symbol Equal) nowhere ∷ placed one nowhere ∷ end_low zs

-- the tokens that end a schema from a place among its dimensions, and then `zs`
abbrev dim_enders : DimPlace → List Placed → List Placed
dim_enders dim.First zs = placed (a_name name_a) nowhere ∷ end_name zs
dim_enders (dim.Named n) zs = end_name zs
dim_enders (dim.Bounds n Low) zs = placed one nowhere ∷ end_low zs
dim_enders (dim.Bounds n (LowMinus m)) zs = placed one nowhere ∷ end_low zs
dim_enders (dim.Bounds n (Lowered lo)) zs = end_low zs
dim_enders (dim.Bounds n (High lo)) zs = placed one nowhere ∷ end_bounds zs
dim_enders (dim.Bounds n (HighMinus lo m)) zs = placed one nowhere ∷ end_bounds zs
dim_enders (dim.Numbers n lo hi Bounded) zs = end_bounds zs
dim_enders (dim.Numbers n lo hi Chunk) zs = placed one nowhere ∷ end_chunk zs
dim_enders (dim.Numbers n lo hi (Chunked c)) zs = end_chunk zs
dim_enders (dim.Numbers n lo hi (Overlap c)) zs = placed one nowhere ∷ end_dims zs
dim_enders (dim.Ended d) zs = end_dims zs

-- `[ a = 1 : 1 , 1 , 1 ]`
abbrev all_dims : List Placed → List Placed
all_dims zs = placed (a_symbol LeftBracket) nowhere ∷ dim_enders dim.First zs

-- `> [ a = 1 : 1 , 1 , 1 ]`
abbrev end_attrs : List Placed → List Placed
end_attrs zs = placed (a_symbol More) nowhere ∷ all_dims zs

-- the same from a place among its attributes
abbrev attr_enders : AttrPlace → List Placed → List Placed
attr_enders attr.First zs = placed (a_name name_a) nowhere ∷ placed (a_symbol Colon) nowhere ∷ placed (a_name name_a) nowhere ∷ end_attrs zs
attr_enders (attr.Named n) zs = placed (a_symbol Colon) nowhere ∷ placed (a_name name_a) nowhere ∷ end_attrs zs
attr_enders (attr.Typed n) zs = placed (a_name name_a) nowhere ∷ end_attrs zs
attr_enders (attr.Worded a) zs = end_attrs zs
attr_enders (attr.Negated a) zs = placed (a_word Null) nowhere ∷ end_attrs zs
attr_enders (attr.Ended a) zs = end_attrs zs

-- the tokens that end a schema, and then `zs`
abbrev pub shape_enders : ShapeState → List Placed → List Placed
shape_enders Start zs = placed (a_symbol Less) nowhere ∷ attr_enders attr.First zs
shape_enders (Attributes l done place) zs = attr_enders place zs
shape_enders (Between l attrs) zs = all_dims zs
shape_enders (Dimensions h done place) zs = dim_enders place zs

-- they end it with some schema
abbrev pub Ends : ShapeState → List Placed → Type 0
Ends state zs = (t : SchemaText) × (s : Span) × (shape_run state (shape_enders state zs) ≡ Read t s zs)

dims_end : (h : Head) (done : List DimText) (place : DimPlace) (zs : List Placed) → Ends (Dimensions h done place) zs
dims_end h done dim.First zs = (_, _, refl)
dims_end h done (dim.Named n) zs = (_, _, refl)
dims_end h done (dim.Bounds n Low) zs = (_, _, refl)
dims_end h done (dim.Bounds n (LowMinus m)) zs = (_, _, refl)
dims_end h done (dim.Bounds n (Lowered lo)) zs = (_, _, refl)
dims_end h done (dim.Bounds n (High lo)) zs = (_, _, refl)
dims_end h done (dim.Bounds n (HighMinus lo m)) zs = (_, _, refl)
dims_end h done (dim.Numbers n lo hi Bounded) zs = (_, _, refl)
dims_end h done (dim.Numbers n lo hi Chunk) zs = (_, _, refl)
dims_end h done (dim.Numbers n lo hi (Chunked c)) zs = (_, _, refl)
dims_end h done (dim.Numbers n lo hi (Overlap c)) zs = (_, _, refl)
dims_end h done (dim.Ended d) zs = (_, _, refl)

attrs_end : (l : Span) (done : List AttrText) (place : AttrPlace) (zs : List Placed) → Ends (Attributes l done place) zs
attrs_end l done attr.First zs = (_, _, refl)
attrs_end l done (attr.Named n) zs = (_, _, refl)
attrs_end l done (attr.Typed n) zs = (_, _, refl)
attrs_end l done (attr.Worded a) zs = (_, _, refl)
attrs_end l done (attr.Negated a) zs = (_, _, refl)
attrs_end l done (attr.Ended a) zs = (_, _, refl)

pub shape_ends : (state : ShapeState) (zs : List Placed) → Ends state zs
shape_ends Start zs = (_, _, refl)
shape_ends (Attributes l done place) zs = attrs_end l done place zs
shape_ends (Between l attrs) zs = (_, _, refl)
shape_ends (Dimensions h done place) zs = dims_end h done place zs
