-- The tokens of a schema's text.
use Rattle.std.specs.Prelude.{◌≢◌, ℕ, suc, ◌^◌, ◌<◌, ℤ, pos, negsuc, unsigned_abs, Bool, true, false, ◌==◌, if◌then◌else◌, List, [], ◌∷◌, map}
use Rattle.std.specs.List.{AllByRecursion}
use Rattle.afl_lexer.specs.Naming.{IsName}
use Rattle.afl_lexer.specs.Span.{Span}
use Rattle.afl_lexer.specs.Lexemes.{a_name, a_number, a_word, a_symbol}
use Rattle.afl_lexer.specs.Spelling.{Mark, a_space, says}
use Rattle.afl_lexer.specs.declared.token.Word.TheVariants.{Not, Null}
use Rattle.afl_lexer.specs.declared.token.Symbol.TheVariants.{LeftBracket, RightBracket, Less, More, Equal, Comma, Colon, Star, Minus}
use Rattle.schema_grammar.specs.declared.shape_text.SchemaText.{SchemaText}
use Rattle.schema_grammar.specs.declared.shape_text.AttrText.{AttrText}
use Rattle.schema_grammar.specs.declared.shape_text.DimText.{DimText}

abbrev pub nowhere : Span
nowhere = record { start = 0; end = 0 }

-- the syntax tree without its places
abbrev pub bare_attr : AttrText → AttrText
bare_attr a = record { name = a.name; name_span = nowhere; word = a.word; word_span = nowhere; nullable = a.nullable }

abbrev pub bare_dim : DimText → DimText
bare_dim d = record {
  name = d.name;
  name_span = nowhere;
  lo = d.lo;
  lo_span = nowhere;
  hi = d.hi;
  hi_span = nowhere;
  chunk = d.chunk;
  chunk_span = nowhere;
  overlap = d.overlap;
  overlap_span = nowhere;
}

abbrev pub bare_shape : SchemaText → SchemaText
bare_shape t = record { attributes = map bare_attr t.attributes; dimensions = map bare_dim t.dimensions; brackets = nowhere }

-- What a schema's syntax tree is printed as, and then the rest.

abbrev pub null_marks : Bool → List Mark → List Mark
null_marks true rest = rest
null_marks false rest = a_space ∷ says (a_word Not) ∷ a_space ∷ says (a_word Null) ∷ rest

abbrev pub attr_marks : AttrText → List Mark → List Mark
attr_marks a rest = says (a_name a.name) ∷ says (a_symbol Colon) ∷ says (a_name a.word) ∷ null_marks a.nullable rest

abbrev pub bound_marks : ℤ → List Mark → List Mark
bound_marks (pos n) rest = says (a_number (pos n)) ∷ rest
bound_marks (negsuc n) rest = says (a_symbol Minus) ∷ says (a_number (pos (suc n))) ∷ rest

abbrev pub high_marks : ℤ → List Mark → List Mark
high_marks (pos n) rest = (if n == 4611686018427387903 then says (a_symbol Star) else says (a_number (pos n))) ∷ rest
high_marks (negsuc n) rest = bound_marks (negsuc n) rest

abbrev pub lengths_marks : ℕ → ℕ → List Mark → List Mark
lengths_marks chunk overlap rest = says (a_symbol Comma) ∷ says (a_number (pos chunk)) ∷ says (a_symbol Comma) ∷ says (a_number (pos overlap)) ∷ rest

abbrev pub dim_marks : DimText → List Mark → List Mark
dim_marks d rest = says (a_name d.name) ∷ says (a_symbol Equal) ∷ bound_marks d.lo
    (says (a_symbol Colon) ∷ high_marks d.hi (lengths_marks d.chunk d.overlap rest))

abbrev pub attrs_marks : List AttrText → List Mark → List Mark
attrs_marks [] rest = rest
attrs_marks (a ∷ []) rest = attr_marks a rest
attrs_marks (a ∷ b ∷ bs) rest = attr_marks a (says (a_symbol Comma) ∷ attrs_marks (b ∷ bs) rest)

abbrev pub dims_marks : List DimText → List Mark → List Mark
dims_marks [] rest = rest
dims_marks (d ∷ []) rest = dim_marks d rest
dims_marks (d ∷ e ∷ es) rest = dim_marks d (says (a_symbol Comma) ∷ dims_marks (e ∷ es) rest)

abbrev pub shape_marks : SchemaText → List Mark → List Mark
shape_marks t rest = says (a_symbol Less) ∷ attrs_marks t.attributes
    (says (a_symbol More) ∷ says (a_symbol LeftBracket) ∷ dims_marks t.dimensions (says (a_symbol RightBracket) ∷ rest))

-- Names are names, and numbers are those of tokens.

pub record IsAttrPrintable (a : AttrText) : Type 0 where
  pub name : IsName a.name
  pub word : IsName a.word

pub record IsDimPrintable (d : DimText) : Type 0 where
  pub name : IsName d.name
  pub lo : unsigned_abs d.lo < 2 ^ 63
  pub hi : unsigned_abs d.hi < 2 ^ 63
  pub chunk : d.chunk < 2 ^ 63
  pub overlap : d.overlap < 2 ^ 63

-- A tree that tokens may have: it has an attribute and a dimension, too.
pub record IsPrintable (t : SchemaText) : Type 0 where
  pub attributes : AllByRecursion IsAttrPrintable t.attributes
  pub some_attribute : t.attributes ≢ []
  pub dimensions : AllByRecursion IsDimPrintable t.dimensions
  pub some_dimension : t.dimensions ≢ []
