-- The reader of schemas: what one more token does to it.
use Rattle.std.specs.Prelude.{ℕ, ℤ, pos, neg_ℤ, true, false, List, [], ◌∷◌, ◌++◌}
use Rattle.afl_lexer.specs.Span.{Span}
use Rattle.afl_lexer.specs.Lexemes.{Lexeme, a_name, a_number, a_word, a_symbol, Placed}
use Rattle.afl_lexer.specs.declared.token.Word.TheVariants.{Not, Null}
use Rattle.afl_lexer.specs.declared.token.Symbol.TheVariants.{LeftBracket, RightBracket, Less, More, Equal, Comma, Colon, Star, Minus}
use Rattle.schema_grammar.specs.declared.shape_text.SchemaText.{SchemaText}
use Rattle.schema_grammar.specs.declared.shape_text.AttrText.{AttrText}
use Rattle.schema_grammar.specs.declared.shape_text.DimText.{DimText}
use Rattle.schema_grammar.specs.declared.state.Label.{Label}
use Rattle.schema_grammar.specs.declared.state.Bound.{Bound}
use Rattle.schema_grammar.specs.declared.state.Count.{Count}
use Rattle.schema_grammar.specs.declared.state.Head.{Head}
use Rattle.schema_grammar.specs.declared.state.AttrPlace.{AttrPlace}
use Rattle.schema_grammar.specs.declared.state.AttrPlace.TheVariants as attr
use Rattle.schema_grammar.specs.declared.state.DimPlace.{DimPlace}
use Rattle.schema_grammar.specs.declared.state.DimPlace.TheVariants as dim
use Rattle.schema_grammar.specs.declared.state.BoundPlace.{BoundPlace}
use Rattle.schema_grammar.specs.declared.state.BoundPlace.TheVariants.{Low, LowMinus, Lowered, High, HighMinus}
use Rattle.schema_grammar.specs.declared.state.NumberPlace.{NumberPlace}
use Rattle.schema_grammar.specs.declared.state.NumberPlace.TheVariants.{Bounded, Chunk, Chunked, Overlap}
use Rattle.schema_grammar.specs.declared.state.PartStep.{PartStep}
use Rattle.schema_grammar.specs.declared.state.PartStep.TheVariants as part
use Rattle.schema_grammar.specs.declared.state.ShapeState.{ShapeState}
use Rattle.schema_grammar.specs.declared.state.ShapeState.TheVariants.{Start, Attributes, Between, Dimensions}
use Rattle.schema_grammar.specs.declared.state.ShapeStep.{ShapeStep}
use Rattle.schema_grammar.specs.declared.state.ShapeStep.TheVariants.{On, Whole, Unexpected}
use Rattle.schema_grammar.specs.Spelling.{across, unbounded}

abbrev pub label : List ℕ → Span → Label
label n s = record { name = n; span = s }

abbrev pub bound : ℤ → Span → Bound
bound z s = record { value = z; span = s }

abbrev pub count : ℕ → Span → Count
count n s = record { value = n; span = s }

abbrev pub attribute : Label → List ℕ → Span → AttrText
attribute n w s = record { name = n.name; name_span = n.span; word = w; word_span = s; nullable = true }

abbrev pub not_null : AttrText → AttrText
not_null a = record { name = a.name; name_span = a.name_span; word = a.word; word_span = a.word_span; nullable = false }

abbrev pub dimension : Label → Bound → Bound → Count → ℕ → Span → DimText
dimension n lo hi c v s = record {
  name = n.name;
  name_span = n.span;
  lo = lo.value;
  lo_span = lo.span;
  hi = hi.value;
  hi_span = hi.span;
  chunk = c.value;
  chunk_span = c.span;
  overlap = v;
  overlap_span = s;
}

abbrev pub whole_schema : List AttrText → List DimText → Span → SchemaText
whole_schema attrs ds s = record { attributes = attrs; dimensions = ds; brackets = s }

abbrev pub head : Span → List AttrText → Span → Head
head l attrs b = record { start = l; attributes = attrs; bracket = b }

-- behind a whole attribute
abbrev pub attr_end : AttrText → Lexeme → PartStep AttrPlace AttrText
attr_end a (a_symbol Comma) = part.Next a
attr_end a (a_symbol More) = part.Last a
attr_end a _ = part.Unexpected

-- behind a type's word
abbrev pub attr_word : AttrText → Lexeme → PartStep AttrPlace AttrText
attr_word a (a_word Not) = part.On (attr.Negated (not_null a))
attr_word a (a_word Null) = part.On (attr.Ended a)
attr_word a what = attr_end a what

-- among the attributes
abbrev pub attr_step : AttrPlace → Span → Lexeme → PartStep AttrPlace AttrText
attr_step attr.First s (a_name n) = part.On (attr.Named (label n s))
attr_step attr.First s _ = part.Unexpected
attr_step (attr.Named n) s (a_symbol Colon) = part.On (attr.Typed n)
attr_step (attr.Named n) s _ = part.Unexpected
attr_step (attr.Typed n) s (a_name w) = part.On (attr.Worded (attribute n w s))
attr_step (attr.Typed n) s _ = part.Unexpected
attr_step (attr.Worded a) s what = attr_word a what
attr_step (attr.Negated a) s (a_word Null) = part.On (attr.Ended a)
attr_step (attr.Negated a) s _ = part.Unexpected
attr_step (attr.Ended a) s what = attr_end a what

-- among the bounds of a dimension of this name
abbrev pub bound_step : Label → BoundPlace → Span → Lexeme → PartStep DimPlace DimText
bound_step n Low s (a_symbol Minus) = part.On (dim.Bounds n (LowMinus s))
bound_step n Low s (a_number (pos v)) = part.On (dim.Bounds n (Lowered (bound (pos v) s)))
bound_step n Low s _ = part.Unexpected
bound_step n (LowMinus m) s (a_number (pos v)) = part.On (dim.Bounds n (Lowered (bound (neg_ℤ (pos v)) (across m s))))
bound_step n (LowMinus m) s _ = part.Unexpected
bound_step n (Lowered lo) s (a_symbol Colon) = part.On (dim.Bounds n (High lo))
bound_step n (Lowered lo) s _ = part.Unexpected
bound_step n (High lo) s (a_symbol Minus) = part.On (dim.Bounds n (HighMinus lo s))
bound_step n (High lo) s (a_symbol Star) = part.On (dim.Numbers n lo (bound unbounded s) Bounded)
bound_step n (High lo) s (a_number (pos v)) = part.On (dim.Numbers n lo (bound (pos v) s) Bounded)
bound_step n (High lo) s _ = part.Unexpected
bound_step n (HighMinus lo m) s (a_number (pos v)) = part.On (dim.Numbers n lo (bound (neg_ℤ (pos v)) (across m s)) Bounded)
bound_step n (HighMinus lo m) s _ = part.Unexpected

-- behind the bounds
abbrev pub number_step : Label → Bound → Bound → NumberPlace → Span → Lexeme → PartStep DimPlace DimText
number_step n lo hi Bounded s (a_symbol Comma) = part.On (dim.Numbers n lo hi Chunk)
number_step n lo hi Bounded s _ = part.Unexpected
number_step n lo hi Chunk s (a_number (pos v)) = part.On (dim.Numbers n lo hi (Chunked (count v s)))
number_step n lo hi Chunk s _ = part.Unexpected
number_step n lo hi (Chunked c) s (a_symbol Comma) = part.On (dim.Numbers n lo hi (Overlap c))
number_step n lo hi (Chunked c) s _ = part.Unexpected
number_step n lo hi (Overlap c) s (a_number (pos v)) = part.On (dim.Ended (dimension n lo hi c v s))
number_step n lo hi (Overlap c) s _ = part.Unexpected

-- among the dimensions
abbrev pub dim_step : DimPlace → Span → Lexeme → PartStep DimPlace DimText
dim_step dim.First s (a_name n) = part.On (dim.Named (label n s))
dim_step dim.First s _ = part.Unexpected
dim_step (dim.Named n) s (a_symbol Equal) = part.On (dim.Bounds n Low)
dim_step (dim.Named n) s _ = part.Unexpected
dim_step (dim.Bounds n place) s what = bound_step n place s what
dim_step (dim.Numbers n lo hi place) s what = number_step n lo hi place s what
dim_step (dim.Ended d) s (a_symbol Comma) = part.Next d
dim_step (dim.Ended d) s (a_symbol RightBracket) = part.Last d
dim_step (dim.Ended d) s _ = part.Unexpected

-- the attributes after a step
abbrev pub attr_goes : Span → List AttrText → PartStep AttrPlace AttrText → ShapeStep
attr_goes l done (part.On place) = On (Attributes l done place)
attr_goes l done (part.Next a) = On (Attributes l (done ++ a ∷ []) attr.First)
attr_goes l done (part.Last a) = On (Between l (done ++ a ∷ []))
attr_goes l done part.Unexpected = Unexpected

-- the dimensions after a step at a token of this place
abbrev pub dim_goes : Head → List DimText → PartStep DimPlace DimText → Span → ShapeStep
dim_goes h done (part.On place) s = On (Dimensions h done place)
dim_goes h done (part.Next d) s = On (Dimensions h (done ++ d ∷ []) dim.First)
dim_goes h done (part.Last d) s = Whole (whole_schema h.attributes (done ++ d ∷ []) (across h.bracket s)) (across h.start s)
dim_goes h done part.Unexpected s = Unexpected

-- before `<`
abbrev pub start_turn : Span → Lexeme → ShapeStep
start_turn s (a_symbol Less) = On (Attributes s [] attr.First)
start_turn s _ = Unexpected

-- behind `>`
abbrev pub between_turn : Span → List AttrText → Span → Lexeme → ShapeStep
between_turn l attrs s (a_symbol LeftBracket) = On (Dimensions (head l attrs s) [] dim.First)
between_turn l attrs s _ = Unexpected

abbrev pub shape_turn : ShapeState → Placed → ShapeStep
shape_turn Start x = start_turn x.span x.what
shape_turn (Attributes l done place) x = attr_goes l done (attr_step place x.span x.what)
shape_turn (Between l attrs) x = between_turn l attrs x.span x.what
shape_turn (Dimensions h done place) x = dim_goes h done (dim_step place x.span x.what) x.span

-- What the reader comes to: a whole schema with its span and the tokens left behind it, a place within a schema where the
-- tokens end, or a token that cannot stand where it does.
pub data ShapeRun : Type 0 where
  Read : SchemaText → Span → List Placed → ShapeRun
  Open : ShapeState → ShapeRun
  Stuck : ShapeRun

abbrev pub shape_go : ShapeStep → List Placed → (ShapeState → ShapeRun) → ShapeRun
shape_go (On state) xs next = next state
shape_go (Whole t s) xs next = Read t s xs
shape_go Unexpected xs next = Stuck

-- token after token
abbrev pub shape_run : ShapeState → List Placed → ShapeRun
shape_run state [] = Open state
shape_run state (x ∷ xs) = shape_go (shape_turn state x) xs (λ state. shape_run state xs)
