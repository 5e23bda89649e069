-- The text of a schema: no spaces but those in ` not null`, which stands exactly where an attribute takes no null,
-- and `*` exactly where a high bound is 4611686018427387903.
use Rattle.std.specs.Prelude.{ℕ, ℤ, pos, negsuc, Bool, true, false, ◌==◌, nat_lt, if◌then◌else◌, List, [], ◌++◌, map, codes}
use Rattle.std.specs.List.{join_with_byte}
use Rattle.std.specs.Fmt.{decimal, signed_decimal}
use Rattle.afl_lexer.specs.Kind.{Kind}
use Rattle.afl_lexer.specs.Kind.TheVariants.{Int64, Str, Bool as Truth}
use Rattle.afl_lexer.specs.Attribute.{Attribute}
use Rattle.afl_lexer.specs.Dimension.{Dimension}
use Rattle.afl_lexer.specs.Schema.{Schema}
use Rattle.schema_grammar.specs.declared.shape_text.SchemaText.{SchemaText}
use Rattle.schema_grammar.specs.declared.shape_text.AttrText.{AttrText}
use Rattle.schema_grammar.specs.declared.shape_text.DimText.{DimText}

abbrev pub kind_bytes : Kind → List ℕ
kind_bytes Int64 = codes "int64"
kind_bytes Str = codes "string"
kind_bytes Truth = codes "bool"

abbrev pub null_bytes : Bool → List ℕ
null_bytes true = []
null_bytes false = codes " not null"

-- name, type's word, whether nulls are taken
abbrev pub attr_bytes : List ℕ → List ℕ → Bool → List ℕ
attr_bytes name word nullable = name ++ codes ":" ++ word ++ null_bytes nullable

abbrev pub high_bytes : ℤ → List ℕ
high_bytes (pos n) = if n == 4611686018427387903 then codes "*" else decimal n
high_bytes (negsuc n) = signed_decimal (negsuc n)

abbrev pub bounds_bytes : ℤ → ℤ → List ℕ
bounds_bytes lo hi = signed_decimal lo ++ codes ":" ++ high_bytes hi

abbrev pub lengths_bytes : ℕ → ℕ → List ℕ
lengths_bytes chunk overlap = decimal chunk ++ codes "," ++ decimal overlap

-- name, low bound, high bound, chunk, overlap
abbrev pub dim_bytes : List ℕ → ℤ → ℤ → ℕ → ℕ → List ℕ
dim_bytes name lo hi chunk overlap = name ++ codes "=" ++ bounds_bytes lo hi ++ codes "," ++ lengths_bytes chunk overlap

-- what stands before a part: a comma, but before the first
abbrev pub separator : ℕ → List ℕ
separator at = if nat_lt 0 at then codes "," else []

-- attributes and dimensions, with commas between
abbrev pub parts_bytes : List (List ℕ) → List (List ℕ) → List ℕ
parts_bytes attributes dimensions = codes "<" ++ join_with_byte 44 attributes ++ codes ">[" ++ join_with_byte 44 dimensions ++ codes "]"

abbrev pub attribute_bytes : Attribute → List ℕ
attribute_bytes a = attr_bytes a.name (kind_bytes a.kind) a.nullable

abbrev pub dimension_bytes : Dimension → List ℕ
dimension_bytes d = dim_bytes d.name d.lo d.hi d.chunk d.overlap

abbrev pub schema_bytes : Schema → List ℕ
schema_bytes s = parts_bytes (map attribute_bytes s.attributes) (map dimension_bytes s.dimensions)

-- the text of a syntax tree: the same, with the words that are written in it
abbrev pub attr_text_bytes : AttrText → List ℕ
attr_text_bytes a = attr_bytes a.name a.word a.nullable

abbrev pub dim_text_bytes : DimText → List ℕ
dim_text_bytes d = dim_bytes d.name d.lo d.hi d.chunk d.overlap

abbrev pub shape_bytes : SchemaText → List ℕ
shape_bytes t = parts_bytes (map attr_text_bytes t.attributes) (map dim_text_bytes t.dimensions)
