-- The rules of schemas, as a list in the order in which they are tested. The first that is broken is the answer.
use Rattle.std.specs.Prelude.{◌≡◌, ℕ, Bool, not, ◌&&◌, nat_le, nat_lt, int_le, Option, Some, None, is_some}
use Rattle.std.specs.Prelude.{unwrap_or, Result, Ok, Err, List, [], ◌∷◌, ◌++◌, map, length, codes, if◌then◌else◌}
use Rattle.std.specs.List.{find}
use Rattle.std.specs.Option.{option_map}
use Rattle.std.specs.Str.{bytes_eq}
use Rattle.afl_lexer.specs.Schemas.{attribute_names, is_among, is_bound, frame_fits}
use Rattle.afl_lexer.specs.Span.{Span}
use Rattle.afl_lexer.specs.Kind.{Kind}
use Rattle.afl_lexer.specs.Kind.TheVariants.{Int64, Str, Bool as Truth}
use Rattle.afl_lexer.specs.Attribute.{Attribute}
use Rattle.afl_lexer.specs.Dimension.{Dimension}
use Rattle.afl_lexer.specs.Schema.{Schema}
use Rattle.schema_grammar.specs.declared.shape_text.SchemaText.{SchemaText}
use Rattle.schema_grammar.specs.declared.shape_text.AttrText.{AttrText}
use Rattle.schema_grammar.specs.declared.shape_text.DimText.{DimText}
use Rattle.schema_grammar.specs.declared.rules.Rule.{Rule}
use Rattle.schema_grammar.specs.declared.kinds.TypeKind.{TypeKind}
use Rattle.schema_grammar.specs.declared.kinds.TypeKind.TheVariants.{UnknownType, RepeatedName, BoundsOrder, BoundsRange}
use Rattle.schema_grammar.specs.declared.kinds.TypeKind.TheVariants.{ZeroChunk, OverlapTooLarge, TooManyDimensions}
use Rattle.schema_grammar.specs.declared.kinds.TypeKind.TheVariants.{TooManyAttributes, ChunkTooLarge, WrongCount}
use Rattle.schema_grammar.specs.declared.kinds.SchemaFault.{SchemaFault}
use Rattle.schema_grammar.specs.declared.kinds.SchemaFault.TheVariants as fault

-- a rule: whether it holds, and the place and the kind of the fault where it doesn't
abbrev pub rule : Bool → Span → TypeKind → Rule
rule holds span kind = record { holds = holds; span = span; kind = kind }

-- the fault of the first rule that is broken
abbrev pub first_broken : List Rule → Option SchemaFault
first_broken rules = option_map (λ r. fault.Rule r.span r.kind) (find (λ r. not r.holds) rules)

-- the type that a word names
abbrev pub kind_named : List ℕ → Option Kind
kind_named word =
    if bytes_eq word (codes "int64") then Some Int64 else
    if bytes_eq word (codes "string") then Some Str else
    if bytes_eq word (codes "bool") then Some Truth else
    None

-- Behind attributes of these names: at most 64 attributes, a type, and a new name.
abbrev pub attr_rules : List (List ℕ) → AttrText → List Rule
attr_rules before a =
    rule (nat_lt (length before) 64) a.name_span TooManyAttributes
    ∷ rule (is_some (kind_named a.word)) a.word_span UnknownType
    ∷ rule (not (is_among a.name before)) a.name_span RepeatedName
    ∷ []

-- attributes from left to right, behind those of the names
abbrev pub attrs_rules : List (List ℕ) → List AttrText → List Rule
attrs_rules before [] = []
attrs_rules before (a ∷ rest) = attr_rules before a ++ attrs_rules (before ++ a.name ∷ []) rest

-- Behind attributes and dimensions of these names: at most 6 dimensions, a new name, both bounds in range and in order, a chunk, and an overlap within it.
abbrev pub dim_rules : List (List ℕ) → List (List ℕ) → DimText → List Rule
dim_rules attributes before d =
    rule (nat_lt (length before) 6) d.name_span TooManyDimensions
    ∷ rule (not (is_among d.name (attributes ++ before))) d.name_span RepeatedName
    ∷ rule (is_bound d.lo) d.lo_span BoundsRange
    ∷ rule (is_bound d.hi) d.hi_span BoundsRange
    ∷ rule (int_le d.lo d.hi) d.hi_span BoundsOrder
    ∷ rule (nat_le 1 d.chunk) d.chunk_span ZeroChunk
    ∷ rule (nat_le d.overlap d.chunk) d.overlap_span OverlapTooLarge
    ∷ []

-- dimensions from left to right, behind attributes and dimensions of the names
abbrev pub dims_rules : List (List ℕ) → List (List ℕ) → List DimText → List Rule
dims_rules attributes before [] = []
dims_rules attributes before (d ∷ rest) = dim_rules attributes before d ++ dims_rules attributes (before ++ d.name ∷ []) rest

-- the attribute that is written; a word that names no type is refused before
abbrev pub attribute_of : AttrText → Attribute
attribute_of a = record { name = a.name; kind = unwrap_or (kind_named a.word) Int64; nullable = a.nullable }

abbrev pub dimension_of : DimText → Dimension
dimension_of d = record { name = d.name; lo = d.lo; hi = d.hi; chunk = d.chunk; overlap = d.overlap }

-- the schema that is written
abbrev pub schema_of : SchemaText → Schema
schema_of t = record { attributes = map attribute_of t.attributes; dimensions = map dimension_of t.dimensions }

-- The chunk with its overlap has at most 2^48 places. Behind it stands a rule that the grammar keeps: there is an attribute, and a dimension.
abbrev pub whole_rules : List Attribute → List Dimension → Span → List Rule
whole_rules attributes dimensions brackets =
    rule (frame_fits dimensions) brackets ChunkTooLarge
    ∷ rule (nat_le 1 (length attributes) && nat_le 1 (length dimensions)) brackets WrongCount
    ∷ []

-- the rules of a schema, in their order
abbrev pub rules : SchemaText → List Rule
rules t =
    let schema = schema_of t in
    attrs_rules [] t.attributes ++ dims_rules (attribute_names schema.attributes) [] t.dimensions ++ whole_rules schema.attributes schema.dimensions t.brackets

-- A call answers the meaning where all rules hold, and else the fault of the first that is broken, unless memory ran out.
abbrev pub Means : {A : Type 0} → List Rule → A → Result A SchemaFault → Type 0
Means rules meaning (Ok answer) = (first_broken rules ≡ None) × (answer ≡ meaning)
Means rules meaning (Err (fault.Rule span kind)) = first_broken rules ≡ Some (fault.Rule span kind)
Means rules meaning (Err fault.Memory) = Unit {0}
