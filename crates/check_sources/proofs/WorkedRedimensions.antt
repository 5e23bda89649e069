-- Worked examples of `redimension`, over an array `<v:int64>[i=0:3,2,0]` and an array `<t:string>[i=0:3,2,0]`.
use Rattle.std.proofs.Common.{◌≡◌, ℕ, ◌+◌, pos, true, false, Ok, List, [], ◌∷◌, refl}
use Rattle.std.specs.Prelude.{codes}
use Rattle.cell_values.specs.declared.name.Span.{Span}
use Rattle.cell_values.specs.declared.schema.Dimension.{Dimension}
use Rattle.cell_values.specs.declared.schema.Kind.TheVariants.{Int64, Str}
use Rattle.cell_values.specs.declared.schema.Schema.{Schema}
use Rattle.schema_grammar.specs.declared.kinds.TypeKind.TheVariants.{BoundsOrder, RepeatedName, UnknownName, UnknownType, WrongCount, WrongType, ZeroChunk}
use Rattle.schema_grammar.specs.declared.shape_text.AttrText.{AttrText}
use Rattle.schema_grammar.specs.declared.shape_text.DimText.{DimText}
use Rattle.afl_trees.specs.Term.{Term, call, reference, renamed, schema, star, no_terms, and_term}
use Rattle.logical_plan.specs.declared.parts.AggFunction.TheVariants.{Sum}
use Rattle.check_rules.specs.Checked.{Checked, refused}
use Rattle.check_groups.specs.AggregateSort.{cells_function, function_named}
use Rattle.check_sources.specs.Redimension.{redimension_parts}
use Rattle.check_sources.specs.declared.redimension.redimension.Redimensioned.{Redimensioned}

abbrev at : ℕ → ℕ → Span
at a b = record { start = a; end = b }

-- the whole call, and the schema in it
abbrev whole : Span
whole = at 0 99

abbrev there : Span
there = at 20 50

abbrev one_dimension : List Dimension
one_dimension = record { name = codes "i"; lo = pos 0; hi = pos 3; chunk = 2; overlap = 0 } ∷ []

abbrev numbers : Schema
numbers = record { attributes = record { name = codes "v"; kind = Int64; nullable = true } ∷ []; dimensions = one_dimension }

abbrev texts : Schema
texts = record { attributes = record { name = codes "t"; kind = Str; nullable = true } ∷ []; dimensions = one_dimension }

-- `name:word` from a place on, and `name=lo:hi,chunk,0`
abbrev attribute : ℕ → List ℕ → List ℕ → AttrText
attribute n name word = record { name = name; name_span = at n (n + 1); word = word; word_span = at (n + 2) (n + 5); nullable = true }

abbrev within : ℕ → List ℕ → ℕ → ℕ → ℕ → DimText
within n name lo hi chunk = record {
  name = name;
  name_span = at n (n + 1);
  lo = pos lo;
  lo_span = at (n + 2) (n + 3);
  hi = pos hi;
  hi_span = at (n + 4) (n + 5);
  chunk = chunk;
  chunk_span = at (n + 6) (n + 7);
  overlap = 0;
  overlap_span = at (n + 8) (n + 9);
}

abbrev dimension : ℕ → List ℕ → DimText
dimension n name = within n name 0 3 2

abbrev int64 : List ℕ → AttrText
int64 name = attribute 21 name (codes "int64")

abbrev string : List ℕ → AttrText
string name = attribute 21 name (codes "string")

abbrev i : List DimText
i = dimension 40 (codes "i") ∷ []

abbrev shape : List AttrText → List DimText → Term
shape attributes dimensions = schema there (record { attributes = attributes; dimensions = dimensions; brackets = at 39 50 })

-- sum(x) from a place on, and count(*)
abbrev sum : ℕ → List ℕ → Term
sum n x = call (at n (n + 6)) (codes "sum") (and_term (reference (at (n + 4) (n + 5)) x) no_terms)

abbrev count : Term
count = call (at 60 68) (codes "count") (and_term (star (at 66 67)) no_terms)

abbrev of : Schema → List Term → Checked Redimensioned
of source arguments = redimension_parts whole source arguments

-- ---- arguments

none : of numbers [] ≡ refused whole WrongCount
none = refl

no_schema : of numbers (reference (at 20 21) (codes "i") ∷ []) ≡ refused (at 20 21) WrongType
no_schema = refl

sum_first : of numbers (sum 20 (codes "v") ∷ shape (int64 (codes "v") ∷ []) i ∷ []) ≡ refused (at 20 26) WrongType
sum_first = refl

name_behind : of numbers (shape (int64 (codes "v") ∷ []) i ∷ reference (at 52 53) (codes "i") ∷ []) ≡ refused (at 52 53) WrongType
name_behind = refl

-- sum(*)
sum_of_cells : of numbers (shape (int64 (codes "v") ∷ []) i ∷ call (at 52 58) (codes "sum") (and_term (star (at 56 57)) no_terms) ∷ []) ≡ refused (at 52 58) WrongType
unfolding cells_function
sum_of_cells = refl

-- ---- the schema's own rules

-- <v:int>, count(*)
no_type : of numbers (shape (attribute 21 (codes "v") (codes "int") ∷ []) i ∷ count ∷ []) ≡ refused (at 23 26) UnknownType
unfolding cells_function
no_type = refl

-- [i=3:0,2,0]
no_order : of numbers (shape (int64 (codes "v") ∷ []) (within 40 (codes "i") 3 0 2 ∷ []) ∷ []) ≡ refused (at 44 45) BoundsOrder
no_order = refl

-- [i=0:3,0,0]
no_chunk : of numbers (shape (int64 (codes "v") ∷ []) (within 40 (codes "i") 0 3 0 ∷ []) ∷ []) ≡ refused (at 46 47) ZeroChunk
no_chunk = refl

-- <v:int64,v:int64>
twice : of numbers (shape (int64 (codes "v") ∷ attribute 30 (codes "v") (codes "int64") ∷ []) i ∷ []) ≡ refused (at 30 31) RepeatedName
twice = refl

-- ---- dimensions

-- [a,b]
two_synthetic : of numbers (shape (int64 (codes "v") ∷ []) (dimension 40 (codes "a") ∷ dimension 50 (codes "b") ∷ []) ∷ []) ≡ refused there UnknownName
two_synthetic = refl

-- <s:int64>[i,b], sum(v) as s
synthetic_beside : of numbers (shape (int64 (codes "s") ∷ []) (dimension 40 (codes "i") ∷ dimension 50 (codes "b") ∷ []) ∷ renamed (at 52 63) (sum 52 (codes "v")) (codes "s") ∷ [])
    ≡ refused there UnknownName
unfolding function_named
synthetic_beside = refl

-- a text is no dimension: <i:int64>[t,s]
text_is_synthetic : of texts (shape (int64 (codes "i") ∷ []) (dimension 40 (codes "t") ∷ dimension 50 (codes "s") ∷ []) ∷ []) ≡ refused there UnknownName
text_is_synthetic = refl

-- <i:int64>[t]
one_synthetic : of texts (shape (int64 (codes "i") ∷ []) (dimension 40 (codes "t") ∷ []) ∷ [])
    ≡ Ok (record {
      schema = record { attributes = record { name = codes "i"; kind = Int64; nullable = true } ∷ []; dimensions = record { name = codes "t"; lo = pos 0; hi = pos 3; chunk = 2; overlap = 0 } ∷ [] };
      aggregates = [];
    })
one_synthetic = refl

-- <c:int64>[n], sum(w): the dimension is told before the aggregate
dimension_first : of numbers (shape (int64 (codes "c") ∷ []) (dimension 40 (codes "n") ∷ []) ∷ sum 52 (codes "w") ∷ []) ≡ refused there UnknownName
unfolding function_named
dimension_first = refl

-- ---- attributes without aggregates

-- <w:int64>
no_attribute : of numbers (shape (int64 (codes "w") ∷ []) i ∷ []) ≡ refused there UnknownName
no_attribute = refl

-- <v:string>
other_type : of numbers (shape (string (codes "v") ∷ []) i ∷ []) ≡ refused there WrongType
other_type = refl

-- <i:string>[v]
dimension_as_text : of numbers (shape (string (codes "i") ∷ []) (dimension 40 (codes "v") ∷ []) ∷ []) ≡ refused there WrongType
dimension_as_text = refl

-- <v:string,w:int64>
type_first : of numbers (shape (string (codes "v") ∷ int64 (codes "w") ∷ []) i ∷ []) ≡ refused there WrongType
type_first = refl

-- <w:int64,v:string>
name_first : of numbers (shape (int64 (codes "w") ∷ string (codes "v") ∷ []) i ∷ []) ≡ refused there UnknownName
name_first = refl

-- ---- aggregates, and attributes beside them

-- <v:int64>, sum(v)
sum_has_no_name : of numbers (shape (int64 (codes "v") ∷ []) i ∷ sum 52 (codes "v") ∷ []) ≡ refused there UnknownName
unfolding function_named
sum_has_no_name = refl

-- <v_sum:string>, sum(v)
sum_as_text : of numbers (shape (string (codes "v_sum") ∷ []) i ∷ sum 52 (codes "v") ∷ []) ≡ refused there WrongType
unfolding function_named
sum_as_text = refl

-- <v_sum:int64>, sum(v), count(*)
count_is_not_named : of numbers (shape (int64 (codes "v_sum") ∷ []) i ∷ sum 52 (codes "v") ∷ count ∷ []) ≡ refused there UnknownName
unfolding function_named cells_function
count_is_not_named = refl

-- <v_sum:int64>, sum(w)
sum_of_nothing : of numbers (shape (int64 (codes "v_sum") ∷ []) i ∷ sum 52 (codes "w") ∷ []) ≡ refused (at 56 57) UnknownName
unfolding function_named
sum_of_nothing = refl

-- <v_sum:int64>, sum(v), sum(v)
sum_twice : of numbers (shape (int64 (codes "v_sum") ∷ []) i ∷ sum 52 (codes "v") ∷ sum 60 (codes "v") ∷ []) ≡ refused (at 60 66) RepeatedName
unfolding function_named
sum_twice = refl

-- <s:int64>, sum(v) as i
sum_as_dimension : of numbers (shape (int64 (codes "s") ∷ []) i ∷ renamed (at 52 63) (sum 52 (codes "v")) (codes "i") ∷ []) ≡ refused (at 52 63) RepeatedName
unfolding function_named
sum_as_dimension = refl

-- <t_sum:int64>, sum(t)
sum_of_texts : of texts (shape (int64 (codes "t_sum") ∷ []) i ∷ sum 52 (codes "t") ∷ []) ≡ refused (at 56 57) WrongType
unfolding function_named
sum_of_texts = refl

-- <s:int64 not null>[i], sum(v) as s: the schema is the target as it is written
summed : of numbers (shape (record { name = codes "s"; name_span = at 21 22; word = codes "int64"; word_span = at 23 28; nullable = false } ∷ []) i ∷ renamed (at 52 63) (sum 52 (codes "v")) (codes "s") ∷ [])
    ≡ Ok (record {
      schema = record { attributes = record { name = codes "s"; kind = Int64; nullable = false } ∷ []; dimensions = one_dimension };
      aggregates = record { function = Sum; attribute = 0; name = codes "s" } ∷ [];
    })
unfolding function_named
summed = refl
