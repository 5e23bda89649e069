-- Worked examples of queries, over an array `A` with versions 1 and 2 and an array `E` without versions.
use Rattle.std.proofs.Common.{◌≡◌, ℕ, pos, true, Ok, List, [], ◌∷◌, refl}
use Rattle.std.specs.Prelude.{codes}
use Rattle.cell_values.specs.declared.name.Span.{Span}
use Rattle.schema_grammar.specs.declared.kinds.TypeKind.TheVariants.{UnknownArray, UnknownVersion, UnknownName, RepeatedName, WrongType, WrongCount, BoundsOrder, EmptyBox}
use Rattle.schema_grammar.specs.declared.shape_text.SchemaText.{SchemaText}
use Rattle.afl_trees.specs.Term.{number, truth, null, reference, version, call, schema, star, binary, group, no_terms, and_term}
use Rattle.afl_trees.specs.declared.tree.BinaryOp.TheVariants.{Mul}
use Rattle.expr_nulls.specs.Expr.{dimension_value, calculation}
use Rattle.expr_nulls.specs.declared.expr.ArithOp.TheVariants as arith_op
use Rattle.logical_plan.specs.Query.{built, redimensioned}
use Rattle.logical_plan.specs.declared.names.NameEntry.{NameEntry}
use Rattle.schema_grammar.specs.Rules.{schema_of}
use Rattle.check_rules.specs.Checked.{refused}
use Rattle.check_rules.specs.Operators.{query_named, change_named}
use Rattle.check_sources.specs.Stored.{leaf_of}
use Rattle.afl_types.specs.Content.{content_span}
use Rattle.afl_types.specs.Queries.{query_of}

at : ℕ → ℕ → Span
at a b = record { start = a; end = b }

-- <v:int64>[i=LO:HI,2,0], behind `build(`
written : ℕ → ℕ → SchemaText
written lo hi = record {
  attributes = record { name = codes "v"; name_span = at 7 8; word = codes "int64"; word_span = at 9 14; nullable = true } ∷ [];
  dimensions = record { name = codes "i"; name_span = at 16 17; lo = pos lo; lo_span = at 18 19; hi = pos hi; hi_span = at 20 21; chunk = 2; chunk_span = at 22 23; overlap = 0; overlap_span = at 24 25 } ∷ [];
  brackets = at 15 26;
}

entry : List ℕ → List ℕ → NameEntry
entry name versions = record { name = name; schema = schema_of (written 0 1); next = 3; versions = versions }

arrays : List NameEntry
arrays = entry (codes "A") (1 ∷ 2 ∷ []) ∷ entry (codes "E") [] ∷ []

-- A: the newest version
newest_one : query_of arrays (reference (at 0 1) (codes "A")) ≡ Ok (leaf_of (entry (codes "A") (1 ∷ 2 ∷ [])) 2)
unfolding at written entry arrays
newest_one = refl

-- (E): no version yet
none_yet : query_of arrays (group (at 0 3) (reference (at 1 2) (codes "E"))) ≡ Ok (leaf_of (entry (codes "E") []) 0)
unfolding at written entry arrays
none_yet = refl

-- A@1
older_one : query_of arrays (version (at 0 3) (codes "A") (pos 1)) ≡ Ok (leaf_of (entry (codes "A") (1 ∷ 2 ∷ [])) 1)
unfolding at written entry arrays
older_one = refl

-- A@3
no_version : query_of arrays (version (at 0 3) (codes "A") (pos 3)) ≡ refused (at 0 3) UnknownVersion
unfolding at written entry arrays
no_version = refl

-- scan(Q)
no_array : query_of arrays (call (at 0 7) (codes "scan") (and_term (reference (at 5 6) (codes "Q")) no_terms)) ≡ refused (at 5 6) UnknownArray
unfolding at written entry arrays query_named change_named
no_array = refl

-- filter(Q): the number of arguments comes before the source
filter_count : query_of arrays (call (at 0 9) (codes "filter") (and_term (reference (at 7 8) (codes "Q")) no_terms)) ≡ refused (at 0 9) WrongCount
unfolding at written entry arrays query_named change_named
filter_count = refl

-- filter(Q, *): the source comes before the sorts behind it
source_first : query_of arrays (call (at 0 12) (codes "filter") (and_term (reference (at 7 8) (codes "Q")) (and_term (star (at 10 11)) no_terms))) ≡ refused (at 7 8) UnknownArray
unfolding at written entry arrays query_named change_named
source_first = refl

-- filter(A, 1)
filter_kind : query_of arrays (call (at 0 12) (codes "filter") (and_term (reference (at 7 8) (codes "A")) (and_term (number (at 10 11) (pos 1)) no_terms))) ≡ refused (at 10 11) WrongType
unfolding at written entry arrays query_named change_named
filter_kind = refl

-- apply(A, i, 1): the name of a dimension is given
apply_name : query_of arrays (call (at 0 14) (codes "apply") (and_term (reference (at 6 7) (codes "A")) (and_term (reference (at 9 10) (codes "i")) (and_term (number (at 12 13) (pos 1)) no_terms)))) ≡ refused (at 9 10) RepeatedName
unfolding at written entry arrays query_named change_named
apply_name = refl

-- apply(A, w, null)
apply_null : query_of arrays (call (at 0 17) (codes "apply") (and_term (reference (at 6 7) (codes "A")) (and_term (reference (at 9 10) (codes "w")) (and_term (null (at 12 16)) no_terms)))) ≡ refused (at 12 16) WrongType
unfolding at written entry arrays query_named change_named
apply_null = refl

-- project(A, i): a dimension is no attribute
project_name : query_of arrays (call (at 0 13) (codes "project") (and_term (reference (at 8 9) (codes "A")) (and_term (reference (at 11 12) (codes "i")) no_terms))) ≡ refused (at 11 12) UnknownName
unfolding at written entry arrays query_named change_named
project_name = refl

-- between(A, 0): two bounds for each dimension
between_count : query_of arrays (call (at 0 13) (codes "between") (and_term (reference (at 8 9) (codes "A")) (and_term (number (at 11 12) (pos 0)) no_terms))) ≡ refused (at 0 13) WrongCount
unfolding at written entry arrays query_named change_named
between_count = refl

-- subarray(A, 2, null): behind the high bound
empty_part : query_of arrays (call (at 0 20) (codes "subarray") (and_term (reference (at 9 10) (codes "A")) (and_term (number (at 12 13) (pos 2)) (and_term (null (at 15 19)) no_terms)))) ≡ refused (at 0 20) EmptyBox
unfolding at written entry arrays query_named change_named
empty_part = refl

-- slice(A, i, 0): no dimension is left
none_left : query_of arrays (call (at 0 14) (codes "slice") (and_term (reference (at 6 7) (codes "A")) (and_term (reference (at 9 10) (codes "i")) (and_term (number (at 12 13) (pos 0)) no_terms)))) ≡ refused (at 0 14) WrongCount
unfolding at written entry arrays query_named change_named
none_left = refl

-- ((1)): a fault of a bracketed query is at its content
no_query : query_of arrays (group (at 0 5) (group (at 1 4) (number (at 2 3) (pos 1)))) ≡ refused (at 2 3) WrongType
unfolding at written entry arrays
no_query = refl

-- ((A)): where a bracketed query stands
content : content_span (group (at 0 5) (group (at 1 4) (reference (at 2 3) (codes "A")))) ≡ at 2 3
content = refl

-- build(*): the number of arguments comes before their sorts
count_first : query_of arrays (call (at 0 8) (codes "build") (and_term (star (at 6 7)) no_terms)) ≡ refused (at 0 8) WrongCount
unfolding at written entry arrays query_named change_named
count_first = refl

-- build(<v:int64>[i=3:0,2,0], *): sorts come before the rules of the schema
sorts_first : query_of arrays (call (at 0 30) (codes "build") (and_term (schema (at 6 26) (written 3 0)) (and_term (star (at 28 29)) no_terms))) ≡ refused (at 28 29) WrongType
unfolding at written entry arrays query_named change_named
sorts_first = refl

-- build(<v:int64>[i=3:0,2,0], j): the rules of the schema come before the expression
schema_first : query_of arrays (call (at 0 30) (codes "build") (and_term (schema (at 6 26) (written 3 0)) (and_term (reference (at 28 29) (codes "j")) no_terms))) ≡ refused (at 20 21) BoundsOrder
unfolding at written entry arrays query_named change_named
schema_first = refl

-- build(<v:int64>[i=0:1,2,0], i*i)
squares : query_of arrays (call (at 0 32) (codes "build") (and_term (schema (at 6 26) (written 0 1)) (and_term (binary (at 28 31) Mul (reference (at 28 29) (codes "i")) (reference (at 30 31) (codes "i"))) no_terms)))
    ≡ Ok (built (schema_of (written 0 1)) (calculation arith_op.Mul (dimension_value 0) (dimension_value 0)))
unfolding at written entry arrays query_named change_named
squares = refl

-- build(<v:int64>[i=0:1,2,0], i*i, true): behind an expression that is no text, `true` is of the wrong sort
no_literal : query_of arrays (call (at 0 38) (codes "build") (and_term (schema (at 6 26) (written 0 1)) (and_term (binary (at 28 31) Mul (reference (at 28 29) (codes "i")) (reference (at 30 31) (codes "i"))) (and_term (truth (at 33 37) true) no_terms))))
    ≡ refused (at 33 37) WrongType
unfolding at written entry arrays query_named change_named
no_literal = refl

-- redimension(Q): the number of arguments comes before the source
redimension_count : query_of arrays (call (at 0 14) (codes "redimension") (and_term (reference (at 12 13) (codes "Q")) no_terms)) ≡ refused (at 0 14) WrongCount
unfolding at written entry arrays query_named change_named
redimension_count = refl

-- redimension(A@1, <v:int64>[i=0:1,2,0])
redimension_whole : query_of arrays (call (at 0 40) (codes "redimension") (and_term (version (at 12 15) (codes "A") (pos 1)) (and_term (schema (at 17 39) (written 0 1)) no_terms)))
    ≡ Ok (redimensioned (leaf_of (entry (codes "A") (1 ∷ 2 ∷ [])) 1) (schema_of (written 0 1)) [])
unfolding at written entry arrays query_named change_named
redimension_whole = refl
