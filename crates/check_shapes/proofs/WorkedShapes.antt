-- Worked examples of the rules, over a source with the attributes `v` of numbers, `s` of texts and `b` of truths and the dimensions `x` and `y`.
use Rattle.std.proofs.Common.{◌≡◌, ℕ, pos, true, false, Ok, List, [], ◌∷◌, refl}
use Rattle.std.specs.Prelude.{codes}
use Rattle.cell_values.specs.declared.name.Span.{Span}
use Rattle.cell_values.specs.declared.schema.Dimension.{Dimension}
use Rattle.cell_values.specs.declared.schema.Kind.TheVariants.{Int64, Str, Bool as Truths}
use Rattle.cell_values.specs.declared.schema.Schema.{Schema}
use Rattle.schema_grammar.specs.declared.kinds.TypeKind.TheVariants.{BoundsDiffer, BoundsRange, NameTooLong, NotBounded, OutOfRange, RepeatedName, SchemaDiffers, UnknownName, WrongType}
use Rattle.afl_trees.specs.Term.{Term, number, reference}
use Rattle.check_rules.specs.Checked.{refused}
use Rattle.check_shapes.specs.Pairs.{concat_rules, merge_rules}
use Rattle.check_shapes.specs.Rank.{rank_parts}
use Rattle.check_shapes.specs.Sort.{sort_parts}
use Rattle.check_shapes.specs.Tables.{all_hold}
use Rattle.check_shapes.specs.Unpack.{unpack_parts}
use Rattle.check_shapes.specs.Xgrid.{xgrid_parts}

abbrev at : ℕ → ℕ → Span
at a b = record { start = a; end = b }

abbrev whole : Span
whole = at 0 40

abbrev along : List ℕ → ℕ → Dimension
along name high = record { name = name; lo = pos 0; hi = pos high; chunk = 2; overlap = 0 }

abbrev source : Schema
source = record {
  attributes = record { name = codes "v"; kind = Int64; nullable = false } ∷ record { name = codes "s"; kind = Str; nullable = true } ∷ record { name = codes "b"; kind = Truths; nullable = true } ∷ [];
  dimensions = along (codes "x") 3 ∷ along (codes "y") 4 ∷ [];
}

-- numbers along `x` with this high bound, under this name
abbrev line : List ℕ → ℕ → Schema
line name high = record { attributes = record { name = name; kind = Int64; nullable = false } ∷ []; dimensions = along (codes "v_rank") high ∷ [] }

abbrev v : Term
v = reference (at 8 9) (codes "v")

abbrev x : Term
x = reference (at 11 12) (codes "x")

-- a dimension is no key
no_key : sort_parts whole source (v ∷ x ∷ []) ≡ refused (at 11 12) UnknownName
no_key = refl

keyed_twice : sort_parts whole source (v ∷ v ∷ []) ≡ refused (at 8 9) RepeatedName
keyed_twice = refl

ranked : rank_parts whole source (v ∷ x ∷ []) ≡ Ok (record { attribute = 0; dimensions = 0 ∷ [] })
ranked = refl

-- truths have no rank, which comes before the dimensions
no_order : rank_parts whole source (reference (at 8 9) (codes "b") ∷ v ∷ []) ≡ refused (at 8 9) WrongType
no_order = refl

-- an attribute is no dimension
no_group : rank_parts whole source (v ∷ v ∷ []) ≡ refused (at 8 9) UnknownName
no_group = refl

rank_given : rank_parts whole (line (codes "v") 3) (v ∷ []) ≡ refused (at 8 9) RepeatedName
rank_given = refl

abbrev long : List ℕ
long = codes "a123456789b123456789c123456789d123456789e123456789f123456789"

rank_too_long : rank_parts whole (line long 3) (reference (at 8 68) long ∷ []) ≡ refused whole NameTooLong
rank_too_long = refl

name_given : unpack_parts whole source (x ∷ []) ≡ refused (at 11 12) RepeatedName
name_given = refl

-- each number is tested before a bound is
small_first : xgrid_parts whole source (number (at 9 20) (pos 4611686018427387903) ∷ number (at 22 23) (pos 0) ∷ []) ≡ refused (at 22 23) OutOfRange
small_first = refl

-- a bound before the product
bounds_first : xgrid_parts whole source (number (at 9 20) (pos 4611686018427387903) ∷ number (at 22 23) (pos 1) ∷ []) ≡ refused (at 9 20) BoundsRange
bounds_first = refl

too_many : xgrid_parts whole source (number (at 9 12) (pos 256) ∷ number (at 14 17) (pos 257) ∷ []) ≡ refused whole OutOfRange
too_many = refl

other_bounds : all_hold (merge_rules whole source (line (codes "w") 3)) ≡ refused whole BoundsDiffer
other_bounds = refl

other_types : all_hold (concat_rules whole (at 7 9) (line (codes "v") 3) (record { attributes = source.attributes; dimensions = along (codes "i") 4611686018427387903 ∷ [] })) ≡ refused whole SchemaDiffers
other_types = refl

-- the left one has no end, which is told at its content
no_end : all_hold (concat_rules whole (at 7 9) (line (codes "v") 4611686018427387903) source) ≡ refused (at 7 9) NotBounded
no_end = refl

no_room : all_hold (concat_rules whole (at 7 9) (line (codes "v") 3) (line (codes "w") 4611686018427387903)) ≡ refused whole BoundsRange
no_room = refl
