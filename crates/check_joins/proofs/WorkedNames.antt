-- Worked examples of the names in joins.
use Rattle.std.proofs.Common.{◌≡◌, ℕ, pos, false, Ok, List, [], ◌∷◌, refl}
use Rattle.std.specs.Prelude.{codes}
use Rattle.cell_values.specs.declared.name.Span.{Span}
use Rattle.cell_values.specs.declared.schema.Attribute.{Attribute}
use Rattle.cell_values.specs.declared.schema.Dimension.{Dimension}
use Rattle.cell_values.specs.declared.schema.Kind.TheVariants.{Int64}
use Rattle.cell_values.specs.declared.schema.Schema.{Schema}
use Rattle.schema_grammar.specs.declared.kinds.TypeKind.TheVariants.{BoundsDiffer, RepeatedName, UnknownName}
use Rattle.afl_trees.specs.Term.{reference}
use Rattle.logical_plan.specs.PlanSchema.{free_names, with_suffix}
use Rattle.check_rules.specs.Checked.{refused}
use Rattle.check_joins.specs.Crosses.{cross_parts}
use Rattle.check_joins.specs.JoinSchemas.{joined_schema}

abbrev at : ℕ → ℕ → Span
at a b = record { start = a; end = b }

abbrev number : List ℕ → Attribute
number name = record { name = name; kind = Int64; nullable = false }

-- NAME=0:HI,2,1
abbrev along : List ℕ → ℕ → Dimension
along name hi = record { name = name; lo = pos 0; hi = pos hi; chunk = 2; overlap = 1 }

abbrev array : List Attribute → List Dimension → Schema
array attributes dimensions = record { attributes = attributes; dimensions = dimensions }

-- the second `v`
second : free_names [] (codes "i" ∷ codes "v" ∷ codes "v" ∷ []) ≡ codes "i" ∷ codes "v" ∷ with_suffix (codes "v") 2 ∷ []
second = refl

-- join of <v:int64>[i=0:3,2,1] and <w:int64>[j=0:3,2,1]
joined_names : joined_schema (at 0 9) (array (number (codes "v") ∷ []) (along (codes "i") 3 ∷ [])) (array (number (codes "w") ∷ []) (along (codes "j") 3 ∷ []))
    ≡ Ok (array (number (codes "v") ∷ number (codes "w") ∷ []) (along (codes "i") 3 ∷ []))
joined_names = refl

other_bounds : joined_schema (at 0 9) (array (number (codes "v") ∷ []) (along (codes "i") 3 ∷ [])) (array (number (codes "v") ∷ []) (along (codes "i") 4 ∷ [])) ≡ refused (at 0 9) BoundsDiffer
other_bounds = refl

abbrev left : Schema
left = array (number (codes "a") ∷ []) (along (codes "x") 1 ∷ along (codes "y") 2 ∷ [])

abbrev right : Schema
right = array (number (codes "b") ∷ []) (along (codes "w") 3 ∷ along (codes "z") 2 ∷ [])

-- cross_join(left, right, y, z): the right's `w` is kept
crossed : cross_parts (at 0 30) left right (reference (at 24 25) (codes "y") ∷ reference (at 27 28) (codes "z") ∷ [])
    ≡ Ok (record { pairs = record { left = 1; right = 1 } ∷ []; schema = array (number (codes "a") ∷ number (codes "b") ∷ []) (along (codes "x") 1 ∷ along (codes "y") 2 ∷ along (codes "w") 3 ∷ []) })
crossed = refl

-- a left name again comes before the right name of its pair
named_again : cross_parts (at 0 30) left right (reference (at 14 15) (codes "y") ∷ reference (at 17 18) (codes "z") ∷ reference (at 20 21) (codes "y") ∷ reference (at 23 24) (codes "q") ∷ []) ≡ refused (at 20 21) RepeatedName
named_again = refl

no_dimension : cross_parts (at 0 30) left right (reference (at 14 15) (codes "y") ∷ reference (at 17 18) (codes "a") ∷ []) ≡ refused (at 17 18) UnknownName
no_dimension = refl
