-- Small results of aggregates, groups, windows and redimension, as the definitions compute them.
use Rattle.std.proofs.Common.{◌≡◌, pos, negsuc, false, [], ◌∷◌, Some, Ok, Err, refl, codes}
use Rattle.cell_values.specs.declared.datum.CompareOp.TheVariants.{More, Differs}
use Rattle.cell_values.specs.declared.datum.Datum.TheVariants.{Null, Missing, Int, Text}
use Rattle.cell_values.specs.declared.datum.FaultKind.TheVariants.{Overflow, OutOfBounds, Collision, NullInNotNull}
use Rattle.cell_values.specs.declared.schema.Kind.TheVariants.{Int64, Str}
use Rattle.cell_values.specs.declared.schema.Schema.{Schema}
use Rattle.expr_nulls.specs.Expr.{attribute_value, relation}
use Rattle.logical_plan.specs.declared.parts.AggFunction.TheVariants.{Sum, Count, CountAll, Min, Max}
use Rattle.logical_plan.specs.Faults.{fault_of}
use Rattle.logical_plan.specs.Meaning.{meaning}
use Rattle.logical_plan.specs.PlanSchema.{default_name}
use Rattle.logical_plan.specs.Query.{Query, built, listed, filtered, projected, redimensioned, regridded, windowed, aggregated}
use Rattle.logical_plan.proofs.Samples.{nothing, number, v, x, int, at1, at2, broken_at, dim, attribute, numbers, along, line, over}

-- ---- aggregates

-- the exact total, though a part of it is out of range
exact_total : (meaning nothing (aggregated (listed (along (line 2 1 0)) (at1 (pos 0) (int 9223372036854775807 ∷ []) ∷ at1 (pos 1) (int 1 ∷ []) ∷ at1 (pos 2) (Int (negsuc 0) ∷ []) ∷ [])) (over Sum 0 (codes "v_sum") ∷ []) [])).rows
    ≡ Ok (at1 (pos 0) (int 9223372036854775807 ∷ []) ∷ [])
exact_total = refl

total_too_large : fault_of (meaning nothing (aggregated (listed (along (line 2 1 0)) (at1 (pos 0) (int 9223372036854775807 ∷ []) ∷ at1 (pos 1) (int 1 ∷ []) ∷ [])) (over Sum 0 (codes "v_sum") ∷ []) [])).rows
    ≡ Some (broken_at (pos 0 ∷ []) Overflow)
total_too_large = refl

none_above : Query
none_above = filtered (built (along (line 2 2 0)) x) (relation More v (number 9))

-- without names one cell, also of no cells; with names a cell for each group that has one
of_no_cells : meaning nothing (aggregated none_above (over Sum 0 (default_name Sum (codes "v")) ∷ over CountAll 0 (default_name CountAll (codes "v")) ∷ []) [])
    ≡ record { schema = record { attributes = numbers (codes "v_sum") ∷ numbers (codes "count") ∷ []; dimensions = dim (codes "i") (pos 0) (pos 0) 1 0 ∷ [] }; rows = Ok (at1 (pos 0) (Null ∷ int 0 ∷ []) ∷ []) }
unfolding none_above
of_no_cells = refl

of_no_groups : (meaning nothing (aggregated none_above (over Sum 0 (codes "v_sum") ∷ []) (0 ∷ []))).rows ≡ Ok []
unfolding none_above
of_no_groups = refl

-- where no value is left the answer is null without a reason
of_nulls : (meaning nothing (aggregated (listed (along (line 1 2 0)) (at1 (pos 0) (Missing 7 ∷ []) ∷ at1 (pos 1) (Null ∷ []) ∷ [])) (over Sum 0 (codes "v_sum") ∷ over Min 0 (codes "v_min") ∷ over Count 0 (codes "v_count") ∷ over CountAll 0 (codes "count") ∷ []) [])).rows
    ≡ Ok (at1 (pos 0) (Null ∷ Null ∷ int 0 ∷ int 2 ∷ []) ∷ [])
of_nulls = refl

texts : Query
texts = listed (record { attributes = attribute (codes "s") Str ∷ []; dimensions = line 3 5 0 }) (at1 (pos 0) (Text (codes "b") ∷ []) ∷ at1 (pos 1) (Text (codes "B") ∷ []) ∷ at1 (pos 2) (Text (codes "ba") ∷ []) ∷ at1 (pos 3) (Text [] ∷ []) ∷ [])

-- texts by their bytes, and results of their kind
least_and_greatest : meaning nothing (aggregated texts (over Min 0 (codes "s_min") ∷ over Max 0 (codes "s_max") ∷ []) [])
    ≡ record { schema = record { attributes = attribute (codes "s_min") Str ∷ attribute (codes "s_max") Str ∷ []; dimensions = dim (codes "i") (pos 0) (pos 0) 1 0 ∷ [] }; rows = Ok (at1 (pos 0) (Text [] ∷ Text (codes "ba") ∷ []) ∷ []) }
unfolding texts
least_and_greatest = refl

-- ---- windows and blocks

windows : (meaning nothing (windowed (listed (along (line 4 2 1)) (at1 (pos 0) (int 1 ∷ []) ∷ at1 (pos 1) (int 2 ∷ []) ∷ at1 (pos 3) (int 4 ∷ []) ∷ at1 (pos 4) (int 8 ∷ []) ∷ []))
    (record { before = 1; after = 1 } ∷ []) (over Sum 0 (codes "v_sum") ∷ over CountAll 0 (codes "count") ∷ []))).rows
    ≡ Ok (at1 (pos 0) (int 3 ∷ int 2 ∷ []) ∷ at1 (pos 1) (int 3 ∷ int 2 ∷ []) ∷ at1 (pos 3) (int 12 ∷ int 2 ∷ []) ∷ at1 (pos 4) (int 12 ∷ int 2 ∷ []) ∷ [])
windows = refl

blocks : meaning nothing (regridded (built (along (dim (codes "i") (pos 1) (pos 5) 2 1 ∷ [])) x) (2 ∷ []) (over Sum 0 (codes "v_sum") ∷ over CountAll 0 (codes "n") ∷ []))
    ≡ record {
      schema = record { attributes = numbers (codes "v_sum") ∷ numbers (codes "n") ∷ []; dimensions = dim (codes "i") (pos 1) (pos 3) 2 0 ∷ [] };
      rows = Ok (at1 (pos 1) (int 3 ∷ int 2 ∷ []) ∷ at1 (pos 2) (int 7 ∷ int 2 ∷ []) ∷ at1 (pos 3) (int 5 ∷ int 1 ∷ []) ∷ []);
    }
blocks = refl

-- the low bound is known below a projection too
blocks_from_five : (meaning nothing (regridded (projected (built (along (dim (codes "i") (pos 5) (pos 8) 2 0 ∷ [])) x) (0 ∷ [])) (2 ∷ []) (over Sum 0 (codes "v_sum") ∷ []))).rows
    ≡ Ok (at1 (pos 5) (int 11 ∷ []) ∷ at1 (pos 6) (int 15 ∷ []) ∷ [])
blocks_from_five = refl

widest : Query
widest = regridded (listed (along (dim (codes "i") (negsuc 4611686018427387902) (pos 4611686018427387903) 10 10 ∷ [])) (at1 (negsuc 4611686018427387902) (int 1 ∷ []) ∷ at1 (pos 4611686018427387903) (int 2 ∷ []) ∷ []))
    (4611686018427387904 ∷ []) (over Sum 0 (codes "v_sum") ∷ [])

-- at the limits of bounds
widest_blocks : meaning nothing widest
    ≡ record {
      schema = record { attributes = numbers (codes "v_sum") ∷ []; dimensions = dim (codes "i") (negsuc 4611686018427387902) (negsuc 4611686018427387901) 10 0 ∷ [] };
      rows = Ok (at1 (negsuc 4611686018427387902) (int 1 ∷ []) ∷ at1 (negsuc 4611686018427387901) (int 2 ∷ []) ∷ []);
    }
unfolding widest
widest_blocks = refl

-- ---- redimension

pairs : Schema
pairs = record { attributes = numbers (codes "k") ∷ numbers (codes "v") ∷ []; dimensions = line 3 2 0 }

keyed : Query
keyed = listed pairs (at1 (pos 0) (int 1 ∷ int 10 ∷ []) ∷ at1 (pos 1) (int 0 ∷ int 20 ∷ []) ∷ at1 (pos 2) (int 1 ∷ int 30 ∷ []) ∷ at1 (pos 3) (Null ∷ int 40 ∷ []) ∷ [])

collides : (meaning nothing (redimensioned keyed (along (dim (codes "k") (pos 0) (pos 1) 2 0 ∷ [])) [])).rows ≡ Err (broken_at (pos 2 ∷ []) Collision)
unfolding pairs keyed
collides = refl

totals : (meaning nothing (redimensioned keyed (record { attributes = numbers (codes "t") ∷ []; dimensions = dim (codes "k") (pos 0) (pos 1) 2 0 ∷ [] }) (over Sum 1 (codes "t") ∷ []))).rows
    ≡ Ok (at1 (pos 0) (int 20 ∷ []) ∷ at1 (pos 1) (int 40 ∷ []) ∷ [])
unfolding pairs keyed
totals = refl

counted : (meaning nothing (redimensioned keyed (along (dim (codes "k") (pos 0) (pos 1) 2 0 ∷ dim (codes "n") (pos 0) (pos 9) 10 0 ∷ [])) [])).rows
    ≡ Ok (at2 (pos 0) (pos 0) (int 20 ∷ []) ∷ at2 (pos 1) (pos 0) (int 10 ∷ []) ∷ at2 (pos 1) (pos 1) (int 30 ∷ []) ∷ [])
unfolding pairs keyed
counted = refl

-- too many cells at one place
no_room : (meaning nothing (redimensioned keyed (along (dim (codes "k") (pos 0) (pos 1) 2 0 ∷ dim (codes "n") (pos 0) (pos 0) 1 0 ∷ [])) [])).rows ≡ Err (broken_at (pos 2 ∷ []) OutOfBounds)
unfolding pairs keyed
no_room = refl

with_code : Query
with_code = listed pairs (at1 (pos 0) (Missing 5 ∷ int 1 ∷ []) ∷ at1 (pos 1) (int 0 ∷ int 6 ∷ []) ∷ at1 (pos 2) (int 1 ∷ int 3 ∷ []) ∷ [])

named_target : Schema
named_target = record { attributes = numbers (codes "a") ∷ numbers (codes "b") ∷ []; dimensions = dim (codes "k") (pos 0) (pos 1) 2 0 ∷ [] }

-- the values stand in the order of the target's attributes, and a null of any code drops its cell
by_name : (meaning nothing (redimensioned with_code named_target (over CountAll 0 (codes "b") ∷ over Sum 1 (codes "a") ∷ []))).rows
    ≡ Ok (at1 (pos 0) (int 6 ∷ int 1 ∷ []) ∷ at1 (pos 1) (int 3 ∷ int 1 ∷ []) ∷ [])
unfolding pairs with_code named_target
by_name = refl

strict_target : Schema
strict_target = record { attributes = record { name = codes "a"; kind = Int64; nullable = false } ∷ []; dimensions = dim (codes "k") (pos 0) (pos 1) 2 0 ∷ [] }

least_kept : (meaning nothing (redimensioned (filtered with_code (relation Differs (attribute_value 1) (number 6))) strict_target (over Min 0 (codes "a") ∷ []))).rows ≡ Ok (at1 (pos 1) (int 1 ∷ []) ∷ [])
unfolding pairs with_code strict_target
least_kept = refl

-- the total of no value where none may be null
no_total : fault_of (meaning nothing (redimensioned (listed pairs (at1 (pos 0) (int 0 ∷ Missing 6 ∷ []) ∷ [])) strict_target (over Sum 1 (codes "a") ∷ []))).rows ≡ Some (broken_at (pos 0 ∷ []) NullInNotNull)
unfolding pairs strict_target
no_total = refl
