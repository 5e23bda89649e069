-- Small results of transpose, reverse, unpack, xgrid, merge and concat, as the definitions compute them.
use Rattle.std.proofs.Common.{◌≡◌, pos, negsuc, true, false, [], ◌∷◌, Ok, Err, refl, codes}
use Rattle.cell_values.specs.declared.datum.Cell.TheVariants.{Doubt}
use Rattle.cell_values.specs.declared.datum.CompareOp.TheVariants.{More}
use Rattle.cell_values.specs.declared.datum.Datum.TheVariants.{Null, Missing, Bad}
use Rattle.cell_values.specs.declared.datum.FaultKind.TheVariants.{Overflow, DivideByZero}
use Rattle.cell_values.specs.declared.schema.Attribute.{Attribute}
use Rattle.cell_values.specs.declared.schema.Dimension.{Dimension}
use Rattle.cell_values.specs.declared.schema.Kind.TheVariants.{Int64, Str}
use Rattle.cell_values.specs.declared.schema.Schema.{Schema}
use Rattle.array_rows.specs.Rows.{placed}
use Rattle.expr_nulls.specs.declared.expr.ArithOp.TheVariants.{Add, Mul}
use Rattle.expr_nulls.specs.Expr.{relation, calculation}
use Rattle.logical_plan.specs.Made.{whole}
use Rattle.logical_plan.specs.Meaning.{Meant, meaning}
use Rattle.logical_plan.specs.PlanSchema.{schema_of}
use Rattle.logical_plan.specs.Query.{Query, built, listed, filtered, transposed, reversed, unpacked, xgridded, merged, concatenated}
use Rattle.logical_plan.specs.ShapeMeant.{transpose_meant, reverse_meant, unpack_meant, xgrid_meant, merge_meant, concat_meant}
use Rattle.logical_plan.specs.ShapeSchemas.{unpack_schema, merge_schema}
use Rattle.logical_plan.specs.Typing.{IsTyped, are_bounded, can_enlarge, enlarges, merges, can_follow}
use Rattle.logical_plan.proofs.Samples.{nothing, number, v, x, y, int, at1, at2, broken_at, dim, attribute, numbers, along, line}

x_to_1 : Dimension
x_to_1 = dim (codes "x") (pos 0) (pos 1) 2 0

y_to_2 : Dimension
y_to_2 = dim (codes "y") (pos 0) (pos 2) 2 0

-- the numbers 11 and 12, in the last row of a plane of two rows and three columns
above_ten : Query
above_ten = filtered (built (along (x_to_1 ∷ y_to_2 ∷ [])) (calculation Add (calculation Mul (number 10) x) y)) (relation More v (number 10))

typed_above_ten : IsTyped above_ten
unfolding above_ten x_to_1 y_to_2
typed_above_ten = ((refl, refl), refl)

-- a number for each place from 0 to 1, and for 5 and 6
two_numbers : Query
two_numbers = built (along (line 1 2 0)) x

typed_two_numbers : IsTyped two_numbers
unfolding two_numbers
typed_two_numbers = (refl, refl)

five_and_six : Query
five_and_six = built (along (dim (codes "i") (pos 5) (pos 6) 2 0 ∷ [])) x

-- no cell at all
no_cells : Query
no_cells = filtered two_numbers (relation More v (number 9))

-- a null, and a null with a code
nulls : Query
nulls = listed (along (line 1 2 0)) (at1 (pos 0) (Null ∷ []) ∷ at1 (pos 1) (Missing 7 ∷ []) ∷ [])

-- ---- transpose

columns_and_rows : meaning nothing (transposed above_ten) ≡ whole (along (y_to_2 ∷ x_to_1 ∷ [])) (at2 (pos 1) (pos 1) (int 11 ∷ []) ∷ at2 (pos 2) (pos 1) (int 12 ∷ []) ∷ [])
unfolding above_ten x_to_1 y_to_2
columns_and_rows = refl

-- the rows stand in row-major order of the new coordinates, and a doubt moves as another cell
columns_become_rows : transpose_meant (whole (along (x_to_1 ∷ y_to_2 ∷ [])) (at2 (pos 0) (pos 0) (int 0 ∷ []) ∷ placed (pos 0 ∷ pos 2 ∷ []) (Doubt Overflow) ∷ at2 (pos 1) (pos 0) (int 10 ∷ []) ∷ at2 (pos 1) (pos 1) (Null ∷ []) ∷ []))
    ≡ whole (along (y_to_2 ∷ x_to_1 ∷ [])) (at2 (pos 0) (pos 0) (int 0 ∷ []) ∷ at2 (pos 0) (pos 1) (int 10 ∷ []) ∷ at2 (pos 1) (pos 1) (Null ∷ []) ∷ placed (pos 2 ∷ pos 0 ∷ []) (Doubt Overflow) ∷ [])
unfolding x_to_1 y_to_2
columns_become_rows = refl

nothing_transposed : meaning nothing (transposed no_cells) ≡ whole (along (line 1 2 0)) []
unfolding no_cells two_numbers
nothing_transposed = refl

typed_transpose : IsTyped (transposed above_ten)
unfolding above_ten x_to_1 y_to_2
typed_transpose = (typed_above_ten, refl)

-- ---- reverse

last_first : meaning nothing (reversed (built (along (dim (codes "i") (pos 2) (pos 4) 2 0 ∷ [])) x))
    ≡ whole (along (dim (codes "i") (pos 2) (pos 4) 2 0 ∷ [])) (at1 (pos 2) (int 4 ∷ []) ∷ at1 (pos 3) (int 3 ∷ []) ∷ at1 (pos 4) (int 2 ∷ []) ∷ [])
last_first = refl

-- along both dimensions
doubt_reversed : reverse_meant (whole (along (x_to_1 ∷ y_to_2 ∷ [])) (placed (pos 0 ∷ pos 2 ∷ []) (Doubt Overflow) ∷ at2 (pos 1) (pos 2) (Null ∷ []) ∷ []))
    ≡ whole (along (x_to_1 ∷ y_to_2 ∷ [])) (at2 (pos 0) (pos 0) (Null ∷ []) ∷ placed (pos 1 ∷ pos 0 ∷ []) (Doubt Overflow) ∷ [])
unfolding x_to_1 y_to_2
doubt_reversed = refl

nothing_reversed : meaning nothing (reversed no_cells) ≡ whole (along (line 1 2 0)) []
unfolding no_cells two_numbers
nothing_reversed = refl

typed_reverse : IsTyped (reversed above_ten)
unfolding above_ten x_to_1 y_to_2
typed_reverse = (typed_above_ten, refl)

-- no place is opposite to another one where the high bound is `*`
no_end : are_bounded (dim (codes "x") (pos 0) (pos 1) 2 0 ∷ dim (codes "y") (pos 0) (pos 4611686018427387903) 2 0 ∷ []) ≡ false
no_end = refl

-- ---- unpack

numbered : Schema
numbered = record {
  attributes = record { name = codes "x"; kind = Int64; nullable = false } ∷ record { name = codes "y"; kind = Int64; nullable = false } ∷ numbers (codes "v") ∷ [];
  dimensions = dim (codes "r") (pos 0) (pos 4611686018427387903) 1000 0 ∷ [];
}

numbered_schema : unpack_schema (codes "r") (schema_of above_ten) ≡ numbered
unfolding above_ten x_to_1 y_to_2 numbered
numbered_schema = refl

cells_in_turn : meaning nothing (unpacked above_ten numbered)
    ≡ whole numbered (at1 (pos 0) (int 1 ∷ int 1 ∷ int 11 ∷ []) ∷ at1 (pos 1) (int 1 ∷ int 2 ∷ int 12 ∷ []) ∷ [])
unfolding above_ten x_to_1 y_to_2 numbered
cells_in_turn = refl

-- faulty values and nulls are values
values_in_turn : (unpack_meant (unpack_schema (codes "r") (along (line 9 2 0))) (whole (along (line 9 2 0)) (at1 (pos 3) (Null ∷ []) ∷ at1 (pos 4) (Bad Overflow ∷ []) ∷ at1 (pos 9) (Missing 7 ∷ []) ∷ []))).rows
    ≡ Ok (at1 (pos 0) (int 3 ∷ Null ∷ []) ∷ at1 (pos 1) (int 4 ∷ Bad Overflow ∷ []) ∷ at1 (pos 2) (int 9 ∷ Missing 7 ∷ []) ∷ [])
values_in_turn = refl

-- the first doubt breaks the result
first_doubt : (unpack_meant numbered (whole (along (x_to_1 ∷ y_to_2 ∷ [])) (at2 (pos 0) (pos 0) (int 0 ∷ []) ∷ placed (pos 0 ∷ pos 2 ∷ []) (Doubt DivideByZero) ∷ placed (pos 1 ∷ pos 2 ∷ []) (Doubt Overflow) ∷ []))).rows
    ≡ Err (broken_at (pos 0 ∷ pos 2 ∷ []) DivideByZero)
unfolding x_to_1 y_to_2 numbered
first_doubt = refl

-- there is no number beyond the last place
no_place_left : (unpack_meant (along (line 0 1 0)) (whole (along (line 9 2 0)) (at1 (pos 3) (Null ∷ []) ∷ at1 (pos 4) (Null ∷ []) ∷ []))).rows
    ≡ Ok (at1 (pos 0) (int 3 ∷ Null ∷ []) ∷ [])
no_place_left = refl

nothing_unpacked : (meaning nothing (unpacked no_cells (unpack_schema (codes "r") (schema_of no_cells)))).rows ≡ Ok []
unfolding no_cells two_numbers
nothing_unpacked = refl

typed_unpack : IsTyped (unpacked above_ten numbered)
unfolding above_ten x_to_1 y_to_2 numbered
typed_unpack = (typed_above_ten, refl, refl)

-- ---- xgrid

each_twice : meaning nothing (xgridded (built (along (line 1 2 0)) (calculation Add x (number 5))) (2 ∷ []))
    ≡ whole (along (line 3 2 0)) (at1 (pos 0) (int 5 ∷ []) ∷ at1 (pos 1) (int 5 ∷ []) ∷ at1 (pos 2) (int 6 ∷ []) ∷ at1 (pos 3) (int 6 ∷ []) ∷ [])
each_twice = refl

-- blocks of two by three, in row-major order of the result, of cells of which one is in doubt
blocks : (xgrid_meant (2 ∷ 3 ∷ []) (whole (along (x_to_1 ∷ y_to_2 ∷ [])) (at2 (pos 0) (pos 1) (Null ∷ []) ∷ placed (pos 0 ∷ pos 2 ∷ []) (Doubt Overflow) ∷ []))).rows
    ≡ Ok (at2 (pos 0) (pos 3) (Null ∷ []) ∷ at2 (pos 0) (pos 4) (Null ∷ []) ∷ at2 (pos 0) (pos 5) (Null ∷ [])
    ∷ placed (pos 0 ∷ pos 6 ∷ []) (Doubt Overflow) ∷ placed (pos 0 ∷ pos 7 ∷ []) (Doubt Overflow) ∷ placed (pos 0 ∷ pos 8 ∷ []) (Doubt Overflow)
    ∷ at2 (pos 1) (pos 3) (Null ∷ []) ∷ at2 (pos 1) (pos 4) (Null ∷ []) ∷ at2 (pos 1) (pos 5) (Null ∷ [])
    ∷ placed (pos 1 ∷ pos 6 ∷ []) (Doubt Overflow) ∷ placed (pos 1 ∷ pos 7 ∷ []) (Doubt Overflow) ∷ placed (pos 1 ∷ pos 8 ∷ []) (Doubt Overflow) ∷ [])
unfolding x_to_1 y_to_2
blocks = refl

-- the low bound stays
from_below_zero : xgrid_meant (3 ∷ []) (whole (along (dim (codes "i") (negsuc 1) (pos 0) 2 0 ∷ [])) (at1 (negsuc 0) (int 7 ∷ []) ∷ []))
    ≡ whole (along (dim (codes "i") (negsuc 1) (pos 6) 2 0 ∷ [])) (at1 (pos 1) (int 7 ∷ []) ∷ at1 (pos 2) (int 7 ∷ []) ∷ at1 (pos 3) (int 7 ∷ []) ∷ [])
from_below_zero = refl

nothing_enlarged : meaning nothing (xgridded no_cells (2 ∷ [])) ≡ whole (along (line 3 2 0)) []
unfolding no_cells two_numbers
nothing_enlarged = refl

typed_xgrid : IsTyped (xgridded above_ten (2 ∷ 3 ∷ []))
unfolding above_ten x_to_1 y_to_2
typed_xgrid = (typed_above_ten, refl, refl)

-- no block is empty, and the high bound may be the greatest one, but not more. `*` may stay
no_block : can_enlarge (line 1 2 0) (0 ∷ []) ≡ false
no_block = refl

greatest_high : can_enlarge (line 2305843009213693951 2 0) (2 ∷ []) ≡ true
greatest_high = refl

high_beyond : can_enlarge (line 2305843009213693952 2 0) (2 ∷ []) ≡ false
high_beyond = refl

without_end : can_enlarge (line 4611686018427387903 2 0) (1 ∷ []) ≡ true
without_end = refl

no_end_to_enlarge : can_enlarge (line 4611686018427387903 2 0) (2 ∷ []) ≡ false
no_end_to_enlarge = refl

-- a block has at most 65,536 places
largest_block : enlarges (along (dim (codes "x") (pos 0) (pos 1) 2 0 ∷ dim (codes "y") (pos 0) (pos 1) 2 0 ∷ [])) (256 ∷ 256 ∷ []) ≡ true
largest_block = refl

block_too_large : enlarges (along (dim (codes "x") (pos 0) (pos 1) 2 0 ∷ dim (codes "y") (pos 0) (pos 1) 2 0 ∷ [])) (256 ∷ 257 ∷ []) ≡ false
block_too_large = refl

-- ---- merge

one_number : Query
one_number = listed (along (line 1 2 0)) (at1 (pos 0) (int 1 ∷ []) ∷ [])

left_before_right : meaning nothing (merged one_number (built (along (line 1 2 0)) (calculation Add x (number 7))))
    ≡ whole (along (line 1 2 0)) (at1 (pos 0) (int 1 ∷ []) ∷ at1 (pos 1) (int 8 ∷ []) ∷ [])
unfolding one_number
left_before_right = refl

-- a null and a doubt of the left hide the right's cells
left_null : (meaning nothing (merged nulls two_numbers)).rows ≡ Ok (at1 (pos 0) (Null ∷ []) ∷ at1 (pos 1) (Missing 7 ∷ []) ∷ [])
unfolding nulls two_numbers
left_null = refl

left_doubt : (merge_meant (whole (along (line 1 2 0)) (placed (pos 0 ∷ []) (Doubt Overflow) ∷ [])) (whole (along (line 1 2 0)) (at1 (pos 0) (int 7 ∷ []) ∷ placed (pos 1 ∷ []) (Doubt DivideByZero) ∷ []))).rows
    ≡ Ok (placed (pos 0 ∷ []) (Doubt Overflow) ∷ placed (pos 1 ∷ []) (Doubt DivideByZero) ∷ [])
left_doubt = refl

nothing_before : meaning nothing (merged no_cells two_numbers) ≡ meaning nothing two_numbers
unfolding no_cells two_numbers
nothing_before = refl

strict : Attribute
strict = record { name = codes "w"; kind = Int64; nullable = false }

-- the left's names, chunks and overlaps, and null where either may be
merged_schema : merge_schema (record { attributes = strict ∷ strict ∷ []; dimensions = line 5 2 1 }) (record { attributes = strict ∷ numbers (codes "u") ∷ []; dimensions = dim (codes "j") (pos 0) (pos 5) 3 0 ∷ [] })
    ≡ record { attributes = strict ∷ numbers (codes "w") ∷ []; dimensions = line 5 2 1 }
unfolding strict
merged_schema = refl

typed_merge : IsTyped (merged two_numbers two_numbers)
unfolding two_numbers
typed_merge = (typed_two_numbers, typed_two_numbers, refl, refl)

-- chunks and names may differ, bounds and kinds may not
other_chunks : merges (along (line 5 2 1)) (record { attributes = numbers (codes "w") ∷ []; dimensions = dim (codes "j") (pos 0) (pos 5) 3 0 ∷ [] }) ≡ true
other_chunks = refl

other_bounds : merges (along (line 5 2 0)) (along (line 6 2 0)) ≡ false
other_bounds = refl

other_kinds : merges (along (line 5 2 0)) (record { attributes = attribute (codes "v") Str ∷ []; dimensions = line 5 2 0 }) ≡ false
other_kinds = refl

-- ---- concat

one_behind_the_other : meaning nothing (concatenated two_numbers five_and_six)
    ≡ whole (along (line 3 2 0)) (at1 (pos 0) (int 0 ∷ []) ∷ at1 (pos 1) (int 1 ∷ []) ∷ at1 (pos 2) (int 5 ∷ []) ∷ at1 (pos 3) (int 6 ∷ []) ∷ [])
unfolding two_numbers five_and_six
one_behind_the_other = refl

-- along the first dimension alone; nulls and doubts stay what they are
planes : concat_meant (whole (along (x_to_1 ∷ y_to_2 ∷ [])) (at2 (pos 0) (pos 2) (Null ∷ []) ∷ [])) (whole (along (dim (codes "k") (negsuc 2) (negsuc 0) 5 0 ∷ y_to_2 ∷ [])) (placed (negsuc 2 ∷ pos 1 ∷ []) (Doubt Overflow) ∷ at2 (negsuc 0) (pos 0) (int 4 ∷ []) ∷ []))
    ≡ whole (along (dim (codes "x") (pos 0) (pos 4) 2 0 ∷ y_to_2 ∷ [])) (at2 (pos 0) (pos 2) (Null ∷ []) ∷ placed (pos 2 ∷ pos 1 ∷ []) (Doubt Overflow) ∷ at2 (pos 4) (pos 0) (int 4 ∷ []) ∷ [])
unfolding x_to_1 y_to_2
planes = refl

nothing_behind : meaning nothing (concatenated two_numbers no_cells) ≡ whole (along (line 3 2 0)) (at1 (pos 0) (int 0 ∷ []) ∷ at1 (pos 1) (int 1 ∷ []) ∷ [])
unfolding two_numbers no_cells
nothing_behind = refl

typed_concat : IsTyped (concatenated two_numbers five_and_six)
unfolding two_numbers five_and_six
typed_concat = (typed_two_numbers, (refl, refl), refl, refl)

-- nothing stands behind `*`, and the new high bound may be the greatest one, but not more
behind_no_end : can_follow (line 4611686018427387903 2 0) (line 0 1 0) ≡ false
behind_no_end = refl

greatest_end : can_follow (line 4611686018427387902 2 0) (line 0 1 0) ≡ true
greatest_end = refl

end_beyond : can_follow (line 4611686018427387902 2 0) (line 1 1 0) ≡ false
end_beyond = refl

-- the bounds of the other dimensions are the same
other_columns : can_follow (dim (codes "x") (pos 0) (pos 1) 2 0 ∷ line 1 2 0) (dim (codes "x") (pos 7) (pos 9) 2 0 ∷ line 2 2 0) ≡ false
other_columns = refl

-- ---- broken sources

abbrev broken : Meant
broken = record { schema = along (line 1 2 0); rows = Err (broken_at (pos 1 ∷ []) Overflow) }

abbrev broken_before : Meant
broken_before = record { schema = along (line 1 2 0); rows = Err (broken_at (pos 0 ∷ []) DivideByZero) }

stays_broken : (transpose_meant broken).rows ≡ broken.rows
stays_broken = refl

left_first : (merge_meant broken broken_before).rows ≡ broken.rows
left_first = refl

right_then : (concat_meant (whole (along (line 1 2 0)) []) broken).rows ≡ broken.rows
right_then = refl
