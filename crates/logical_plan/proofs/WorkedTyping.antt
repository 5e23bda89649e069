-- Small plans that are typed, and tests of rules that fail.
use Rattle.std.proofs.Common.{◌≡◌, pos, false, [], ◌∷◌, refl, codes}
use Rattle.std.specs.Fmt.{digits}
use Rattle.cell_values.specs.declared.datum.CompareOp.TheVariants.{More}
use Rattle.cell_values.specs.declared.datum.Datum.TheVariants.{Null}
use Rattle.cell_values.specs.declared.schema.Kind.TheVariants.{Str}
use Rattle.array_rows.specs.Boxes.{corners}
use Rattle.expr_nulls.specs.declared.expr.ArithOp.TheVariants.{Add}
use Rattle.expr_nulls.specs.Expr.{relation, literal, calculation}
use Rattle.logical_plan.specs.declared.parts.AggFunction.TheVariants.{Sum, CountAll}
use Rattle.logical_plan.specs.PlanSchema.{schema_of, join_schema}
use Rattle.logical_plan.specs.Query.{Query, built, listed, filtered, applied, projected, between, subarray, joined, crossed, redimensioned, regridded, windowed, aggregated}
use Rattle.logical_plan.specs.Typing.{IsTyped, builds, fits_apply, redimensions, are_windows_of, is_aggregate_of}
use Rattle.logical_plan.proofs.Samples.{number, v, x, int, at1, dim, attribute, numbers, along, line, computed, over}

source : Query
source = built (along (line 5 2 1)) x

typed_source : IsTyped source
unfolding source
typed_source = (refl, refl)

literal_rows : IsTyped (listed (along (line 1 2 0)) (at1 (pos 0) (Null ∷ []) ∷ at1 (pos 1) (int 5 ∷ []) ∷ []))
literal_rows = (
  refl,
  record {
    valid = refl;
    are_rows = record { rising = ((refl, tt), (tt, tt)); in_bounds = (refl, (refl, tt)) };
    kinds = ((refl, tt), ((refl, tt), tt));
  },
  (refl, (refl, tt)),
)

cells : IsTyped (between (projected (applied (filtered source (relation More v (number 1))) (computed (codes "w") (calculation Add v x) ∷ [])) (1 ∷ [])) (corners (pos 0 ∷ []) (pos 3 ∷ [])))
unfolding source
cells = ((((typed_source, refl), refl, refl), refl, refl), refl)

groups : IsTyped (aggregated (windowed (regridded (subarray source (corners (pos 1 ∷ []) (pos 9 ∷ []))) (2 ∷ []) (over Sum 0 (codes "v") ∷ [])) (record { before = 1; after = 0 } ∷ []) (over Sum 0 (codes "t") ∷ [])) (over CountAll 0 (codes "n") ∷ []) (0 ∷ []))
unfolding source
groups = ((((typed_source, refl, refl), refl, refl), refl, refl), refl, refl)

two : IsTyped (joined source source (join_schema (schema_of source) (schema_of source)))
unfolding source digits
two = (typed_source, typed_source, refl, refl, refl)

partners : IsTyped (crossed source source (record { left = 0; right = 0 } ∷ []) (join_schema (schema_of source) (schema_of source)))
unfolding source digits
partners = (typed_source, typed_source, refl, refl, refl)

moved : IsTyped (redimensioned source (record { attributes = numbers (codes "n") ∷ []; dimensions = dim (codes "v") (pos 0) (pos 5) 6 0 ∷ [] }) (over CountAll 0 (codes "n") ∷ []))
unfolding source
moved = (typed_source, refl, refl)

-- a text is no number
of_another_kind : builds (record { attributes = attribute (codes "s") Str ∷ []; dimensions = line 1 2 0 }) x ≡ false
of_another_kind = refl

-- the greatest bound stands for none
unbounded : builds (along (dim (codes "i") (pos 0) (pos 4611686018427387903) 1 0 ∷ [])) x ≡ false
unbounded = refl

-- a null alone has no kind of its own
null_alone : fits_apply (along (line 1 2 0)) (computed (codes "w") (literal Null) ∷ []) ≡ false
null_alone = refl

-- two synthetic dimensions
two_synthetic : redimensions (along (line 1 2 0)) (along (dim (codes "m") (pos 0) (pos 1) 2 0 ∷ dim (codes "n") (pos 0) (pos 1) 2 0 ∷ [])) [] ≡ false
two_synthetic = refl

-- an attribute that no aggregate names
no_such_name : redimensions (along (line 1 2 0)) (along (line 1 2 0)) (over CountAll 0 (codes "n") ∷ []) ≡ false
no_such_name = refl

-- a window of more than 2^24 places
too_large : are_windows_of (along (line 1 2 0)) (record { before = 16777216; after = 0 } ∷ []) ≡ false
too_large = refl

-- no total of texts
no_text_total : is_aggregate_of (attribute (codes "s") Str ∷ []) (over Sum 0 (codes "t")) ≡ false
no_text_total = refl
