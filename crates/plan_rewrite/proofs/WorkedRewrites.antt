-- Small plans, and what is settled in their place.
use Rattle.std.proofs.Common.{◌≡◌, ℕ, pos, true, false, List, [], ◌∷◌, None, refl, codes}
use Rattle.cell_values.specs.declared.datum.CompareOp.TheVariants.{More}
use Rattle.cell_values.specs.declared.datum.Datum.TheVariants.{Int}
use Rattle.cell_values.specs.declared.schema.Bounds.{Bounds}
use Rattle.cell_values.specs.declared.schema.Kind.TheVariants.{Int64}
use Rattle.cell_values.specs.declared.schema.Schema.{Schema}
use Rattle.array_rows.specs.Boxes.{corners}
use Rattle.expr_nulls.specs.Expr.{Expr, literal, attribute_value, relation}
use Rattle.logical_plan.specs.declared.parts.Applied.{Applied}
use Rattle.logical_plan.specs.Query.{Query, scanned, filtered, applied, projected, between, subarray}
use Rattle.plan_rewrite.specs.Inner.Settling.{settle}
use Rattle.plan_rewrite.specs.Settled.{is_settled}

six : Schema
six = record { attributes = record { name = codes "v"; kind = Int64; nullable = true } ∷ []; dimensions = record { name = codes "i"; lo = pos 0; hi = pos 5; chunk = 2; overlap = 0 } ∷ [] }

stored : Query
stored = scanned (record { name = codes "A"; version = 1; schema = six })

line : ℕ → ℕ → Bounds
line lo hi = corners (pos lo ∷ []) (pos hi ∷ [])

more : ℕ → Expr
more n = relation More (attribute_value 0) (literal (Int (pos n)))

new : List ℕ → ℕ → Applied
new name n = record { name = name; kind = Int64; value = literal (Int (pos n)) }

-- two boxes and two filters: one box, below the filters
boxes : Query
boxes = between (filtered (between (filtered stored (more 0)) (line 1 5)) (more 1)) (line 0 3)

one_box : (settle None None boxes ≡ filtered (filtered (between stored (line 1 3)) (more 0)) (more 1)) × (is_settled boxes ≡ false)
unfolding boxes stored six line more
one_box = (refl, refl)

-- of three computed attributes the second and the third one are named, the third one first
few : Query
few = projected (projected (applied stored (new (codes "a") 7 ∷ new (codes "b") 8 ∷ new (codes "c") 9 ∷ [])) (2 ∷ 0 ∷ 3 ∷ [])) (2 ∷ 0 ∷ [])

two_left : (settle None None few ≡ projected (applied stored (new (codes "b") 8 ∷ new (codes "c") 9 ∷ [])) (2 ∷ 1 ∷ [])) × (is_settled few ≡ false)
unfolding few stored six new
two_left = (refl, refl)

-- no computed attribute is named
none_left : settle None None (projected (applied stored (new (codes "a") 7 ∷ [])) (0 ∷ [])) ≡ projected stored (0 ∷ [])
unfolding stored six new
none_left = refl

-- a box stays on what moves cells
on_a_part : settle None None (between (subarray (between stored (line 1 4)) (line 0 3)) (line 0 1)) ≡ between (subarray (between stored (line 1 4)) (line 0 3)) (line 0 1)
unfolding stored six line
on_a_part = refl
