-- Two databases that differ beyond the chunks that a plan wants, and give it one meaning.
use Rattle.std.proofs.Common.{◌≡◌, ℕ, zero, suc, ◌*◌, ◌≤◌, ℤ, pos, ◌+ℤ◌, ◌<ℤ◌, Bool, true, false, List, [], ◌∷◌, length, Some, None, Ok, refl, sym, ap, ◌∙◌, arith, codes}
use Rattle.std.specs.Prelude.{◌&&◌, int_le, IsTrue}
use Rattle.std.specs.Int.{int_max, int_min}
use Rattle.std.proofs.lemmas.Int.{ints, clamps}
use Rattle.cell_values.specs.declared.datum.Cell.TheVariants.{Full}
use Rattle.cell_values.specs.declared.datum.Datum.TheVariants.{Int}
use Rattle.cell_values.specs.declared.datum.Row.{Row}
use Rattle.cell_values.specs.declared.schema.Bounds.{Bounds}
use Rattle.cell_values.specs.declared.schema.Dimension.{Dimension}
use Rattle.cell_values.specs.declared.schema.Kind.TheVariants.{Int64}
use Rattle.cell_values.specs.declared.schema.Schema.{Schema}
use Rattle.array_rows.specs.Arrays.{AreRowsOf}
use Rattle.array_rows.specs.Boxes.{corners, within}
use Rattle.array_rows.specs.Rows.{placed, cell_at}
use Rattle.array_geom.specs.Geometry.{ChunkNumber, first_in, last_in, core_meets, frame, overlaps}
use Rattle.array_geom.specs.Link.{has_cell}
use Rattle.array_geom.proofs.TestLaws.{le_from_test}
use Rattle.logical_plan.specs.declared.parts.AggFunction.TheVariants.{Sum}
use Rattle.logical_plan.specs.Meaning.{Database, meaning}
use Rattle.logical_plan.specs.Query.{Query, scanned, between, windowed}
use Rattle.logical_plan.specs.Typing.{IsTyped}
use Rattle.plan_needs.specs.Wanted.{is_wanted, HaveAlike}
use Rattle.plan_needs.proofs.AlikePlans.{needs_are_sufficient}

along : Dimension
along = record { name = codes "i"; lo = pos 0; hi = pos 5; chunk = 2; overlap = 0 }

-- `<v:int64>[i=0:5,2,0]`, version 1
six : Schema
six = record { attributes = record { name = codes "v"; kind = Int64; nullable = true } ∷ []; dimensions = along ∷ [] }

-- `between(window(A, 1, 1, sum(v)), 0, 1)`
windows : Query
windows =
    between
    (windowed (scanned (record { name = codes "A"; version = 1; schema = six })) (record { before = 1; after = 1 } ∷ []) (record { function = Sum; attribute = 0; name = codes "v_sum" } ∷ []))
    (corners (pos 0 ∷ []) (pos 1 ∷ []))

-- it wants the chunks 0 and 1
wanted : Bounds
wanted = corners (pos 0 ∷ []) (pos 2 ∷ [])

number_at : ℕ → ℕ → Row
number_at i v = placed (pos i ∷ []) (Full (Int (pos v) ∷ []))

one : List Row
one = number_at 0 1 ∷ number_at 1 2 ∷ number_at 2 3 ∷ number_at 5 7 ∷ []

other : List Row
other = number_at 0 1 ∷ number_at 1 2 ∷ number_at 2 3 ∷ number_at 4 9 ∷ []

over : List Row → Database
over rows = λ name version. rows

-- ---- the same answer

differ : (cell_at one (pos 5 ∷ []) ≡ Some (Full (Int (pos 7) ∷ []))) × (cell_at other (pos 5 ∷ []) ≡ None)
unfolding one other number_at
differ = (refl, refl)

answers : ((meaning (over one) windows).rows ≡ Ok (number_at 0 3 ∷ number_at 1 6 ∷ [])) × ((meaning (over other) windows).rows ≡ Ok (number_at 0 3 ∷ number_at 1 6 ∷ []))
unfolding windows six along one other over number_at
answers = (refl, refl)

-- ---- it follows from what is wanted

above : (l h : ℤ) → h <ℤ l → (int_le l h && true) ≡ false
above l h lt = by_test (int_le l h) refl
  where
    by_test : (b : Bool) → int_le l h ≡ b → (b && true) ≡ false
    by_test false e = refl
    by_test true e = let le = le_from_test l h e in absurd (omega (arith, ints))

begins_late : (n : ℕ) → 2 ≤ n → pos 2 <ℤ (pos 0 +ℤ pos (n * 2))
begins_late n l = omega (arith, ints)

beyond : (f x : ℤ) → pos 2 <ℤ f → int_min x (pos 2) <ℤ int_max f (pos 0)
beyond f x l = omega (arith, ints, clamps)

far : (m : ℕ) → core_meets six.dimensions wanted (suc (suc m) ∷ []) ≡ false
unfolding six along wanted
far m =
    above (int_max (first_in along (suc (suc m))) (pos 0)) (int_min (int_min (pos 5) (last_in along (suc (suc m)))) (pos 2))
    (beyond (first_in along (suc (suc m))) (int_min (pos 5) (last_in along (suc (suc m)))) (begins_late (suc (suc m)) (omega arith)))

never : (b : Bool) → (b && false) ≡ false
never true = refl
never false = refl

unwanted : (rows : List Row) (m : ℕ) → is_wanted six.dimensions rows wanted (suc (suc m) ∷ []) ≡ false
unwanted rows m = ap (λ (b : Bool). has_cell six.dimensions rows (suc (suc m) ∷ []) && b) (far m) ∙ never (has_cell six.dimensions rows (suc (suc m) ∷ []))

same_chunks : (k : ChunkNumber) → length k ≡ 1 → is_wanted six.dimensions one wanted k ≡ is_wanted six.dimensions other wanted k
unfolding six along wanted one other number_at
same_chunks [] e = absurd (omega arith)
same_chunks (zero ∷ []) e = refl
same_chunks (suc zero ∷ []) e = refl
same_chunks (suc (suc m) ∷ []) e = unwanted one m ∙ sym (unwanted other m)
same_chunks (n ∷ m ∷ k) e = absurd (omega arith)

same_cells : (k : ChunkNumber) → length k ≡ 1 → IsTrue (is_wanted six.dimensions one wanted k) → within (frame six.dimensions (overlaps six.dimensions) k) one ≡ within (frame six.dimensions (overlaps six.dimensions) k) other
unfolding six along wanted one other number_at
same_cells [] e w = absurd (omega arith)
same_cells (zero ∷ []) e w = refl
same_cells (suc zero ∷ []) e w = refl
same_cells (suc (suc m) ∷ []) e w = let none : is_wanted six.dimensions one wanted (suc (suc m) ∷ []) ≡ false = unwanted one m in cc
same_cells (n ∷ m ∷ k) e w = absurd (omega arith)

alike : HaveAlike six.dimensions wanted one other
unfolding six along
alike = record { wanted = same_chunks; cells = same_cells }

typed : IsTyped windows
unfolding windows six along
typed = ((refl, refl, refl), refl)

one_array : AreRowsOf six one
unfolding six along one number_at
one_array = record {
  valid = refl;
  are_rows = record { rising = ((refl, (refl, (refl, tt))), ((refl, (refl, tt)), ((refl, tt), (tt, tt)))); in_bounds = (refl, (refl, (refl, (refl, tt)))) };
  kinds = ((refl, tt), ((refl, tt), ((refl, tt), ((refl, tt), tt))));
}

other_array : AreRowsOf six other
unfolding six along other number_at
other_array = record {
  valid = refl;
  are_rows = record { rising = ((refl, (refl, (refl, tt))), ((refl, (refl, tt)), ((refl, tt), (tt, tt)))); in_bounds = (refl, (refl, (refl, (refl, tt)))) };
  kinds = ((refl, tt), ((refl, tt), ((refl, tt), ((refl, tt), tt))));
}

one_meaning : meaning (over one) windows ≡ meaning (over other) windows
unfolding windows over six along wanted
one_meaning = needs_are_sufficient (over one) (over other) windows typed (one_array, tt) (other_array, tt) (alike, tt)
