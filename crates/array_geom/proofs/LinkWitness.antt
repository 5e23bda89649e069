-- Two cells in the middle of four places: two chunks, each with a copy of the other's cell.
use Rattle.std.proofs.Common.{◌≡◌, ℕ, zero, suc, ◌<◌, pos, Bool, true, false, cond, ◌||◌, List, [], ◌∷◌, length, None, Ok, refl, sym, ◌∙◌, codes, arith}
use Rattle.std.specs.Ordering.{is_eq}
use Rattle.array_rows.specs.Cell.{Cell}
use Rattle.array_rows.specs.Cell.TheVariants.{Full}
use Rattle.array_rows.specs.Datum.TheVariants.{Int}
use Rattle.array_rows.specs.Row.{Row}
use Rattle.array_rows.specs.Dimension.{Dimension}
use Rattle.array_rows.specs.Kind.TheVariants.{Int64}
use Rattle.array_rows.specs.Schema.{Schema}
use Rattle.array_rows.specs.Arrays.{AreRowsOf}
use Rattle.array_rows.specs.Boxes.{is_inside}
use Rattle.array_rows.specs.Rows.{Coordinate, placed}
use Rattle.array_geom.specs.declared.chunk.Chunk.{Chunk}
use Rattle.array_geom.specs.declared.chunk.ChunkedArray.{ChunkedArray}
use Rattle.array_geom.specs.Geometry.{ChunkNumber, chunk_of, core}
use Rattle.array_geom.specs.Link.{number_order, numbers, is_listed, is_not_empty, has_cell, AreChunksOf, Is}
use Rattle.array_geom.specs.Inner.Ranges.{AreNear}
use Rattle.array_geom.proofs.CoreLaws.{core_of}
use Rattle.array_geom.proofs.NearLemmas.{valid_placed}
use Rattle.array_geom.proofs.NumberLaws.{same_number, is_equal}

abbrev schema : Schema
schema = record { attributes = record { name = codes "v"; kind = Int64; nullable = true } ∷ []; dimensions = record { name = codes "i"; lo = pos 0; hi = pos 3; chunk = 2; overlap = 1 } ∷ [] }

abbrev dims : List Dimension
dims = schema.dimensions

abbrev five : Cell
five = Full (Int (pos 5) ∷ [])

abbrev rows : List Row
rows = placed (pos 1 ∷ []) five ∷ placed (pos 2 ∷ []) five ∷ []

abbrev left : Chunk
left = record { at = record { items = 0 ∷ [] }; positions = 2 ∷ 3 ∷ []; cells = five ∷ five ∷ [] }

abbrev right : Chunk
right = record { at = record { items = 1 ∷ [] }; positions = 0 ∷ 1 ∷ []; cells = five ∷ five ∷ [] }

near : AreNear dims
near = (valid_placed schema refl).near

-- numbers that differ are told apart
differs : (a b : ChunkNumber) → (a ≡ b → ⊥) → is_eq (number_order a b) ≡ false
differs a b n = cases (is_eq (number_order a b)) refl
  where
    cases : (t : Bool) → is_eq (number_order a b) ≡ t → t ≡ false
    cases false e = refl
    cases true e = absurd (n (same_number a b (is_equal (number_order a b) e)))

not_inside : (k : ChunkNumber) (c : Coordinate) → length k ≡ 1 → (k ≡ chunk_of dims c → ⊥) → is_inside (core dims k) c ≡ false
not_inside k c l n = cases (is_inside (core dims k) c) refl
  where
    cases : (t : Bool) → is_inside (core dims k) c ≡ t → t ≡ false
    cases false e = refl
    cases true e = absurd (n (core_of dims k c near l e))

neither : (p q : Bool) → p ≡ false → q ≡ false → (p || (q || false)) ≡ false
neither false false e f = refl
neither true q e f = cc
neither false true e f = cc

none_of_two : (p q : Bool) (r s : Row) → p ≡ false → q ≡ false → is_not_empty (cond p (r ∷ cond q (s ∷ []) []) (cond q (s ∷ []) [])) ≡ false
none_of_two false false r s e f = refl
none_of_two true q r s e f = cc
none_of_two false true r s e f = cc

two_is_not : (j n : ℕ) → n < 2 → n ∷ [] ≡ suc (suc j) ∷ [] → ⊥
two_is_not j n h e = let f : n ≡ suc (suc j) = cc in omega arith

not_listed : (j : ℕ) → is_listed (suc (suc j) ∷ []) (numbers (left ∷ right ∷ [])) ≡ false
not_listed j = neither _ _ (differs (0 ∷ []) (suc (suc j) ∷ []) (two_is_not j 0 (omega arith))) (differs (1 ∷ []) (suc (suc j) ∷ []) (two_is_not j 1 (omega arith)))

holds_none : (j : ℕ) → has_cell dims rows (suc (suc j) ∷ []) ≡ false
holds_none j = none_of_two (is_inside (core dims (suc (suc j) ∷ [])) (pos 1 ∷ [])) (is_inside (core dims (suc (suc j) ∷ [])) (pos 2 ∷ [])) _ _
    (not_inside (suc (suc j) ∷ []) (pos 1 ∷ []) refl (λ e. two_is_not j 0 (omega arith) (sym e)))
    (not_inside (suc (suc j) ∷ []) (pos 2 ∷ []) refl (λ e. two_is_not j 1 (omega arith) (sym e)))

listed : (k : ChunkNumber) → length k ≡ 1 → is_listed k (numbers (left ∷ right ∷ [])) ≡ has_cell dims rows k
listed [] e = absurd (omega arith)
listed (zero ∷ []) e = refl
listed (suc zero ∷ []) e = refl
listed (suc (suc j) ∷ []) e = not_listed j ∙ sym (holds_none j)
listed (q ∷ r ∷ k) e = absurd (omega arith)

pub chunks : AreChunksOf dims (1 ∷ []) rows (left ∷ right ∷ [])
chunks = record {
  in_order = ((refl, tt), (tt, tt));
  sized = (refl, (refl, tt));
  listed = listed;
  parts = (record { each = refl; in_frame = (omega arith, (omega arith, tt)); cells = refl }, (record { each = refl; in_frame = (omega arith, (omega arith, tt)); cells = refl }, tt));
}

are_rows : AreRowsOf schema rows
are_rows = record {
  valid = refl;
  are_rows = record { rising = ((refl, tt), (tt, tt)); in_bounds = (refl, (refl, tt)) };
  kinds = ((refl, tt), ((refl, tt), tt));
}

abbrev array : ChunkedArray
array = record { schema = schema; margins = record { items = 1 ∷ [] }; chunks = left ∷ right ∷ []; broken = None }

pub witness : Is array (record { schema = schema; rows = Ok rows })
witness = record { schema = refl; valid = refl; margins = refl; cells = record { whole = refl; rows_of = are_rows; each = refl; places = omega arith; chunks = chunks } }
