-- The laws, as they are stated.
use Rattle.std.proofs.Common.{◌≡◌, ℤ, true, ◌&&◌, List, [], ◌∷◌, refl, sym, ◌∙◌, arith}
use Rattle.std.specs.Prelude.{int_le}
use Rattle.std.proofs.lemmas.Int.{ints}
use Rattle.array_rows.specs.Rows.{Coordinate}
use Rattle.array_rows.specs.Boxes.{is_between}
use Rattle.array_geom.specs.Areas.{are_ordered}
use Rattle.array_geom.specs.Geometry.{frame_low, frame_lengths}
use Rattle.array_geom.specs.Laws.{MeetHoldsBoth, ShiftedHoldsMoved, LowestIsInside, WhatHoldsIsOrdered, CoresCover, CoresLieApart, CoreIsWithinBounds, CoreIsInFrame, PlaceOfCoordinate, CoordinateAtPlace}
use Rattle.array_geom.proofs.TestLaws.{and_parts, and_both, le_test, le_from_test}
use Rattle.array_geom.proofs.NearLemmas.{valid_placed, some_places, as_many}
use Rattle.array_geom.proofs.AreaLaws.{held_by_both, held_moved}
use Rattle.array_geom.proofs.CoreLaws.{core_has, chunk_has_core, core_of, core_within, core_in_frame}
use Rattle.array_geom.proofs.PlaceLaws.{frame_is_grid, position_below, coordinate_again, position_again, coordinate_in_grid}

pub meet_holds_both : MeetHoldsBoth
meet_holds_both a b c h k = held_by_both a.lo.items a.hi.items b.lo.items b.hi.items c h.0 h.1 k.0 k.1

pub shifted_holds_moved : ShiftedHoldsMoved
shifted_holds_moved area by c h e = held_moved area.lo.items area.hi.items by c h.0 h.1 e

lowest : (lo hi : List ℤ) → are_ordered lo hi ≡ true → is_between lo hi lo ≡ true
lowest [] [] e = refl
lowest [] (h ∷ hi) e = absurd cc
lowest (l ∷ lo) [] e = absurd cc
lowest (l ∷ lo) (h ∷ hi) e =
    let t = and_parts (int_le l h) (are_ordered lo hi) e in
    and_both _ _ (and_both _ _ (le_test l l (omega (arith, ints))) t.0) (lowest lo hi t.1)

pub lowest_is_inside : LowestIsInside
lowest_is_inside area e = lowest area.lo.items area.hi.items e

ordered : (lo hi : List ℤ) (c : Coordinate) → is_between lo hi c ≡ true → are_ordered lo hi ≡ true
ordered [] [] c e = refl
ordered [] (h ∷ hi) c e = absurd cc
ordered (l ∷ lo) [] c e = absurd cc
ordered (l ∷ lo) (h ∷ hi) [] e = absurd cc
ordered (l ∷ lo) (h ∷ hi) (x ∷ c) e =
    let t = and_parts (int_le l x && int_le x h) (is_between lo hi c) e in
    let u = and_parts (int_le l x) (int_le x h) t.0 in
    let low = le_from_test l x u.0 in
    let high = le_from_test x h u.1 in
    and_both _ _ (le_test l h (omega (arith, ints))) (ordered lo hi c t.1)

pub what_holds_is_ordered : WhatHoldsIsOrdered
what_holds_is_ordered area c e = ordered area.lo.items area.hi.items c e

pub cores_cover : CoresCover
cores_cover schema c v e = (chunk_has_core schema.dimensions c e, core_has schema.dimensions c (valid_placed schema v).near e)

pub cores_lie_apart : CoresLieApart
cores_lie_apart schema k c v l e = core_of schema.dimensions k c (valid_placed schema v).near l e

pub core_is_within_bounds : CoreIsWithinBounds
core_is_within_bounds schema k c h e = core_within schema.dimensions k c h e

pub core_is_in_frame : CoreIsInFrame
core_is_in_frame schema margins k c n e = core_in_frame schema.dimensions margins k c n e

pub place_of_coordinate : PlaceOfCoordinate
place_of_coordinate schema margins k c framed e =
    let dims = schema.dimensions in
    let g = sym (frame_is_grid dims margins k c (valid_placed schema framed.valid).near framed.each framed.core) ∙ e in
    (position_below (frame_low dims margins k) (frame_lengths dims margins) c g, coordinate_again (frame_low dims margins k) (frame_lengths dims margins) c g)

pub coordinate_at_place : CoordinateAtPlace
coordinate_at_place schema margins k p framed below =
    let dims = schema.dimensions in
    let lo = frame_low dims margins k in
    let ns = frame_lengths dims margins in
    let near = (valid_placed schema framed.valid).near in
    let lengths = (some_places dims margins near).0 in
    let each = as_many dims margins k framed.core in
    (frame_is_grid dims margins k _ near framed.each framed.core ∙ coordinate_in_grid lo ns p lengths each below, position_again lo ns p lengths each below)
