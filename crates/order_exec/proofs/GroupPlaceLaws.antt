-- Groups of cells by the places of a grid.
use Rattle.std.proofs.Common.{◌≡◌, ℕ, suc, ◌+◌, ◌<◌, ◌≤◌, ◌==◌, Bool, true, false, List, [], ◌∷◌, ◌++◌, length, get_or, take, refl, sym, ap, ◌∙◌, subst, arith}
use Rattle.std.proofs.lemmas.Bool.{eqb-true}
use Rattle.std.proofs.lemmas.List.{take_all, take_more}
use Rattle.std.specs.List.{AllByRecursion, AllZip}
use Rattle.std.specs.Ordering.{is_eq}
use Rattle.cell_values.specs.declared.schema.Bounds.{Bounds}
use Rattle.array_rows.specs.Boxes.{is_inside}
use Rattle.array_rows.specs.Rows.{Coordinate, row_major}
use Rattle.array_rows.proofs.RowsLemmas.{same_coordinate}
use Rattle.array_geom.specs.declared.grid.Grid.{Grid}
use Rattle.array_geom.specs.Geometry.{position_in, volume}
use Rattle.array_geom.specs.Inner.Ranges.{IsGrid}
use Rattle.array_geom.proofs.PlaceLaws.{coordinate_again, position_again}
use Rattle.group_rows.specs.Inner.Places.{place_of}
use Rattle.group_rows.proofs.PlaceLaws.{same_key}
use Rattle.group_rows.proofs.StateLaws.{zip_push}
use Rattle.logical_plan.specs.BoxOps.{numbers_at}
use Rattle.order_exec.specs.Inner.GroupPlaces.{HasGroup, HaveGroups, IsGroupGrid}

pub has_group : (dims : List ℕ) (bounds : Bounds) (grid : Grid) (c key : Coordinate) (t : ℕ) → IsGroupGrid dims bounds grid → key ≡ numbers_at dims c → is_inside bounds key ≡ true
    → t ≡ position_in grid.low.items grid.lengths.items key → t < volume grid.lengths.items → HasGroup dims grid c t
has_group dims bounds grid c key t to named inside at below = record {
  below = below;
  there = ap (place_of grid) at ∙ coordinate_again grid.low.items grid.lengths.items key (to.held key inside) ∙ named;
}

pub next_group : (dims : List ℕ) (groups grid : Grid) (positions : List ℕ) (k : ℕ) (at : Coordinate) (t : ℕ) (old new : List ℕ) → k < length positions → at ≡ place_of grid (get_or positions k 0)
    → HaveGroups dims groups grid (take k positions) old → HasGroup dims groups at t → new ≡ old ++ t ∷ [] → HaveGroups dims groups grid (take (k + 1) positions) new
next_group dims groups grid positions k at t old new l e h is n =
    subst (λ (ps : List ℕ). HaveGroups dims groups grid ps new) (sym (take_more positions k 0 l))
    (subst (HaveGroups dims groups grid (take k positions ++ get_or positions k 0 ∷ [])) (sym n)
    (zip_push (λ p place. HasGroup dims groups (place_of grid p) place) (take k positions) old (get_or positions k 0) t h (subst (λ (c : Coordinate). HasGroup dims groups c t) e is)))

pub all_groups : (dims : List ℕ) (groups grid : Grid) (positions places : List ℕ) (k : ℕ) → length positions ≤ k → HaveGroups dims groups grid (take k positions) places → HaveGroups dims groups grid positions places
all_groups dims groups grid positions places k l h = subst (λ (ps : List ℕ). HaveGroups dims groups grid ps places) (take_all k positions l) h

pub groups_below : (dims : List ℕ) (groups grid : Grid) (positions places : List ℕ) (n : ℕ) → n ≡ volume groups.lengths.items → HaveGroups dims groups grid positions places → AllByRecursion (λ p. p < n) places
groups_below dims groups grid [] [] n e h = tt
groups_below dims groups grid [] (t ∷ places) n e h = absurd h
groups_below dims groups grid (p ∷ positions) [] n e h = absurd h
groups_below dims groups grid (p ∷ positions) (t ∷ places) n e h = (let l = h.0.below in omega (arith, l, e), groups_below dims groups grid positions places n e h.1)

pub as_many_groups : (dims : List ℕ) (groups grid : Grid) (positions places : List ℕ) → HaveGroups dims groups grid positions places → length places ≡ length positions
as_many_groups dims groups grid [] [] h = refl
as_many_groups dims groups grid [] (t ∷ places) h = absurd h
as_many_groups dims groups grid (p ∷ positions) [] h = absurd h
as_many_groups dims groups grid (p ∷ positions) (t ∷ places) h = ap suc (as_many_groups dims groups grid positions places h.1)

-- ---- places that are told apart

pub same_test : (grid : Grid) (p q : ℕ) → IsGrid grid → p < volume grid.lengths.items → q < volume grid.lengths.items → is_eq (row_major (place_of grid p) (place_of grid q)) ≡ (p == q)
same_test grid p q is l m = cases (p == q) refl
  where
    clash : (b : Bool) → (b ≡ true → ⊥) → b ≡ false
    clash true f = absurd (f refl)
    clash false f = refl

    itself : (n : ℕ) → (n == n) ≡ true
    itself n = grind arith

    cases : (b : Bool) → (p == q) ≡ b → is_eq (row_major (place_of grid p) (place_of grid q)) ≡ b
    cases true e = ap (λ (n : ℕ). is_eq (row_major (place_of grid p) (place_of grid n))) (sym (eqb-true p q e)) ∙ ap is_eq (same_coordinate (place_of grid p))
    cases false e = clash (is_eq (row_major (place_of grid p) (place_of grid q))) (λ f.
        let same : p ≡ q =
        sym (position_again grid.low.items grid.lengths.items p is.lengths is.each l)
        ∙ ap (position_in grid.low.items grid.lengths.items) (same_key (place_of grid p) (place_of grid q) f)
        ∙ position_again grid.low.items grid.lengths.items q is.lengths is.each m in
        let no : true ≡ false = sym (itself p) ∙ ap (λ (n : ℕ). p == n) same ∙ e in
        cc)
