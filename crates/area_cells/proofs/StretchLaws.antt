-- Rows of a grid, number by number.
use Rattle.std.proofs.Common.{◌≡◌, ℕ, zero, suc, ◌+◌, ◌-◌, ◌*◌, ◌<◌, ◌≤◌, ℤ, pos, ◌≤ℤ◌, ◌<ℤ◌, ◌+ℤ◌, ◌-ℤ◌, Bool, true, false, ◌&&◌, List, [], ◌∷◌, length, get_or, refl, sym, ap, ◌∙◌, subst, arith}
use Rattle.std.specs.Prelude.{int_le, int_lt, unsigned_abs}
use Rattle.std.proofs.lemmas.Bool.{false≢true}
use Rattle.std.proofs.lemmas.Int.{ints}
use Rattle.array_rows.specs.Boxes.{is_between}
use Rattle.array_rows.specs.Rows.{Coordinate}
use Rattle.array_geom.specs.Geometry.{coordinate_in, position_in, volume}
use Rattle.array_geom.specs.Inner.Ranges.{AreLengths, is_in_grid}
use Rattle.array_geom.proofs.PlaceLaws.{above, coordinate_again, coordinate_in_grid, position_again, position_below}
use Rattle.array_geom.proofs.TestLaws.{and_both, and_parts, le_test, le_from_test, lt_test, lt_from_test}
use Rattle.cell_values.specs.declared.schema.Bounds.{Bounds}
use Rattle.array_geom.specs.declared.grid.Grid.{Grid}
use Rattle.array_geom.specs.Inner.Ranges.{IsGrid}
use Rattle.array_rows.specs.Boxes.{is_inside}
use Rattle.area_cells.specs.Inner.Stretches.{HasRoom, IsStretch, KeepsSide, in_both, onward, place_of}

none_further : (x : ℤ) → x +ℤ pos 0 ≡ x
none_further x = omega (arith, ints)

pub onward_none : (at : List ℤ) → onward 0 at ≡ at
onward_none [] = refl
onward_none (x ∷ []) = ap (λ (z : ℤ). z ∷ []) (none_further x)
onward_none (x ∷ y ∷ at) = ap (λ (zs : List ℤ). x ∷ zs) (onward_none (y ∷ at))

-- ---- in a grid

-- the last number of a coordinate in a grid
pub record InRow (low : List ℤ) (lengths : List ℕ) (at : List ℤ) (i : ℕ) : Type 0 where
  pub low_has : i < length low
  pub lengths_have : i < length lengths
  pub from : get_or low i (pos 0) ≤ℤ get_or at i (pos 0)
  pub upto : get_or at i (pos 0) <ℤ (get_or low i (pos 0) +ℤ pos (get_or lengths i 0))

pub last_in_grid : (low : List ℤ) (lengths : List ℕ) (at : List ℤ) (i : ℕ) → i < length at → is_in_grid low lengths at ≡ true → InRow low lengths at i
last_in_grid low lengths [] i l e = absurd (omega (arith, l))
last_in_grid [] [] (x ∷ at) i l e = absurd (false≢true e)
last_in_grid [] (n ∷ lengths) (x ∷ at) i l e = absurd (false≢true e)
last_in_grid (a ∷ low) [] (x ∷ at) i l e = absurd (false≢true e)
last_in_grid (a ∷ low) (n ∷ lengths) (x ∷ at) zero l e =
    let t = and_parts (int_le a x && int_lt x (a +ℤ pos n)) (is_in_grid low lengths at) e in
    let u = and_parts (int_le a x) (int_lt x (a +ℤ pos n)) t.0 in
    record { low_has = omega arith; lengths_have = omega arith; from = le_from_test a x u.0; upto = lt_from_test x (a +ℤ pos n) u.1 }
last_in_grid (a ∷ low) (n ∷ lengths) (x ∷ at) (suc i) l e =
    let t = and_parts (int_le a x && int_lt x (a +ℤ pos n)) (is_in_grid low lengths at) e in
    let more = last_in_grid low lengths at i (omega (arith, l)) t.1 in
    record { low_has = let h = more.low_has in omega (arith, h); lengths_have = let h = more.lengths_have in omega (arith, h); from = more.from; upto = more.upto }

pub on_in_grid : (low : List ℤ) (lengths : List ℕ) (at : List ℤ) (i d : ℕ) → i + 1 ≡ length at → is_in_grid low lengths at ≡ true
    → (get_or at i (pos 0) +ℤ pos d) <ℤ (get_or low i (pos 0) +ℤ pos (get_or lengths i 0)) → is_in_grid low lengths (onward d at) ≡ true
on_in_grid low lengths [] i d l e h = absurd (omega (arith, l))
on_in_grid [] [] (x ∷ at) i d l e h = absurd (false≢true e)
on_in_grid [] (n ∷ lengths) (x ∷ at) i d l e h = absurd (false≢true e)
on_in_grid (a ∷ low) [] (x ∷ at) i d l e h = absurd (false≢true e)
on_in_grid (a ∷ low) (n ∷ lengths) (x ∷ []) zero d l e h =
    let t = and_parts (int_le a x && int_lt x (a +ℤ pos n)) (is_in_grid low lengths []) e in
    let u = and_parts (int_le a x) (int_lt x (a +ℤ pos n)) t.0 in
    let from = le_from_test a x u.0 in
    and_both _ _ (and_both _ _ (le_test a (x +ℤ pos d) (omega (arith, ints, from))) (lt_test (x +ℤ pos d) (a +ℤ pos n) h)) t.1
on_in_grid (a ∷ low) (n ∷ lengths) (x ∷ []) (suc i) d l e h = absurd (omega (arith, l))
on_in_grid (a ∷ low) (n ∷ lengths) (x ∷ y ∷ at) zero d l e h = absurd (omega (arith, l))
on_in_grid (a ∷ low) (n ∷ lengths) (x ∷ y ∷ at) (suc i) d l e h =
    let t = and_parts (int_le a x && int_lt x (a +ℤ pos n)) (is_in_grid low lengths (y ∷ at)) e in
    and_both _ _ t.0 (on_in_grid low lengths (y ∷ at) i d (omega (arith, l)) t.1 h)

step_on : (m p q d : ℕ) → q ≡ p + d → m + q ≡ m + p + d
step_on m p q d e = omega (arith, e)

none_on : (p d : ℕ) → d ≡ 0 → p ≡ p + d
none_on p d e = omega (arith, e)

-- places in a row follow one another
pub on_position : (low : List ℤ) (lengths : List ℕ) (at : List ℤ) (d : ℕ) → is_in_grid low lengths at ≡ true → (length at ≡ 0 → d ≡ 0) → position_in low lengths (onward d at) ≡ position_in low lengths at + d
on_position [] [] [] d e n = none_on 0 d (n refl)
on_position (a ∷ low) [] [] d e n = absurd (false≢true e)
on_position (a ∷ low) (m ∷ lengths) [] d e n = absurd (false≢true e)
on_position [] (m ∷ lengths) [] d e n = absurd (false≢true e)
on_position [] [] (x ∷ at) d e n = absurd (false≢true e)
on_position [] (m ∷ lengths) (x ∷ at) d e n = absurd (false≢true e)
on_position (a ∷ low) [] (x ∷ at) d e n = absurd (false≢true e)
on_position (a ∷ []) (m ∷ []) (x ∷ []) d e n =
    let t = and_parts (int_le a x && int_lt x (a +ℤ pos m)) true e in
    let from = le_from_test a x (and_parts (int_le a x) (int_lt x (a +ℤ pos m)) t.0).0 in
    let here = above a x from in
    let there = above a (x +ℤ pos d) (omega (arith, ints, from)) in
    omega (arith, ints, here, there)
on_position (a ∷ []) (m ∷ k ∷ lengths) (x ∷ []) d e n = absurd (false≢true (and_parts (int_le a x && int_lt x (a +ℤ pos m)) false e).1)
on_position (a ∷ b ∷ low) (m ∷ []) (x ∷ []) d e n = absurd (false≢true (and_parts (int_le a x && int_lt x (a +ℤ pos m)) false e).1)
on_position (a ∷ b ∷ low) (m ∷ k ∷ lengths) (x ∷ []) d e n = absurd (false≢true (and_parts (int_le a x && int_lt x (a +ℤ pos m)) false e).1)
on_position (a ∷ low) (m ∷ lengths) (x ∷ y ∷ at) d e n =
    let t = and_parts (int_le a x && int_lt x (a +ℤ pos m)) (is_in_grid low lengths (y ∷ at)) e in
    step_on (unsigned_abs (x -ℤ a) * volume lengths) (position_in low lengths (y ∷ at)) (position_in low lengths (onward d (y ∷ at))) d (on_position low lengths (y ∷ at) d t.1 (λ z. absurd (omega (arith, z))))

-- ---- in a box

pub on_between : (lo hi at : List ℤ) (i d : ℕ) → i + 1 ≡ length at → length lo ≡ length at → length hi ≡ length at
    → (int_le (get_or lo i (pos 0)) (get_or at i (pos 0) +ℤ pos d) && int_le (get_or at i (pos 0) +ℤ pos d) (get_or hi i (pos 0))) ≡ (int_le (get_or lo i (pos 0)) (get_or at i (pos 0)) && int_le (get_or at i (pos 0)) (get_or hi i (pos 0)))
    → is_between lo hi (onward d at) ≡ is_between lo hi at
on_between lo hi [] i d l m n h = absurd (omega (arith, l))
on_between [] hi (x ∷ at) i d l m n h = absurd (omega (arith, m))
on_between (a ∷ lo) [] (x ∷ at) i d l m n h = absurd (omega (arith, n))
on_between (a ∷ lo) (b ∷ hi) (x ∷ []) zero d l m n h = ap (λ (t : Bool). t && is_between lo hi []) h
on_between (a ∷ lo) (b ∷ hi) (x ∷ []) (suc i) d l m n h = absurd (omega (arith, l))
on_between (a ∷ lo) (b ∷ hi) (x ∷ y ∷ at) zero d l m n h = absurd (omega (arith, l))
on_between (a ∷ lo) (b ∷ hi) (x ∷ y ∷ at) (suc i) d l m n h =
    ap (λ (t : Bool). int_le a x && int_le x b && t) (on_between lo hi (y ∷ at) i d (omega (arith, l)) (omega (arith, m)) (omega (arith, n)) h)

is_none : (d : ℕ) → d ≤ 0 → d ≡ 0
is_none d h = omega (arith, h)

pub no_steps : (lo hi at : List ℤ) → KeepsSide lo hi at 0
no_steps lo hi at d h = ap (λ (n : ℕ). is_between lo hi (onward n at)) (is_none d h) ∙ ap (is_between lo hi) (onward_none at)

pub no_room : (low : List ℤ) (lengths : List ℕ) (at : List ℤ) → is_in_grid low lengths at ≡ true → HasRoom low lengths at 0
no_room low lengths at e = (λ d h. ap (λ (n : ℕ). is_in_grid low lengths (onward n at)) (is_none d h) ∙ ap (is_in_grid low lengths) (onward_none at) ∙ e, λ z. refl)

-- ---- coordinates of places in a row

pub on_place : (low : List ℤ) (lengths : List ℕ) (p d : ℕ) → AreLengths lengths → length low ≡ length lengths → p < volume lengths → (length (coordinate_in low lengths p) ≡ 0 → d ≡ 0)
    → is_in_grid low lengths (onward d (coordinate_in low lengths p)) ≡ true → (p + d < volume lengths) × (coordinate_in low lengths (p + d) ≡ onward d (coordinate_in low lengths p))
on_place low lengths p d a e h n g =
    let at = coordinate_in low lengths p in
    let same : position_in low lengths (onward d at) ≡ p + d = on_position low lengths at d (coordinate_in_grid low lengths p a e h) n ∙ ap (λ (q : ℕ). q + d) (position_again low lengths p a e h) in
    (subst (λ (q : ℕ). q < volume lengths) same (position_below low lengths (onward d at) g), ap (coordinate_in low lengths) (sym same) ∙ coordinate_again low lengths (onward d at) g)

-- the same of a coordinate with a place
pub on_coordinate : (low : List ℤ) (lengths : List ℕ) (at : Coordinate) (d : ℕ) → is_in_grid low lengths at ≡ true → (length at ≡ 0 → d ≡ 0)
    → is_in_grid low lengths (onward d at) ≡ true → (position_in low lengths at + d < volume lengths) × (coordinate_in low lengths (position_in low lengths at + d) ≡ onward d at)
on_coordinate low lengths at d e n g =
    let same = on_position low lengths at d e n in
    (subst (λ (q : ℕ). q < volume lengths) same (position_below low lengths (onward d at) g), ap (coordinate_in low lengths) (sym same) ∙ coordinate_again low lengths (onward d at) g)

-- ---- what the functions find

room_there : (a x : ℤ) (n diff d : ℕ) → a ≤ℤ x → x <ℤ (a +ℤ pos n) → diff ≡ unsigned_abs (x -ℤ a) → d ≤ n - 1 - diff → (x +ℤ pos d) <ℤ (a +ℤ pos n)
room_there a x n diff d from upto e h =
    let here : a +ℤ pos diff ≡ x = ap (λ (m : ℕ). a +ℤ pos m) e ∙ above a x from in
    omega (arith, ints, from, upto, here, h)

pub diff_below : (low : List ℤ) (lengths : List ℕ) (at : List ℤ) (i diff : ℕ) → InRow low lengths at i → diff ≡ unsigned_abs (get_or at i (pos 0) -ℤ get_or low i (pos 0)) → diff ≤ get_or lengths i 0 - 1
diff_below low lengths at i diff r e =
    let here : get_or low i (pos 0) +ℤ pos diff ≡ get_or at i (pos 0) = ap (λ (m : ℕ). get_or low i (pos 0) +ℤ pos m) e ∙ above (get_or low i (pos 0)) (get_or at i (pos 0)) r.from in
    let upto = r.upto in
    omega (arith, ints, upto, here)

pub some_length : (low : List ℤ) (lengths : List ℕ) (at : List ℤ) (i : ℕ) → InRow low lengths at i → 1 ≤ get_or lengths i 0
some_length low lengths at i r =
    let from = r.from in
    let upto = r.upto in
    omega (arith, ints, from, upto)

pub room_is : (low : List ℤ) (lengths : List ℕ) (at : List ℤ) (i diff : ℕ) → i + 1 ≡ length at → is_in_grid low lengths at ≡ true → diff ≡ unsigned_abs (get_or at i (pos 0) -ℤ get_or low i (pos 0)) → HasRoom low lengths at (get_or lengths i 0 - 1 - diff)
room_is low lengths at i diff l e same =
    let r = last_in_grid low lengths at i (omega (arith, l)) e in (
      λ d h. on_in_grid low lengths at i d l e (room_there (get_or low i (pos 0)) (get_or at i (pos 0)) (get_or lengths i 0) diff d r.from r.upto same h),
      λ z. absurd (omega (arith, l, z)),
    )

pub same_grid : (low low' : List ℤ) (ns ns' : List ℕ) (c c' : List ℤ) → low ≡ low' → ns ≡ ns' → c ≡ c' → is_in_grid low' ns' c' ≡ true → is_in_grid low ns c ≡ true
same_grid low low' ns ns' c c' e f g t = (λ i. is_in_grid (e i) (f i) (g i)) ∙ t

pub same_room : (low low' : List ℤ) (ns ns' : List ℕ) (c c' : List ℤ) (n : ℕ) → low ≡ low' → ns ≡ ns' → c ≡ c' → HasRoom low ns c n → HasRoom low' ns' c' n
same_room low low' ns ns' c c' n e f g h =
    subst (λ (z : List ℤ). HasRoom z ns' c' n) e (subst (λ (z : List ℕ). HasRoom low z c' n) f (subst (λ (z : List ℤ). HasRoom low ns z n) g h))

pub same_sides : (lo lo' hi hi' c c' : List ℤ) (n : ℕ) → lo ≡ lo' → hi ≡ hi' → c ≡ c' → KeepsSide lo hi c n → KeepsSide lo' hi' c' n
same_sides lo lo' hi hi' c c' n e f g h =
    subst (λ (z : List ℤ). KeepsSide z hi' c' n) e (subst (λ (z : List ℤ). KeepsSide lo z c' n) f (subst (λ (z : List ℤ). KeepsSide lo hi z n) g h))

-- the place so far on from another
pub further_place : (source : Grid) (position room p : ℕ) → IsGrid source → position < volume source.lengths.items → HasRoom source.low.items source.lengths.items (place_of source position) room → position ≤ p → p - position ≤ room
    → (p < volume source.lengths.items) × (place_of source p ≡ onward (p - position) (place_of source position))
further_place source position room p grid inside has from upto =
    let low = source.low.items in
    let lengths = source.lengths.items in
    let d = p - position in
    let same : position + d ≡ p = omega (arith, from) in
    let there = on_place low lengths position d grid.lengths grid.each inside (λ z. let none = has.1 z in omega (arith, none, upto)) (has.0 d upto) in
    (subst (λ (q : ℕ). q < volume lengths) same there.0, ap (coordinate_in low lengths) (sym same) ∙ there.1)

pub last_fits : (source : Grid) (position room steps : ℕ) → IsGrid source → position < volume source.lengths.items → HasRoom source.low.items source.lengths.items (place_of source position) room → steps ≤ room → position + steps < volume source.lengths.items
last_fits source position room steps grid inside has h =
    (on_place source.low.items source.lengths.items position steps grid.lengths grid.each inside (λ z. let none = has.1 z in omega (arith, none, h)) (has.0 steps h)).0

pub stretch_is : (source target : Grid) (core area : Bounds) (position room in_core steps there : ℕ) (inside : Bool) → IsGrid source → IsGrid target
    → ((c : Coordinate) → is_inside area c ≡ true → is_in_grid target.low.items target.lengths.items c ≡ true) → position < volume source.lengths.items
    → HasRoom source.low.items source.lengths.items (place_of source position) room → in_core ≤ room → steps ≤ in_core
    → KeepsSide core.lo.items core.hi.items (place_of source position) in_core → KeepsSide area.lo.items area.hi.items (place_of source position) steps
    → in_both source core area position ≡ inside → (inside ≡ true → there ≡ position_in target.low.items target.lengths.items (place_of source position))
    → IsStretch source target core area (record { from = position; last = position + steps; inside = inside; there = there })
stretch_is source target core area position room in_core steps there inside grid other held below has le less in_cores in_area same at_there = record {
  sides = λ p from upto.
      let f = further p from upto in
      (λ i. is_inside core (f i) && is_inside area (f i))
      ∙ (λ i. in_cores (p - position) (omega (arith, from, upto, less)) i && in_area (p - position) (omega (arith, from, upto)) i)
      ∙ same;
  there_inside = λ is p from upto. (in_target is p from upto).0;
  there_same = λ is p from upto. (in_target is p from upto).1 ∙ sym (further p from upto);
}
  where
    at : Coordinate
    at = place_of source position

    further : (p : ℕ) → position ≤ p → p ≤ position + steps → place_of source p ≡ onward (p - position) at
    further p from upto = (further_place source position room p grid below has from (omega (arith, from, upto, less, le))).1

    in_target : inside ≡ true → (p : ℕ) → position ≤ p → p ≤ position + steps
        → (there + (p - position) < volume target.lengths.items) × (place_of target (there + (p - position)) ≡ onward (p - position) at)
    in_target is p from upto =
        let both = and_parts (is_inside core at) (is_inside area at) (same ∙ is) in
        let d = p - position in
        let far : d ≤ steps = omega (arith, from, upto) in
        let none : length at ≡ 0 → d ≡ 0 = λ z. let room_none = has.1 z in omega (arith, room_none, far, less, le) in
        let on = on_coordinate target.low.items target.lengths.items at d (held at both.1) none (held (onward d at) (in_area d far ∙ both.1)) in
        let here : position_in target.low.items target.lengths.items at + d ≡ there + d = ap (λ (q : ℕ). q + d) (sym (at_there is)) in
        (subst (λ (q : ℕ). q < volume target.lengths.items) here on.0, ap (coordinate_in target.low.items target.lengths.items) (sym here) ∙ on.1)

pub out_second : (a b : Bool) → b ≡ false → (a && b) ≡ false
out_second true b e = e
out_second false b e = refl
