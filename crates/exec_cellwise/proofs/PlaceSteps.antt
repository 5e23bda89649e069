-- Coordinates that a step in a row leads to.
use Rattle.std.proofs.Common.{◌≡◌, ℕ, zero, suc, ◌+◌, ◌-◌, ◌<◌, ◌≤◌, ℤ, pos, ◌+ℤ◌, ◌-ℤ◌, ◌<ℤ◌, ◌≤ℤ◌, List, [], ◌∷◌, ◌++◌, length, take, get_or, refl, sym, ap, ◌∙◌, subst, arith, true}
use Rattle.std.specs.Prelude.{unsigned_abs}
use Rattle.std.proofs.lemmas.Int.{ints}
use Rattle.array_geom.specs.Geometry.{coordinate_in, volume}
use Rattle.array_geom.specs.Inner.Ranges.{is_in_grid}
use Rattle.array_geom.specs.declared.grid.Grid.{Grid}
use Rattle.array_geom.specs.Inner.Ranges.{IsGrid}
use Rattle.array_geom.proofs.PlaceLaws.{above}
use Rattle.area_cells.specs.Inner.Stretches.{onward}
use Rattle.area_cells.proofs.StretchLaws.{last_in_grid, on_in_grid, on_place}
use Rattle.exec_cellwise.specs.Inner.Places.{IsLast}

-- a coordinate with its last number changed
last_is : (at : List ℤ) (i d : ℕ) → i + 1 ≡ length at → take i at ++ (get_or at i (pos 0) +ℤ pos d) ∷ [] ≡ onward d at
last_is [] i d e = absurd (omega (arith, e))
last_is (x ∷ []) zero d e = refl
last_is (x ∷ []) (suc i) d e = absurd (omega (arith, e))
last_is (x ∷ y ∷ at) zero d e = absurd (omega (arith, e))
last_is (x ∷ y ∷ at) (suc i) d e = ap (λ (zs : List ℤ). x ∷ zs) (last_is (y ∷ at) i d (omega (arith, e)))

below_end : (a x z : ℤ) (n d diff : ℕ) → a ≤ℤ x → z ≡ x +ℤ pos d → diff ≡ unsigned_abs (z -ℤ a) → diff < n → (x +ℤ pos d) <ℤ (a +ℤ pos n)
below_end a x z n d diff from is e h =
    let up : a ≤ℤ z = omega (arith, ints, from, is) in
    let here : a +ℤ pos diff ≡ z = ap (λ (m : ℕ). a +ℤ pos m) e ∙ above a z up in
    omega (arith, ints, is, here, h)

-- a number this far on, which is not past the end
pub number_last : (low : List ℤ) (lengths : List ℕ) (at : List ℤ) (i d diff : ℕ) (number : ℤ) → i + 1 ≡ length at → is_in_grid low lengths at ≡ true
    → number ≡ get_or at i (pos 0) +ℤ pos d → diff ≡ unsigned_abs (number -ℤ get_or low i (pos 0)) → diff < get_or lengths i 0 → IsLast low lengths at d number
number_last low lengths at i d diff number last e is away less =
    let row = last_in_grid low lengths at i (omega (arith, last)) e in
    let first : length at - 1 ≡ i = omega (arith, last) in
    record {
      some = omega (arith, last);
      number_is = ap (λ (n : ℕ). take n at ++ number ∷ []) first ∙ ap (λ (z : ℤ). take i at ++ z ∷ []) is ∙ last_is at i d last;
      inside = on_in_grid low lengths at i d last e (below_end (get_or low i (pos 0)) (get_or at i (pos 0)) number (get_or lengths i 0) d diff row.from is away less);
    }

some_steps : (n : ℕ) → 0 < n → (d : ℕ) → n ≡ 0 → d ≡ 0
some_steps n some d e = absurd (omega (arith, some, e))

-- the coordinate with that number is the one at the place
pub moved_on : (grid : Grid) (from place steps : ℕ) (lows : List ℤ) (sizes : List ℕ) (here old cut new : List ℤ) (number : ℤ) → IsGrid grid → from < volume grid.lengths.items → from ≤ place → steps ≡ place - from
    → lows ≡ grid.low.items → sizes ≡ grid.lengths.items → here ≡ old → old ≡ coordinate_in grid.low.items grid.lengths.items from
    → IsLast lows sizes here steps number → cut ≡ take (length old - 1) old → new ≡ cut ++ number ∷ [] → new ≡ coordinate_in grid.low.items grid.lengths.items place
moved_on grid from place steps lows sizes here old cut new number is inside less e l n same at found c p =
    let low = grid.low.items in
    let lengths = grid.lengths.items in
    let last : IsLast low lengths old steps number = subst (λ (zs : List ℤ). IsLast low lengths zs steps number) same (subst (λ (ns : List ℕ). IsLast low ns here steps number) n (subst (λ (zs : List ℤ). IsLast zs sizes here steps number) l found)) in
    let there : from + steps ≡ place = omega (arith, e, less) in
    let first = coordinate_in low lengths from in
    let on : is_in_grid low lengths (onward steps first) ≡ true = ap (λ (zs : List ℤ). is_in_grid low lengths (onward steps zs)) (sym at) ∙ last.inside in
    let some : 0 < length first = subst (λ (zs : List ℤ). 0 < length zs) at last.some in
    p ∙ ap (λ (zs : List ℤ). zs ++ number ∷ []) c ∙ last.number_is ∙ ap (onward steps) at
    ∙ sym (on_place low lengths from steps is.lengths is.each inside (some_steps (length first) some steps) on).1
    ∙ ap (coordinate_in low lengths) there
