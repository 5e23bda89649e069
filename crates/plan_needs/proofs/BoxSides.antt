-- Sides of boxes, and the box of all sides.
use Rattle.std.proofs.Common.{◌≡◌, ℤ, List, [], ◌∷◌, map, length, refl, sym, ap, ◌∙◌, arith}
use Rattle.std.specs.Prelude.{IsTrue}
use Rattle.cell_values.specs.declared.schema.Bounds.{Bounds}
use Rattle.cell_values.specs.declared.schema.Schema.{Schema}
use Rattle.array_rows.specs.Boxes.{by_pairs, corners}
use Rattle.logical_plan.specs.Typing.{is_box_of}
use Rattle.plan_needs.specs.declared.stretch.Stretch.{Stretch}
use Rattle.plan_needs.specs.Sides.{Sides, sides_of, box_of, of_between}
use Rattle.plan_needs.specs.Stretches.{stretch, shared}
use Rattle.plan_needs.proofs.BoxLaws.{box_lengths, length-by_pairs}

pub between_length : (s : Schema) (sides : Sides) (area : Bounds) → length sides ≡ length s.dimensions → IsTrue (is_box_of s area) → length (of_between area sides) ≡ length s.dimensions
between_length s sides area e t =
    let l = box_lengths s area t in
    length-by_pairs shared sides (sides_of area) (length-by_pairs stretch area.lo.items area.hi.items (l.1 ∙ sym l.0) ∙ l.0 ∙ sym e) ∙ e

-- the box of all sides
low_sides : (lo hi : List ℤ) → length hi ≡ length lo → map (λ (s : Stretch). s.first) (by_pairs stretch lo hi) ≡ lo
low_sides [] hi e = refl
low_sides (l ∷ lo) [] e = absurd (omega arith)
low_sides (l ∷ lo) (h ∷ hi) e = ap (λ (zs : List ℤ). l ∷ zs) (low_sides lo hi (omega arith))

high_sides : (lo hi : List ℤ) → length hi ≡ length lo → map (λ (s : Stretch). s.last) (by_pairs stretch lo hi) ≡ hi
high_sides [] [] e = refl
high_sides [] (h ∷ hi) e = absurd (omega arith)
high_sides (l ∷ lo) [] e = absurd (omega arith)
high_sides (l ∷ lo) (h ∷ hi) e = ap (λ (zs : List ℤ). h ∷ zs) (high_sides lo hi (omega arith))

pub box_of_sides : (area : Bounds) → length area.hi.items ≡ length area.lo.items → box_of (sides_of area) ≡ area
box_of_sides area e = λ i. corners (low_sides area.lo.items area.hi.items e i) (high_sides area.lo.items area.hi.items e i)
