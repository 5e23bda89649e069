-- The bounds of a part by its exact lengths.
use Rattle.std.proofs.Common.{◌≡◌, ℕ, ℤ, pos, negsuc, ◌-◌, ◌^◌, ◌-ℤ◌, Bool, true, false, ◌&&◌, List, [], ◌∷◌, refl, sym, ap, ◌∙◌, arith}
use Rattle.std.specs.Prelude.{int_le, min, nat_le}
use Rattle.std.specs.Int.{int_max, int_min, w64, saturate_signed}
use Rattle.std.specs.List.{list_all}
use Rattle.std.proofs.lemmas.Bool.{and_parts, le-leb, leb-true}
use Rattle.cell_values.specs.declared.name.Span.{Span}
use Rattle.cell_values.specs.declared.schema.Dimension.{Dimension}
use Rattle.cell_values.specs.Schemas.{is_bound, bounds_in_order, bounds_in_range, greatest_bound}
use Rattle.schema_grammar.specs.declared.kinds.TypeKind.TheVariants.{EmptyBox, BoundsRange}
use Rattle.logical_plan.specs.PlanSchema.{schema_of, subarray_dimensions}
use Rattle.logical_plan.specs.Query.{Query, subarray}
use Rattle.check_rules.specs.Checked.{Checked, demand}
use Rattle.check_rules.specs.NewSchema.{of_new_schema}
use Rattle.check_cellwise.specs.Boxes.{by_parts}
use Rattle.check_cellwise.specs.Lengths.{lengths, by_lengths, PartsAreToldByLengths}

above : (n : ℕ) → nat_le (min n (2 ^ 63 - 1)) 4611686018427387903 ≡ nat_le n 4611686018427387903
above n = by_test (nat_le n 4611686018427387903) refl (nat_le (min n (2 ^ 63 - 1)) 4611686018427387903) refl
  where
    by_test : (b : Bool) → nat_le n 4611686018427387903 ≡ b → (t : Bool) → nat_le (min n (2 ^ 63 - 1)) 4611686018427387903 ≡ t → t ≡ b
    by_test true e true f = refl
    by_test false e false f = refl
    by_test true e false f = let h = leb-true n 4611686018427387903 e in let g = le-leb (min n (2 ^ 63 - 1)) 4611686018427387903 (omega (arith, h)) in cc
    by_test false e true f = let h = leb-true (min n (2 ^ 63 - 1)) 4611686018427387903 f in let g = le-leb n 4611686018427387903 (omega (arith, h)) in cc

order_one : (z : ℤ) → int_le (pos 0) (saturate_signed w64 z) ≡ int_le (pos 0) z
order_one (pos n) = le-leb 0 (min n (2 ^ 63 - 1)) (omega arith) ∙ sym (le-leb 0 n (omega arith))
order_one (negsuc n) = refl

range_one : (z : ℤ) → int_le (pos 0) z ≡ true → is_bound (saturate_signed w64 z) ≡ int_le z (pos greatest_bound)
range_one (pos n) e = above n
range_one (negsuc n) e = cc

order_is : (dims : List Dimension) (lo hi : List ℤ) → list_all bounds_in_order (subarray_dimensions dims lo hi) ≡ list_all (λ n. int_le (pos 0) n) (lengths dims lo hi)
order_is [] lo hi = refl
order_is (d ∷ dims) [] hi = refl
order_is (d ∷ dims) (l ∷ lo) [] = refl
order_is (d ∷ dims) (l ∷ lo) (h ∷ hi) =
    ap (λ b. b && list_all bounds_in_order (subarray_dimensions dims lo hi)) (order_one (int_min d.hi h -ℤ int_max d.lo l))
    ∙ ap (λ b. int_le (pos 0) (int_min d.hi h -ℤ int_max d.lo l) && b) (order_is dims lo hi)

range_is : (dims : List Dimension) (lo hi : List ℤ) → list_all (λ n. int_le (pos 0) n) (lengths dims lo hi) ≡ true
    → list_all bounds_in_range (subarray_dimensions dims lo hi) ≡ list_all (λ n. int_le n (pos greatest_bound)) (lengths dims lo hi)
range_is [] lo hi e = refl
range_is (d ∷ dims) [] hi e = refl
range_is (d ∷ dims) (l ∷ lo) [] e = refl
range_is (d ∷ dims) (l ∷ lo) (h ∷ hi) e =
    let p = and_parts (int_le (pos 0) (int_min d.hi h -ℤ int_max d.lo l)) (list_all (λ n. int_le (pos 0) n) (lengths dims lo hi)) e in
    ap (λ b. b && list_all bounds_in_range (subarray_dimensions dims lo hi)) (range_one (int_min d.hi h -ℤ int_max d.lo l) p.0)
    ∙ ap (λ b. int_le (int_min d.hi h -ℤ int_max d.lo l) (pos greatest_bound) && b) (range_is dims lo hi p.1)

told : (s : Span) (dims : List Dimension) (lo hi : List ℤ) (next : Checked Query) → by_parts s (subarray_dimensions dims lo hi) next ≡ by_lengths s (lengths dims lo hi) next
told s dims lo hi next =
    ap (λ b. demand b s EmptyBox (demand (list_all bounds_in_range (subarray_dimensions dims lo hi)) s BoundsRange next)) (order_is dims lo hi)
    ∙ by_order (list_all (λ n. int_le (pos 0) n) (lengths dims lo hi)) refl
  where
    by_order : (b : Bool) → list_all (λ n. int_le (pos 0) n) (lengths dims lo hi) ≡ b
        → demand b s EmptyBox (demand (list_all bounds_in_range (subarray_dimensions dims lo hi)) s BoundsRange next)
        ≡ demand b s EmptyBox (demand (list_all (λ n. int_le n (pos greatest_bound)) (lengths dims lo hi)) s BoundsRange next)
    by_order true e = ap (λ t. demand t s BoundsRange next) (range_is dims lo hi e)
    by_order false e = refl

pub parts_are_told_by_lengths : PartsAreToldByLengths
parts_are_told_by_lengths s source area = told s (schema_of source).dimensions area.lo.items area.hi.items (of_new_schema s (subarray source area))
