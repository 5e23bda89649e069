-- The order of values is a total one.
use Rattle.std.proofs.Common.{◌≡◌, ℕ, zero, suc, ◌+◌, Bool, true, false, List, [], refl, sym, ap, ◌∙◌, arith}
use Rattle.std.proofs.lemmas.Bool.{false≢true}
use Rattle.std.proofs.lemmas.Cmp.{nat_cmp_total, nat_list_cmp_total, int_cmp_total, on_total, then_total}
use Rattle.std.specs.Cmp.{IsTotalOrder, bool_cmp_total}
use Rattle.std.specs.Cmp.Lexicographic.{slice_cmp}
use Rattle.std.specs.FinMap.{int_cmp-IsAntisymmetric, nat_cmp-IsAntisymmetric, slice_cmp-IsAntisymmetric}
use Rattle.std.specs.Ordering.{nat_cmp, int_cmp, bool_cmp, on, is_eq, then_cmp, ordering_then, ordering_reverse}
use Rattle.std.specs.declared.cmp.Ordering.{Ordering}
use Rattle.std.specs.declared.cmp.Ordering.TheVariants.{Less, Equal, Greater}
use Rattle.cell_values.specs.declared.datum.Datum.{Datum}
use Rattle.cell_values.specs.declared.datum.Datum.TheVariants.{Null, Missing, Int, Text, Truth, Bad}
use Rattle.cell_values.specs.declared.datum.FaultKind.{FaultKind}
use Rattle.cell_values.specs.declared.datum.FaultKind.TheVariants.{Overflow, DivideByZero, OutOfBounds, Collision, NullInNotNull}
use Rattle.logical_plan.specs.Groups.{sort_place, kind_place, code_place, datum_cmp, number_of}
use Rattle.logical_plan.specs.Laws.{ValuesAreOrdered}

text_of : Datum → List ℕ
text_of (Text s) = s
text_of v = []

truth_of : Datum → Bool
truth_of (Truth b) = b
truth_of v = false

-- one comparison after the other, each a total order
by_parts : Datum → Datum → Ordering
by_parts = then_cmp (on sort_place nat_cmp) (then_cmp (on code_place nat_cmp) (then_cmp (on number_of int_cmp) (then_cmp (on text_of (slice_cmp nat_cmp)) (on truth_of bool_cmp))))

parts_total : IsTotalOrder by_parts
unfolding by_parts
parts_total =
    then_total (on_total sort_place nat_cmp_total)
    (then_total (on_total code_place nat_cmp_total)
    (then_total (on_total number_of int_cmp_total) (then_total (on_total text_of nat_list_cmp_total) (on_total truth_of bool_cmp_total))))

then_equal : (o : Ordering) → o ≡ ordering_then o Equal
then_equal Less = refl
then_equal Equal = refl
then_equal Greater = refl

same : (v w : Datum) → datum_cmp v w ≡ by_parts v w
unfolding by_parts text_of truth_of
same (Int x) (Int y) = then_equal (int_cmp x y)
same (Text s) (Text t) = then_equal (slice_cmp nat_cmp s t)
same (Truth a) (Truth b) = refl
same Null Null = refl
same Null (Missing d) = then_equal (nat_cmp 0 (d + 1))
same (Missing c) Null = then_equal (nat_cmp (c + 1) 0)
same (Missing c) (Missing d) = then_equal (nat_cmp (c + 1) (d + 1))
same (Bad k) (Bad l) = then_equal (nat_cmp (kind_place k) (kind_place l))
same v w = refl

total : IsTotalOrder datum_cmp
total = record {
  antisymm = λ v w. same v w ∙ parts_total.antisymm v w ∙ ap ordering_reverse (sym (same w v));
  trans = λ u v w p q. same u w ∙ parts_total.trans u v w (sym (same u v) ∙ p) (sym (same v w) ∙ q);
  congr = λ u v w p. same u w ∙ parts_total.congr u v w (sym (same u v) ∙ p) ∙ sym (same v w);
}

kind_at : ℕ → FaultKind
kind_at zero = Overflow
kind_at (suc zero) = DivideByZero
kind_at (suc (suc zero)) = OutOfBounds
kind_at (suc (suc (suc zero))) = Collision
kind_at n = NullInNotNull

kind_back : (k : FaultKind) → kind_at (kind_place k) ≡ k
unfolding kind_at
kind_back Overflow = refl
kind_back DivideByZero = refl
kind_back OutOfBounds = refl
kind_back Collision = refl
kind_back NullInNotNull = refl

same_kind : (k l : FaultKind) → nat_cmp (kind_place k) (kind_place l) ≡ Equal → k ≡ l
same_kind k l e = sym (kind_back k) ∙ ap kind_at (nat_cmp-IsAntisymmetric (kind_place k) (kind_place l) e) ∙ kind_back l

same_truth : (a b : Bool) → bool_cmp a b ≡ Equal → a ≡ b
same_truth true true e = refl
same_truth false false e = refl
same_truth a b e = cc

not_equal : (o : Ordering) → is_eq o ≡ false → o ≡ Equal → ⊥
not_equal o d e = false≢true (sym d ∙ ap is_eq e)

exact : (v w : Datum) → datum_cmp v w ≡ Equal → v ≡ w
exact (Int x) (Int y) e = ap Int (int_cmp-IsAntisymmetric x y e)
exact (Text s) (Text t) e = ap Text (slice_cmp-IsAntisymmetric nat_cmp-IsAntisymmetric s t e)
exact (Truth a) (Truth b) e = ap Truth (same_truth a b e)
exact Null Null e = refl
exact Null (Missing d) e = let f : 0 ≡ d + 1 = nat_cmp-IsAntisymmetric 0 (d + 1) e in absurd (omega (arith, f))
exact (Missing c) Null e = let f : c + 1 ≡ 0 = nat_cmp-IsAntisymmetric (c + 1) 0 e in absurd (omega (arith, f))
exact (Missing c) (Missing d) e = let f : c + 1 ≡ d + 1 = nat_cmp-IsAntisymmetric (c + 1) (d + 1) e in ap Missing (omega (arith, f))
exact (Bad k) (Bad l) e = ap Bad (same_kind k l e)
exact v w e = absurd (not_equal (datum_cmp v w) refl e)

pub values_are_ordered : ValuesAreOrdered
values_are_ordered = (total, exact)
