-- For which cells a state stands after a call.
use Rattle.std.proofs.Common.{◌≡◌, ℕ, suc, ◌+◌, ℤ, pos, ◌+ℤ◌, Bool, true, false, not, cond, List, ◌∷◌, length, None, sym, ap, ◌∙◌, subst, arith, length-append}
use Rattle.std.proofs.lemmas.Int.{ints}
use Rattle.cell_values.specs.declared.datum.Datum.{Datum}
use Rattle.cell_values.specs.declared.datum.Datum.TheVariants.{Null, Missing}
use Rattle.cell_values.specs.declared.datum.Row.{Row}
use Rattle.cell_values.specs.Nulls.{is_null}
use Rattle.array_rows.specs.Rows.{cell_at, put_row, put_all}
use Rattle.array_rows.proofs.RowSets.{IsRising-put_row, IsRising-put_all}
use Rattle.logical_plan.specs.declared.parts.Aggregate.{Aggregate}
use Rattle.logical_plan.specs.Groups.{attribute_of, number_of, sum_of}
use Rattle.agg_states.specs.Best.{IsBestFor}
use Rattle.agg_states.specs.Merged.{earlier, count_of, best_with, better}
use Rattle.agg_states.specs.Stands.{fault_at, values_in, StandsFor, AreApart}
use Rattle.agg_states.specs.Inner.Summary.{Summary}
use Rattle.agg_states.proofs.BestLaws.{best-reordered, best_with_stands, better_stands}
use Rattle.agg_states.proofs.FaultLaws.{fault-put_row, fault-put_all}
use Rattle.agg_states.proofs.Reorderings.{length-reordered, sum-reordered, sum-append}
use Rattle.agg_states.proofs.Unions.{put_row-reordered, put_all-reordered, values-put_row, values-put_all}

one_more : (n : ℕ) → n + 1 ≡ suc n
one_more n = omega arith

counted : (v : Datum) (vs : List Datum) (null : Bool) → length vs + cond null 0 1 ≡ length (cond (not null) (v ∷ vs) vs)
counted v vs true = omega arith
counted v vs false = one_more (length vs)

add_none : (n : ℤ) → n +ℤ pos 0 ≡ n
add_none n = omega (arith, ints)

add_turned : (m n : ℤ) → m +ℤ n ≡ n +ℤ m
add_turned m n = omega (arith, ints)

summed : (v : Datum) (vs : List Datum) → sum_of vs +ℤ number_of v ≡ sum_of (cond (not (is_null v)) (v ∷ vs) vs)
summed Null vs = add_none (sum_of vs)
summed (Missing code) vs = add_none (sum_of vs)
summed v vs = add_turned (sum_of vs) (number_of v)

pub take_stands : (g : Aggregate) (rows : List Row) (new : Row) (s t : Summary) → StandsFor g rows s → cell_at rows new.at.items ≡ None
    → t.function ≡ s.function → t.fault ≡ earlier (fault_at g new) s.fault → t.cells ≡ s.cells + 1
    → t.values ≡ s.values + count_of (attribute_of g.attribute new.cell) → t.total ≡ s.total +ℤ number_of (attribute_of g.attribute new.cell)
    → t.best ≡ best_with s.function (attribute_of g.attribute new.cell) s.best → StandsFor g (put_row new rows) t
take_stands g rows new s t stands empty function fault cells values total best = record {
  function = function ∙ stands.function;
  rising = IsRising-put_row new rows stands.rising;
  fault = fault ∙ ap (earlier (fault_at g new)) stands.fault ∙ sym (fault-put_row g new rows stands.rising empty);
  cells = cells ∙ ap (λ n. n + 1) stands.cells ∙ one_more (length rows) ∙ sym (length-reordered (put_row-reordered new rows empty));
  values =
      values ∙ ap (λ n. n + count_of (attribute_of g.attribute new.cell)) stands.values
      ∙ counted (attribute_of g.attribute new.cell) (values_in g rows) (is_null (attribute_of g.attribute new.cell))
      ∙ length-reordered (values-put_row g new rows empty);
  total =
      total ∙ ap (λ n. n +ℤ number_of (attribute_of g.attribute new.cell)) stands.total
      ∙ summed (attribute_of g.attribute new.cell) (values_in g rows)
      ∙ sum-reordered (values-put_row g new rows empty);
  best =
      subst (λ b. IsBestFor g.function b (values_in g (put_row new rows))) (sym (best ∙ ap (λ f. best_with f (attribute_of g.attribute new.cell) s.best) stands.function))
      (best-reordered g.function _ (values-put_row g new rows empty) (best_with_stands g.function (attribute_of g.attribute new.cell) s.best (values_in g rows) stands.best));
}

both_counts : {m n k l : ℕ} → m ≡ k → n ≡ l → m + n ≡ k + l
both_counts p q = λ i. p i + q i

both_totals : {m n k l : ℤ} → m ≡ k → n ≡ l → m +ℤ n ≡ k +ℤ l
both_totals p q = λ i. p i +ℤ q i

pub merge_stands : (g : Aggregate) (a b : List Row) (s t u : Summary) → StandsFor g a s → StandsFor g b t → AreApart a b
    → u.function ≡ s.function → u.fault ≡ earlier s.fault t.fault → u.cells ≡ s.cells + t.cells → u.values ≡ s.values + t.values → u.total ≡ s.total +ℤ t.total
    → u.best ≡ better s.function s.best t.best → StandsFor g (put_all a b) u
merge_stands g a b s t u left right apart function fault cells values total best = record {
  function = function ∙ left.function;
  rising = IsRising-put_all a b right.rising;
  fault = fault ∙ (λ i. earlier (left.fault i) (right.fault i)) ∙ sym (fault-put_all g a b left.rising right.rising apart);
  cells = cells ∙ both_counts left.cells right.cells ∙ sym (length-append a b) ∙ sym (length-reordered (put_all-reordered a b left.rising apart));
  values =
      values ∙ both_counts left.values right.values ∙ sym (length-append (values_in g a) (values_in g b))
      ∙ length-reordered (values-put_all g a b left.rising apart);
  total =
      total ∙ both_totals left.total right.total ∙ sym (sum-append (values_in g a) (values_in g b))
      ∙ sum-reordered (values-put_all g a b left.rising apart);
  best =
      subst (λ o. IsBestFor g.function o (values_in g (put_all a b))) (sym (best ∙ ap (λ f. better f s.best t.best) left.function))
      (best-reordered g.function _ (values-put_all g a b left.rising apart) (better_stands g.function s.best t.best (values_in g a) (values_in g b) left.best right.best));
}
