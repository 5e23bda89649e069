use Rattle.std.proofs.Common.{ℕ, ◌+◌, Bool, nat_lt, sym, ap, ◌∙◌, arith}
use Rattle.std.specs.List.{count_by}
use Rattle.std.proofs.lemmas.Bool.{lt-ltb, le-ltb}
use Rattle.std.proofs.lemmas.List.{take_all}
use Rattle.std.proofs.lemmas.List.Sums.{count_by_more_yes, count_by_more_no}
use Rattle.version_catalog.proofs.changing.arrays.count_below.Goals as goal
use Rattle.version_catalog.proofs.changing.arrays.count_below.Goals.{then-number-below, else-number-below}

pub loop-number-preserved : goal.loop-number-preserved
loop-number-preserved c =
    let l = c.loop-number in
    let numbers = c.as_slice-number-items.result.now in
    let test : ℕ → Bool = λ number. nat_lt number c.args.below in
    let low = c.loop-number-test.true in
    elim c.if-number-below.branch [
      | then-number-below w ↦ record {
        counted = w.count-is ∙ ap (λ n. n + 1) l.invariant.counted ∙ sym (count_by_more_yes test numbers l.number-index 0 low (lt-ltb _ _ w.if-number-below.true));
        within = omega (arith, w.count-is, l.invariant.within);
      }
      | else-number-below w ↦ record {
        counted = w.count-is ∙ l.invariant.counted ∙ sym (count_by_more_no test numbers l.number-index 0 low (le-ltb _ _ w.if-number-below.false));
        within = omega (arith, w.count-is, l.invariant.within);
      }
    ]

pub returns : goal.returns
returns c =
    c.loop-number.invariant.counted
    ∙ ap (count_by (λ number. nat_lt number c.args.below))
    (take_all c.loop-number.number-index c.as_slice-number-items.result.now c.loop-number-test.false ∙ c.as_slice-number-items.ensures)
