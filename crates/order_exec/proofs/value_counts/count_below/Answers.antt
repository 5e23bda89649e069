use Rattle.std.proofs.Common.{◌≡◌, ℕ, ◌+◌, ◌-◌, ◌/◌, ◌∙◌, drop, false, sym, subst, arith}
use Rattle.std.specs.List.{AllByRecursion}
use Rattle.std.specs.Ordering.{is_lt}
use Rattle.logical_plan.specs.Groups.{datum_cmp}
use Rattle.order_exec.proofs.RankLaws.{all_upto, counted_below, not_from}
use Rattle.order_exec.proofs.value_counts.count_below.Goals as goal

pub loop-start-preserved-then-comes_before : goal.loop-start-preserved-then-comes_before
loop-start-preserved-then-comes_before c = record {
  order = omega arith;
  within = c.loop-start.invariant.within;
  less = all_upto c.args.value.now c.index-values-middle.result c.args.values.now (c.loop-start.start + (c.loop-start.end - c.loop-start.start) / 2) c.requires (omega arith) c.index-values-middle.is (sym c.comes_before.ensures ∙ c.if-comes_before.true);
  others = c.loop-start.invariant.others;
}

pub loop-start-preserved : goal.loop-start-preserved
loop-start-preserved c = record {
  order = omega arith;
  within = omega arith;
  less = c.loop-start.invariant.less;
  others = not_from c.args.value.now c.index-values-middle.result c.args.values.now (c.loop-start.start + (c.loop-start.end - c.loop-start.start) / 2) c.requires (omega arith) c.index-values-middle.is (sym c.comes_before.ensures ∙ c.if-comes_before.false);
}

pub returns : goal.returns
returns c =
    let same : c.loop-start.end ≡ c.loop-start.start = omega arith in
    counted_below c.args.value.now c.args.values.now c.loop-start.start (omega arith) c.loop-start.invariant.less
    (subst (λ (n : ℕ). AllByRecursion (λ w. is_lt (datum_cmp w c.args.value.now) ≡ false) (drop n c.args.values.now)) same c.loop-start.invariant.others)
