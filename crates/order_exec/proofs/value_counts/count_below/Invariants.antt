use Rattle.std.proofs.Common.{◌≡◌, ◌≤◌, ◌-◌, false, true, length, take, drop}
use Rattle.std.specs.List.{AllByRecursion}
use Rattle.std.specs.Ordering.{is_lt}
use Rattle.logical_plan.specs.Groups.{datum_cmp}
use Rattle.order_exec.proofs.value_counts.count_below.Given as goal

abbrev pub invariant-loop-start : goal.invariant-loop-start
invariant-loop-start l = record {
  order : l.start ≤ l.end;
  within : l.end ≤ length l.values;
  less : AllByRecursion (λ w. is_lt (datum_cmp w l.value) ≡ true) (take l.start l.values);
  others : AllByRecursion (λ w. is_lt (datum_cmp w l.value) ≡ false) (drop l.end l.values);
}

abbrev pub decreases-loop-start : goal.decreases-loop-start
decreases-loop-start l = l.end - l.start
