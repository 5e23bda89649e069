use Rattle.std.proofs.Common.{◌≡◌, ◌≤◌, ◌-◌, false, true, length, map, take, drop}
use Rattle.std.specs.List.{AllByRecursion}
use Rattle.std.specs.Ordering.{is_lt}
use Rattle.cell_values.specs.declared.datum.Datum.TheVariants.{Int}
use Rattle.logical_plan.specs.Groups.{datum_cmp}
use Rattle.order_exec.proofs.group_numbers.count_less.Given as goal

abbrev pub invariant-loop-start : goal.invariant-loop-start
invariant-loop-start l = record {
  order : l.start ≤ l.end;
  within : l.end ≤ length l.numbers;
  less : AllByRecursion (λ w. is_lt (datum_cmp w (Int l.number)) ≡ true) (take l.start (map Int l.numbers));
  others : AllByRecursion (λ w. is_lt (datum_cmp w (Int l.number)) ≡ false) (drop l.end (map Int l.numbers));
}

abbrev pub decreases-loop-start : goal.decreases-loop-start
decreases-loop-start l = l.end - l.start
