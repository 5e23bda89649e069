use Rattle.std.proofs.Common.{◌≡◌, ◌<◌, ℕ, ◌+◌, ◌-◌, ◌/◌, ◌∙◌, pos, length, map, get_or, drop, false, sym, subst, arith, rules}
use Rattle.std.specs.List.{AllByRecursion}
use Rattle.std.specs.Ordering.{is_lt}
use Rattle.cell_values.specs.declared.datum.Datum.TheVariants.{Int}
use Rattle.logical_plan.specs.Groups.{datum_cmp}
use Rattle.order_exec.proofs.GroupNumberLaws.{less_counted, less_upto, none_left, none_less_from}
use Rattle.order_exec.proofs.group_numbers.count_less.Goals as goal

pub loop-start-init : goal.loop-start-init
loop-start-init c = record { order = omega arith; within = omega arith; less = tt; others = none_left c.args.numbers.now c.args.number.now }

pub loop-start-preserved-then-numbers-middle : goal.loop-start-preserved-then-numbers-middle
loop-start-preserved-then-numbers-middle c =
    let middle : ℕ = c.loop-start.start + (c.loop-start.end - c.loop-start.start) / 2 in
    record {
      order = omega arith;
      within = c.loop-start.invariant.within;
      less = less_upto c.args.numbers.now c.args.number.now middle c.requires (omega arith) (search rules);
      others = c.loop-start.invariant.others;
    }

pub loop-start-preserved : goal.loop-start-preserved
loop-start-preserved c =
    let middle : ℕ = c.loop-start.start + (c.loop-start.end - c.loop-start.start) / 2 in
    record {
      order = omega arith;
      within = omega arith;
      less = c.loop-start.invariant.less;
      others = none_less_from c.args.numbers.now c.args.number.now middle c.requires (omega arith) (search rules);
    }

pub returns : goal.returns
returns c =
    let same : c.loop-start.end ≡ c.loop-start.start = omega arith in
    less_counted c.args.numbers.now c.args.number.now c.loop-start.start (omega arith) c.loop-start.invariant.less
    (subst (λ (n : ℕ). AllByRecursion (λ w. is_lt (datum_cmp w (Int c.args.number.now)) ≡ false) (drop n (map Int c.args.numbers.now))) same c.loop-start.invariant.others)
