use Rattle.std.proofs.Common.{arith}
use Rattle.redimension_exec.proofs.GridGroups.{all_groups, all_places, few_cells, none_yet}
use Rattle.redimension_exec.proofs.dense.groups.groups_of_columns.Goals as goal

pub loop-place-init : goal.loop-place-init
loop-place-init c = record {
  within = omega arith;
  groups = λ rows rise many zip. none_yet c.args.aggregates.now c.args.to.now c.args.targets.now rows c.new-groups.result c.new-groups.ensures;
}

pub loop-place-preserved : goal.loop-place-preserved
loop-place-preserved c =
    let less = c.loop-place-test.true in
    let same = c.volume-count.ensures in
    record {
      within = omega (arith, less, same);
      groups = λ rows rise many zip. c.in_ok-push_group.ensures rows rise many zip (c.loop-place.invariant.groups rows rise many zip);
    }

pub returns-clause-groups : goal.returns-clause-groups
returns-clause-groups c = λ rows rise many zip.
    all_groups c.args.aggregates.now c.args.to.now c.args.targets.now rows c.loop-place.place c.loop-place.groups c.requires.grid c.requires.below
    (all_places c.args.to.now c.volume-count.result c.loop-place.place c.volume-count.ensures c.loop-place-test.false c.loop-place.invariant.within) (c.loop-place.invariant.groups rows rise many zip)

pub returns-clause-cells : goal.returns-clause-cells
returns-clause-cells c = λ rows rise many zip.
    few_cells c.args.aggregates.now c.args.to.now c.args.targets.now rows c.loop-place.place c.loop-place.groups c.requires.grid c.requires.below
    (all_places c.args.to.now c.volume-count.result c.loop-place.place c.volume-count.ensures c.loop-place-test.false c.loop-place.invariant.within) (c.loop-place.invariant.groups rows rise many zip) many
