use Rattle.std.proofs.Common.{[], subst, sym}
use Rattle.std.specs.List.{AllZip}
use Rattle.logical_plan.specs.Redimension.{landed_at}
use Rattle.agg_states.specs.Stands.{StandsFor}
use Rattle.group_rows.specs.Inner.Places.{place_of}
use Rattle.redimension_exec.specs.Inner.Dense.{landed_there}
use Rattle.redimension_exec.proofs.GridGroups.{all_states_at, next_states_at}
use Rattle.redimension_exec.proofs.dense.groups.states_at.Goals as goal

pub loop-k-init : goal.loop-k-init
loop-k-init c = λ rows zip.
    subst (AllZip (λ g state. StandsFor g (landed_at (landed_there c.args.to.now c.args.targets.now rows) (place_of c.args.to.now c.args.place)) state) []) (sym c.in_ok-states.ensures) tt

pub loop-k-preserved : goal.loop-k-preserved
loop-k-preserved c = λ rows zip.
    next_states_at c.args.aggregates.now c.args.to.now (landed_there c.args.to.now c.args.targets.now rows) c.args.place c.args.columns.now c.loop-k.k c.index-columns-k.result c.in_ok-state_at.field-0 c.loop-k.states c.push.new.self
    c.requires.inside zip c.loop-k-test.true c.index-columns-k.is c.in_ok-state_at.ensures (c.loop-k.invariant rows zip) c.in_ok-push.ensures.ok

pub returns : goal.returns
returns c = λ rows zip.
    all_states_at c.args.aggregates.now c.args.to.now (landed_there c.args.to.now c.args.targets.now rows) c.args.place c.args.columns.now c.loop-k.k c.loop-k.states zip c.loop-k-test.false (c.loop-k.invariant rows zip)
