use Rattle.std.proofs.Common.{map, arith}
use Rattle.redimension_exec.specs.Inner.Places.{origin}
use Rattle.redimension_exec.proofs.StateLaws.{taken_more, taken_breaks}
use Rattle.redimension_exec.proofs.landings.gathering.groups_from.Goals as goal

pub returns-in-Some-clause-groups : goal.returns-in-Some-clause-groups
returns-in-Some-clause-groups c =
    taken_breaks c.args.aggregates.now (map origin c.args.places.now) c.args.bounds.now c.requires.plain c.args.rows.now c.as_slice-row-items.result.now c.loop-row.row-index c.row-item.result
    c.as_slice-row-items.ensures c.loop-row-test.true c.row-item.is c.loop-row.groups c.take_next.new.groups _ c.in-Some.broken c.in-Some.is c.loop-row.invariant.taken c.in_ok-broken.ensures.taken

pub loop-row-preserved : goal.loop-row-preserved
loop-row-preserved c =
    let more = c.in_ok-broken.ensures.cells in
    let before = c.loop-row.invariant.cells in
    record {
      taken = taken_more c.args.aggregates.now (map origin c.args.places.now) c.args.bounds.now c.requires.plain c.args.rows.now c.as_slice-row-items.result.now c.loop-row.row-index c.row-item.result
          c.as_slice-row-items.ensures c.loop-row-test.true c.row-item.is c.loop-row.groups c.take_next.new.groups _ c.in_default.not-Some c.requires.rising c.loop-row.invariant.taken c.in_ok-broken.ensures.taken;
      cells = omega (arith, more, before);
    }
