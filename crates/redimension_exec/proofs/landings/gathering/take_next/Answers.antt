use Rattle.std.proofs.Common.{map, sym, arith}
use Rattle.redimension_exec.specs.Inner.Places.{origin}
use Rattle.redimension_exec.proofs.LandingsGatherLaws.{next_outside, next_taken}
use Rattle.redimension_exec.proofs.StateLaws.{landed_taken}
use Rattle.redimension_exec.proofs.landings.gathering.take_next.Goals as goal

pub returns-then-not-is_in_box-clause-taken : goal.returns-then-not-is_in_box-clause-taken
returns-then-not-is_in_box-clause-taken c =
    next_outside (map origin c.args.places.now) c.args.bounds.now c.requires.plain c.args.aggregates.now c.args.row.now c.args.groups.now c.args.groups.now c.in-Ok-Some.at c.broken_at-then-not-is_in_box.result
    (rw c.in-Ok-Some.field-0-is at c.in-Ok-Some.ensures) (sym c.if-not-is_in_box.ensures) c.broken_at-then-not-is_in_box.ensures

pub returns-in_ok-take_rows-in-Ok-Some-clause-taken : goal.returns-in_ok-take_rows-in-Ok-Some-clause-taken
returns-in_ok-take_rows-in-Ok-Some-clause-taken c =
    next_taken (map origin c.args.places.now) c.args.bounds.now c.requires.plain c.args.aggregates.now c.args.row.now c.args.groups.now c.take_rows.new.groups c.in-Ok-Some.at
    (rw c.in-Ok-Some.field-0-is at c.in-Ok-Some.ensures) (sym c.if-not-is_in_box.ensures)
    (landed_taken c.args.aggregates.now c.in-Ok-Some.at c.args.row.now c.from_ref.result.now c.args.groups.now c.take_rows.new.groups c.from_ref.ensures.value c.in_ok-take_rows-in-Ok-Some.ensures.states)

pub returns-in_ok-take_rows-in-Ok-Some-clause-cells : goal.returns-in_ok-take_rows-in-Ok-Some-clause-cells
returns-in_ok-take_rows-in-Ok-Some-clause-cells c =
    let cells = c.in_ok-take_rows-in-Ok-Some.ensures.cells in
    let one = c.from_ref.ensures.len in
    omega (arith, cells, one)
