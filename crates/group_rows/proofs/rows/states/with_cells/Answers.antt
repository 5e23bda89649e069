use Rattle.std.proofs.Common.{arith, List, ◌++◌, subst}
use Rattle.std.proofs.lemmas.List.{take_all}
use Rattle.cell_values.specs.declared.datum.Row.{Row}
use Rattle.agg_states.specs.Stands.{StandsFor}
use Rattle.group_rows.proofs.TakenLaws.{none_also, one_also}
use Rattle.group_rows.proofs.rows.states.with_cells.Goals as goal

pub loop-row-init : goal.loop-row-init
loop-row-init c = record { also = none_also c.args.aggregate.now c.args.rows.now c.args.state; cells = omega arith }

pub loop-row-preserved : goal.loop-row-preserved
loop-row-preserved c =
    let one = c.in_ok-take.ensures.cells in
    let before = c.loop-row.invariant.cells in
    record {
      also = one_also c.args.aggregate.now c.args.rows.now c.args.state c.loop-row.row-index c.row-item.result c.loop-row.state c.take.new.self
          c.loop-row-test.true c.row-item.is c.loop-row.invariant.also
          c.in_ok-take.ensures.stands;
      cells = omega (arith, one, before);
    }

pub returns-clause-stands : goal.returns-clause-stands
returns-clause-stands c =
    λ before stands rise.
    subst (λ (rows : List Row). StandsFor c.args.aggregate.now (before ++ rows) c.loop-row.state)
    (take_all c.loop-row.row-index c.args.rows.now c.loop-row-test.false) (c.loop-row.invariant.also before stands rise)
