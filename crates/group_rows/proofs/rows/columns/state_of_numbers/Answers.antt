use Rattle.std.proofs.Common.{pos, false, get_or, refl, arith, rules}
use Rattle.std.proofs.lemmas.Int.{to_z-of_z}
use mir.Val.{SFits}
use mir.Syntax.{w64}
use Rattle.group_rows.proofs.ColumnLaws.{number_next, numbers_done}
use Rattle.group_rows.proofs.rows.columns.state_of_numbers.Goals as goal

pub loop-place-init : goal.loop-place-init
loop-place-init c =
    let none = c.empty-state.ensures.cells in
    record { stands = λ area rows r h m. c.empty-state.ensures.stands c.args.aggregate.now refl; cells = omega (arith, none) }

pub loop-place-preserved : goal.loop-place-preserved
loop-place-preserved c =
    let fits : SFits w64 (get_or c.args.numbers.now c.loop-place.place (pos 0)) = search rules in
    let more = c.take_if.ensures.cells in
    let cells = c.loop-place.invariant.cells in
    record {
      stands = number_next c.args.aggregate.now c.args.numbers.now c.args.inside.now c.loop-place.place (get_or c.args.numbers.now c.loop-place.place (pos 0)) (get_or c.args.inside.now c.loop-place.place false)
          c.loop-place.state c.take_if.new.state c.loop-place-test.true refl refl c.loop-place.invariant.stands (simp to_z-of_z at c.take_if.ensures.stands) c.take_if.ensures.same;
      cells = omega (arith, more, cells);
    }

pub returns : goal.returns
returns c = λ cells h. numbers_done c.args.aggregate.now c.args.numbers.now c.args.inside.now c.loop-place.place cells c.loop-place.state c.loop-place-test.false h c.loop-place.invariant.stands
