use Rattle.std.proofs.Common.{pos, get_or, refl, arith, rules}
use Rattle.std.proofs.lemmas.Int.{to_z-of_z}
use mir.Val.{SFits}
use mir.Syntax.{w64}
use Rattle.group_rows.proofs.PlaceLaws.{as_many_rows, number_also}
use Rattle.group_rows.proofs.TakenLaws.{all_also, none_also}
use Rattle.group_rows.proofs.places.states.with_numbers.Goals as goal

pub loop-place-init : goal.loop-place-init
loop-place-init c = record { also = λ g rows h. none_also g rows c.args.state; cells = omega arith }

pub loop-place-preserved : goal.loop-place-preserved
loop-place-preserved c =
    let fits : SFits w64 (get_or c.args.numbers.now c.loop-place.place (pos 0)) = search rules in
    let more = c.take_number.ensures.cells in
    let cells = c.loop-place.invariant.cells in
    record {
      also = number_also c.args.state c.args.numbers.now c.loop-place.place (get_or c.args.numbers.now c.loop-place.place (pos 0)) c.loop-place.state c.take_number.new.self c.loop-place-test.true refl
          c.loop-place.invariant.also (simp to_z-of_z at c.take_number.ensures.stands);
      cells = omega (arith, more, cells);
    }

pub returns-clause-stands : goal.returns-clause-stands
returns-clause-stands c = λ g before rows stands h rise.
    let over = c.loop-place-test.false in
    let same = as_many_rows g.attribute c.args.numbers.now rows h in
    all_also g rows c.args.state c.loop-place.place c.loop-place.state (omega (arith, over, same)) (c.loop-place.invariant.also g rows h) before stands rise
