use Rattle.std.proofs.Common.{◌∷◌, map, arith, rules, w64, pos, get_or, refl}
use Rattle.std.proofs.lemmas.Int.{to_z-of_z}
use mir.Val.{SFits}
use Rattle.array_geom.specs.Datum.TheVariants.{Int}
use Rattle.chunk_rle.specs.Longest.{value_runs}
use Rattle.chunk_rle.proofs.NumberRuns.{number_step, numbers_done}
use Rattle.chunk_rle.proofs.numbers.number_runs_from.Goals as goal

pub returns : goal.returns
returns c =
    let fits : SFits w64 c.args.first = search rules in
    numbers_done c.push.new.self c.loop-number.runs c.loop-number.run c.loop-number.number-index c.args.numbers.now (value_runs (Int c.args.first ∷ map Int c.args.numbers.now)) c.loop-number-test.false c.loop-number.invariant.there c.in_ok-push.ensures.ok (simp to_z-of_z at c.loop-number.invariant.same)

pub loop-number-preserved : goal.loop-number-preserved
loop-number-preserved c =
    let step = c.in_ok-run.ensures in
    let n = get_or c.args.numbers.now c.loop-number.number-index (pos 0) in
    let fits : SFits w64 n = search rules in
    record {
      same = number_step c.loop-number.runs c.take_number.new.runs c.loop-number.run c.in_ok-run.run' c.loop-number.number-index c.args.numbers.now n (pos 0)
          _ c.loop-number-test.true refl (λ rest. simp to_z-of_z at (step.same rest)) c.loop-number.invariant.same;
      there = step.length.0;
      few = omega (arith, step.length.1, c.loop-number.invariant.few);
    }
