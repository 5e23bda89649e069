use Rattle.std.proofs.Common.{◌≡◌, [], ◌∷◌, ◌++◌, rules}
use Rattle.chunk_rle.proofs.Steps.{one_number}
use Rattle.chunk_rle.proofs.columns.push_run.Goals as goal

pub loop-preserved : goal.loop-preserved
loop-preserved c =
    let pushed : c.push.new.self ≡ c.loop.numbers ++ c.args.run.number ∷ [] = search rules in
    one_number c.args.numbers.now c.loop.numbers c.push.new.self c.loop.counter c.args.run.number c.loop.invariant pushed
