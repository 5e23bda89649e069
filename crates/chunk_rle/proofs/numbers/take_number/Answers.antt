use Rattle.std.proofs.Common.{sym, ◌∙◌, map, rules, w64}
use Rattle.std.proofs.lemmas.Int.{to_z-of_z}
use mir.Val.{SFits}
use Rattle.chunk_rle.specs.Inner.Valued.{as_run}
use Rattle.chunk_rle.proofs.NumberRuns.{number_begins, number_joins}
use Rattle.chunk_rle.proofs.numbers.take_number.Goals as goal

pub returns-then-is_same_number-clause-same : goal.returns-then-is_same_number-clause-same
returns-then-is_same_number-clause-same c =
    let one : SFits w64 c.args.run.number = search rules in
    let two : SFits w64 c.args.number = search rules in
    λ rest. simp to_z-of_z (number_joins (map as_run c.args.runs.now) c.args.run.length c.args.run.number c.args.number rest (sym (simp to_z-of_z at c.is_same_number.ensures) ∙ c.if-is_same_number.true))

pub returns-clause-same : goal.returns-clause-same
returns-clause-same c =
    let one : SFits w64 c.args.run.number = search rules in
    let two : SFits w64 c.args.number = search rules in
    λ rest. simp to_z-of_z (number_begins c.push.new.self c.args.runs.now c.args.run c.args.number rest c.requires.0 (sym (simp to_z-of_z at c.is_same_number.ensures) ∙ c.if-is_same_number.false) c.in_ok-push.ensures.ok)
