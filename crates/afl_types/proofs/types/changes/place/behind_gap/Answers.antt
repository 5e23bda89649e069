use Rattle.std.proofs.Common.{◌+◌, ap, ◌∙◌}
use Rattle.std.proofs.lemmas.List.{take_rest}
use Rattle.afl_lexer.specs.Scan.{gap_len}
use Rattle.afl_types.proofs.types.changes.place.behind_gap.Goals as goal

pub returns-then-at-text-clause-place : goal.returns-then-at-text-clause-place
returns-then-at-text-clause-place c = ap (λ n. c.args.at + n) (c.gap_end.ensures.len ∙ ap gap_len (take_rest c.args.text.now c.args.at))
