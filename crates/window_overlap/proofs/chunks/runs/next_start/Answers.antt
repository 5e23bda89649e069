use Rattle.std.proofs.Common.{subst, sym}
use Rattle.std.proofs.lemmas.List.{take_rest}
use Rattle.array_rows.specs.Rows.{IsRising}
use Rattle.window_overlap.proofs.RunLaws.{rising_behind}
use Rattle.window_overlap.proofs.chunks.runs.next_start.Goals as goal

pub count_outside-requires-clause-rising : goal.count_outside-requires-clause-rising
count_outside-requires-clause-rising c = subst IsRising (sym (take_rest c.args.rows.now c.args.end)) (rising_behind c.args.rows.now c.args.end c.requires.rising)
