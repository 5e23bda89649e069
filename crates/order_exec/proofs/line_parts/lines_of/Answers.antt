use Rattle.std.proofs.Common.{sym, ◌∙◌, subst}
use Rattle.array_rows.specs.Rows.{IsRising}
use Rattle.order_exec.proofs.ByChunkLaws.{one_rises}
use Rattle.order_exec.proofs.line_parts.lines_of.Goals as goal

pub groups_of-requires-clause-rising : goal.groups_of-requires-clause-rising
groups_of-requires-clause-rising c = subst IsRising (sym (c.as_slice-2.ensures ∙ c.in_ok-rows.ensures)) (one_rises c.args.schema.now c.args.margins.now.items c.args.chunk c.requires.cells)
