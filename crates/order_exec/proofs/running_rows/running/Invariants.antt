use Rattle.std.proofs.Common.{◌≡◌, ◌+◌, ◌≤◌, map, take}
use Rattle.group_rows.specs.Taken.{cells_kept}
use Rattle.order_exec.specs.Lines.{line_start}
use Rattle.order_exec.proofs.RunLaws.{RunSoFar}
use Rattle.order_exec.proofs.running_rows.running.Given as goal

abbrev pub invariant-loop-k : goal.invariant-loop-k
invariant-loop-k l = record {
  so_far : RunSoFar (line_start l.along.place l.along.low) l.along.aggs.now l.rows l.fn.lines l.k l.made l.lines;
  places : map (λ row. row.at) l.made ≡ map (λ row. row.at) (take l.k l.rows);
  cells : cells_kept l.lines.entries ≤ cells_kept l.fn.lines.entries + l.k;
}
