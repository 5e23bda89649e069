use Rattle.chunk_workers.proofs.PieceLaws.{results_known_if}
use Rattle.chunk_workers.proofs.workers.over_pieces.Goals as goal

pub returns-clause-known : goal.returns-clause-known
returns-clause-known g c = λ f one. results_known_if (g.W.Work.gives c.args.work.now) c.args.pieces c.in_parts.result f one c.in_parts.ensures
