use Rattle.chunk_workers.proofs.PieceLaws.{all_made, runs_accepted}
use Rattle.chunk_workers.proofs.workers.in_parts.Goals as goal

pub worked-requires-after_bounds : goal.worked-requires-after_bounds
worked-requires-after_bounds g c κs within =
    runs_accepted c.in_ok-runs.runs.items (λ run. run.pieces) (g.W.Work.accepts c.args.work.now) c.args.pieces c.in_ok-runs.ensures c.requires

pub returns : goal.returns
returns g c =
    all_made c.in_ok-runs.runs.items (λ run. run.pieces) (g.W.Work.gives c.args.work.now) c.args.pieces c.in_ok-parts.parts.items c.all_joined.result c.in_ok-runs.ensures
    c.in_ok-parts.ensures c.all_joined.ensures
