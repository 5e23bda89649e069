use Rattle.std.proofs.Common.{IfOk}
use Rattle.std.specs.List.{AllZip}
use Rattle.chunk_workers.proofs.PieceLaws.{zip_of_jobs}
use Rattle.chunk_workers.proofs.workers.worked.Goals as goal

pub returns : goal.returns
returns g c =
    zip_of_jobs _ _ c.args.runs.items c.map_vec.result (λ parts. parts.items) (λ parts. parts.len) c.args.runs.len
    (λ run part. IfOk part (AllZip (g.W.Work.gives c.args.work.now) run.pieces)) (λ parts. parts.ok.0) c.args.runs.ok.0 (λ run part said. said.met)
    c.map_vec.ensures.len c.map_vec.ensures.each
