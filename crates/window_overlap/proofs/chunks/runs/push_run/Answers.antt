use Rattle.window_overlap.proofs.RunLaws.{pushed}
use Rattle.window_overlap.proofs.chunks.runs.push_run.Goals as goal

pub returns-in_ok-push-clause-rows : goal.returns-in_ok-push-clause-rows
returns-in_ok-push-clause-rows c = λ rows. pushed rows c.args.runs.now c.push.new.self c.args.start c.args.end c.in_ok-push.ensures.ok
