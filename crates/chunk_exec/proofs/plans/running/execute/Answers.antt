use Rattle.chunk_exec.proofs.ComputedLaws.{front_none}
use Rattle.chunk_exec.proofs.ExecutedLaws.{asked_if, can_settled, cells_if, front_if, means_if, schema_if, sound_if}
use Rattle.chunk_exec.proofs.plans.running.execute.Goals as goal

pub run-answer-requires-clause-can : goal.run-answer-requires-clause-can
run-answer-requires-clause-can g c κs lives = can_settled c.args.plan.now c.in_ok-settled.settled c.in_ok-settled.ensures (g.S.ChunkSource.state c.args.source.now) c.requires.can

pub returns-clause-schema : goal.returns-clause-schema
returns-clause-schema g c =
    schema_if c.args.plan.now c.in_ok-settled.settled c.in_ok-settled.ensures c.run-answer.result (g.S.ChunkSource.state c.args.source.now) (g.S.ChunkSource.state c.run-answer.new.source) c.run-answer.ensures.computed

pub returns-clause-sound : goal.returns-clause-sound
returns-clause-sound g c = sound_if c.run-answer.result _ _ _ _ c.run-answer.ensures.computed

pub returns-clause-cells : goal.returns-clause-cells
returns-clause-cells g c = cells_if c.run-answer.result _ _ _ _ c.run-answer.ensures.computed

pub returns-clause-means : goal.returns-clause-means
returns-clause-means g c =
    means_if c.args.plan.now c.in_ok-settled.settled c.in_ok-settled.ensures c.run-answer.result (g.S.ChunkSource.state c.args.source.now) (g.S.ChunkSource.state c.run-answer.new.source) c.run-answer.ensures.computed

pub returns-clause-asked : goal.returns-clause-asked
returns-clause-asked g c =
    asked_if c.args.plan.now c.in_ok-settled.settled c.in_ok-settled.ensures c.run-answer.result (g.S.ChunkSource.state c.args.source.now) (g.S.ChunkSource.state c.run-answer.new.source) c.run-answer.ensures.computed

pub returns-clause-front : goal.returns-clause-front
returns-clause-front g c =
    front_if c.args.plan.now c.in_ok-settled.settled c.in_ok-settled.ensures c.run-answer.result (g.S.ChunkSource.state c.args.source.now) (g.S.ChunkSource.state c.run-answer.new.source) c.run-answer.ensures.front

pub returns-in_err-settled-clause-front : goal.returns-in_err-settled-clause-front
returns-in_err-settled-clause-front g c = front_none c.from_residual.result _ _
