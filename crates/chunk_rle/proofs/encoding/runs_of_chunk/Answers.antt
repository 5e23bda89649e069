use Rattle.std.proofs.Common.{◌∙◌}
use Rattle.chunk_rle.proofs.RunChunkLaws.{stored_in_runs}
use Rattle.chunk_rle.proofs.encoding.runs_of_chunk.Goals as goal

pub returns-clause-runs : goal.returns-clause-runs
returns-clause-runs c = (stored_in_runs c.args.schema.now c.args.chunk.now c.numbered.result c.requires.stored c.numbered.ensures.0 (c.numbered.ensures.1 ∙ c.in_ok-runs.ensures)).runs

pub returns-clause-cells : goal.returns-clause-cells
returns-clause-cells c = (stored_in_runs c.args.schema.now c.args.chunk.now c.numbered.result c.requires.stored c.numbered.ensures.0 (c.numbered.ensures.1 ∙ c.in_ok-runs.ensures)).cells
