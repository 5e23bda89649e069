use Rattle.array_parts.proofs.HeldLemmas.{places_kept, parts_kept}
use Rattle.array_parts.proofs.parts.held.with_cells.Goals as goal

pub returns-clause-placed : goal.returns-clause-placed
returns-clause-placed c = places_kept c.args.schema.now c.args.margins.now.items c.args.chunks c.kept_chunks.result c.requires c.kept_chunks.ensures

pub returns-clause-chunks : goal.returns-clause-chunks
returns-clause-chunks c = λ rows are. parts_kept c.args.schema.now c.args.margins.now.items c.args.chunks c.kept_chunks.result rows c.requires.each c.kept_chunks.ensures are
