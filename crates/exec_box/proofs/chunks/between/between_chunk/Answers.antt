use Rattle.std.proofs.Common.{List, subst, IfOk}
use Rattle.cell_values.specs.declared.datum.Row.{Row}
use Rattle.array_geom.specs.Link.{IsPart}
use Rattle.array_parts.specs.Made.{IsMadeBy}
use Rattle.exec_box.proofs.CutLaws.{cut_is_within}
use Rattle.exec_box.proofs.chunks.between.between_chunk.Goals as goal

pub returns-clause-made : goal.returns-clause-made
returns-clause-made c = subst (λ (operator : List Row → List Row). IfOk c.change_chunk.result (IsMadeBy operator c.args.schema.now.dimensions c.args.margins.now.items c.args.chunk)) (cut_is_within c.args.area.now) c.change_chunk.ensures.made

pub returns-clause-part : goal.returns-clause-part
returns-clause-part c = subst (λ (operator : List Row → List Row). (rows : List Row) → IsPart c.args.schema.now.dimensions c.args.margins.now.items rows c.args.chunk → IfOk c.change_chunk.result (IsPart c.args.schema.now.dimensions c.args.margins.now.items (operator rows))) (cut_is_within c.args.area.now) c.change_chunk.ensures.part
