use Rattle.std.proofs.Common.{◌∙◌, ap}
use Rattle.std.specs.Prelude.{Ok}
use Rattle.logical_plan.specs.CellOps.{filter_cell, filter_rows}
use Rattle.array_parts.specs.Made.{IsMadeBy}
use Rattle.array_parts.proofs.Steps.{part_made}
use Rattle.exec_cellwise.proofs.FilterLaws.{found_chunk}
use Rattle.exec_cellwise.proofs.chunks.filtering.filter_chunk.Goals as goal

pub returns-in-Ok-Some-clause-made : goal.returns-in-Ok-Some-clause-made
returns-in-Ok-Some-clause-made c =
    found_chunk (IsMadeBy (filter_rows c.args.test.now) c.args.schema.now.dimensions c.args.margins.now.items c.args.chunk) c.filtered_places.result c.in-Ok-Some.made
    (c.in-Ok-Some.is ∙ ap Ok c.in-Ok-Some.field-0-is) c.filtered_places.ensures

pub returns-in-Ok-Some-clause-part : goal.returns-in-Ok-Some-clause-part
returns-in-Ok-Some-clause-part c = λ rows part.
    part_made (filter_cell c.args.test.now) c.args.schema.now.dimensions c.args.margins.now.items rows c.args.chunk c.in-Ok-Some.made part (returns-in-Ok-Some-clause-made c)
