use Rattle.area_cells.proofs.FillLaws.{is_array}
use Rattle.area_cells.proofs.framing.array_of_parts.Goals as goal

pub returns-clause-array : goal.returns-clause-array
returns-clause-array c = λ rows are parts.
    is_array c.args.schema.now c.in_ok-copy.field-0 c.args.margins.now c.copy_numbers.result c.in_ok-chunks.chunks rows c.in_ok-copy.ensures c.copy_numbers.ensures c.requires.each c.requires.places are (c.in_ok-chunks.ensures.chunks rows parts)
