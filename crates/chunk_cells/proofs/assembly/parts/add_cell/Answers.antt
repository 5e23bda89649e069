use Rattle.std.proofs.Common.{refl, ◌∙◌, ap, ◌++◌, [], ◌∷◌}
use Rattle.cell_values.specs.declared.datum.Cell.{Cell}
use Rattle.chunk_cells.proofs.PartLaws.{takes}
use Rattle.chunk_cells.proofs.assembly.parts.add_cell.Goals as goal

pub returns : goal.returns
returns c = takes c.args.schema.now c.args.margins.now.items c.args.row.now c.args.chunk.now _ c.position-place.result c.requires.framed c.requires.inside c.position-place.ensures.value refl c.in_ok-push.ensures.ok
    (c.in_ok-push-2.ensures.ok ∙ ap (λ (cell : Cell). c.args.chunk.now.cells ++ cell ∷ []) c.in_ok-copy.ensures)
