use Rattle.std.proofs.Common.{◌≤◌, [], ◌∷◌, length}
use Rattle.array_parts.specs.Cores.{HaveCells}
use Rattle.exec_group.proofs.PiecesPartLaws.{each_has_cells, each_with}
use Rattle.exec_group.proofs.pieces.parts.each_part.Goals as goal

pub over_pieces-requires-after_bounds : goal.over_pieces-requires-after_bounds
over_pieces-requires-after_bounds g c κs within =
    let schema = c.args.schema.now in
    let margins = c.args.margins.now.items in
    each_with (λ chunk. HaveCells schema margins (chunk ∷ [])) (length c.args.dims.now ≤ 6) c.args.chunks (each_has_cells schema margins c.args.chunks c.requires.cells) c.requires.names
