use Rattle.std.proofs.Common.{ℕ, List, [], Some, refl, sym, ap, ◌∙◌, subst}
use Rattle.array_geom.specs.Geometry.{HasFrame, frame, position_of}
use Rattle.array_rows.specs.Boxes.{is_inside}
use Rattle.redimension_exec.proofs.HoldLaws.{held_more, own_framed, own_inside}
use Rattle.redimension_exec.proofs.filling.chunks.fill.Goals as goal

pub position-place-requires-clause-framed : goal.position-place-requires-clause-framed
position-place-requires-clause-framed c =
    subst (λ (ms : List ℕ). HasFrame c.args.target.now ms c.chunk_of-number.result.items) (sym c.requires.margins)
    (own_framed c.args.target.now [] c.args.row c.chunk_of-number.result c.requires.valid c.requires.inside c.chunk_of-number.ensures)

pub position-place-requires-clause-inside : goal.position-place-requires-clause-inside
position-place-requires-clause-inside c =
    ap (λ (ms : List ℕ). is_inside (frame c.args.target.now.dimensions ms c.chunk_of-number.result.items) c.args.row.at.items) c.requires.margins
    ∙ own_inside c.args.target.now [] c.args.row c.chunk_of-number.result c.requires.valid c.requires.inside c.chunk_of-number.ensures

pub returns : goal.returns
returns c = λ made h.
    let target = c.args.target.now in
    held_more target made c.args.row c.chunk_of-number.result c.requires.valid c.requires.inside c.chunk_of-number.ensures c.position-place.result
    (c.position-place.ensures.value ∙ ap (λ (ms : List ℕ). position_of target.dimensions ms c.chunk_of-number.result.items c.args.row.at.items) c.requires.margins)
    c.args.filled.now (record { last = Some c.add_cell.new.chunk; others = c.chunk_for.new.filled.others }) c.in_ok-chunk.chunk c.add_cell.new.chunk h c.in_ok-chunk.ensures.chunk c.in_ok-add_cell.ensures c.in_ok-chunk.ensures.others refl
