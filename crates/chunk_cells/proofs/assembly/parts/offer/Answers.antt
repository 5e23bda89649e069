use Rattle.std.proofs.Common.{sym, ◌∙◌}
use Rattle.chunk_cells.proofs.PartLaws.{frame_tested, skips, between_is}
use Rattle.chunk_cells.proofs.assembly.parts.offer.Goals as goal

pub add_cell-requires-clause-inside : goal.add_cell-requires-clause-inside
add_cell-requires-clause-inside c =
    let framed = c.requires.framed in
    let near = c.args.near.now in
    let chunk = c.args.chunk.now.at.items in
    let tested = frame_tested c.args.schema.now c.args.margins.now.items chunk c.args.row.now.at.items near (record { valid = framed.valid; each = framed.each; places = framed.places }) framed.core c.requires.near c.requires.inside in
    let asked = between_is near.low.items near.high.items chunk _ _ _ c.as_slice.ensures.value c.as_slice-2.ensures.value c.as_slice-3.ensures.value in
    tested ∙ asked ∙ sym c.lies_between.ensures ∙ c.if-lies_between.true

pub returns-else-lies_between : goal.returns-else-lies_between
returns-else-lies_between c =
    let framed = c.requires.framed in
    let near = c.args.near.now in
    let chunk = c.args.chunk.now.at.items in
    let tested = frame_tested c.args.schema.now c.args.margins.now.items chunk c.args.row.now.at.items near (record { valid = framed.valid; each = framed.each; places = framed.places }) framed.core c.requires.near c.requires.inside in
    let asked = between_is near.low.items near.high.items chunk _ _ _ c.as_slice.ensures.value c.as_slice-2.ensures.value c.as_slice-3.ensures.value in
    skips c.args.schema.now c.args.margins.now.items c.args.row.now c.args.chunk.now (tested ∙ asked ∙ sym c.lies_between.ensures ∙ c.if-lies_between.false)
