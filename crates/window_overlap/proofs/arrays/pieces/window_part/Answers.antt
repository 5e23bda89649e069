use Rattle.std.proofs.Common.{◌≡◌, Option, refl, ap, ◌∙◌, subst}
use Rattle.std.specs.Prelude.{IfSome}
use Rattle.array_geom.specs.declared.chunk.Chunk.{Chunk}
use Rattle.area_cells.specs.Inner.Filled.{IsFilled}
use Rattle.area_cells.proofs.FillLaws.{filled_chunk, filled_placed}
use Rattle.cell_values.specs.declared.schema.Bounds.{Bounds}
use Rattle.array_rows.specs.Boxes.{within}
use Rattle.array_geom.specs.Geometry.{frame, frame_lengths, frame_low}
use Rattle.array_parts.specs.Cores.{cores_of}
use Rattle.logical_plan.specs.Groups.{window_rows}
use Rattle.area_cells.proofs.PieceLaws.{all_within, has_places, is_part}
use Rattle.window_overlap.proofs.arrays.pieces.window_part.Goals as goal

pub chunk_of_rows-requires-clause-inside : goal.chunk_of_rows-requires-clause-inside
chunk_of_rows-requires-clause-inside c =
    let rows = window_rows c.args.reach.now c.args.aggs.now (cores_of c.args.array.now) in
    all_within (frame c.args.target.now.dimensions c.args.margins.now.items c.args.number.now.items) rows c.in_ok-windows.windows (c.in_ok-windows.ensures ∙ ap (λ (b : Bounds). within b rows) c.frame-area.ensures)

pub returns-clause-places : goal.returns-clause-places
returns-clause-places c = has_places c.args.target.now c.args.margins.now.items c.args.number.now c.in_ok-made.made c.requires.framed c.in_ok-made.ensures.number c.in_ok-made.ensures.placed

pub returns-clause-part : goal.returns-clause-part
returns-clause-part c =
    is_part c.args.target.now.dimensions c.args.margins.now.items c.args.number.now (window_rows c.args.reach.now c.args.aggs.now (cores_of c.args.array.now)) c.in_ok-windows.windows c.frame-area.result c.in_ok-made.made c.frame-area.ensures c.in_ok-windows.ensures
    c.in_ok-made.ensures.number c.in_ok-made.ensures.placed c.in_ok-made.ensures.rows

pub returns-in-Some-clause-part : goal.returns-in-Some-clause-part
returns-in-Some-clause-part c =
    let dims = c.args.target.now.dimensions in
    let margins = c.args.margins.now.items in
    let k = c.args.number.now.items in
    let rows = window_rows c.args.reach.now c.args.aggs.now (cores_of c.args.array.now) in
    let made = within c.frame-area.result rows in
    let number : c.in-Some.quick.at ≡ c.args.number.now = subst (λ (o : Option Chunk). IfSome o (λ chunk. chunk.at ≡ c.args.number.now)) c.in-Some.is c.in_ok-quick.ensures.number in
    let filled : IsFilled (frame_low dims margins k) (frame_lengths dims margins) made c.in-Some.quick = subst (λ (o : Option Chunk). IfSome o (IsFilled (frame_low dims margins k) (frame_lengths dims margins) made)) c.in-Some.is c.in_ok-quick.ensures.filled in
    is_part dims margins c.args.number.now rows made c.frame-area.result c.in-Some.quick c.frame-area.ensures refl number
    (filled_placed dims margins (frame_low dims margins k) (frame_lengths dims margins) c.in-Some.quick made refl filled)
    (filled_chunk dims margins (frame_low dims margins k) (frame_lengths dims margins) c.args.number.now c.in-Some.quick made refl refl number filled)

pub returns-in-Some-clause-places : goal.returns-in-Some-clause-places
returns-in-Some-clause-places c =
    let dims = c.args.target.now.dimensions in
    let margins = c.args.margins.now.items in
    let k = c.args.number.now.items in
    let rows = window_rows c.args.reach.now c.args.aggs.now (cores_of c.args.array.now) in
    let made = within c.frame-area.result rows in
    let number : c.in-Some.quick.at ≡ c.args.number.now = subst (λ (o : Option Chunk). IfSome o (λ chunk. chunk.at ≡ c.args.number.now)) c.in-Some.is c.in_ok-quick.ensures.number in
    let filled : IsFilled (frame_low dims margins k) (frame_lengths dims margins) made c.in-Some.quick = subst (λ (o : Option Chunk). IfSome o (IsFilled (frame_low dims margins k) (frame_lengths dims margins) made)) c.in-Some.is c.in_ok-quick.ensures.filled in
    has_places c.args.target.now c.args.margins.now.items c.args.number.now c.in-Some.quick c.requires.framed number
    (filled_placed dims margins (frame_low dims margins k) (frame_lengths dims margins) c.in-Some.quick made refl filled)
