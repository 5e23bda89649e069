use Rattle.std.proofs.Common.{◌≡◌, ◌<◌, ◌^◌, List, length, refl, ap, subst}
use Rattle.cell_values.specs.declared.schema.Schema.{Schema}
use Rattle.array_geom.specs.declared.chunk.Chunk.{Chunk}
use Rattle.array_geom.specs.Link.{core_rows}
use Rattle.array_geom.proofs.MarginLaws.{overlap_each, overlap_places}
use Rattle.array_parts.specs.Cores.{cores_of}
use Rattle.logical_plan.specs.Groups.{window_rows}
use Rattle.logical_plan.specs.PlanSchema.{window_schema}
use Rattle.group_rows.proofs.WholeLaws.{means_whole, of_cores, stands_for}
use Rattle.window_overlap.proofs.ArraysWindowLaws.{windows_are_rows}
use Rattle.window_overlap.proofs.PieceLaws.{whole_parts}
use Rattle.window_overlap.proofs.arrays.pieces.window.Goals as goal

pub window_parts-requires-clause-frames : goal.window_parts-requires-clause-frames
window_parts-requires-clause-frames g c κs lives =
    let target = c.args.target.now in
    let margins = c.margins_of-margins in
    record { valid = c.requires.valid; each = overlap_each target margins.result.items margins.ensures; places = overlap_places target margins.result.items margins.ensures c.requires.valid }

pub returns-clause-array : goal.returns-clause-array
returns-clause-array g c =
    let array = c.args.array in
    let target = c.args.target.now in
    let all = cores_of array in
    let made = window_rows c.args.reach.now c.args.aggs.now all in
    let same : target.dimensions ≡ array.schema.dimensions = ap (λ (s : Schema). s.dimensions) c.requires.target in
    let few : length all < 2 ^ 63 = subst (λ (cs : List Chunk). length (core_rows array.schema.dimensions array.margins.items cs) < 2 ^ 63) c.as_slice.ensures (c.are_few.ensures c.if-not-are_few.false array.schema.dimensions array.margins.items) in
    stands_for c.array_of_parts.result _ _
    (means_whole (window_schema c.args.aggs.now) (λ s. window_rows c.args.reach.now c.args.aggs.now) array target made c.requires.whole c.requires.target refl)
    (c.array_of_parts.ensures.array made
    (windows_are_rows array.schema target c.args.reach.now c.args.aggs.now all made (of_cores array all refl (c.requires.cells c.requires.whole)) c.requires.target c.requires.valid c.requires.typed few refl)
    (whole_parts array.schema target array.margins.items c.margins_of-margins.result.items c.args.reach.now c.args.aggs.now array.chunks c.in_ok-parts.parts same (c.requires.cells c.requires.whole) c.in_ok-parts.ensures.numbers c.in_ok-parts.ensures.parts))

pub array_of_parts-requires : goal.array_of_parts-requires
array_of_parts-requires g c =
    let array = c.args.array in
    let target = c.args.target.now in
    let margins = c.margins_of-margins in
    let same : target.dimensions ≡ array.schema.dimensions = ap (λ (s : Schema). s.dimensions) c.requires.target in
    let parts =
    whole_parts array.schema target array.margins.items margins.result.items c.args.reach.now c.args.aggs.now array.chunks c.in_ok-parts.parts same (c.requires.cells c.requires.whole) c.in_ok-parts.ensures.numbers c.in_ok-parts.ensures.parts in
    record {
      valid = c.requires.valid;
      each = overlap_each target margins.result.items margins.ensures;
      places = overlap_places target margins.result.items margins.ensures c.requires.valid;
      rising = parts.in_order;
      sized = parts.sized;
      all = c.in_ok-parts.ensures.places;
    }
