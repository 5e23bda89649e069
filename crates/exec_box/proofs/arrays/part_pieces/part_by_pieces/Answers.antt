use Rattle.std.proofs.Common.{refl, subst}
use Rattle.cell_values.specs.Schemas.{IsValid}
use Rattle.array_rows.specs.Boxes.{bounds_of, meet}
use Rattle.array_geom.specs.Geometry.{HasFrame}
use Rattle.array_geom.proofs.MarginLaws.{overlap_each, overlap_places}
use Rattle.array_parts.specs.Cores.{HaveCells, cores_of}
use Rattle.logical_plan.specs.BoxOps.{subarray_rows}
use Rattle.logical_plan.specs.PlanSchema.{subarray_schema}
use Rattle.exec_box.proofs.ArraysMadeLaws.{means_whole, part_rows, stands_for}
use Rattle.exec_box.proofs.PieceLaws.{part_parts}
use Rattle.exec_box.proofs.ReachLaws.{each_accepted, made_places}
use Rattle.exec_box.proofs.arrays.part_pieces.part_by_pieces.Goals as goal

pub in_turn-requires-after_bounds : goal.in_turn-requires-after_bounds
in_turn-requires-after_bounds c κs =
    let array = c.args.array.now in
    let schema = c.args.schema.now in
    let margins = c.margins_of-margins.result.items in
    each_accepted schema margins (λ number. HaveCells array.schema array.margins.items array.chunks × HasFrame schema margins number.items) c.in_ok-numbers.numbers c.requires.valid
    (overlap_each schema margins c.margins_of-margins.ensures) (overlap_places schema margins c.margins_of-margins.ensures c.requires.valid) (λ number framed. (c.requires.cells, framed)) c.in_ok-numbers.ensures.reached.cores

pub array_of_parts-requires : goal.array_of_parts-requires
array_of_parts-requires c =
    let array = c.args.array.now in
    let schema = c.args.schema.now in
    let margins = c.margins_of-margins.result.items in
    made_places schema margins (subarray_rows (meet (bounds_of array.schema.dimensions) c.args.area.now) (cores_of array)) c.in_ok-numbers.numbers c.in_ok-parts.parts c.requires.valid
    (overlap_each schema margins c.margins_of-margins.ensures) (overlap_places schema margins c.margins_of-margins.ensures c.requires.valid) c.in_ok-numbers.ensures.in_order c.in_ok-numbers.ensures.reached.cores c.in_ok-parts.ensures

pub returns-clause-array : goal.returns-clause-array
returns-clause-array c =
    let array = c.args.array.now in
    let schema = c.args.schema.now in
    let area = c.args.area.now in
    let rows = subarray_rows (meet (bounds_of array.schema.dimensions) area) (cores_of array) in
    stands_for c.array_of_parts.result _ _ (means_whole (subarray_schema area) (λ s. subarray_rows (meet (bounds_of s.dimensions) area)) array schema rows c.requires.whole c.requires.schema refl)
    (c.array_of_parts.ensures.array rows (part_rows area array schema rows c.requires.schema (subst IsValid c.requires.schema c.requires.valid) c.requires.cells refl)
    (part_parts schema array area c.margins_of-margins.result.items c.in_ok-numbers.numbers c.in_ok-parts.parts c.requires.valid c.requires.cells c.requires.schema c.in_ok-numbers.ensures.in_order c.in_ok-numbers.ensures.reached c.in_ok-parts.ensures))
