use Rattle.std.proofs.Common.{◌≡◌, refl, ap, subst}
use Rattle.cell_values.specs.declared.schema.Schema.{Schema}
use Rattle.cell_values.specs.Schemas.{IsValid}
use Rattle.array_geom.specs.Geometry.{HasFrame}
use Rattle.array_geom.proofs.MarginLaws.{overlap_each, overlap_places}
use Rattle.array_parts.specs.Cores.{HaveCells, cores_of}
use Rattle.logical_plan.specs.BoxOps.{fixed_places, items_but, slice_rows}
use Rattle.logical_plan.specs.PlanSchema.{slice_schema}
use Rattle.exec_box.proofs.ArraysMadeLaws.{means_whole, slice_are_rows, stands_for}
use Rattle.exec_box.proofs.PieceLaws.{slice_parts}
use Rattle.exec_box.proofs.ReachLaws.{each_accepted, made_places}
use Rattle.exec_box.proofs.arrays.slice_pieces.slice_by_pieces.Goals as goal

pub in_turn-requires-after_bounds : goal.in_turn-requires-after_bounds
in_turn-requires-after_bounds c κs =
    let array = c.args.array.now in
    let schema = c.args.schema.now in
    let margins = c.margins_of-margins.result.items in
    each_accepted schema margins
    (λ number. HaveCells array.schema array.margins.items array.chunks × (schema.dimensions ≡ items_but (fixed_places c.args.fixed.now) 0 array.schema.dimensions) × HasFrame schema margins number.items) c.in_ok-numbers.numbers c.requires.valid
    (overlap_each schema margins c.margins_of-margins.ensures) (overlap_places schema margins c.margins_of-margins.ensures c.requires.valid)
    (λ number framed. (c.requires.cells, ap (λ (s : Schema). s.dimensions) c.requires.schema, framed)) c.in_ok-numbers.ensures.reached.cores

pub array_of_parts-requires : goal.array_of_parts-requires
array_of_parts-requires c =
    let schema = c.args.schema.now in
    let margins = c.margins_of-margins.result.items in
    made_places schema margins (slice_rows c.args.fixed.now (cores_of c.args.array.now)) c.in_ok-numbers.numbers c.in_ok-parts.parts c.requires.valid
    (overlap_each schema margins c.margins_of-margins.ensures) (overlap_places schema margins c.margins_of-margins.ensures c.requires.valid) c.in_ok-numbers.ensures.in_order c.in_ok-numbers.ensures.reached.cores c.in_ok-parts.ensures

pub returns-clause-array : goal.returns-clause-array
returns-clause-array c =
    let array = c.args.array.now in
    let schema = c.args.schema.now in
    let fixed = c.args.fixed.now in
    let rows = slice_rows fixed (cores_of array) in
    stands_for c.array_of_parts.result _ _ (means_whole (slice_schema fixed) (λ s. slice_rows fixed) array schema rows c.requires.whole c.requires.schema refl)
    (c.array_of_parts.ensures.array rows (slice_are_rows fixed array schema rows c.requires.schema (subst IsValid c.requires.schema c.requires.valid) c.requires.cells refl)
    (slice_parts schema array fixed c.margins_of-margins.result.items c.in_ok-numbers.numbers c.in_ok-parts.parts c.requires.valid c.requires.cells c.requires.schema c.in_ok-numbers.ensures.in_order c.in_ok-numbers.ensures.reached c.in_ok-parts.ensures))
