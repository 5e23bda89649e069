use Rattle.std.proofs.Common.{◌≡◌, refl, ap}
use Rattle.cell_values.specs.declared.schema.Schema.{Schema}
use Rattle.array_parts.specs.Cores.{cores_of}
use Rattle.logical_plan.specs.Ordered.{cumulate_rows}
use Rattle.logical_plan.specs.PlanSchema.{cumulate_schema}
use Rattle.group_rows.proofs.WholeLaws.{means_whole, of_cores, stands_for}
use Rattle.order_exec.proofs.CellLaws.{whole_parts}
use Rattle.group_rows.proofs.CumulatedLaws.{cumulated_are_rows}
use Rattle.order_exec.proofs.ByChunkLaws.{frames_none, places_framed}
use Rattle.order_exec.proofs.array_cumulates.from_parts.Goals as goal

pub parts_by_chunk-requires-clause-frames : goal.parts_by_chunk-requires-clause-frames
parts_by_chunk-requires-clause-frames c = frames_none c.args.target.now c.no_margins-none.result.items c.requires.valid c.no_margins-none.ensures

pub array_of_parts-requires : goal.array_of_parts-requires
array_of_parts-requires c =
    places_framed c.args.array.schema c.args.target.now c.no_margins-none.result.items c.args.array.chunks c.in_ok-parts.parts (frames_none c.args.target.now c.no_margins-none.result.items c.requires.valid c.no_margins-none.ensures)
    (ap (λ (s : Schema). s.dimensions) c.requires.target) c.in_ok-parts.ensures.numbers c.requires.cells.placed.rising c.requires.cells.placed.sized c.in_ok-parts.ensures.places

pub returns : goal.returns
returns c =
    let array = c.args.array in
    let target = c.args.target.now in
    let n = c.args.along.now.place in
    let gs = c.args.along.now.aggs.now in
    let all = cores_of array in
    let made = cumulate_rows n gs all in
    let same : target.dimensions ≡ array.schema.dimensions = ap (λ (s : Schema). s.dimensions) c.requires.target in
    stands_for c.array_of_parts.result _ _
    (means_whole (cumulate_schema gs) (λ s. cumulate_rows n gs) array target made c.requires.whole c.requires.target refl)
    (c.array_of_parts.ensures.array made
    (cumulated_are_rows array.schema target n gs all made (of_cores array all refl c.requires.cells) c.requires.target c.requires.valid c.requires.typed (c.requires.few array.schema.dimensions array.margins.items) refl)
    (whole_parts array.schema target array.margins.items c.no_margins-none.result.items n gs array.chunks c.in_ok-parts.parts same c.requires.cells c.in_ok-parts.ensures.numbers c.requires.cells.placed.rising c.requires.cells.placed.sized c.in_ok-parts.ensures.parts))
