use Rattle.std.proofs.Common.{rules, ◌<◌, ◌∙◌, ap, length, length-append, map, Ok, arith}
use Rattle.array_rows.specs.Boxes.{bounds_of}
use Rattle.array_geom.specs.Link.{core_rows}
use Rattle.chunk_cells.proofs.MergeLaws.{IsRising-core_rows}
use Rattle.area_cells.proofs.CutLaws.{each_core}
use Rattle.logical_plan.specs.Redimension.{origin_of}
use Rattle.redimension_exec.proofs.BandLaws.{back_bands, cut_rows, front_bands}
use Rattle.redimension_exec.proofs.BandGroups.{whole_breaks_first, whole_breaks_next, whole_landed}
use Rattle.redimension_exec.proofs.arrays.bands.+groups_in_bands.Goals as goal

pub half_of_bands-half-requires-clause-cores : goal.half_of_bands-half-requires-clause-cores
half_of_bands-half-requires-clause-cores t c = each_core c.args.source.now c.args.margins.now.items c.args.chunks.now c.requires.bands.places.all

pub groups_in_bands-requires : goal.groups_in_bands-requires
groups_in_bands-requires t c =
    let source = c.args.source.now in
    let margins = c.args.margins.now.items in
    let chunks = c.args.chunks.now in
    let half = c.half_of_bands-half.result in
    let front = c.split_at.result.0.now in
    let back = c.split_at.result.1.now in
    let split = cut_rows source.dimensions margins half chunks front back (c.half_of_bands-half.ensures.rows margins) c.split_at.ensures.front c.split_at.ensures.back in
    let less : half < length chunks = search rules in (
      omega (arith, c.split_at.ensures.front_len, less, c.decreases),
      (c.requires.few, (c.requires.plain, front_bands source margins half chunks front back c.requires.bands split c.split_at.ensures.front)),
    )

pub groups_in_bands-requires-in-Ok : goal.groups_in_bands-requires-in-Ok
groups_in_bands-requires-in-Ok t c =
    let source = c.args.source.now in
    let margins = c.args.margins.now.items in
    let chunks = c.args.chunks.now in
    let half = c.half_of_bands-half.result in
    let front = c.split_at.result.0.now in
    let back = c.split_at.result.1.now in
    let split = cut_rows source.dimensions margins half chunks front back (c.half_of_bands-half.ensures.rows margins) c.split_at.ensures.front c.split_at.ensures.back in
    let less : half < length chunks = search rules in (
      omega (arith, c.split_at.ensures.back_len, c.half_of_bands-half.ensures.some (omega (arith, less)), less, c.decreases),
      (c.requires.few, (c.requires.plain, back_bands source margins half chunks front back c.requires.bands split c.split_at.ensures.back)),
    )

pub returns-in-Err-clause-groups : goal.returns-in-Err-clause-groups
returns-in-Err-clause-groups t c =
    let source = c.args.source.now in
    let margins = c.args.margins.now.items in
    let chunks = c.args.chunks.now in
    let front = c.split_at.result.0.now in
    let back = c.split_at.result.1.now in
    let split = cut_rows source.dimensions margins c.half_of_bands-half.result chunks front back (c.half_of_bands-half.ensures.rows margins) c.split_at.ensures.front c.split_at.ensures.back in
    whole_breaks_first (core_rows source.dimensions margins chunks) (core_rows source.dimensions margins front) (core_rows source.dimensions margins back) split
    c.args.aggregates.now (map (origin_of source) c.args.target.now.dimensions) (bounds_of c.args.target.now.dimensions) c.requires.plain (IsRising-core_rows source.dimensions margins chunks)
    c.in_ok-broken.field-0 c.in-Err.broken c.in-Err.is c.in_ok-broken.ensures.groups

pub returns-in-Err-2-clause-groups : goal.returns-in-Err-2-clause-groups
returns-in-Err-2-clause-groups t c =
    let source = c.args.source.now in
    let margins = c.args.margins.now.items in
    let chunks = c.args.chunks.now in
    let front = c.split_at.result.0.now in
    let back = c.split_at.result.1.now in
    let split = cut_rows source.dimensions margins c.half_of_bands-half.result chunks front back (c.half_of_bands-half.ensures.rows margins) c.split_at.ensures.front c.split_at.ensures.back in
    whole_breaks_next (core_rows source.dimensions margins chunks) (core_rows source.dimensions margins front) (core_rows source.dimensions margins back) split
    c.args.aggregates.now (map (origin_of source) c.args.target.now.dimensions) (bounds_of c.args.target.now.dimensions) c.requires.plain (IsRising-core_rows source.dimensions margins chunks)
    c.in_ok-broken.field-0 c.in_ok-broken-in-Ok.field-0 c.in-Ok.left c.in-Err-2.broken c.in-Ok.is c.in-Err-2.is c.in_ok-broken.ensures.groups c.in_ok-broken-in-Ok.ensures.groups

pub returns-in_ok-groups-in-Ok-2-clause-groups : goal.returns-in_ok-groups-in-Ok-2-clause-groups
returns-in_ok-groups-in-Ok-2-clause-groups t c =
    let source = c.args.source.now in
    let margins = c.args.margins.now.items in
    let chunks = c.args.chunks.now in
    let front = c.split_at.result.0.now in
    let back = c.split_at.result.1.now in
    let split = cut_rows source.dimensions margins c.half_of_bands-half.result chunks front back (c.half_of_bands-half.ensures.rows margins) c.split_at.ensures.front c.split_at.ensures.back in
    whole_landed (core_rows source.dimensions margins chunks) (core_rows source.dimensions margins front) (core_rows source.dimensions margins back) split
    c.args.aggregates.now (map (origin_of source) c.args.target.now.dimensions) (bounds_of c.args.target.now.dimensions) c.requires.plain (IsRising-core_rows source.dimensions margins chunks)
    c.in_ok-broken.field-0 c.in_ok-broken-in-Ok.field-0 c.in-Ok.left c.in-Ok-2.right (Ok c.in_ok-groups-in-Ok-2.groups) c.in-Ok.is c.in-Ok-2.is c.in_ok-broken.ensures.groups c.in_ok-broken-in-Ok.ensures.groups
    (c.in_ok-groups-in-Ok-2.ensures.groups c.args.aggregates.now)

pub merge_two-requires : goal.merge_two-requires
merge_two-requires t c =
    let source = c.args.source.now in
    let margins = c.args.margins.now.items in
    let chunks = c.args.chunks.now in
    let front = c.split_at.result.0.now in
    let back = c.split_at.result.1.now in
    let split = cut_rows source.dimensions margins c.half_of_bands-half.result chunks front back (c.half_of_bands-half.ensures.rows margins)
    c.split_at.ensures.front c.split_at.ensures.back in
    let all = ap length split ∙ length-append (core_rows source.dimensions margins front) (core_rows source.dimensions margins back) in
    let one = rw c.in-Ok.is at c.in_ok-broken.ensures.cells in
    let other = rw c.in-Ok-2.is at c.in_ok-broken-in-Ok.ensures.cells in
    omega (arith, one, other, all, c.requires.bands.counted)

pub returns-in_ok-groups-in-Ok-2-clause-cells : goal.returns-in_ok-groups-in-Ok-2-clause-cells
returns-in_ok-groups-in-Ok-2-clause-cells t c =
    let source = c.args.source.now in
    let margins = c.args.margins.now.items in
    let chunks = c.args.chunks.now in
    let front = c.split_at.result.0.now in
    let back = c.split_at.result.1.now in
    let split = cut_rows source.dimensions margins c.half_of_bands-half.result chunks front back (c.half_of_bands-half.ensures.rows margins)
    c.split_at.ensures.front c.split_at.ensures.back in
    let all = ap length split ∙ length-append (core_rows source.dimensions margins front) (core_rows source.dimensions margins back) in
    let one = rw c.in-Ok.is at c.in_ok-broken.ensures.cells in
    let other = rw c.in-Ok-2.is at c.in_ok-broken-in-Ok.ensures.cells in
    omega (arith, one, other, all, c.in_ok-groups-in-Ok-2.ensures.cells)
