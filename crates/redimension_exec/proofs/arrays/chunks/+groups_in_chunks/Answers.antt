use Rattle.std.proofs.Common.{rules, ◌<◌, ◌/◌, length, map, Ok, arith}
use Rattle.array_rows.specs.Boxes.{bounds_of}
use Rattle.logical_plan.specs.Redimension.{origin_of}
use Rattle.redimension_exec.proofs.ChunkLaws.{back_chunks, both_fit, both_landed, front_chunks}
use Rattle.redimension_exec.proofs.arrays.chunks.+groups_in_chunks.Goals as goal

pub groups_in_chunks-requires : goal.groups_in_chunks-requires
groups_in_chunks-requires t c =
    let source = c.args.source.now in
    let margins = c.args.margins.now.items in
    let chunks = c.args.chunks.now in
    let half = length chunks / 2 in
    let some : 0 < half = search rules in
    let less : half < length chunks = omega (arith, some) in
    let front = c.split_at.ensures.front in
    let back = c.split_at.ensures.back in (
      omega (arith, c.split_at.ensures.front_len, less, c.decreases),
      (c.requires.few, (c.requires.plain, front_chunks source margins half chunks c.split_at.result.0.now c.split_at.result.1.now c.requires.bands front back)),
    )

pub groups_in_chunks-requires-in-Some : goal.groups_in_chunks-requires-in-Some
groups_in_chunks-requires-in-Some t c =
    let source = c.args.source.now in
    let margins = c.args.margins.now.items in
    let chunks = c.args.chunks.now in
    let half = length chunks / 2 in
    let some : 0 < half = search rules in
    let less : half < length chunks = omega (arith, some) in
    let front = c.split_at.ensures.front in
    let back = c.split_at.ensures.back in (
      omega (arith, c.split_at.ensures.back_len, some, c.decreases),
      (c.requires.few, (c.requires.plain, back_chunks source margins half chunks c.split_at.result.0.now c.split_at.result.1.now c.requires.bands front back)),
    )

pub merge_two-requires : goal.merge_two-requires
merge_two-requires t c =
    let chunks = c.args.chunks.now in
    let one = rw c.in-Some.is at c.in_ok-groups_in_chunks.ensures.cells in
    let other = rw c.in-Some-2.is at c.in_ok-groups_in_chunks-in-Some.ensures.cells in
    let fit = both_fit c.args.source.now c.args.margins.now.items (length chunks / 2) chunks c.split_at.result.0.now c.split_at.result.1.now c.requires.bands c.split_at.ensures.front c.split_at.ensures.back
    c.in-Some.left c.in-Some-2.right one other in
    let few = c.requires.bands.counted in
    omega (arith, fit, few)

pub returns-in_ok-groups-in-Some-2-clause-groups : goal.returns-in_ok-groups-in-Some-2-clause-groups
returns-in_ok-groups-in-Some-2-clause-groups t c =
    let source = c.args.source.now in
    let chunks = c.args.chunks.now in
    let first = rw c.in-Some.is at c.in_ok-groups_in_chunks.ensures.groups in
    let second = rw c.in-Some-2.is at c.in_ok-groups_in_chunks-in-Some.ensures.groups in
    both_landed source c.args.margins.now.items (length chunks / 2) chunks c.split_at.result.0.now c.split_at.result.1.now c.requires.bands c.split_at.ensures.front c.split_at.ensures.back
    c.args.aggregates.now (map (origin_of source) c.args.target.now.dimensions) (bounds_of c.args.target.now.dimensions) c.in-Some.left c.in-Some-2.right (Ok c.in_ok-groups-in-Some-2.groups) c.requires.plain first second
    (c.in_ok-groups-in-Some-2.ensures.groups c.args.aggregates.now)

pub returns-in_ok-groups-in-Some-2-clause-cells : goal.returns-in_ok-groups-in-Some-2-clause-cells
returns-in_ok-groups-in-Some-2-clause-cells t c =
    let chunks = c.args.chunks.now in
    let one = rw c.in-Some.is at c.in_ok-groups_in_chunks.ensures.cells in
    let other = rw c.in-Some-2.is at c.in_ok-groups_in_chunks-in-Some.ensures.cells in
    let fit = both_fit c.args.source.now c.args.margins.now.items (length chunks / 2) chunks c.split_at.result.0.now c.split_at.result.1.now c.requires.bands c.split_at.ensures.front c.split_at.ensures.back
    c.in-Some.left c.in-Some-2.right one other in
    let less = c.in_ok-groups-in-Some-2.ensures.cells in
    omega (arith, fit, less)
