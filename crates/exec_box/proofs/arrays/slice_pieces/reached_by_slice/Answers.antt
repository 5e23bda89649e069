use Rattle.std.proofs.Common.{◌≡◌, true, sym, subst}
use Rattle.std.specs.List.{AllByRecursion}
use Rattle.array_rows.specs.Rows.{Coordinate}
use Rattle.array_geom.specs.declared.chunk.Chunk.{Chunk}
use Rattle.array_geom.specs.Geometry.{chunk_of, core, has_core}
use Rattle.array_parts.specs.Placed.{HasPlaces}
use Rattle.logical_plan.specs.BoxOps.{fixed_places, has_fixed, items_but}
use Rattle.exec_box.specs.Inner.Reached.{AddsReached}
use Rattle.exec_box.proofs.ReachLaws.{core_at, more_reached}
use Rattle.exec_box.proofs.arrays.slice_pieces.reached_by_slice.Goals as goal

pub push_sliced-requires-clause-core : goal.push_sliced-requires-clause-core
push_sliced-requires-clause-core c =
    let array = c.args.array.now in
    let all = subst (AllByRecursion (HasPlaces array.schema array.margins.items)) (sym c.as_slice-chunks.ensures) c.requires.placed.all in
    subst (λ (z : Chunk). has_core array.schema.dimensions z.at.items ≡ true) c.index-chunks-k.is
    (core_at array.schema array.margins.items c.as_slice-chunks.result.now c.loop-k.k c.index-chunks-k.result all c.loop-k-test.true c.index-chunks-k.is)

pub loop-k-preserved : goal.loop-k-preserved
loop-k-preserved c =
    let dims = c.args.array.now.schema.dimensions in
    let target = c.args.schema.now.dimensions in
    let number = λ (at : Coordinate). items_but (fixed_places c.args.fixed.now) 0 (chunk_of dims at) in
    more_reached dims target (has_fixed c.args.fixed.now) number c.as_slice-chunks.result.now c.loop-k.k c.index-chunks-k.result c.loop-k.found
    c.push_sliced.new.found c.loop-k-test.true c.index-chunks-k.is c.loop-k.invariant
    (subst (λ (z : Chunk). AddsReached target (has_fixed c.args.fixed.now) number (core dims z.at.items) c.loop-k.found c.push_sliced.new.found)
    (sym c.index-chunks-k.is) c.in_ok-push_sliced.ensures)
