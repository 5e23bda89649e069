use Rattle.std.proofs.Common.{◌<◌, IsTrue, length, rules, subst, sym, ap, ◌∙◌}
use Rattle.std.proofs.lemmas.List.{take_all}
use Rattle.std.specs.List.{AllByRecursion}
use Rattle.array_geom.specs.declared.chunk.Chunk.{Chunk}
use Rattle.array_geom.specs.Geometry.{core, has_core}
use Rattle.order_exec.specs.Inner.Hulls.{Covers}
use Rattle.order_exec.proofs.HullLaws.{Matches, core_matches, one_covered}
use Rattle.order_exec.proofs.KeyedLaws.{at_place}
use Rattle.order_exec.proofs.core_hulls.box_of_cores.Goals as goal

pub core_box-core-requires-clause-core : goal.core_box-core-requires-clause-core
core_box-core-requires-clause-core c =
    at_place (λ (chunk : Chunk). IsTrue (has_core c.args.schema.now.dimensions chunk.at.items)) c.args.chunks.now c.loop-chunk.chunk-index c.chunk-item.result c.requires.cores c.loop-chunk-test.true c.chunk-item.is

pub loop-chunk-preserved : goal.loop-chunk-preserved
loop-chunk-preserved c =
    one_covered c.args.schema.now.dimensions c.args.chunks.now c.loop-chunk.chunk-index c.chunk-item.result c.loop-chunk.area c.core_box-core.result c.hull-area.result c.loop-chunk-test.true c.chunk-item.is
    (at_place (λ (chunk : Chunk). IsTrue (has_core c.args.schema.now.dimensions chunk.at.items)) c.args.chunks.now c.loop-chunk.chunk-index c.chunk-item.result c.requires.cores c.loop-chunk-test.true c.chunk-item.is)
    c.core_box-core.ensures c.hull-area.ensures c.loop-chunk.invariant

pub returns : goal.returns
returns c =
    subst (AllByRecursion (λ (chunk : Chunk). Covers c.loop-chunk.area (core c.args.schema.now.dimensions chunk.at.items))) (take_all c.loop-chunk.chunk-index c.args.chunks.now c.loop-chunk-test.false) c.loop-chunk.invariant.covered

pub loop-chunk-init : goal.loop-chunk-init
loop-chunk-init c =
    let dims = c.args.schema.now.dimensions in
    let chunks = c.args.chunks.now in
    let some : 0 < length chunks = search rules in
    let first = c.index-chunks-0.result in
    let has = at_place (λ (chunk : Chunk). IsTrue (has_core dims chunk.at.items)) chunks 0 first c.requires.cores some c.index-chunks-0.is in
    record { covered = tt; matches = subst (Matches (length dims)) (sym (c.core_box-area.ensures ∙ ap (λ (chunk : Chunk). core dims chunk.at.items) (sym c.index-chunks-0.is))) (core_matches dims first.at.items has) }
