use Rattle.std.proofs.Common.{◌≡◌, ◌∷◌, rules, arith}
use Rattle.std.proofs.lemmas.Grind.{common_steps}
use Rattle.std.specs.Vec.Iter.{into_iter_items}
use Rattle.order_exec.proofs.PartLaws.{alone_has_cells, one_part}
use Rattle.order_exec.proofs.running_chunks.parts_by_chunk.Goals as goal

pub part_of-requires-clause-cells : goal.part_of-requires-clause-cells
part_of-requires-clause-cells c =
    let next : into_iter_items c.loop-chunk.chunk-iterator ≡ c.in-Some.chunk ∷ into_iter_items c.next.new.self = first_of (search rules, grind (arith, common_steps)) in
    alone_has_cells c.args.along.now.place c.args.along.now.low c.args.along.now.aggs.now c.args.schema.now c.args.margins.now.items c.args.target.now c.args.none.now.items c.args.chunks c.requires.cells c.requires.cells.placed.rising c.requires.cells.placed.sized
    c.requires.typed c.requires.same c.requires.none c.in-Some.chunk _ (into_iter_items c.next.new.self) c.loop-chunk.parts c.loop-chunk.taken.lines c.loop-chunk.taken.cells next c.loop-chunk.invariant

pub loop-chunk-preserved : goal.loop-chunk-preserved
loop-chunk-preserved c =
    let next : into_iter_items c.loop-chunk.chunk-iterator ≡ c.in-Some.chunk ∷ into_iter_items c.next.new.self = first_of (search rules, grind (arith, common_steps)) in
    one_part c.args.along.now.place c.args.along.now.low c.args.along.now.aggs.now c.args.schema.now c.args.margins.now.items c.args.target.now c.args.none.now.items c.args.chunks c.requires.cells c.requires.cells.placed.rising c.requires.cells.placed.sized
    c.requires.typed c.requires.same c.requires.none c.in-Some.chunk c.in_ok-part.part _ (into_iter_items c.next.new.self) c.loop-chunk.parts c.push.new.self c.loop-chunk.taken.lines c.part_of.new.taken.lines
    c.loop-chunk.taken.cells c.part_of.new.taken.cells next c.loop-chunk.invariant c.in_ok-part.ensures.number c.in_ok-part.ensures.places c.in_ok-part.ensures.rows c.in_ok-part.ensures.states c.in_ok-part.ensures.counted c.in_ok-push.ensures.ok
