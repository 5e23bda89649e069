use Rattle.std.proofs.Common.{◌≡◌, ◌∷◌, [], rules, arith, ◌∙◌}
use Rattle.std.proofs.lemmas.Grind.{common_steps}
use Rattle.std.specs.Vec.Iter.{into_iter_items}
use Rattle.chunk_source.proofs.ChunkRows.{none_gathered, next_places, one_gathered, all_gathered}
use Rattle.chunk_source.proofs.leaves.parts.gathering.all_rows.Goals as goal

pub loop-chunk-init : goal.loop-chunk-init
loop-chunk-init c =
    none_gathered c.args.schema.now c.args.margins.now.items c.another-rows.result (into_iter_items c.into_iter-chunk-iterator.result) c.args.chunks c.another-rows.ensures (c.into_iter-chunk-iterator.ensures.into_iter_gives.0 ∙ c.into_vec-chunk-items.ensures) c.requires

pub push_rows-requires : goal.push_rows-requires
push_rows-requires c =
    let next : into_iter_items c.loop-chunk.chunk-iterator ≡ c.in-Some.chunk ∷ into_iter_items c.next.new.self = first_of (search rules, grind (arith, common_steps)) in
    next_places c.args.schema.now c.args.margins.now.items c.loop-chunk.rows (into_iter_items c.loop-chunk.chunk-iterator) (into_iter_items c.next.new.self) c.args.chunks c.in-Some.chunk next c.loop-chunk.invariant

pub loop-chunk-preserved : goal.loop-chunk-preserved
loop-chunk-preserved c =
    let next : into_iter_items c.loop-chunk.chunk-iterator ≡ c.in-Some.chunk ∷ into_iter_items c.next.new.self = first_of (search rules, grind (arith, common_steps)) in
    one_gathered c.args.schema.now c.args.margins.now.items c.loop-chunk.rows c.push_rows.new.rows (into_iter_items c.loop-chunk.chunk-iterator) (into_iter_items c.next.new.self) c.args.chunks c.in-Some.chunk next c.in_ok-push_rows.ensures c.loop-chunk.invariant

pub returns : goal.returns
returns c =
    let none : into_iter_items c.loop-chunk.chunk-iterator ≡ [] = first_of (search rules, grind (arith, common_steps)) in
    all_gathered c.args.schema.now c.args.margins.now.items c.loop-chunk.rows (into_iter_items c.loop-chunk.chunk-iterator) c.args.chunks none c.loop-chunk.invariant
