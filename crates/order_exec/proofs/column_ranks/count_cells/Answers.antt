use Rattle.std.proofs.Common.{◌≡◌, ◌+◌, ◌<◌, ◌^◌, ◌∷◌, length, rules, arith}
use Rattle.std.proofs.lemmas.Grind.{common_steps}
use Rattle.area_cells.proofs.CountLaws.{counted_more}
use Rattle.order_exec.proofs.RankedChunkLaws.{few_counted}
use Rattle.order_exec.proofs.column_ranks.count_cells.Goals as goal

pub loop-chunk-preserved : goal.loop-chunk-preserved
loop-chunk-preserved c =
    let rest : c.loop-chunk.rest.now ≡ c.in-Some.chunk.now ∷ c.in-Some.further.now = first_of (search rules, grind (arith, common_steps)) in
    let more : c.in-Some-checked_add.more ≡ c.loop-chunk.count + length c.in-Some.chunk.now.cells = first_of (search rules, grind (arith, common_steps)) in
    counted_more c.loop-chunk.count c.in-Some-checked_add.more c.in-Some.chunk.now c.loop-chunk.rest.now c.in-Some.further.now c.args.chunks.now rest more c.loop-chunk.invariant

pub returns : goal.returns
returns c =
    let small : c.loop-chunk.count < 2 ^ 62 = search rules in
    few_counted c.loop-chunk.count c.loop-chunk.rest.now c.args.chunks.now small c.in_default.ensures.cases c.loop-chunk.invariant
