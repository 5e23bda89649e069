use Rattle.std.proofs.Common.{arith, ◌<◌, slice_index_or, sym, ◌∙◌}
use Rattle.chunk_cells.proofs.NearFronts.{next_kept, no_next, next_raised}
use Rattle.chunk_cells.proofs.NextLaws.{lower_first}
use Rattle.chunk_cells.proofs.assembly.near.+push_next.Goals as goal

pub overflow_add-k : goal.overflow_add-k
overflow_add-k t c =
    let below : slice_index_or c.args.chunk.now 0 0 < slice_index_or c.args.high.now 0 0 =
    lower_first c.args.high.now c.args.chunk.now (omega arith) (omega arith) c.requires.not_after (sym c.is_past.ensures ∙ c.if-is_past.true) in
    let fits = c.type_inv.high 0 in
    omega arith

pub returns-else-is_past : goal.returns-else-is_past
returns-else-is_past t c =
    next_kept c.args.low.now c.args.high.now c.args.chunk.now c.args.out.now.items _ _ c.in-len1-up.len_at_least c.in-len1-up-high.len_at_least
    c.in-len1-up-chunk.len_at_least c.if-k-l.false (sym c.is_past.ensures ∙ c.if-is_past.false) c.push-else-is_past.ensures.items c.push_next.ensures

pub returns-in-empty : goal.returns-in-empty
returns-in-empty t c = no_next c.args.low.now c.args.high.now c.args.chunk.now c.args.out.now.items c.in-empty.len_below

pub returns-then-is_past : goal.returns-then-is_past
returns-then-is_past t c =
    next_raised c.args.low.now c.args.high.now c.args.chunk.now c.args.out.now.items _ _ c.in-len1-up.len_at_least c.in-len1-up-high.len_at_least
    c.in-len1-up-chunk.len_at_least c.if-k-l.false (sym c.is_past.ensures ∙ c.if-is_past.true) c.push.ensures.items c.push_each-then-is_past.ensures
