use Rattle.std.proofs.Common.{◌≢◌, ◌<◌, ◌≤◌, ◌*◌, ℕ, slice_index, subst}
use Rattle.page_chain.proofs.LogLemmas.{all_read}
use Rattle.page_chain.proofs.slots.layout.logs.log_in.Goals as goal

pub returns-else-is_open_from : goal.returns-else-is_open_from
returns-else-is_open_from c =
    let behind = subst (λ (first : ℕ). (k : ℕ) → first ≤ k → k < 64 → slice_index c.args.page.now (64 * k) ≢ 1) c.len.ensures.value c.if-is_open_from.ensures in
    all_read c.open_entries-records.result c.args.page.now c.open_entries-records.ensures behind
