use Rattle.std.proofs.Common.{◌≡◌, ◌<◌, ◌*◌, ◌+◌, ℕ, length, slice_index, slice_index_or}
use Rattle.page_chain.specs.Logs.{record_at}
use Rattle.page_chain.specs.declared.slots.layout.logs.RecordAt.{RecordAt}
use Rattle.page_chain.proofs.slots.layout.logs.open_entries.Given as goal

abbrev pub invariant-loop-entry : goal.invariant-loop-entry
invariant-loop-entry l = record {
  count : length l.records ≡ l.entry;
  opened : (k : ℕ) → k < l.entry → slice_index l.page (64 * k) ≡ 1;
  each : (d : RecordAt) (k : ℕ) → k < l.entry → slice_index_or l.records k d ≡ record_at (64 * k + 8) l.page;
}
