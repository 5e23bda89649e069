-- A log page that was read.
use Rattle.std.proofs.Common.{◌≡◌, ◌≢◌, ◌<◌, ◌≤◌, ℕ, ◌+◌, ◌*◌, List, length, slice_index, slice_index_or, subst, arith}
use Rattle.page_chain.specs.Logs.{record_at, IsLog, ArePrefix}
use Rattle.page_chain.specs.declared.slots.layout.logs.RecordAt.{RecordAt}

at_start : (k : ℕ) → 64 * k ≡ 0 + 64 * k
at_start k = omega arith

-- no entry after the open ones is open
pub all_read : (records : List RecordAt) (page : List ℕ) → ArePrefix records page → ((k : ℕ) → length records ≤ k → k < 64 → slice_index page (64 * k) ≢ 1) → IsLog 0 records page
all_read records page front behind = record {
  fits = front.fits;
  opened = λ k low. subst (λ (at : ℕ). slice_index page at ≡ 1) (at_start k) (front.opened k low);
  closed = λ k low high. subst (λ (at : ℕ). slice_index page at ≢ 1) (at_start k) (behind k low high);
  each = λ d k low. subst (λ (at : ℕ). slice_index_or records k d ≡ record_at (at + 8) page) (at_start k) (front.each d k low);
}
