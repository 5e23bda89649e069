use Rattle.std.proofs.Common.{◌≡◌, ◌<◌, ◌||◌, ℕ, false, length, take, slice_index_or}
use Rattle.event_core.specs.Pages.{has_page}
use Rattle.event_core.proofs.reap.add_versions.Given as goal

abbrev pub invariant-loop-version : goal.invariant-loop-version
invariant-loop-version l = record {
  limit : length l.set ≡ length l.fn.set;
  pages : (p : ℕ) → p < length l.fn.set → slice_index_or l.set p false ≡ (slice_index_or l.fn.set p false || has_page (take l.version-index l.version-items) p);
}
