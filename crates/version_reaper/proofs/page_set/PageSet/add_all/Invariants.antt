use Rattle.std.proofs.Common.{◌≡◌, ◌<◌, ◌||◌, ℕ, false, length, take, slice_index_or}
use Rattle.version_reaper.specs.PageSets.{holds}
use Rattle.version_reaper.proofs.page_set.PageSet.add_all.Given as goal

abbrev pub invariant-loop-page : goal.invariant-loop-page
invariant-loop-page l = record {
  limit : length l.self ≡ length l.fn.self;
  pages : (p : ℕ) → p < length l.fn.self → slice_index_or l.self p false ≡ (slice_index_or l.fn.self p false || holds (take l.page-index l.page-items) p);
}
