use Rattle.std.proofs.Common.{◌≡◌, ◌<◌, ℕ, false, length, take, slice_index_or}
use Rattle.version_reaper.specs.PageSets.{is_held}
use Rattle.version_reaper.proofs.page_set.live.Given as goal

abbrev pub invariant-loop-pages : goal.invariant-loop-pages
invariant-loop-pages l = record {
  limit : length l.set ≡ l.limit;
  pages : (p : ℕ) → p < l.limit → slice_index_or l.set p false ≡ is_held (take l.pages-index l.lists) p;
}
