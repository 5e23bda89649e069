use Rattle.std.proofs.Common.{◌≡◌, ◌<◌, ◌||◌, ◌&&◌, ℕ, false, length, take, slice_index_or}
use Rattle.std.specs.List.{list_any}
use Rattle.version_reaper.specs.PageSets.{holds}
use Rattle.store_versions.specs.LeanRows.{is_needed}
use Rattle.store_versions.proofs.lean.lean.live.add_needed.Given as goal

abbrev pub invariant-loop-row : goal.invariant-loop-row
invariant-loop-row l = record {
  limit : length l.set ≡ length l.fn.set;
  pages : (p : ℕ) → p < length l.fn.set → slice_index_or l.set p false
      ≡ (slice_index_or l.fn.set p false || list_any (λ row. is_needed l.pins row && holds row.version.pages p) (take l.row-index l.rows));
}
