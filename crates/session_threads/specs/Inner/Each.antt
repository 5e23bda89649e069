-- Items that change, each by itself.
use Rattle.std.specs.Prelude.{◌≡◌, ◌<◌, ℕ, List, length, slice_index_or}

-- as many are left, and what became of each stands at its place
pub record ChangesAll {T : Type 0} (Changes : T → T → Type 0) (old new : List T) : Type 0 where
  pub count : length new ≡ length old
  pub each : (k : ℕ) (item : T) → k < length old → Changes (slice_index_or old k item) (slice_index_or new k item)
