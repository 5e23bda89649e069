-- What a run that makes a database reports.
use Rattle.std.specs.Prelude.{◌≡◌, ◌≢◌, ℕ, List, [], ◌∷◌, length, Some, IfSome, IsTrue}
use Rattle.afl_outside.specs.Counts.{Rose}
use Rattle.afl_outside.specs.Disk.{Moment, Only}
use Rattle.page_file.specs.Start.{IsEmptyDatabase}
use Rattle.file_meaning.specs.Standing.{Stands}
use Rattle.run_opening.specs.declared.reports.notices.Notice.{Notice}
use Rattle.run_opening.specs.declared.reports.notices.Notice.TheVariants.{Done, Disk, Memory, NotEmpty}

-- the disk reads as this file of three pages, which stands for no arrays, and a crash leaves nothing else
pub record HoldsNoArrays (file : List ℕ) (disk : Moment) : Type 0 where
  pub read : disk.state.seen ≡ Some file
  pub form : IsEmptyDatabase file
  pub stands : Stands file []
  pub left : Only file disk.may_leave

-- an honest disk that tells its bytes holds no arrays
abbrev pub IsMade : Moment → Type 0
IsMade disk = IsTrue disk.state.honest → IfSome disk.state.first (λ _. (file : List ℕ) × HoldsNoArrays file disk)

-- What the notice tells of a device that was opened: it was empty and is a database, its count rose, or it had another length and
-- stands as it began.
abbrev pub TellsDevice : Notice → Moment → Type 0
TellsDevice Done disk = IfSome disk.state.first (λ bytes. length bytes ≡ 0) × IsMade disk
TellsDevice Disk disk = Rose 0 disk.state.faults
TellsDevice Memory disk = Rose 0 disk.state.wants
TellsDevice (NotEmpty count) disk = IfSome disk.state.first (λ bytes. (count ≡ length bytes) × (count ≢ 0)) × (disk.state.seen ≡ disk.state.first)
TellsDevice _ disk = ⊥

-- what these bytes of a device decide, where none of its calls fails
abbrev pub notice_by : List ℕ → Notice
notice_by [] = Done
notice_by (byte ∷ bytes) = NotEmpty (length (byte ∷ bytes))
