-- What making a database does to its disk.
use Rattle.std.specs.Prelude.{◌≡◌, ◌≢◌, ℕ, List, length, Some, IfSome, IsTrue}
use Rattle.afl_outside.specs.Counts.{Rose}
use Rattle.afl_outside.specs.Disk.{Moment, Only}
use Rattle.page_file.specs.Start.{IsEmptyDatabase}
use Rattle.run_opening.specs.declared.reports.notices.Notice.{Notice}
use Rattle.run_opening.specs.declared.reports.notices.Notice.TheVariants.{Done, Disk, Memory, NotEmpty}

-- from one moment of a disk to another it was made a database, or not, for the reason that the notice tells
abbrev pub Makes : Notice → Moment → Moment → Type 0
Makes Done old new = IfSome old.state.seen (λ seen. length seen ≡ 0)
    × (IsTrue old.state.honest
    → IfSome old.state.seen (λ _. (file : List ℕ) × (new.state.seen ≡ Some file) × IsEmptyDatabase file × Only file new.may_leave))
Makes Disk old new = Rose old.state.faults new.state.faults
Makes Memory old new = Rose old.state.wants new.state.wants
Makes (NotEmpty count) old new = IfSome old.state.seen (λ seen. (count ≡ length seen) × (count ≢ 0)) × (new.state.seen ≡ old.state.seen)
Makes _ old new = ⊥

-- an honest disk that holds the file of an empty database
pub record IsEmpty (disk : Moment) : Type 0 where
  pub honest : IsTrue disk.state.honest
  pub file : List ℕ
  pub read : disk.state.seen ≡ Some file
  pub form : IsEmptyDatabase file
