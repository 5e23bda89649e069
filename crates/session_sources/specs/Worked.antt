-- What a session does in two turns, between which another removes an array; and which versions names have.
use Rattle.std.specs.Prelude.{◌≡◌, None, Some, [], ◌++◌, codes}
use Rattle.file_meaning.specs.Inner.FileExample.{schema}
use Rattle.snapshot_manager.specs.Worked.{worked_others, worked_own, worked_pinned, worked_seen}
use Rattle.session_sources.specs.Courses.{AddsOwn}
use Rattle.session_sources.specs.Stored.{schema_of}

-- each fact computes
pub record IsWorked : Type 0 where
  -- session 0 pinned, then another session did what it did, and then session 0 unpinned
  pub pinning : AddsOwn 0 worked_seen [] worked_seen
  pub waiting : AddsOwn 0 [] worked_seen (worked_seen ++ worked_others)
  pub whole : AddsOwn 0 (worked_seen ++ worked_own) [] ((worked_seen ++ worked_others) ++ worked_own)
  -- the pin has version 1 of A, and no other
  pub named : schema_of worked_pinned.names (codes "A") 1 ≡ Some schema
  pub unnamed : schema_of worked_pinned.names (codes "A") 2 ≡ None
  pub other : schema_of worked_pinned.names (codes "B") 1 ≡ None
