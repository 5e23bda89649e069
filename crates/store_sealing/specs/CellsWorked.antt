-- Witnesses over the worked store: a commit that was written as far as that its slot wasn't closed for sure, a change whose chunks come with it,
-- and two images of which either may occur while a change is in doubt.
use Rattle.std.specs.Prelude.{true, [], ◌∷◌, None, Some}
use Rattle.array_geom.specs.declared.chunk.Changed.{Changed}
use Rattle.file_meaning.specs.Inner.FileExample.{database, file, rows, schema}
use Rattle.file_meaning.specs.Standing.{Stands, stored_chunk}
use Rattle.file_meaning.specs.Inner.NextExample.{change, next}
use Rattle.page_chain.specs.Steps.{doubted}
use Rattle.page_file.specs.declared.commits.stopped.Stopped.TheVariants as stages
use Rattle.prepared_commits.specs.Standings.{StandsFor}
use Rattle.prepared_commits.specs.Worked.{worked_keeping, worked_moment, worked_slots}
use Rattle.prepared_commits.specs.Prepared.{IsAsked}
use Rattle.store_sealing.specs.StepsWorked.{pinned_store, prepared_removal}
use Rattle.store_sealing.specs.CellsLaws.{IsWritten}
use Rattle.store_sealing.specs.Moves.{StopsAt}

-- its disk has one moment, which is that before the commit and that after it
pub record ACommitIsWritten : Type 0 where
  pub written : IsWritten worked_moment pinned_store worked_keeping prepared_removal database (doubted worked_slots) tt
  pub stops : StopsAt None stages.Closing worked_slots (doubted worked_slots) prepared_removal.blobs prepared_removal.chain (worked_moment tt)
      (worked_moment tt)

-- what `store(A, A)` writes over the worked store: the one chunk that stands
abbrev pub stored_again : Changed
stored_again = record { schema = schema; whole = true; chunks = stored_chunk schema rows (0 ∷ []) ∷ [] }

-- this is asked of a store that began as a database
abbrev pub ChunksAreAsked : Type 0
ChunksAreAsked = IsAsked worked_moment pinned_store change (Some stored_again)

-- While this change is in doubt either image may occur: the file without its record, and the one with it, which doesn't stand for the database
-- before the change
pub record BothMayOccur : Type 0 where
  pub without : StandsFor database (Some change) file
  pub behind : StandsFor database (Some change) next
  pub apart : ¬ Stands next database
