-- An array that is removed by a new base: what is laid of it is what its file has.
use Rattle.std.specs.Prelude.{[], ◌∷◌, None}
use Rattle.page_chain.specs.Places.{KeepsPages}
use Rattle.chunk_map.specs.declared.directory.Directory.{Directory}
use Rattle.commit_pages.specs.declared.pages.laid.Laid.{Laid}
use Rattle.commit_pages.specs.Commits.{base_laid}
use Rattle.page_file.specs.Commits.{base_pages, HoldsAll}
use Rattle.file_meaning.specs.Inner.FileExample.{database, file}
use Rattle.file_meaning.specs.Inner.NextExample.{found, slots}
use Rattle.file_meaning.specs.Inner.Removed.{change, next}
use Rattle.store_state.specs.LaidPremises.{IsCommit, IsLaidBase}

abbrev pub no_directory : Directory
no_directory = record { entries = [] }

-- the next catalogue in page 5, and the log in page 6
abbrev pub removal : Laid
removal = base_laid found.catalog no_directory change None (5 ∷ []) 6

-- all that the law of bases asks holds of these files
pub record ARemovalIsLaid : Type 0 where
  pub commit : IsCommit file slots database found change None no_directory
  pub laid : IsLaidBase slots found change None no_directory (5 ∷ []) 6 removal
  pub kept : KeepsPages (0 ∷ base_pages removal.blobs removal.chain 6) file next
  pub held : HoldsAll next removal.blobs removal.chain
