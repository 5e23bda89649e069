-- The worked insert, on pages: over a store whose chunks lie in pages 3 and 4 it writes the second one again.
use Rattle.std.specs.Prelude.{◌≡◌, ℕ, false, List, [], ◌∷◌, map, Option, Some, None}
use Rattle.cell_values.specs.declared.datum.Row.{Row}
use Rattle.array_geom.specs.declared.chunk.Changed.{Changed}
use Rattle.chunk_map.specs.declared.directory.DirEntry.{DirEntry}
use Rattle.chunk_map.specs.declared.directory.Directory.{Directory}
use Rattle.file_meaning.specs.Standing.{stored_chunk}
use Rattle.commit_pages.specs.Costs.{catalog_of, payload_length}
use Rattle.commit_pages.specs.Inner.Examples.{schema, cell_at, stored, insert_at}
use Rattle.page_file.specs.Commits.{pages_of}
use Rattle.commit_pages.specs.declared.pages.laid.Laid.{Laid}
use Rattle.commit_pages.specs.Versions.{draft_of}
use Rattle.commit_pages.specs.Commits.{record_needs, record_laid}
use Rattle.commit_pages.specs.Laws.{IsOver}

abbrev pub four : List Row
four = cell_at 0 ∷ cell_at 1 ∷ cell_at 2 ∷ cell_at 3 ∷ []

abbrev pub lies_in : ℕ → ℕ → DirEntry
lies_in page k = record { at = record { items = k ∷ [] }; length = payload_length (schema 0) four (k ∷ []); birth = 1; pages = page ∷ [] }

abbrev pub newest : Directory
newest = record { entries = lies_in 3 0 ∷ lies_in 4 1 ∷ [] }

abbrev pub changed : Changed
changed = record { schema = schema 0; whole = false; chunks = stored_chunk (schema 0) four (1 ∷ []) ∷ [] }

abbrev pub inserted : Laid
inserted = record_laid (catalog_of (stored 0)) (1 ∷ 2 ∷ 6 ∷ []) newest (insert_at 0 2) (draft_of 2 (Some changed)) (7 ∷ 8 ∷ 9 ∷ [])

abbrev pub births_of : Option Directory → List ℕ
births_of None = []
births_of (Some directory) = map (λ entry. entry.birth) directory.entries

-- it takes a page for the payload, one for the directory and one for the record, and shares page 3
pub record AnInsertIsLaid : Type 0 where
  pub over : IsOver (stored 0) (insert_at 0 2) (catalog_of (stored 0)) (Some changed) newest
  pub needs : record_needs (catalog_of (stored 0)) newest (insert_at 0 2) (draft_of 2 (Some changed)) ≡ 3
  pub blobs : pages_of inserted.blobs ≡ 7 ∷ 8 ∷ []
  pub chain : inserted.chain.pages ≡ 9 ∷ []
  pub used : inserted.used ≡ record { version = 8 ∷ 3 ∷ 7 ∷ []; catalogue = 1 ∷ 2 ∷ 6 ∷ 9 ∷ [] }
  pub births : births_of inserted.directory ≡ 1 ∷ 2 ∷ []
