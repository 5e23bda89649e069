-- The core of each chunk that a new directory lists holds a coordinate.
use Rattle.std.proofs.Common.{◌≡◌, ℕ, Bool, true, false, List, [], ◌∷◌, map, refl, sym, subst}
use Rattle.std.specs.List.{AllByRecursion}
use Rattle.cell_values.specs.declared.schema.Schema.{Schema}
use Rattle.array_rows.specs.Boxes.{by_pairs}
use Rattle.array_geom.specs.declared.chunk.Chunk.{Chunk}
use Rattle.array_geom.specs.Geometry.{has_core}
use Rattle.chunk_map.specs.declared.directory.DirEntry.{DirEntry}
use Rattle.commit_pages.specs.Stored.{IsStored}
use Rattle.page_file.specs.declared.commits.placed.Placed.{Placed}
use Rattle.commit_pages.specs.Versions.{all_placed, draft, settled, entry_of, entries_of, directory_of}
use Rattle.commit_pages.proofs.Costs.{replaced_has, found_has}
use Rattle.commit_pages.proofs.Directories.{draft_rises, inserts_replace, stores_list_theirs}
use Rattle.store_state.specs.LaidLaws.{LaidDirectoriesHaveCores}

fresh_cores : (schema : Schema) (birth : ℕ) (chunks : List Chunk) (ps : List Placed) → AllByRecursion (IsStored schema) chunks
    → AllByRecursion (λ entry. has_core schema.dimensions entry.at.items ≡ true) (by_pairs (entry_of birth) (map (λ chunk. chunk.at) chunks) ps)
fresh_cores schema birth [] ps stored = tt
fresh_cores schema birth (chunk ∷ chunks) [] stored = tt
fresh_cores schema birth (chunk ∷ chunks) (p ∷ ps) stored = (stored.0.valid.framed.core, fresh_cores schema birth chunks ps stored.1)

pub have_cores : LaidDirectoriesHaveCores
have_cores changed newest birth pages valid before = by_test changed.whole refl
  where
    fresh : AllByRecursion (λ entry. has_core changed.schema.dimensions entry.at.items ≡ true) (entries_of (settled pages (draft birth changed)))
    fresh = fresh_cores changed.schema birth changed.chunks (all_placed pages (draft birth changed).payloads) valid.stored

    by_test : (b : Bool) → changed.whole ≡ b → AllByRecursion (λ entry. has_core changed.schema.dimensions entry.at.items ≡ true) (directory_of (settled pages (draft birth changed)) newest).entries
    by_test true is =
        subst (AllByRecursion (λ (entry : DirEntry). has_core changed.schema.dimensions entry.at.items ≡ true)) (sym (stores_list_theirs (settled pages (draft birth changed)) newest is)) fresh
    by_test false is =
        let had = before is in
        let here = settled pages (draft birth changed) in
        replaced_has (λ entry. has_core changed.schema.dimensions entry.at.items ≡ true) (entries_of here) newest.entries (directory_of here newest).entries
        (inserts_replace here newest (draft_rises changed birth valid.rising) had.0 is) fresh
        (λ e found none. found_has (λ entry. has_core changed.schema.dimensions entry.at.items ≡ true) newest.entries e.at.items e had.1 found)
