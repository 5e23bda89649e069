-- Two arrays, one with two versions: one of these goes, and an array is stored between them.
use Rattle.std.proofs.Common.{◌≡◌, ℕ, ◌<◌, ◌^◌, pos, true, List, [], ◌∷◌, map, length, Some, None, refl, codes, arith}
use Rattle.std.specs.Prelude.{IsTrue}
use Rattle.std.specs.List.{AllZip}
use Rattle.cell_values.specs.declared.schema.Schema.{Schema}
use Rattle.cell_values.specs.declared.schema.Kind.TheVariants.{Int64}
use Rattle.chunk_map.specs.declared.directory.DirEntry.{DirEntry}
use Rattle.chunk_map.specs.declared.directory.Directory.{Directory}
use Rattle.logical_plan.specs.Query.{scanned}
use Rattle.file_meaning.specs.Change.{Change}
use Rattle.file_meaning.specs.Change.TheVariants.{Store, RemoveVersions}
use Rattle.file_meaning.specs.Allowed.{names_allow}
use Rattle.file_meaning.specs.Changes.{names_after, newest_of}
use Rattle.file_meaning.specs.Stored.{AreStored}
use Rattle.file_meaning.specs.BlobAt.{BlobAt}
use Rattle.file_meaning.specs.Catalog.{Catalog}
use Rattle.file_meaning.specs.Catalogs.{IsBlob, IsCatalog, names_in}
use Rattle.file_meaning.specs.Changed.{after_change}
use Rattle.store_versions.specs.VersionPages.{VersionPages}
use Rattle.store_versions.specs.History.{pages_after}
use Rattle.store_state.specs.LaidPremises.{pages_made}
use Rattle.file_meaning.specs.Next.{Made, Rows, blob_of, rows_after}
use Rattle.store_versions.specs.Rows.{first_rows}
use Rattle.store_versions.specs.Seen.{version_of}
use Rattle.store_versions.specs.Versions.{MadeVersion, directory_of, versions_after}
use Rattle.store_versions.proofs.Made.{bases_have_directories}
use Rattle.store_state.specs.RowsLaws.{StandInOrder}
use Rattle.store_state.specs.Rows.{directories_in, pages_in, pages_of_rows, AreInOrder, IsPagesOf, IsMadeWith}

abbrev line : Schema
line = record { attributes = record { name = codes "v"; kind = Int64; nullable = true } ∷ []; dimensions = record { name = codes "i"; lo = pos 0; hi = pos 3; chunk = 2; overlap = 0 } ∷ [] }

abbrev blob : ℕ → BlobAt
blob page = record { length = 44; pages = page ∷ [] }

abbrev entry : ℕ → DirEntry
entry page = record { at = record { items = 0 ∷ [] }; length = 49; birth = 1; pages = page ∷ [] }

-- a directory that lists the chunk 0
abbrev directory : ℕ → Directory
directory page = record { entries = entry page ∷ [] }

-- A@1 and A@2, C@1
abbrev catalog : Catalog
catalog = record {
  arrays = record { entry = record { name = codes "A"; schema = line; next = 3; versions = 1 ∷ 2 ∷ [] }; directories = blob 7 ∷ blob 8 ∷ [] }
      ∷ record { entry = record { name = codes "C"; schema = line; next = 2; versions = 1 ∷ [] }; directories = blob 9 ∷ [] } ∷ [];
}

abbrev rows : Rows
rows = (directory 4 ∷ directory 5 ∷ []) ∷ (directory 6 ∷ []) ∷ []

abbrev versions : List MadeVersion
versions = map version_of (first_rows (names_in catalog).arrays rows)

abbrev pages_of : List ℕ → ℕ → List ℕ → VersionPages
pages_of name version pages = record { name = name; version = version; pages = pages }

abbrev pages : List VersionPages
pages = pages_of (codes "A") 1 (7 ∷ 4 ∷ []) ∷ pages_of (codes "A") 2 (8 ∷ 5 ∷ []) ∷ pages_of (codes "C") 1 (9 ∷ 6 ∷ []) ∷ []

are_stored : AreStored (names_in catalog)
are_stored = record {
  count = omega arith;
  rising = (refl, tt);
  each = (
    record { name = refl; schema = refl; named = record { attributes = (refl, tt); dimensions = (refl, tt) }; next = (omega arith, omega arith); versions = (omega arith, omega arith, (omega arith, omega arith, tt)) },
    (record { name = refl; schema = refl; named = record { attributes = (refl, tt); dimensions = (refl, tt) }; next = (omega arith, omega arith); versions = (omega arith, omega arith, tt) }, tt),
  );
}

one_page : (page : ℕ) → page < 2 ^ 32 → IsBlob (blob page)
one_page page low = record { some = (omega arith, omega arith); count = (refl, omega arith); each = (low, tt) }

is_catalog : IsCatalog catalog
is_catalog = record {
  names = are_stored;
  each = (
    record { one_each = refl; blobs = (one_page 7 (omega arith), (one_page 8 (omega arith), tt)) },
    (record { one_each = refl; blobs = (one_page 9 (omega arith), tt) }, tt),
  );
}

stands : StandInOrder catalog versions
stands = record { stored = are_stored; have = bases_have_directories (names_in catalog) rows refl; order = (refl, (refl, tt)) }

first : (map (λ e. length e.versions) (names_in catalog).arrays ≡ map (λ row. length row) rows) × (directories_in catalog versions ≡ rows)
first = (refl, refl)

paged : AllZip IsPagesOf pages versions × (pages_of_rows catalog (directories_in catalog versions) ≡ pages_in catalog pages)
paged = ((record { name = refl; version = refl }, (record { name = refl; version = refl }, (record { name = refl; version = refl }, tt))), refl)

newest : directory_of (codes "A") (newest_of (names_in catalog).arrays (codes "A")) versions ≡ Some (directory 5)
newest = refl

-- ---- A@1 goes

abbrev cut : Change
cut = RemoveVersions (codes "A") 2

abbrev cut_rows : Rows
cut_rows = (directory 5 ∷ []) ∷ (directory 6 ∷ []) ∷ []

cut_stands : IsTrue (names_allow (names_in catalog) cut) × IsMadeWith cut None (directory 0) × AreInOrder (names_after (names_in catalog) cut) (versions_after (names_in catalog) cut (directory 0) versions)
cut_stands = (refl, tt, (refl, (refl, tt)))

cut_follows : (directories_in (after_change catalog cut None) (versions_after (names_in catalog) cut (directory 0) versions) ≡ cut_rows) × (rows_after (names_in catalog).arrays cut None rows ≡ cut_rows)
    × (pages_of_rows (after_change catalog cut None) cut_rows ≡ pages_in (after_change catalog cut None) (pages_after (names_in catalog) cut [] pages))
cut_follows = (refl, refl, refl)

-- ---- B is stored

abbrev store : Change
store = Store (codes "B") line (scanned (record { name = codes "C"; version = 1; schema = line }))

abbrev made : Made
made = record { at = blob 10; directory = directory 11 }

abbrev next_rows : Rows
next_rows = (directory 4 ∷ directory 5 ∷ []) ∷ (directory 11 ∷ []) ∷ (directory 6 ∷ []) ∷ []

store_stands : IsTrue (names_allow (names_in catalog) store) × IsMadeWith store (Some made) (directory 11)
    × AreInOrder (names_after (names_in catalog) store) (versions_after (names_in catalog) store (directory 11) versions)
store_stands = (refl, refl, (refl, (refl, (refl, tt))))

store_follows : (directories_in (after_change catalog store (blob_of (Some made))) (versions_after (names_in catalog) store (directory 11) versions) ≡ next_rows)
    × (rows_after (names_in catalog).arrays store (Some made) rows ≡ next_rows)
    × (pages_of_rows (after_change catalog store (blob_of (Some made))) next_rows
    ≡ pages_in (after_change catalog store (blob_of (Some made))) (pages_after (names_in catalog) store (pages_made (Some made)) pages))
store_follows = (refl, refl, refl)
