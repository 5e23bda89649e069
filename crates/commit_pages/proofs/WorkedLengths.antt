-- The directory of the worked store, with payloads on other pages and of other births than its cost has them, and a catalogue of it.
use Rattle.std.proofs.Common.{◌≡◌, ℕ, List, [], ◌∷◌, length, refl, codes, arith}
use Rattle.std.specs.List.{AllByRecursion}
use Rattle.cell_values.specs.declared.datum.Row.{Row}
use Rattle.chunk_rle.specs.Link.{has_cell}
use Rattle.chunk_rle.proofs.NearLemmas.{valid_placed}
use Rattle.chunk_rle.specs.Chunks.{spelling as payload_spelling}
use Rattle.chunk_rle.specs.Spelling.{spell_runs, spell_value}
use Rattle.chunk_rle.specs.Table.{is_same}
use Rattle.chunk_map.specs.declared.directory.DirEntry.{DirEntry}
use Rattle.chunk_map.specs.Entries.{numbers}
use Rattle.chunk_map.specs.Spelling.{spelling as directory_spelling, spell_entry}
use Rattle.file_meaning.specs.BlobAt.{BlobAt}
use Rattle.file_meaning.specs.Catalog.{Catalog}
use Rattle.file_meaning.specs.Catalogs.{IsBlob}
use Rattle.commit_pages.specs.Costs.{payload_length, directory_of, catalog_of}
use Rattle.commit_pages.specs.Lengths.{AreListed, HasItsLength, AreAlike, AreAlikeCatalogs}
use Rattle.commit_pages.specs.Inner.Examples.{schema, cell_at, stored}
use Rattle.commit_pages.proofs.CountingLengths.{directories_are_alike}
use Rattle.commit_pages.proofs.Orders.{numbers_listed}
use Rattle.commit_pages.proofs.Sharing.{four_rows}

abbrev four : List Row
four = cell_at 0 ∷ cell_at 1 ∷ cell_at 2 ∷ cell_at 3 ∷ []

abbrev entry : ℕ → ℕ → ℕ → DirEntry
entry k birth page = record { at = record { items = k ∷ [] }; length = payload_length (schema 0) four (k ∷ []); birth = birth; pages = page ∷ [] }

abbrev entries : List DirEntry
entries = entry 0 7 9 ∷ entry 1 3 4 ∷ []

abbrev at : BlobAt
at = record { length = 72; pages = 11 ∷ [] }

listed : AreListed (schema 0).dimensions (has_cell (schema 0).dimensions four) (numbers entries)
listed = record {
  rising = ((refl, tt), (tt, tt));
  sized = (refl, (refl, tt));
  listed = λ k len. numbers_listed (schema 0).dimensions k (valid_placed (schema 0) four_rows.valid).near len four four_rows.are_rows.in_bounds;
}

lengths : AllByRecursion (HasItsLength (schema 0) four) entries
unfolding payload_spelling spell_runs spell_value is_same
lengths = (record { bytes = refl; pages = refl }, (record { bytes = refl; pages = refl }, tt))

is_blob : IsBlob at
is_blob = record { some = (omega arith, omega arith); count = (refl, omega arith); each = (omega arith, tt) }

as_long : at.length ≡ length (directory_spelling (record { entries = entries }))
unfolding directory_spelling spell_entry payload_spelling spell_runs spell_value is_same
as_long = refl

alike : AreAlike at (directory_of (schema 0) four)
alike = directories_are_alike (schema 0) four entries at four_rows listed lengths is_blob as_long

catalog : Catalog
catalog = record { arrays = record { entry = record { name = codes "A"; schema = schema 0; next = 2; versions = 1 ∷ [] }; directories = at ∷ [] } ∷ [] }

catalogs : AreAlikeCatalogs catalog (catalog_of (stored 0))
unfolding catalog
catalogs = (record { entry = refl; directories = (alike, tt) }, tt)
