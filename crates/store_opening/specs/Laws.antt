-- What holds of the base of a found file.
use Rattle.std.specs.Prelude.{◌≡◌, ℕ, [], length, map}
use Rattle.event_core.specs.Legal.{BeginsWithNames}
use Rattle.event_core.specs.Apart.{AreApart}
use Rattle.version_catalog.specs.Catalogs.{names_in}
use Rattle.file_meaning.specs.declared.meaning.found.Found.{Found}
use Rattle.file_reading.specs.Reading.{IsFound, LieApart}
use Rattle.store_opening.specs.Bases.{base_core}

-- a history begins there, with the catalogue's names and with pages for each version that can be named, and for no other
abbrev pub BasesBegin : Type 0
BasesBegin = (found : Found) (log limit : ℕ) → IsFound found → BeginsWithNames (base_core found log limit)

-- the pages of the catalogue and of the versions lie apart there, as they do in what is found
abbrev pub BasesLieApart : Type 0
BasesLieApart = (found : Found) (log limit : ℕ) → LieApart log found → AreApart (base_core found log limit) []

-- each array has as many directories as versions
abbrev pub DirectoriesAreCounted : Type 0
DirectoriesAreCounted = (found : Found) → IsFound found
    → map (λ entry. length entry.versions) (names_in found.catalog).arrays ≡ map (λ row. length row) found.directories
