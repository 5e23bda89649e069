-- The file of one array with two cells, and one whose payload is zeros.
use Rattle.std.specs.Prelude.{◌≡◌, ℕ, List, ◌++◌, Ok, Err}
use Rattle.file_meaning.specs.Inner.FileExample.{catalog_bytes, directory_bytes, file, four, front, zeros}
use Rattle.file_checking.specs.Checks.{checked}
use Rattle.file_checking.specs.declared.sound.CheckFault.TheVariants.{Damaged}

-- page 1 has the catalogue, page 2 the empty log, page 3 the directory, which says that the payload lies in page 4
unfoldable pub damaged_file : List ℕ
damaged_file =
    front ++ ((four 0 ++ (catalog_bytes 3 ++ zeros 4018)) ++ (zeros 4096 ++ ((directory_bytes 0 2 4 ++ zeros 4056) ++ zeros 4096)))

abbrev pub TwoCellsAreSound : Type 0
TwoCellsAreSound = checked file ≡ Ok (record { arrays = 1; versions = 1; chunks = 1 })

abbrev pub ZerosAreDamaged : Type 0
ZerosAreDamaged = checked damaged_file ≡ Err (Damaged 4)
