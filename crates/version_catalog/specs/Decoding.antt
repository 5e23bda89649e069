-- What decoding answers.
use Rattle.std.specs.Prelude.{◌≡◌, ℕ, ◌-◌, List, length, Result, Ok, Err, Some}
use Rattle.file_items.specs.Items.{wrong_at}
use Rattle.file_items.specs.declared.bytes.stop.Stop.{Stop}
use Rattle.file_items.specs.declared.bytes.stop.Stop.TheVariants as stops
use Rattle.version_catalog.specs.declared.catalogs.decoding.BadCatalog.{BadCatalog}
use Rattle.version_catalog.specs.declared.catalogs.decoding.BadCatalog.TheVariants.{At, Memory}

abbrev pub Told : BadCatalog → List ℕ → Stop → Type 0
Told bad bytes stops.Memory = bad ≡ Memory
Told bad bytes (stops.Left left) = bad ≡ At (length bytes - left)

-- the reading's value, or the offset of its first wrong item, unless memory ran out
abbrev pub Answers : {X : Type 0} → Result X BadCatalog → List ℕ → Result X ℕ → Type 0
Answers (Ok x) bytes reading = reading ≡ Ok x
Answers (Err Memory) bytes reading = Unit {0}
Answers (Err (At at)) bytes reading = wrong_at (length bytes) reading ≡ Some at
