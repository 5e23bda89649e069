-- What decoding answers.
use Rattle.std.specs.Prelude.{◌≡◌, ℕ, ◌-◌, List, length, Result, Ok, Err, Some}
use Rattle.file_items.specs.Items.{wrong_at}
use Rattle.file_items.specs.declared.bytes.stop.Stop.{Stop}
use Rattle.file_items.specs.declared.bytes.stop.Stop.TheVariants as stops
use Rattle.backup_format.specs.declared.backup.BadBackup.{BadBackup}
use Rattle.backup_format.specs.declared.backup.BadBackup.TheVariants.{At, Memory}

abbrev pub IsBadBackup : BadBackup → List ℕ → Stop → Type 0
IsBadBackup bad bytes stops.Memory = bad ≡ Memory
IsBadBackup bad bytes (stops.Left left) = bad ≡ At (length bytes - left)

-- the reading's value, as a view sees it, or the offset of its first wrong item, unless memory ran out
abbrev pub Answers : {X Y : Type 0} → (X → Y) → Result X BadBackup → List ℕ → Result Y ℕ → Type 0
Answers view (Ok x) bytes reading = reading ≡ Ok (view x)
Answers view (Err Memory) bytes reading = Unit {0}
Answers view (Err (At at)) bytes reading = wrong_at (length bytes) reading ≡ Some at
