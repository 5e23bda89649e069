-- How a failure is told, and what decoding answers.
use Rattle.std.proofs.Common.{◌≡◌, ℕ, List, length, Result, Ok, Err, sym, ap, subst, ◌∙◌}
use Rattle.file_items.specs.Items.{Stopped, wrong_at}
use Rattle.file_items.specs.declared.bytes.stop.Stop.{Stop}
use Rattle.file_items.specs.declared.bytes.stop.Stop.TheVariants as stops
use Rattle.version_catalog.specs.declared.catalogs.decoding.BadCatalog.{BadCatalog}
use Rattle.version_catalog.specs.Decoding.{Answers, Told}

pub told_is : {X : Type 0} (bad : BadCatalog) (bytes : List ℕ) (stop : Stop) (reading : Result X ℕ) → Told bad bytes stop → Stopped stop reading → Answers (Err bad) bytes reading
told_is bad bytes stops.Memory reading told fails = subst (λ (b : BadCatalog). Answers (Err b) bytes reading) (sym told) tt
told_is bad bytes (stops.Left left) reading told fails = subst (λ (b : BadCatalog). Answers (Err b) bytes reading) (sym told) (ap (wrong_at (length bytes)) fails)

-- where the reading of some bytes is known
pub only_found : {X : Type 0} (bytes : List ℕ) (reading : Result X ℕ) (found x : X) → reading ≡ Ok x → reading ≡ Ok found → Answers (Ok found) bytes (Ok x)
only_found bytes reading found x again read = sym again ∙ read

pub only_stopped : {X : Type 0} (bytes : List ℕ) (reading : Result X ℕ) (bad : BadCatalog) (stop : Stop) (x : X) → reading ≡ Ok x → Told bad bytes stop → Stopped stop reading → Answers (Err bad) bytes (Ok x)
only_stopped bytes reading bad stop x again told stopped = told_is bad bytes stop (Ok x) told (subst (Stopped stop) again stopped)
