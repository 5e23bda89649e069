-- Damage that a read finds was there as the store began.
use Rattle.std.proofs.Common.{◌≡◌, ◌∙◌, ℕ, List, ap, subst, sym}
use Rattle.afl_outside.specs.Disk.{Moment}
use Rattle.cell_values.specs.declared.schema.Schema.{Schema}
use Rattle.array_store.specs.Event.{Event}
use Rattle.array_store.specs.StoreParts.{StoreParts}
use Rattle.array_store.specs.At.{standing}
use Rattle.store_state.specs.Payloads.{HasTold, WasDamagedAt}
use Rattle.array_store.specs.Standings.{Standing}
use Rattle.array_store.specs.declared.store.start.Start.{Start}
use Rattle.array_store.specs.Told.{IsTold, told}

-- what a turn's store says of its first versions holds of those that any events of the same start tell
pub damaged_was : {D : Type 0} (moment : D → Moment) (start : Start D) (old seen : List Event) (parts value : StoreParts D) → parts ≡ value → IsTold start seen (standing moment value) →
    (page : ℕ) (file : List ℕ) (schema : Schema) → (HasTold (moment parts.opened.value.disk).state file → WasDamagedAt page (standing moment parts).first file schema) →
    HasTold (moment start.opened.disk).state file → WasDamagedAt page (told start old).first file schema
damaged_was moment start old seen parts value e is page file schema was tells =
    let same = ap (standing moment) e ∙ is in
    subst (λ (s : Standing _). WasDamagedAt page s.first file schema) same (was (subst (λ (s : Standing _). HasTold (moment s.opened.disk).state file) (sym same) tells))
