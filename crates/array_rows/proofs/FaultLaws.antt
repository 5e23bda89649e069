-- Numbers have no faults.
use Rattle.std.proofs.Common.{◌≡◌, ℕ, zero, suc, ℤ, List, [], ◌∷◌, map, None, refl}
use Rattle.std.specs.Prelude.{slice_index_or}
use Rattle.cell_values.specs.declared.datum.Datum.TheVariants.{Null, Int}
use Rattle.array_rows.specs.CellFaults.{fault_of_value}

pub no_faulty_number : (numbers : List ℤ) (k : ℕ) → None ≡ fault_of_value (slice_index_or (map Int numbers) k Null)
no_faulty_number [] k = refl
no_faulty_number (n ∷ numbers) zero = refl
no_faulty_number (n ∷ numbers) (suc k) = no_faulty_number numbers k
