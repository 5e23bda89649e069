-- The number of a kind that no record has.
use Rattle.std.proofs.Common.{◌≡◌, ℕ, zero, suc, ◌+◌, List, ◌∷◌, length, Err, refl, sym, ap, add-one}
use Rattle.version_catalog.specs.Table.{record_at}

pub other_kind : (kind : ℕ) (bytes : List ℕ) → (kind ≡ 1 → ⊥) → (kind ≡ 2 → ⊥) → (kind ≡ 3 → ⊥) → (kind ≡ 4 → ⊥) → (kind ≡ 5 → ⊥) → record_at (kind ∷ bytes) ≡ Err (length bytes + 1)
unfolding record_at
other_kind zero bytes a b c d e = ap (λ (n : ℕ). Err n) (sym (add-one (length bytes)))
other_kind (suc zero) bytes a b c d e = absurd (a refl)
other_kind (suc (suc zero)) bytes a b c d e = absurd (b refl)
other_kind (suc (suc (suc zero))) bytes a b c d e = absurd (c refl)
other_kind (suc (suc (suc (suc zero)))) bytes a b c d e = absurd (d refl)
other_kind (suc (suc (suc (suc (suc zero))))) bytes a b c d e = absurd (e refl)
other_kind (suc (suc (suc (suc (suc (suc kind)))))) bytes a b c d e = ap (λ (n : ℕ). Err n) (sym (add-one (length bytes)))
