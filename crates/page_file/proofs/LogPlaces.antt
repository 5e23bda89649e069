-- A place of the log, whatever stands where there is none.
use Rattle.std.proofs.Common.{◌≡◌, ◌<◌, ◌∙◌, ℕ, zero, suc, List, [], ◌∷◌, length, get_or, Option, Some, None, IfSome, refl, ap, subst, arith}
use Rattle.page_chain.specs.declared.slots.layout.logs.RecordAt.{RecordAt}

any_default : (records : List RecordAt) (i : ℕ) (e d : RecordAt) → i < length records → get_or records i e ≡ get_or records i d
any_default [] i e d low = absurd (omega (arith, low))
any_default (first ∷ records) zero e d low = refl
any_default (first ∷ records) (suc i) e d low = any_default records i e d (omega (arith, low))

pub record_here : (slice records : List RecordAt) (i : ℕ) (e d : RecordAt) → slice ≡ records → i < length records → get_or slice i e ≡ get_or records i d
record_here slice records i e d is low = ap (λ (rs : List RecordAt). get_or rs i e) is ∙ any_default records i e d low

pub each_default : (P : List ℕ → RecordAt → Type 0) (told : Option (List ℕ)) (slice records : List RecordAt) (i : ℕ) (e : RecordAt) → slice ≡ records → i < length records
    → IfSome told (λ seen. P seen (get_or slice i e)) → IfSome told (λ seen. (d : RecordAt) → P seen (get_or records i d))
each_default P None slice records i e is low holds = tt
each_default P (Some seen) slice records i e is low holds = λ d. subst (P seen) (record_here slice records i e d is low) holds
