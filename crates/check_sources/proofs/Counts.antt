-- Counts of cells that are cut off at a number.
use Rattle.std.proofs.Common.{◌≡◌, ℕ, ◌+◌, ◌-◌, ◌*◌, ◌^◌, ◌<◌, min, List, [], ◌∷◌, ◌++◌, length, take, slice_index_or, sym, ap, ◌∙◌, arith}
use Rattle.std.proofs.lemmas.List.{take_more}
use Rattle.std.proofs.Math.Nat.{mul_assoc}
use Rattle.cell_values.specs.declared.schema.Dimension.{Dimension}
use Rattle.logical_plan.specs.Typing.{places_along, places_in}
use Rattle.check_rules.proofs.Capped.{capped}

count_more : (xs : List Dimension) (d : Dimension) → places_in (xs ++ d ∷ []) ≡ places_in xs * places_along d
count_more [] d = omega arith
count_more (x ∷ xs) d = ap (λ n. places_along x * n) (count_more xs d) ∙ sym (mul_assoc (places_along x) (places_in xs) (places_along d))

-- one dimension more
pub counts_on : (xs : List Dimension) (i : ℕ) (d : Dimension) → i < length xs
    → min (min (places_in (take i xs)) (2 ^ 64 - 1) * min (places_along (slice_index_or xs i d)) (2 ^ 64 - 1)) (2 ^ 64 - 1) ≡ min (places_in (take (i + 1) xs)) (2 ^ 64 - 1)
counts_on xs i d h =
    capped (places_in (take i xs)) (places_along (slice_index_or xs i d)) (2 ^ 64 - 1) (omega arith)
    ∙ ap (λ n. min n (2 ^ 64 - 1)) (sym (ap places_in (take_more xs i d h) ∙ count_more (take i xs) (slice_index_or xs i d)))
