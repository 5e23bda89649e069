-- Logs of at most 64 records.
use Rattle.std.proofs.Common.{◌≡◌, ◌∙◌, ◌⊎◌, ◌+◌, ◌%◌, ℕ, Bool, true, false, [], ◌∷◌, Some, inl, inr, ap, arith}
use Rattle.std.specs.Prelude.{◌==◌, ◌≢◌, if◌then◌else◌, Option}
use Rattle.std.proofs.lemmas.Bool.Decides.{eqb_tells}
use Rattle.event_core.specs.declared.entry.Entry.TheVariants.{Pin, Unpin, Commit, Reap}
use Rattle.event_core.specs.Bases.{next_records, commits}
use Rattle.commit_pages.specs.Inner.Examples.{LogsComeRound}

-- a new log, or one more record
fresh_or_more : Bool → ℕ → Option ℕ
fresh_or_more full r = if full then Some 0 else Some (r + 1)

round_of : (n : ℕ) (full : Bool) → ((full ≡ true) × (n % 65 ≡ 64)) ⊎ ((full ≡ false) × (n % 65 ≢ 64)) → fresh_or_more full (n % 65) ≡ Some ((n + 1) % 65)
unfolding fresh_or_more
round_of n full (inl full_now) =
    let last : 0 ≡ (n + 1) % 65 = let e : n % 65 ≡ 64 = full_now.1 in omega arith in
    ap (λ (b : Bool). if b then Some 0 else Some (n % 65 + 1)) full_now.0 ∙ ap (λ (k : ℕ). Some k) last
round_of n full (inr room) =
    let next : n % 65 + 1 ≡ (n + 1) % 65 = let e : n % 65 ≢ 64 = room.1 in omega arith in
    ap (λ (b : Bool). if b then Some 0 else Some (n % 65 + 1)) room.0 ∙ ap (λ (k : ℕ). Some k) next

next_is : (n : ℕ) → next_records (Some (n % 65)) ≡ Some ((n + 1) % 65)
unfolding fresh_or_more
next_is n = round_of n (n % 65 == 64) (eqb_tells (n % 65) 64)

pub logs : LogsComeRound
logs records [] few = let e : records ≡ (records + 0) % 65 = omega arith in ap (λ (k : ℕ). Some k) e
logs records (Commit session change used ∷ before) few =
    let e : records + commits before + 1 ≡ records + (commits before + 1) = omega arith in
    ap next_records (logs records before few) ∙ next_is (records + commits before) ∙ ap (λ (k : ℕ). Some (k % 65)) e
logs records (Pin session ∷ before) few = logs records before few
logs records (Unpin session ∷ before) few = logs records before few
logs records (Reap ∷ before) few = logs records before few
