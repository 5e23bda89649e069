-- A file opens as one root with one log.
use Rattle.std.proofs.Common.{◌≡◌, ◌≤◌, ⊎_elim, ℕ, ◌*◌, List, length, sym, ◌∙◌, subst, arith}
use Rattle.std.proofs.lemmas.List.{same_lists}
use Rattle.std.proofs.lemmas.Bool.{cases_lt}
use Rattle.std.proofs.lemmas.Option.{same_Some}
use Rattle.page_chain.specs.Logs.{IsLog}
use Rattle.page_chain.specs.Opens.{HasLog, OpensAs}
use Rattle.page_chain.specs.declared.slots.layout.sides.Format.{Format}
use Rattle.page_chain.specs.declared.slots.layout.sides.Format.TheVariants.{One, Two}
use Rattle.page_chain.specs.declared.slots.layout.roots.OpenRoot.{OpenRoot}
use Rattle.page_chain.specs.declared.slots.layout.logs.RecordAt.{RecordAt}

no_longer : (place : ℕ) (a b : List RecordAt) (file : List ℕ) → IsLog place a file → IsLog place b file → length b ≤ length a
no_longer place a b file p q = ⊎_elim (λ more. absurd (p.closed (length a) (omega arith) (omega (arith, more, q.fits)) (q.opened (length a) more))) (λ within. within) (cases_lt (length a) (length b))

one_log : (place : ℕ) (a b : List RecordAt) (file : List ℕ) → IsLog place a file → IsLog place b file → a ≡ b
one_log place a b file p q =
    let more : length b ≤ length a = no_longer place a b file p q in
    let less : length a ≤ length b = no_longer place b a file q p in
    same_lists a b (omega (arith, more, less)) (λ k d low. p.each d k low ∙ sym (q.each d k (omega (arith, low, less))))

same_log : (format : Format) (log : ℕ) (a b : List RecordAt) (file : List ℕ) → HasLog format log a file → HasLog format log b file → a ≡ b
same_log One log a b file p q = p ∙ sym q
same_log Two log a b file p q = one_log (4096 * log) a b file p.1 q.1

pub one_root : (a b : OpenRoot) (first second : List RecordAt) (file : List ℕ) → OpensAs a first file → OpensAs b second file → (a ≡ b) × (first ≡ second)
one_root a b first second file p q =
    let same : a ≡ b = same_Some a b (sym p.slot ∙ q.slot) in
    (same, same_log b.format b.root.log first second file (subst (λ (it : OpenRoot). HasLog it.format it.root.log first file) same p.log) q.log)
