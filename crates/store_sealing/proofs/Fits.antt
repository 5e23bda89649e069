-- Free pages are pages that nobody can name.
use Rattle.std.proofs.Common.{◌≡◌, ◌∙◌, ℕ, zero, suc, ◌+◌, ◌-◌, ◌≤◌, Bool, true, false, not, if◌then◌else◌, List, [], ◌∷◌, length, Result, Ok, Err, IsTrue, refl, ap, arith}
use Rattle.std.specs.List.{filter}
use Rattle.afl_outside.specs.Disk.{Moment}
use Rattle.version_reaper.specs.PageSets.{pages_from, pages_below}
use Rattle.event_core.specs.declared.state.Core.{Core}
use Rattle.event_core.specs.Allowed.{IsBase, is_allowed}
use Rattle.event_core.specs.History.{History}
use Rattle.event_core.specs.Pages.{is_awaiting, is_live, free_at}
use Rattle.store_versions.proofs.Conserved.{pages_are_conserved}
use Rattle.store_versions.proofs.Legal.{ordered_is_allowed}
use Rattle.store_ledger.specs.Ledger.{LedgerState, history, unused_pages}
use Rattle.prepared_commits.specs.At.{IsAt}
use Rattle.prepared_commits.specs.Standings.{Standing}
use Rattle.prepared_commits.specs.Keeping.{Keeping}
use Rattle.prepared_commits.specs.declared.commits.fault.PrepareFault.{PrepareFault}
use Rattle.prepared_commits.specs.declared.commits.fault.PrepareFault.TheVariants.{SequenceEnd, Full, Memory}
use Rattle.prepared_commits.specs.Parts.{IsFullFor}
use Rattle.store_sealing.specs.Left.{FitsIn}

one_of_two : (b : Bool) (x : ℕ) (ls ws : List ℕ) (n : ℕ) → length ls + length ws ≡ n → length (if b then x ∷ ls else ls) + length (if not b then x ∷ ws else ws) ≡ suc n
one_of_two true x ls ws n e = omega (arith, e)
one_of_two false x ls ws n e = omega (arith, e)

two_parts : (t : ℕ → Bool) (xs : List ℕ) → length (filter t xs) + length (filter (λ x. not (t x)) xs) ≡ length xs
two_parts t [] = refl
two_parts t (x ∷ xs) = one_of_two (t x) x _ _ (length xs) (two_parts t xs)

how_many : (first count : ℕ) → length (pages_from first count) ≡ count
how_many first zero = refl
how_many first (suc count) = ap suc (how_many (first + 1) count)

less : (free live awaiting unused n : ℕ) → free + (live + awaiting) ≡ n → live + unused ≡ n → free ≤ unused
less free live awaiting unused n a b = omega (arith, a, b)

free_in_unused : (base : Core) (h : History) → IsBase base → IsTrue (is_allowed base h) → length (free_at base h) ≤ length (filter (λ page. not (is_live base h page)) (pages_below base.limit))
free_in_unused base h b ok =
    less (length (free_at base h)) (length (filter (is_live base h) (pages_below base.limit))) (length (filter (is_awaiting base h) (pages_below base.limit))) _ (base.limit - 1)
    (pages_are_conserved base h b ok) (two_parts (is_live base h) (pages_below base.limit) ∙ how_many 1 (base.limit - 1))

trans : (a b c : ℕ) → a ≤ b → b ≤ c → a ≤ c
trans a b c x y = omega (arith, x, y)

-- what fits in the free pages fits in those that nobody can name
pub fits_in : {A D : Type 0} (moment : D → Moment) (s : Standing D) (k : Keeping) (n : ℕ) (r : Result A PrepareFault) → IsAt moment s k → IsFullFor n r s.ledger → FitsIn n r s.ledger
fits_in moment s k n (Ok p) x fits =
    let allowed = ordered_is_allowed s.ledger.base (history s.ledger) x.kept.in_order.ordered in
    trans n (length (free_at s.ledger.base (history s.ledger))) (length (unused_pages s.ledger)) fits (free_in_unused s.ledger.base (history s.ledger) allowed.0 allowed.1)
fits_in moment s k n (Err SequenceEnd) x fits = tt
fits_in moment s k n (Err (Full most free)) x fits = fits
fits_in moment s k n (Err Memory) x fits = tt
