-- What is free after a reap.
use Rattle.std.proofs.Common.{◌≡◌, ◌<◌, ℕ, true, not, nat_lt, List, [], ◌∷◌, filter, length, refl, subst, sym, arith}
use Rattle.std.proofs.lemmas.Bool.Decides.{nat_tests}
use Rattle.version_reaper.specs.PageSets.{pages_below}
use Rattle.event_core.specs.declared.entry.Entry.TheVariants.{Reap}
use Rattle.event_core.specs.History.{History}
use Rattle.event_core.specs.Pages.{free_at, is_live}
use Rattle.store_ledger.specs.Ledger.{LedgerState, unused_pages, with_entries}
use Rattle.store_ledger.proofs.Pins.{one_more}
use Rattle.prepared_commits.specs.Parts.{free_pages, is_short}

less_than : (n m : ℕ) → nat_lt n m ≡ true → n < m
less_than n m less = grind (arith, nat_tests)

-- all pages that nobody can name are free, so where free ones are short, those are
pub reap_short : (needed : ℕ) (old new : LedgerState) → new ≡ with_entries (Reap ∷ []) old → is_short needed new ≡ true → length (unused_pages new) < needed
reap_short needed old new is short =
    let reaped : unused_pages (with_entries (Reap ∷ []) old) ≡ free_pages (with_entries (Reap ∷ []) old) =
    subst (λ (h : History). filter (λ page. not (is_live old.base h page)) (pages_below old.base.limit) ≡ free_at old.base h) (sym (one_more old.entries Reap)) refl in
    let same : unused_pages new ≡ free_pages new = subst (λ (l : LedgerState). unused_pages l ≡ free_pages l) (sym is) reaped in
    subst (λ (ps : List ℕ). length ps < needed) (sym same) (less_than (length (free_pages new)) needed short)
