-- A store is reaped after its sessions.
use Rattle.std.proofs.Common.{◌≡◌, ◌∙◌, ℕ, Bool, true, false, not, ◌&&◌, nat_eq, if◌then◌else◌, List, [], ◌∷◌, inl, inr, refl, ap, sym, subst, append-nil}
use Rattle.std.specs.List.{filter, list_any}
use Rattle.std.proofs.lemmas.Bool.{eq-eqb, or_from, or_left, or_right}
use Rattle.version_reaper.specs.PageSets.{holds, pages_below}
use Rattle.event_core.specs.declared.entry.Entry.TheVariants.{Reap}
use Rattle.event_core.specs.declared.state.Core.{Core}
use Rattle.event_core.specs.History.{History}
use Rattle.event_core.specs.Pages.{is_live}
use Rattle.event_core.proofs.Tests.{holds_filter}
use Rattle.store_ledger.specs.Ledger.{has_room, history, is_waiting, reap_comes}
use Rattle.store_ledger.proofs.Pins.{one_more}
use Rattle.store_state.specs.declared.state.event.Event.TheVariants.{Entered}
use Rattle.store_state.specs.Standings.{Standing, with_entries}
use Rattle.array_store.specs.Growth.{AddsEvents}
use Rattle.run_opening.specs.declared.reports.notices.Notice.{Notice}
use Rattle.run_opening.specs.declared.reports.notices.Notice.TheVariants.{Memory}
use Rattle.run_opening.specs.Ends.{IsReaped}

kept_out : (f t h : Bool) → f ≡ (t && h) → h ≡ true → (not f && t) ≡ false
kept_out true t h e have = refl
kept_out false true true e have = absurd cc
kept_out false true false e have = absurd cc
kept_out false false h e have = refl

none_left : (t : ℕ → Bool) (xs ys : List ℕ) → ((page : ℕ) → holds ys page ≡ true → holds xs page ≡ true) → list_any (λ page. not (holds (filter t xs) page) && t page) ys ≡ false
none_left t xs [] within = refl
none_left t xs (y ∷ ys) within =
    or_from (not (holds (filter t xs) y) && t y) (list_any (λ page. not (holds (filter t xs) page) && t page) ys)
    (kept_out (holds (filter t xs) y) (t y) (holds xs y) (holds_filter t xs y) (within y (or_left (nat_eq y y) (holds ys y) (eq-eqb y y refl))))
    (none_left t xs ys (λ page e. within page (or_right (nat_eq y page) (holds ys page) e)))

-- behind a reap no page awaits one
after_reap : (base : Core) (h : History) → is_waiting base (Reap ∷ h) ≡ false
after_reap base h = none_left (λ page. not (is_live base h page)) (pages_below base.limit) (pages_below base.limit) (λ page e. e)

and_none : (a b : Bool) → b ≡ false → (a && b) ≡ false
and_none true b none = none
and_none false b none = refl

none_comes : {D : Type 0} (s : Standing D) → reap_comes (with_entries (Reap ∷ []) s).ledger ≡ false
none_comes s =
    and_none (has_room (with_entries (Reap ∷ []) s).ledger 1) (is_waiting s.ledger.base (history (with_entries (Reap ∷ []) s).ledger))
    (ap (is_waiting s.ledger.base) (one_more s.ledger.entries Reap) ∙ after_reap s.ledger.base (history s.ledger))

module _ {D : Type 0} (old new : Standing D) (notice : Notice) where
  pub came : (comes : Bool) → comes ≡ reap_comes old.ledger → new ≡ (if comes then with_entries (Reap ∷ []) old else old)
      → AddsEvents (if comes then Entered Reap ∷ [] else []) old new → IsReaped notice old new
  came true comes is adds = record {
    start = adds.start;
    more = Entered Reap ∷ [];
    reap = inr refl;
    grown = adds.grown;
    done = λ memory. subst (λ (s : Standing D). reap_comes s.ledger ≡ false) (sym is) (none_comes old);
  }
  came false comes is adds = record {
    start = adds.start;
    more = [];
    reap = inl refl;
    grown = adds.grown;
    done = λ memory. subst (λ (s : Standing D). reap_comes s.ledger ≡ false) (sym is) (sym comes);
  }

  pub lacked : notice ≡ Memory → new ≡ old → IsReaped notice old new
  lacked memory is = subst (IsReaped notice old) (sym is)
      (record { start = refl; more = []; reap = inl refl; grown = sym (append-nil _); done = λ other. absurd (other memory) })
