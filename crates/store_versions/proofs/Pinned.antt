-- What a pin could name when it began stays live until its unpin.
use Rattle.std.proofs.Common.{◌≡◌, ◌∙◌, ℕ, Bool, true, not, ◌&&◌, nat_eq, [], ◌∷◌, ◌++◌, refl, ap}
use Rattle.std.specs.List.{list_any, list_all}
use Rattle.std.proofs.lemmas.List.Folds.{list_any-append}
use Rattle.std.proofs.lemmas.Map.Views.{any-filter_same}
use Rattle.std.proofs.lemmas.Bool.{and_parts, and_from, or_left, or_right, eqb-true, eq-eqb}
use Rattle.event_core.specs.PageSets.{holds}
use Rattle.event_core.specs.declared.entry.Entry.{Entry}
use Rattle.event_core.specs.declared.entry.Entry.TheVariants.{Pin, Unpin, Commit, Reap}
use Rattle.event_core.specs.declared.state.Core.{Core}
use Rattle.event_core.specs.History.{History, OpenPin, pages_at, catalogue_at, open_pins}
use Rattle.event_core.specs.Pages.{has_page, pin_names}
use Rattle.event_core.proofs.Tests.{any_weaker, eq_sym}
use Rattle.store_versions.specs.Promises.{keeps_pin, PinnedPagesStayLive}

-- a pin of a session that could name a page
abbrev keeps : Core → ℕ → ℕ → OpenPin → Bool
keeps base session page pin = nat_eq pin.session session && pin_names base page pin

other_session : (a s t : ℕ) → nat_eq a s ≡ true → not (nat_eq t s) ≡ true → not (nat_eq a t) ≡ true
other_session a s t e n = ap (λ k. not (nat_eq k t)) (eqb-true a s e) ∙ ap not (eq_sym s t) ∙ n

later_keeps : (session : ℕ) (entry : Entry) (later : History) → list_all (keeps_pin session) (entry ∷ later) ≡ true → list_all (keeps_pin session) later ≡ true
later_keeps session entry later ok = (and_parts (keeps_pin session entry) (list_all (keeps_pin session) later) ok).1

still_open : (base : Core) (before later : History) (session page : ℕ) → list_all (keeps_pin session) later ≡ true → has_page (pages_at base before) page ≡ true →
    list_any (keeps base session page) (open_pins (later ++ Pin session ∷ before)) ≡ true
still_open base before [] session page ok h =
    list_any-append (keeps base session page) (open_pins before) (record { session = session; before = before } ∷ [])
    ∙ or_right _ _ (or_left _ _ (and_from _ _ (eq-eqb session session refl) h))
still_open base before (Pin t ∷ later) session page ok h =
    list_any-append (keeps base session page) (open_pins (later ++ Pin session ∷ before)) (record { session = t; before = later ++ Pin session ∷ before } ∷ [])
    ∙ or_left _ _ (still_open base before later session page (later_keeps session (Pin t) later ok) h)
still_open base before (Unpin t ∷ later) session page ok h =
    any-filter_same (keeps base session page) (λ pin. not (nat_eq pin.session t)) true (λ pin e. other_session pin.session session t (and_parts _ _ e).0 (and_parts (keeps_pin session (Unpin t)) (list_all (keeps_pin session) later) ok).0) (open_pins (later ++ Pin session ∷ before))
    ∙ still_open base before later session page (later_keeps session (Unpin t) later ok) h
still_open base before (Commit t change used ∷ later) session page ok h = still_open base before later session page (later_keeps session (Commit t change used) later ok) h
still_open base before (Reap ∷ later) session page ok h = still_open base before later session page (later_keeps session Reap later ok) h

pub pinned_pages_stay_live : PinnedPagesStayLive
pinned_pages_stay_live base before later session page ok h =
    let now : History = later ++ Pin session ∷ before in
    or_right (nat_eq page 0) _
    (or_right (holds (catalogue_at base now) page) _
    (or_right (has_page (pages_at base now) page) _
    (any_weaker (keeps base session page) (pin_names base page) (λ pin e. (and_parts _ _ e).1) (open_pins now) (still_open base before later session page ok h))))
