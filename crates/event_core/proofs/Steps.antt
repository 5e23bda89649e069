-- One step of the core is one more entry of the history.
use Rattle.std.proofs.Common.{◌≡◌, ◌∙◌, ℕ, Bool, true, false, not, ◌&&◌, ◌||◌, nat_eq, List, [], ◌∷◌, length, refl, ap, sym, add-one}
use Rattle.std.specs.List.{list_any, list_all}
use Rattle.std.proofs.lemmas.List.{map-append}
use Rattle.std.proofs.lemmas.List.Folds.{list_any-append}
use Rattle.std.proofs.lemmas.Map.Views.{any-filter_same}
use Rattle.std.proofs.lemmas.Bool.{eqb-true}
use Rattle.plan_changes.specs.Names.{Names}
use Rattle.plan_changes.specs.Allowed.{names_allow}
use Rattle.version_reaper.specs.PageSets.{holds, pages_below}
use Rattle.event_core.specs.declared.entry.Entry.{Entry}
use Rattle.event_core.specs.declared.entry.Entry.TheVariants.{Pin, Unpin, Commit, Reap}
use Rattle.event_core.specs.declared.state.VersionPages.{VersionPages}
use Rattle.event_core.specs.declared.state.CorePin.{CorePin}
use Rattle.event_core.specs.declared.state.Core.{Core}
use Rattle.event_core.specs.History.{History, names_at, pages_at, catalogue_at, open_pins}
use Rattle.event_core.specs.Pages.{has_page, is_live, fresh_at, free_at}
use Rattle.event_core.specs.Allowed.{IsBase, is_pinned, are_different, allows}
use Rattle.event_core.specs.Replay.{pin_at, core_at, core_after, core_allows, is_core_live, is_core_pinned}
use Rattle.event_core.proofs.Tests.{any_map, map_filter, filter_agrees, eq_sym}

parts : (names : Names) (pages : List VersionPages) (catalogue : List ℕ) (limit : ℕ) (pins qins : List CorePin) (free gree : List ℕ) (n m : ℕ) → pins ≡ qins → free ≡ gree → n ≡ m →
    ◌≡◌ {A = Core} (record { names = names; pages = pages; catalogue = catalogue; pins = pins; free = free; limit = limit; entries = n })
    (record { names = names; pages = pages; catalogue = catalogue; pins = qins; free = gree; limit = limit; entries = m })
parts names pages catalogue limit pins qins free gree n m p f e = λ i. record { names = names; pages = pages; catalogue = catalogue; pins = p i; free = f i; limit = limit; entries = e i }

-- the core tells what is live
pub core_live : (base : Core) (h : History) (page : ℕ) → is_live base h page ≡ is_core_live (core_at base h) page
core_live base h page = ap (λ b. nat_eq page 0 || (holds (catalogue_at base h) page || (has_page (pages_at base h) page || b))) (sym (any_map (pin_at base) (λ pin. has_page pin.pages page) (open_pins h)))

-- one more entry
pub core_step : (base : Core) (h : History) (entry : Entry) → core_at base (entry ∷ h) ≡ core_after (core_at base h) entry
core_step base h (Pin session) = parts (names_at base h) (pages_at base h) (catalogue_at base h) base.limit _ _ _ _ _ _
    (map-append (pin_at base) (open_pins h) (record { session = session; before = h } ∷ [])) refl (sym (add-one (length h)))
core_step base h (Unpin session) = parts (names_at base h) (pages_at base h) (catalogue_at base h) base.limit _ _ _ _ _ _
    (map_filter (pin_at base) (λ pin. not (nat_eq pin.session session)) (open_pins h)) refl (sym (add-one (length h)))
core_step base h (Commit session change used) = parts (names_at base (Commit session change used ∷ h)) (pages_at base (Commit session change used ∷ h)) used.catalogue base.limit _ _ _ _ _ _
    refl refl (sym (add-one (length h)))
core_step base h Reap = parts (names_at base h) (pages_at base h) (catalogue_at base h) base.limit _ _ _ _ _ _
    refl (filter_agrees (λ page. not (is_live base h page)) (λ page. not (is_core_live (core_at base h) page)) (λ page. ap not (core_live base h page)) (pages_below base.limit)) (sym (add-one (length h)))

-- a base is the core of no entries
pub core_start : (base : Core) → IsBase base → base ≡ core_at base []
core_start base b = parts base.names base.pages base.catalogue base.limit _ _ _ _ _ _ b.pins refl b.entries

or_last : (a b : Bool) → (a || (b || false)) ≡ (b || a)
or_last true true = refl
or_last true false = refl
or_last false true = refl
or_last false false = refl

same_session : (a b c : ℕ) → nat_eq a b ≡ true → not (nat_eq a c) ≡ not (nat_eq c b)
same_session a b c e = ap (λ n. not (nat_eq n c)) (eqb-true a b e) ∙ ap not (eq_sym b c)

-- the open pins tell who is pinned
pub pins_tell : (session : ℕ) (h : History) → list_any (λ pin. nat_eq pin.session session) (open_pins h) ≡ is_pinned session h
pins_tell session [] = refl
pins_tell session (Pin t ∷ before) = list_any-append (λ pin. nat_eq pin.session session) (open_pins before) (record { session = t; before = before } ∷ [])
    ∙ ap (λ b. b || (nat_eq t session || false)) (pins_tell session before) ∙ or_last (is_pinned session before) (nat_eq t session)
pins_tell session (Unpin t ∷ before) = any-filter_same (λ pin. nat_eq pin.session session) (λ pin. not (nat_eq pin.session t)) (not (nat_eq t session)) (λ pin e. same_session pin.session session t e) (open_pins before)
    ∙ ap (λ b. not (nat_eq t session) && b) (pins_tell session before)
pins_tell session (Commit t change used ∷ before) = pins_tell session before
pins_tell session (Reap ∷ before) = pins_tell session before

pinned_is : (base : Core) (h : History) (session : ℕ) → is_core_pinned (core_at base h) session ≡ is_pinned session h
pinned_is base h session = any_map (pin_at base) (λ pin. nat_eq pin.session session) (open_pins h) ∙ pins_tell session h

-- the core allows what the history allows
pub core_allows_is : (base : Core) (h : History) (entry : Entry) → core_allows (core_at base h) entry ≡ allows base h entry
core_allows_is base h (Pin session) = ap not (pinned_is base h session)
core_allows_is base h (Unpin session) = pinned_is base h session
core_allows_is base h (Commit session change used) =
    ap (λ b. b && (names_allow (names_at base h) change && (are_different (fresh_at base h change used) && list_all (holds (free_at base h)) (fresh_at base h change used)))) (pinned_is base h session)
core_allows_is base h Reap = refl
