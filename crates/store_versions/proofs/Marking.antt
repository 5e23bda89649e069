-- Which pages are live, told by rows.
use Rattle.std.proofs.Common.{◌≡◌, ◌∙◌, ℕ, Bool, true, false, ◌&&◌, ◌||◌, List, [], ◌∷◌, map, refl, ap, sym}
use Rattle.std.specs.List.{filter, list_any}
use Rattle.version_reaper.specs.PageSets.{holds}
use Rattle.event_core.specs.declared.state.VersionPages.{VersionPages}
use Rattle.event_core.specs.Pages.{has_page}
use Rattle.event_core.proofs.Tests.{any_map}
use Rattle.store_versions.specs.declared.lean.lean.pin.LeanPin.{LeanPin}
use Rattle.store_versions.specs.declared.lean.lean.row.Row.{Row}
use Rattle.store_versions.specs.LeanRows.{is_needed, is_seen, stands, standing, seen}
use Rattle.store_versions.specs.States.{pin_of}
use Rattle.store_versions.proofs.Lists.{any_agrees, any_filter}

abbrev has : ℕ → Row → Bool
has page row = holds row.version.pages page

-- whether the versions of some rows have a page
some_has : (t : Row → Bool) (page : ℕ) (rows : List Row) → has_page (map (λ row. row.version) (filter t rows)) page ≡ list_any (λ row. t row && has page row) rows
some_has t page rows = any_map (λ (row : Row). row.version) (λ (v : VersionPages). holds v.pages page) (filter t rows) ∙ any_filter (has page) t rows

nothing : {A : Type 0} (xs : List A) → list_any (λ x. false) xs ≡ false
nothing [] = refl
nothing (x ∷ xs) = nothing xs

one_of : (a h r b s : Bool) → (((a && h) || r) || ((b && h) || s)) ≡ (((a || b) && h) || (r || s))
one_of true true r b s = refl
one_of true false r true s = refl
one_of true false r false s = refl
one_of false true true true s = refl
one_of false true true false s = refl
one_of false true false b s = refl
one_of false false r true s = refl
one_of false false r false s = refl

split : {A : Type 0} (a r : A → Bool) (h : Bool) (xs : List A) → list_any (λ x. (a x && h) || r x) xs ≡ ((list_any a xs && h) || list_any r xs)
split a r h [] = refl
split a r h (x ∷ xs) = ap (λ (b : Bool). ((a x && h) || r x) || b) (split a r h xs) ∙ one_of (a x) h (r x) (list_any a xs) (list_any r xs)

-- some pin sees a row with the page, or some row with the page is seen by a pin
swapped : (page : ℕ) (pins : List LeanPin) (rows : List Row) →
    list_any (λ pin. list_any (λ row. is_seen pin.place row && has page row) rows) pins ≡ list_any (λ row. list_any (λ pin. is_seen pin.place row) pins && has page row) rows
swapped page pins [] = nothing pins
swapped page pins (row ∷ rows) =
    split (λ (pin : LeanPin). is_seen pin.place row) (λ (pin : LeanPin). list_any (λ other. is_seen pin.place other && has page other) rows) (has page row) pins
    ∙ ap (λ (b : Bool). (list_any (λ (pin : LeanPin). is_seen pin.place row) pins && has page row) || b) (swapped page pins rows)

two_of : (s l h x y : Bool) → (((s || l) && h) || (x || y)) ≡ (((s && h) || x) || ((l && h) || y))
two_of true true true x y = refl
two_of true false true x y = refl
two_of false true true true y = refl
two_of false true true false y = refl
two_of false false true x y = refl
two_of true true false x y = refl
two_of true false false x y = refl
two_of false true false x y = refl
two_of false false false x y = refl

either : {A : Type 0} (s l h : A → Bool) (xs : List A) → list_any (λ x. (s x || l x) && h x) xs ≡ (list_any (λ x. s x && h x) xs || list_any (λ x. l x && h x) xs)
either s l h [] = refl
either s l h (x ∷ xs) =
    ap (λ (b : Bool). ((s x || l x) && h x) || b) (either s l h xs)
    ∙ two_of (s x) (l x) (h x) (list_any (λ y. s y && h y) xs) (list_any (λ y. l y && h y) xs)

pub marked : (o y z c w : Bool) → y ≡ z → (((o || y) || c) || w) ≡ (o || (z || (c || w)))
marked true y z c w e = refl
marked false true z c w e = ap (λ (b : Bool). b || (c || w)) e
marked false false z c w e = ap (λ (b : Bool). b || (c || w)) e

-- the rows that are needed have the pages of what stands, and of what the pins could name
pub needed_has : (page : ℕ) (pins : List LeanPin) (rows : List Row) →
    list_any (λ row. is_needed pins row && holds row.version.pages page) rows ≡ (has_page (standing rows) page || list_any (λ pin. has_page pin.pages page) (map (pin_of rows) pins))
needed_has page pins rows =
    either (λ (row : Row). stands row.gone) (λ (row : Row). list_any (λ (pin : LeanPin). is_seen pin.place row) pins) (has page) rows
    ∙ ap (λ (b : Bool). b || list_any (λ (row : Row). list_any (λ (pin : LeanPin). is_seen pin.place row) pins && has page row) rows) (sym (some_has (λ row. stands row.gone) page rows))
    ∙ ap (λ (b : Bool). has_page (standing rows) page || b)
    (sym (any_map (pin_of rows) (λ pin. has_page pin.pages page) pins
    ∙ any_agrees (λ (pin : LeanPin). has_page (seen pin.place rows) page) (λ (pin : LeanPin). list_any (λ row. is_seen pin.place row && has page row) rows) (λ pin. some_has (is_seen pin.place) page rows) pins
    ∙ swapped page pins rows))
