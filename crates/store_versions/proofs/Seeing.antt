-- What stands, and what a place sees, in rows that were changed.
use Rattle.std.proofs.Common.{◌≡◌, ◌∙◌, ℕ, ◌+◌, ◌≤◌, Bool, true, false, not, ◌&&◌, if◌then◌else◌, List, [], ◌∷◌, ◌++◌, map, Option, None, Some, refl, ap, sym, arith}
use Rattle.std.specs.Prelude.{nat_le, nat_lt}
use Rattle.std.specs.List.{filter, list_all, list_any}
use Rattle.std.proofs.lemmas.Bool.{and_parts, and_from, and_left, and_right, or_left, or_right, leb-true, le-leb, lt-leb, lt-ltb, le-ltb}
use Rattle.std.proofs.lemmas.List.{map-append, append-nil}
use Rattle.std.proofs.lemmas.List.Elements.{filter-append}
use Rattle.std.proofs.lemmas.List.Folds.{list_all-append}
use Rattle.plan_changes.specs.Names.{Names}
use Rattle.plan_changes.specs.declared.change.Change.{Change}
use Rattle.plan_changes.specs.declared.change.Change.TheVariants.{Create, Store, Insert, Remove, RemoveVersions}
use Rattle.plan_changes.proofs.Maps.{all_weaker}
use Rattle.event_core.specs.declared.state.VersionPages.{VersionPages}
use Rattle.event_core.specs.History.{is_pages_of, pages_after}
use Rattle.event_core.proofs.Tests.{both_not, map_filter, filter_agrees}
use Rattle.store_versions.specs.declared.lean.lean.pin.LeanPin.{LeanPin}
use Rattle.store_versions.specs.declared.lean.lean.row.Row.{Row}
use Rattle.store_versions.specs.LeanRows.{is_before, is_seen, is_needed, is_below, stands, standing, seen, first_row, new_row, ended, next_version, rows_after}
use Rattle.store_versions.specs.Inner.Kept.{is_gone_by, is_past}
use Rattle.store_versions.proofs.Lists.{filter_filter, filter_among, all_images, all_left}

abbrev version_of : Row → VersionPages
version_of row = row.version

-- ---- rows of the past

-- a row of the past is seen where it stands, and only there
sees_by : (gone : Option ℕ) (made n : ℕ) → (nat_le made n && is_gone_by n gone) ≡ true → (nat_le made n && is_before n gone) ≡ stands gone
sees_by None made n past = and_from (nat_le made n) true (and_parts (nat_le made n) true past).0 refl
sees_by (Some gone) made n past =
    let low : gone ≤ n = leb-true gone n (and_parts (nat_le made n) (nat_le gone n) past).1 in
    and_right (nat_le made n) (nat_lt n gone) (le-ltb n gone low)

past_by : (gone : Option ℕ) (made n m : ℕ) → n ≤ m → (nat_le made n && is_gone_by n gone) ≡ true → (nat_le made m && is_gone_by m gone) ≡ true
past_by None made n m le past = let low : made ≤ n = leb-true made n (and_parts (nat_le made n) true past).0 in and_from (nat_le made m) true (le-leb made m (omega arith)) refl
past_by (Some gone) made n m le past =
    let low : made ≤ n = leb-true made n (and_parts (nat_le made n) (nat_le gone n) past).0 in
    let soon : gone ≤ n = leb-true gone n (and_parts (nat_le made n) (nat_le gone n) past).1 in
    and_from (nat_le made m) (nat_le gone m) (le-leb made m (omega arith)) (le-leb gone m (omega arith))

pub past_later : (n m : ℕ) → n ≤ m → (rows : List Row) → list_all (is_past n) rows ≡ true → list_all (is_past m) rows ≡ true
past_later n m le rows past = all_weaker (is_past n) (is_past m) (λ row p. past_by row.gone row.made n m le p) rows past

-- the present sees what stands
pub seen_now : (n : ℕ) (rows : List Row) → list_all (is_past n) rows ≡ true → seen n rows ≡ standing rows
seen_now n rows past = ap (map version_of) (filter_among (is_seen n) (λ row. stands row.gone) (is_past n) (λ row p. sees_by row.gone row.made n p) rows past)

-- ---- the rows at the beginning

pub first_stand : (versions : List VersionPages) → standing (map first_row versions) ≡ versions
first_stand [] = refl
first_stand (v ∷ versions) = ap (λ vs. v ∷ vs) (first_stand versions)

pub first_past : (n : ℕ) (versions : List VersionPages) → list_all (is_past n) (map first_row versions) ≡ true
first_past n [] = refl
first_past n (v ∷ versions) = and_from (nat_le 0 n && true) (list_all (is_past n) (map first_row versions)) (and_from (nat_le 0 n) true (le-leb 0 n (omega arith)) refl) (first_past n versions)

-- ---- one more row

standing_more : (n : ℕ) (rows : List Row) (v : VersionPages) → standing (rows ++ new_row n v ∷ []) ≡ standing rows ++ v ∷ []
standing_more n rows v = ap (map version_of) (filter-append (λ row. stands row.gone) rows (new_row n v ∷ [])) ∙ map-append version_of (filter (λ row. stands row.gone) rows) (new_row n v ∷ [])

none_seen : (b : Bool) (row : Row) → b ≡ false → map version_of (if b then row ∷ [] else []) ≡ []
none_seen true row e = absurd (both_not true e refl)
none_seen false row e = refl

seen_more : (m : ℕ) (rows : List Row) (row : Row) → seen m (rows ++ row ∷ []) ≡ seen m rows ++ map version_of (if is_seen m row then row ∷ [] else [])
seen_more m rows row = ap (map version_of) (filter-append (is_seen m) rows (row ∷ [])) ∙ map-append version_of (filter (is_seen m) rows) (filter (is_seen m) (row ∷ []))

unseen_more : (n m : ℕ) (v : VersionPages) (rows : List Row) → m ≤ n → seen m (rows ++ new_row n v ∷ []) ≡ seen m rows
unseen_more n m v rows le =
    seen_more m rows (new_row n v)
    ∙ ap (λ more. seen m rows ++ more) (none_seen (is_seen m (new_row n v)) (new_row n v) (and_left (nat_le (n + 1) m) true (lt-leb (n + 1) m (omega arith))))
    ∙ append-nil (seen m rows)

past_more : (n : ℕ) (v : VersionPages) (rows : List Row) → list_all (is_past n) rows ≡ true → list_all (is_past (n + 1)) (rows ++ new_row n v ∷ []) ≡ true
past_more n v rows past =
    list_all-append (is_past (n + 1)) rows (new_row n v ∷ [])
    ∙ and_from (list_all (is_past (n + 1)) rows) (list_all (is_past (n + 1)) (new_row n v ∷ [])) (past_later n (n + 1) (omega arith) rows past)
    (and_from (nat_le (n + 1) (n + 1) && true) true (and_from (nat_le (n + 1) (n + 1)) true (le-leb (n + 1) (n + 1) (omega arith)) refl) refl)

-- ---- rows that go

kept_version : (c : Bool) (gone : Option ℕ) (row : Row) → version_of (if c then record row { gone = gone } else row) ≡ version_of row
kept_version true when row = refl
kept_version false when row = refl

kept_versions : (goes : VersionPages → Bool) (n : ℕ) (rows : List Row) → map version_of (map (ended goes n) rows) ≡ map version_of rows
kept_versions goes n [] = refl
kept_versions goes n (row ∷ rows) =
    ap (λ v. v ∷ map version_of (map (ended goes n) rows)) (kept_version (goes row.version && stands row.gone) (Some (n + 1)) row)
    ∙ ap (λ vs. version_of row ∷ vs) (kept_versions goes n rows)

-- the versions whose rows pass a test once they were changed
images : (goes : VersionPages → Bool) (n : ℕ) (t : Row → Bool) (rows : List Row) → map version_of (filter t (map (ended goes n) rows)) ≡ map version_of (filter (λ row. t (ended goes n row)) rows)
images goes n t rows = ap (map version_of) (sym (map_filter (ended goes n) t rows)) ∙ kept_versions goes n (filter (λ row. t (ended goes n row)) rows)

stands_by : (b s : Bool) (row : Row) (n : ℕ) → stands row.gone ≡ s → (λ (r : Row). stands r.gone) (if b && s then record row { gone = Some (n + 1) } else row) ≡ (s && not b)
stands_by true true row n e = refl
stands_by true false row n e = e
stands_by false true row n e = e
stands_by false false row n e = e

standing_left : (goes : VersionPages → Bool) (n : ℕ) (rows : List Row) → standing (map (ended goes n) rows) ≡ filter (λ v. not (goes v)) (standing rows)
standing_left goes n rows =
    images goes n (λ row. stands row.gone) rows
    ∙ ap (map version_of) (filter_agrees (λ row. (λ (r : Row). stands r.gone) (ended goes n row)) (λ row. stands row.gone && not (goes row.version)) (λ row. stands_by (goes row.version) (stands row.gone) row n refl) rows)
    ∙ ap (map version_of) (sym (filter_filter (λ row. stands row.gone) (λ row. not (goes row.version)) rows))
    ∙ map_filter version_of (λ v. not (goes v)) (filter (λ row. stands row.gone) rows)

before_stands : (gone : Option ℕ) (m : ℕ) → stands gone ≡ true → is_before m gone ≡ true
before_stands None m e = refl
before_stands (Some gone) m e = absurd (both_not false refl e)

before_by : (b s : Bool) (row : Row) (n m : ℕ) → m ≤ n → (s ≡ true → is_before m row.gone ≡ true) → is_seen m (if b && s then record row { gone = Some (n + 1) } else row) ≡ is_seen m row
before_by true true row n m le e = ap (λ c. nat_le row.made m && c) (lt-ltb m (n + 1) (omega arith) ∙ sym (e refl))
before_by true false row n m le e = refl
before_by false true row n m le e = refl
before_by false false row n m le e = refl

unseen_left : (goes : VersionPages → Bool) (n m : ℕ) (rows : List Row) → m ≤ n → seen m (map (ended goes n) rows) ≡ seen m rows
unseen_left goes n m rows le =
    images goes n (is_seen m) rows
    ∙ ap (map version_of) (filter_agrees (λ row. is_seen m (ended goes n row)) (is_seen m) (λ row. before_by (goes row.version) (stands row.gone) row n m le (λ e. before_stands row.gone m e)) rows)

past_if : (c : Bool) (row : Row) (n : ℕ) → is_past n row ≡ true → is_past (n + 1) (if c then record row { gone = Some (n + 1) } else row) ≡ true
past_if true row n past =
    let low : row.made ≤ n = leb-true row.made n (and_parts (nat_le row.made n) (is_gone_by n row.gone) past).0 in
    and_from (nat_le row.made (n + 1)) (nat_le (n + 1) (n + 1)) (le-leb row.made (n + 1) (omega arith)) (le-leb (n + 1) (n + 1) (omega arith))
past_if false row n past = past_by row.gone row.made n (n + 1) (omega arith) past

past_left : (goes : VersionPages → Bool) (n : ℕ) (rows : List Row) → list_all (is_past n) rows ≡ true → list_all (is_past (n + 1)) (map (ended goes n) rows) ≡ true
past_left goes n rows past = all_images (ended goes n) (is_past n) (is_past (n + 1)) (λ row p. past_if (goes row.version && stands row.gone) row n p) rows past

-- ---- a commit

pub standing_after : (names : Names) (n : ℕ) (change : Change) (used : List ℕ) (rows : List Row) → standing (rows_after names n change used rows) ≡ pages_after names change used (standing rows)
standing_after names n (Create name schema) used rows = refl
standing_after names n (Store name schema plan) used rows = standing_more n rows (next_version names name used)
standing_after names n (Insert name schema plan) used rows = standing_more n rows (next_version names name used)
standing_after names n (Remove name) used rows = standing_left (is_pages_of name) n rows
standing_after names n (RemoveVersions name below) used rows = standing_left (is_below name below) n rows

-- the places before it see the same
pub seen_after : (names : Names) (n : ℕ) (change : Change) (used : List ℕ) (rows : List Row) (m : ℕ) → m ≤ n → seen m (rows_after names n change used rows) ≡ seen m rows
seen_after names n (Create name schema) used rows m le = refl
seen_after names n (Store name schema plan) used rows m le = unseen_more n m (next_version names name used) rows le
seen_after names n (Insert name schema plan) used rows m le = unseen_more n m (next_version names name used) rows le
seen_after names n (Remove name) used rows m le = unseen_left (is_pages_of name) n m rows le
seen_after names n (RemoveVersions name below) used rows m le = unseen_left (is_below name below) n m rows le

pub past_after : (names : Names) (n : ℕ) (change : Change) (used : List ℕ) (rows : List Row) → list_all (is_past n) rows ≡ true → list_all (is_past (n + 1)) (rows_after names n change used rows) ≡ true
past_after names n (Create name schema) used rows past = past_later n (n + 1) (omega arith) rows past
past_after names n (Store name schema plan) used rows past = past_more n (next_version names name used) rows past
past_after names n (Insert name schema plan) used rows past = past_more n (next_version names name used) rows past
past_after names n (Remove name) used rows past = past_left (is_pages_of name) n rows past
past_after names n (RemoveVersions name below) used rows past = past_left (is_below name below) n rows past

-- ---- rows that are needed

covered : (a b : Bool) → (b ≡ true → a ≡ true) → (a && b) ≡ b
covered true b h = refl
covered false true h = h refl
covered false false h = refl

pub standing_needed : (pins : List LeanPin) (rows : List Row) → standing (filter (is_needed pins) rows) ≡ standing rows
standing_needed pins rows =
    ap (map version_of) (filter_filter (is_needed pins) (λ row. stands row.gone) rows
    ∙ filter_agrees (λ row. is_needed pins row && stands row.gone) (λ row. stands row.gone)
    (λ row. covered (is_needed pins row) (stands row.gone) (λ e. or_left (stands row.gone) (list_any (λ pin. is_seen pin.place row) pins) e)) rows)

-- what one of the pins sees stays
seen_needed : (pins : List LeanPin) (rows : List Row) (place : ℕ) → ((row : Row) → is_seen place row ≡ true → list_any (λ pin. is_seen pin.place row) pins ≡ true) →
    seen place (filter (is_needed pins) rows) ≡ seen place rows
seen_needed pins rows place sees =
    ap (map version_of) (filter_filter (is_needed pins) (is_seen place) rows
    ∙ filter_agrees (λ row. is_needed pins row && is_seen place row) (is_seen place)
    (λ row. covered (is_needed pins row) (is_seen place row) (λ e. or_right (stands row.gone) (list_any (λ pin. is_seen pin.place row) pins) (sees row e))) rows)

-- pins that are among others see there what they saw
abbrev AreAmong : List LeanPin → List LeanPin → Type 0
AreAmong [] all = Unit {0}
AreAmong (pin ∷ pins) all = ((row : Row) → is_seen pin.place row ≡ true → list_any (λ other. is_seen other.place row) all ≡ true) × AreAmong pins all

among_more : (pin : LeanPin) (pins all : List LeanPin) → AreAmong pins all → AreAmong pins (pin ∷ all)
among_more pin [] all among = tt
among_more pin (other ∷ pins) all among = ((λ row e. or_right (is_seen pin.place row) (list_any (λ p. is_seen p.place row) all) (among.0 row e)), among_more pin pins all among.1)

among_all : (pins : List LeanPin) → AreAmong pins pins
among_all [] = tt
among_all (pin ∷ pins) = ((λ row e. or_left (is_seen pin.place row) (list_any (λ p. is_seen p.place row) pins) e), among_more pin pins pins (among_all pins))

among_see : {B : Type 0} (f : LeanPin → List VersionPages → B) (pins all : List LeanPin) (rows : List Row) → AreAmong pins all →
    map (λ pin. f pin (seen pin.place (filter (is_needed all) rows))) pins ≡ map (λ pin. f pin (seen pin.place rows)) pins
among_see f [] all rows among = refl
among_see f (pin ∷ pins) all rows among =
    ap (λ vs. f pin vs ∷ map (λ p. f p (seen p.place (filter (is_needed all) rows))) pins) (seen_needed all rows pin.place among.0)
    ∙ ap (λ ps. f pin (seen pin.place rows) ∷ ps) (among_see f pins all rows among.1)

pub needed_see : {B : Type 0} (f : LeanPin → List VersionPages → B) (pins : List LeanPin) (rows : List Row) →
    map (λ pin. f pin (seen pin.place (filter (is_needed pins) rows))) pins ≡ map (λ pin. f pin (seen pin.place rows)) pins
needed_see f pins rows = among_see f pins pins rows (among_all pins)

pub past_needed : (n : ℕ) (pins : List LeanPin) (rows : List Row) → list_all (is_past n) rows ≡ true → list_all (is_past n) (filter (is_needed pins) rows) ≡ true
past_needed n pins rows past = all_left (is_past n) (is_needed pins) rows past
