-- The present and each open pin see what can be named there, entry by entry.
use Rattle.std.proofs.Common.{◌≡◌, ◌∙◌, ℕ, suc, ◌<◌, ◌≤◌, Bool, true, false, not, ◌&&◌, if◌then◌else◌, nat_eq, List, [], ◌∷◌, ◌++◌, length, map, refl, ap, sym, arith, subst}
use Rattle.std.specs.Prelude.{nat_lt}
use Rattle.std.specs.List.{filter, list_any, list_all, AllByRecursion}
use Rattle.std.proofs.lemmas.Bool.{or_left, or_right}
use Rattle.plan_changes.specs.declared.change.Change.{Change}
use Rattle.plan_changes.specs.declared.change.Change.TheVariants.{Create, Store, Insert, Remove, RemoveVersions}
use Rattle.plan_changes.specs.Changes.{next_of}
use Rattle.event_core.specs.declared.entry.Used.{Used}
use Rattle.event_core.specs.declared.entry.Entry.TheVariants.{Pin, Unpin, Commit, Reap}
use Rattle.event_core.specs.declared.state.Core.{Core}
use Rattle.event_core.specs.History.{History, OpenPin, names_at, open_pins}
use Rattle.event_core.proofs.Tests.{any_map}
use Rattle.store_versions.proofs.Conserved.{filter_filter}
use Rattle.store_versions.proofs.Pins.{open_pins_are_these}
use Rattle.store_versions.specs.Pins.{pins_of}
use Rattle.store_versions.specs.declared.row.VersionRow.{VersionRow}
use Rattle.store_versions.specs.Laws.{TablesFollowEntries, ForgettingIsSeen, PinsSeeTheirVersions}
use Rattle.store_versions.specs.Rows.{is_seen, is_needed, needed_rows, places_at, stands, new_row, ended, rows_after}
use Rattle.store_versions.specs.Seen.{version_of, seen, is_past, AreSeen}
use Rattle.store_versions.specs.Versions.{MadeVersion, Directories, is_of, versions_after, versions_at}
use Rattle.store_versions.proofs.Rows.{filter_among, all_left, sees_by, past_later, later_sees, added_seen, added_unseen, added_past, ended_seen, ended_unseen, ended_past}

-- ---- what holds of each item

pub all_two : {A : Type 0} (P Q R : A → Type 0) → ((x : A) → P x → Q x → R x) → (xs : List A) → AllByRecursion P xs → AllByRecursion Q xs → AllByRecursion R xs
all_two P Q R h [] ps qs = tt
all_two P Q R h (x ∷ xs) ps qs = (h x ps.0 qs.0, all_two P Q R h xs ps.1 qs.1)

all_of : {A : Type 0} (P Q : A → Type 0) → ((x : A) → P x → Q x) → (xs : List A) → AllByRecursion P xs → AllByRecursion Q xs
all_of P Q h [] ps = tt
all_of P Q h (x ∷ xs) ps = (h x ps.0, all_of P Q h xs ps.1)

all_more : {A : Type 0} (P : A → Type 0) (xs : List A) (x : A) → AllByRecursion P xs → P x → AllByRecursion P (xs ++ x ∷ [])
all_more P [] x ps p = (p, tt)
all_more P (y ∷ ys) x ps p = (ps.0, all_more P ys x ps.1 p)

all_chosen : {A : Type 0} (P : A → Type 0) (b : Bool) (x : A) (xs : List A) → P x → AllByRecursion P xs → AllByRecursion P (if b then x ∷ xs else xs)
all_chosen P true x xs p ps = (p, ps)
all_chosen P false x xs p ps = ps

all_kept : {A : Type 0} (P : A → Type 0) (t : A → Bool) (xs : List A) → AllByRecursion P xs → AllByRecursion P (filter t xs)
all_kept P t [] ps = tt
all_kept P t (x ∷ xs) ps = all_chosen P (t x) x (filter t xs) ps.0 (all_kept P t xs ps.1)

-- ---- open pins

-- the entries before an open pin are fewer than all
abbrev IsWithin : ℕ → OpenPin → Type 0
IsWithin n pin = length pin.before < n

wider : (n : ℕ) (pins : List OpenPin) → AllByRecursion (IsWithin n) pins → AllByRecursion (IsWithin (suc n)) pins
wider n pins within = all_of (IsWithin n) (IsWithin (suc n)) (λ pin lt. omega arith) pins within

pub pins_within : (h : History) → AllByRecursion (IsWithin (length h)) (open_pins h)
pins_within [] = tt
pins_within (Pin s ∷ before) = all_more (IsWithin (suc (length before))) (open_pins before) (record { session = s; before = before }) (wider (length before) (open_pins before) (pins_within before)) (omega arith)
pins_within (Unpin s ∷ before) = all_kept (IsWithin (suc (length before))) (λ pin. not (nat_eq pin.session s)) (open_pins before) (wider (length before) (open_pins before) (pins_within before))
pins_within (Commit s change used ∷ before) = wider (length before) (open_pins before) (pins_within before)
pins_within (Reap ∷ before) = wider (length before) (open_pins before) (pins_within before)

-- an open pin sees what could be named at it
abbrev Sees : Directories → List VersionRow → Core → OpenPin → Type 0
Sees given rows base pin = seen (length pin.before) rows ≡ versions_at base given pin.before

-- ---- one more entry

committed : (given : Directories) (rows next : List VersionRow) (base : Core) (h : History) (session : ℕ) (change : Change) (used : Used) → AreSeen given rows base h →
    seen (suc (length h)) next ≡ versions_after (names_at base h) change (given.made (length h)) (seen (length h) rows) →
    ((place : ℕ) → place ≤ length h → seen place next ≡ seen place rows) →
    list_all (is_past (suc (length h))) next ≡ true →
    AreSeen given next base (Commit session change used ∷ h)
committed given rows next base h session change used are now same past = record {
  now = now ∙ ap (versions_after (names_at base h) change (given.made (length h))) are.now;
  pinned = all_two (IsWithin (length h)) (Sees given rows base) (Sees given next base) (λ pin lt e. same (length pin.before) (omega arith) ∙ e) (open_pins h) (pins_within h) are.pinned;
  past = past;
}

added : (given : Directories) (rows : List VersionRow) (base : Core) (h : History) (session : ℕ) (change : Change) (used : Used) (name : List ℕ) (version : ℕ) → AreSeen given rows base h →
    ((versions : List MadeVersion) → versions_after (names_at base h) change (given.made (length h)) versions ≡ versions ++ record { name = name; version = version; directory = given.made (length h) } ∷ []) →
    AreSeen given (rows ++ new_row name version (length h) (given.made (length h)) ∷ []) base (Commit session change used ∷ h)
added given rows base h session change used name version are after =
    committed given rows _ base h session change used are
    (added_seen name version (length h) (suc (length h)) (given.made (length h)) rows (omega arith)
    ∙ ap (λ versions. versions ++ version_of (new_row name version (length h) (given.made (length h))) ∷ []) (later_sees (length h) (suc (length h)) (omega arith) rows are.past)
    ∙ sym (after (seen (length h) rows)))
    (λ place le. added_unseen name version (length h) place (given.made (length h)) rows le)
    (added_past name version (length h) (suc (length h)) (given.made (length h)) rows (omega arith) are.past)

gone : (given : Directories) (rows : List VersionRow) (base : Core) (h : History) (session : ℕ) (change : Change) (used : Used) (goes : MadeVersion → Bool) → AreSeen given rows base h →
    ((versions : List MadeVersion) → versions_after (names_at base h) change (given.made (length h)) versions ≡ filter (λ v. not (goes v)) versions) →
    AreSeen given (map (ended (λ row. goes (version_of row)) (length h)) rows) base (Commit session change used ∷ h)
gone given rows base h session change used goes are after =
    committed given rows _ base h session change used are
    (ended_seen goes (length h) (suc (length h)) rows (omega arith) are.past ∙ sym (after (seen (length h) rows)))
    (λ place le. ended_unseen (λ row. goes (version_of row)) (length h) place rows le)
    (ended_past (λ row. goes (version_of row)) (length h) (suc (length h)) rows (omega arith) are.past)

commit_seen : (given : Directories) (rows : List VersionRow) (base : Core) (h : History) → AreSeen given rows base h → (session : ℕ) (change : Change) (used : Used) →
    AreSeen given (rows_after (names_at base h) (length h) change (given.made (length h)) rows) base (Commit session change used ∷ h)
commit_seen given rows base h are session (Create name schema) used =
    committed given rows rows base h session (Create name schema) used are (later_sees (length h) (suc (length h)) (omega arith) rows are.past)
    (λ place le. refl) (past_later (length h) (suc (length h)) (omega arith) rows are.past)
commit_seen given rows base h are session (Store name schema plan) used =
    added given rows base h session (Store name schema plan) used name (next_of (names_at base h).arrays name) are (λ versions. refl)
commit_seen given rows base h are session (Insert name schema plan) used =
    added given rows base h session (Insert name schema plan) used name (next_of (names_at base h).arrays name) are (λ versions. refl)
commit_seen given rows base h are session (Remove name) used =
    gone given rows base h session (Remove name) used (is_of name) are (λ versions. refl)
commit_seen given rows base h are session (RemoveVersions name below) used =
    gone given rows base h session (RemoveVersions name below) used (λ v. is_of name v && nat_lt v.version below) are (λ versions. refl)

pub tables_follow_entries : TablesFollowEntries
tables_follow_entries given rows base h are =
    let now : seen (suc (length h)) rows ≡ versions_at base given h = later_sees (length h) (suc (length h)) (omega arith) rows are.past ∙ are.now in
    let past : list_all (is_past (suc (length h))) rows ≡ true = past_later (length h) (suc (length h)) (omega arith) rows are.past in
    record {
      pin = λ session. record { now = now; pinned = all_more (Sees given rows base) (open_pins h) (record { session = session; before = h }) are.pinned are.now; past = past };
      unpin = λ session. record { now = now; pinned = all_kept (Sees given rows base) (λ pin. not (nat_eq pin.session session)) (open_pins h) are.pinned; past = past };
      commit = λ session change used. commit_seen given rows base h are session change used;
      reap = record { now = now; pinned = are.pinned; past = past };
    }

-- ---- rows that nobody can name any more

covered : (a b : Bool) → (b ≡ true → a ≡ true) → (a && b) ≡ b
covered true b h = refl
covered false true h = h refl
covered false false h = refl

-- what an open pin sees is needed
abbrev IsKept : List OpenPin → OpenPin → Type 0
IsKept pins pin = (row : VersionRow) → is_seen (length pin.before) row ≡ true → list_any (λ other. is_seen (length other.before) row) pins ≡ true

all_are_kept : (pins : List OpenPin) → AllByRecursion (IsKept pins) pins
all_are_kept [] = tt
all_are_kept (pin ∷ pins) = (
  (λ row e. or_left (is_seen (length pin.before) row) (list_any (λ other. is_seen (length other.before) row) pins) e),
  all_of (IsKept pins) (IsKept (pin ∷ pins)) (λ other kept row e. or_right (is_seen (length pin.before) row) (list_any (λ other. is_seen (length other.before) row) pins) (kept row e)) pins (all_are_kept pins),
)

kept_seen : (places : List ℕ) (rows : List VersionRow) (n place : ℕ) → list_all (is_past n) rows ≡ true →
    ((row : VersionRow) → is_past n row ≡ true → is_seen place row ≡ true → is_needed places row ≡ true) → seen place (needed_rows places rows) ≡ seen place rows
kept_seen places rows n place past needs =
    ap (map version_of) (filter_filter (is_needed places) (is_seen place) rows
    ∙ filter_among (λ row. is_needed places row && is_seen place row) (is_seen place) (is_past n) (λ row p. covered (is_needed places row) (is_seen place row) (needs row p)) rows past)

pub forgetting_is_seen : ForgettingIsSeen
forgetting_is_seen given rows base h are =
    record {
      now = kept_seen (places_at h) rows (length h) (length h) are.past
          (λ row p e. or_left (stands row.gone) (list_any (λ place. is_seen place row) (places_at h))
          (sym (sees_by row.gone row.made (length h) (length h) (omega arith) p) ∙ e)) ∙ are.now;
      pinned = all_two (IsKept (open_pins h)) (Sees given rows base) (Sees given (needed_rows (places_at h) rows) base)
          (λ pin kept e. kept_seen (places_at h) rows (length h) (length pin.before) are.past
          (λ row p sees. or_right (stands row.gone) (list_any (λ place. is_seen place row) (places_at h))
          (any_map (λ (pin : OpenPin). length pin.before) (λ place. is_seen place row) (open_pins h) ∙ kept row sees)) ∙ e)
          (open_pins h) (all_are_kept (open_pins h)) are.pinned;
      past = all_left (is_past (length h)) (is_needed (places_at h)) rows are.past;
    }

-- ---- what a session's pin sees

pub pins_see_their_versions : PinsSeeTheirVersions
pins_see_their_versions given rows base h before session ok are begun =
    (subst (AllByRecursion (Sees given rows base)) (open_pins_are_these base session h ok ∙ ap (pins_of session) begun)
    (all_kept (Sees given rows base) (λ pin. nat_eq pin.session session) (open_pins h) are.pinned)).0
