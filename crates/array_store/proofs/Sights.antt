-- What an open pin sees, whatever comes later.
use Rattle.std.proofs.Common.{◌≡◌, ◌∙◌, ℕ, suc, ◌+◌, ◌-◌, ◌<◌, ◌≤◌, Bool, true, false, not, ◌&&◌, ◌||◌, if◌then◌else◌, nat_eq, List, [], ◌∷◌, ◌++◌, length, drop, reverse, IsTrue, refl, ap, sym, subst, arith, length-append}
use Rattle.std.specs.List.{list_all}
use Rattle.std.proofs.lemmas.Bool.{and_from, and_parts, eq-eqb}
use Rattle.std.proofs.lemmas.Bool.Decides.{nat_tests}
use Rattle.std.proofs.lemmas.List.{reverse-append, length-reverse}
use Rattle.chunk_map.specs.declared.directory.Directory.{Directory}
use Rattle.chunk_source.specs.Source.{version_chunks}
use Rattle.turn_lock.specs.Owners.{is_owned_by, none_of}
use Rattle.event_core.specs.declared.entry.Entry.{Entry}
use Rattle.event_core.specs.declared.entry.Entry.TheVariants.{Pin, Unpin, Commit, Reap}
use Rattle.event_core.specs.declared.state.Core.{Core}
use Rattle.event_core.specs.Allowed.{is_pinned}
use Rattle.event_core.specs.History.{History, leaves_pin, names_at, pin_before, up_to}
use Rattle.event_core.proofs.Tests.{both_not}
use Rattle.store_versions.specs.Pins.{PlaceTells}
use Rattle.store_versions.proofs.Pins.{places_tell_pins}
use Rattle.store_ledger.specs.Ledger.{IsOpenPin, with_entries, with_notes}
use Rattle.store_ledger.proofs.Pins.{open_pins_outlast}
use Rattle.store_versions.specs.Versions.{Directories, MadeVersion, directory_of, versions_after as versions_behind, versions_at}
use Rattle.prepared_commits.specs.Event.{Event}
use Rattle.prepared_commits.specs.Event.TheVariants.{Entered, Acknowledged, Noted}
use Rattle.prepared_commits.specs.Calls.{entry_in, history_at, numbers_in}
use Rattle.prepared_commits.specs.Events.{owner_of}
use Rattle.prepared_commits.specs.Standings.{Standing, commit_places, given_of, made_at, versions_after}
use Rattle.array_store.specs.declared.store.start.Start.{Start}
use Rattle.store_ledger.specs.declared.pinned.Pinned.{Pinned}
use Rattle.array_store.specs.Told.{entries_in, directories_in, is_sealed, ledger_of, told}
use Rattle.array_store.specs.Turns.{leaves_pin_of}
use Rattle.array_store.specs.ToldLaws.{OthersLeavePins, PinsOutlast, PinsSeeTheSame}
use Rattle.array_store.proofs.Telling.{all_turned, directories_in-append, entries_in-append}

-- ---- others' events

pub entry_leaves : (session : ℕ) (entry : Entry) → not (is_owned_by (owner_of (Entered entry)) session) ≡ true → leaves_pin session entry ≡ true
entry_leaves session (Pin other) e = e
entry_leaves session (Unpin other) e = e
entry_leaves session (Commit other change used) e = refl
entry_leaves session Reap e = refl

event_leaves : (session : ℕ) (event : Event) → not (is_owned_by (owner_of event) session) ≡ true → leaves_pin_of session event ≡ true
event_leaves session (Entered entry) e = entry_leaves session entry e
event_leaves session (Acknowledged entry moment directory) e = entry_leaves session entry e
event_leaves session (Noted note) e = refl

pub others_leave_pins : OthersLeavePins
others_leave_pins session [] e = refl
others_leave_pins session (event ∷ others) e =
    let p : (not (is_owned_by (owner_of event) session) ≡ true) × (none_of owner_of session others ≡ true) =
    and_parts (not (is_owned_by (owner_of event) session)) (none_of owner_of session others) e in
    and_from (leaves_pin_of session event) (list_all (leaves_pin_of session) others) (event_leaves session event p.0) (others_leave_pins session others p.1)

entries_leave : (session : ℕ) (events : List Event) → list_all (leaves_pin_of session) events ≡ true → list_all (leaves_pin session) (entries_in events) ≡ true
entries_leave session [] e = refl
entries_leave session (Entered entry ∷ events) e =
    let p : (leaves_pin session entry ≡ true) × (list_all (leaves_pin_of session) events ≡ true) = and_parts (leaves_pin session entry) (list_all (leaves_pin_of session) events) e in
    and_from (leaves_pin session entry) (list_all (leaves_pin session) (entries_in events)) p.0 (entries_leave session events p.1)
entries_leave session (Acknowledged entry moment directory ∷ events) e =
    let p : (leaves_pin session entry ≡ true) × (list_all (leaves_pin_of session) events ≡ true) = and_parts (leaves_pin session entry) (list_all (leaves_pin_of session) events) e in
    and_from (leaves_pin session entry) (list_all (leaves_pin session) (entries_in events)) p.0 (entries_leave session events p.1)
entries_leave session (Noted note ∷ events) e = entries_leave session events e

pub turned_leave : (session : ℕ) (events : List Event) → list_all (leaves_pin_of session) events ≡ true → list_all (leaves_pin session) (reverse (entries_in events)) ≡ true
turned_leave session events e = all_turned (leaves_pin session) (entries_in events) (entries_leave session events e)

-- entries that come later stand in front
pub more_history : (old more : List Event) → reverse (entries_in (old ++ more)) ≡ reverse (entries_in more) ++ reverse (entries_in old)
more_history old more = ap reverse (entries_in-append old more) ∙ reverse-append (entries_in old) (entries_in more)

-- ---- pins

pub pins_outlast : (D : Type 0) → PinsOutlast D
pins_outlast D start old more pinned leaves o =
    let later : IsOpenPin (with_notes [] (with_entries (entries_in more) (ledger_of start old))) pinned =
    open_pins_outlast (ledger_of start old) pinned (entries_in more) [] (turned_leave pinned.session more leaves) o in
    record {
      before = later.before;
      begun = ap (λ (es : List Entry). pin_before pinned.session (reverse es)) (entries_in-append old more) ∙ later.begun;
      place = later.place;
      names = later.names;
    }

pinned_or : (b p : Bool) → not b ≡ true → (b || p) ≡ p
pinned_or true p e = absurd (both_not true (sym e) refl)
pinned_or false p e = refl

pinned_and : (b p : Bool) → not b ≡ true → (not b && p) ≡ p
pinned_and true p e = absurd (both_not true (sym e) refl)
pinned_and false p e = refl

-- a session is pinned as before, if no entry is a pin or an unpin of its own
still_pinned : (session : ℕ) (later h : History) → list_all (leaves_pin session) later ≡ true → is_pinned session (later ++ h) ≡ is_pinned session h
still_pinned session [] h e = refl
still_pinned session (Pin t ∷ later) h e =
    let p : (not (nat_eq t session) ≡ true) × (list_all (leaves_pin session) later ≡ true) = and_parts (not (nat_eq t session)) (list_all (leaves_pin session) later) e in
    pinned_or (nat_eq t session) (is_pinned session (later ++ h)) p.0 ∙ still_pinned session later h p.1
still_pinned session (Unpin t ∷ later) h e =
    let p : (not (nat_eq t session) ≡ true) × (list_all (leaves_pin session) later ≡ true) = and_parts (not (nat_eq t session)) (list_all (leaves_pin session) later) e in
    pinned_and (nat_eq t session) (is_pinned session (later ++ h)) p.0 ∙ still_pinned session later h p.1
still_pinned session (Commit t change used ∷ later) h e = still_pinned session later h e
still_pinned session (Reap ∷ later) h e = still_pinned session later h e

pub same_pinned : (session : ℕ) (old others : List Event) → none_of owner_of session others ≡ true →
    is_pinned session (reverse (entries_in (old ++ others))) ≡ is_pinned session (reverse (entries_in old))
same_pinned session old others none =
    ap (is_pinned session) (more_history old others)
    ∙ still_pinned session (reverse (entries_in others)) (reverse (entries_in old)) (turned_leave session others (others_leave_pins session others none))

-- ---- places

later_same : (place : ℕ) (entry : Entry) (h : History) → place ≤ length h → up_to place (entry ∷ h) ≡ up_to place h
later_same place entry h within =
    let e : suc (length h) - place ≡ suc (length h - place) = omega (arith, within) in
    ap (λ (n : ℕ). drop n (entry ∷ h)) e

beginning_stays : (later h : History) (place : ℕ) → place ≤ length h → up_to place (later ++ h) ≡ up_to place h
beginning_stays [] h place within = refl
beginning_stays (entry ∷ later) h place within =
    let more : place ≤ length (later ++ h) = omega (arith, within, length-append later h) in
    later_same place entry (later ++ h) more ∙ beginning_stays later h place within

-- ---- the directories that a beginning's versions were made with

not_here : (place n : ℕ) → place < n → nat_eq place n ≡ false
not_here place n e = grind (arith, nat_tests)

otherwise : (b : Bool) (x y : Directory) → b ≡ false → (if b then x else y) ≡ y
otherwise true x y e = absurd (both_not true e refl)
otherwise false x y e = refl

-- none is made at a place before all of these
none_made : (n place : ℕ) (entries : List Entry) (made : List Directory) → place < n → made_at (commit_places n entries) made place ≡ record { entries = [] }
none_made n place [] made e = refl
none_made n place (Pin session ∷ entries) made e = none_made (n + 1) place entries made (omega (arith, e))
none_made n place (Unpin session ∷ entries) made e = none_made (n + 1) place entries made (omega (arith, e))
none_made n place (Commit session change used ∷ entries) [] e = refl
none_made n place (Commit session change used ∷ entries) (directory ∷ made) e =
    otherwise (nat_eq place n) directory (made_at (commit_places (n + 1) entries) made place) (not_here place n e)
    ∙ none_made (n + 1) place entries made (omega (arith, e))
none_made n place (Reap ∷ entries) made e = none_made (n + 1) place entries made (omega (arith, e))

-- those of the first entries are as they were, whatever comes later
same_made : (n place : ℕ) (first more : List Entry) (made later : List Directory) → length made ≡ length (commit_places n first) → place < n + length first →
    made_at (commit_places n (first ++ more)) (made ++ later) place ≡ made_at (commit_places n first) made place
same_made n place [] more [] later count within = none_made n place more later (omega (arith, within))
same_made n place [] more (directory ∷ made) later count within = absurd (omega (arith, count))
same_made n place (Pin session ∷ first) more made later count within = same_made (n + 1) place first more made later count (omega (arith, within))
same_made n place (Unpin session ∷ first) more made later count within = same_made (n + 1) place first more made later count (omega (arith, within))
same_made n place (Commit session change used ∷ first) more [] later count within = absurd (omega (arith, count))
same_made n place (Commit session change used ∷ first) more (directory ∷ made) later count within =
    ap (λ (other : Directory). if nat_eq place n then directory else other)
    (same_made (n + 1) place first more made later (omega (arith, count)) (omega (arith, within)))
same_made n place (Reap ∷ first) more made later count within = same_made (n + 1) place first more made later count (omega (arith, within))

-- each commit that was acknowledged has its directory
one_each : (n : ℕ) (events : List Event) → list_all is_sealed events ≡ true → length (directories_in events) ≡ length (commit_places n (entries_in events))
one_each n [] all = refl
one_each n (Entered (Pin session) ∷ events) all = one_each (n + 1) events all
one_each n (Entered (Unpin session) ∷ events) all = one_each (n + 1) events all
one_each n (Entered (Commit session change used) ∷ events) all = absurd (both_not false refl all)
one_each n (Entered Reap ∷ events) all = one_each (n + 1) events all
one_each n (Acknowledged (Pin session) moment directory ∷ events) all = absurd (both_not false refl all)
one_each n (Acknowledged (Unpin session) moment directory ∷ events) all = absurd (both_not false refl all)
one_each n (Acknowledged (Commit session change used) moment directory ∷ events) all = ap suc (one_each (n + 1) events all)
one_each n (Acknowledged Reap moment directory ∷ events) all = absurd (both_not false refl all)
one_each n (Noted note ∷ events) all = one_each n events all

same_versions : (base : Core) (given other : Directories) (h : History) → other.first ≡ given.first → ((place : ℕ) → place < length h → other.made place ≡ given.made place) →
    versions_at base other h ≡ versions_at base given h
same_versions base given other [] first made = first
same_versions base given other (Pin session ∷ h) first made = same_versions base given other h first (λ place e. made place (omega (arith, e)))
same_versions base given other (Unpin session ∷ h) first made = same_versions base given other h first (λ place e. made place (omega (arith, e)))
same_versions base given other (Commit session change used ∷ h) first made =
    let last : other.made (length h) ≡ given.made (length h) = made (length h) (omega arith) in
    let rest : versions_at base other h ≡ versions_at base given h = same_versions base given other h first (λ place e. made place (omega (arith, e))) in
    ap (λ (directory : Directory). versions_behind (names_at base h) change directory (versions_at base other h)) last
    ∙ ap (versions_behind (names_at base h) change (given.made (length h))) rest
same_versions base given other (Reap ∷ h) first made = same_versions base given other h first (λ place e. made place (omega (arith, e)))

pub pins_see_the_same : (D : Type 0) → PinsSeeTheSame D
pins_see_the_same D start old more pinned sealed o =
    let s : Standing D = told start old in
    let t : Standing D = told start (old ++ more) in
    let h : History = reverse (entries_in old) in
    let tells : PlaceTells h o.before = places_tell_pins pinned.session h o.before o.begun in
    let here : history_at s pinned.place ≡ o.before = ap (λ (n : ℕ). up_to n h) o.place ∙ tells.history in
    let within : pinned.place ≤ length h = omega (arith, o.place, tells.within) in
    let stays : history_at t pinned.place ≡ history_at s pinned.place =
    ap (up_to pinned.place) (more_history old more) ∙ beginning_stays (reverse (entries_in more)) h pinned.place within in
    let given : (place : ℕ) → place < length o.before → (given_of t).made place ≡ (given_of s).made place =
    λ place e.
    let below : place < 0 + length (entries_in old) = omega (arith, e, tells.within, length-reverse (entries_in old)) in
    ap (λ (es : List Entry). made_at (commit_places 0 es) (directories_in (old ++ more)) place) (entries_in-append old more)
    ∙ ap (λ (ds : List Directory). made_at (commit_places 0 (entries_in old ++ entries_in more)) ds place) (directories_in-append old more)
    ∙ same_made 0 place (entries_in old) (entries_in more) (directories_in old) (directories_in more) (one_each 0 old sealed) below in
    let versions : versions_after t (history_at t pinned.place) ≡ versions_after s (history_at s pinned.place) =
    ap (versions_after t) (stays ∙ here)
    ∙ same_versions start.base (given_of s) (given_of t) o.before refl given
    ∙ ap (versions_after s) (sym here) in
    record {
      history = stays;
      versions = versions;
      chunks = λ leaf. ap (λ (vs : List MadeVersion). version_chunks (λ name version. numbers_in (directory_of name version vs)) leaf.name leaf.version) versions;
      payloads = λ leaf at. ap (λ (vs : List MadeVersion). entry_in (directory_of leaf.name leaf.version vs) at.items) versions;
    }

-- ---- pins over one turn

-- a session that has no pin has none once others have added theirs
pub none_later : (session : ℕ) (old others new : List Event) → none_of owner_of session others ≡ true → new ≡ old ++ others →
    IsTrue (not (is_pinned session (reverse (entries_in old)))) → IsTrue (not (is_pinned session (reverse (entries_in new))))
none_later session old others new theirs e free =
    ap (λ (es : List Event). not (is_pinned session (reverse (entries_in es)))) e ∙ ap not (same_pinned session old others theirs) ∙ free

none_if : (b p : Bool) → b ≡ true → not (not b && p) ≡ true
none_if true p e = refl
none_if false p e = absurd (both_not false refl e)

-- a session has none behind its unpin
pub none_unpinned : (session : ℕ) (seen new : List Event) → new ≡ seen ++ Entered (Unpin session) ∷ [] → IsTrue (not (is_pinned session (reverse (entries_in new))))
none_unpinned session seen new e =
    ap (λ (es : List Event). not (is_pinned session (reverse (entries_in es)))) e
    ∙ ap (λ (es : List Entry). not (is_pinned session (reverse es))) (entries_in-append seen (Entered (Unpin session) ∷ []))
    ∙ ap (λ (h : History). not (is_pinned session h)) (reverse-append (entries_in seen) (Unpin session ∷ []))
    ∙ none_if (nat_eq session session) (is_pinned session (reverse (entries_in seen))) (eq-eqb session session refl)

-- a pin that is open stays so, where others have added theirs and its session no pin and no unpin
pub open_later : {D : Type 0} (start : Start D) (old others own new : List Event) (pinned : Pinned) → none_of owner_of pinned.session others ≡ true →
    list_all (leaves_pin_of pinned.session) own ≡ true → new ≡ (old ++ others) ++ own → IsOpenPin (ledger_of start old) pinned → IsOpenPin (ledger_of start new) pinned
open_later {D} start old others own new pinned theirs leave e o =
    subst (λ (es : List Event). IsOpenPin (ledger_of start es) pinned) (sym e)
    (pins_outlast D start (old ++ others) own pinned leave (pins_outlast D start old others pinned (others_leave_pins pinned.session others theirs) o))
