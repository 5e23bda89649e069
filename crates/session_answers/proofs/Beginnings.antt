-- What a beginning of a history sees, whatever comes later.
use Rattle.std.proofs.Common.{◌≡◌, ◌∙◌, ℕ, suc, ◌+◌, ◌-◌, ◌<◌, ◌≤◌, Bool, true, false, if◌then◌else◌, nat_eq, List, [], ◌∷◌, ◌++◌, length, drop, reverse, refl, ap, arith, length-append}
use Rattle.std.specs.List.{list_all}
use Rattle.std.proofs.lemmas.Bool.Decides.{nat_tests}
use Rattle.std.proofs.lemmas.List.{length-drop, length-reverse}
use Rattle.chunk_map.specs.declared.directory.Directory.{Directory}
use Rattle.chunk_source.specs.Source.{version_chunks}
use Rattle.event_core.specs.declared.entry.Entry.{Entry}
use Rattle.event_core.specs.declared.entry.Entry.TheVariants.{Pin, Unpin, Commit, Reap}
use Rattle.event_core.specs.declared.state.Core.{Core}
use Rattle.event_core.specs.History.{History, names_at, up_to}
use Rattle.event_core.proofs.Tests.{both_not}
use Rattle.store_versions.specs.Versions.{Directories, MadeVersion, directory_of, versions_after as versions_behind, versions_at}
use Rattle.store_state.specs.declared.state.event.Event.{Event}
use Rattle.store_state.specs.declared.state.event.Event.TheVariants.{Entered, Acknowledged, Noted}
use Rattle.store_state.specs.Calls.{entry_in, history_at, numbers_in}
use Rattle.store_state.specs.Standings.{commit_places, given_of, made_at, versions_after}
use Rattle.array_store.specs.declared.store.start.Start.{Start}
use Rattle.array_store.specs.ToldLaws.{SeesTheSame}
use Rattle.array_store.specs.Told.{directories_in, entries_in, is_sealed, told}
use Rattle.array_store.proofs.Sights.{more_history}
use Rattle.array_store.proofs.Telling.{directories_in-append, entries_in-append}

-- ---- places

later_same : (place : ℕ) (entry : Entry) (h : History) → place ≤ length h → up_to place (entry ∷ h) ≡ up_to place h
later_same place entry h within =
    let e : suc (length h) - place ≡ suc (length h - place) = omega (arith, within) in
    ap (λ (n : ℕ). drop n (entry ∷ h)) e

pub beginning_stays : (later h : History) (place : ℕ) → place ≤ length h → up_to place (later ++ h) ≡ up_to place h
beginning_stays [] h place within = refl
beginning_stays (entry ∷ later) h place within =
    let more : place ≤ length (later ++ h) = omega (arith, within, length-append later h) in
    later_same place entry (later ++ h) more ∙ beginning_stays later h place within

-- ---- the directories that a beginning's versions were made with

not_here : (place n : ℕ) → place < n → nat_eq place n ≡ false
not_here place n e = grind (arith, nat_tests)

otherwise : (b : Bool) (x y : Directory) → b ≡ false → (if b then x else y) ≡ y
otherwise true x y e = absurd (both_not true e refl)
otherwise false x y e = refl

-- none is made at a place before all of these
none_made : (n place : ℕ) (entries : List Entry) (made : List Directory) → place < n → made_at (commit_places n entries) made place ≡ record { entries = [] }
none_made n place [] made e = refl
none_made n place (Pin session ∷ entries) made e = none_made (n + 1) place entries made (omega (arith, e))
none_made n place (Unpin session ∷ entries) made e = none_made (n + 1) place entries made (omega (arith, e))
none_made n place (Commit session change used ∷ entries) [] e = refl
none_made n place (Commit session change used ∷ entries) (directory ∷ made) e =
    otherwise (nat_eq place n) directory (made_at (commit_places (n + 1) entries) made place) (not_here place n e)
    ∙ none_made (n + 1) place entries made (omega (arith, e))
none_made n place (Reap ∷ entries) made e = none_made (n + 1) place entries made (omega (arith, e))

-- those of the first entries are as they were, whatever comes later
same_made : (n place : ℕ) (first more : List Entry) (made later : List Directory) → length made ≡ length (commit_places n first) → place < n + length first →
    made_at (commit_places n (first ++ more)) (made ++ later) place ≡ made_at (commit_places n first) made place
same_made n place [] more [] later count within = none_made n place more later (omega (arith, within))
same_made n place [] more (directory ∷ made) later count within = absurd (omega (arith, count))
same_made n place (Pin session ∷ first) more made later count within = same_made (n + 1) place first more made later count (omega (arith, within))
same_made n place (Unpin session ∷ first) more made later count within = same_made (n + 1) place first more made later count (omega (arith, within))
same_made n place (Commit session change used ∷ first) more [] later count within = absurd (omega (arith, count))
same_made n place (Commit session change used ∷ first) more (directory ∷ made) later count within =
    ap (λ (other : Directory). if nat_eq place n then directory else other)
    (same_made (n + 1) place first more made later (omega (arith, count)) (omega (arith, within)))
same_made n place (Reap ∷ first) more made later count within = same_made (n + 1) place first more made later count (omega (arith, within))

-- each commit that was acknowledged has its directory
one_each : (n : ℕ) (events : List Event) → list_all is_sealed events ≡ true → length (directories_in events) ≡ length (commit_places n (entries_in events))
one_each n [] all = refl
one_each n (Entered (Pin session) ∷ events) all = one_each (n + 1) events all
one_each n (Entered (Unpin session) ∷ events) all = one_each (n + 1) events all
one_each n (Entered (Commit session change used) ∷ events) all = absurd (both_not false refl all)
one_each n (Entered Reap ∷ events) all = one_each (n + 1) events all
one_each n (Acknowledged (Pin session) moment directory ∷ events) all = absurd (both_not false refl all)
one_each n (Acknowledged (Unpin session) moment directory ∷ events) all = absurd (both_not false refl all)
one_each n (Acknowledged (Commit session change used) moment directory ∷ events) all = ap suc (one_each (n + 1) events all)
one_each n (Acknowledged Reap moment directory ∷ events) all = absurd (both_not false refl all)
one_each n (Noted note ∷ events) all = one_each n events all

same_versions : (base : Core) (given other : Directories) (h : History) → other.first ≡ given.first → ((place : ℕ) → place < length h → other.made place ≡ given.made place) →
    versions_at base other h ≡ versions_at base given h
same_versions base given other [] first made = first
same_versions base given other (Pin session ∷ h) first made = same_versions base given other h first (λ place e. made place (omega (arith, e)))
same_versions base given other (Unpin session ∷ h) first made = same_versions base given other h first (λ place e. made place (omega (arith, e)))
same_versions base given other (Commit session change used ∷ h) first made =
    let last : other.made (length h) ≡ given.made (length h) = made (length h) (omega arith) in
    let rest : versions_at base other h ≡ versions_at base given h = same_versions base given other h first (λ place e. made place (omega (arith, e))) in
    ap (λ (directory : Directory). versions_behind (names_at base h) change directory (versions_at base other h)) last
    ∙ ap (versions_behind (names_at base h) change (given.made (length h))) rest
same_versions base given other (Reap ∷ h) first made = same_versions base given other h first (λ place e. made place (omega (arith, e)))

-- ---- the whole of it

-- a place that the history has reached
module _ {D : Type 0} (start : Start D) (old more : List Event) (place : ℕ) (within : place ≤ length (entries_in old)) where
  pub reached : place ≤ length (entries_in (old ++ more))
  reached = omega (arith, within, ap (λ (es : List Entry). length es) (entries_in-append old more), length-append (entries_in old) (entries_in more))

  in_history : place ≤ length (reverse (entries_in old))
  in_history = omega (arith, within, length-reverse (entries_in old))

  pub history_stays : history_at (told start (old ++ more)) place ≡ history_at (told start old) place
  history_stays =
      ap (up_to place) (more_history old more) ∙ beginning_stays (reverse (entries_in more)) (reverse (entries_in old)) place in_history

  pub how_long : length (history_at (told start old) place) ≡ place
  how_long =
      let h : History = reverse (entries_in old) in
      omega (arith, within, in_history, length-drop (length h - place) h)

  -- the directories of its commits
  same_given : list_all is_sealed old ≡ true → (n : ℕ) → n < length (history_at (told start old) place) →
      (given_of (told start (old ++ more))).made n ≡ (given_of (told start old)).made n
  same_given sealed n e =
      let below : n < 0 + length (entries_in old) = omega (arith, e, within, how_long) in
      ap (λ (es : List Entry). made_at (commit_places 0 es) (directories_in (old ++ more)) n) (entries_in-append old more)
      ∙ ap (λ (ds : List Directory). made_at (commit_places 0 (entries_in old ++ entries_in more)) ds n) (directories_in-append old more)
      ∙ same_made 0 n (entries_in old) (entries_in more) (directories_in old) (directories_in more) (one_each 0 old sealed) below

  versions_stay : list_all is_sealed old ≡ true → versions_after (told start (old ++ more)) (history_at (told start (old ++ more)) place)
      ≡ versions_after (told start old) (history_at (told start old) place)
  versions_stay sealed =
      ap (versions_after (told start (old ++ more))) history_stays
      ∙ same_versions start.base (given_of (told start old)) (given_of (told start (old ++ more))) (history_at (told start old) place) refl (same_given sealed)

  pub places_see_the_same : list_all is_sealed old ≡ true → SeesTheSame place (told start old) (told start (old ++ more))
  places_see_the_same sealed = record {
    history = history_stays;
    versions = versions_stay sealed;
    chunks = λ leaf. ap (λ (vs : List MadeVersion). version_chunks (λ name version. numbers_in (directory_of name version vs)) leaf.name leaf.version) (versions_stay sealed);
    payloads = λ leaf at. ap (λ (vs : List MadeVersion). entry_in (directory_of leaf.name leaf.version vs) at.items) (versions_stay sealed);
  }
