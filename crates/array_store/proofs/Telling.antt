-- What events tell of a store.
use Rattle.std.proofs.Common.{◌≡◌, ◌∙◌, ℕ, ◌+◌, Bool, true, false, ◌&&◌, if◌then◌else◌, nat_eq, nat_le, List, [], ◌∷◌, ◌++◌, length, map, reverse, refl, ap, sym, arith}
use Rattle.std.specs.List.{filter, list_all}
use Rattle.std.proofs.lemmas.Bool.{and_from, and_parts}
use Rattle.std.proofs.lemmas.Bool.Decides.{nat_tests}
use Rattle.std.proofs.lemmas.List.{reverse-append, reverse-reverse}
use Rattle.std.proofs.lemmas.List.Folds.{list_all-append}
use Rattle.array_rows.specs.Boxes.{by_pairs}
use Rattle.chunk_map.specs.declared.directory.Directory.{Directory}
use Rattle.event_core.specs.declared.entry.Entry.{Entry}
use Rattle.event_core.specs.declared.entry.Entry.TheVariants.{Pin, Unpin, Commit, Reap}
use Rattle.event_core.specs.History.{History}
use Rattle.event_core.proofs.Tests.{both_not}
use Rattle.store_ledger.specs.declared.note.Note.{Note}
use Rattle.store_ledger.specs.Ledger.{Event as LedgerEvent, IsLedger, AreNoted, IsNote, entered, noted, events_from, events as ledger_events}
use Rattle.store_versions.specs.Versions.{MadeVersion}
use Rattle.prepared_commits.specs.Event.{Event}
use Rattle.prepared_commits.specs.Event.TheVariants.{Entered, Acknowledged, Noted}
use Rattle.prepared_commits.specs.Events.{Seal, events, sealed}
use Rattle.prepared_commits.specs.Standings.{Standing}
use Rattle.array_store.specs.declared.store.start.FirstVersion.{FirstVersion}
use Rattle.array_store.specs.Starts.{first_of}
use Rattle.array_store.proofs.Added.{commits_from, count_commits, pairs_count, seal_by, seals_of}
use Rattle.array_store.proofs.Counted.{all_notes}
use Rattle.array_store.specs.Told.{entries_in, notes_in, moments_in, directories_in, is_sealed, version_from}
use Rattle.array_store.specs.ToldLaws.{StoresAreTold}

-- ---- one list behind another

pub entries_in-append : (xs ys : List Event) → entries_in (xs ++ ys) ≡ entries_in xs ++ entries_in ys
entries_in-append [] ys = refl
entries_in-append (Entered entry ∷ xs) ys = ap (λ (es : List Entry). entry ∷ es) (entries_in-append xs ys)
entries_in-append (Acknowledged entry moment directory ∷ xs) ys = ap (λ (es : List Entry). entry ∷ es) (entries_in-append xs ys)
entries_in-append (Noted note ∷ xs) ys = entries_in-append xs ys

pub notes_in-append : (xs ys : List Event) → notes_in (xs ++ ys) ≡ notes_in xs ++ notes_in ys
notes_in-append [] ys = refl
notes_in-append (Entered entry ∷ xs) ys = notes_in-append xs ys
notes_in-append (Acknowledged entry moment directory ∷ xs) ys = notes_in-append xs ys
notes_in-append (Noted note ∷ xs) ys = ap (λ (ns : List Note). note ∷ ns) (notes_in-append xs ys)

pub directories_in-append : (xs ys : List Event) → directories_in (xs ++ ys) ≡ directories_in xs ++ directories_in ys
directories_in-append [] ys = refl
directories_in-append (Entered entry ∷ xs) ys = directories_in-append xs ys
directories_in-append (Acknowledged entry moment directory ∷ xs) ys = ap (λ (ds : List Directory). directory ∷ ds) (directories_in-append xs ys)
directories_in-append (Noted note ∷ xs) ys = directories_in-append xs ys

-- ---- entries and notes of a ledger's events

abbrev ledger_entries : List LedgerEvent → List Entry
ledger_entries [] = []
ledger_entries (entered entry ∷ all) = entry ∷ ledger_entries all
ledger_entries (noted note ∷ all) = ledger_entries all

abbrev ledger_notes : List LedgerEvent → List Note
ledger_notes [] = []
ledger_notes (entered entry ∷ all) = ledger_notes all
ledger_notes (noted note ∷ all) = note ∷ ledger_notes all

sealed_entries : (all : List LedgerEvent) (seals : List Seal) → entries_in (sealed all seals) ≡ ledger_entries all
sealed_entries [] seals = refl
sealed_entries (entered (Pin session) ∷ all) seals = ap (λ (es : List Entry). Pin session ∷ es) (sealed_entries all seals)
sealed_entries (entered (Unpin session) ∷ all) seals = ap (λ (es : List Entry). Unpin session ∷ es) (sealed_entries all seals)
sealed_entries (entered (Commit session change used) ∷ all) [] = ap (λ (es : List Entry). Commit session change used ∷ es) (sealed_entries all [])
sealed_entries (entered (Commit session change used) ∷ all) (seal ∷ seals) = ap (λ (es : List Entry). Commit session change used ∷ es) (sealed_entries all seals)
sealed_entries (entered Reap ∷ all) seals = ap (λ (es : List Entry). Reap ∷ es) (sealed_entries all seals)
sealed_entries (noted note ∷ all) seals = sealed_entries all seals

sealed_notes : (all : List LedgerEvent) (seals : List Seal) → notes_in (sealed all seals) ≡ ledger_notes all
sealed_notes [] seals = refl
sealed_notes (entered (Pin session) ∷ all) seals = sealed_notes all seals
sealed_notes (entered (Unpin session) ∷ all) seals = sealed_notes all seals
sealed_notes (entered (Commit session change used) ∷ all) [] = sealed_notes all []
sealed_notes (entered (Commit session change used) ∷ all) (seal ∷ seals) = sealed_notes all seals
sealed_notes (entered Reap ∷ all) seals = sealed_notes all seals
sealed_notes (noted note ∷ all) seals = ap (λ (ns : List Note). note ∷ ns) (sealed_notes all seals)

past_notes : (notes : List Note) (all : List LedgerEvent) → ledger_entries (map noted notes ++ all) ≡ ledger_entries all
past_notes [] all = refl
past_notes (note ∷ notes) all = past_notes notes all

no_entries : (notes : List Note) → ledger_entries (map noted notes) ≡ []
no_entries [] = refl
no_entries (note ∷ notes) = no_entries notes

entries_from : (place : ℕ) (entries : List Entry) (notes : List Note) → ledger_entries (events_from place entries notes) ≡ entries
entries_from place [] notes = no_entries (filter (λ note. nat_le place note.after) notes)
entries_from place (entry ∷ entries) notes =
    past_notes (filter (λ note. nat_eq note.after place) notes) (entered entry ∷ events_from (place + 1) entries notes)
    ∙ ap (λ (es : List Entry). entry ∷ es) (entries_from (place + 1) entries notes)

-- the entries among a store's events are its entries
pub entries_are : {D : Type 0} (s : Standing D) → entries_in (events s) ≡ s.ledger.entries
entries_are s = sealed_entries (ledger_events s.ledger) (seals_of s) ∙ entries_from 0 s.ledger.entries s.ledger.notes

-- ---- notes, which don't fall

abbrev is_rising : List Note → Bool
is_rising [] = true
is_rising (note ∷ notes) = list_all (λ other. nat_le note.after other.after) notes && is_rising notes

at_le : (place n : ℕ) → nat_eq n place ≡ true → nat_le place n ≡ true
at_le place n e = grind (arith, nat_tests)

behind_le : (place n : ℕ) → nat_le (place + 1) n ≡ true → nat_le place n ≡ true
behind_le place n e = grind (arith, nat_tests)

behind_if : (place n : ℕ) → nat_le place n ≡ true → nat_eq n place ≡ false → nat_le (place + 1) n ≡ true
behind_if place n e f = grind (arith, nat_tests)

at_only : (place n : ℕ) → nat_eq n place ≡ true → nat_le (place + 1) n ≡ false
at_only place n e = grind (arith, nat_tests)

past_at : (place n m : ℕ) → nat_le (place + 1) n ≡ true → nat_le n m ≡ true → nat_eq m place ≡ false
past_at place n m e f = grind (arith, nat_tests)

none_if : (b : Bool) (note : Note) (notes : List Note) → b ≡ false → notes ≡ [] → (if b then note ∷ notes else notes) ≡ []
none_if true note notes e f = absurd (both_not true e refl)
none_if false note notes e f = f

-- where each note is behind a place, none is at it
none_at : (place n : ℕ) (notes : List Note) → nat_le (place + 1) n ≡ true → list_all (λ other. nat_le n other.after) notes ≡ true →
    filter (λ note. nat_eq note.after place) notes ≡ []
none_at place n [] e all = refl
none_at place n (note ∷ notes) e all =
    let p : (nat_le n note.after ≡ true) × (list_all (λ other. nat_le n other.after) notes ≡ true) = and_parts (nat_le n note.after) (list_all (λ other. nat_le n other.after) notes) all in
    none_if (nat_eq note.after place) note (filter (λ other. nat_eq other.after place) notes) (past_at place n note.after e p.0) (none_at place n notes e p.1)

parted_one : (a b c : Bool) (note : Note) (xs ys zs : List Note) → (b ≡ true → a ≡ true) → (c ≡ true → a ≡ true) →
    (a ≡ true → b ≡ false → c ≡ true) → (b ≡ true → c ≡ false) → (c ≡ true → xs ≡ []) → xs ++ ys ≡ zs →
    (if b then note ∷ xs else xs) ++ (if c then note ∷ ys else ys) ≡ (if a then note ∷ zs else zs)
parted_one true true true note xs ys zs f g h k none e = absurd (both_not true (k refl) refl)
parted_one true true false note xs ys zs f g h k none e = ap (λ (ns : List Note). note ∷ ns) e
parted_one true false true note xs ys zs f g h k none e =
    ap (λ (ns : List Note). ns ++ note ∷ ys) (none refl) ∙ ap (λ (ns : List Note). note ∷ ns) (sym (ap (λ (ns : List Note). ns ++ ys) (none refl)) ∙ e)
parted_one true false false note xs ys zs f g h k none e = absurd (both_not false refl (h refl refl))
parted_one false true c note xs ys zs f g h k none e = absurd (both_not false refl (f refl))
parted_one false false true note xs ys zs f g h k none e = absurd (both_not false refl (g refl))
parted_one false false false note xs ys zs f g h k none e = e

-- of the notes from a place on those at it come first, and then those behind it
parted : (place : ℕ) (notes : List Note) → is_rising notes ≡ true →
    filter (λ note. nat_eq note.after place) notes ++ filter (λ note. nat_le (place + 1) note.after) notes ≡ filter (λ note. nat_le place note.after) notes
parted place [] rising = refl
parted place (note ∷ notes) rising =
    let p : (list_all (λ other. nat_le note.after other.after) notes ≡ true) × (is_rising notes ≡ true) = and_parts (list_all (λ other. nat_le note.after other.after) notes) (is_rising notes) rising in
    parted_one (nat_le place note.after) (nat_eq note.after place) (nat_le (place + 1) note.after) note _ _ _
    (at_le place note.after) (behind_le place note.after) (behind_if place note.after) (at_only place note.after)
    (λ behind. none_at place note.after notes behind p.0) (parted place notes p.1)

all_noted : (notes : List Note) → ledger_notes (map noted notes) ≡ notes
all_noted [] = refl
all_noted (note ∷ notes) = ap (λ (ns : List Note). note ∷ ns) (all_noted notes)

noted_first : (notes : List Note) (all : List LedgerEvent) → ledger_notes (map noted notes ++ all) ≡ notes ++ ledger_notes all
noted_first [] all = refl
noted_first (note ∷ notes) all = ap (λ (ns : List Note). note ∷ ns) (noted_first notes all)

notes_from : (place : ℕ) (entries : List Entry) (notes : List Note) → is_rising notes ≡ true →
    ledger_notes (events_from place entries notes) ≡ filter (λ note. nat_le place note.after) notes
notes_from place [] notes rising = all_noted (filter (λ note. nat_le place note.after) notes)
notes_from place (entry ∷ entries) notes rising =
    let here : List Note = filter (λ note. nat_eq note.after place) notes in
    noted_first here (entered entry ∷ events_from (place + 1) entries notes)
    ∙ ap (λ (ns : List Note). here ++ ns) (notes_from (place + 1) entries notes rising)
    ∙ parted place notes rising

rising_push : (notes : List Note) (last : Note) → is_rising notes ≡ true → list_all (λ other. nat_le other.after last.after) notes ≡ true →
    is_rising (notes ++ last ∷ []) ≡ true
rising_push [] last rising all = refl
rising_push (note ∷ notes) last rising all =
    let p : (list_all (λ other. nat_le note.after other.after) notes ≡ true) × (is_rising notes ≡ true) = and_parts (list_all (λ other. nat_le note.after other.after) notes) (is_rising notes) rising in
    let q : (nat_le note.after last.after ≡ true) × (list_all (λ other. nat_le other.after last.after) notes ≡ true) = and_parts (nat_le note.after last.after) (list_all (λ other. nat_le other.after last.after) notes) all in
    let every : list_all (λ other. nat_le note.after other.after) (notes ++ last ∷ []) ≡ true =
    list_all-append (λ (other : Note). nat_le note.after other.after) notes (last ∷ [])
    ∙ and_from (list_all (λ other. nat_le note.after other.after) notes) (list_all (λ other. nat_le note.after other.after) (last ∷ [])) p.0 (and_from (nat_le note.after last.after) true q.0 refl) in
    and_from (list_all (λ other. nat_le note.after other.after) (notes ++ last ∷ [])) (is_rising (notes ++ last ∷ [])) every (rising_push notes last p.1 q.1)

pub all_turned : {A : Type 0} (p : A → Bool) (xs : List A) → list_all p xs ≡ true → list_all p (reverse xs) ≡ true
all_turned p [] all = refl
all_turned p (x ∷ xs) all =
    let q : (p x ≡ true) × (list_all p xs ≡ true) = and_parts (p x) (list_all p xs) all in
    ap (list_all p) (reverse-append (x ∷ []) xs)
    ∙ list_all-append p (reverse xs) (x ∷ [])
    ∙ and_from (list_all p (reverse xs)) (list_all p (x ∷ [])) (all_turned p xs q.1) (and_from (p x) true q.0 refl)

rising_turned : (h : History) (notes : List Note) → AreNoted h notes → is_rising (reverse notes) ≡ true
rising_turned h [] are = refl
rising_turned h (note ∷ others) are =
    let n : IsNote h others note = are.1 in
    ap is_rising (reverse-append (note ∷ []) others)
    ∙ rising_push (reverse others) note (rising_turned h others are.0) (all_turned (λ other. nat_le other.after note.after) others n.rising)

-- the notes among a store's events are its notes
pub notes_are : {D : Type 0} (s : Standing D) → IsLedger s.ledger → notes_in (events s) ≡ s.ledger.notes
notes_are s is =
    let rising : is_rising s.ledger.notes ≡ true = ap is_rising (sym (reverse-reverse s.ledger.notes)) ∙ rising_turned (reverse s.ledger.entries) (reverse s.ledger.notes) is.notes in
    sealed_notes (ledger_events s.ledger) (seals_of s) ∙ notes_from 0 s.ledger.entries s.ledger.notes rising ∙ all_notes s.ledger.notes

-- ---- seals

sealed_moments : (all : List LedgerEvent) (seals : List Seal) → length seals ≡ count_commits all → moments_in (sealed all seals) ≡ map (λ seal. seal.moment) seals
sealed_moments [] [] e = refl
sealed_moments [] (seal ∷ seals) e = absurd (omega (arith, e))
sealed_moments (entered (Pin session) ∷ all) seals e = sealed_moments all seals e
sealed_moments (entered (Unpin session) ∷ all) seals e = sealed_moments all seals e
sealed_moments (entered (Commit session change used) ∷ all) [] e = absurd (omega (arith, e))
sealed_moments (entered (Commit session change used) ∷ all) (seal ∷ seals) e = ap (λ (ms : List ℕ). seal.moment ∷ ms) (sealed_moments all seals (omega (arith, e)))
sealed_moments (entered Reap ∷ all) seals e = sealed_moments all seals e
sealed_moments (noted note ∷ all) seals e = sealed_moments all seals e

sealed_directories : (all : List LedgerEvent) (seals : List Seal) → length seals ≡ count_commits all → directories_in (sealed all seals) ≡ map (λ seal. seal.directory) seals
sealed_directories [] [] e = refl
sealed_directories [] (seal ∷ seals) e = absurd (omega (arith, e))
sealed_directories (entered (Pin session) ∷ all) seals e = sealed_directories all seals e
sealed_directories (entered (Unpin session) ∷ all) seals e = sealed_directories all seals e
sealed_directories (entered (Commit session change used) ∷ all) [] e = absurd (omega (arith, e))
sealed_directories (entered (Commit session change used) ∷ all) (seal ∷ seals) e = ap (λ (ds : List Directory). seal.directory ∷ ds) (sealed_directories all seals (omega (arith, e)))
sealed_directories (entered Reap ∷ all) seals e = sealed_directories all seals e
sealed_directories (noted note ∷ all) seals e = sealed_directories all seals e

sealed_all : (all : List LedgerEvent) (seals : List Seal) → length seals ≡ count_commits all → list_all is_sealed (sealed all seals) ≡ true
sealed_all [] seals e = refl
sealed_all (entered (Pin session) ∷ all) seals e = sealed_all all seals e
sealed_all (entered (Unpin session) ∷ all) seals e = sealed_all all seals e
sealed_all (entered (Commit session change used) ∷ all) [] e = absurd (omega (arith, e))
sealed_all (entered (Commit session change used) ∷ all) (seal ∷ seals) e = sealed_all all seals (omega (arith, e))
sealed_all (entered Reap ∷ all) seals e = sealed_all all seals e
sealed_all (noted note ∷ all) seals e = sealed_all all seals e

firsts : (moments : List ℕ) (directories : List Directory) → length moments ≡ length directories →
    map (λ seal. seal.moment) (by_pairs seal_by moments directories) ≡ moments
firsts [] directories e = refl
firsts (moment ∷ moments) [] e = absurd (omega (arith, e))
firsts (moment ∷ moments) (directory ∷ directories) e = ap (λ (ms : List ℕ). moment ∷ ms) (firsts moments directories (omega (arith, e)))

seconds : (moments : List ℕ) (directories : List Directory) → length moments ≡ length directories →
    map (λ seal. seal.directory) (by_pairs seal_by moments directories) ≡ directories
seconds [] [] e = refl
seconds [] (directory ∷ directories) e = absurd (omega (arith, e))
seconds (moment ∷ moments) [] e = absurd (omega (arith, e))
seconds (moment ∷ moments) (directory ∷ directories) e = ap (λ (ds : List Directory). directory ∷ ds) (seconds moments directories (omega (arith, e)))

-- ---- the whole store

pub same_first : (versions : List MadeVersion) → map version_from (map first_of versions) ≡ versions
same_first [] = refl
same_first (version ∷ versions) = ap (λ (vs : List MadeVersion). version ∷ vs) (same_first versions)

pub first_same : (versions : List FirstVersion) → map first_of (map version_from versions) ≡ versions
first_same [] = refl
first_same (version ∷ versions) = ap (λ (vs : List FirstVersion). version ∷ vs) (first_same versions)

pub stores_are_told : (D : Type 0) → StoresAreTold D
stores_are_told D s is counted =
    let each : length s.acked ≡ length s.made = counted.acked ∙ sym counted.made in
    let seals : length (seals_of s) ≡ count_commits (ledger_events s.ledger) =
    pairs_count seal_by s.acked s.made each ∙ counted.acked ∙ sym (commits_from 0 s.ledger.entries s.ledger.notes) in
    let first : s.first ≡ map version_from (map first_of s.first) = sym (same_first s.first) in
    let entries : s.ledger.entries ≡ entries_in (events s) = sym (entries_are s) in
    let notes : s.ledger.notes ≡ notes_in (events s) = sym (notes_are s is) in
    let moments : s.acked ≡ moments_in (events s) = sym (sealed_moments (ledger_events s.ledger) (seals_of s) seals ∙ firsts s.acked s.made each) in
    let directories : s.made ≡ directories_in (events s) = sym (sealed_directories (ledger_events s.ledger) (seals_of s) seals ∙ seconds s.acked s.made each) in
    record {
      told = λ i. record {
        disk = s.disk;
        opened = s.opened;
        first = first i;
        ledger = record { base = s.ledger.base; limit = s.ledger.limit; entries = entries i; notes = notes i };
        doubt = s.doubt;
        acked = moments i;
        made = directories i;
      };
      sealed = sealed_all (ledger_events s.ledger) (seals_of s) seals;
    }
