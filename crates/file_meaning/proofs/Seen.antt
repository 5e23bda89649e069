-- Which entries a version before has, and which are new.
use Rattle.std.proofs.Common.{◌≡◌, ◌<◌, ◌≤◌, ℕ, Bool, true, false, cond, not, ◌||◌, List, [], ◌∷◌, Option, Some, None, Ok, refl, sym, ◌∙◌, ap, subst, arith}
use Rattle.std.specs.Prelude.{nat_le, ◌&&◌}
use Rattle.std.specs.List.{AllByRecursion, filter}
use Rattle.std.specs.Option.{option_or}
use Rattle.std.specs.Ordering.{is_eq, ordering_reverse}
use Rattle.std.specs.declared.cmp.Ordering.{Ordering}
use Rattle.std.specs.declared.cmp.Ordering.TheVariants.{Less, Equal, Greater}
use Rattle.std.proofs.lemmas.Bool.Decides.{nat_tests}
use Rattle.chunk_map.specs.Geometry.{ChunkNumber, has_core}
use Rattle.chunk_map.specs.Link.{number_order}
use Rattle.chunk_map.proofs.NumberLaws.{same_number, is_equal}
use Rattle.cell_values.specs.declared.schema.Dimension.{Dimension}
use Rattle.chunk_map.specs.declared.directory.DirEntry.{DirEntry}
use Rattle.chunk_map.specs.declared.directory.Directory.{Directory}
use Rattle.chunk_map.specs.Entries.{AreRising, entry_at}
use Rattle.chunk_map.proofs.Moves.{number_order_total, IsBefore, before-trans}
use Rattle.plan_changes.specs.Changes.{name_of}
use Rattle.version_catalog.specs.declared.rules.catalog.Catalog.{Catalog}
use Rattle.version_catalog.specs.Catalogs.{names_in}
use Rattle.file_meaning.specs.Opening.{is_same, is_seen, is_entry, are_pages, Rules, rows_in, sequence_of}
use Rattle.file_meaning.proofs.Parts.{both_true}
use Rattle.file_meaning.proofs.Elsewhere.{found_steps}
use Rattle.file_meaning.specs.NextLaws.{HadEntriesAreSeen, LaterEntriesAreUnseen, ReplacingEntriesAreUnseen}
use Rattle.file_meaning.specs.Premises.{row_of}
use Rattle.file_meaning.proofs.Appended.{entries_in, seen_either}
use Rattle.file_meaning.proofs.Lists.{all_row, all_entries, seen_has}
use Rattle.file_meaning.proofs.Same.{same_itself, not_itself}
use Rattle.file_meaning.proofs.Taken.{rows_meet}

-- ---- entries of the versions before

or_left : (a b : Bool) → a ≡ true → (a || b) ≡ true
or_left true b is = refl
or_left false b is = absurd cc

or_right : (a b : Bool) → b ≡ true → (a || b) ≡ true
or_right true b is = refl
or_right false b is = is

each_seen : (xs all : List DirEntry) → ((e : DirEntry) → is_seen xs e ≡ true → is_seen all e ≡ true) → AllByRecursion (λ e. is_seen all e ≡ true) xs
each_seen [] all within = tt
each_seen (x ∷ xs) all within = (within x (or_left (is_same x x) (is_seen xs x) (same_itself x)), each_seen xs all (λ e seen. within e (or_right (is_same e x) (is_seen xs e) seen)))

row_seen : (row : List Directory) (all : List DirEntry) → ((e : DirEntry) → is_seen (entries_in row) e ≡ true → is_seen all e ≡ true) → AllByRecursion (λ d. AllByRecursion (λ e. is_seen all e ≡ true) d.entries) row
row_seen [] all within = tt
row_seen (d ∷ row) all within = (
  each_seen d.entries all (λ e seen. within e (seen_either d.entries (entries_in row) e ∙ or_left (is_seen d.entries e) (is_seen (entries_in row) e) seen)),
  row_seen row all (λ e seen. within e (seen_either d.entries (entries_in row) e ∙ or_right (is_seen d.entries e) (is_seen (entries_in row) e) seen)),
)

pub had_seen : HadEntriesAreSeen
had_seen found change = let row = row_of (name_of change) (names_in found.catalog).arrays found.directories in row_seen row (entries_in row) (λ e seen. seen)

-- ---- later entries

early : (file : List ℕ) (sequence : ℕ) (dims : List Dimension) (e : DirEntry) → is_entry file sequence dims e ≡ true → e.birth ≤ sequence
early file sequence dims e tested =
    let a = both_true (has_core dims e.at.items) (nat_le e.birth sequence && are_pages file e.pages) tested in
    let b : nat_le e.birth sequence ≡ true = (both_true (nat_le e.birth sequence) (are_pages file e.pages) a.1).0 in
    grind (arith, nat_tests)

pub later_unseen : LaterEntriesAreUnseen
later_unseen file slots db found change entry stands later =
    let steps = found_steps file slots found stands.finds in
    let rules : Rules = record { first = slots.current.root.first; sequence = sequence_of slots } in
    let is : rows_in file rules steps.logged.taken found.catalog.arrays ≡ Ok found.directories = subst (λ (k : Catalog). rows_in file rules steps.logged.taken k.arrays ≡ Ok found.directories) steps.catalog steps.rows in
    let es = (names_in found.catalog).arrays in
    let row = row_of (name_of change) es found.directories in
    let all : AllByRecursion (λ e. e.birth ≤ sequence_of slots) (entries_in row)
    = all_entries (λ e. e.birth ≤ sequence_of slots) row (all_row (λ d. AllByRecursion (λ e. e.birth ≤ sequence_of slots) d.entries) (name_of change) es found.directories
    (rows_meet file rules (λ e. e.birth ≤ sequence_of slots) (λ dims e tested. early file (sequence_of slots) dims e tested) found.catalog.arrays steps.logged.taken found.directories is)) in
    by_test (entries_in row) all later (is_seen (entries_in row) entry) refl
  where
    by_test : (seen : List DirEntry) → AllByRecursion (λ e. e.birth ≤ sequence_of slots) seen → sequence_of slots < entry.birth → (b : Bool) → is_seen seen entry ≡ b → b ≡ false
    by_test seen all more false is = refl
    by_test seen all more true is = absurd (let less = seen_has (λ e. e.birth ≤ sequence_of slots) seen entry all is in omega (arith, less, more))

-- ---- entries looked up where they rise

none_after : (k : ChunkNumber) (entries : List DirEntry) → IsBefore k entries → entry_at entries k ≡ None
none_after k [] before = refl
none_after k (x ∷ entries) before = by_test (is_eq (number_order x.at.items k)) refl (none_after k entries before.1)
  where
    by_test : (b : Bool) → is_eq (number_order x.at.items k) ≡ b → entry_at entries k ≡ None → cond b (Some x) (entry_at entries k) ≡ None
    by_test false is later = later
    by_test true is later =
        let same : x.at.items ≡ k = same_number x.at.items k (is_equal (number_order x.at.items k) is) in
        absurd (not_itself k (subst (λ (n : ChunkNumber). number_order k n ≡ Less) same before.0))

equal_itself : (t : Ordering) → t ≡ ordering_reverse t → is_eq t ≡ true
equal_itself Less e = absurd cc
equal_itself Equal e = refl
equal_itself Greater e = absurd cc

own_number : (k : ChunkNumber) → is_eq (number_order k k) ≡ true
own_number k = equal_itself (number_order k k) (number_order_total.antisymm k k)

own_entry : (x : DirEntry) (entries : List DirEntry) → entry_at (x ∷ entries) x.at.items ≡ Some x
own_entry x entries = ap (λ (b : Bool). cond b (Some x) (entry_at entries x.at.items)) (own_number x.at.items)

found_all : (P : DirEntry → Type 0) (entries : List DirEntry) (k : ChunkNumber) (e : DirEntry) → AllByRecursion P entries → entry_at entries k ≡ Some e → P e
found_all P [] k e all is = absurd cc
found_all P (x ∷ entries) k e all is = by_test (is_eq (number_order x.at.items k)) is (found_all P entries k e all.1)
  where
    by_test : (b : Bool) → cond b (Some x) (entry_at entries k) ≡ Some e → (entry_at entries k ≡ Some e → P e) → P e
    by_test true it later = let same : x ≡ e = cc in subst P same all.0
    by_test false it later = later it

-- ---- some of them

abbrev keep : (DirEntry → Bool) → Option DirEntry → Option DirEntry
keep t None = None
keep t (Some e) = cond (t e) (Some e) None

before_filter : (t : DirEntry → Bool) (k : ChunkNumber) (entries : List DirEntry) → IsBefore k entries → IsBefore k (filter t entries)
before_filter t k [] before = tt
before_filter t k (x ∷ entries) before = by_test (t x) (before_filter t k entries before.1)
  where
    by_test : (b : Bool) → IsBefore k (filter t entries) → IsBefore k (cond b (x ∷ filter t entries) (filter t entries))
    by_test true later = (before.0, later)
    by_test false later = later

rising_filter : (t : DirEntry → Bool) (entries : List DirEntry) → AreRising entries → AreRising (filter t entries)
rising_filter t [] rise = tt
rising_filter t (x ∷ entries) rise = by_test (t x) (rising_filter t entries rise.1)
  where
    by_test : (b : Bool) → AreRising (filter t entries) → AreRising (cond b (x ∷ filter t entries) (filter t entries))
    by_test true later = (before_filter t x.at.items entries rise.0, later)
    by_test false later = later

filtered_at : (t : DirEntry → Bool) (entries : List DirEntry) (k : ChunkNumber) → AreRising entries → entry_at (filter t entries) k ≡ keep t (entry_at entries k)
filtered_at t [] k rise = refl
filtered_at t (x ∷ entries) k rise = by_test (t x) (is_eq (number_order x.at.items k)) refl refl (filtered_at t entries k rise.1)
  where
    by_test : (c b : Bool) → t x ≡ c → is_eq (number_order x.at.items k) ≡ b → entry_at (filter t entries) k ≡ keep t (entry_at entries k)
        → entry_at (cond c (x ∷ filter t entries) (filter t entries)) k ≡ keep t (cond b (Some x) (entry_at entries k))
    by_test true true passes is later = ap (λ (b : Bool). cond b (Some x) (entry_at (filter t entries) k)) is ∙ sym (ap (λ (b : Bool). cond b (Some x) None) passes)
    by_test true false passes is later = ap (λ (b : Bool). cond b (Some x) (entry_at (filter t entries) k)) is ∙ later
    by_test false true passes is later =
        let same : x.at.items ≡ k = same_number x.at.items k (is_equal (number_order x.at.items k) is) in
        later ∙ ap (keep t) (none_after k entries (subst (λ (n : ChunkNumber). IsBefore n entries) same rise.0)) ∙ sym (ap (λ (b : Bool). cond b (Some x) None) passes)
    by_test false false passes is later = later

-- ---- rising entries are told by what is found

some_entry : (a b : DirEntry) → Some a ≡ Some b → a ≡ b
some_entry a b is = cc

no_entry : (a : DirEntry) → Some a ≡ None → ⊥
no_entry a is = cc

turned : (o p : Ordering) → p ≡ ordering_reverse o → o ≡ Greater → p ≡ Less
turned o p back is = back ∙ ap ordering_reverse is

rest_at : (x y : DirEntry) (xs ys : List DirEntry) → x ≡ y → AreRising (x ∷ xs) → AreRising (y ∷ ys) → ((k : ChunkNumber) → entry_at (x ∷ xs) k ≡ entry_at (y ∷ ys) k) → (k : ChunkNumber) → entry_at xs k ≡ entry_at ys k
rest_at x y xs ys same rise_x rise_y found k = by_test (is_eq (number_order x.at.items k)) refl
  where
    by_test : (b : Bool) → is_eq (number_order x.at.items k) ≡ b → entry_at xs k ≡ entry_at ys k
    by_test true is =
        let at : x.at.items ≡ k = same_number x.at.items k (is_equal (number_order x.at.items k) is) in
        let other : y.at.items ≡ k = sym (ap (λ (e : DirEntry). e.at.items) same) ∙ at in
        none_after k xs (subst (λ (n : ChunkNumber). IsBefore n xs) at rise_x.0) ∙ sym (none_after k ys (subst (λ (n : ChunkNumber). IsBefore n ys) other rise_y.0))
    by_test false is =
        let other : is_eq (number_order y.at.items k) ≡ false = ap (λ (e : DirEntry). is_eq (number_order e.at.items k)) (sym same) ∙ is in
        sym (ap (λ (b : Bool). cond b (Some x) (entry_at xs k)) is) ∙ found k ∙ ap (λ (b : Bool). cond b (Some y) (entry_at ys k)) other

same_entries : (xs ys : List DirEntry) → AreRising xs → AreRising ys → ((k : ChunkNumber) → entry_at xs k ≡ entry_at ys k) → xs ≡ ys
same_entries [] [] rise_x rise_y found = refl
same_entries [] (y ∷ ys) rise_x rise_y found = absurd (no_entry y (sym (found y.at.items ∙ own_entry y ys)))
same_entries (x ∷ xs) [] rise_x rise_y found = absurd (no_entry x (sym (own_entry x xs) ∙ found x.at.items))
same_entries (x ∷ xs) (y ∷ ys) rise_x rise_y found = by_order (number_order x.at.items y.at.items) refl (λ same. same_entries xs ys rise_x.1 rise_y.1 (rest_at x y xs ys same rise_x rise_y found))
  where
    by_order : (o : Ordering) → number_order x.at.items y.at.items ≡ o → (x ≡ y → xs ≡ ys) → x ∷ xs ≡ y ∷ ys
    by_order Less is later =
        absurd (no_entry x (sym (own_entry x xs) ∙ found x.at.items ∙ none_after x.at.items (y ∷ ys) (is, before-trans x.at.items y.at.items ys is rise_y.0)))
    by_order Equal is later =
        let at : x.at.items ≡ y.at.items = same_number x.at.items y.at.items is in
        let same : x ≡ y = some_entry x y (sym (own_entry x xs) ∙ found x.at.items ∙ ap (entry_at (y ∷ ys)) at ∙ own_entry y ys) in
        ap (λ (e : DirEntry). e ∷ xs) same ∙ ap (λ (es : List DirEntry). y ∷ es) (later same)
    by_order Greater is later =
        let back : number_order y.at.items x.at.items ≡ Less = turned (number_order x.at.items y.at.items) (number_order y.at.items x.at.items) (number_order_total.antisymm y.at.items x.at.items) is in
        absurd (no_entry y (sym (own_entry y ys) ∙ sym (found y.at.items) ∙ none_after y.at.items (x ∷ xs) (back, before-trans y.at.items x.at.items xs back rise_x.0)))

-- ---- replacing

fresh_kept : (seen fresh old : List DirEntry) (k : ChunkNumber) → AllByRecursion (λ e. is_seen seen e ≡ false) fresh → AllByRecursion (λ e. is_seen seen e ≡ true) old → (f o : Option DirEntry) → entry_at fresh k ≡ f → entry_at old k ≡ o
    → keep (λ e. not (is_seen seen e)) (option_or f o) ≡ f
fresh_kept seen fresh old k new had (Some e) o is_f is_o = ap (λ (b : Bool). cond (not b) (Some e) None) (found_all (λ x. is_seen seen x ≡ false) fresh k e new is_f)
fresh_kept seen fresh old k new had None (Some e) is_f is_o = ap (λ (b : Bool). cond (not b) (Some e) None) (found_all (λ x. is_seen seen x ≡ true) old k e had is_o)
fresh_kept seen fresh old k new had None None is_f is_o = refl

pub replacing_unseen : ReplacingEntriesAreUnseen
replacing_unseen seen fresh old new replaced rise unseen had =
    let t : DirEntry → Bool = λ e. not (is_seen seen e) in
    same_entries (filter t new) fresh (rising_filter t new replaced.rising) rise
    (λ k. filtered_at t new k replaced.rising ∙ ap (keep t) (replaced.each k) ∙ fresh_kept seen fresh old k unseen had (entry_at fresh k) (entry_at old k) refl refl)
