-- The entries of each directory that is read rise.
use Rattle.std.proofs.Common.{◌≡◌, ◌≤◌, ℕ, zero, suc, Bool, true, false, cond, nat_lt, nat_le, List, [], ◌∷◌, ◌++◌, length, slice_index, Option, Some, None, Ok, refl, ◌∙◌, ap, subst, arith}
use Rattle.std.specs.Prelude.{◌==◌}
use Rattle.std.specs.Int.{w64}
use Rattle.std.specs.List.{AllByRecursion}
use Rattle.std.specs.Ordering.{ordering_then}
use Rattle.std.specs.declared.cmp.Ordering.{Ordering}
use Rattle.std.specs.declared.cmp.Ordering.TheVariants.{Less, Equal, Greater}
use Rattle.chunk_map.specs.Geometry.{ChunkNumber}
use Rattle.chunk_map.specs.Link.{number_order}
use Rattle.cell_values.specs.declared.schema.Dimension.{Dimension}
use Rattle.file_items.specs.Items.{Reading, number_at, item, repeat, counted, Are}
use Rattle.file_items.proofs.BytesLaws.{bind_ok, test_ok, ok_is}
use Rattle.page_file.specs.Pages.{page_size, blob}
use Rattle.chunk_map.specs.declared.directory.DirEntry.{DirEntry}
use Rattle.chunk_map.specs.declared.directory.Directory.{Directory}
use Rattle.chunk_map.specs.Entries.{AreRising}
use Rattle.chunk_map.specs.Table.{is_number, next_number, number_of, payload_at, entry_after, next_entry, number_in, entries_at, directory_in}
use Rattle.chunk_map.proofs.Moves.{IsBefore, before-trans}
use Rattle.plan_changes.specs.Stored.{IsStored}
use Rattle.version_catalog.specs.declared.rules.catalog.BlobAt.{BlobAt}
use Rattle.version_catalog.specs.declared.rules.catalog.CatalogArray.{CatalogArray}
use Rattle.version_catalog.specs.Records.{entries_of}
use Rattle.file_meaning.specs.Opening.{Listed, Rules, directory_from, Row, row_in, rows_in}
use Rattle.file_meaning.proofs.Steps.{blamed_ok}
use Rattle.file_meaning.proofs.Elsewhere.{directory_steps, row_steps, rows_steps}
use Rattle.file_meaning.proofs.Version.{has_some}

-- what each reading of a list meets, the list meets
repeated : {S A : Type 0} (one : S → ℕ → Reading A) (next : S → A → S) (Good : S → ℕ → A → Type 0) → ((s : S) (n : ℕ) (bytes : List ℕ) (x : A × List ℕ) → one s n bytes ≡ Ok x → Good s n x.0)
    → (n : ℕ) (s : S) (bytes : List ℕ) (x : List A × List ℕ) → repeat one next n s bytes ≡ Ok x → Are Good next n s x.0
unfolding repeat Are
repeated {A = A} one next Good each zero s bytes x is =
    let none : List A × List ℕ = ([], bytes) in
    subst (λ (y : List A × List ℕ). Are Good next 0 s y.0) (ok_is none x is) tt
repeated {A = A} one next Good each (suc n) s bytes x is =
    let a = bind_ok (one s n bytes) _ x is in
    let b = bind_ok (repeat one next n (next s a.0.0) a.0.1) _ x a.2 in
    let both : List A × List ℕ = (a.0.0 ∷ b.0.0, b.0.1) in
    subst (λ (y : List A × List ℕ). Are Good next (suc n) s y.0) (ok_is both x b.2) (each s n bytes a.0 a.1, repeated one next Good each n (next s a.0.0) a.0.1 b.0 b.1)

-- ---- chunk numbers

abbrev Passes : Option (List ℕ) → ℕ → ℕ → Type 0
Passes before after n = is_number before (after == 0) n ≡ true

abbrev Passed : ℕ → Option (List ℕ) → List ℕ → Type 0
Passed = Are Passes next_number

number_passes : (before : Option (List ℕ)) (after : ℕ) (bytes : List ℕ) (x : ℕ × List ℕ) → number_of before after bytes ≡ Ok x → Passes before after x.0
unfolding number_of
number_passes before after bytes x is =
    let a = bind_ok (number_at w64 bytes) _ x is in
    let t = test_ok (is_number before (after == 0) a.0.0) (length bytes) a.0 x a.2 in
    subst (λ (y : ℕ × List ℕ). Passes before after y.0) t.1 t.0

-- how two numbers compare, by two tests
abbrev by_tests : Bool → Bool → Ordering → Ordering
by_tests less same rest = ordering_then (cond less Less (cond same Equal Greater)) rest

below : (p k : ℕ) (ps ks : List ℕ) → nat_lt p k ≡ true → number_order (p ∷ ps) (k ∷ ks) ≡ Less
below p k ps ks is = ap (λ (t : Bool). by_tests t (p == k) (number_order ps ks)) is

alike : (p k : ℕ) (ps ks : List ℕ) → nat_lt p k ≡ false → (p == k) ≡ true → number_order (p ∷ ps) (k ∷ ks) ≡ number_order ps ks
alike p k ps ks is same = ap (λ (t : Bool). by_tests t (p == k) (number_order ps ks)) is ∙ ap (λ (t : Bool). by_tests false t (number_order ps ks)) same

same_then : (p k : ℕ) → nat_le p k ≡ true → nat_lt p k ≡ false → (p == k) ≡ true
same_then p k le lt = grind (arith, le, lt)

more_come : (n : ℕ) → (suc n == 0) ≡ false
more_come n = grind arith

above_step : (n p k : ℕ) (ps ks : List ℕ) (t : Bool) → nat_lt p k ≡ t → (Passed (suc n) (Some ps) ks → number_order ps ks ≡ Less) → Passed (suc (suc n)) (Some (p ∷ ps)) (k ∷ ks) → number_order (p ∷ ps) (k ∷ ks) ≡ Less
unfolding Are
above_step n p k ps ks true is more good = below p k ps ks is
above_step n p k ps ks false is more good =
    let least : nat_le p k ≡ true = subst (λ (t : Bool). is_number (Some (p ∷ ps)) t k ≡ true) (more_come n) good.0 in
    let same : (p == k) ≡ true = same_then p k least is in
    let others : Passed (suc n) (cond (p == k) (Some ps) None) ks = good.1 in
    alike p k ps ks is same ∙ more (subst (λ (t : Bool). Passed (suc n) (cond t (Some ps) None) ks) same others)

above : (n : ℕ) (prev ks : List ℕ) → Passed (suc n) (Some prev) ks → number_order prev ks ≡ Less
unfolding Are
above n prev [] good = absurd good
above n [] (k ∷ ks) good = refl
above zero (p ∷ ps) (k ∷ ks) good = below p k ps ks good.0
above (suc n) (p ∷ ps) (k ∷ ks) good = above_step n p k ps ks (nat_lt p k) refl (above n ps ks) good

-- ---- entries

abbrev Follows : ℕ → Option (List ℕ) → ℕ → DirEntry → Type 0
Follows dims before after entry = Passed dims before entry.at.items

entry_follows : (dims : ℕ) (before : Option (List ℕ)) (after : ℕ) (bytes : List ℕ) (x : DirEntry × List ℕ) → next_entry dims before after bytes ≡ Ok x → Follows dims before after x.0
unfolding entry_after
entry_follows dims before after bytes x is =
    let a = bind_ok (repeat number_of next_number dims before bytes) _ x is in
    let b = bind_ok (payload_at a.0.1) _ x a.2 in
    let both : DirEntry × List ℕ = (record { at = record { items = a.0.0 }; length = b.0.0.length; birth = b.0.0.written.birth; pages = b.0.0.written.pages }, b.0.1) in
    subst (λ (y : DirEntry × List ℕ). Passed dims before y.0.at.items) (ok_is both x b.2) (repeated number_of next_number Passes number_passes dims before bytes a.0 a.1)

record Later (k : ChunkNumber) (entries : List DirEntry) : Type 0 where
  before : IsBefore k entries
  rising : AreRising entries

later : (d n : ℕ) (k : ChunkNumber) (entries : List DirEntry) → Are (Follows (suc d)) number_in n (Some k) entries → Later k entries
unfolding Are
later d zero k [] good = record { before = tt; rising = tt }
later d zero k (e ∷ entries) good = absurd good
later d (suc n) k [] good = absurd good
later d (suc n) k (e ∷ entries) good =
    let less : number_order k e.at.items ≡ Less = above d k e.at.items good.0 in
    let rest : Later e.at.items entries = later d n e.at.items entries good.1 in
    record { before = (less, before-trans k e.at.items entries less rest.before); rising = (rest.before, rest.rising) }

all_rise : (d n : ℕ) (entries : List DirEntry) → Are (Follows (suc d)) number_in n None entries → AreRising entries
unfolding Are
all_rise d zero [] good = tt
all_rise d zero (e ∷ entries) good = absurd good
all_rise d (suc n) [] good = absurd good
all_rise d (suc n) (e ∷ entries) good = let rest : Later e.at.items entries = later d n e.at.items entries good.1 in (rest.before, rest.rising)

read_rises : (d : ℕ) (bytes : List ℕ) (directory : Directory) → directory_in (suc d) bytes ≡ Ok directory → AreRising directory.entries
unfolding entries_at
read_rises d bytes directory is =
    let a = bind_ok (entries_at (suc d) bytes) _ directory is in
    let t = test_ok (length a.0.1 == 0) (length a.0.1) a.0.0 directory a.2 in
    let b = bind_ok (counted w64 (λ count. true) (next_entry (suc d)) number_in None bytes) _ a.0 a.1 in
    let c = bind_ok (item (number_at w64) (λ count. true) bytes) _ b.0 b.1 in
    let pair : Directory × List ℕ = (record { entries = b.0.0 }, b.0.1) in
    let same : record { entries = b.0.0 } ≡ directory = ap (λ (y : Directory × List ℕ). y.0) (ok_is pair a.0 b.2) ∙ t.1 in
    subst (λ (x : Directory). AreRising x.entries) same (all_rise d c.0.0 b.0.0 (repeated (next_entry (suc d)) number_in (Follows (suc d)) (entry_follows (suc d)) c.0.0 None c.0.1 b.0 c.2))

-- ---- what is found

some_rise : (dims : ℕ) (bytes : List ℕ) (directory : Directory) → 1 ≤ dims → directory_in dims bytes ≡ Ok directory → AreRising directory.entries
some_rise zero bytes directory some is = absurd (omega (arith, some))
some_rise (suc d) bytes directory some is = read_rises d bytes directory is

directory_rises : (file : List ℕ) (rules : Rules) (dims : List Dimension) (seen : List DirEntry) (taken : List ℕ) (at : BlobAt) (listed : Listed) → 1 ≤ length dims → directory_from file rules dims seen taken at ≡ Ok listed → AreRising listed.directory.entries
directory_rises file rules dims seen taken at listed some is =
    let s = directory_steps file rules dims seen taken at listed is in
    subst (λ (l : Listed). AreRising l.directory.entries) s.is
    (some_rise (length dims) (blob page_size file at.pages at.length) s.directory some (blamed_ok (slice_index at.pages 0) (directory_in (length dims) (blob page_size file at.pages at.length)) s.directory s.read))

row_rises : (file : List ℕ) (rules : Rules) (dims : List Dimension) (blobs : List BlobAt) (seen : List DirEntry) (taken : List ℕ) (row : Row) → 1 ≤ length dims → row_in file rules dims seen taken blobs ≡ Ok row → AllByRecursion (λ d. AreRising d.entries) row.directories
row_rises file rules dims [] seen taken row some is =
    let same : record { directories = []; taken = taken } ≡ row = cc in
    subst (λ (r : Row). AllByRecursion (λ d. AreRising d.entries) r.directories) same tt
row_rises file rules dims (at ∷ blobs) seen taken row some is =
    let s = row_steps file rules dims seen taken at blobs row is in
    subst (λ (r : Row). AllByRecursion (λ d. AreRising d.entries) r.directories) s.is
    (directory_rises file rules dims seen taken at s.first some s.found, row_rises file rules dims blobs (s.first.directory.entries ++ seen) s.first.taken s.later some s.rest)

pub rows_rise : (file : List ℕ) (rules : Rules) (arrays : List CatalogArray) (taken : List ℕ) (rows : List (List Directory)) → AllByRecursion IsStored (entries_of arrays) → rows_in file rules taken arrays ≡ Ok rows
    → AllByRecursion (AllByRecursion (λ d. AreRising d.entries)) rows
rows_rise file rules [] taken rows stored is = let none : [] ≡ rows = cc in subst (AllByRecursion (AllByRecursion (λ (d : Directory). AreRising d.entries))) none tt
rows_rise file rules (array ∷ arrays) taken rows stored is =
    let s = rows_steps file rules taken array arrays rows is in
    subst (AllByRecursion (AllByRecursion (λ (d : Directory). AreRising d.entries))) s.is
    (row_rises file rules array.entry.schema.dimensions array.directories [] taken s.row (has_some array.entry.schema stored.0.schema) s.found, rows_rise file rules arrays s.row.taken s.later stored.1 s.rest)
