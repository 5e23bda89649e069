-- The new version, as it is found and as it is held.
use Rattle.std.proofs.Common.{◌≡◌, ◌≤◌, ℕ, Bool, true, false, cond, not, ◌&&◌, ◌||◌, List, [], ◌∷◌, ◌++◌, map, length, Option, Some, None, refl, sym, ◌∙◌, ap, subst, arith}
use Rattle.std.specs.Prelude.{nat_le}
use Rattle.std.specs.List.{AllByRecursion, filter, find, flat_map, list_all}
use Rattle.std.proofs.lemmas.Bool.{and_parts, and_from}
use Rattle.std.proofs.lemmas.Bool.Decides.{nat_tests}
use Rattle.cell_values.specs.declared.datum.Row.{Row}
use Rattle.cell_values.specs.declared.schema.Schema.{Schema}
use Rattle.cell_values.specs.Schemas.{IsValid, is_valid, has_attributes, has_dimensions, are_distinct, names_of as names_in_schema, is_dimension, frame_fits}
use Rattle.chunk_map.specs.Geometry.{has_core}
use Rattle.page_chain.specs.Places.{IsNone, KeepsPages}
use Rattle.page_file.specs.Pages.{page_size, has_page, first_past, blob}
use Rattle.page_file.specs.Chains.{names_page}
use Rattle.page_file.proofs.PageLaws.{blob_read}
use Rattle.chunk_map.specs.declared.directory.DirEntry.{DirEntry}
use Rattle.chunk_map.specs.Spelling.{spelling}
use Rattle.chunk_map.specs.Table.{directory_in}
use Rattle.chunk_map.proofs.Laws.{directory_again}
use Rattle.chunk_map.proofs.Rules.{are_entries}
use Rattle.chunk_rle.specs.Frames.{frame_of}
use Rattle.chunk_rle.specs.Chunks.{chunk_payload}
use Rattle.plan_changes.specs.Query.{Query}
use Rattle.plan_changes.specs.NameEntry.{NameEntry}
use Rattle.plan_changes.specs.declared.change.Change.{Change}
use Rattle.plan_changes.specs.declared.change.Change.TheVariants.{Create, Store, Insert, Remove, RemoveVersions}
use Rattle.plan_changes.specs.Allowed.{has_room, has_number}
use Rattle.plan_changes.specs.Changes.{is_named, has_array}
use Rattle.plan_changes.specs.Databases.{Database, entry_of, new_rows}
use Rattle.plan_changes.specs.Stored.{IsDatabase, IsStored}
use Rattle.plan_changes.specs.Typed.{FitsInto}
use Rattle.file_meaning.specs.Opening.{are_pages, is_seen, is_entry, Rules}
use Rattle.file_meaning.specs.Standing.{HoldsPart, HoldsVersion}
use Rattle.file_meaning.proofs.Parts.{front_all, rest_all, blob_still}
use Rattle.file_meaning.specs.Next.{Made}
use Rattle.file_meaning.specs.Premises.{MayChange, OfVersion, HoldsEntry, HoldsMade, IsWritten}
use Rattle.file_meaning.proofs.Free.{AreNamed, all_there}
use Rattle.file_meaning.proofs.Appended.{IsNew, fresh_pages}
use Rattle.file_meaning.proofs.Follow.{IsNewOf, HoldsVersionOf}
use Rattle.file_meaning.proofs.Lists.{seen_has}

-- ---- its schema is valid

pub has_some : (schema : Schema) → IsValid schema → 1 ≤ length schema.dimensions
has_some schema valid =
    let a = has_attributes schema.attributes in
    let b = has_dimensions schema.dimensions in
    let c = are_distinct (names_in_schema schema) in
    let d = list_all is_dimension schema.dimensions in
    let four = and_parts (a && b && c && d) (frame_fits schema.dimensions) valid in
    let three = and_parts (a && b && c) d four.0 in
    let two = and_parts (a && b) c three.0 in
    let one : has_dimensions schema.dimensions ≡ true = (and_parts a b two.0).1 in
    some (length schema.dimensions) one
  where
    some : (n : ℕ) → (nat_le 1 n && nat_le n 6) ≡ true → 1 ≤ n
    some n is = let least : nat_le 1 n ≡ true = (and_parts (nat_le 1 n) (nat_le n 6) is).0 in grind (arith, nat_tests)

fitting_valid : (name : List ℕ) (schema : Schema) (plan : Query) (es : List NameEntry) → AllByRecursion IsStored es → has_array es name ≡ true → FitsInto (find (is_named name) es) schema plan → IsValid schema
fitting_valid name schema plan [] stored has fits = absurd cc
fitting_valid name schema plan (e ∷ es) stored has fits = by_test (is_named name e) has fits (fitting_valid name schema plan es stored.1)
  where
    by_test : (b : Bool) → (b || has_array es name) ≡ true → FitsInto (cond b (Some e) (find (is_named name) es)) schema plan → (has_array es name ≡ true → FitsInto (find (is_named name) es) schema plan → IsValid schema) → IsValid schema
    by_test true is fit later = subst IsValid (sym fit.0) stored.0.schema
    by_test false is fit later = later is fit

-- ---- as it is found

-- the new file has the pages of the payloads that no version before has
pub fresh_there : (old new : List ℕ) (seen : List DirEntry) (schema : Schema) (rows : List Row) (entries : List DirEntry) → AllByRecursion (λ e. HoldsEntry old new schema rows e (is_seen seen e)) entries
    → AllByRecursion (λ p. has_page page_size new p ≡ true) (fresh_pages seen entries)
fresh_there old new seen schema rows [] all = tt
fresh_there old new seen schema rows (e ∷ entries) all = by_test (is_seen seen e) all.0 (fresh_there old new seen schema rows entries all.1)
  where
    join : (xs ys : List ℕ) → AllByRecursion (λ p. has_page page_size new p ≡ true) xs → AllByRecursion (λ p. has_page page_size new p ≡ true) ys → AllByRecursion (λ p. has_page page_size new p ≡ true) (xs ++ ys)
    join [] ys a b = b
    join (x ∷ xs) ys a b = (a.0, join xs ys a.1 b)

    by_test : (b : Bool) → HoldsEntry old new schema rows e b → AllByRecursion (λ p. has_page page_size new p ≡ true) (fresh_pages seen entries)
        → AllByRecursion (λ p. has_page page_size new p ≡ true) (flat_map (λ x. x.pages) (cond (not b) (e ∷ filter (λ x. not (is_seen seen x)) entries) (filter (λ x. not (is_seen seen x)) entries)))
    by_test true holds later = later
    by_test false holds later = join e.pages (fresh_pages seen entries) (all_there new e.pages holds.0) later

all_named : (file pages : List ℕ) → AreNamed file [] pages → are_pages file pages ≡ true
all_named file [] named = refl
all_named file (p ∷ pages) named = and_from (names_page page_size file [] p) (are_pages file pages) named.0 (all_named file pages named.1)

are_entries_of : (file : List ℕ) (sequence : ℕ) (schema : Schema) (seen entries : List DirEntry) → AllByRecursion (IsWritten schema sequence) entries → AllByRecursion (λ e. are_pages file e.pages ≡ true) seen → AreNamed file [] (fresh_pages seen entries)
    → AllByRecursion (λ e. is_entry file sequence schema.dimensions e ≡ true) entries
are_entries_of file sequence schema seen [] written paged named = tt
are_entries_of file sequence schema seen (e ∷ entries) written paged named = by_test (is_seen seen e) refl named (are_entries_of file sequence schema seen entries written.1 paged)
  where
    early : nat_le e.birth sequence ≡ true
    early = let le = written.0.1 in grind (arith, nat_tests)

    is_one : are_pages file e.pages ≡ true → is_entry file sequence schema.dimensions e ≡ true
    is_one pages = and_from (has_core schema.dimensions e.at.items) (nat_le e.birth sequence && are_pages file e.pages) written.0.0 (and_from (nat_le e.birth sequence) (are_pages file e.pages) early pages)

    by_test : (b : Bool) → is_seen seen e ≡ b → AreNamed file [] (flat_map (λ x. x.pages) (cond (not b) (e ∷ filter (λ x. not (is_seen seen x)) entries) (filter (λ x. not (is_seen seen x)) entries)))
        → (AreNamed file [] (fresh_pages seen entries) → AllByRecursion (λ x. is_entry file sequence schema.dimensions x ≡ true) entries) → AllByRecursion (λ x. is_entry file sequence schema.dimensions x ≡ true) (e ∷ entries)
    by_test true has all later = (is_one (seen_has (λ x. are_pages file x.pages ≡ true) seen e paged has), later all)
    by_test false has all later = (
      is_one (all_named file e.pages (front_all (λ p. names_page page_size file [] p ≡ true) e.pages (fresh_pages seen entries) all)),
      later (rest_all (λ p. names_page page_size file [] p ≡ true) e.pages (fresh_pages seen entries) all),
    )

-- what is known of the entries of the versions before
pub record AreKept (written old new : List ℕ) (seen : List DirEntry) : Type 0 where
  pub paged : AllByRecursion (λ e. are_pages new e.pages ≡ true) seen
  pub there : AllByRecursion (λ e. first_past page_size old e.pages ≡ None) seen
  pub apart : AllByRecursion (λ e. AllByRecursion (IsNone written) e.pages) seen

is_new : (written old new : List ℕ) (rules : Rules) (seen : List DirEntry) (schema : Schema) (rows : List Row) (made : Made) → AreKept written old new seen → AreNamed new [] (fresh_pages seen made.directory.entries) → IsValid schema
    → HoldsMade old new seen rules.sequence schema rows made → IsNew new rules schema.dimensions made.at made.directory
is_new written old new rules seen schema rows made kept named valid holds = record {
  read = ap (λ (n : ℕ). directory_in (length schema.dimensions) (blob page_size new made.at.pages n)) holds.size
      ∙ ap (directory_in (length schema.dimensions)) (blob_read new made.at.pages (spelling made.directory) holds.spelled.held holds.spelled.enough).1
      ∙ directory_again (length schema.dimensions) made.directory (are_entries (length schema.dimensions) made.directory (has_some schema valid) holds.rules);
  entries = are_entries_of new rules.sequence schema seen made.directory.entries holds.each kept.paged named;
}

-- ---- as it is held

parts_held : (written old new : List ℕ) (seen : List DirEntry) (schema : Schema) (rows : List Row) → KeepsPages written old new → AreKept written old new seen → (entries : List DirEntry) → AllByRecursion (λ e. HoldsEntry old new schema rows e (is_seen seen e)) entries
    → AllByRecursion (HoldsPart new schema rows) entries
parts_held written old new seen schema rows keeps kept [] all = tt
parts_held written old new seen schema rows keeps kept (e ∷ entries) all = (by_test (is_seen seen e) refl all.0, parts_held written old new seen schema rows keeps kept entries all.1)
  where
    by_test : (b : Bool) → is_seen seen e ≡ b → HoldsEntry old new schema rows e b → HoldsPart new schema rows e
    by_test true has holds =
        ap (λ (bytes : List ℕ). chunk_payload (frame_of schema e.at.items) e.at schema.attributes bytes)
        (blob_still written old new e.pages e.length keeps (seen_has (λ x. AllByRecursion (IsNone written) x.pages) seen e kept.apart has) (seen_has (λ x. first_past page_size old x.pages ≡ None) seen e kept.there has)) ∙ holds
    by_test false has holds = holds.1

version_held : (written old new : List ℕ) (sequence : ℕ) (seen : List DirEntry) (schema : Schema) (rows : List Row) (made : Made) → KeepsPages written old new → AreKept written old new seen → HoldsMade old new seen sequence schema rows made → HoldsVersion new schema made.directory rows
version_held written old new sequence seen schema rows made keeps kept holds = record { listed = holds.listed; payloads = parts_held written old new seen schema rows keeps kept made.directory.entries holds.payloads }

-- ---- of a change

pub new_of : (written old new : List ℕ) (rules : Rules) (seen : List DirEntry) (db : Database) (change : Change) (made : Option Made) → AreKept written old new seen → ((m : Made) → made ≡ Some m → AreNamed new [] (fresh_pages seen m.directory.entries)) → IsDatabase db → MayChange db change
    → OfVersion (HoldsMade old new seen rules.sequence) db change made → OfVersion (IsNewOf new rules) db change made
new_of written old new rules seen db (Create name schema) None kept named is may holds = tt
new_of written old new rules seen db (Create name schema) (Some made) kept named is may holds = absurd holds
new_of written old new rules seen db (Store name schema plan) None kept named is may holds = absurd holds
new_of written old new rules seen db (Store name schema plan) (Some made) kept named is may holds =
    let es = map entry_of db in
    is_new written old new rules seen schema (new_rows db (Store name schema plan)) made kept (named made refl) (and_parts (is_valid schema) ((has_array es name || has_room es) && list_all (has_number name) es) may.typed.0).0 holds
new_of written old new rules seen db (Insert name schema plan) None kept named is may holds = absurd holds
new_of written old new rules seen db (Insert name schema plan) (Some made) kept named is may holds =
    let es = map entry_of db in
    is_new written old new rules seen schema (new_rows db (Insert name schema plan)) made kept (named made refl)
    (fitting_valid name schema plan es is.names.each (and_parts (has_array es name) (list_all (has_number name) es) may.typed.0).0 may.typed.1.1) holds
new_of written old new rules seen db (Remove name) None kept named is may holds = tt
new_of written old new rules seen db (Remove name) (Some made) kept named is may holds = absurd holds
new_of written old new rules seen db (RemoveVersions name below) None kept named is may holds = tt
new_of written old new rules seen db (RemoveVersions name below) (Some made) kept named is may holds = absurd holds

pub held_of : (written old new : List ℕ) (sequence : ℕ) (seen : List DirEntry) (db : Database) (change : Change) (made : Option Made) → KeepsPages written old new → AreKept written old new seen
    → OfVersion (HoldsMade old new seen sequence) db change made → OfVersion (HoldsVersionOf new) db change made
held_of written old new sequence seen db (Create name schema) None keeps kept holds = tt
held_of written old new sequence seen db (Create name schema) (Some made) keeps kept holds = absurd holds
held_of written old new sequence seen db (Store name schema plan) None keeps kept holds = absurd holds
held_of written old new sequence seen db (Store name schema plan) (Some made) keeps kept holds = version_held written old new sequence seen schema (new_rows db (Store name schema plan)) made keeps kept holds
held_of written old new sequence seen db (Insert name schema plan) None keeps kept holds = absurd holds
held_of written old new sequence seen db (Insert name schema plan) (Some made) keeps kept holds = version_held written old new sequence seen schema (new_rows db (Insert name schema plan)) made keeps kept holds
held_of written old new sequence seen db (Remove name) None keeps kept holds = tt
held_of written old new sequence seen db (Remove name) (Some made) keeps kept holds = absurd holds
held_of written old new sequence seen db (RemoveVersions name below) None keeps kept holds = tt
held_of written old new sequence seen db (RemoveVersions name below) (Some made) keeps kept holds = absurd holds

-- the new file has the new version's pages
pub made_there : (old new : List ℕ) (sequence : ℕ) (seen : List DirEntry) (schema : Schema) (rows : List Row) (made : Made) → HoldsMade old new seen sequence schema rows made
    → AllByRecursion (λ p. has_page page_size new p ≡ true) made.at.pages × AllByRecursion (λ p. has_page page_size new p ≡ true) (fresh_pages seen made.directory.entries)
made_there old new sequence seen schema rows made holds = (
  all_there new made.at.pages (blob_read new made.at.pages (spelling made.directory) holds.spelled.held holds.spelled.enough).0,
  fresh_there old new seen schema rows made.directory.entries holds.payloads,
)
