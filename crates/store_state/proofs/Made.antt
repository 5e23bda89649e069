-- The new version that is laid, in a file that has its blobs.
use Rattle.std.proofs.Common.{◌≡◌, ◌∙◌, inl, inr, ◌+◌, ◌-◌, ◌<◌, ◌≤◌, ◌^◌, ℕ, Bool, true, false, cond, not, List, [], ◌∷◌, ◌++◌, length, drop, Option, Some, None, refl, sym, ap, subst, arith}
use Rattle.std.specs.Prelude.{nat_le, slice_index}
use Rattle.std.specs.List.{AllByRecursion, filter, flat_map, list_all}
use Rattle.std.proofs.lemmas.Bool.{and_parts}
use Rattle.std.proofs.lemmas.Bool.Decides.{nat_tests}
use Rattle.std.proofs.lemmas.List.{length-drop}
use Rattle.cell_values.specs.declared.datum.Row.{Row}
use Rattle.cell_values.specs.declared.schema.Schema.{Schema}
use Rattle.array_geom.specs.declared.chunk.Changed.{Changed}
use Rattle.array_geom.specs.Geometry.{has_core}
use Rattle.page_chain.specs.Pages.{page_size, pages_for}
use Rattle.chunk_map.specs.declared.directory.DirEntry.{DirEntry}
use Rattle.chunk_map.specs.declared.directory.Directory.{Directory}
use Rattle.chunk_map.specs.Entries.{AreRising}
use Rattle.chunk_map.specs.Spelling.{IsDirectory, spelling as directory_spelling}
use Rattle.logical_plan.specs.declared.names.Names.{Names}
use Rattle.file_meaning.specs.Change.{Change}
use Rattle.file_meaning.specs.Change.TheVariants.{Create, Store, Insert, Remove, RemoveVersions}
use Rattle.file_meaning.specs.Allowed.{has_number}
use Rattle.file_meaning.specs.Changes.{has_array, name_of}
use Rattle.file_meaning.specs.Databases.{Database, names_of, new_rows, newest_rows}
use Rattle.file_meaning.specs.Catalogs.{names_in}
use Rattle.file_meaning.specs.Changed.{IsItsBlob}
use Rattle.file_meaning.specs.Slots.{Slots}
use Rattle.file_meaning.specs.Opening.{is_seen, sequence_of, version_pages}
use Rattle.file_meaning.specs.Standing.{HoldsVersion}
use Rattle.file_meaning.specs.declared.meaning.found.Found.{Found}
use Rattle.file_meaning.specs.Next.{Made, blob_of}
use Rattle.file_meaning.specs.NextLaws.{HadEntriesAreSeen, LaterEntriesAreUnseen, ReplacingEntriesAreUnseen}
use Rattle.file_meaning.specs.Premises.{StandsBy, HoldsEntry, IsWritten as IsEarly, HoldsMade, OfVersion, made_pages, row_of, seen_before}
use Rattle.page_file.specs.Commits.{pages_of, HoldsBlobs}
use Rattle.commit_pages.specs.declared.pages.version.NewVersion.{NewVersion}
use Rattle.commit_pages.specs.declared.pages.written.Written.{Written}
use Rattle.commit_pages.specs.Versions.{blob_count, placed, all_placed, blob_at, draft, draft_of, settled, entries_of, directory_of, directory_bytes, version_in, new_version, version_needs, put_entries, HasRisingNumbers}
use Rattle.commit_pages.specs.Laws.{IsOver, IsHeld, HoldsNew}
use Rattle.commit_pages.proofs.Blobs.{length_placed, pages_more}
use Rattle.commit_pages.proofs.Costs.{map_all, found_has}
use Rattle.commit_pages.proofs.Directories.{entries_rise, inserts_replace, stores_list_theirs}
use Rattle.commit_pages.proofs.Drafts.{is_written}
use Rattle.commit_pages.proofs.Held.{versions_are_held}
use Rattle.commit_pages.proofs.PagesLengths.{settled_bytes}
use Rattle.commit_pages.proofs.Rules.{behind_fit, can_be_listed, version_spelled}
use Rattle.store_state.specs.LaidPremises.{last_of_row, newest_in, IsCommit, made_by}
use Rattle.store_state.proofs.LaidNewest.{newest_held}
use Rattle.store_state.proofs.LaidPages.{few_bytes, all_few, pairs_pages, pairs_born, all_unseen}

-- which entries the versions before have
pub record Seeing : Type 0 where
  pub had : HadEntriesAreSeen
  pub later : LaterEntriesAreUnseen
  pub replacing : ReplacingEntriesAreUnseen

-- ---- the newest version's entries

record IsOld (schema : Schema) (sequence : ℕ) (seen : List DirEntry) (entry : DirEntry) : Type 0 where
  core : has_core schema.dimensions entry.at.items ≡ true
  born : entry.birth ≤ sequence
  had : is_seen seen entry ≡ true

of_last : (P : Directory → Type 0) → P (record { entries = [] }) → (row : List Directory) → AllByRecursion P row → P (last_of_row row)
of_last P none [] all = none
of_last P none (d ∷ []) all = all.0
of_last P none (d ∷ e ∷ row) all = of_last P none (e ∷ row) all.1

born_before : LaterEntriesAreUnseen → (file : List ℕ) (slots : Slots) (db : Database) (found : Found) (change : Change) (entry : DirEntry) → StandsBy file slots db found → is_seen (seen_before found change) entry ≡ true
    → entry.birth ≤ sequence_of slots
born_before later file slots db found change entry stands seen = by_test (nat_le entry.birth (sequence_of slots)) refl
  where
    by_test : (b : Bool) → nat_le entry.birth (sequence_of slots) ≡ b → entry.birth ≤ sequence_of slots
    by_test true is = grind (arith, nat_tests)
    by_test false is =
        let less : sequence_of slots < entry.birth = grind (arith, nat_tests) in
        let unseen : is_seen (seen_before found change) entry ≡ false = later file slots db found change entry stands less in
        absurd cc

old_entries : LaterEntriesAreUnseen → (file : List ℕ) (slots : Slots) (db : Database) (found : Found) (change : Change) (schema : Schema) → StandsBy file slots db found → (entries : List DirEntry)
    → AllByRecursion (λ entry. has_core schema.dimensions entry.at.items ≡ true) entries → AllByRecursion (λ entry. is_seen (seen_before found change) entry ≡ true) entries
    → AllByRecursion (IsOld schema (sequence_of slots) (seen_before found change)) entries
old_entries later file slots db found change schema stands [] cores seen = tt
old_entries later file slots db found change schema stands (e ∷ entries) cores seen = (
  record { core = cores.0; born = born_before later file slots db found change e stands seen.0; had = seen.0 },
  old_entries later file slots db found change schema stands entries cores.1 seen.1,
)

newest_seen : HadEntriesAreSeen → (found : Found) (change : Change) (newest : Directory) → newest ≡ newest_in found change → AllByRecursion (λ entry. is_seen (seen_before found change) entry ≡ true) newest.entries
newest_seen had found change newest is =
    let seen = seen_before found change in
    subst (λ (d : Directory). AllByRecursion (λ entry. is_seen seen entry ≡ true) d.entries) (sym is)
    (of_last (λ d. AllByRecursion (λ entry. is_seen seen entry ≡ true) d.entries) tt (row_of (name_of change) (names_in found.catalog).arrays found.directories) (had found change))

-- ---- the new entries

record IsGood (old new : List ℕ) (schema : Schema) (rows : List Row) (sequence : ℕ) (seen : List DirEntry) (entry : DirEntry) : Type 0 where
  early : IsEarly schema sequence entry
  holds : HoldsEntry old new schema rows entry (is_seen seen entry)

good : LaterEntriesAreUnseen → (old new : List ℕ) (slots : Slots) (db : Database) (found : Found) (change : Change) (schema : Schema) (rows : List Row) (before : List DirEntry) → StandsBy old slots db found
    → AllByRecursion (IsOld schema (sequence_of slots) (seen_before found change)) before → (entry : DirEntry) → IsHeld old new schema rows (sequence_of slots + 1) before entry
    → IsGood old new schema rows (sequence_of slots + 1) (seen_before found change) entry
good later old new slots db found change schema rows before stands olds entry (inl there) =
    let born = there.written in
    let unseen = later old slots db found change entry stands (omega (arith, born)) in
    record {
      early = (there.core, omega (arith, born));
      holds = subst (HoldsEntry old new schema rows entry) (sym unseen) (there.pages, there.part);
    }
good later old new slots db found change schema rows before stands olds entry (inr kept) =
    let is = found_has (IsOld schema (sequence_of slots) (seen_before found change)) before entry.at.items entry olds kept.0 in
    let born = is.born in
    record {
      early = (is.core, omega (arith, born));
      holds = subst (HoldsEntry old new schema rows entry) (sym is.had) kept.1;
    }

-- ---- the version

-- those that are written are just those that no version before has
fresh_entries : ReplacingEntriesAreUnseen → (seen : List DirEntry) (written : Written) (newest : Directory) → HasRisingNumbers written → AreRising newest.entries
    → AllByRecursion (λ e. is_seen seen e ≡ false) (entries_of written) → AllByRecursion (λ e. is_seen seen e ≡ true) newest.entries
    → filter (λ e. not (is_seen seen e)) (directory_of written newest).entries ≡ entries_of written
fresh_entries replacing seen written newest rising rise unseen had = by_test written.whole refl
  where
    by_test : (b : Bool) → written.whole ≡ b → filter (λ e. not (is_seen seen e)) (directory_of written newest).entries ≡ entries_of written
    by_test true is = ap (filter (λ e. not (is_seen seen e))) (stores_list_theirs written newest is) ∙ all_unseen seen (entries_of written) unseen
    by_test false is =
        replacing seen (entries_of written) newest.entries (directory_of written newest).entries (inserts_replace written newest rising rise is) (entries_rise written rising) unseen had

-- the version that is laid is a new one of the change, and its pages are those of its blobs
pub record IsMade (old new : List ℕ) (slots : Slots) (db : Database) (found : Found) (change : Change) (version : NewVersion) : Type 0 where
  pub made : Option Made
  pub is : made_by version.at version.directory ≡ made
  pub at : blob_of made ≡ version.at
  pub holds : OfVersion (HoldsMade old new (seen_before found change) (sequence_of slots + 1)) db change made
  pub own : List ℕ
  pub payloads : List ℕ
  pub makes : made_pages (seen_before found change) made ≡ own ++ payloads
  pub blobs : pages_of version.blobs ≡ payloads ++ own
  pub blob : IsItsBlob version.at

-- pages as a commit is given
pub record AreGiven (pages : List ℕ) (written : Option Written) (newest : Directory) : Type 0 where
  pub room : version_needs written newest ≤ length pages
  pub few : length pages < 2 ^ 32
  pub each : (i : ℕ) → slice_index pages i < 2 ^ 32

some_made : Seeing → (old new : List ℕ) (slots : Slots) (db : Database) (found : Found) (change : Change) (changed : Changed) (newest : Directory) (pages : List ℕ)
    → ((made : Made) → HoldsMade old new (seen_before found change) (sequence_of slots + 1) changed.schema (new_rows db change) made
    → OfVersion (HoldsMade old new (seen_before found change) (sequence_of slots + 1)) db change (Some made))
    → StandsBy old slots db found → IsOver db change found.catalog (Some changed) newest → IsDirectory (length changed.schema.dimensions) newest
    → AllByRecursion (IsOld changed.schema (sequence_of slots) (seen_before found change)) newest.entries
    → (changed.whole ≡ false → HoldsVersion old changed.schema newest (newest_rows db (name_of change)))
    → sequence_of slots + 1 < 2 ^ 64 → AreGiven pages (draft_of (sequence_of slots + 1) (Some changed)) newest
    → HoldsBlobs new (new_version pages (draft_of (sequence_of slots + 1) (Some changed)) newest).blobs
    → IsMade old new slots db found change (new_version pages (draft_of (sequence_of slots + 1) (Some changed)) newest)
unfolding version_in
some_made sees old new slots db found change changed newest pages of stands over rules olds before low given holds =
    let birth = sequence_of slots + 1 in
    let seen = seen_before found change in
    let rows = new_rows db change in
    let written = draft birth changed in
    let here = settled pages written in
    let m = length (pages_of written.payloads) in
    let bytes = directory_bytes here newest in
    let directory = directory_of here newest in
    let own = placed (drop m pages) bytes in
    let made : Made = record { at = blob_at own; directory = directory } in
    let need = given.room in
    let room : m ≤ length pages = omega (arith, need) in
    let is = is_written birth changed over.valid.rising in
    let held : HoldsNew old new changed.schema rows birth newest.entries directory (blob_at own)
    = versions_are_held old new db change found.catalog changed newest birth pages over before given.room holds in
    let as_long : length bytes ≡ length (directory_bytes written newest) = settled_bytes pages written newest is room in
    let fits : blob_count bytes ≤ length (drop m pages) = behind_fit m bytes (directory_bytes written newest) pages as_long given.room in
    let left : length (drop m pages) ≡ length pages - m = length-drop m pages in
    let short : length bytes < 2 ^ 64 = few_bytes (length bytes) (length pages) (omega (arith, fits, left)) given.few in
    let spelled = version_spelled pages (Some written) newest is given.room given.few given.each short in
    let listed = can_be_listed birth changed low (all_few written.payloads (length pages) is.sized room given.few) over.valid (omega arith) in
    let goods : AllByRecursion (IsGood old new changed.schema rows birth seen) directory.entries
    = map_all (IsHeld old new changed.schema rows birth newest.entries) (IsGood old new changed.schema rows birth seen) directory.entries
    (good sees.later old new slots db found change changed.schema rows newest.entries stands olds) held.entries in
    let unseen : AllByRecursion (λ e. is_seen seen e ≡ false) (entries_of here)
    = pairs_born (λ e. is_seen seen e ≡ false) birth (λ e born. sees.later old slots db found change e stands (omega (arith, born))) written.numbers (all_placed pages written.payloads) in
    let had : AllByRecursion (λ e. is_seen seen e ≡ true) newest.entries
    = map_all (IsOld changed.schema (sequence_of slots) seen) (λ e. is_seen seen e ≡ true) newest.entries (λ e old. old.had) olds in
    let fresh : filter (λ e. not (is_seen seen e)) directory.entries ≡ entries_of here = fresh_entries sees.replacing seen here newest is.rising rules.rising unseen had in
    record {
      made = Some made;
      is = refl;
      at = refl;
      holds = of made (record {
        spelled = record { held = held.spelled; enough = held.enough ∙ ap (pages_for page_size) held.size };
        size = held.size;
        rules = spelled.rules (length changed.schema.dimensions) rules listed;
        each = map_all (IsGood old new changed.schema rows birth seen) (IsEarly changed.schema birth) directory.entries (λ e good. good.early) goods;
        listed = held.listed;
        payloads = map_all (IsGood old new changed.schema rows birth seen) (λ e. HoldsEntry old new changed.schema rows e (is_seen seen e)) directory.entries (λ e good. good.holds) goods;
      });
      own = own.pages;
      payloads = pages_of here.payloads;
      makes = ap (λ (es : List DirEntry). own.pages ++ flat_map (λ (e : DirEntry). e.pages) es) fresh
          ∙ ap (λ (ps : List ℕ). own.pages ++ ps) (pairs_pages birth written.numbers here.payloads (length_placed pages written.payloads ∙ is.each));
      blobs = pages_more here.payloads own;
      blob = spelled.blob;
    }

-- ---- a whole version

-- it is the same whatever the newest one is
same_directory : (written : Written) (a b : Directory) → written.whole ≡ true → directory_of written a ≡ directory_of written b
unfolding directory_of
same_directory written a b is =
    ap (λ (t : Bool). record { entries = cond t (entries_of written) (put_entries (entries_of written) a.entries) }) is
    ∙ sym (ap (λ (t : Bool). record { entries = cond t (entries_of written) (put_entries (entries_of written) b.entries) }) is)

same_version : (pages : List ℕ) (written : Written) (a b : Directory) → written.whole ≡ true → new_version pages (Some written) a ≡ new_version pages (Some written) b
unfolding version_in
same_version pages written a b is =
    let behind = drop (length (pages_of written.payloads)) pages in
    let here = settled pages written in
    ap (λ (d : Directory). record {
      blobs = here.payloads ++ placed behind (directory_spelling d) ∷ [];
      directory = Some d;
      at = Some (blob_at (placed behind (directory_spelling d)));
      pages = version_pages (blob_at (placed behind (directory_spelling d))) d;
    }) (same_directory here a b is)

same_needs : (written : Written) (a b : Directory) → written.whole ≡ true → version_needs (Some written) a ≡ version_needs (Some written) b
same_needs written a b is = ap (λ (d : Directory). length (pages_of written.payloads) + blob_count (directory_spelling d)) (same_directory written a b is)

true_is_false : (b : Bool) → b ≡ true → b ≡ false → ⊥
true_is_false b is other = cc

no_directory : (dims : ℕ) → IsDirectory dims (record { entries = [] })
no_directory dims = record { count = omega arith; each = tt; rising = tt }

-- ---- of a change

pub version_made : Seeing → (old new : List ℕ) (slots : Slots) (db : Database) (found : Found) (change : Change) (changed : Option Changed) (newest : Directory) (pages : List ℕ)
    → IsCommit old slots db found change changed newest → AreGiven pages (draft_of (sequence_of slots + 1) changed) newest
    → HoldsBlobs new (new_version pages (draft_of (sequence_of slots + 1) changed) newest).blobs
    → IsMade old new slots db found change (new_version pages (draft_of (sequence_of slots + 1) changed) newest)
version_made sees old new slots db found (Create name schema) None newest pages commit given holds =
    record { made = None; is = refl; at = refl; holds = tt; own = []; payloads = []; makes = refl; blobs = refl; blob = tt }
version_made sees old new slots db found (Create name schema) (Some changed) newest pages commit given holds = absurd (let wrong = commit.over.comes in cc)
version_made sees old new slots db found (Remove name) None newest pages commit given holds =
    record { made = None; is = refl; at = refl; holds = tt; own = []; payloads = []; makes = refl; blobs = refl; blob = tt }
version_made sees old new slots db found (Remove name) (Some changed) newest pages commit given holds = absurd (let wrong = commit.over.comes in cc)
version_made sees old new slots db found (RemoveVersions name below) None newest pages commit given holds =
    record { made = None; is = refl; at = refl; holds = tt; own = []; payloads = []; makes = refl; blobs = refl; blob = tt }
version_made sees old new slots db found (RemoveVersions name below) (Some changed) newest pages commit given holds = absurd (let wrong = commit.over.comes in cc)
version_made sees old new slots db found (Store name schema plan) None newest pages commit given holds = absurd commit.over.comes
version_made sees old new slots db found (Store name schema plan) (Some changed) newest pages commit given holds =
    let change = Store name schema plan in
    let seen = seen_before found change in
    let birth = sequence_of slots + 1 in
    let written = draft birth changed in
    let whole : changed.whole ≡ true = commit.over.comes.1 in
    let none : Directory = record { entries = [] } in
    let same = same_version pages written newest none whole in
    let needs = same_needs written newest none whole in
    let need = given.room in
    let over : IsOver db change found.catalog (Some changed) none = record {
      database = commit.over.database;
      typed = commit.over.typed;
      alike = commit.over.alike;
      comes = commit.over.comes;
      valid = commit.over.valid;
      chunks = commit.over.chunks;
      before = λ part. absurd (true_is_false changed.whole whole part);
    } in
    subst (IsMade old new slots db found change) (sym same)
    (some_made sees old new slots db found change changed none pages
    (λ made is. subst (λ (s : Schema). HoldsMade old new seen birth s (new_rows db change) made) commit.over.comes.0 is)
    commit.stands over (no_directory (length changed.schema.dimensions)) tt (λ part. absurd (true_is_false changed.whole whole part)) commit.sequence
    (record { room = omega (arith, needs, need); few = given.few; each = given.each })
    (subst (λ (v : NewVersion). HoldsBlobs new v.blobs) same holds))
version_made sees old new slots db found (Insert name schema plan) None newest pages commit given holds = absurd commit.over.comes
version_made sees old new slots db found (Insert name schema plan) (Some changed) newest pages commit given holds =
    let change = Insert name schema plan in
    let seen = seen_before found change in
    let birth = sequence_of slots + 1 in
    let es = (names_of db).arrays in
    let part = commit.part commit.over.comes.1 in
    let has : has_array es name ≡ true = (and_parts (has_array es name) (list_all (has_number name) es) commit.over.typed.0).0 in
    let held : HoldsVersion old schema (last_of_row (row_of name es found.directories)) (newest_rows db name)
    = newest_held old name schema plan db found.directories commit.over.database.names.each has commit.over.typed.1.1 commit.stands.holds.versions in
    let same : newest ≡ last_of_row (row_of name es found.directories)
    = part.is ∙ ap (λ (names : Names). last_of_row (row_of name names.arrays found.directories)) commit.stands.holds.names in
    let before : HoldsVersion old changed.schema newest (newest_rows db name)
    = subst (λ (s : Schema). HoldsVersion old s newest (newest_rows db name)) (sym commit.over.comes.0) (subst (λ (d : Directory). HoldsVersion old schema d (newest_rows db name)) (sym same) held) in
    some_made sees old new slots db found change changed newest pages
    (λ made is. subst (λ (s : Schema). HoldsMade old new seen birth s (new_rows db change) made) commit.over.comes.0 is)
    commit.stands commit.over part.rules
    (old_entries sees.later old slots db found change changed.schema commit.stands newest.entries part.cores (newest_seen sees.had found change newest part.is))
    (λ is. before) commit.sequence given holds
