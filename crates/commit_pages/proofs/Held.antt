-- The new version in a file that has its blobs.
use Rattle.std.proofs.Common.{◌≡◌, ◌∙◌, inl, inr, ℕ, suc, ◌≤◌, true, false, List, [], ◌∷◌, ◌++◌, length, map, drop, Some, Ok, refl, sym, ap, subst, arith}
use Rattle.std.specs.List.{AllByRecursion}
use Rattle.std.proofs.lemmas.List.{length-take-le}
use Rattle.cell_values.specs.declared.datum.Row.{Row}
use Rattle.cell_values.specs.declared.schema.Schema.{Schema}
use Rattle.array_rows.specs.Arrays.{AreRowsOf}
use Rattle.array_rows.specs.Rows.{put_all}
use Rattle.array_geom.specs.declared.chunk.Changed.{Changed}
use Rattle.array_geom.specs.declared.chunk.Chunk.{Chunk}
use Rattle.array_geom.specs.Geometry.{ChunkNumber, overlaps}
use Rattle.array_geom.specs.Link.{is_listed, has_cell}
use Rattle.array_geom.specs.Link as link
use Rattle.array_rows.specs.Boxes.{by_pairs}
use Rattle.chunk_map.specs.declared.directory.DirEntry.{DirEntry}
use Rattle.chunk_map.specs.declared.directory.Directory.{Directory}
use Rattle.chunk_map.specs.Entries.{numbers}
use Rattle.chunk_map.specs.Replacing.{AreReplaced}
use Rattle.page_chain.specs.Pages.{page_size, HoldsBlob}
use Rattle.chunk_rle.specs.Chunks.{spelling as payload_spelling}
use Rattle.plan_changes.specs.Query.{Query}
use Rattle.plan_changes.specs.declared.change.Change.TheVariants.{Create, Store, Insert, Remove, RemoveVersions}
use Rattle.plan_changes.specs.Databases.{Database, fitted, new_rows, newest_rows, rows_if_whole}
use Rattle.file_meaning.specs.Standing.{HoldsPart, HoldsVersion}
use Rattle.page_file.specs.declared.commits.placed.Placed.{Placed}
use Rattle.page_file.specs.Commits.{pages_of, HoldsBlobs}
use Rattle.commit_pages.specs.declared.pages.written.Written.{Written}
use Rattle.commit_pages.specs.Versions.{blob_count, placed, all_placed, drafted, draft, settled, entry_of, entries_of, directory_of, directory_bytes, version_in, new_version, version_needs}
use Rattle.commit_pages.specs.Changes.{AreValid, IsChangeOf}
use Rattle.commit_pages.specs.Laws.{IsOfRows, IsThere, IsHeld, HoldsVersionOf, VersionsAreHeld}
use Rattle.commit_pages.proofs.Costs.{IsPutOver, insert_lists, insert_keeps, replaced_has, found_has, map_all, of_entries}
use Rattle.commit_pages.proofs.Directories.{stores_list_theirs, inserts_replace, draft_rises}
use Rattle.commit_pages.proofs.Drafts.{is_written}
use Rattle.commit_pages.proofs.PagesLengths.{settled_bytes}
use Rattle.commit_pages.proofs.Blobs.{length_placed}
use Rattle.commit_pages.proofs.Parts.{all_there}
use Rattle.commit_pages.proofs.Rules.{behind_fit}

all_first : (P : Placed → Type 0) (xs : List Placed) (one : Placed) → AllByRecursion P (xs ++ one ∷ []) → AllByRecursion P xs
all_first P [] one all = tt
all_first P (x ∷ xs) one all = (all.0, all_first P xs one all.1)

the_last : (P : Placed → Type 0) (xs : List Placed) (one : Placed) → AllByRecursion P (xs ++ one ∷ []) → P one
the_last P [] one all = all.0
the_last P (x ∷ xs) one all = the_last P xs one all.1

pair_numbers : (birth : ℕ) (chunks : List Chunk) (ps : List Placed) → length ps ≡ length chunks → numbers (by_pairs (entry_of birth) (map (λ chunk. chunk.at) chunks) ps) ≡ link.numbers chunks
pair_numbers birth [] ps e = refl
pair_numbers birth (chunk ∷ chunks) [] e = absurd (omega (arith, e))
pair_numbers birth (chunk ∷ chunks) (p ∷ ps) e = ap (λ (ks : List ChunkNumber). chunk.at.items ∷ ks) (pair_numbers birth chunks ps (omega (arith, e)))

-- ---- the entries

-- what is known of the entries of a new version
record AreHeld (old new : List ℕ) (schema : Schema) (rows : List Row) (birth : ℕ) (before : List DirEntry) (directory : Directory) : Type 0 where
  listed : (k : ChunkNumber) → length k ≡ length schema.dimensions → is_listed k (numbers directory.entries) ≡ has_cell schema.dimensions rows k
  entries : AllByRecursion (IsHeld old new schema rows birth before) directory.entries

store_held : (old new : List ℕ) (schema : Schema) (rows : List Row) (birth : ℕ) (written : Written) (newest : Directory) (ks : List ChunkNumber) → written.whole ≡ true → numbers (entries_of written) ≡ ks
    → ((k : ChunkNumber) → length k ≡ length schema.dimensions → is_listed k ks ≡ has_cell schema.dimensions rows k) → AllByRecursion (IsThere new schema rows birth) (entries_of written)
    → AreHeld old new schema rows birth newest.entries (directory_of written newest)
store_held old new schema rows birth written newest ks whole its listed there =
    let theirs = stores_list_theirs written newest whole in
    record {
      listed = λ k len. ap (λ (es : List DirEntry). is_listed k (numbers es)) theirs ∙ ap (is_listed k) its ∙ listed k len;
      entries = subst (AllByRecursion (IsHeld old new schema rows birth newest.entries)) (sym theirs)
          (map_all (IsThere new schema rows birth) (IsHeld old new schema rows birth newest.entries) (entries_of written) (λ e is. inl is) there);
    }

insert_held : (old new : List ℕ) (schema : Schema) (input before : List Row) (birth : ℕ) (written : Written) (newest : Directory) → AreReplaced (entries_of written) newest.entries (directory_of written newest).entries
    → IsPutOver schema input before (entries_of written) newest.entries → HoldsVersion old schema newest before → AllByRecursion (IsThere new schema (put_all input before) birth) (entries_of written)
    → AreHeld old new schema (put_all input before) birth newest.entries (directory_of written newest)
insert_held old new schema input before birth written newest replaced put holds there =
    let rows = put_all input before in
    let fresh = entries_of written in
    record {
      listed = insert_lists schema input before fresh newest.entries (directory_of written newest).entries put replaced;
      entries = replaced_has (IsHeld old new schema rows birth newest.entries) fresh newest.entries (directory_of written newest).entries replaced
          (map_all (IsThere new schema rows birth) (IsHeld old new schema rows birth newest.entries) fresh (λ e is. inl is) there)
          (λ e found none. inr (found, found_has (HoldsPart old schema before) newest.entries e.at.items e holds.payloads found ∙ ap Ok (sym (insert_keeps schema input before fresh newest.entries e put found none))));
    }

-- ---- the version

abbrev Held : List ℕ → List ℕ → List Row → ℕ → Changed → Directory → List ℕ → Type 0
Held old new rows birth changed newest pages = AreHeld old new changed.schema rows birth newest.entries (directory_of (settled pages (draft birth changed)) newest)

abbrev Blobs : List ℕ → ℕ → Changed → Directory → List ℕ → Type 0
Blobs new birth changed newest pages = HoldsBlobs new (new_version pages (Some (draft birth changed)) newest).blobs

written_there : (new : List ℕ) (rows : List Row) (birth : ℕ) (changed : Changed) (newest : Directory) (pages : List ℕ) → AreValid changed
    → AllByRecursion (link.IsPart changed.schema.dimensions (overlaps changed.schema.dimensions) rows) changed.chunks → length (pages_of (draft birth changed).payloads) ≤ length pages
    → Blobs new birth changed newest pages → AllByRecursion (IsThere new changed.schema rows birth) (entries_of (settled pages (draft birth changed)))
unfolding version_in
written_there new rows birth changed newest pages valid parts room holds =
    let here = settled pages (draft birth changed) in
    let own = placed (drop (length (pages_of (draft birth changed).payloads)) pages) (directory_bytes here newest) in
    all_there new changed.schema rows birth changed.chunks pages valid.stored parts room (all_first (λ one. HoldsBlob page_size new one.pages one.bytes) here.payloads own holds)

version_held : (old new : List ℕ) (rows : List Row) (birth : ℕ) (changed : Changed) (newest : Directory) (pages : List ℕ) → AreValid changed
    → version_needs (Some (draft birth changed)) newest ≤ length pages → Blobs new birth changed newest pages → Held old new rows birth changed newest pages
    → HoldsVersionOf old new changed.schema rows birth newest.entries (new_version pages (Some (draft birth changed)) newest)
unfolding version_in
version_held old new rows birth changed newest pages valid le holds held =
    let written = draft birth changed in
    let m = length (pages_of written.payloads) in
    let here = settled pages written in
    let bytes = directory_bytes here newest in
    let own = placed (drop m pages) bytes in
    let room : m ≤ length pages = omega (arith, le) in
    let same : length bytes ≡ length (directory_bytes written newest) = settled_bytes pages written newest (is_written birth changed valid.rising) room in
    record {
      spelled = the_last (λ one. HoldsBlob page_size new one.pages one.bytes) here.payloads own holds;
      size = refl;
      enough = length-take-le (blob_count bytes) (drop m pages) (behind_fit m bytes (directory_bytes written newest) pages same le);
      listed = held.listed;
      entries = held.entries;
    }

as_many : (schema : Schema) (chunks : List Chunk) → length (map (λ chunk. drafted (payload_spelling schema.attributes chunk)) chunks) ≡ length chunks
as_many schema [] = refl
as_many schema (chunk ∷ chunks) = ap suc (as_many schema chunks)

its_numbers : (birth : ℕ) (changed : Changed) (pages : List ℕ) → numbers (entries_of (settled pages (draft birth changed))) ≡ link.numbers changed.chunks
its_numbers birth changed pages =
    pair_numbers birth changed.chunks (all_placed pages (draft birth changed).payloads) (length_placed pages (draft birth changed).payloads ∙ as_many changed.schema changed.chunks)

store_version : (old new : List ℕ) (db : Database) (name : List ℕ) (plan : Query) (birth : ℕ) (changed : Changed) (newest : Directory) (pages : List ℕ) → changed.whole ≡ true → AreValid changed
    → length (pages_of (draft birth changed).payloads) ≤ length pages → Blobs new birth changed newest pages → IsChangeOf db (Store name changed.schema plan) changed
    → Held old new (new_rows db (Store name changed.schema plan)) birth changed newest pages
store_version old new db name plan birth changed newest pages whole valid room holds is =
    let rows = new_rows db (Store name changed.schema plan) in
    store_held old new changed.schema rows birth (settled pages (draft birth changed)) newest (link.numbers changed.chunks) whole (its_numbers birth changed pages) is.listed
    (written_there new rows birth changed newest pages valid is.parts room holds)

insert_version : (old new : List ℕ) (db : Database) (name : List ℕ) (plan : Query) (birth : ℕ) (changed : Changed) (newest : Directory) (pages : List ℕ) → changed.whole ≡ false → AreValid changed
    → length (pages_of (draft birth changed).payloads) ≤ length pages → Blobs new birth changed newest pages → AreRowsOf changed.schema (newest_rows db name)
    → IsOfRows changed.schema (newest_rows db name) newest → HoldsVersion old changed.schema newest (newest_rows db name) → IsChangeOf db (Insert name changed.schema plan) changed
    → Held old new (new_rows db (Insert name changed.schema plan)) birth changed newest pages
insert_version old new db name plan birth changed newest pages whole valid room holds are of held is =
    let schema = changed.schema in
    let before = newest_rows db name in
    let input = rows_if_whole (fitted schema plan db) in
    let here = settled pages (draft birth changed) in
    let put : IsPutOver schema input before (entries_of here) newest.entries =
    record {
      rising = are.are_rows.rising;
      chosen = λ k len. ap (is_listed k) (its_numbers birth changed pages) ∙ is.listed k len;
      held = of.listed.listed;
      sized = of_entries (length schema.dimensions) newest.entries of.listed.sized;
    } in
    insert_held old new schema input before birth here newest (inserts_replace here newest (draft_rises changed birth valid.rising) of.listed.rising whole) put held
    (written_there new (put_all input before) birth changed newest pages valid is.parts room holds)

needs_room : (birth : ℕ) (changed : Changed) (newest : Directory) (pages : List ℕ) → version_needs (Some (draft birth changed)) newest ≤ length pages → length (pages_of (draft birth changed).payloads) ≤ length pages
needs_room birth changed newest pages le = omega (arith, le)

pub versions_are_held : VersionsAreHeld
versions_are_held old new db (Create name schema) catalog changed newest birth pages over before le holds = absurd (let wrong = over.comes in cc)
versions_are_held old new db (Store name schema plan) catalog changed newest birth pages over before le holds =
    version_held old new (new_rows db (Store name schema plan)) birth changed newest pages over.valid le holds
    (subst (λ (s : Schema). IsChangeOf db (Store name s plan) changed → Held old new (new_rows db (Store name s plan)) birth changed newest pages) over.comes.0
    (store_version old new db name plan birth changed newest pages over.comes.1 over.valid (needs_room birth changed newest pages le) holds) over.chunks)
versions_are_held old new db (Insert name schema plan) catalog changed newest birth pages over before le holds =
    let its = over.before over.comes.1 in
    version_held old new (new_rows db (Insert name schema plan)) birth changed newest pages over.valid le holds
    (subst (λ (s : Schema). IsChangeOf db (Insert name s plan) changed → Held old new (new_rows db (Insert name s plan)) birth changed newest pages) over.comes.0
    (insert_version old new db name plan birth changed newest pages over.comes.1 over.valid (needs_room birth changed newest pages le) holds its.0 its.1 (before over.comes.1)) over.chunks)
versions_are_held old new db (Remove name) catalog changed newest birth pages over before le holds = absurd (let wrong = over.comes in cc)
versions_are_held old new db (RemoveVersions name below) catalog changed newest birth pages over before le holds = absurd (let wrong = over.comes in cc)
