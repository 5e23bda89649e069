-- What a commit takes is what its change costs.
use Rattle.std.proofs.Common.{◌≡◌, ◌∙◌, add_assoc, ℕ, suc, ◌+◌, Bool, true, false, cond, ◌&&◌, ◌||◌, List, [], ◌∷◌, length, map, replicate, Option, Some, None, refl, sym, ap, subst}
use Rattle.std.specs.List.{AllByRecursion}
use Rattle.std.specs.Option.{option_or}
use Rattle.std.specs.Ordering.{is_eq}
use Rattle.std.specs.declared.cmp.Ordering.{Ordering}
use Rattle.std.proofs.lemmas.Bool.{and_parts}
use Rattle.std.proofs.lemmas.List.{length-append, length-replicate}
use Rattle.cell_values.specs.declared.datum.Row.{Row}
use Rattle.cell_values.specs.declared.schema.Dimension.{Dimension}
use Rattle.cell_values.specs.declared.schema.Schema.{Schema}
use Rattle.array_rows.specs.Arrays.{AreRowsOf}
use Rattle.array_rows.specs.Boxes.{by_pairs, within}
use Rattle.array_rows.specs.Rows.{IsRising, put_all}
use Rattle.array_geom.specs.declared.chunk.Changed.{Changed}
use Rattle.array_geom.specs.declared.chunk.Chunk.{Chunk}
use Rattle.array_geom.specs.Geometry.{ChunkNumber, frame, has_core, overlaps}
use Rattle.array_geom.specs.Link.{IsPart, NumbersRise, number_order, is_listed, has_cell}
use Rattle.array_geom.specs.Link as link
use Rattle.chunk_rle.specs.Chunks.{spelling as payload_spelling}
use Rattle.chunk_rle.specs.Stored.{IsStored}
use Rattle.chunk_map.specs.declared.directory.DirEntry.{DirEntry}
use Rattle.chunk_map.specs.declared.directory.Directory.{Directory}
use Rattle.chunk_map.specs.Entries.{AreRising, entry_at, numbers}
use Rattle.chunk_map.specs.Replacing.{AreReplaced}
use Rattle.chunk_map.proofs.Moves.{IsBefore}
use Rattle.chunk_map.proofs.Replacements.{are_listed}
use Rattle.file_items.specs.Pages.{pages_needed}
use Rattle.plan_changes.specs.Query.{Query}
use Rattle.plan_changes.specs.declared.change.Change.{Change}
use Rattle.plan_changes.specs.declared.change.Change.TheVariants.{Create, Store, Insert, Remove, RemoveVersions}
use Rattle.plan_changes.specs.Databases.{Database, fitted, new_rows, newest_rows, rows_if_whole}
use Rattle.file_meaning.specs.Catalog.{Catalog}
use Rattle.file_meaning.specs.Standing.{stored_chunk}
use Rattle.file_meaning.proofs.Counts.{counts_agree}
use Rattle.file_meaning.proofs.Payloads.{part_stored}
use Rattle.file_meaning.proofs.FileStored.{beside_stay}
use Rattle.commit_pages.specs.Costs.{payload_length, payload_pages, directory_for, new_version_pages, record_pages, catalogue_pages}
use Rattle.commit_pages.specs.Costs.{directory_of as cost_directory}
use Rattle.commit_pages.specs.Lengths.{AreAlike, AreBothAlike, AreListed, HasItsLength, meets}
use Rattle.commit_pages.proofs.Catalogs.{record_pages_are_told, catalogue_pages_are_told}
use Rattle.commit_pages.proofs.CountingLengths.{directory_bytes as cost_bytes}
use Rattle.commit_pages.proofs.Orders.{stored_pages, written_pages}
use Rattle.page_file.specs.Commits.{pages_of}
use Rattle.commit_pages.specs.Versions.{blob_count, blob_at, drafted, draft, draft_of, draft_at, entry_of, entries_of, directory_of, directory_bytes, version_needs}
use Rattle.commit_pages.specs.Changes.{AreValid, IsChangeOf}
use Rattle.commit_pages.specs.Commits.{record_needs, base_needs, record_bytes, catalog_bytes, chain_count}
use Rattle.page_chain.specs.Pages.{page_size, pages_for}
use Rattle.page_chain.specs.Chains.{content_size}
use Rattle.commit_pages.specs.Laws.{IsOfRows, IsOver, RecordsCostTheirPages, BasesCostTheirPages}
use Rattle.commit_pages.proofs.Chains.{same_length}
use Rattle.commit_pages.proofs.Directories.{stores_list_theirs, inserts_replace, first_found, draft_rises}
use Rattle.commit_pages.proofs.Kept.{still_has, has_as_before, frame_is_empty, both_listed, not_met}

-- ---- the chunks of a change

abbrev AreTheirs : Schema → List Row → List Chunk → Type 0
AreTheirs schema rows = AllByRecursion (λ chunk. chunk ≡ stored_chunk schema rows chunk.at.items)

are_theirs : (schema : Schema) (rows : List Row) (chunks : List Chunk) → AllByRecursion (IsStored schema) chunks
    → AllByRecursion (IsPart schema.dimensions (overlaps schema.dimensions) rows) chunks → AreTheirs schema rows chunks
are_theirs schema rows [] stored parts = tt
are_theirs schema rows (chunk ∷ chunks) stored parts = (part_stored schema rows chunk stored.0.valid.framed parts.0, are_theirs schema rows chunks stored.1 parts.1)

pub core_length : (dims : List Dimension) (k : ChunkNumber) → has_core dims k ≡ true → length k ≡ length dims
core_length [] [] e = refl
core_length [] (k ∷ ks) e = absurd cc
core_length (d ∷ dims) [] e = absurd cc
core_length (d ∷ dims) (k ∷ ks) e = ap suc (core_length dims ks (and_parts _ _ e).1)

pub are_sized : (schema : Schema) (chunks : List Chunk) → AllByRecursion (IsStored schema) chunks → AllByRecursion (λ k. length k ≡ length schema.dimensions) (link.numbers chunks)
are_sized schema [] stored = tt
are_sized schema (chunk ∷ chunks) stored = (core_length schema.dimensions chunk.at.items stored.0.valid.framed.core, are_sized schema chunks stored.1)

needed_is : (schema : Schema) (rows : List Row) (chunk : Chunk) → chunk ≡ stored_chunk schema rows chunk.at.items
    → blob_count (payload_spelling schema.attributes chunk) ≡ pages_needed (payload_length schema rows chunk.at.items)
needed_is schema rows chunk e = sym (counts_agree (length (payload_spelling schema.attributes chunk))) ∙ ap (λ (c : Chunk). pages_needed (length (payload_spelling schema.attributes c))) e

payloads_take : (schema : Schema) (rows : List Row) (chunks : List Chunk) → AreTheirs schema rows chunks
    → length (pages_of (map (λ chunk. drafted (payload_spelling schema.attributes chunk)) chunks)) ≡ payload_pages schema rows (link.numbers chunks)
payloads_take schema rows [] all = refl
payloads_take schema rows (chunk ∷ chunks) all =
    let n = blob_count (payload_spelling schema.attributes chunk) in
    let rest = pages_of (map (λ (c : Chunk). drafted (payload_spelling schema.attributes c)) chunks) in
    length-append (replicate n 1) rest
    ∙ ap (λ (m : ℕ). m + length rest) (length-replicate n 1 ∙ needed_is schema rows chunk all.0)
    ∙ ap (λ (m : ℕ). pages_needed (payload_length schema rows chunk.at.items) + m) (payloads_take schema rows chunks all.1)

-- ---- the entries of a change

pub fresh_numbers : (schema : Schema) (birth : ℕ) (chunks : List Chunk)
    → numbers (by_pairs (entry_of birth) (map (λ chunk. chunk.at) chunks) (map (λ chunk. drafted (payload_spelling schema.attributes chunk)) chunks)) ≡ link.numbers chunks
fresh_numbers schema birth [] = refl
fresh_numbers schema birth (chunk ∷ chunks) = ap (λ (ks : List ChunkNumber). chunk.at.items ∷ ks) (fresh_numbers schema birth chunks)

fresh_lengths : (schema : Schema) (rows : List Row) (birth : ℕ) (chunks : List Chunk) → AreTheirs schema rows chunks
    → AllByRecursion (HasItsLength schema rows) (by_pairs (entry_of birth) (map (λ chunk. chunk.at) chunks) (map (λ chunk. drafted (payload_spelling schema.attributes chunk)) chunks))
fresh_lengths schema rows birth [] all = tt
fresh_lengths schema rows birth (chunk ∷ chunks) all =
    let bytes = payload_spelling schema.attributes chunk in (
      record {
        bytes = ap (λ (c : Chunk). length (payload_spelling schema.attributes c)) all.0;
        pages = length-replicate (blob_count bytes) 1 ∙ sym (counts_agree (length bytes));
      },
      fresh_lengths schema rows birth chunks all.1,
    )

-- ---- directories

like_directory : (schema : Schema) (rows : List Row) (bytes : List ℕ) → length bytes ≡ (cost_directory schema rows).length
    → AreAlike (blob_at (drafted bytes)) (cost_directory schema rows)
like_directory schema rows bytes e = record {
  bytes = e;
  pages = length-replicate (blob_count bytes) 1 ∙ sym (counts_agree (length bytes)) ∙ ap pages_needed e ∙ sym (length-replicate (pages_needed (cost_directory schema rows).length) 1);
}

-- what a version takes, and where its directory lies, are as it costs
record IsPriced (db : Database) (change : Change) (birth : ℕ) (changed : Option Changed) (newest : Directory) : Type 0 where
  needs : version_needs (draft_of birth changed) newest ≡ new_version_pages db change
  alike : AreBothAlike (draft_at (draft_of birth changed) newest) (directory_for db change)

two_sums : (a b c d : ℕ) → a ≡ c → b ≡ d → a + b ≡ c + d
two_sums a b c d e f = cc

-- ---- a store

store_priced : (db : Database) (name : List ℕ) (plan : Query) (birth : ℕ) (changed : Changed) (newest : Directory) → changed.whole ≡ true → AreValid changed
    → IsChangeOf db (Store name changed.schema plan) changed → IsPriced db (Store name changed.schema plan) birth (Some changed) newest
store_priced db name plan birth changed newest whole valid is =
    let schema = changed.schema in
    let rows = new_rows db (Store name schema plan) in
    let theirs = are_theirs schema rows changed.chunks valid.stored is.parts in
    let listed : AreListed schema.dimensions (has_cell schema.dimensions rows) (link.numbers changed.chunks) =
    record { rising = valid.rising; sized = are_sized schema changed.chunks valid.stored; listed = is.listed } in
    let entries : (directory_of (draft birth changed) newest).entries ≡ entries_of (draft birth changed) = stores_list_theirs (draft birth changed) newest whole in
    let its_numbers : link.numbers changed.chunks ≡ numbers (directory_of (draft birth changed) newest).entries = sym (ap numbers entries ∙ fresh_numbers schema birth changed.chunks) in
    let its_lengths = subst (AllByRecursion (HasItsLength schema rows)) (sym entries) (fresh_lengths schema rows birth changed.chunks theirs) in
    let bytes : length (directory_bytes (draft birth changed) newest) ≡ (cost_directory schema rows).length =
    cost_bytes schema rows (directory_of (draft birth changed) newest).entries is.rows (subst (AreListed schema.dimensions (has_cell schema.dimensions rows)) its_numbers listed) its_lengths in
    let alike = like_directory schema rows (directory_bytes (draft birth changed) newest) bytes in
    record {
      needs = two_sums _ _ _ _ (payloads_take schema rows changed.chunks theirs ∙ stored_pages schema rows (link.numbers changed.chunks) is.rows listed)
          (sym (length-replicate (blob_count (directory_bytes (draft birth changed) newest)) 1) ∙ alike.pages);
      alike = alike;
    }

-- ---- entries that were there

later_found : (x : DirEntry) (es fs : List DirEntry) → IsBefore x.at.items fs → AllByRecursion (λ e. entry_at es e.at.items ≡ Some e) fs → AllByRecursion (λ e. entry_at (x ∷ es) e.at.items ≡ Some e) fs
later_found x es [] before all = tt
later_found x es (f ∷ fs) before all =
    (ap (λ (t : Ordering). cond (is_eq t) (Some x) (entry_at es f.at.items)) before.0 ∙ all.0, later_found x es fs before.1 all.1)

each_found : (es : List DirEntry) → AreRising es → AllByRecursion (λ e. entry_at es e.at.items ≡ Some e) es
each_found [] rise = tt
each_found (x ∷ es) rise = (first_found x es, later_found x es es rise.0 (each_found es rise.1))

pub map_all : (P Q : DirEntry → Type 0) (es : List DirEntry) → ((e : DirEntry) → P e → Q e) → AllByRecursion P es → AllByRecursion Q es
map_all P Q [] f all = tt
map_all P Q (e ∷ es) f all = (f e all.0, map_all P Q es f all.1)

pub found_has : (P : DirEntry → Type 0) (es : List DirEntry) (k : ChunkNumber) (e : DirEntry) → AllByRecursion P es → entry_at es k ≡ Some e → P e
found_has P [] k e all is = absurd cc
found_has P (x ∷ es) k e all is = by_test (is_eq (number_order x.at.items k)) is (found_has P es k e all.1)
  where
    by_test : (t : Bool) → cond t (Some x) (entry_at es k) ≡ Some e → (entry_at es k ≡ Some e → P e) → P e
    by_test true it later = let same : x ≡ e = cc in subst P same all.0
    by_test false it later = later it

found_listed : (es : List DirEntry) (k : ChunkNumber) (e : DirEntry) → entry_at es k ≡ Some e → is_listed k (numbers es) ≡ true
found_listed [] k e is = absurd cc
found_listed (x ∷ es) k e is = by_test (is_eq (number_order x.at.items k)) is (found_listed es k e)
  where
    by_test : (t : Bool) → cond t (Some x) (entry_at es k) ≡ Some e → (entry_at es k ≡ Some e → is_listed k (numbers es) ≡ true) → (t || is_listed k (numbers es)) ≡ true
    by_test true it later = refl
    by_test false it later = later it

none_listed : (es : List DirEntry) (k : ChunkNumber) → entry_at es k ≡ None → is_listed k (numbers es) ≡ false
none_listed [] k is = refl
none_listed (x ∷ es) k is = by_test (is_eq (number_order x.at.items k)) is (none_listed es k)
  where
    by_test : (t : Bool) → cond t (Some x) (entry_at es k) ≡ None → (entry_at es k ≡ None → is_listed k (numbers es) ≡ false) → (t || is_listed k (numbers es)) ≡ false
    by_test true it later = absurd cc
    by_test false it later = later it

pub of_entries : (n : ℕ) (es : List DirEntry) → AllByRecursion (λ k. length k ≡ n) (numbers es) → AllByRecursion (λ e. length e.at.items ≡ n) es
of_entries n [] all = tt
of_entries n (e ∷ es) all = (all.0, of_entries n es all.1)

of_numbers : (n : ℕ) (es : List DirEntry) → AllByRecursion (λ e. length e.at.items ≡ n) es → AllByRecursion (λ k. length k ≡ n) (numbers es)
of_numbers n [] all = tt
of_numbers n (e ∷ es) all = (all.0, of_numbers n es all.1)

-- an entry of a directory in which entries were replaced is a fresh one, or one of the old that no fresh one replaces
pub replaced_has : (P : DirEntry → Type 0) (fresh old new : List DirEntry) → AreReplaced fresh old new → AllByRecursion P fresh
    → ((e : DirEntry) → entry_at old e.at.items ≡ Some e → is_listed e.at.items (numbers fresh) ≡ false → P e) → AllByRecursion P new
replaced_has P fresh old new replaced theirs kept = map_all (λ e. entry_at new e.at.items ≡ Some e) P new each (each_found new replaced.rising)
  where
    each : (e : DirEntry) → entry_at new e.at.items ≡ Some e → P e
    each e is = either (entry_at fresh e.at.items) refl (sym (replaced.each e.at.items) ∙ is)
      where
        either : (f : Option DirEntry) → entry_at fresh e.at.items ≡ f → option_or f (entry_at old e.at.items) ≡ Some e → P e
        either (Some f) found it = found_has P fresh e.at.items e theirs (found ∙ it)
        either None found it = kept e it (none_listed fresh e.at.items found)

-- ---- an insert

pub overlaps_length : (dims : List Dimension) → length (overlaps dims) ≡ length dims
overlaps_length [] = refl
overlaps_length (d ∷ dims) = ap suc (overlaps_length dims)

-- what an insert writes, and which chunks the newest version has
pub record IsPutOver (schema : Schema) (input before : List Row) (fresh old : List DirEntry) : Type 0 where
  pub rising : IsRising before
  pub chosen : (k : ChunkNumber) → length k ≡ length schema.dimensions → is_listed k (numbers fresh) ≡ (has_cell schema.dimensions (put_all input before) k && meets schema.dimensions input k)
  pub held : (k : ChunkNumber) → length k ≡ length schema.dimensions → is_listed k (numbers old) ≡ has_cell schema.dimensions before k
  pub sized : AllByRecursion (λ e. length e.at.items ≡ length schema.dimensions) old

-- the new directory lists each chunk that then holds a cell
pub insert_lists : (schema : Schema) (input before : List Row) (fresh old new : List DirEntry) → IsPutOver schema input before fresh old → AreReplaced fresh old new → (k : ChunkNumber) → length k ≡ length schema.dimensions
    → is_listed k (numbers new) ≡ has_cell schema.dimensions (put_all input before) k
insert_lists schema input before fresh old new put replaced k len =
    let dims = schema.dimensions in
    are_listed fresh old new k replaced
    ∙ ap (λ (b : Bool). b || is_listed k (numbers old)) (put.chosen k len)
    ∙ ap (λ (b : Bool). (has_cell dims (put_all input before) k && meets dims input k) || b) (put.held k len)
    ∙ both_listed (has_cell dims (put_all input before) k) (has_cell dims before k) (meets dims input k) (still_has dims k input before put.rising)
    (has_as_before dims k input before (overlaps_length dims) put.rising)

-- a chunk that the newest version has, and that isn't written, stays
pub insert_keeps : (schema : Schema) (input before : List Row) (fresh old : List DirEntry) (e : DirEntry) → IsPutOver schema input before fresh old → entry_at old e.at.items ≡ Some e
    → is_listed e.at.items (numbers fresh) ≡ false → stored_chunk schema (put_all input before) e.at.items ≡ stored_chunk schema before e.at.items
insert_keeps schema input before fresh old e put found none =
    let dims = schema.dimensions in
    let k = e.at.items in
    let len : length k ≡ length dims = found_has (λ f. length f.at.items ≡ length dims) old k e put.sized found in
    let had : has_cell dims before k ≡ true = sym (put.held k len) ∙ found_listed old k e found in
    let out : (has_cell dims (put_all input before) k && meets dims input k) ≡ false = sym (put.chosen k len) ∙ none in
    let met : meets dims input k ≡ false = not_met (has_cell dims (put_all input before) k) (meets dims input k) (still_has dims k input before put.rising had) out in
    beside_stay schema input before k put.rising (frame_is_empty (within (frame dims (overlaps dims) k) input) met)

-- an entry of a chunk that stays has its length still
as_long : (schema : Schema) (input before : List Row) (e : DirEntry) → stored_chunk schema (put_all input before) e.at.items ≡ stored_chunk schema before e.at.items → HasItsLength schema before e
    → HasItsLength schema (put_all input before) e
as_long schema input before e same its = record { bytes = its.bytes ∙ ap (λ (c : Chunk). length (payload_spelling schema.attributes c)) (sym same); pages = its.pages }

insert_priced : (db : Database) (name : List ℕ) (plan : Query) (birth : ℕ) (changed : Changed) (newest : Directory) → changed.whole ≡ false → AreValid changed
    → IsChangeOf db (Insert name changed.schema plan) changed → AreRowsOf changed.schema (newest_rows db name) → IsOfRows changed.schema (newest_rows db name) newest
    → IsPriced db (Insert name changed.schema plan) birth (Some changed) newest
insert_priced db name plan birth changed newest whole valid is are of =
    let schema = changed.schema in
    let dims = schema.dimensions in
    let before = newest_rows db name in
    let input = rows_if_whole (fitted schema plan db) in
    let rows = put_all input before in
    let chunks = changed.chunks in
    let theirs = are_theirs schema rows chunks valid.stored is.parts in
    let written = draft birth changed in
    let fresh = entries_of written in
    let old = newest.entries in
    let new = (directory_of written newest).entries in
    let replaced : AreReplaced fresh old new = inserts_replace written newest (draft_rises changed birth valid.rising) of.listed.rising whole in
    let sized = are_sized schema chunks valid.stored in
    let its_numbers : numbers fresh ≡ link.numbers chunks = fresh_numbers schema birth chunks in
    let HasSize : DirEntry → Type 0 = λ e. length e.at.items ≡ length dims in
    let old_sized : AllByRecursion HasSize old = of_entries (length dims) old of.listed.sized in
    let put : IsPutOver schema input before fresh old =
    record { rising = are.are_rows.rising; chosen = λ k len. ap (is_listed k) its_numbers ∙ is.listed k len; held = of.listed.listed; sized = old_sized } in
    let fresh_sized : AllByRecursion HasSize fresh = of_entries (length dims) fresh (subst (AllByRecursion (λ (k : ChunkNumber). length k ≡ length dims)) (sym its_numbers) sized) in
    let new_sized : AllByRecursion HasSize new = replaced_has HasSize fresh old new replaced fresh_sized (λ e found none. found_has HasSize old e.at.items e old_sized found) in
    let lengths : AllByRecursion (HasItsLength schema rows) new =
    replaced_has (HasItsLength schema rows) fresh old new replaced (fresh_lengths schema rows birth chunks theirs)
    (λ e found none. as_long schema input before e (insert_keeps schema input before fresh old e put found none) (found_has (HasItsLength schema before) old e.at.items e of.lengths found)) in
    let bytes : length (directory_bytes written newest) ≡ (cost_directory schema rows).length =
    cost_bytes schema rows new is.rows (record { rising = replaced.rising; sized = of_numbers (length dims) new new_sized; listed = insert_lists schema input before fresh old new put replaced }) lengths in
    let alike = like_directory schema rows (directory_bytes written newest) bytes in
    record {
      needs = two_sums _ _ _ _
          (payloads_take schema rows chunks theirs ∙ written_pages schema rows input (link.numbers chunks) is.rows (record { rising = valid.rising; sized = sized; listed = is.listed }))
          (sym (length-replicate (blob_count (directory_bytes written newest)) 1) ∙ alike.pages);
      alike = alike;
    }

-- ---- any change

priced : (db : Database) (change : Change) (birth : ℕ) (catalog : Catalog) (changed : Option Changed) (newest : Directory) → IsOver db change catalog changed newest → IsPriced db change birth changed newest
priced db (Create name schema) birth catalog None newest over = record { needs = refl; alike = tt }
priced db (Create name schema) birth catalog (Some changed) newest over = absurd (let wrong = over.comes in cc)
priced db (Store name schema plan) birth catalog None newest over = absurd over.comes
priced db (Store name schema plan) birth catalog (Some changed) newest over =
    subst (λ (s : Schema). IsChangeOf db (Store name s plan) changed → IsPriced db (Store name s plan) birth (Some changed) newest) over.comes.0
    (store_priced db name plan birth changed newest over.comes.1 over.valid) over.chunks
priced db (Insert name schema plan) birth catalog None newest over = absurd over.comes
priced db (Insert name schema plan) birth catalog (Some changed) newest over =
    let its = over.before over.comes.1 in
    subst (λ (s : Schema). IsChangeOf db (Insert name s plan) changed → IsPriced db (Insert name s plan) birth (Some changed) newest) over.comes.0
    (λ is. insert_priced db name plan birth changed newest over.comes.1 over.valid is its.0 its.1) over.chunks
priced db (Remove name) birth catalog None newest over = record { needs = refl; alike = tt }
priced db (Remove name) birth catalog (Some changed) newest over = absurd (let wrong = over.comes in cc)
priced db (RemoveVersions name below) birth catalog None newest over = record { needs = refl; alike = tt }
priced db (RemoveVersions name below) birth catalog (Some changed) newest over = absurd (let wrong = over.comes in cc)

pub records_cost : RecordsCostTheirPages
unfolding record_needs
records_cost records db h change catalog changed newest birth over room =
    let its = priced db change birth catalog changed newest over in
    let at = draft_at (draft_of birth changed) newest in
    let chain : chain_count (record_bytes catalog change at) ≡ record_pages db change =
    ap (pages_for (content_size page_size)) (same_length catalog change at) ∙ sym (record_pages_are_told db change catalog at over.alike its.alike) in
    two_sums _ _ _ _ its.needs chain ∙ ap (λ (b : Bool). new_version_pages db change + cond b (record_pages db change) (catalogue_pages db change + 1)) (sym room)

pub bases_cost : BasesCostTheirPages
unfolding base_needs
bases_cost records db h change catalog changed newest birth over full =
    let its = priced db change birth catalog changed newest over in
    let at = draft_at (draft_of birth changed) newest in
    let chain : chain_count (catalog_bytes catalog change at) ≡ catalogue_pages db change = sym (catalogue_pages_are_told db change catalog at over.database over.typed over.alike its.alike) in
    let sum : version_needs (draft_of birth changed) newest + chain_count (catalog_bytes catalog change at) ≡ new_version_pages db change + catalogue_pages db change = two_sums _ _ _ _ its.needs chain in
    ap (λ (n : ℕ). n + 1) sum ∙ add_assoc (new_version_pages db change) (catalogue_pages db change) 1
    ∙ ap (λ (b : Bool). new_version_pages db change + cond b (record_pages db change) (catalogue_pages db change + 1)) (sym full)
