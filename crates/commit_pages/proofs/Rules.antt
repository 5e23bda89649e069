-- New directories have a spelling.
use Rattle.std.proofs.Common.{◌≡◌, ◌∙◌, ℕ, zero, suc, ◌+◌, ◌-◌, ◌*◌, ◌<◌, ◌≤◌, ◌^◌, Bool, true, false, List, [], ◌∷◌, ◌++◌, IfSome, Option, Some, None, length, map, take, drop, refl, sym, ap, subst, arith}
use Rattle.std.specs.Prelude.{int_le, ◌≤ℤ◌, slice_index}
use Rattle.std.specs.Int.{w64, to_le_bytes}
use Rattle.std.specs.List.{AllByRecursion, flat_map}
use Rattle.std.proofs.lemmas.Bool.{and_parts}
use Rattle.std.proofs.lemmas.Int.{ints}
use Rattle.std.proofs.lemmas.List.{length-append, length-drop, length-take-le}
use Rattle.arrayvec.specs.ArrayVec.{ArrayVec}
use Rattle.cell_values.specs.declared.schema.Dimension.{Dimension}
use Rattle.cell_values.specs.declared.schema.Schema.{Schema}
use Rattle.array_rows.specs.Boxes.{by_pairs}
use Rattle.array_geom.specs.declared.chunk.Changed.{Changed}
use Rattle.array_geom.specs.declared.chunk.Chunk.{Chunk}
use Rattle.array_geom.specs.Geometry.{ChunkNumber, first_in, has_core}
use Rattle.array_geom.specs.Inner.Ranges.{IsNear, AreNear}
use Rattle.array_geom.proofs.NearLemmas.{valid_placed}
use Rattle.array_geom.proofs.TestLaws.{le_from_test}
use Rattle.chunk_map.specs.declared.directory.DirEntry.{DirEntry}
use Rattle.chunk_map.specs.declared.directory.Directory.{Directory}
use Rattle.chunk_map.specs.Entries.{AreRising}
use Rattle.chunk_map.specs.Spelling.{spelling as directory_spelling, spell_entry, IsEntry, IsDirectory}
use Rattle.chunk_map.proofs.Replacements.{are_directories}
use Rattle.chunk_rle.specs.Chunks.{spelling as payload_spelling, as_runs}
use Rattle.chunk_rle.specs.Spelling.{spell_runs, spell_position_run, spell_column}
use Rattle.chunk_rle.specs.Stored.{IsStored}
use Rattle.file_items.specs.Pages.{LieIn}
use Rattle.file_meaning.proofs.Counts.{counts_agree}
use Rattle.file_meaning.specs.BlobAt.{BlobAt}
use Rattle.file_meaning.specs.Changed.{IsItsBlob}
use Rattle.page_file.specs.declared.commits.placed.Placed.{Placed}
use Rattle.page_file.specs.Commits.{pages_of, IsBlobSized}
use Rattle.commit_pages.specs.declared.pages.written.Written.{Written}
use Rattle.commit_pages.specs.Versions.{blob_count, all_placed, drafted, draft, settled, entry_of, entries_of, directory_of, directory_bytes, version_in, new_version, version_needs, IsWritten, CanBeListed}
use Rattle.commit_pages.specs.Changes.{AreValid}
use Rattle.commit_pages.specs.Commits.{record_needs, base_needs, with_record, with_base}
use Rattle.commit_pages.specs.declared.pages.laid.Laid.{Laid}
use Rattle.commit_pages.specs.declared.pages.version.NewVersion.{NewVersion}
use Rattle.page_chain.specs.Pages.{page_size, pages_for}
use Rattle.plan_changes.specs.declared.change.Change.{Change}
use Rattle.file_meaning.specs.Catalog.{Catalog}
use Rattle.commit_pages.proofs.Blobs.{both_fit, length_placed, sized_placed}
use Rattle.commit_pages.proofs.Costs.{core_length}
use Rattle.commit_pages.proofs.Directories.{entries_rise, stores_list_theirs, inserts_replace}
use Rattle.commit_pages.proofs.PagesLengths.{settled_bytes}

-- ---- pages that four bytes name

record AreNamed (pages : List ℕ) : Type 0 where
  few : length pages < 2 ^ 32
  each : AllByRecursion (λ page. page < 2 ^ 32) pages

all_take : (P : ℕ → Type 0) (n : ℕ) (xs : List ℕ) → AllByRecursion P xs → AllByRecursion P (take n xs)
all_take P zero [] all = tt
all_take P (suc n) [] all = tt
all_take P zero (x ∷ xs) all = tt
all_take P (suc n) (x ∷ xs) all = (all.0, all_take P n xs all.1)

all_drop : (P : ℕ → Type 0) (n : ℕ) (xs : List ℕ) → AllByRecursion P xs → AllByRecursion P (drop n xs)
all_drop P zero [] all = tt
all_drop P (suc n) [] all = tt
all_drop P zero (x ∷ xs) all = all
all_drop P (suc n) (x ∷ xs) all = all_drop P n xs all.1

named_behind : (n : ℕ) (pages : List ℕ) → AreNamed pages → AreNamed (drop n pages)
named_behind n pages named = record {
  few = (let left = length-drop n pages in let few = named.few in omega (arith, left));
  each = all_drop (λ page. page < 2 ^ 32) n pages named.each;
}

lies_in : (bytes pages : List ℕ) → (1 ≤ length bytes) × (length bytes < 2 ^ 64) → blob_count bytes ≤ length pages → AreNamed pages → LieIn (length bytes) (take (blob_count bytes) pages)
lies_in bytes pages some le named =
    let n = blob_count bytes in
    let len : length (take n pages) ≡ n = length-take-le n pages le in
    record {
      some = some;
      count = (len ∙ sym (counts_agree (length bytes)), (let few = named.few in omega (arith, len, le)));
      each = all_take (λ page. page < 2 ^ 32) n pages named.each;
    }

-- ---- entries

are_entries : (dims birth : ℕ) (ns : List (ArrayVec ℕ)) (ps : List Placed) (pages : List ℕ) → (1 ≤ birth) × (birth < 2 ^ 64)
    → AllByRecursion (λ at. (length at.items ≡ dims) × AllByRecursion (λ k. k < 2 ^ 64) at.items) ns → AllByRecursion (λ one. (1 ≤ length one.bytes) × (length one.bytes < 2 ^ 64)) ps
    → AllByRecursion IsBlobSized ps → length (pages_of ps) ≤ length pages → AreNamed pages → AllByRecursion (IsEntry dims) (by_pairs (entry_of birth) ns (all_placed pages ps))
are_entries dims birth [] ps pages born numbers bytes sized le named = tt
are_entries dims birth (n ∷ ns) [] pages born numbers bytes sized le named = tt
are_entries dims birth (n ∷ ns) (p ∷ ps) pages born numbers bytes sized le named =
    let fit = both_fit p ps pages sized.0 le in
    let behind = drop (blob_count p.bytes) pages in (
      record { dimensions = numbers.0.0; numbers = numbers.0.1; birth = born; payload = lies_in p.bytes pages bytes.0 fit.0 named },
      are_entries dims birth ns ps behind born numbers.1 bytes.1 sized.1 fit.1 (named_behind (blob_count p.bytes) pages named),
    )

-- ---- how many entries there are

entry_is_some : (e : DirEntry) → 1 ≤ length (spell_entry e)
unfolding spell_entry
entry_is_some e =
    let numbers = flat_map (to_le_bytes w64) e.at.items in
    let rest = to_le_bytes w64 e.birth ++ _ in
    let p : length (spell_entry e) ≡ length numbers + length (to_le_bytes w64 e.length ++ rest) = length-append numbers (to_le_bytes w64 e.length ++ rest) in
    let q : length (to_le_bytes w64 e.length ++ rest) ≡ 8 + length rest = length-append (to_le_bytes w64 e.length) rest in
    omega (arith, p, q)

entries_fit : (es : List DirEntry) → length es ≤ length (flat_map spell_entry es)
entries_fit [] = omega arith
entries_fit (e ∷ es) =
    let p : length (spell_entry e ++ flat_map spell_entry es) ≡ length (spell_entry e) + length (flat_map spell_entry es) = length-append (spell_entry e) (flat_map spell_entry es) in
    let one = entry_is_some e in
    let later = entries_fit es in
    omega (arith, p, one, later)

directory_length : (directory : Directory) → length (directory_spelling directory) ≡ 8 + length (flat_map spell_entry directory.entries)
unfolding directory_spelling
directory_length directory = length-append (to_le_bytes w64 (length directory.entries)) (flat_map spell_entry directory.entries)

-- ---- the directory

directory_is : (dims : ℕ) (written : Written) (newest : Directory) → IsWritten written → AllByRecursion (IsEntry dims) (entries_of written) → IsDirectory dims newest
    → length (directory_bytes written newest) < 2 ^ 64 → IsDirectory dims (directory_of written newest)
directory_is dims written newest is entries before short = by_test written.whole refl
  where
    count : length (directory_of written newest).entries < 2 ^ 64
    count = let total = directory_length (directory_of written newest) in let fit = entries_fit (directory_of written newest).entries in omega (arith, total, fit, short)

    by_test : (b : Bool) → written.whole ≡ b → IsDirectory dims (directory_of written newest)
    by_test true e =
        let theirs = stores_list_theirs written newest e in
        record {
          count = count;
          each = subst (AllByRecursion (IsEntry dims)) (sym theirs) entries;
          rising = subst AreRising (sym theirs) (entries_rise written is.rising);
        }
    by_test false e =
        are_directories dims (entries_of written) newest.entries (directory_of written newest).entries before entries (entries_rise written is.rising)
        (inserts_replace written newest is.rising before.rising e) count

-- ---- a chunk's number

at_least_itself : (k n : ℕ) → 0 < n → k ≤ k * n
at_least_itself k zero some = absurd (omega (arith, some))
at_least_itself k (suc n) some = grind arith

number_fits : (d : Dimension) (k : ℕ) → IsNear d → first_in d k ≤ℤ d.hi → k < 2 ^ 64
number_fits d k near le =
    let many : k ≤ k * d.chunk = at_least_itself k d.chunk near.some in
    let low = near.low in
    let high = near.high in
    omega (arith, ints, many)

numbers_fit : (dims : List Dimension) (ks : ChunkNumber) → AreNear dims → has_core dims ks ≡ true → AllByRecursion (λ k. k < 2 ^ 64) ks
numbers_fit [] [] near e = tt
numbers_fit [] (k ∷ ks) near e = absurd cc
numbers_fit (d ∷ dims) [] near e = tt
numbers_fit (d ∷ dims) (k ∷ ks) near e =
    let parts = and_parts (int_le (first_in d k) d.hi) (has_core dims ks) e in
    (number_fits d k near.0 (le_from_test (first_in d k) d.hi parts.0), numbers_fit dims ks near.1 parts.1)

-- ---- the chunks of a change

payload_is_some : (schema : Schema) (chunk : Chunk) → 1 ≤ length (payload_spelling schema.attributes chunk)
unfolding payload_spelling spell_runs
payload_is_some schema chunk =
    let runs = as_runs schema.attributes chunk in
    let count = to_le_bytes w64 (length runs.positions) in
    let positions = flat_map spell_position_run runs.positions in
    let columns = flat_map spell_column runs.columns in
    let p : length ((count ++ positions) ++ columns) ≡ length (count ++ positions) + length columns = length-append (count ++ positions) columns in
    let q : length (count ++ positions) ≡ 8 + length positions = length-append count positions in
    omega (arith, p, q)

abbrev AreShort : List Placed → Type 0
AreShort = AllByRecursion (λ one. length one.bytes < 2 ^ 64)

payloads_listed : (schema : Schema) (chunks : List Chunk) → AreShort (map (λ chunk. drafted (payload_spelling schema.attributes chunk)) chunks)
    → AllByRecursion (λ one. (1 ≤ length one.bytes) × (length one.bytes < 2 ^ 64)) (map (λ chunk. drafted (payload_spelling schema.attributes chunk)) chunks)
payloads_listed schema [] short = tt
payloads_listed schema (chunk ∷ chunks) short = ((payload_is_some schema chunk, short.0), payloads_listed schema chunks short.1)

numbers_listed : (schema : Schema) (chunks : List Chunk) → AllByRecursion (IsStored schema) chunks
    → AllByRecursion (λ at. (length at.items ≡ length schema.dimensions) × AllByRecursion (λ k. k < 2 ^ 64) at.items) (map (λ chunk. chunk.at) chunks)
numbers_listed schema [] stored = tt
numbers_listed schema (chunk ∷ chunks) stored =
    let framed = stored.0.valid.framed in
    ((core_length schema.dimensions chunk.at.items framed.core, numbers_fit schema.dimensions chunk.at.items (valid_placed schema framed.valid).near framed.core), numbers_listed schema chunks stored.1)

pub can_be_listed : (birth : ℕ) (changed : Changed) → birth < 2 ^ 64 → AreShort (draft birth changed).payloads → AreValid changed → 1 ≤ birth → CanBeListed (length changed.schema.dimensions) (draft birth changed)
can_be_listed birth changed low short valid some = record {
  birth = (some, low);
  numbers = numbers_listed changed.schema changed.chunks valid.stored;
  bytes = payloads_listed changed.schema changed.chunks short;
}

-- ---- the new version

all_named : (pages : List ℕ) → ((i : ℕ) → slice_index pages i < 2 ^ 32) → AllByRecursion (λ page. page < 2 ^ 32) pages
all_named [] each = tt
all_named (page ∷ pages) each = (each 0, all_named pages (λ i. each (suc i)))

pub behind_fit : (m : ℕ) (bytes other pages : List ℕ) → length bytes ≡ length other → m + blob_count other ≤ length pages → blob_count bytes ≤ length (drop m pages)
behind_fit m bytes other pages e le =
    let count : blob_count bytes ≡ blob_count other = ap (pages_for page_size) e in
    let left : length (drop m pages) ≡ length pages - m = length-drop m pages in
    omega (arith, le, count, left)

-- where the directory lies has a spelling, and the directory has one where that of the newest version has
pub record HaveSpellings (written : Option Written) (newest : Directory) (directory : Option Directory) (at : Option BlobAt) : Type 0 where
  pub blob : IsItsBlob at
  pub rules : (dims : ℕ) → IsDirectory dims newest → IfSome written (CanBeListed dims) → IfSome directory (IsDirectory dims)

some_spelled : (pages : List ℕ) (written : Written) (newest : Directory) → IsWritten written → version_needs (Some written) newest ≤ length pages → AreNamed pages
    → length (directory_bytes (settled pages written) newest) < 2 ^ 64
    → HaveSpellings (Some written) newest (new_version pages (Some written) newest).directory (new_version pages (Some written) newest).at
unfolding version_in
some_spelled pages written newest is le named short =
    let m = length (pages_of written.payloads) in
    let here = settled pages written in
    let bytes = directory_bytes here newest in
    let room : m ≤ length pages = omega (arith, le) in
    let as_long : length bytes ≡ length (directory_bytes written newest) = settled_bytes pages written newest is room in
    let fits : blob_count bytes ≤ length (drop m pages) = behind_fit m bytes (directory_bytes written newest) pages as_long le in
    let some : 1 ≤ length bytes = (let total = directory_length (directory_of here newest) in omega (arith, total)) in
    let ready : IsWritten here = record { rising = is.rising; each = length_placed pages written.payloads ∙ is.each; sized = sized_placed pages written.payloads is.sized room } in
    record {
      blob = lies_in bytes (drop m pages) (some, short) fits (named_behind m pages named);
      rules = λ dims before listed.
          directory_is dims here newest ready (are_entries dims written.birth written.numbers written.payloads pages listed.birth listed.numbers listed.bytes is.sized room named) before short;
    }

pub version_spelled : (pages : List ℕ) (written : Option Written) (newest : Directory) → IfSome written IsWritten → version_needs written newest ≤ length pages → length pages < 2 ^ 32
    → ((i : ℕ) → slice_index pages i < 2 ^ 32) → IfSome (new_version pages written newest).at (λ some. some.length < 2 ^ 64)
    → HaveSpellings written newest (new_version pages written newest).directory (new_version pages written newest).at
unfolding version_in
version_spelled pages None newest is le few each short = record { blob = tt; rules = λ dims before listed. tt }
version_spelled pages (Some written) newest is le few each short = some_spelled pages written newest is le (record { few = few; each = all_named pages each }) short

pub record_spelled : (catalog : Catalog) (catalogue : List ℕ) (newest : Directory) (change : Change) (written : Option Written) (pages : List ℕ) (version : NewVersion) (laid : Laid)
    → IfSome written IsWritten → length pages ≡ record_needs catalog newest change written → length pages < 2 ^ 32 → ((i : ℕ) → slice_index pages i < 2 ^ 32)
    → version ≡ new_version pages written newest → IfSome version.at (λ some. some.length < 2 ^ 64) → laid ≡ with_record catalog catalogue change version pages
    → HaveSpellings written newest laid.directory laid.at
unfolding record_needs
record_spelled catalog catalogue newest change written pages version laid is count few each made short e =
    let its = version_spelled pages written newest is (omega (arith, count)) few each (subst (λ (v : NewVersion). IfSome v.at (λ some. some.length < 2 ^ 64)) made short) in
    let mine : HaveSpellings written newest version.directory version.at = subst (λ (v : NewVersion). HaveSpellings written newest v.directory v.at) (sym made) its in
    subst (λ (l : Laid). HaveSpellings written newest l.directory l.at) (sym e) mine

pub base_spelled : (catalog : Catalog) (newest : Directory) (change : Change) (written : Option Written) (pages : List ℕ) (log : ℕ) (version : NewVersion) (laid : Laid)
    → IfSome written IsWritten → length pages ≡ base_needs catalog newest change written → length pages < 2 ^ 32 → ((i : ℕ) → slice_index pages i < 2 ^ 32)
    → version ≡ new_version pages written newest → IfSome version.at (λ some. some.length < 2 ^ 64) → laid ≡ with_base catalog change version pages log
    → HaveSpellings written newest laid.directory laid.at
unfolding base_needs
base_spelled catalog newest change written pages log version laid is count few each made short e =
    let its = version_spelled pages written newest is (omega (arith, count)) few each (subst (λ (v : NewVersion). IfSome v.at (λ some. some.length < 2 ^ 64)) made short) in
    let mine : HaveSpellings written newest version.directory version.at = subst (λ (v : NewVersion). HaveSpellings written newest v.directory v.at) (sym made) its in
    subst (λ (l : Laid). HaveSpellings written newest l.directory l.at) (sym e) mine
