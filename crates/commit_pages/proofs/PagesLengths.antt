-- How many bytes directories have, whichever pages their payloads lie in, and how many pages new versions take.
use Rattle.std.proofs.Common.{◌≡◌, ◌∙◌, IfSome, ℕ, suc, ◌+◌, ◌-◌, ◌≤◌, Bool, true, false, cond, List, [], ◌∷◌, ◌++◌, length, take, drop, map, Option, Some, None, refl, sym, ap, subst, arith}
use Rattle.std.specs.Int.{w32, w64, to_le_bytes}
use Rattle.std.specs.List.{AllByRecursion, AllZip, flat_map}
use Rattle.std.specs.declared.cmp.Ordering.{Ordering}
use Rattle.std.specs.declared.cmp.Ordering.TheVariants.{Less, Equal, Greater}
use Rattle.std.proofs.lemmas.List.{length-append, length-drop, length-take-le, length-replicate}
use Rattle.arrayvec.specs.ArrayVec.{ArrayVec}
use Rattle.array_rows.specs.Boxes.{by_pairs}
use Rattle.array_geom.specs.Geometry.{ChunkNumber}
use Rattle.array_geom.specs.Link.{number_order}
use Rattle.chunk_map.specs.declared.directory.DirEntry.{DirEntry}
use Rattle.chunk_map.specs.declared.directory.Directory.{Directory}
use Rattle.chunk_map.specs.Spelling.{spelling as directory_spelling, spell_entry}
use Rattle.page_chain.specs.Pages.{page_size, pages_for}
use Rattle.commit_pages.specs.Lengths.{AreBothAlike}
use Rattle.page_file.specs.declared.commits.placed.Placed.{Placed}
use Rattle.page_file.specs.Commits.{pages_of, IsBlobSized}
use Rattle.commit_pages.specs.declared.pages.written.Written.{Written}
use Rattle.commit_pages.specs.Versions.{blob_count, placed, all_placed, settled, entry_of, entries_of, put_by, put_entry, put_entries, directory_of, directory_bytes, version_in, new_version, version_needs, draft_at, IsWritten}
use Rattle.commit_pages.proofs.Blobs.{take_both, pages_placed, sized_placed, pages_more, sized_more}

-- ---- entries that are alike

pub record AreAlikeEntries (a b : DirEntry) : Type 0 where
  pub numbers : a.at.items ≡ b.at.items
  pub pages : length a.pages ≡ length b.pages

both_append : (a b c d : List ℕ) → length a ≡ length b → length c ≡ length d → length (a ++ c) ≡ length (b ++ d)
both_append a b c d e f =
    let p : length (a ++ c) ≡ length a + length c = length-append a c in
    let q : length (b ++ d) ≡ length b + length d = length-append b d in
    omega (arith, p, q, e, f)

pages_bytes : (ps qs : List ℕ) → length ps ≡ length qs → length (flat_map (to_le_bytes w32) ps) ≡ length (flat_map (to_le_bytes w32) qs)
pages_bytes [] [] e = refl
pages_bytes [] (q ∷ qs) e = absurd (omega (arith, e))
pages_bytes (p ∷ ps) [] e = absurd (omega (arith, e))
pages_bytes (p ∷ ps) (q ∷ qs) e =
    both_append (to_le_bytes w32 p) (to_le_bytes w32 q) (flat_map (to_le_bytes w32) ps) (flat_map (to_le_bytes w32) qs) refl (pages_bytes ps qs (omega (arith, e)))

entry_bytes : (a b : DirEntry) → AreAlikeEntries a b → length (spell_entry a) ≡ length (spell_entry b)
unfolding spell_entry
entry_bytes a b alike =
    let numbers = flat_map (to_le_bytes w64) a.at.items in
    let numbers' = flat_map (to_le_bytes w64) b.at.items in
    let pages = to_le_bytes w32 (length a.pages) ++ flat_map (to_le_bytes w32) a.pages in
    let pages' = to_le_bytes w32 (length b.pages) ++ flat_map (to_le_bytes w32) b.pages in
    both_append numbers numbers' (to_le_bytes w64 a.length ++ (to_le_bytes w64 a.birth ++ pages)) (to_le_bytes w64 b.length ++ (to_le_bytes w64 b.birth ++ pages'))
    (ap (λ (k : ChunkNumber). length (flat_map (to_le_bytes w64) k)) alike.numbers)
    (both_append (to_le_bytes w64 a.length) (to_le_bytes w64 b.length) (to_le_bytes w64 a.birth ++ pages) (to_le_bytes w64 b.birth ++ pages') refl
    (both_append (to_le_bytes w64 a.birth) (to_le_bytes w64 b.birth) pages pages' refl
    (both_append (to_le_bytes w32 (length a.pages)) (to_le_bytes w32 (length b.pages)) (flat_map (to_le_bytes w32) a.pages) (flat_map (to_le_bytes w32) b.pages) refl
    (pages_bytes a.pages b.pages alike.pages))))

as_many : (xs ys : List DirEntry) → AllZip AreAlikeEntries xs ys → length xs ≡ length ys
as_many [] [] all = refl
as_many [] (y ∷ ys) all = absurd all
as_many (x ∷ xs) [] all = absurd all
as_many (x ∷ xs) (y ∷ ys) all = ap suc (as_many xs ys all.1)

entries_bytes : (xs ys : List DirEntry) → AllZip AreAlikeEntries xs ys → length (flat_map spell_entry xs) ≡ length (flat_map spell_entry ys)
entries_bytes [] [] all = refl
entries_bytes [] (y ∷ ys) all = absurd all
entries_bytes (x ∷ xs) [] all = absurd all
entries_bytes (x ∷ xs) (y ∷ ys) all =
    both_append (spell_entry x) (spell_entry y) (flat_map spell_entry xs) (flat_map spell_entry ys) (entry_bytes x y all.0) (entries_bytes xs ys all.1)

spelled_alike : (a b : Directory) → AllZip AreAlikeEntries a.entries b.entries → length (directory_spelling a) ≡ length (directory_spelling b)
unfolding directory_spelling
spelled_alike a b all =
    both_append (to_le_bytes w64 (length a.entries)) (to_le_bytes w64 (length b.entries)) (flat_map spell_entry a.entries) (flat_map spell_entry b.entries) refl
    (entries_bytes a.entries b.entries all)

-- ---- they stay alike where they are put into a directory

alike_itself : (es : List DirEntry) → AllZip AreAlikeEntries es es
alike_itself [] = tt
alike_itself (e ∷ es) = (record { numbers = refl; pages = refl }, alike_itself es)

put_alike : (x y : DirEntry) (xs ys : List DirEntry) → AreAlikeEntries x y → AllZip AreAlikeEntries xs ys → AllZip AreAlikeEntries (put_entry x xs) (put_entry y ys)
put_alike x y [] [] a all = (a, tt)
put_alike x y [] (f ∷ ys) a all = absurd all
put_alike x y (e ∷ xs) [] a all = absurd all
put_alike x y (e ∷ xs) (f ∷ ys) a all =
    let same : number_order x.at.items e.at.items ≡ number_order y.at.items f.at.items =
    ap (λ (k : ChunkNumber). number_order k e.at.items) a.numbers ∙ ap (number_order y.at.items) all.0.numbers in
    subst (λ (t : Ordering). AllZip AreAlikeEntries (put_by t x e xs (put_entry x xs)) (put_by (number_order y.at.items f.at.items) y f ys (put_entry y ys))) (sym same)
    (by_order (number_order y.at.items f.at.items) (put_alike x y xs ys a all.1))
  where
    by_order : (t : Ordering) → AllZip AreAlikeEntries (put_entry x xs) (put_entry y ys) → AllZip AreAlikeEntries (put_by t x e xs (put_entry x xs)) (put_by t y f ys (put_entry y ys))
    by_order Less later = (a, all)
    by_order Equal later = (a, all.1)
    by_order Greater later = (all.0, later)

all_put_alike : (xs ys old : List DirEntry) → AllZip AreAlikeEntries xs ys → AllZip AreAlikeEntries (put_entries xs old) (put_entries ys old)
all_put_alike [] [] old all = alike_itself old
all_put_alike [] (y ∷ ys) old all = absurd all
all_put_alike (x ∷ xs) [] old all = absurd all
all_put_alike (x ∷ xs) (y ∷ ys) old all = put_alike x y (put_entries xs old) (put_entries ys old) all.0 (all_put_alike xs ys old all.1)

-- ---- the entries of payloads, whichever pages these have

pairs_alike : (birth : ℕ) (ns : List (ArrayVec ℕ)) (xs ys : List Placed) → AllByRecursion IsBlobSized xs → AllByRecursion IsBlobSized ys → map (λ one. one.bytes) xs ≡ map (λ one. one.bytes) ys
    → AllZip AreAlikeEntries (by_pairs (entry_of birth) ns xs) (by_pairs (entry_of birth) ns ys)
pairs_alike birth [] xs ys p q e = tt
pairs_alike birth (n ∷ ns) [] [] p q e = tt
pairs_alike birth (n ∷ ns) [] (b ∷ ys) p q e = absurd cc
pairs_alike birth (n ∷ ns) (a ∷ xs) [] p q e = absurd cc
pairs_alike birth (n ∷ ns) (a ∷ xs) (b ∷ ys) p q e =
    let first : a.bytes ≡ b.bytes = cc in
    let later : map (λ (one : Placed). one.bytes) xs ≡ map (λ (one : Placed). one.bytes) ys = cc in
    (record { numbers = refl; pages = p.0 ∙ ap blob_count first ∙ sym q.0 }, pairs_alike birth ns xs ys p.1 q.1 later)

bytes_placed : (pages : List ℕ) (blobs : List Placed) → map (λ one. one.bytes) (all_placed pages blobs) ≡ map (λ one. one.bytes) blobs
bytes_placed pages [] = refl
bytes_placed pages (one ∷ more) = ap (λ (bs : List (List ℕ)). one.bytes ∷ bs) (bytes_placed (drop (blob_count one.bytes) pages) more)

directories_alike : (a b : Written) (newest : Directory) → a.whole ≡ b.whole → AllZip AreAlikeEntries (entries_of a) (entries_of b)
    → AllZip AreAlikeEntries (directory_of a newest).entries (directory_of b newest).entries
unfolding directory_of
directories_alike a b newest e all =
    subst (λ (t : Bool). AllZip AreAlikeEntries (cond t (entries_of a) (put_entries (entries_of a) newest.entries)) (cond b.whole (entries_of b) (put_entries (entries_of b) newest.entries))) (sym e)
    (by_test b.whole)
  where
    by_test : (t : Bool) → AllZip AreAlikeEntries (cond t (entries_of a) (put_entries (entries_of a) newest.entries)) (cond t (entries_of b) (put_entries (entries_of b) newest.entries))
    by_test true = all
    by_test false = all_put_alike (entries_of a) (entries_of b) newest.entries all

-- a directory has as many bytes before its payloads' pages are known
pub settled_bytes : (pages : List ℕ) (written : Written) (newest : Directory) → IsWritten written → length (pages_of written.payloads) ≤ length pages
    → length (directory_bytes (settled pages written) newest) ≡ length (directory_bytes written newest)
settled_bytes pages written newest is le =
    spelled_alike (directory_of (settled pages written) newest) (directory_of written newest)
    (directories_alike (settled pages written) written newest refl
    (pairs_alike written.birth written.numbers (all_placed pages written.payloads) written.payloads (sized_placed pages written.payloads is.sized le) is.sized (bytes_placed pages written.payloads)))

-- ---- new versions

-- a version takes the first pages, as many as it needs, and its directory is like the one before its pages are known
pub record Takes (pages : List ℕ) (written : Option Written) (newest : Directory) : Type 0 where
  pub sized : AllByRecursion IsBlobSized (new_version pages written newest).blobs
  pub first : pages_of (new_version pages written newest).blobs ≡ take (version_needs written newest) pages
  pub alike : AreBothAlike (new_version pages written newest).at (draft_at written newest)

nothing : (pages : List ℕ) → [] ≡ take 0 pages
nothing [] = refl
nothing (p ∷ ps) = refl

some_takes : (pages : List ℕ) (written : Written) (newest : Directory) → IsWritten written → version_needs (Some written) newest ≤ length pages → Takes pages (Some written) newest
unfolding version_in
some_takes pages written newest is le =
    let m = length (pages_of written.payloads) in
    let bytes = directory_bytes (settled pages written) newest in
    let n = blob_count bytes in
    let payloads_fit : m ≤ length pages = omega (arith, le) in
    let as_long : length bytes ≡ length (directory_bytes written newest) = settled_bytes pages written newest is payloads_fit in
    let count : n ≡ blob_count (directory_bytes written newest) = ap (pages_for page_size) as_long in
    let left : length (drop m pages) ≡ length pages - m = length-drop m pages in
    let fits : n ≤ length (drop m pages) = omega (arith, le, count, left) in
    let own = placed (drop m pages) bytes in
    let own_is : IsBlobSized own = length-take-le n (drop m pages) fits in
    record {
      sized = sized_more (all_placed pages written.payloads) own (sized_placed pages written.payloads is.sized payloads_fit) own_is;
      first = pages_more (all_placed pages written.payloads) own
          ∙ ap (λ (ps : List ℕ). ps ++ take n (drop m pages)) (pages_placed pages written.payloads is.sized payloads_fit)
          ∙ take_both m n pages payloads_fit
          ∙ ap (λ (k : ℕ). take (m + k) pages) count;
      alike = record { bytes = as_long; pages = own_is ∙ count ∙ sym (length-replicate (blob_count (directory_bytes written newest)) 1) };
    }

pub takes : (pages : List ℕ) (written : Option Written) (newest : Directory) → IfSome written IsWritten → version_needs written newest ≤ length pages → Takes pages written newest
takes pages None newest is le = record { sized = tt; first = nothing pages; alike = tt }
takes pages (Some written) newest is le = some_takes pages written newest is le
