-- The pages that a commit tells are given ones, or such as it may share.
use Rattle.std.proofs.Common.{◌≡◌, ℕ, Bool, true, false, List, [], ◌∷◌, ◌++◌, drop, length, Option, Some, None, refl, sym, subst}
use Rattle.std.specs.Prelude.{nat_eq}
use Rattle.std.specs.List.{AllByRecursion, flat_map}
use Rattle.std.specs.declared.cmp.Ordering.{Ordering}
use Rattle.std.specs.declared.cmp.Ordering.TheVariants.{Less, Equal, Greater}
use Rattle.std.proofs.lemmas.Bool.{eq-eqb, or_left, or_right}
use Rattle.arrayvec.specs.ArrayVec.{ArrayVec}
use Rattle.array_rows.specs.Boxes.{by_pairs}
use Rattle.array_geom.specs.Link.{number_order}
use Rattle.chunk_map.specs.declared.directory.DirEntry.{DirEntry}
use Rattle.chunk_map.specs.declared.directory.Directory.{Directory}
use Rattle.version_reaper.specs.PageSets.{holds}
use Rattle.file_meaning.proofs.Parts.{front_all, rest_all}
use Rattle.file_meaning.proofs.Apart.{both_all}
use Rattle.page_file.specs.declared.commits.placed.Placed.{Placed}
use Rattle.page_file.specs.Commits.{pages_of}
use Rattle.commit_pages.specs.declared.pages.written.Written.{Written}
use Rattle.commit_pages.specs.Versions.{placed, all_placed, settled, entry_of, entries_of, put_by, put_entry, put_entries, directory_of, directory_bytes, version_in, new_version}
use Rattle.commit_pages.proofs.Blobs.{pages_more}
use Rattle.commit_pages.proofs.Directories.{inserts_put, stores_list_theirs}

-- ---- pages of a list

held_in : (x : ℕ) (all pages : List ℕ) → AllByRecursion (λ page. holds all page ≡ true) pages → AllByRecursion (λ page. holds (x ∷ all) page ≡ true) pages
held_in x all [] held = tt
held_in x all (page ∷ pages) held = (or_right (nat_eq x page) (holds all page) held.0, held_in x all pages held.1)

pub all_own : (pages : List ℕ) → AllByRecursion (λ page. holds pages page ≡ true) pages
all_own [] = tt
all_own (x ∷ pages) = (or_left (nat_eq x x) (holds pages x) (eq-eqb x x refl), held_in x pages pages (all_own pages))

pub all_as : {A : Type 0} (P Q : A → Type 0) (xs : List A) → ((x : A) → P x → Q x) → AllByRecursion P xs → AllByRecursion Q xs
all_as P Q [] f all = tt
all_as P Q (x ∷ xs) f all = (f x all.0, all_as P Q xs f all.1)

-- ---- entries

abbrev AreOf : (ℕ → Type 0) → DirEntry → Type 0
AreOf P entry = AllByRecursion P entry.pages

keep_put : (P : DirEntry → Type 0) (x : DirEntry) (es : List DirEntry) → P x → AllByRecursion P es → AllByRecursion P (put_entry x es)
keep_put P x [] its all = (its, tt)
keep_put P x (e ∷ es) its all = by_order (number_order x.at.items e.at.items) (keep_put P x es its all.1)
  where
    by_order : (t : Ordering) → AllByRecursion P (put_entry x es) → AllByRecursion P (put_by t x e es (put_entry x es))
    by_order Less later = (its, all)
    by_order Equal later = (its, all.1)
    by_order Greater later = (all.0, later)

keep_all : (P : DirEntry → Type 0) (fresh old : List DirEntry) → AllByRecursion P fresh → AllByRecursion P old → AllByRecursion P (put_entries fresh old)
keep_all P [] old theirs its = its
keep_all P (x ∷ fresh) old theirs its = keep_put P x (put_entries fresh old) theirs.0 (keep_all P fresh old theirs.1 its)

pairs_of : (P : ℕ → Type 0) (birth : ℕ) (ns : List (ArrayVec ℕ)) (ps : List Placed) → AllByRecursion P (pages_of ps) → AllByRecursion (AreOf P) (by_pairs (entry_of birth) ns ps)
pairs_of P birth [] ps all = tt
pairs_of P birth (n ∷ ns) [] all = tt
pairs_of P birth (n ∷ ns) (p ∷ ps) all = (front_all P p.pages (pages_of ps) all, pairs_of P birth ns ps (rest_all P p.pages (pages_of ps) all))

-- of the directory's entries each is written, or one of the newest version's
directory_has : (P : ℕ → Type 0) (written : Written) (newest : Directory) → AllByRecursion P (pages_of written.payloads) → AllByRecursion (AreOf P) newest.entries
    → AllByRecursion (AreOf P) (directory_of written newest).entries
directory_has P written newest theirs its = by_test written.whole refl
  where
    fresh : AllByRecursion (AreOf P) (entries_of written)
    fresh = pairs_of P written.birth written.numbers written.payloads theirs

    by_test : (b : Bool) → written.whole ≡ b → AllByRecursion (AreOf P) (directory_of written newest).entries
    by_test true e = subst (AllByRecursion (AreOf P)) (sym (stores_list_theirs written newest e)) fresh
    by_test false e = subst (AllByRecursion (AreOf P)) (sym (inserts_put written newest e)) (keep_all (AreOf P) (entries_of written) newest.entries fresh its)

flat_has : (P : ℕ → Type 0) (es : List DirEntry) → AllByRecursion (AreOf P) es → AllByRecursion P (flat_map (λ entry. entry.pages) es)
flat_has P [] all = tt
flat_has P (e ∷ es) all = both_all P e.pages (flat_map (λ entry. entry.pages) es) all.0 (flat_has P es all.1)

-- ---- a version

some_has : (P : ℕ → Type 0) (pages : List ℕ) (written : Written) (newest : Directory) → AllByRecursion P (pages_of (new_version pages (Some written) newest).blobs) → AllByRecursion (AreOf P) newest.entries
    → AllByRecursion P (new_version pages (Some written) newest).pages
unfolding version_in
some_has P pages written newest given its =
    let here = settled pages written in
    let own = placed (drop (length (pages_of written.payloads)) pages) (directory_bytes here newest) in
    let payloads = all_placed pages written.payloads in
    let all : AllByRecursion P (pages_of payloads ++ own.pages) = subst (AllByRecursion P) (pages_more payloads own) given in
    let theirs = front_all P (pages_of payloads) own.pages all in
    both_all P own.pages (flat_map (λ entry. entry.pages) (directory_of here newest).entries) (rest_all P (pages_of payloads) own.pages all)
    (flat_has P (directory_of here newest).entries (directory_has P here newest theirs its))

-- what holds of the pages of a version's blobs, and of those of the newest version's entries, holds of all its pages
pub version_has : (P : ℕ → Type 0) (pages : List ℕ) (written : Option Written) (newest : Directory) → AllByRecursion P (pages_of (new_version pages written newest).blobs) → AllByRecursion (AreOf P) newest.entries
    → AllByRecursion P (new_version pages written newest).pages
version_has P pages None newest given its = tt
version_has P pages (Some written) newest given its = some_has P pages written newest given its
