-- The pages that a commit takes.
use Rattle.std.proofs.Common.{◌≡◌, ◌∙◌, ◌+◌, ◌<◌, ◌≤◌, ◌^◌, ℕ, zero, suc, Bool, false, cond, not, List, [], ◌∷◌, ◌++◌, length, refl, sym, ap, subst, arith}
use Rattle.std.specs.Prelude.{slice_index}
use Rattle.std.specs.List.{AllByRecursion, filter, flat_map}
use Rattle.std.proofs.lemmas.List.{append_assoc, length-append}
use Rattle.arrayvec.specs.ArrayVec.{ArrayVec}
use Rattle.array_rows.specs.Boxes.{by_pairs}
use Rattle.page_chain.specs.Places.{IsNone}
use Rattle.page_chain.specs.Pages.{page_size, pages_for}
use Rattle.page_chain.specs.Links.{AreFree}
use Rattle.chunk_map.specs.declared.directory.DirEntry.{DirEntry}
use Rattle.file_meaning.specs.Opening.{is_seen}
use Rattle.file_meaning.specs.NextLaws.{FreePagesTurn}
use Rattle.page_file.specs.declared.commits.placed.Placed.{Placed}
use Rattle.page_file.specs.Commits.{pages_of, IsBlobSized}
use Rattle.commit_pages.specs.Versions.{entry_of}

-- ---- free pages

-- payloads, their directory and a chain, behind other pages, are free in the order of chain, directory and payloads
pub in_order : FreePagesTurn → (taken before payloads own chain : List ℕ) → AreFree taken (before ++ (payloads ++ (own ++ chain))) → AreFree taken (before ++ (chain ++ (own ++ payloads)))
in_order turn taken before payloads own chain free =
    let first : AreFree taken ((before ++ payloads) ++ (own ++ chain)) = subst (AreFree taken) (sym (append_assoc before payloads (own ++ chain))) free in
    let second : AreFree taken (before ++ (payloads ++ (chain ++ own))) = subst (AreFree taken) (append_assoc before payloads (chain ++ own)) (turn taken (before ++ payloads) own chain first) in
    let third : AreFree taken (before ++ ((chain ++ own) ++ payloads)) = turn taken before payloads (chain ++ own) second in
    subst (λ (ps : List ℕ). AreFree taken (before ++ ps)) (append_assoc chain own payloads) third

pub none_later : (q : ℕ) (pages : List ℕ) (p : ℕ) → IsNone (q ∷ pages) p → IsNone pages p
none_later q pages p none k low = none (suc k) (omega arith)

-- what was found is none of the free pages
pub found_none : (found pages : List ℕ) → ((k : ℕ) → k < length pages → IsNone found (slice_index pages k)) → AllByRecursion (IsNone pages) found
found_none [] pages apart = tt
found_none (q ∷ found) pages apart = ((λ k low same. apart k low 0 (omega arith) (sym same)), found_none found pages (λ k low. none_later q found (slice_index pages k) (apart k low)))

pub below_all : (pages : List ℕ) → ((k : ℕ) → k < length pages → slice_index pages k < 2 ^ 32) → (k : ℕ) → slice_index pages k < 2 ^ 32
below_all [] each k = omega arith
below_all (p ∷ pages) each zero = each 0 (omega arith)
below_all (p ∷ pages) each (suc k) = below_all pages (λ i low. each (suc i) (omega arith)) k

-- ---- bytes in few pages

pub few_bytes : (n m : ℕ) → pages_for page_size n ≤ m → m < 2 ^ 32 → n < 2 ^ 64
unfolding page_size
few_bytes n m le few = omega arith

pub all_few : (blobs : List Placed) (m : ℕ) → AllByRecursion IsBlobSized blobs → length (pages_of blobs) ≤ m → m < 2 ^ 32 → AllByRecursion (λ one. length one.bytes < 2 ^ 64) blobs
all_few [] m sized le few = tt
all_few (one ∷ more) m sized le few =
    let sum : length (one.pages ++ pages_of more) ≡ length one.pages + length (pages_of more) = length-append one.pages (pages_of more) in
    let its : length one.pages ≡ pages_for page_size (length one.bytes) = sized.0 in
    (few_bytes (length one.bytes) m (omega (arith, sum, its, le)) few, all_few more m sized.1 (omega (arith, sum, le)) few)

-- ---- the entries that are written

pub pairs_pages : (birth : ℕ) (ns : List (ArrayVec ℕ)) (ps : List Placed) → length ps ≡ length ns → flat_map (λ (e : DirEntry). e.pages) (by_pairs (entry_of birth) ns ps) ≡ pages_of ps
pairs_pages birth [] [] e = refl
pairs_pages birth [] (p ∷ ps) e = absurd (omega (arith, e))
pairs_pages birth (n ∷ ns) [] e = absurd (omega (arith, e))
pairs_pages birth (n ∷ ns) (p ∷ ps) e = ap (λ (qs : List ℕ). p.pages ++ qs) (pairs_pages birth ns ps (omega (arith, e)))

pub pairs_born : (P : DirEntry → Type 0) (birth : ℕ) → ((e : DirEntry) → e.birth ≡ birth → P e) → (ns : List (ArrayVec ℕ)) (ps : List Placed) → AllByRecursion P (by_pairs (entry_of birth) ns ps)
pairs_born P birth each [] ps = tt
pairs_born P birth each (n ∷ ns) [] = tt
pairs_born P birth each (n ∷ ns) (p ∷ ps) = (each (entry_of birth n p) refl, pairs_born P birth each ns ps)

-- entries none of which was seen
pub all_unseen : (seen entries : List DirEntry) → AllByRecursion (λ e. is_seen seen e ≡ false) entries → filter (λ e. not (is_seen seen e)) entries ≡ entries
all_unseen seen [] all = refl
all_unseen seen (e ∷ entries) all =
    ap (λ (b : Bool). cond (not b) (e ∷ filter (λ x. not (is_seen seen x)) entries) (filter (λ x. not (is_seen seen x)) entries)) all.0
    ∙ ap (λ (es : List DirEntry). e ∷ es) (all_unseen seen entries all.1)

-- ---- pages before others

index_front : (xs ys : List ℕ) (k : ℕ) → k < length xs → slice_index (xs ++ ys) k ≡ slice_index xs k
index_front [] ys k low = absurd (omega (arith, low))
index_front (x ∷ xs) ys zero low = refl
index_front (x ∷ xs) ys (suc k) low = index_front xs ys k (omega (arith, low))

pub front_low : (xs ys : List ℕ) → ((k : ℕ) → k < length (xs ++ ys) → slice_index (xs ++ ys) k < 2 ^ 32) → (k : ℕ) → k < length xs → slice_index xs k < 2 ^ 32
front_low xs ys each k low =
    let sum : length (xs ++ ys) ≡ length xs + length ys = length-append xs ys in
    subst (λ (p : ℕ). p < 4294967296) (index_front xs ys k low) (each k (omega (arith, sum, low)))
