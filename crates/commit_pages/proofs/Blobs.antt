-- Blobs that lie in pages one after the other.
use Rattle.std.proofs.Common.{◌≡◌, ◌∙◌, ℕ, suc, ◌+◌, ◌-◌, ◌≤◌, List, [], ◌∷◌, ◌++◌, length, take, drop, refl, sym, ap, subst, arith}
use Rattle.std.specs.List.{AllByRecursion}
use Rattle.std.proofs.lemmas.List.{length-append, length-drop, length-take-le, length-replicate, take-append-drop, append-nil}
use Rattle.std.proofs.Math.Seq.{take-append-add, take-length}
use Rattle.page_file.specs.declared.commits.placed.Placed.{Placed}
use Rattle.page_file.specs.Commits.{pages_of, IsBlobSized}
use Rattle.commit_pages.specs.Versions.{blob_count, all_placed, drafted}

-- the first pages, and then the first of those behind them
pub take_both : (m n : ℕ) (pages : List ℕ) → m ≤ length pages → take m pages ++ take n (drop m pages) ≡ take (m + n) pages
take_both m n pages le =
    let split : take m pages ++ drop m pages ≡ pages = take-append-drop m pages in
    let len : length (take m pages) ≡ m = length-take-le m pages le in
    sym (take-append-add (take m pages) (drop m pages) n)
    ∙ ap (λ (xs : List ℕ). take (length (take m pages) + n) xs) split
    ∙ ap (λ (k : ℕ). take (k + n) pages) len

pub length_placed : (pages : List ℕ) (blobs : List Placed) → length (all_placed pages blobs) ≡ length blobs
length_placed pages [] = refl
length_placed pages (one ∷ more) = ap suc (length_placed (drop (blob_count one.bytes) pages) more)

-- ---- blobs in pages of which there are enough

pub both_fit : (one : Placed) (more : List Placed) (pages : List ℕ) → IsBlobSized one → length (one.pages ++ pages_of more) ≤ length pages
    → (blob_count one.bytes ≤ length pages) × (length (pages_of more) ≤ length (drop (blob_count one.bytes) pages))
both_fit one more pages sized le =
    let n = blob_count one.bytes in
    let sum : length (one.pages ++ pages_of more) ≡ length one.pages + length (pages_of more) = length-append one.pages (pages_of more) in
    let left : length (drop n pages) ≡ length pages - n = length-drop n pages in
    let its : length one.pages ≡ n = sized in
    (omega (arith, sum, le, its), omega (arith, sum, le, its, left))

pub pages_placed : (pages : List ℕ) (blobs : List Placed) → AllByRecursion IsBlobSized blobs → length (pages_of blobs) ≤ length pages
    → pages_of (all_placed pages blobs) ≡ take (length (pages_of blobs)) pages
pages_placed pages [] sized le = none pages
  where
    none : (ps : List ℕ) → [] ≡ take 0 ps
    none [] = refl
    none (p ∷ ps) = refl
pages_placed pages (one ∷ more) sized le =
    let n = blob_count one.bytes in
    let m = length (pages_of more) in
    let fit = both_fit one more pages sized.0 le in
    let sum : length (one.pages ++ pages_of more) ≡ n + m = length-append one.pages (pages_of more) ∙ ap (λ (k : ℕ). k + m) sized.0 in
    ap (λ (ps : List ℕ). take n pages ++ ps) (pages_placed (drop n pages) more sized.1 fit.1)
    ∙ take_both n m pages fit.0
    ∙ ap (λ (k : ℕ). take k pages) (sym sum)

pub sized_placed : (pages : List ℕ) (blobs : List Placed) → AllByRecursion IsBlobSized blobs → length (pages_of blobs) ≤ length pages → AllByRecursion IsBlobSized (all_placed pages blobs)
sized_placed pages [] sized le = tt
sized_placed pages (one ∷ more) sized le =
    let n = blob_count one.bytes in
    let fit = both_fit one more pages sized.0 le in
    (length-take-le n pages fit.0, sized_placed (drop n pages) more sized.1 fit.1)

-- ---- blobs before their pages are known

pub drafted_is_sized : (bytes : List ℕ) → IsBlobSized (drafted bytes)
drafted_is_sized bytes = length-replicate (blob_count bytes) 1

-- ---- one more blob

pub pages_more : (blobs : List Placed) (one : Placed) → pages_of (blobs ++ one ∷ []) ≡ pages_of blobs ++ one.pages
pages_more [] one = append-nil one.pages
pages_more (blob ∷ blobs) one = ap (λ (ps : List ℕ). blob.pages ++ ps) (pages_more blobs one) ∙ again blob.pages (pages_of blobs) one.pages
  where
    again : (a b c : List ℕ) → a ++ (b ++ c) ≡ (a ++ b) ++ c
    again [] b c = refl
    again (x ∷ a) b c = ap (λ (xs : List ℕ). x ∷ xs) (again a b c)

pub sized_more : (blobs : List Placed) (one : Placed) → AllByRecursion IsBlobSized blobs → IsBlobSized one → AllByRecursion IsBlobSized (blobs ++ one ∷ [])
sized_more [] one all its = (its, tt)
sized_more (blob ∷ blobs) one all its = (all.0, sized_more blobs one all.1 its)

-- ---- what is left of the pages

-- all pages from a place on
pub all_left : (m n : ℕ) (pages : List ℕ) → length pages ≡ m + n → take n (drop m pages) ≡ drop m pages
all_left m n pages e =
    let left : length (drop m pages) ≡ n = omega (arith, length-drop m pages, e) in
    subst (λ (k : ℕ). take k (drop m pages) ≡ drop m pages) left (take-length (drop m pages))
