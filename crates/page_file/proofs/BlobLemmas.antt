-- Blobs that are written one after the other.
use Rattle.std.proofs.Common.{◌≡◌, ◌<◌, ◌≤◌, ℕ, zero, suc, ◌+◌, ◌*◌, List, [], ◌∷◌, ◌++◌, length, take, drop, slice_index, get_or, sym, ◌∙◌, ap, subst, arith, length-append}
use Rattle.std.proofs.lemmas.List.{get_or_append_left, get_or-append-add, take_all}
use Rattle.std.specs.List.{AllByRecursion}
use Rattle.page_chain.specs.Places.{IsNone, KeepsPages}
use Rattle.page_chain.specs.Pages.{page_size, AreDistinct, HoldsBlob}
use Rattle.page_chain.proofs.Kept.{size_is, page_kept}
use Rattle.page_chain.proofs.WriteLemmas.{length-piece}
use Rattle.page_file.proofs.Kept.{chain_on}
use Rattle.page_file.specs.Written.{MayWrite}
use Rattle.page_chain.specs.declared.slots.slots.slots.Slots.{Slots}
use Rattle.page_chain.specs.declared.slots.layout.roots.OpenRoot.{OpenRoot}
use Rattle.page_file.specs.Commits.{pages_of, HoldsBlobs, HoldsAll, IsBlobSized}
use Rattle.page_file.specs.declared.commits.placed.Placed.{Placed}

pub first_of : (first second : List ℕ) (number : ℕ) → IsNone (first ++ second) number → IsNone first number
first_of first second number none k low is = none k (omega (arith, length-append first second, low)) (get_or_append_left first second 0 k low ∙ is)

pub second_of : (first second : List ℕ) (number : ℕ) → IsNone (first ++ second) number → IsNone second number
second_of first second number none k low is = none (length first + k) (omega (arith, length-append first second, low)) (get_or-append-add first second k 0 ∙ is)

pub distinct_first : (a b : List ℕ) → AreDistinct (a ++ b) → AreDistinct a
distinct_first a b apart i j less low = λ same.
    apart i j less (omega (arith, length-append a b, low)) (get_or_append_left a b 0 i (omega (arith, less, low)) ∙ same ∙ sym (get_or_append_left a b 0 j low))

pub distinct_second : (a b : List ℕ) → AreDistinct (a ++ b) → AreDistinct b
distinct_second a b apart i j less low = λ same.
    apart (length a + i) (length a + j) (omega (arith, less)) (omega (arith, length-append a b, low)) (get_or-append-add a b i 0 ∙ same ∙ sym (get_or-append-add a b j 0))

-- no page of the first is one of the second
pub apart_of : (a b : List ℕ) → AreDistinct (a ++ b) → (k : ℕ) → k < length a → IsNone b (slice_index a k)
apart_of a b apart k low j there is =
    apart k (length a + j) (omega (arith, low)) (omega (arith, length-append a b, there)) (get_or_append_left a b 0 k low ∙ sym is ∙ sym (get_or-append-add a b j 0))

pub part_of : (blobs : List Placed) (i : ℕ) (b : Placed) → i < length blobs → b ≡ get_or blobs i b → (number : ℕ) → IsNone (pages_of blobs) number → IsNone b.pages number
part_of [] i b low is number none = absurd (omega (arith, low))
part_of (x ∷ xs) zero b low is number none = subst (λ (y : Placed). IsNone y.pages number) (sym is) (first_of x.pages (pages_of xs) number none)
part_of (x ∷ xs) (suc i) b low is number none = part_of xs i b (omega (arith, low)) is number (second_of x.pages (pages_of xs) number none)

distinct_part : (blobs : List Placed) (i : ℕ) (b : Placed) → i < length blobs → b ≡ get_or blobs i b → AreDistinct (pages_of blobs) → AreDistinct b.pages
distinct_part [] i b low is apart = absurd (omega (arith, low))
distinct_part (x ∷ xs) zero b low is apart = subst (λ (y : Placed). AreDistinct y.pages) (sym is) (distinct_first x.pages (pages_of xs) apart)
distinct_part (x ∷ xs) (suc i) b low is apart = distinct_part xs i b (omega (arith, low)) is (distinct_second x.pages (pages_of xs) apart)

pub sized_part : (blobs : List Placed) (i : ℕ) (b : Placed) → i < length blobs → b ≡ get_or blobs i b → AllByRecursion IsBlobSized blobs → IsBlobSized b
sized_part [] i b low is sized = absurd (omega (arith, low))
sized_part (x ∷ xs) zero b low is sized = subst IsBlobSized (sym is) sized.0
sized_part (x ∷ xs) (suc i) b low is sized = sized_part xs i b (omega (arith, low)) is sized.1

-- a blob of the list may be written where all of them may be
pub may_part : (blobs : List Placed) (i : ℕ) (b : Placed) (slots now : Slots) → i < length blobs → b ≡ get_or blobs i b → now.current ≡ slots.current → MayWrite (pages_of blobs) slots → MayWrite b.pages now
may_part blobs i b slots now low is current may = record {
  distinct = distinct_part blobs i b low is may.distinct;
  apart = part_of blobs i b low is 0 may.apart;
  log = subst (λ (r : OpenRoot). IsNone b.pages r.root.log) (sym current) (part_of blobs i b low is slots.current.root.log may.log);
}

-- a blob stands where none of its pages was written
blob_on : (written : List ℕ) (one : Placed) (x y : List ℕ) → KeepsPages written x y → ((k : ℕ) → k < length one.pages → IsNone written (slice_index one.pages k)) → HoldsBlob page_size x one.pages one.bytes
    → HoldsBlob page_size y one.pages one.bytes
blob_on written one x y keeps none holds k low =
    page_kept written page_size (slice_index one.pages k) x y size_is keeps (none k low) (ap length (holds k low) ∙ length-piece page_size (drop (k * page_size) one.bytes)) ∙ holds k low

-- one blob more
holds_next : (blobs : List Placed) (i : ℕ) (b : Placed) (x y : List ℕ) → i < length blobs → b ≡ get_or blobs i b → AreDistinct (pages_of blobs) → KeepsPages b.pages x y → HoldsBlob page_size y b.pages b.bytes
    → HoldsBlobs x (take i blobs) → HoldsBlobs y (take (suc i) blobs)
holds_next [] i b x y low is apart keeps new old = absurd (omega (arith, low))
holds_next (p ∷ ps) zero b x y low is apart keeps new old = (subst (λ (q : Placed). HoldsBlob page_size y q.pages q.bytes) is new, tt)
holds_next (p ∷ ps) (suc i) b x y low is apart keeps new old = (
  blob_on b.pages p x y keeps (λ k within. part_of ps i b (omega (arith, low)) is (slice_index p.pages k) (apart_of p.pages (pages_of ps) apart k within)) old.0,
  holds_next ps i b x y (omega (arith, low)) is (distinct_second p.pages (pages_of ps) apart) keeps new old.1,
)

next_is : (i : ℕ) → suc i ≡ i + 1
next_is i = omega arith

pub holds_more : (blobs : List Placed) (i : ℕ) (b : Placed) (x y : List ℕ) → i < length blobs → b ≡ get_or blobs i b → AreDistinct (pages_of blobs) → KeepsPages b.pages x y → HoldsBlob page_size y b.pages b.bytes
    → HoldsBlobs x (take i blobs) → HoldsBlobs y (take (i + 1) blobs)
holds_more blobs i b x y low is apart keeps new old = subst (λ (n : ℕ). HoldsBlobs y (take n blobs)) (next_is i) (holds_next blobs i b x y low is apart keeps new old)

pub holds_whole : (blobs : List Placed) (i : ℕ) (x : List ℕ) → length blobs ≤ i → HoldsBlobs x (take i blobs) → HoldsBlobs x blobs
holds_whole blobs i x end holds = subst (HoldsBlobs x) (take_all i blobs end) holds

-- blobs stand where none of their pages was written
pub blobs_on : (blobs : List Placed) (written : List ℕ) (x y : List ℕ) → KeepsPages written x y → ((k : ℕ) → k < length (pages_of blobs) → IsNone written (slice_index (pages_of blobs) k)) → HoldsBlobs x blobs → HoldsBlobs y blobs
blobs_on [] written x y keeps none holds = tt
blobs_on (p ∷ ps) written x y keeps none holds = (
  blob_on written p x y keeps (λ k low. subst (IsNone written) (get_or_append_left p.pages (pages_of ps) 0 k low) (none k (omega (arith, low, length-append p.pages (pages_of ps))))) holds.0,
  blobs_on ps written x y keeps (λ k low. subst (IsNone written) (get_or-append-add p.pages (pages_of ps) k 0) (none (length p.pages + k) (omega (arith, low, length-append p.pages (pages_of ps))))) holds.1,
)

one_apart : (page : ℕ) (pages : List ℕ) → IsNone pages page → (k : ℕ) → k < length pages → IsNone (page ∷ []) (slice_index pages k)
one_apart page pages none k low zero there = λ same. none k low (sym same)
one_apart page pages none k low (suc j) there = absurd (omega (arith, there))

-- all stand where one page that is none of theirs was written
pub all_on : (page : ℕ) (blobs : List Placed) (chain : Placed) (x y : List ℕ) → IsNone (pages_of blobs ++ chain.pages) page → KeepsPages (page ∷ []) x y → HoldsAll x blobs chain → HoldsAll y blobs chain
all_on page blobs chain x y none keeps holds = (
  blobs_on blobs (page ∷ []) x y keeps (one_apart page (pages_of blobs) (first_of (pages_of blobs) chain.pages page none)) holds.0,
  chain_on (page ∷ []) chain.pages chain.bytes x y keeps (one_apart page chain.pages (second_of (pages_of blobs) chain.pages page none)) holds.1,
)

pub may_first : (a b : List ℕ) (slots : Slots) → MayWrite (a ++ b) slots → MayWrite a slots
may_first a b slots may = record {
  distinct = distinct_first a b may.distinct;
  apart = first_of a b 0 may.apart;
  log = first_of a b slots.current.root.log may.log;
}

pub may_second : (a b : List ℕ) (slots now : Slots) → now.current ≡ slots.current → MayWrite (a ++ b) slots → MayWrite b now
may_second a b slots now current may = record {
  distinct = distinct_second a b may.distinct;
  apart = second_of a b 0 may.apart;
  log = subst (λ (r : OpenRoot). IsNone b r.root.log) (sym current) (second_of a b slots.current.root.log may.log);
}
