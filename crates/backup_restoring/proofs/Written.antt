-- Writing one part behind another.
use Rattle.std.proofs.Common.{◌≡◌, ℕ, ◌+◌, ◌-◌, ◌*◌, ◌<◌, ◌≤◌, List, [], ◌∷◌, ◌++◌, length, slice_index, drop, sym, ◌∙◌, ap, subst, arith}
use Rattle.std.specs.Prelude.{sum_by}
use Rattle.std.proofs.lemmas.List.Sums.{sum_by_push}
use Rattle.afl_outside.specs.Disk.{DiskState, DiskGoesOn, Moment}
use Rattle.page_chain.specs.Places.{IsNone, KeepsPages}
use Rattle.page_chain.specs.Pages.{page_size, HoldsBlob}
use Rattle.page_chain.specs.declared.slots.slots.slots.Slots.{Slots}
use Rattle.page_chain.proofs.Kept.{size_is, keeps_self, keeps_on, keeps_more, page_kept}
use Rattle.page_chain.proofs.RunLemmas.{stands, goes, rose_on}
use Rattle.page_chain.proofs.WriteLemmas.{length-piece}
use Rattle.page_file.specs.Written.{MayWrite}
use Rattle.page_file.specs.Start.{first_root}
use Rattle.page_chain.specs.declared.slots.layout.roots.Root.{Root}
use Rattle.backup_format.specs.Pieces.{Piece, PiecesArray}
use Rattle.chunk_map.specs.Spelling.{spelling as directory_spelling}
use Rattle.backup_restoring.specs.Restores.{payload_pages, directory_pages, version_pages, array_pages}
use Rattle.backup_restoring.specs.Inner.Layout.{pages_from, laid, AllLaid, behind_payloads, directory_at, HoldsPayload, HoldsPayloads, HoldsPieces, HoldsArray, HoldsArrays}
use Rattle.backup_restoring.specs.Inner.Writing.{IsDiskFault, Fails, AwaitsBase, Writes, Lays}
use Rattle.backup_restoring.specs.declared.fault.RestoreFault.{RestoreFault}
use Rattle.backup_restoring.specs.declared.fault.RestoreFault.TheVariants as faults
use Rattle.backup_restoring.proofs.Laid.{length_from, index_from, none_below, distinct_from, laid_push, all_push, all_over}

-- ---- pages

-- a page that is none of all is none of a part
pub part_none : (first both from count n : ℕ) → first ≤ from → from + count ≤ first + both → IsNone (pages_from first both) n → IsNone (pages_from from count) n
part_none first both from count n low fits none k inside =
    let l = length_from from count in
    let m = length_from first both in
    let i : k < count = omega (arith, inside, l) in
    let at = index_from from count k i in
    let j : from + k - first < both = omega (arith, low, fits, i) in
    let same = index_from first both (from + k - first) j in
    λ is. none (from + k - first) (omega (arith, j, m)) (omega (arith, same, at, is, low))

-- pages behind those of a new file may be written
pub may_write : (first count : ℕ) (slots : Slots) → 3 ≤ first → slots.current.root ≡ first_root.root → MayWrite (pages_from first count) slots
may_write first count slots least root =
    let log : slots.current.root.log ≡ 2 = ap (λ (r : Root). r.log) root in
    record {
      distinct = distinct_from first count;
      apart = none_below first count 0 (omega (arith, least));
      log = none_below first count slots.current.root.log (omega (arith, least, log));
    }

-- ---- what stays where other pages are written

pub blob_stays : (written x y : List ℕ) (first count last : ℕ) (bytes : List ℕ) → KeepsPages written x y → ((p : ℕ) → first ≤ p → p < last → IsNone written p) → first + count ≤ last
    → HoldsBlob page_size x (pages_from first count) bytes → HoldsBlob page_size y (pages_from first count) bytes
blob_stays written x y first count last bytes keeps free fits held k low =
    let l = length_from first count in
    let i : k < count = omega (arith, low, l) in
    let at = index_from first count k i in
    page_kept written page_size (slice_index (pages_from first count) k) x y size_is keeps (free (slice_index (pages_from first count) k) (omega (arith, at)) (omega (arith, at, i, fits)))
    (ap (λ (xs : List ℕ). length xs) (held k low) ∙ length-piece page_size (drop (k * page_size) bytes))
    ∙ held k low

-- what holds of some from a page on stays where none of their pages is written
abbrev pub Stays : {A : Type 0} → (A → ℕ) → (List ℕ → ℕ → A → Type 0) → Type 0
Stays {A = A} size P = (written x y : List ℕ) (first last : ℕ) (a : A) → KeepsPages written x y → ((p : ℕ) → first ≤ p → p < last → IsNone written p) → first + size a ≤ last → P x first a → P y first a

pub all_stay : {A : Type 0} (size : A → ℕ) (P : List ℕ → ℕ → A → Type 0) → Stays size P → (written x y : List ℕ) (first last : ℕ) (xs : List A) → KeepsPages written x y
    → ((p : ℕ) → first ≤ p → p < last → IsNone written p) → first + sum_by size xs ≤ last → AllLaid size (P x) first xs → AllLaid size (P y) first xs
all_stay size P stays written x y first last xs keeps free fits all =
    all_over size (P x) (P y) first last xs fits (λ p a low high. stays written x y p last a keeps (λ q more less. free q (omega (arith, low, more)) less) high) all

pub payload_stays : Stays payload_pages HoldsPayload
payload_stays written x y first last piece keeps free fits held = blob_stays written x y first (payload_pages piece) last piece.payload keeps free fits held

pub payloads_stay : (written x y : List ℕ) (first last : ℕ) (pieces : List Piece) → KeepsPages written x y → ((p : ℕ) → first ≤ p → p < last → IsNone written p) → first + sum_by payload_pages pieces ≤ last
    → HoldsPayloads x first pieces → HoldsPayloads y first pieces
payloads_stay = all_stay payload_pages HoldsPayload payload_stays

pub pieces_stay : Stays version_pages HoldsPieces
pieces_stay written x y first last version keeps free fits held = (
  payloads_stay written x y first last version.pieces keeps free (omega (arith, fits)) held.0,
  blob_stays written x y (behind_payloads first version) (directory_pages version) last (directory_spelling (directory_at first version)) keeps (λ p low high. free p (omega (arith, low)) high) (omega (arith, fits)) held.1,
)

pub array_stays : Stays array_pages HoldsArray
array_stays written x y first last array keeps free fits held = all_stay version_pages HoldsPieces pieces_stay written x y first last array.versions keeps free fits held

pub arrays_stay : (written x y : List ℕ) (first last : ℕ) (arrays : List PiecesArray) → KeepsPages written x y → ((p : ℕ) → first ≤ p → p < last → IsNone written p) → first + sum_by array_pages arrays ≤ last
    → HoldsArrays x first arrays → HoldsArrays y first arrays
arrays_stay = all_stay array_pages HoldsArray array_stays

-- ---- one part, and another behind it

pub writes_on : (first a b both : ℕ) (P Q R : List ℕ → Type 0) (s0 s1 s2 : Slots) (m0 m1 m2 : Moment) → a + b ≡ both → Writes first a P s0 s1 m0 m1 → Writes (first + a) b Q s1 s2 m1 m2
    → ((x y : List ℕ) → KeepsPages (pages_from (first + a) b) x y → P x → Q y → R y) → Writes first both R s0 s2 m0 m2
writes_on first a b both P Q R s0 s1 s2 m0 m1 m2 is one two over = record {
  same = goes m0.state m1.state m2.state one.same two.same;
  awaits = two.awaits;
  known = λ seen known.
      let x = one.known seen known in
      let y = two.known x.0 x.1 in (
        y.0,
        y.1,
        keeps_on (pages_from first both) seen x.0 y.0 (keeps_more (pages_from first a) (pages_from first both) seen x.0 (λ n none. part_none first both first a n (omega arith) (omega (arith, is)) none) x.2)
            (keeps_more (pages_from (first + a) b) (pages_from first both) x.0 y.0 (λ n none. part_none first both (first + a) b n (omega arith) (omega (arith, is)) none) y.2),
        over x.0 y.0 y.2 x.3 y.3,
      );
}

pub writes_none : (first : ℕ) (P : List ℕ → Type 0) (slots : Slots) (m : Moment) → AwaitsBase slots → ((now : List ℕ) → P now) → Writes first 0 P slots slots m m
writes_none first P slots m awaits all = record { same = stands m.state; awaits = awaits; known = λ seen known. (seen, known, keeps_self [] seen, all seen) }

pub lays_none : {A B : Type 0} (size : A → ℕ) (place : ℕ → A → B) (P : List ℕ → ℕ → A → Type 0) (first : ℕ) (made : List B) (slots : Slots) (m : Moment) → AwaitsBase slots → made ≡ []
    → Lays size place P first [] first made slots slots m m
lays_none size place P first made slots m awaits none = record {
  next_is = omega arith;
  made_is = none;
  writes = writes_none first (λ now. AllLaid size (P now) first []) slots m awaits (λ now. tt);
}

-- one more of them
pub lays_more : {A B : Type 0} (size : A → ℕ) (place : ℕ → A → B) (P : List ℕ → ℕ → A → Type 0) → Stays size P → (first : ℕ) (xs all : List A) (a : A) (next later : ℕ) (made more : List B) (b : B)
    (s0 s1 s2 : Slots) (m0 m1 m2 : Moment) → all ≡ xs ++ a ∷ [] → Lays size place P first xs next made s0 s1 m0 m1 → b ≡ place next a → later ≡ next + size a → more ≡ made ++ b ∷ []
    → Writes next (size a) (λ now. P now next a) s1 s2 m1 m2 → Lays size place P first all later more s0 s2 m0 m2
lays_more {A = A} {B = B} size place P stays first xs all a next later made more b s0 s1 s2 m0 m1 m2 are so_far is behind pushed writes =
    subst (λ (ys : List A). Lays size place P first ys later more s0 s2 m0 m2) (sym are) (record {
      next_is = omega (arith, behind, so_far.next_is, sums);
      made_is = pushed ∙ ap (λ (zs : List B). zs ++ b ∷ []) so_far.made_is ∙ ap (λ (z : B). laid size place first xs ++ z ∷ []) (is ∙ ap (λ (n : ℕ). place n a) so_far.next_is) ∙ sym (laid_push size place first xs a);
      writes = writes_on first (sum_by size xs) (size a) (sum_by size (xs ++ a ∷ [])) (λ now. AllLaid size (P now) first xs) (λ now. P now (first + sum_by size xs) a)
          (λ now. AllLaid size (P now) first (xs ++ a ∷ [])) s0 s1 s2 m0 m1 m2 (sym sums) so_far.writes (subst (λ (n : ℕ). Writes n (size a) (λ now. P now n a) s1 s2 m1 m2) so_far.next_is writes)
          (λ x y keeps before here. all_push size (P y) first xs a
          (all_stay size P stays (pages_from (first + sum_by size xs) (size a)) x y first (first + sum_by size xs) xs keeps (λ p low high. none_below (first + sum_by size xs) (size a) p high) (omega arith) before) here);
    })
  where
    sums : sum_by size (xs ++ a ∷ []) ≡ sum_by size xs + size a
    sums = sum_by_push size xs a

-- ---- faults

fault_on : (fault : RestoreFault) (a b c : DiskState) → DiskGoesOn a b → IsDiskFault fault b c → IsDiskFault fault a c
fault_on faults.Source a b c same is = is
fault_on faults.Disk a b c same is = rose_on a.faults b.faults c.faults same.later is
fault_on (faults.NotEmpty count) a b c same is = is
fault_on (faults.NotBackup at) a b c same is = is
fault_on (faults.Full needed free) a b c same is = is
fault_on (faults.NotDatabase page) a b c same is = is
fault_on faults.Memory a b c same is = is

pub fails_on : (fault : RestoreFault) (a b c : DiskState) → DiskGoesOn a b → Fails fault b c → Fails fault a c
fails_on fault a b c same fails = record { same = goes a b c same fails.same; cause = fault_on fault a b c same fails.cause }
