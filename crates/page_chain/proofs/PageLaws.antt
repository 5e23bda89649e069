-- Pages that hold a chain or a blob, and pages that stay.
use Rattle.std.proofs.Common.{◌≡◌, ◌≢◌, ◌≤◌, ◌<◌, ◌⊎◌, ⊎_elim, ℕ, zero, suc, ◌+◌, ◌-◌, ◌*◌, ◌^◌, Bool, true, false, cond, List, [], ◌∷◌, ◌++◌, length, take, drop, replicate, slice_index, refl, sym, ◌∙◌, ap, subst, arith, append_assoc, length-drop}
use Rattle.std.specs.Prelude.{◌&&◌, ◌||◌, not, nat_eq, nat_lt, Option, Some, None, flat_map, Ok}
use Rattle.std.specs.List.{list_any}
use Rattle.std.specs.Int.{w32, to_le_bytes, from_le_bytes}
use Rattle.std.proofs.Math.Nat.{zero-mul, mul-zero, suc-mul, mul-suc}
use Rattle.std.proofs.Math.Seq.{take-append-add, take-length}
use Rattle.std.proofs.lemmas.List.{drop_at, drop-drop, take_all, length-take, take-append-le, take-append-drop, append-nil}
use Rattle.std.proofs.lemmas.Nat.{from_le_bytes-to_le_bytes_4}
use Rattle.std.proofs.lemmas.Bool.Decides.{nat_tests}
use Rattle.page_chain.specs.Places.{IsNone, KeepsPages}
use Rattle.page_chain.specs.Pages.{page_size, page_at, has_page, pages_for, blob, first_past, padded, piece_of, HoldsBlob}
use Rattle.page_chain.specs.Chains.{content_size, content_of, names_page, chain, chain_bytes, chain_piece, HoldsChain}
use Rattle.page_chain.proofs.Kept.{size_is, page_kept}
use Rattle.page_chain.proofs.BlobLemmas.{enough}
use Rattle.page_chain.proofs.WriteLemmas.{length-piece, length-chain_piece}
use Rattle.page_chain.specs.Links.{AreLinked, AreFree}
use Rattle.page_chain.proofs.LinkLaws.{unequal, chain_linked, linked_chain}

-- a page that the file has whole, and one that is as long as a page
whole_page : (file : List ℕ) (page : ℕ) → has_page page_size file page ≡ true → length (page_at page_size file page) ≡ page_size
whole_page file page has =
    let end : page_size * (page + 1) ≡ page_size * page + page_size = ap (λ (n : ℕ). page_size * n) (next page) ∙ mul-suc page_size page in
    let fits : page_size * (page + 1) ≤ length file = grind (arith, nat_tests) in
    omega (arith, length-take page_size (drop (page_size * page) file), length-drop (page_size * page) file)
  where
    next : (n : ℕ) → n + 1 ≡ suc n
    next n = omega arith

page_whole : (file : List ℕ) (page : ℕ) → length (page_at page_size file page) ≡ page_size → has_page page_size file page ≡ true
page_whole file page long =
    let end : page_size * (page + 1) ≡ page_size * page + page_size = ap (λ (n : ℕ). page_size * n) (next page) ∙ mul-suc page_size page in
    let fits : page_size * (page + 1) ≤ length file = omega (arith, size_is, length-take page_size (drop (page_size * page) file), length-drop (page_size * page) file) in
    grind (arith, nat_tests)
  where
    next : (n : ℕ) → n + 1 ≡ suc n
    next n = omega arith

-- what stands in each page alone decides what stands in all
same_pages : (f g : ℕ → List ℕ) (pages : List ℕ) → ((k : ℕ) → k < length pages → f (slice_index pages k) ≡ g (slice_index pages k)) → flat_map f pages ≡ flat_map g pages
same_pages f g [] same = refl
same_pages f g (p ∷ ps) same =
    let first : f p ≡ g p = same 0 (omega arith) in
    ap (λ (xs : List ℕ). xs ++ flat_map f ps) first ∙ ap (λ (xs : List ℕ). g p ++ xs) (same_pages f g ps (λ k low. same (suc k) (omega arith)))

nothing : (bytes : List ℕ) → length bytes ≤ 0 → bytes ≡ []
nothing [] low = refl
nothing (x ∷ xs) low = absurd (omega arith)

later_piece : (room : ℕ) (bytes : List ℕ) (k : ℕ) → piece_of room bytes (suc k) ≡ piece_of room (drop room bytes) k
later_piece room bytes k =
    ap (λ (xs : List ℕ). padded room (take room xs)) (ap (λ (n : ℕ). drop n bytes) (suc-mul k room ∙ turn (k * room) room) ∙ sym (drop-drop (k * room) room bytes))
  where
    turn : (a b : ℕ) → a + b ≡ b + a
    turn a b = omega arith

first_piece : (room : ℕ) (bytes : List ℕ) → piece_of room bytes 0 ≡ padded room (take room bytes)
first_piece room bytes = ap (λ (n : ℕ). padded room (take room (drop n bytes))) (zero-mul room)

-- the last piece, and one that is followed by others
short_end : (room : ℕ) (bytes rest : List ℕ) → length bytes ≤ room → take (length bytes) (padded room (take room bytes) ++ rest) ≡ bytes
short_end room bytes rest low =
    ap (λ (xs : List ℕ). take (length bytes) (padded room xs ++ rest)) (take_all room bytes low)
    ∙ ap (take (length bytes)) (append_assoc bytes (replicate (room - length bytes) 0) rest)
    ∙ take-append-le (length bytes) bytes (replicate (room - length bytes) 0 ++ rest) (omega arith)
    ∙ take-length bytes

full_piece : (room : ℕ) (bytes : List ℕ) → length bytes ≡ room → padded room bytes ≡ bytes
full_piece room bytes full =
    let none : room - length bytes ≡ 0 = omega arith in
    ap (λ (n : ℕ). bytes ++ replicate {A = ℕ} n 0) none ∙ append-nil bytes

long_end : (room : ℕ) (bytes rest : List ℕ) → room < length bytes → take (length (drop room bytes)) rest ≡ drop room bytes → take (length bytes) (padded room (take room bytes) ++ rest) ≡ bytes
long_end room bytes rest more later =
    let full : length (take room bytes) ≡ room = omega (arith, length-take room bytes) in
    let total : length bytes ≡ length (take room bytes) + length (drop room bytes) = omega (arith, length-take room bytes, length-drop room bytes) in
    ap (λ (xs : List ℕ). take (length bytes) (xs ++ rest)) (full_piece room (take room bytes) full)
    ∙ ap (λ (n : ℕ). take n (take room bytes ++ rest)) total
    ∙ take-append-add (take room bytes) rest (length (drop room bytes))
    ∙ ap (λ (xs : List ℕ). take room bytes ++ xs) later
    ∙ take-append-drop room bytes

cases : (a b : ℕ) → (a ≤ b) ⊎ (b < a)
cases a b = grind arith

-- the pieces of some bytes, one after the other, begin with these bytes
pub joined : (room : ℕ) (f : ℕ → List ℕ) (pages bytes : List ℕ) → ((k : ℕ) → k < length pages → f (slice_index pages k) ≡ piece_of room bytes k) → length bytes ≤ room * length pages
    → take (length bytes) (flat_map f pages) ≡ bytes
joined room f [] bytes held fits =
    let low : length bytes ≤ 0 = omega (arith, mul-zero room) in
    let none : bytes ≡ [] = nothing bytes low in
    subst (λ (xs : List ℕ). take (length xs) (flat_map f []) ≡ xs) (sym none) refl
joined room f (p ∷ ps) bytes held fits =
    let first : f p ≡ padded room (take room bytes) = held 0 (omega arith) ∙ first_piece room bytes in
    let size : room * suc (length ps) ≡ room * length ps + room = mul-suc room (length ps) in
    let left : length (drop room bytes) ≤ room * length ps = omega (arith, length-drop room bytes) in
    let later : take (length (drop room bytes)) (flat_map f ps) ≡ drop room bytes = joined room f ps (drop room bytes) (λ k low. held (suc k) (omega arith) ∙ later_piece room bytes k) left in
    ap (λ (xs : List ℕ). take (length bytes) (xs ++ flat_map f ps)) first
    ∙ ⊎_elim (short_end room bytes (flat_map f ps)) (λ more. long_end room bytes (flat_map f ps) more later) (cases (length bytes) room)

none_past : (file pages : List ℕ) → ((k : ℕ) → k < length pages → has_page page_size file (slice_index pages k) ≡ true) → first_past page_size file pages ≡ None
none_past file [] whole = refl
none_past file (p ∷ ps) whole =
    let first : has_page page_size file p ≡ true = whole 0 (omega arith) in
    ap (λ (b : Bool). cond (not b) (Some p) (first_past page_size file ps)) first ∙ none_past file ps (λ k low. whole (suc k) (omega arith))

passes : (b : Bool) (p : ℕ) (rest : Option ℕ) → cond (not b) (Some p) rest ≡ None → (b ≡ true) × (rest ≡ None)
passes true p rest is = (refl, is)
passes false p rest is = cc

all_whole : (file pages : List ℕ) → first_past page_size file pages ≡ None → (k : ℕ) → k < length pages → has_page page_size file (slice_index pages k) ≡ true
all_whole file [] none k low = absurd (omega arith)
all_whole file (p ∷ ps) none zero low = (passes (has_page page_size file p) p (first_past page_size file ps) none).0
all_whole file (p ∷ ps) none (suc k) low = all_whole file ps (passes (has_page page_size file p) p (first_past page_size file ps) none).1 k (omega arith)

still_whole : (written old new : List ℕ) (page : ℕ) → KeepsPages written old new → has_page page_size old page ≡ true → has_page page_size new page ≡ true
still_whole written old new page keeps has =
    let fits : page_size * (page + 1) ≤ length old = grind (arith, nat_tests) in
    let longer : length old ≤ length new = keeps.no_shorter in
    grind (arith, nat_tests)

-- what is written as a blob is read again
pub blob_read : (file pages bytes : List ℕ) → HoldsBlob page_size file pages bytes → length pages ≡ pages_for page_size (length bytes)
    → (first_past page_size file pages ≡ None) × (blob page_size file pages (length bytes) ≡ bytes)
blob_read file pages bytes held counted =
    let some : 0 < page_size = omega (arith, size_is) in
    let room : length bytes ≤ page_size * pages_for page_size (length bytes) = enough page_size (length bytes) some in (
      none_past file pages (λ k low. page_whole file (slice_index pages k) (ap (λ (xs : List ℕ). length xs) (held k low) ∙ length-piece page_size (drop (k * page_size) bytes))),
      joined page_size (page_at page_size file) pages bytes held (subst (λ (n : ℕ). length bytes ≤ page_size * n) (sym counted) room),
    )

pub blob_kept : (written old new pages : List ℕ) (count : ℕ) → KeepsPages written old new → ((k : ℕ) → k < length pages → IsNone written (slice_index pages k)) → first_past page_size old pages ≡ None
    → (first_past page_size new pages ≡ None) × (blob page_size new pages count ≡ blob page_size old pages count)
blob_kept written old new pages count keeps apart none = (
  none_past new pages (λ k low. still_whole written old new (slice_index pages k) keeps (all_whole old pages none k low)),
  ap (take count) (same_pages (page_at page_size new) (page_at page_size old) pages (λ k low.
      page_kept written page_size (slice_index pages k) old new size_is keeps (apart k low) (whole_page old (slice_index pages k) (all_whole old pages none k low)))),
)

parts : (a b c : Bool) → (a && b && c) ≡ true → (a ≡ true) × (b ≡ true) × (c ≡ true)
parts true true true is = (refl, refl, refl)
parts true true false is = cc
parts true false c is = cc
parts false b c is = cc

named_parts : (file taken : List ℕ) (page : ℕ) → names_page page_size file taken page ≡ true
    → (nat_lt 0 page ≡ true) × (has_page page_size file page ≡ true) × (not (list_any (λ p. nat_eq p page) taken) ≡ true)
named_parts file taken page names = parts (nat_lt 0 page) (has_page page_size file page) (not (list_any (λ p. nat_eq p page) taken)) names

named_by : (file taken : List ℕ) (page : ℕ) → nat_lt 0 page ≡ true → has_page page_size file page ≡ true → not (list_any (λ p. nat_eq p page) taken) ≡ true → names_page page_size file taken page ≡ true
named_by file taken page least whole free =
    ap (λ (b : Bool). b && has_page page_size file page && not (list_any (λ p. nat_eq p page) taken)) least
    ∙ ap (λ (b : Bool). true && b && not (list_any (λ p. nat_eq p page) taken)) whole ∙ ap (λ (b : Bool). true && true && b) free

untaken : (taken : List ℕ) (page : ℕ) → IsNone taken page → not (list_any (λ p. nat_eq p page) taken) ≡ true
untaken [] page none = refl
untaken (p ∷ taken) page none =
    let other : p ≢ page = none 0 (omega arith) in
    let no : nat_eq p page ≡ false = unequal p page other in
    ap (λ (b : Bool). not (b || list_any (λ q. nat_eq q page) taken)) no ∙ untaken taken page (λ k low. none (suc k) (omega arith))

-- writes to other pages leave a chain as it was
pub chain_kept : (written old new taken pages : List ℕ) (holder link count : ℕ) → KeepsPages written old new → ((k : ℕ) → k < length pages → IsNone written (slice_index pages k))
    → chain page_size old taken holder link count ≡ Ok pages
    → (chain page_size new taken holder link count ≡ Ok pages) × (chain_bytes page_size new pages count ≡ chain_bytes page_size old pages count)
chain_kept written old new taken pages holder link count keeps apart is =
    let linked = chain_linked old taken pages holder link count is in (
      linked_chain new taken pages holder link count (record {
        some = linked.some;
        enough = linked.enough;
        begins = linked.begins;
        next = λ k low. ap (λ (xs : List ℕ). from_le_bytes w32 (take 4 xs)) (same linked k low) ∙ linked.next k low;
        named = λ k low. let p = named_parts old taken (slice_index pages k) (linked.named k low) in named_by new taken (slice_index pages k) p.0 (still_whole written old new (slice_index pages k) keeps p.1) p.2;
        distinct = linked.distinct;
      }),
      ap (take count) (same_pages (content_of page_size new) (content_of page_size old) pages (λ k low. ap (drop 4) (same linked k low))),
    )
  where
    same : AreLinked old taken link count pages → (k : ℕ) → k < length pages → page_at page_size new (slice_index pages k) ≡ page_at page_size old (slice_index pages k)
    same linked k low = page_kept written page_size (slice_index pages k) old new size_is keeps (apart k low)
        (whole_page old (slice_index pages k) (named_parts old taken (slice_index pages k) (linked.named k low)).1)

four : (x : ℕ) → length (to_le_bytes w32 x) ≡ 4
four x = refl

-- the next page of one that is held
after_held : (pages bytes : List ℕ) (k : ℕ) → slice_index pages (k + 1) < 2 ^ 32 → from_le_bytes w32 (take 4 (chain_piece page_size pages bytes k)) ≡ slice_index pages (k + 1)
after_held pages bytes k low =
    let link : List ℕ = to_le_bytes w32 (slice_index pages (k + 1)) in
    ap (from_le_bytes w32) (take-append-le 4 link (piece_of (content_size page_size) bytes k) (omega (arith, four (slice_index pages (k + 1)))) ∙ take_all 4 link (omega (arith, four (slice_index pages (k + 1)))))
    ∙ from_le_bytes-to_le_bytes_4 (slice_index pages (k + 1)) low

small : (pages : List ℕ) → ((k : ℕ) → k < length pages → slice_index pages k < 2 ^ 32) → (k : ℕ) → slice_index pages k < 2 ^ 32
small [] most k = omega arith
small (p ∷ ps) most zero = most 0 (omega arith)
small (p ∷ ps) most (suc k) = small ps (λ i low. most (suc i) (omega arith)) k

-- what is written as a chain is read again
pub chain_read : (file taken pages bytes : List ℕ) (holder : ℕ) → HoldsChain page_size file pages bytes → AreFree taken pages → 0 < length bytes → length pages ≡ pages_for (content_size page_size) (length bytes)
    → (chain page_size file taken holder (slice_index pages 0) (length bytes) ≡ Ok pages) × (chain_bytes page_size file pages (length bytes) ≡ bytes)
chain_read file taken pages bytes holder held free some counted =
    let wide : 0 < page_size - 4 = omega (arith, size_is) in
    let room : length bytes ≤ (page_size - 4) * pages_for (page_size - 4) (length bytes) = enough (page_size - 4) (length bytes) wide in (
      linked_chain file taken pages holder (slice_index pages 0) (length bytes) (record {
        some = some;
        enough = counted;
        begins = refl;
        next = λ k low. ap (λ (xs : List ℕ). from_le_bytes w32 (take 4 xs)) (held k low) ∙ after_held pages bytes k (small pages free.most (k + 1));
        named = λ k low. named_by file taken (slice_index pages k) (positive (slice_index pages k) (free.least k low))
            (page_whole file (slice_index pages k) (ap (λ (xs : List ℕ). length xs) (held k low) ∙ length-chain_piece pages bytes k)) (untaken taken (slice_index pages k) (free.apart k low));
        distinct = free.distinct;
      }),
      joined (page_size - 4) (content_of page_size file) pages bytes
          (λ k low. ap (drop 4) (held k low) ∙ drop_at (to_le_bytes w32 (slice_index pages (k + 1))) (piece_of (page_size - 4) bytes k) 4 (four (slice_index pages (k + 1))))
          (subst (λ (n : ℕ). length bytes ≤ (page_size - 4) * n) (sym counted) room),
    )
  where
    positive : (n : ℕ) → 0 < n → nat_lt 0 n ≡ true
    positive n some = grind (arith, nat_tests)
