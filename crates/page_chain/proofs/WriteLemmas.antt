-- Writing pieces page by page.
use Rattle.std.proofs.Common.{◌≡◌, ◌≤◌, ◌<◌, ◌⊎◌, ⊎_elim, ℕ, zero, suc, ◌+◌, ◌-◌, ◌*◌, List, [], ◌∷◌, ◌++◌, length, take, drop, replicate, slice_index, refl, sym, ◌∙◌, ap, subst, arith, length-append}
use Rattle.std.proofs.lemmas.List.{length-take, length-replicate, drop-drop}
use Rattle.std.proofs.Math.Nat.{add-mul, one-mul}
use Rattle.std.specs.Int.{w32, to_le_bytes}
use Rattle.std.specs.Prelude.{OnOk, Some, Result, Ok, Err}
use Rattle.afl_outside.proofs.Moments.{moment_at}
use Rattle.afl_outside.specs.Disk.{DiskState, DiskGoesOn, Elapses, Follows, written, Torn, Writes}
use Rattle.afl_outside.specs.Lemmas.TornLaws.{Torn-written}
use Rattle.afl_outside.specs.declared.source.Failed.{Failed}
use Rattle.page_chain.specs.Places.{IsNone, KeepsPages}
use Rattle.page_chain.specs.Pages.{page_size, page_at, padded, piece_of, AreDistinct, HoldsPieces}
use Rattle.page_chain.specs.Chains.{content_size, chain_piece}
use Rattle.page_chain.specs.Inner.Runs.{OnlyWrites, Sees}
use Rattle.page_chain.proofs.Kept.{size_is, keeps_self, keeps_on, keeps_more, one_of, torn_keeps, page_written, page_kept}
use Rattle.page_chain.proofs.RunLemmas.{map_some, writes_once, sees_more}

-- a page that was written stands there, and also where the call failed no other page was touched
pub wrote_page : (page at : ℕ) (piece : List ℕ) (old new : DiskState) (result : Result (Unit {0}) Failed) → at ≡ 4096 * page → length piece ≡ page_size → Writes at piece old new result
    → Sees old new (λ seen now. KeepsPages (page ∷ []) seen now × OnOk result (page_at page_size now page ≡ piece))
wrote_page page at piece old new (Ok u) place size wrote honest =
    let fits : length piece ≡ 4096 = size ∙ size_is in
    map_some old.seen (λ seen. new.seen ≡ Some (written at piece seen)) (λ seen. (now : List ℕ) × (new.seen ≡ Some now) × (KeepsPages (page ∷ []) seen now × (page_at page_size now page ≡ piece)))
    (λ x is. (
      written at piece x,
      is,
      (
        torn_keeps page at (length piece) x (written at piece x) place fits (Torn-written at piece x),
        page_written page_size page at piece x (place ∙ ap (λ (s : ℕ). s * page) (sym size_is)) size,
      ),
    ))
    (wrote honest)
wrote_page page at piece old new (Err e) place size wrote honest =
    let fits : length piece ≡ 4096 = size ∙ size_is in
    map_some old.seen (λ seen. (torn : List ℕ) × (new.seen ≡ Some torn) × Torn at (length piece) seen torn) (λ seen. (now : List ℕ) × (new.seen ≡ Some now) × (KeepsPages (page ∷ []) seen now × Unit {0}))
    (λ x h. (h.0, h.1, (torn_keeps page at (length piece) x h.0 place fits h.2, tt)))
    (wrote honest)

-- these pages alone were written, and the first ones have their pieces
pub record WroteSoFar (pages : List ℕ) (piece : ℕ → List ℕ) (i : ℕ) (old new : List ℕ) : Type 0 where
  pub keeps : KeepsPages pages old new
  pub there : (k : ℕ) → k < i → page_at page_size new (slice_index pages k) ≡ piece k

pub wrote_none : (pages : List ℕ) (piece : ℕ → List ℕ) (file : List ℕ) → WroteSoFar pages piece 0 file file
wrote_none pages piece file = record { keeps = keeps_self pages file; there = λ k low. absurd (omega arith) }

-- a page that failed keeps the others
pub wrote_torn : (pages : List ℕ) (piece : ℕ → List ℕ) (i page : ℕ) (x y z : List ℕ) → i < length pages → slice_index pages i ≡ page
    → WroteSoFar pages piece i x y → KeepsPages (page ∷ []) y z → KeepsPages pages x z
wrote_torn pages piece i page x y z within is so_far more =
    keeps_on pages x y z so_far.keeps (keeps_more (page ∷ []) pages y z (λ number none. one_of pages i page number within is none) more)

-- all pages were written
pub wrote_all : (pages : List ℕ) (piece : ℕ → List ℕ) (i : ℕ) (a b : DiskState) → length pages ≤ i → Sees a b (WroteSoFar pages piece i)
    → Sees a b (λ seen now. KeepsPages pages seen now × HoldsPieces page_size now pages piece)
wrote_all pages piece i a b all so_far =
    sees_more a b (WroteSoFar pages piece i) (λ seen now. KeepsPages pages seen now × HoldsPieces page_size now pages piece)
    (λ x y h. (h.keeps, λ k low. h.there k (omega (arith, low, all)))) so_far

pub wrote_more : (pages : List ℕ) (piece : ℕ → List ℕ) (i page : ℕ) (x y z : List ℕ) → AreDistinct pages → ((k : ℕ) → length (piece k) ≡ page_size) → i < length pages → slice_index pages i ≡ page
    → WroteSoFar pages piece i x y → KeepsPages (page ∷ []) y z → page_at page_size z page ≡ piece i → WroteSoFar pages piece (i + 1) x z
wrote_more pages piece i page x y z distinct sizes within is so_far more here = record {
  keeps = wrote_torn pages piece i page x y z within is so_far more;
  there = λ k low. ⊎_elim (before k) (λ same. subst (λ (n : ℕ). page_at page_size z (slice_index pages n) ≡ piece n) (sym same) (ap (page_at page_size z) is ∙ here)) (cases k low);
}
  where
    cases : (k : ℕ) → k < i + 1 → (k < i) ⊎ (k ≡ i)
    cases k low = grind arith

    before : (k : ℕ) → k < i → page_at page_size z (slice_index pages k) ≡ piece k
    before k low =
        let held = so_far.there k low in
        page_kept (page ∷ []) page_size (slice_index pages k) y z size_is more (apart k low) (ap (λ (xs : List ℕ). length xs) held ∙ sizes k) ∙ held
      where
        apart : (k : ℕ) → k < i → IsNone (page ∷ []) (slice_index pages k)
        apart k low zero first = λ same. distinct k i low within (sym same ∙ sym is)
        apart k low (suc n) more = absurd (omega arith)

-- bytes with zeros behind them fill a piece
pub length-padded : (room : ℕ) (bytes : List ℕ) → length bytes ≤ room → length (padded room bytes) ≡ room
length-padded room bytes low = omega (arith, length-append bytes (replicate {A = ℕ} (room - length bytes) 0), length-replicate {A = ℕ} (room - length bytes) 0)

pub length-piece : (room : ℕ) (bytes : List ℕ) → length (padded room (take room bytes)) ≡ room
length-piece room bytes = length-padded room (take room bytes) (omega (arith, length-take room bytes))

-- one write of a page, as a run
pub wrote_there : (page at n : ℕ) (old new : DiskState) (past since : ℕ → List ℕ → Type 0) (before now : List ℕ → Type 0) → at ≡ 4096 * page → n ≡ 4096 → ((c : List ℕ) → past old.moment c → before c)
    → DiskGoesOn old new → Follows (Torn at n) before now → Elapses old.moment new.moment past since now → OnlyWrites (page ∷ []) (moment_at old past before) (moment_at new since now)
wrote_there page at n old new past since before now place size only same crash time =
    writes_once (page ∷ []) old new past since before now only same (λ c left. let h = crash c left in (h.0, h.1, torn_keeps page at n h.0 c place size h.2)) time

-- what is left of the bytes behind one piece more
pub first_rest : (room : ℕ) (bytes : List ℕ) → bytes ≡ drop (0 * room) bytes
first_rest room bytes = let none : 0 ≡ 0 * room = omega arith in ap (λ (n : ℕ). drop n bytes) none

pub next_rest : (n room i : ℕ) (rest rest' bytes : List ℕ) → n ≡ room → rest' ≡ drop n rest → rest ≡ drop (i * room) bytes → rest' ≡ drop ((i + 1) * room) bytes
next_rest n room i rest rest' bytes size left so_far =
    let one : (i + 1) * room ≡ i * room + 1 * room = add-mul i 1 room in
    let same : 1 * room ≡ room = one-mul room in
    let end : i * room + n ≡ (i + 1) * room = omega arith in
    left ∙ ap (drop n) so_far ∙ drop-drop n (i * room) bytes ∙ ap (λ (k : ℕ). drop k bytes) end

pub blob_piece : (n i : ℕ) (piece rest bytes : List ℕ) → n ≡ page_size → piece ≡ padded n (take n rest) → rest ≡ drop (i * page_size) bytes → piece ≡ piece_of page_size bytes i
blob_piece n i piece rest bytes size is so_far =
    is ∙ ap (λ (m : ℕ). padded m (take m rest)) size ∙ ap (λ (xs : List ℕ). padded page_size (take page_size xs)) so_far

pub chain_piece_is : (n i next : ℕ) (piece rest pages bytes : List ℕ) → n ≡ page_size → next ≡ slice_index pages (i + 1) → piece ≡ to_le_bytes w32 next ++ padded (n - 4) (take (n - 4) rest)
    → rest ≡ drop (i * content_size page_size) bytes → piece ≡ chain_piece page_size pages bytes i
chain_piece_is n i next piece rest pages bytes size names is so_far =
    is ∙ ap (λ (m : ℕ). to_le_bytes w32 next ++ padded (m - 4) (take (m - 4) rest)) size
    ∙ ap (λ (xs : List ℕ). to_le_bytes w32 next ++ padded (page_size - 4) (take (page_size - 4) xs)) so_far
    ∙ ap (λ (x : ℕ). to_le_bytes w32 x ++ piece_of (page_size - 4) bytes i) names

four : (x : ℕ) → length (to_le_bytes w32 x) ≡ 4
four x = refl

pub length-chain_piece : (pages bytes : List ℕ) (k : ℕ) → length (chain_piece page_size pages bytes k) ≡ page_size
length-chain_piece pages bytes k =
    omega (arith, size_is, length-append (to_le_bytes w32 (slice_index pages (k + 1))) (piece_of (page_size - 4) bytes k), four (slice_index pages (k + 1)), length-piece (page_size - 4) (drop (k * (page_size - 4)) bytes))
