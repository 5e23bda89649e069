-- The page that was written as zeros.
use Rattle.std.proofs.Common.{◌≡◌, ◌≢◌, ◌<◌, ◌≤◌, ⊎_elim, ℕ, zero, suc, ◌+◌, ◌-◌, ◌*◌, Bool, true, false, List, [], ◌∷◌, length, take, drop, replicate, slice_index, Option, Some, None, IfSome, refl, sym, ◌∙◌, ap, subst, arith, length-drop}
use Rattle.std.specs.Prelude.{nat_eq, if◌then◌else◌}
use Rattle.std.specs.List.{list_all, list_any}
use Rattle.std.proofs.lemmas.List.{get_or-take, get_or-drop, get_or_append_left, get_or-append_right, get_or-replicate, length-take}
use Rattle.std.proofs.lemmas.List.Folds.{list_any_at, list_all_at}
use Rattle.std.proofs.lemmas.Bool.{cases_eq, cases_lt}
use Rattle.std.proofs.lemmas.Bool.Decides.{nat_tests}
use Rattle.page_chain.specs.Places.{IsNone, KeepsPages}
use Rattle.page_chain.specs.Pages.{page_size, page_at, piece_of, HoldsBlob}
use Rattle.page_chain.proofs.Kept.{size_is}
use Rattle.page_chain.proofs.WriteLemmas.{length-piece}
use Rattle.page_chain.specs.Standing.{IsZeroed}
use Rattle.page_file.specs.Written.{unwritten, zeroed_by}

same_number : (a b : ℕ) → a ≡ b → nat_eq a b ≡ true
same_number a b is = grind (arith, nat_tests)

differs : (a b : ℕ) → a ≢ b → nat_eq a b ≡ false
differs a b not = grind (arith, nat_tests)

true_false : (b : Bool) → b ≡ true → b ≡ false → ⊥
true_false b is isnt = grind (arith, nat_tests)

-- a page that isn't found among some is none of them
apart : (pages : List ℕ) (page : ℕ) → list_any (λ other. nat_eq other page) pages ≡ false → IsNone pages page
apart pages page none k low = λ is. true_false (list_any (λ other. nat_eq other page) pages) (list_any_at (λ other. nat_eq other page) pages k 0 low (same_number (slice_index pages k) page is)) none

-- writes to other pages leave zeros
pub zeros_kept : (pages : List ℕ) (page : ℕ) (seen now : List ℕ) → IsNone pages page → KeepsPages pages seen now → IsZeroed page seen → IsZeroed page now
zeros_kept pages page seen now none keeps zero_ = record {
  is_page = record { least = zero_.is_page.least; within = omega (arith, zero_.is_page.within, keeps.no_shorter) };
  zeros = λ k low. keeps.others page k none low (omega (arith, zero_.is_page.within, low)) ∙ zero_.zeros k low;
}

pub unwritten_holds : (pages : List ℕ) (zeroed : Option ℕ) (seen now : List ℕ) → KeepsPages pages seen now → IfSome zeroed (λ page. IsZeroed page seen) → IfSome (unwritten pages zeroed) (λ page. IsZeroed page now)
unwritten_holds pages None seen now keeps hold = tt
unwritten_holds pages (Some page) seen now keeps hold = by_test (list_any (λ other. nat_eq other page) pages) refl
  where
    by_test : (b : Bool) → list_any (λ other. nat_eq other page) pages ≡ b → IfSome (if b then None else Some page) (λ page. IsZeroed page now)
    by_test true is = tt
    by_test false is = zeros_kept pages page seen now (apart pages page is) keeps hold

zero_byte : (bytes : List ℕ) (k : ℕ) → list_all (λ byte. nat_eq byte 0) bytes ≡ true → k < length bytes → slice_index bytes k ≡ 0
zero_byte bytes k all low = ⊎_elim (λ is. is) (λ not. absurd (true_false (list_all (λ byte. nat_eq byte 0) bytes) all (list_all_at (λ byte. nat_eq byte 0) bytes k 0 low (differs (slice_index bytes k) 0 not)))) (cases_eq (slice_index bytes k) 0)

past_end : (xs : List ℕ) (k : ℕ) → length xs ≤ k → slice_index xs k ≡ 0
past_end [] k past = refl
past_end (x ∷ xs) zero past = absurd (omega arith)
past_end (x ∷ xs) (suc k) past = past_end xs k (omega arith)

zero_at : (bytes : List ℕ) (k : ℕ) → list_all (λ byte. nat_eq byte 0) bytes ≡ true → slice_index bytes k ≡ 0
zero_at bytes k all = ⊎_elim (λ low. zero_byte bytes k all low) (λ past. past_end bytes k past) (cases_lt k (length bytes))

zero_piece : (bytes : List ℕ) (k : ℕ) → list_all (λ byte. nat_eq byte 0) bytes ≡ true → k < 4096 → slice_index (piece_of 4096 bytes 0) k ≡ 0
zero_piece bytes k all small =
    let front = take 4096 (drop (0 * 4096) bytes) in
    ⊎_elim
    (λ low. get_or_append_left front (replicate (4096 - length front) 0) 0 k low ∙ get_or-take 4096 (drop (0 * 4096) bytes) k 0 small ∙ get_or-drop (0 * 4096) bytes k 0 ∙ zero_at bytes (0 * 4096 + k) all)
    (λ past. get_or-append_right front (replicate (4096 - length front) 0) (length front) k 0 refl past ∙ get_or-replicate (4096 - length front) (k - length front) 0 0 (omega arith))
    (cases_lt k (length front))

-- a blob of zeros in one page
pub zeros_written : (page : ℕ) (bytes now : List ℕ) → 0 < page → list_all (λ byte. nat_eq byte 0) bytes ≡ true → HoldsBlob page_size now (page ∷ []) bytes → IsZeroed page now
zeros_written page bytes now least all hold = record {
  is_page = record { least = least; within = omega (arith, size, length-take 4096 (drop (4096 * page) now), length-drop (4096 * page) now) };
  zeros = λ k low. sym (get_or-take 4096 (drop (4096 * page) now) k 0 low ∙ get_or-drop (4096 * page) now k 0) ∙ ap (λ (xs : List ℕ). slice_index xs k) here ∙ zero_piece bytes k all low;
}
  where
    here : page_at 4096 now page ≡ piece_of 4096 bytes 0
    here = subst (λ (s : ℕ). page_at s now page ≡ piece_of s bytes 0) size_is (hold 0 (omega arith))

    size : length (page_at 4096 now page) ≡ 4096
    size = ap (λ (xs : List ℕ). length xs) here ∙ length-piece 4096 (drop (0 * 4096) bytes)

pub zeroed_holds : (pages bytes : List ℕ) (zeroed : Option ℕ) (seen now : List ℕ) → IsNone pages 0 → KeepsPages pages seen now → HoldsBlob page_size now pages bytes → IfSome zeroed (λ page. IsZeroed page seen)
    → IfSome (zeroed_by pages bytes zeroed) (λ page. IsZeroed page now)
zeroed_holds [] bytes zeroed seen now none keeps holds hold = unwritten_holds [] zeroed seen now keeps hold
zeroed_holds (page ∷ []) bytes zeroed seen now none keeps holds hold = by_test (list_all (λ byte. nat_eq byte 0) bytes) refl
  where
    least : page ≢ 0 → 0 < page
    least not = grind arith

    by_test : (b : Bool) → list_all (λ byte. nat_eq byte 0) bytes ≡ b → IfSome (if b then Some page else unwritten (page ∷ []) zeroed) (λ page. IsZeroed page now)
    by_test true is = zeros_written page bytes now (least (none 0 (omega arith))) is holds
    by_test false is = unwritten_holds (page ∷ []) zeroed seen now keeps hold
zeroed_holds (page ∷ next ∷ rest) bytes zeroed seen now none keeps holds hold = unwritten_holds (page ∷ next ∷ rest) zeroed seen now keeps hold
