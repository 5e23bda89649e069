-- A blob whose pages the file has has all its bytes.
use Rattle.std.proofs.Common.{◌≡◌, ◌<◌, ◌≤◌, ℕ, suc, ◌+◌, ◌*◌, Bool, true, false, cond, not, List, [], ◌∷◌, ◌++◌, length, drop, refl, sym, ap, ◌∙◌, arith, length-append, length-drop}
use Rattle.std.specs.Prelude.{Option, Some, None, flat_map}
use Rattle.std.proofs.Math.Nat.{mul-suc, mul-zero}
use Rattle.std.proofs.lemmas.Bool.Decides.{nat_tests}
use Rattle.std.proofs.lemmas.List.{length-take}
use Rattle.file_items.specs.Pages.{pages_needed}
use Rattle.page_chain.specs.Pages.{page_size, page_at, has_page, first_past, blob}
use Rattle.page_chain.proofs.BlobLemmas.{all_there}
use Rattle.file_meaning.proofs.Counts.{counts_agree}

next_page : (page : ℕ) → page + 1 ≡ suc page
next_page page = omega arith

whole_page : (file : List ℕ) (page : ℕ) → has_page page_size file page ≡ true → length (page_at page_size file page) ≡ page_size
whole_page file page has =
    let end : page_size * (page + 1) ≡ page_size * page + page_size = ap (λ (n : ℕ). page_size * n) (next_page page) ∙ mul-suc page_size page in
    let fits : page_size * (page + 1) ≤ length file = grind (arith, nat_tests) in
    omega (arith, length-take page_size (drop (page_size * page) file), length-drop (page_size * page) file)

passes : (b : Bool) (p : ℕ) (rest : Option ℕ) → cond (not b) (Some p) rest ≡ None → (b ≡ true) × (rest ≡ None)
passes true p rest is = (refl, is)
passes false p rest is = absurd cc

pages_bytes : (file pages : List ℕ) → first_past page_size file pages ≡ None → length (flat_map (page_at page_size file) pages) ≡ page_size * length pages
pages_bytes file [] there = sym (mul-zero page_size)
pages_bytes file (p ∷ pages) there =
    let e = passes (has_page page_size file p) p (first_past page_size file pages) there in
    let first = whole_page file p e.0 in
    let later = pages_bytes file pages e.1 in
    let both : length (page_at page_size file p ++ flat_map (page_at page_size file) pages) ≡ length (page_at page_size file p) + length (flat_map (page_at page_size file) pages)
    = length-append (page_at page_size file p) (flat_map (page_at page_size file) pages) in
    let sum : length (page_at page_size file p) + length (flat_map (page_at page_size file) pages) ≡ page_size * length pages + page_size = omega (arith, first, later) in
    both ∙ sum ∙ sym (mul-suc page_size (length pages))

some_bytes : 0 < page_size
unfolding page_size
some_bytes = omega arith

pub blob_size : (file pages : List ℕ) (count : ℕ) → first_past page_size file pages ≡ None → length pages ≡ pages_needed count → length (blob page_size file pages count) ≡ count
blob_size file pages count there many =
    all_there page_size (flat_map (page_at page_size file) pages) (length pages) count some_bytes (many ∙ counts_agree count) (pages_bytes file pages there)
