-- Links beside other pages that are taken.
use Rattle.std.proofs.Common.{◌≡◌, ◌≢◌, ◌<◌, ℕ, zero, suc, Bool, true, false, List, [], ◌∷◌, slice_index, refl, ◌∙◌, ap, arith}
use Rattle.std.specs.Prelude.{◌&&◌, ◌||◌, not, nat_eq, nat_lt, Ok}
use Rattle.std.specs.List.{list_any}
use Rattle.std.proofs.lemmas.Bool.Decides.{nat_tests}
use Rattle.page_chain.specs.Places.{IsNone}
use Rattle.page_chain.specs.Pages.{page_size, has_page}
use Rattle.page_chain.specs.Chains.{names_page, chain}
use Rattle.page_chain.proofs.LinkLaws.{unequal, chain_linked, linked_chain}

names_more : (file taken : List ℕ) (p q : ℕ) → p ≢ q → names_page page_size file taken q ≡ true → names_page page_size file (p ∷ taken) q ≡ true
names_more file taken p q apart names =
    ap (λ (b : Bool). nat_lt 0 q && has_page page_size file q && not (b || list_any (λ page. nat_eq page q) taken)) (unequal p q apart) ∙ names

fewer : (x b rest : Bool) → (x && not (b || rest)) ≡ true → ((x && not rest) ≡ true) × (b ≡ false)
fewer true true rest is = cc
fewer true false rest is = (is, refl)
fewer false b rest is = cc

names_fewer : (file taken : List ℕ) (p q : ℕ) → names_page page_size file (p ∷ taken) q ≡ true → names_page page_size file taken q ≡ true
names_fewer file taken p q names = (fewer (nat_lt 0 q && has_page page_size file q) (nat_eq p q) (list_any (λ page. nat_eq page q) taken) names).0

names_other : (file taken : List ℕ) (p q : ℕ) → names_page page_size file (p ∷ taken) q ≡ true → p ≢ q
names_other file taken p q names same =
    let no : nat_eq p q ≡ false = (fewer (nat_lt 0 q && has_page page_size file q) (nat_eq p q) (list_any (λ page. nat_eq page q) taken) names).1 in
    let is : nat_eq p q ≡ true = grind (arith, nat_tests) in
    absurd (cc (no, is))

names_apart : (file taken : List ℕ) (q : ℕ) → names_page page_size file taken q ≡ true → IsNone taken q
names_apart file [] q names k low = absurd (omega arith)
names_apart file (p ∷ taken) q names zero low = names_other file taken p q names
names_apart file (p ∷ taken) q names (suc k) low = names_apart file taken q (names_fewer file taken p q names) k (omega arith)

names_none : (file taken : List ℕ) (q : ℕ) → names_page page_size file taken q ≡ true → names_page page_size file [] q ≡ true
names_none file [] q names = names
names_none file (p ∷ taken) q names = names_none file taken q (names_fewer file taken p q names)

names_with : (file taken : List ℕ) (q : ℕ) → IsNone taken q → names_page page_size file [] q ≡ true → names_page page_size file taken q ≡ true
names_with file [] q none names = names
names_with file (p ∷ taken) q none names = names_more file taken p q (none 0 (omega arith)) (names_with file taken q (λ k low. none (suc k) (omega arith)) names)

first : (x y z : Bool) → (x && y && z) ≡ true → x ≡ true
first true y z is = refl
first false y z is = cc

positive : (q : ℕ) → nat_lt 0 q ≡ true → 0 < q
positive q is = grind (arith, nat_tests)

names_positive : (file taken : List ℕ) (q : ℕ) → names_page page_size file taken q ≡ true → 0 < q
names_positive file taken q names = positive q (first (nat_lt 0 q) (has_page page_size file q) (not (list_any (λ page. nat_eq page q) taken)) names)

pub fewer_taken : (file taken few pages : List ℕ) (holder link count : ℕ) → ((p : ℕ) → 0 < p → IsNone taken p → IsNone few p) → chain page_size file taken holder link count ≡ Ok pages
    → chain page_size file few holder link count ≡ Ok pages
fewer_taken file taken few pages holder link count apart is =
    let linked = chain_linked file taken pages holder link count is in
    linked_chain file few pages holder link count (record {
      some = linked.some;
      enough = linked.enough;
      begins = linked.begins;
      next = linked.next;
      named = λ k low. names_with file few (slice_index pages k)
          (apart (slice_index pages k) (names_positive file taken (slice_index pages k) (linked.named k low)) (names_apart file taken (slice_index pages k) (linked.named k low)))
          (names_none file taken (slice_index pages k) (linked.named k low));
      distinct = linked.distinct;
    })
