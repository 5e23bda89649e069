-- Following the links of a chain one by one.
use Rattle.std.proofs.Common.{◌≡◌, ◌≢◌, ◌<◌, ℕ, suc, ◌+◌, ◌-◌, Bool, true, false, List, [], ◌∷◌, ◌++◌, length, take, drop, refl, sym, ◌∙◌, ap, subst, arith, append_assoc}
use Rattle.std.specs.Prelude.{if◌then◌else◌, ◌==◌, ◌&&◌, not, nat_eq, nat_lt, flat_map, IfSome, Some, None, Result, Ok, Err}
use Rattle.std.specs.declared.option.Option.{Option}
use Rattle.std.specs.Bool.{OnTrue}
use Rattle.std.specs.Int.{w32, from_le_bytes}
use Rattle.std.specs.List.{list_any}
use Rattle.std.specs.Ordering.{nat_cmp}
use Rattle.std.specs.FinSet.{FinSet, from_list, insert, contains, contains-from_list_nat}
use Rattle.std.proofs.lemmas.List.{append-nil}
use Rattle.std.proofs.lemmas.Grind.{flat_map-append}
use Rattle.std.proofs.lemmas.Bool.Decides.{nat_tests}
use Rattle.page_chain.specs.Pages.{page_size, page_at, has_page, pages_for}
use Rattle.page_chain.specs.Chains.{content_size, names_page, next_of, content_of, after, follow, chain, chain_bytes, IsChainRead, IsFollowed}
use Rattle.page_chain.specs.declared.fault.OpenCause.{OpenCause}
use Rattle.page_chain.specs.declared.fault.OpenCause.TheVariants.{Disk, NotDatabase, Memory}

-- the pages so far, before those to which a link leads
abbrev pub ahead : List ℕ → Result (List ℕ) ℕ → Result (List ℕ) ℕ
ahead had (Ok pages) = Ok (had ++ pages)
ahead had (Err holder) = Err holder

ahead_none : (r : Result (List ℕ) ℕ) → ahead [] r ≡ r
ahead_none (Ok pages) = refl
ahead_none (Err holder) = refl

ahead_after : (had : List ℕ) (page : ℕ) (r : Result (List ℕ) ℕ) → ahead had (after page r) ≡ ahead (had ++ page ∷ []) r
ahead_after had page (Ok pages) = ap (λ (xs : List ℕ). Ok xs) (sym (append_assoc had (page ∷ []) pages))
ahead_after had page (Err holder) = refl

named : (size : ℕ) (file taken : List ℕ) (holder link due : ℕ) → names_page size file taken link ≡ true
    → follow size file taken holder link (suc due) ≡ after link (follow size file (link ∷ taken) link (next_of size file link) due)
named size file taken holder link due names =
    ap (λ (b : Bool). if b then after link (follow size file (link ∷ taken) link (next_of size file link) due) else Err holder) names

unnamed : (size : ℕ) (file taken : List ℕ) (holder link due : ℕ) → names_page size file taken link ≡ false → follow size file taken holder link (suc due) ≡ Err holder
unnamed size file taken holder link due names =
    ap (λ (b : Bool). if b then after link (follow size file (link ∷ taken) link (next_of size file link) due) else Err holder) names

-- what was read of a chain so far: the pages in use, and what the next link leads to
pub record ChainSoFar (seen taken : List ℕ) (holder first all : ℕ) (used : FinSet nat_cmp) (at link due : ℕ) (pages bytes : List ℕ) : Type 0 where
  pub in_use : List ℕ
  pub set : used ≡ from_list in_use
  pub rest : ahead pages (follow page_size seen in_use at link due) ≡ follow page_size seen taken holder first all
  pub content : bytes ≡ flat_map (content_of page_size seen) pages

pub chain_starts : (seen taken : List ℕ) (holder first all : ℕ) (used : FinSet nat_cmp) → used ≡ from_list taken → ChainSoFar seen taken holder first all used holder first all [] []
chain_starts seen taken holder first all used set = record { in_use = taken; set = set; rest = ahead_none (follow page_size seen taken holder first all); content = refl }

one_due : (size : ℕ) (file taken : List ℕ) (holder link due : ℕ) → 0 < due → follow size file taken holder link due ≡ follow size file taken holder link (suc (due - 1))
one_due size file taken holder link due some = let e : due ≡ suc (due - 1) = omega arith in ap (λ (n : ℕ). follow size file taken holder link n) e

pub chain_step : (seen taken : List ℕ) (holder first all : ℕ) (used used' : FinSet nat_cmp) (at link due next : ℕ) (pages bytes piece pages' bytes' : List ℕ) (due' : ℕ) → 0 < due → due' ≡ due - 1
    → pages' ≡ pages ++ link ∷ [] → bytes' ≡ bytes ++ drop 4 piece → ((in_use : List ℕ) → used ≡ from_list in_use → IsFollowed seen in_use at link used' piece (Ok next))
    → ChainSoFar seen taken holder first all used at link due pages bytes → ChainSoFar seen taken holder first all used' link next due' pages' bytes'
chain_step seen taken holder first all used used' at link due next pages bytes piece pages' bytes' due' some less pushed more followed so_far =
    let step = followed so_far.in_use so_far.set in
    record {
      in_use = link ∷ so_far.in_use;
      set = step.2;
      rest =
          subst (λ (ps : List ℕ). ahead ps (follow page_size seen (link ∷ so_far.in_use) link next due') ≡ follow page_size seen taken holder first all) (sym pushed)
          (subst (λ (n : ℕ). ahead (pages ++ link ∷ []) (follow page_size seen (link ∷ so_far.in_use) link next n) ≡ follow page_size seen taken holder first all) (sym less)
          (subst (λ (n : ℕ). ahead (pages ++ link ∷ []) (follow page_size seen (link ∷ so_far.in_use) link n (due - 1)) ≡ follow page_size seen taken holder first all) (sym step.1)
          (sym (ahead_after pages link (follow page_size seen (link ∷ so_far.in_use) link (next_of page_size seen link) (due - 1)))
          ∙ sym (ap (ahead pages) (one_due page_size seen so_far.in_use at link due some ∙ named page_size seen so_far.in_use at link (due - 1) step.0))
          ∙ so_far.rest)));
      content = more ∙ ap (λ (xs : List ℕ). xs ++ drop 4 piece) so_far.content
          ∙ ap (λ (xs : List ℕ). flat_map (content_of page_size seen) pages ++ drop 4 xs) step.3
          ∙ ap (λ (xs : List ℕ). flat_map (content_of page_size seen) pages ++ xs) (sym (append-nil (content_of page_size seen link)))
          ∙ sym (flat_map-append (content_of page_size seen) pages (link ∷ []))
          ∙ ap (flat_map (content_of page_size seen)) (sym pushed);
    }

pub chain_wrong : (seen taken : List ℕ) (holder first all : ℕ) (used used' : FinSet nat_cmp) (at link due page : ℕ) (pages bytes piece : List ℕ) → 0 < due
    → ((in_use : List ℕ) → used ≡ from_list in_use → IsFollowed seen in_use at link used' piece (Err (NotDatabase page)))
    → ChainSoFar seen taken holder first all used at link due pages bytes → follow page_size seen taken holder first all ≡ Err page
chain_wrong seen taken holder first all used used' at link due page pages bytes piece some followed so_far =
    let step = followed so_far.in_use so_far.set in
    sym so_far.rest ∙ ap (ahead pages) (one_due page_size seen so_far.in_use at link due some ∙ unnamed page_size seen so_far.in_use at link (due - 1) step.1)
    ∙ ap (λ (n : ℕ). Err n) (sym step.0)

none_due : (size : ℕ) (file taken : List ℕ) (holder link due : ℕ) (b : Bool) → due ≡ 0 → (link == 0) ≡ b → follow size file taken holder link due ≡ (if b then Ok [] else Err holder)
none_due size file taken holder link due b none is =
    ap (λ (n : ℕ). follow size file taken holder link n) none ∙ ap (λ (t : Bool). if t then Ok [] else Err holder) is

pub chain_ends : (seen taken : List ℕ) (holder first all : ℕ) (used : FinSet nat_cmp) (at link due : ℕ) (pages bytes : List ℕ) → due ≡ 0 → link ≡ 0
    → ChainSoFar seen taken holder first all used at link due pages bytes → follow page_size seen taken holder first all ≡ Ok pages
chain_ends seen taken holder first all used at link due pages bytes none last so_far =
    let is : (link == 0) ≡ true = grind (arith, nat_tests) in
    sym so_far.rest ∙ ap (ahead pages) (none_due page_size seen so_far.in_use at link due true none is) ∙ ap (λ (xs : List ℕ). Ok xs) (append-nil pages)

pub chain_overruns : (seen taken : List ℕ) (holder first all : ℕ) (used : FinSet nat_cmp) (at link due : ℕ) (pages bytes : List ℕ) → due ≡ 0 → link ≢ 0
    → ChainSoFar seen taken holder first all used at link due pages bytes → follow page_size seen taken holder first all ≡ Err at
chain_overruns seen taken holder first all used at link due pages bytes none more so_far =
    let is : (link == 0) ≡ false = grind (arith, nat_tests) in
    sym so_far.rest ∙ ap (ahead pages) (none_due page_size seen so_far.in_use at link due false none is)

-- a chain of some bytes follows its first link
is_followed : (seen taken : List ℕ) (holder first count : ℕ) → count ≢ 0
    → chain page_size seen taken holder first count ≡ follow page_size seen taken holder first (pages_for (content_size page_size) count)
is_followed seen taken holder first count some =
    let is : (count == 0) ≡ false = grind (arith, nat_tests) in
    ap (λ (b : Bool). if b then Err holder else follow page_size seen taken holder first (pages_for (content_size page_size) count)) is

-- the same, over a disk that may not tell its bytes
abbrev Followed : List ℕ → FinSet nat_cmp → ℕ → ℕ → FinSet nat_cmp → List ℕ → Result ℕ OpenCause → Type 0
Followed seen used at link used' piece result = (in_use : List ℕ) → used ≡ from_list in_use → IsFollowed seen in_use at link used' piece result

abbrev SoFar : List ℕ → List ℕ → ℕ → ℕ → ℕ → FinSet nat_cmp → ℕ → ℕ → ℕ → List ℕ → List ℕ → Type 0
SoFar seen taken holder first count used at link due pages bytes = ChainSoFar seen taken holder first (pages_for (content_size page_size) count) used at link due pages bytes

pub none_before : (due all : ℕ) (pages : List ℕ) → pages ≡ [] → due ≡ all → length pages + due ≡ all
none_before due all pages none is = let no : length pages ≡ 0 = ap length none in omega (arith, no, is)

pub chain_fails : (o now : Option (List ℕ)) (taken : List ℕ) (holder first count : ℕ) (used used' : FinSet nat_cmp) (at link due : ℕ) (pages bytes piece : List ℕ) (cause : OpenCause) → now ≡ o → count ≢ 0 → 0 < due
    → IfSome now (λ seen. Followed seen used at link used' piece (Err cause)) → IfSome o (λ seen. SoFar seen taken holder first count used at link due pages bytes)
    → IfSome o (λ seen. IsChainRead seen taken holder first count (Err cause))
chain_fails None now taken holder first count used used' at link due pages bytes piece cause same some more followed so_far = tt
chain_fails (Some seen) now taken holder first count used used' at link due pages bytes piece Disk same some more followed so_far = tt
chain_fails (Some seen) now taken holder first count used used' at link due pages bytes piece (NotDatabase page) same some more followed so_far =
    is_followed seen taken holder first count some ∙ chain_wrong seen taken holder first (pages_for (content_size page_size) count) used used' at link due page pages bytes piece more
    (subst (λ (o : Option (List ℕ)). IfSome o (λ seen. Followed seen used at link used' piece (Err (NotDatabase page)))) same followed) so_far
chain_fails (Some seen) now taken holder first count used used' at link due pages bytes piece Memory same some more followed so_far = tt

pub chain_begins : (o : Option (List ℕ)) (taken : List ℕ) (holder first count due : ℕ) (used : FinSet nat_cmp) (pages bytes : List ℕ) → used ≡ from_list taken
    → due ≡ pages_for (content_size page_size) count → pages ≡ [] → bytes ≡ [] → IfSome o (λ seen. SoFar seen taken holder first count used holder first due pages bytes)
chain_begins None taken holder first count due used pages bytes set all no_pages no_bytes = tt
chain_begins (Some seen) taken holder first count due used pages bytes set all no_pages no_bytes =
    subst (λ (n : ℕ). SoFar seen taken holder first count used holder first n pages bytes) (sym all)
    (subst (λ (xs : List ℕ). SoFar seen taken holder first count used holder first (pages_for (content_size page_size) count) xs bytes) (sym no_pages)
    (subst (λ (xs : List ℕ). SoFar seen taken holder first count used holder first (pages_for (content_size page_size) count) [] xs) (sym no_bytes)
    (chain_starts seen taken holder first (pages_for (content_size page_size) count) used set)))

pub chain_goes_on : (o now : Option (List ℕ)) (taken : List ℕ) (holder first count : ℕ) (used used' : FinSet nat_cmp) (at link due next : ℕ) (pages bytes piece pages' bytes' : List ℕ) (due' : ℕ) → now ≡ o → (0 < due) × (due' ≡ due - 1)
    → pages' ≡ pages ++ link ∷ [] → bytes' ≡ bytes ++ drop 4 piece → IfSome now (λ seen. Followed seen used at link used' piece (Ok next))
    → IfSome o (λ seen. SoFar seen taken holder first count used at link due pages bytes) → IfSome o (λ seen. SoFar seen taken holder first count used' link next due' pages' bytes')
chain_goes_on None now taken holder first count used used' at link due next pages bytes piece pages' bytes' due' same less pushed more followed so_far = tt
chain_goes_on (Some seen) now taken holder first count used used' at link due next pages bytes piece pages' bytes' due' same less pushed more followed so_far =
    chain_step seen taken holder first (pages_for (content_size page_size) count) used used' at link due next pages bytes piece pages' bytes' due' less.0 less.1 pushed more
    (subst (λ (o : Option (List ℕ)). IfSome o (λ seen. Followed seen used at link used' piece (Ok next))) same followed) so_far

pub chain_overrun : (o : Option (List ℕ)) (taken : List ℕ) (holder first count : ℕ) (used : FinSet nat_cmp) (at link due : ℕ) (pages bytes : List ℕ) → count ≢ 0 → due ≡ 0 → link ≢ 0
    → IfSome o (λ seen. SoFar seen taken holder first count used at link due pages bytes) → IfSome o (λ seen. chain page_size seen taken holder first count ≡ Err at)
chain_overrun None taken holder first count used at link due pages bytes some none more so_far = tt
chain_overrun (Some seen) taken holder first count used at link due pages bytes some none more so_far =
    is_followed seen taken holder first count some ∙ chain_overruns seen taken holder first (pages_for (content_size page_size) count) used at link due pages bytes none more so_far

pub chain_whole : (o : Option (List ℕ)) (taken : List ℕ) (holder first count : ℕ) (used : FinSet nat_cmp) (at link due : ℕ) (pages bytes bytes' : List ℕ) → count ≢ 0 → due ≡ 0 → link ≡ 0 → bytes' ≡ take count bytes
    → IfSome o (λ seen. SoFar seen taken holder first count used at link due pages bytes)
    → IfSome o (λ seen. (chain page_size seen taken holder first count ≡ Ok pages) × (bytes' ≡ chain_bytes page_size seen pages count))
chain_whole None taken holder first count used at link due pages bytes bytes' some none last cut so_far = tt
chain_whole (Some seen) taken holder first count used at link due pages bytes bytes' some none last cut so_far = (
  is_followed seen taken holder first count some ∙ chain_ends seen taken holder first (pages_for (content_size page_size) count) used at link due pages bytes none last so_far,
  cut ∙ ap (take count) so_far.content,
)

and_false : (b : Bool) → (b && false) ≡ false
and_false true = refl
and_false false = refl

-- a page that is in use
pub taken_link : (o : Option (List ℕ)) (used : FinSet nat_cmp) (holder link : ℕ) → contains used link ≡ true
    → IfSome o (λ seen. (taken : List ℕ) → used ≡ from_list taken → (holder ≡ holder) × (names_page page_size seen taken link ≡ false))
taken_link None used holder link had = tt
taken_link (Some seen) used holder link had = λ taken is. (
  refl,
  ap (λ (b : Bool). nat_lt 0 link && has_page page_size seen link && not b) (sym (contains-from_list_nat taken link) ∙ ap (λ (s : FinSet nat_cmp). contains s link) (sym is) ∙ had)
      ∙ and_false (nat_lt 0 link && has_page page_size seen link),
)

-- a page that the disk hasn't whole
pub past_link : (o : Option (List ℕ)) (used : FinSet nat_cmp) (holder link : ℕ) (b : Bool) → b ≡ false → IfSome o (λ seen. b ≡ has_page page_size seen link)
    → IfSome o (λ seen. (taken : List ℕ) → used ≡ from_list taken → (holder ≡ holder) × (names_page page_size seen taken link ≡ false))
past_link None used holder link b past whole = tt
past_link (Some seen) used holder link b past whole = λ taken is. (
  refl,
  ap (λ (t : Bool). nat_lt 0 link && t && not (list_any (λ page. nat_eq page link) taken)) (sym whole ∙ past)
      ∙ ap (λ (t : Bool). t && not (list_any (λ page. nat_eq page link) taken)) (and_false (nat_lt 0 link)),
)

pub link_followed : (o : Option (List ℕ)) (used used' : FinSet nat_cmp) (holder link next : ℕ) (piece : List ℕ) (b : Bool) → link ≢ 0 → contains used link ≡ false → used' ≡ insert used link → b ≡ true
    → IfSome o (λ seen. b ≡ has_page page_size seen link) → IfSome o (λ seen. OnTrue b (piece ≡ page_at page_size seen link)) → next ≡ from_le_bytes w32 (take 4 piece)
    → IfSome o (λ seen. (taken : List ℕ) → used ≡ from_list taken → IsFollowed seen taken holder link used' piece (Ok next))
link_followed None used used' holder link next piece b some free added there whole read found = tt
link_followed (Some seen) used used' holder link next piece b some free added there whole read found = λ taken is.
    let held : piece ≡ page_at page_size seen link = subst (λ (t : Bool). OnTrue t (piece ≡ page_at page_size seen link)) there read in
    let positive : nat_lt 0 link ≡ true = grind (arith, nat_tests) in
    let fits : has_page page_size seen link ≡ true = sym whole ∙ there in
    let unused : list_any (λ page. nat_eq page link) taken ≡ false = sym (contains-from_list_nat taken link) ∙ ap (λ (s : FinSet nat_cmp). contains s link) (sym is) ∙ free in (
      ap (λ (t : Bool). t && has_page page_size seen link && not (list_any (λ page. nat_eq page link) taken)) positive
          ∙ ap (λ (t : Bool). true && t && not (list_any (λ page. nat_eq page link) taken)) fits
          ∙ ap (λ (t : Bool). true && true && not t) unused,
      found ∙ ap (λ (xs : List ℕ). from_le_bytes w32 (take 4 xs)) held,
      added ∙ ap (λ (s : FinSet nat_cmp). insert s link) is,
      held,
    )
