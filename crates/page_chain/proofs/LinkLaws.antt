-- The links of a chain, and following them.
use Rattle.std.proofs.Common.{◌≡◌, ◌≢◌, ◌<◌, ℕ, zero, suc, ◌+◌, Bool, true, false, List, [], ◌∷◌, length, slice_index, refl, sym, ◌∙◌, ap, subst, arith}
use Rattle.std.specs.Prelude.{if◌then◌else◌, ◌==◌, ◌&&◌, ◌||◌, not, nat_eq, nat_lt, ◌↔◌, Result, Ok, Err}
use Rattle.std.specs.List.{list_any}
use Rattle.std.proofs.lemmas.Bool.Decides.{nat_tests}
use Rattle.page_chain.specs.Pages.{page_size, has_page, pages_for, AreDistinct}
use Rattle.page_chain.specs.Chains.{content_size, names_page, next_of, after, follow, chain}
use Rattle.page_chain.specs.Links.{AreLinked}

pub unequal : (p q : ℕ) → p ≢ q → nat_eq p q ≡ false
unequal p q apart = grind (arith, nat_tests)

-- a page stays nameable while another one is taken
names_more : (file taken : List ℕ) (p q : ℕ) → p ≢ q → names_page page_size file taken q ≡ true → names_page page_size file (p ∷ taken) q ≡ true
names_more file taken p q apart names =
    ap (λ (b : Bool). nat_lt 0 q && has_page page_size file q && not (b || list_any (λ page. nat_eq page q) taken)) (unequal p q apart) ∙ names

fewer : (x b rest : Bool) → (x && not (b || rest)) ≡ true → ((x && not rest) ≡ true) × (b ≡ false)
fewer true true rest is = cc
fewer true false rest is = (is, refl)
fewer false b rest is = cc

names_fewer : (file taken : List ℕ) (p q : ℕ) → names_page page_size file (p ∷ taken) q ≡ true → names_page page_size file taken q ≡ true
names_fewer file taken p q names = (fewer (nat_lt 0 q && has_page page_size file q) (nat_eq p q) (list_any (λ page. nat_eq page q) taken) names).0

names_other : (file taken : List ℕ) (p q : ℕ) → names_page page_size file (p ∷ taken) q ≡ true → p ≢ q
names_other file taken p q names same =
    let no : nat_eq p q ≡ false = (fewer (nat_lt 0 q && has_page page_size file q) (nat_eq p q) (list_any (λ page. nat_eq page q) taken) names).1 in
    let is : nat_eq p q ≡ true = grind (arith, nat_tests) in
    absurd (cc (no, is))

-- the links of so many pages that are due
pub record Walked (file taken : List ℕ) (link due : ℕ) (pages : List ℕ) : Type 0 where
  pub size : length pages ≡ due
  pub begins : slice_index pages 0 ≡ link
  pub next : (k : ℕ) → k < length pages → next_of page_size file (slice_index pages k) ≡ slice_index pages (k + 1)
  pub named : (k : ℕ) → k < length pages → names_page page_size file taken (slice_index pages k) ≡ true
  pub distinct : AreDistinct pages

named_is : (file taken : List ℕ) (holder link due : ℕ) → names_page page_size file taken link ≡ true
    → follow page_size file taken holder link (suc due) ≡ after link (follow page_size file (link ∷ taken) link (next_of page_size file link) due)
named_is file taken holder link due names =
    ap (λ (b : Bool). if b then after link (follow page_size file (link ∷ taken) link (next_of page_size file link) due) else Err holder) names

follows : (file taken : List ℕ) (holder : ℕ) (pages : List ℕ)
    → ((k : ℕ) → k < length pages → next_of page_size file (slice_index pages k) ≡ slice_index pages (k + 1))
    → ((k : ℕ) → k < length pages → names_page page_size file taken (slice_index pages k) ≡ true) → AreDistinct pages
    → follow page_size file taken holder (slice_index pages 0) (length pages) ≡ Ok pages
follows file taken holder [] next named distinct = refl
follows file taken holder (p ∷ ps) next named distinct =
    let first : names_page page_size file taken p ≡ true = named 0 (omega arith) in
    let second : next_of page_size file p ≡ slice_index ps 0 = next 0 (omega arith) in
    named_is file taken holder p (length ps) first
    ∙ ap (λ (n : ℕ). after p (follow page_size file (p ∷ taken) p n (length ps))) second
    ∙ ap (after p) (follows file (p ∷ taken) p ps
    (λ k low. let e : suc k + 1 ≡ suc (k + 1) = omega arith in next (suc k) (omega arith) ∙ ap (slice_index (p ∷ ps)) e)
    (λ k low. names_more file taken p (slice_index ps k) (distinct 0 (suc k) (omega arith) (omega arith)) (named (suc k) (omega arith)))
    (λ i j less low. distinct (suc i) (suc j) (omega arith) (omega arith)))

cons_next : (file : List ℕ) (link : ℕ) (ps : List ℕ) → slice_index ps 0 ≡ next_of page_size file link
    → ((k : ℕ) → k < length ps → next_of page_size file (slice_index ps k) ≡ slice_index ps (k + 1))
    → (k : ℕ) → k < length (link ∷ ps) → next_of page_size file (slice_index (link ∷ ps) k) ≡ slice_index (link ∷ ps) (k + 1)
cons_next file link ps begins next zero low = sym begins
cons_next file link ps begins next (suc k) low =
    let e : suc k + 1 ≡ suc (k + 1) = omega arith in next k (omega arith) ∙ sym (ap (slice_index (link ∷ ps)) e)

cons_named : (file taken : List ℕ) (link : ℕ) (ps : List ℕ) → names_page page_size file taken link ≡ true
    → ((k : ℕ) → k < length ps → names_page page_size file (link ∷ taken) (slice_index ps k) ≡ true)
    → (k : ℕ) → k < length (link ∷ ps) → names_page page_size file taken (slice_index (link ∷ ps) k) ≡ true
cons_named file taken link ps names named zero low = names
cons_named file taken link ps names named (suc k) low = names_fewer file taken link (slice_index ps k) (named k (omega arith))

cons_distinct : (link : ℕ) (ps : List ℕ) → ((k : ℕ) → k < length ps → link ≢ slice_index ps k) → AreDistinct ps → AreDistinct (link ∷ ps)
cons_distinct link ps others distinct zero zero less low = absurd (omega arith)
cons_distinct link ps others distinct zero (suc j) less low = others j (omega arith)
cons_distinct link ps others distinct (suc i) zero less low = absurd (omega arith)
cons_distinct link ps others distinct (suc i) (suc j) less low = distinct i j (omega arith) (omega arith)

cons_walk : (file taken : List ℕ) (link due : ℕ) (ps : List ℕ) → names_page page_size file taken link ≡ true → Walked file (link ∷ taken) (next_of page_size file link) due ps → Walked file taken link (suc due) (link ∷ ps)
cons_walk file taken link due ps names walk = record {
  size = ap suc walk.size;
  begins = refl;
  next = cons_next file link ps walk.begins walk.next;
  named = cons_named file taken link ps names walk.named;
  distinct = cons_distinct link ps (λ k low. names_other file taken link (slice_index ps k) (walk.named k low)) walk.distinct;
}

no_walk : (file taken : List ℕ) → Walked file taken 0 0 []
no_walk file taken = record {
  size = refl;
  begins = refl;
  next = λ k low. absurd (omega arith);
  named = λ k low. absurd (omega arith);
  distinct = λ i j less low. absurd (omega arith);
}

at_end : (file taken : List ℕ) (holder link : ℕ) (pages : List ℕ) (b : Bool) → (link == 0) ≡ b → (if b then Ok [] else Err holder) ≡ Ok pages → Walked file taken link 0 pages
at_end file taken holder link pages true last is =
    let none : [] ≡ pages = cc in
    let zero_is : 0 ≡ link = grind (arith, nat_tests) in
    subst (Walked file taken link 0) none (subst (λ (n : ℕ). Walked file taken n 0 []) zero_is (no_walk file taken))
at_end file taken holder link pages false last is = cc

behind : (file taken : List ℕ) (link due : ℕ) (pages : List ℕ) (rest : Result (List ℕ) ℕ) → names_page page_size file taken link ≡ true
    → ((ps : List ℕ) → rest ≡ Ok ps → Walked file (link ∷ taken) (next_of page_size file link) due ps) → after link rest ≡ Ok pages → Walked file taken link (suc due) pages
behind file taken link due pages (Ok ps) names walk is =
    let all : link ∷ ps ≡ pages = cc in
    subst (Walked file taken link (suc due)) all (cons_walk file taken link due ps names (walk ps refl))
behind file taken link due pages (Err holder) names walk is = cc

one_on : (file taken : List ℕ) (holder link due : ℕ) (pages : List ℕ) (rest : Result (List ℕ) ℕ) (b : Bool) → names_page page_size file taken link ≡ b
    → ((ps : List ℕ) → rest ≡ Ok ps → Walked file (link ∷ taken) (next_of page_size file link) due ps) → (if b then after link rest else Err holder) ≡ Ok pages → Walked file taken link (suc due) pages
one_on file taken holder link due pages rest true names walk is = behind file taken link due pages rest names walk is
one_on file taken holder link due pages rest false names walk is = cc

walked : (due : ℕ) (file taken : List ℕ) (holder link : ℕ) (pages : List ℕ) → follow page_size file taken holder link due ≡ Ok pages → Walked file taken link due pages
walked zero file taken holder link pages is = at_end file taken holder link pages (link == 0) refl is
walked (suc due) file taken holder link pages is =
    one_on file taken holder link due pages (follow page_size file (link ∷ taken) link (next_of page_size file link) due) (names_page page_size file taken link) refl
    (λ ps e. walked due file (link ∷ taken) link (next_of page_size file link) ps e) is

begun : (file taken : List ℕ) (holder link count : ℕ) (pages : List ℕ) (b : Bool) → (count == 0) ≡ b
    → (if b then Err holder else follow page_size file taken holder link (pages_for (content_size page_size) count)) ≡ Ok pages → AreLinked file taken link count pages
begun file taken holder link count pages true none is = cc
begun file taken holder link count pages false some is =
    let walk = walked (pages_for (content_size page_size) count) file taken holder link pages is in
    record { some = grind (arith, nat_tests); enough = walk.size; begins = walk.begins; next = walk.next; named = walk.named; distinct = walk.distinct }

pub chain_linked : (file taken pages : List ℕ) (holder link count : ℕ) → chain page_size file taken holder link count ≡ Ok pages → AreLinked file taken link count pages
chain_linked file taken pages holder link count is = begun file taken holder link count pages (count == 0) refl is

pub linked_chain : (file taken pages : List ℕ) (holder link count : ℕ) → AreLinked file taken link count pages → chain page_size file taken holder link count ≡ Ok pages
linked_chain file taken pages holder link count linked =
    let more : 0 < count = linked.some in
    let some : (count == 0) ≡ false = grind (arith, nat_tests) in
    ap (λ (b : Bool). if b then Err holder else follow page_size file taken holder link (pages_for (content_size page_size) count)) some
    ∙ ap (λ (n : ℕ). follow page_size file taken holder n (pages_for (content_size page_size) count)) (sym linked.begins)
    ∙ ap (follow page_size file taken holder (slice_index pages 0)) (sym linked.enough)
    ∙ follows file taken holder pages linked.next linked.named linked.distinct

pub chain_is_links : (file taken pages : List ℕ) (holder link count : ℕ) → (chain page_size file taken holder link count ≡ Ok pages) ↔ AreLinked file taken link count pages
chain_is_links file taken pages holder link count = (chain_linked file taken pages holder link count, linked_chain file taken pages holder link count)
