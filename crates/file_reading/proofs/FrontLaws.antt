-- Page 0 is none of the catalogue's pages of a file that is told.
use Rattle.std.proofs.Common.{◌≡◌, ◌<◌, ℕ, suc, Bool, true, false, List, [], ◌∷◌, ◌++◌, length, slice_index, Option, IfSome, Ok, Err, refl, sym, ◌∙◌, ap, subst, arith}
use Rattle.std.specs.Prelude.{◌&&◌, ◌||◌, nat_eq, nat_lt, not}
use Rattle.std.specs.List.{list_any}
use Rattle.std.proofs.lemmas.Bool.Decides.{nat_tests}
use Rattle.std.proofs.lemmas.List.Folds.{list_any-append}
use Rattle.page_chain.specs.declared.slots.layout.logs.RecordAt.{RecordAt}
use Rattle.page_chain.specs.Pages.{page_size, has_page}
use Rattle.page_chain.specs.Chains.{chain}
use Rattle.page_chain.proofs.LinkLaws.{chain_linked}
use Rattle.version_catalog.specs.declared.rules.catalog.Catalog.{Catalog}
use Rattle.version_reaper.specs.PageSets.{holds, is_held}
use Rattle.file_meaning.specs.Slots.{Slots}
use Rattle.file_meaning.specs.Opening.{Logged, all_of, catalogue_pages, found_in, logged_in}
use Rattle.file_meaning.specs.declared.meaning.found.Found.{Found}
use Rattle.file_items.proofs.BytesLaws.{ok_is}
use Rattle.file_meaning.proofs.Elsewhere.{found_steps, record_steps}
use Rattle.file_reading.proofs.Steps.{if_some}

above_zero : (p : ℕ) → nat_lt 0 p ≡ true → nat_eq p 0 ≡ false
above_zero p is = grind (arith, nat_tests)

none_zero : (pages : List ℕ) → ((k : ℕ) → k < length pages → nat_lt 0 (slice_index pages k) ≡ true) → holds pages 0 ≡ false
none_zero [] each = refl
none_zero (p ∷ pages) each = ap (λ (b : Bool). b || holds pages 0) (above_zero p (each 0 (omega arith))) ∙ none_zero pages (λ k low. each (suc k) (omega (arith, low)))

first_part : (x y z : Bool) → (x && y && z) ≡ true → x ≡ true
first_part true y z is = refl
first_part false y z is = absurd cc

chain_above : (file taken pages : List ℕ) (holder link count : ℕ) → chain page_size file taken holder link count ≡ Ok pages → holds pages 0 ≡ false
chain_above file taken pages holder link count is =
    let linked = chain_linked file taken pages holder link count is in
    none_zero pages (λ k low. let p = slice_index pages k in first_part (nat_lt 0 p) (has_page page_size file p) (not (list_any (λ q. nat_eq q p) taken)) (linked.named k low))

joined : (xs ys : List ℕ) → holds xs 0 ≡ false → holds ys 0 ≡ false → holds (xs ++ ys) 0 ≡ false
joined xs ys first second = list_any-append (λ other. nat_eq other 0) xs ys ∙ ap (λ (b : Bool). b || holds ys 0) first ∙ second

log_above : (file : List ℕ) (log : ℕ) (records : List RecordAt) (taken : List ℕ) (catalog : Catalog) (logged : Logged) → logged_in file log taken catalog records ≡ Ok logged → holds (all_of logged.pages) 0 ≡ false
log_above file log [] taken catalog logged is =
    let none : Logged = record { pages = []; catalog = catalog; taken = taken } in
    let same : none ≡ logged = ok_is none logged is in
    ap (λ (l : Logged). holds (all_of l.pages) 0) (sym same)
log_above file log (at ∷ records) taken catalog logged is =
    let s = record_steps file log taken catalog at records logged is in
    let first = chain_above file taken s.pages log at.first at.length s.chained in
    let rest = log_above file log records (s.pages ++ taken) _ s.later s.rest in
    subst (λ (l : Logged). holds (all_of l.pages) 0 ≡ false) s.is (joined s.pages (all_of s.later.pages) first rest)

pub catalogue_above : (file : List ℕ) (slots : Slots) (found : Found) → found_in file slots ≡ Ok found → holds (catalogue_pages found) 0 ≡ false
catalogue_above file slots found is =
    let s = found_steps file slots found is in
    let root = slots.current.root in
    let first = chain_above file (root.log ∷ []) found.chain 0 root.first root.length s.chained in
    let rest = log_above file root.log slots.records (found.chain ++ root.log ∷ []) s.base s.logged s.logs in
    joined found.chain (all_of found.logged) first (subst (λ (ps : List (List ℕ)). holds (all_of ps) 0 ≡ false) s.pages rest)

-- so no file that is told stops there
pub none_stops : (tells : Option (List ℕ)) (slots : Slots) (found : Found) → holds (catalogue_pages found) 0 ≡ true → IfSome tells (λ seen. found_in seen slots ≡ Ok found)
    → IfSome tells (λ seen. found_in seen slots ≡ Err 0)
none_stops tells slots found is all =
    if_some (λ (seen : List ℕ). found_in seen slots ≡ Ok found) (λ seen. found_in seen slots ≡ Err 0) tells all
    (λ seen told. absurd (let none = catalogue_above seen slots found told in let e : true ≡ false = sym is ∙ none in cc))

-- the pages of some lists
held_in : (lists : List (List ℕ)) (page : ℕ) → holds (all_of lists) page ≡ is_held lists page
held_in [] page = refl
held_in (list ∷ lists) page = list_any-append (λ other. nat_eq other page) list (all_of lists) ∙ ap (λ (b : Bool). holds list page || b) (held_in lists page)

pub front_in : (chain : List ℕ) (logged : List (List ℕ)) (page : ℕ) → holds (chain ++ all_of logged) page ≡ (holds chain page || is_held logged page)
front_in chain logged page = list_any-append (λ other. nat_eq other page) chain (all_of logged) ∙ ap (λ (b : Bool). holds chain page || b) (held_in logged page)
