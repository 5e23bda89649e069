-- Slots that are wrong are told by the page at which the file isn't a database.
use Rattle.std.proofs.Common.{◌≡◌, ◌≢◌, ◌<◌, ◌≤◌, ◌⊎◌, ⊎_elim, inl, inr, ℕ, zero, suc, ◌+◌, ◌*◌, Bool, true, false, List, [], ◌∷◌, length, slice_index, refl, sym, ◌∙◌, ap, subst, arith}
use Rattle.std.specs.Prelude.{if◌then◌else◌, ◌==◌, ◌||◌, ◌&&◌, nat_lt, nat_le, None, Result, Ok, Err}
use Rattle.std.proofs.lemmas.Bool.Decides.{nat_tests}
use Rattle.file_items.specs.Items.{◌>>=◌}
use Rattle.page_chain.specs.Places.{IsPage}
use Rattle.page_chain.specs.Roots.{current}
use Rattle.page_chain.specs.Logs.{record_at, HasStray}
use Rattle.page_chain.specs.Opens.{LacksLog, Strays, WrongAt}
use Rattle.page_chain.specs.declared.slots.layout.sides.Format.{Format}
use Rattle.page_chain.specs.declared.slots.layout.logs.RecordAt.{RecordAt}
use Rattle.page_file.specs.Pages.{page_size}
use Rattle.page_file.specs.Chains.{names_page}
use Rattle.file_meaning.specs.Slots.{is_any_open, log_from, log_of, slots_of, slots_in}
use Rattle.file_meaning.specs.Opening.{Opens, IsWrongAt, opened}
use Rattle.file_meaning.specs.declared.meaning.found.Found.{Found}
use Rattle.file_meaning.proofs.SlotLaws.{is_one, page_named}

unless : {A B : Type 0} (step : Result A ℕ) (more : A → Result B ℕ) (page : ℕ) → step ≡ Err page → (step >>= more) ≡ Err page
unless step more page is = ap (λ (s : Result _ ℕ). s >>= more) is

pub any_open : (n at k : ℕ) (file : List ℕ) → k < n → slice_index file (at + 64 * k) ≡ 1 → is_any_open n at file ≡ true
any_open zero at k file low is = absurd (omega arith)
any_open (suc n) at zero file low is =
    let here : at + 64 * 0 ≡ at = omega arith in
    ap (λ (b : Bool). b || is_any_open n (at + 64) file) (is_one (slice_index file at) (subst (λ (p : ℕ). slice_index file p ≡ 1) here is))
any_open (suc n) at (suc k) file low is =
    let there : at + 64 * suc k ≡ at + 64 + 64 * k = omega arith in
    or_true (slice_index file at == 1) (is_any_open n (at + 64) file) (any_open n (at + 64) k file (omega arith) (subst (λ (p : ℕ). slice_index file p ≡ 1) there is))
  where
    or_true : (x y : Bool) → y ≡ true → (x || y) ≡ true
    or_true true y is = refl
    or_true false y is = is

stray_from : (n at page shut stray : ℕ) (file : List ℕ) → shut < stray → stray < n → slice_index file (at + 64 * shut) ≢ 1 → slice_index file (at + 64 * stray) ≡ 1 → log_from page n at file ≡ Err page
stray_from n at page shut zero file order within is_shut is_open = absurd (omega arith)
stray_from zero at page shut (suc stray) file order within is_shut is_open = absurd (omega arith)
stray_from (suc n) at page zero (suc stray) file order within is_shut is_open =
    let here : at + 64 * 0 ≡ at = omega arith in
    let there : at + 64 * suc stray ≡ at + 64 + 64 * stray = omega arith in
    let closed : (slice_index file at == 1) ≡ false = not_one (slice_index file at) (subst (λ (p : ℕ). slice_index file p ≢ 1) here is_shut) in
    ap (λ (b : Bool). if b then (log_from page n (at + 64) file >>= λ records. Ok (record_at (at + 8) file ∷ records)) else (if is_any_open n (at + 64) file then Err page else Ok [])) closed
    ∙ ap (λ (b : Bool). if b then Err page else Ok []) (any_open n (at + 64) stray file (omega arith) (subst (λ (p : ℕ). slice_index file p ≡ 1) there is_open))
  where
    not_one : (b : ℕ) → b ≢ 1 → (b == 1) ≡ false
    not_one b is = grind (arith, nat_tests)
stray_from (suc n) at page (suc shut) (suc stray) file order within is_shut is_open =
    let e : at + 64 * suc shut ≡ at + 64 + 64 * shut = omega arith in
    let f : at + 64 * suc stray ≡ at + 64 + 64 * stray = omega arith in
    either (slice_index file at == 1) (log_from page n (at + 64) file) (is_any_open n (at + 64) file) (λ records. Ok (record_at (at + 8) file ∷ records))
    (stray_from n (at + 64) page shut stray file (omega arith) (omega arith) (subst (λ (p : ℕ). slice_index file p ≢ 1) e is_shut) (subst (λ (p : ℕ). slice_index file p ≡ 1) f is_open))
    (any_open n (at + 64) stray file (omega arith) (subst (λ (p : ℕ). slice_index file p ≡ 1) f is_open))
  where
    either : (b : Bool) (later : Result (List RecordAt) ℕ) (any : Bool) (more : List RecordAt → Result (List RecordAt) ℕ) → later ≡ Err page → any ≡ true → (if b then (later >>= more) else (if any then Err page else Ok [])) ≡ Err page
    either true later any more is also = unless later more page is
    either false later any more is also = ap (λ (a : Bool). if a then Err page else Ok []) also

pub named_page : (file : List ℕ) (page : ℕ) → names_page page_size file [] page ≡ true → IsPage page (length file)
unfolding page_size
named_page file page is = record { least = low (nat_lt 0 page) refl is; within = high (nat_lt 0 page) (nat_le (4096 * (page + 1)) (length file)) refl is }
  where
    low : (b : Bool) → nat_lt 0 page ≡ b → (b && nat_le (4096 * (page + 1)) (length file) && true) ≡ true → 0 < page
    low true e f = grind (arith, nat_tests)
    low false e f = absurd cc

    high : (b c : Bool) → nat_le (4096 * (page + 1)) (length file) ≡ c → (b && c && true) ≡ true → 4096 * (page + 1) ≤ length file
    high true true e f = grind (arith, nat_tests)
    high true false e f = absurd cc
    high false c e f = absurd cc

not_named : (file : List ℕ) (page : ℕ) (b : Bool) → names_page page_size file [] page ≡ b → (IsPage page (length file) → ⊥) → names_page page_size file [] page ≡ false
not_named file page true is out = absurd (out (named_page file page is))
not_named file page false is out = is

lacks : (file : List ℕ) → LacksLog file → slots_in file ≡ Err 0
unfolding slots_in
lacks file l =
    let log = l.slot.root.log in
    ap (slots_of file) l.is
    ∙ unless (log_of l.slot.format log file) (λ records. Ok (record { current = l.slot; records = records })) 0
    (ap (λ (f : Format). log_of f log file) l.format ∙ ap (λ (b : Bool). if b then log_from log 64 (4096 * log) file else Err 0) (not_named file log (names_page page_size file [] log) refl l.out))

strays : (page : ℕ) (file : List ℕ) → Strays page file → slots_in file ≡ Err page
unfolding slots_in
strays page file s =
    let log = s.slot.root.log in
    let stray : HasStray (4096 * log) file = subst (λ (p : ℕ). HasStray (4096 * p) file) s.named s.stray in
    ap (slots_of file) s.is
    ∙ unless (log_of s.slot.format log file) (λ records. Ok (record { current = s.slot; records = records })) page
    (ap (λ (f : Format). log_of f log file) s.format
    ∙ ap (λ (b : Bool). if b then log_from log 64 (4096 * log) file else Err 0) (page_named file log s.log)
    ∙ stray_from 64 (4096 * log) log stray.shut stray.stray file stray.order stray.within stray.is_shut stray.is_open
    ∙ ap Err (sym s.named))

none_is : (file : List ℕ) → current file ≡ None → slots_in file ≡ Err 0
unfolding slots_in
none_is file is = ap (slots_of file) is

pub wrong_slots : (page : ℕ) (file : List ℕ) → WrongAt page file → slots_in file ≡ Err page
wrong_slots page file (inl w) = ⊎_elim (λ none. none_is file none) (λ l. lacks file l) w.1 ∙ ap Err (sym w.0)
wrong_slots page file (inr s) = strays page file s

pub wrong_file : (page : ℕ) (file : List ℕ) → WrongAt page file → IsWrongAt page file
unfolding opened
wrong_file page file wrong = unless (slots_in file) _ page (wrong_slots page file wrong)

abbrev found_is : Found → Result Found ℕ
found_is found = Ok found

abbrev page_is : ℕ → Result Found ℕ
page_is page = Err page

either_way : (answer : Result Found ℕ) → ((found : Found) × (answer ≡ Ok found)) ⊎ ((page : ℕ) × (answer ≡ Err page))
either_way (Ok found) = inl (found, refl)
either_way (Err page) = inr (page, refl)

pub opens_or_wrong : (file : List ℕ) → ((found : Found) × Opens file found) ⊎ ((page : ℕ) × IsWrongAt page file)
opens_or_wrong file = either_way (opened file)

pub one_found : (file : List ℕ) (a b : Found) → Opens file a → Opens file b → a ≡ b
one_found file a b x y = same a b (sym x ∙ y)
  where
    same : (a b : Found) → found_is a ≡ found_is b → a ≡ b
    same a b is = cc

pub one_page : (file : List ℕ) (p q : ℕ) → IsWrongAt p file → IsWrongAt q file → p ≡ q
one_page file p q x y = same p q (sym x ∙ y)
  where
    same : (p q : ℕ) → page_is p ≡ page_is q → p ≡ q
    same p q is = cc

pub not_both : (file : List ℕ) (found : Found) (page : ℕ) → Opens file found → IsWrongAt page file → ⊥
not_both file found page x y = apart found page (sym x ∙ y)
  where
    apart : (found : Found) (page : ℕ) → found_is found ≡ page_is page → ⊥
    apart found page is = cc
