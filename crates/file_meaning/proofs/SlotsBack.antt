-- A file opens as the slots that are found.
use Rattle.std.proofs.Common.{◌≡◌, ◌≢◌, ◌<◌, ◌≤◌, ℕ, zero, suc, ◌+◌, ◌*◌, Bool, true, false, List, [], ◌∷◌, length, slice_index, refl, sym, ◌∙◌, ap, subst, arith}
use Rattle.std.specs.Prelude.{if◌then◌else◌, ◌==◌, slice_index_or, Option, Some, None, Ok, Err}
use Rattle.std.proofs.lemmas.Bool.Decides.{nat_tests}
use Rattle.file_items.specs.Items.{◌>>=◌}
use Rattle.file_items.proofs.BytesLaws.{bind_ok, ok_is}
use Rattle.page_chain.specs.Roots.{current}
use Rattle.page_chain.specs.Logs.{record_at}
use Rattle.page_chain.specs.Opens.{OpensAs, HasLog}
use Rattle.page_chain.specs.declared.slots.layout.sides.Format.{Format}
use Rattle.page_chain.specs.declared.slots.layout.sides.Format.TheVariants.{One, Two}
use Rattle.page_chain.specs.declared.slots.layout.roots.OpenRoot.{OpenRoot}
use Rattle.page_chain.specs.declared.slots.layout.logs.RecordAt.{RecordAt}
use Rattle.page_file.specs.Pages.{page_size}
use Rattle.page_file.specs.Chains.{names_page}
use Rattle.file_meaning.specs.Slots.{Slots, is_any_open, log_from, log_of, slots_of, slots_in}
use Rattle.file_meaning.proofs.SlotLaws.{IsLogOf}
use Rattle.file_meaning.proofs.WrongSlots.{any_open, named_page}

none_open : (n at : ℕ) (file : List ℕ) → is_any_open n at file ≡ false → (k : ℕ) → k < n → slice_index file (at + 64 * k) ≢ 1
none_open n at file none k low is = let some = any_open n at k file low is in absurd (let no : true ≡ false = sym some ∙ none in cc)

with_first : (n at : ℕ) (rs : List RecordAt) (file : List ℕ) → slice_index file at ≡ 1 → IsLogOf n (at + 64) rs file → IsLogOf (suc n) at (record_at (at + 8) file ∷ rs) file
with_first n at rs file open_ log = record {
  fits = omega (arith, log.fits);
  opened = opened;
  closed = closed;
  each = each;
}
  where
    opened : (k : ℕ) → k < suc (length rs) → slice_index file (at + 64 * k) ≡ 1
    opened zero low = let e : at ≡ at + 64 * 0 = omega arith in subst (λ (p : ℕ). slice_index file p ≡ 1) e open_
    opened (suc k) low = let e : at + 64 + 64 * k ≡ at + 64 * suc k = omega arith in subst (λ (p : ℕ). slice_index file p ≡ 1) e (log.opened k (omega arith))

    closed : (k : ℕ) → suc (length rs) ≤ k → k < suc n → slice_index file (at + 64 * k) ≢ 1
    closed zero high low = absurd (omega arith)
    closed (suc k) high low = let e : at + 64 + 64 * k ≡ at + 64 * suc k = omega arith in subst (λ (p : ℕ). slice_index file p ≢ 1) e (log.closed k (omega arith) (omega arith))

    each : (d : RecordAt) (k : ℕ) → k < suc (length rs) → slice_index_or (record_at (at + 8) file ∷ rs) k d ≡ record_at (at + 64 * k + 8) file
    each d zero low = let e : at + 8 ≡ at + 64 * 0 + 8 = omega arith in ap (λ (p : ℕ). record_at p file) e
    each d (suc k) low = let e : at + 64 + 64 * k + 8 ≡ at + 64 * suc k + 8 = omega arith in log.each d k (omega arith) ∙ ap (λ (p : ℕ). record_at p file) e

no_records : (n at : ℕ) (file : List ℕ) → slice_index file at ≢ 1 → ((k : ℕ) → k < n → slice_index file (at + 64 + 64 * k) ≢ 1) → IsLogOf (suc n) at [] file
no_records n at file shut later = record {
  fits = omega arith;
  opened = λ k low. absurd (omega arith);
  closed = closed;
  each = λ d k low. absurd (omega arith);
}
  where
    closed : (k : ℕ) → 0 ≤ k → k < suc n → slice_index file (at + 64 * k) ≢ 1
    closed zero high low = let e : at ≡ at + 64 * 0 = omega arith in subst (λ (p : ℕ). slice_index file p ≢ 1) e shut
    closed (suc k) high low = let e : at + 64 + 64 * k ≡ at + 64 * suc k = omega arith in subst (λ (p : ℕ). slice_index file p ≢ 1) e (later k (omega arith))

log_back : (n at page : ℕ) (records : List RecordAt) (file : List ℕ) → log_from page n at file ≡ Ok records → IsLogOf n at records file
log_back zero at page records file is =
    let none : [] ≡ records = ok_is [] records is in
    subst (λ (rs : List RecordAt). IsLogOf 0 at rs file) none (record { fits = omega arith; opened = λ k low. absurd (omega arith); closed = λ k high low. absurd (omega arith); each = λ d k low. absurd (omega arith) })
log_back (suc n) at page records file is = cases (slice_index file at == 1) (is_any_open n (at + 64) file) refl refl is (λ rs e. log_back n (at + 64) page rs file e)
  where
    cases : (b any : Bool) → (slice_index file at == 1) ≡ b → is_any_open n (at + 64) file ≡ any
        → (if b then (log_from page n (at + 64) file >>= λ rs. Ok (record_at (at + 8) file ∷ rs)) else (if any then Err page else Ok [])) ≡ Ok records
        → ((rs : List RecordAt) → log_from page n (at + 64) file ≡ Ok rs → IsLogOf n (at + 64) rs file) → IsLogOf (suc n) at records file
    cases true any open_ other step later =
        let a = bind_ok (log_from page n (at + 64) file) (λ rs. Ok (record_at (at + 8) file ∷ rs)) records step in
        let one : slice_index file at ≡ 1 = grind (arith, nat_tests) in
        subst (λ (rs : List RecordAt). IsLogOf (suc n) at rs file) (ok_is (record_at (at + 8) file ∷ a.0) records a.2) (with_first n at a.0 file one (later a.0 a.1))
    cases false true shut other step later = absurd cc
    cases false false shut other step later =
        let none : [] ≡ records = ok_is [] records step in
        let closed : slice_index file at ≢ 1 = grind (arith, nat_tests) in
        subst (λ (rs : List RecordAt). IsLogOf (suc n) at rs file) none (no_records n at file closed (none_open n (at + 64) file other))

log_of_back : (format : Format) (log : ℕ) (records : List RecordAt) (file : List ℕ) → log_of format log file ≡ Ok records → HasLog format log records file
log_of_back One log records file is = sym (ok_is [] records is)
log_of_back Two log records file is = cases (names_page page_size file [] log) refl is
  where
    cases : (b : Bool) → names_page page_size file [] log ≡ b → (if b then log_from log 64 (4096 * log) file else Err 0) ≡ Ok records → HasLog Two log records file
    cases true named step =
        let l = log_back 64 (4096 * log) log records file step in
        (named_page file log named, record { fits = l.fits; opened = l.opened; closed = l.closed; each = l.each })
    cases false named step = absurd cc

slots_back : (file : List ℕ) (found : Option OpenRoot) (slots : Slots) → current file ≡ found → slots_of file found ≡ Ok slots → OpensAs slots.current slots.records file
slots_back file None slots at is = absurd cc
slots_back file (Some root) slots at is =
    let a = bind_ok (log_of root.format root.root.log file) (λ records. Ok (record { current = root; records = records })) slots is in
    let same : record { current = root; records = a.0 } ≡ slots = ok_is (record { current = root; records = a.0 }) slots a.2 in
    subst (λ (s : Slots). OpensAs s.current s.records file) same (record { slot = at; log = log_of_back root.format root.root.log a.0 file a.1 })

pub slots_open : (file : List ℕ) (slots : Slots) → slots_in file ≡ Ok slots → OpensAs slots.current slots.records file
unfolding slots_in
slots_open file slots is = slots_back file (current file) slots refl is
