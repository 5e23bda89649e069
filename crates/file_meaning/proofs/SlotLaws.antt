-- The slots that are found are those as which the file opens.
use Rattle.std.proofs.Common.{◌≡◌, ◌≢◌, ◌<◌, ◌≤◌, ℕ, zero, suc, ◌+◌, ◌*◌, Bool, true, false, List, [], ◌∷◌, length, slice_index, refl, sym, ◌∙◌, ap, subst, arith}
use Rattle.std.specs.Prelude.{if◌then◌else◌, ◌==◌, ◌||◌, ◌&&◌, nat_lt, nat_le, slice_index_or, Ok, Err}
use Rattle.std.proofs.lemmas.Bool.Decides.{nat_tests}
use Rattle.file_items.specs.Items.{◌>>=◌}
use Rattle.page_chain.specs.Places.{IsPage}
use Rattle.page_chain.specs.Logs.{record_at}
use Rattle.page_chain.specs.Opens.{OpensAs, HasLog}
use Rattle.page_chain.specs.declared.slots.layout.sides.Format.{Format}
use Rattle.page_chain.specs.declared.slots.layout.sides.Format.TheVariants.{One, Two}
use Rattle.page_chain.specs.declared.slots.layout.roots.OpenRoot.{OpenRoot}
use Rattle.page_chain.specs.declared.slots.layout.logs.RecordAt.{RecordAt}
use Rattle.page_file.specs.Pages.{page_size}
use Rattle.page_file.specs.Chains.{names_page}
use Rattle.file_meaning.specs.Slots.{is_any_open, log_from, log_of, slots_of, slots_in}
use Rattle.file_meaning.proofs.Steps.{then_is}

-- the open entries before the first closed one among so many from a place on, where no open one follows it
pub record IsLogOf (n at : ℕ) (records : List RecordAt) (file : List ℕ) : Type 0 where
  pub fits : length records ≤ n
  pub opened : (k : ℕ) → k < length records → slice_index file (at + 64 * k) ≡ 1
  pub closed : (k : ℕ) → length records ≤ k → k < n → slice_index file (at + 64 * k) ≢ 1
  pub each : (d : RecordAt) (k : ℕ) → k < length records → slice_index_or records k d ≡ record_at (at + 64 * k + 8) file

pub is_one : (b : ℕ) → b ≡ 1 → (b == 1) ≡ true
is_one b is = grind (arith, nat_tests)

not_one : (b : ℕ) → b ≢ 1 → (b == 1) ≡ false
not_one b is = grind (arith, nat_tests)

none_open : (n at : ℕ) (file : List ℕ) → ((k : ℕ) → k < n → slice_index file (at + 64 * k) ≢ 1) → is_any_open n at file ≡ false
none_open zero at file closed = refl
none_open (suc n) at file closed =
    let here : at + 64 * 0 ≡ at = omega arith in
    let first : (slice_index file at == 1) ≡ false = not_one (slice_index file at) (subst (λ (p : ℕ). slice_index file p ≢ 1) here (closed 0 (omega arith))) in
    ap (λ (b : Bool). b || is_any_open n (at + 64) file) first
    ∙ none_open n (at + 64) file (λ k low. let e : at + 64 * suc k ≡ at + 64 + 64 * k = omega arith in subst (λ (p : ℕ). slice_index file p ≢ 1) e (closed (suc k) (omega arith)))

log_is : (n at page : ℕ) (records : List RecordAt) (file : List ℕ) → IsLogOf n at records file → log_from page n at file ≡ Ok records
log_is zero at page [] file log = refl
log_is zero at page (r ∷ rs) file log = absurd (omega (arith, log.fits))
log_is (suc n) at page [] file log =
    let here : at + 64 * 0 ≡ at = omega arith in
    ap (λ (b : Bool). if b then (log_from page n (at + 64) file >>= λ records. Ok (record_at (at + 8) file ∷ records)) else (if is_any_open n (at + 64) file then Err page else Ok []))
    (not_one (slice_index file at) (subst (λ (p : ℕ). slice_index file p ≢ 1) here (log.closed 0 (omega arith) (omega arith))))
    ∙ ap (λ (b : Bool). if b then Err page else Ok [])
    (none_open n (at + 64) file (λ k low. let e : at + 64 * suc k ≡ at + 64 + 64 * k = omega arith in subst (λ (p : ℕ). slice_index file p ≢ 1) e (log.closed (suc k) (omega arith) (omega arith))))
log_is (suc n) at page (r ∷ rs) file log =
    let here : at + 64 * 0 ≡ at = omega arith in
    let first : at + 64 * 0 + 8 ≡ at + 8 = omega arith in
    ap (λ (b : Bool). if b then (log_from page n (at + 64) file >>= λ records. Ok (record_at (at + 8) file ∷ records)) else (if is_any_open n (at + 64) file then Err page else Ok []))
    (is_one (slice_index file at) (subst (λ (p : ℕ). slice_index file p ≡ 1) here (log.opened 0 (omega arith))))
    ∙ then_is (log_from page n (at + 64) file) (λ records. Ok (record_at (at + 8) file ∷ records)) rs (log_is n (at + 64) page rs file later)
    ∙ ap (λ (first : RecordAt). Ok (first ∷ rs)) (sym (subst (λ (p : ℕ). r ≡ record_at p file) first (log.each r 0 (omega arith))))
  where
    later : IsLogOf n (at + 64) rs file
    later = record {
      fits = omega (arith, log.fits);
      opened = λ k low. let e : at + 64 * suc k ≡ at + 64 + 64 * k = omega arith in subst (λ (p : ℕ). slice_index file p ≡ 1) e (log.opened (suc k) (omega arith));
      closed = λ k high low. let e : at + 64 * suc k ≡ at + 64 + 64 * k = omega arith in subst (λ (p : ℕ). slice_index file p ≢ 1) e (log.closed (suc k) (omega arith) (omega arith));
      each = λ d k low. let e : at + 64 * suc k + 8 ≡ at + 64 + 64 * k + 8 = omega arith in subst (λ (p : ℕ). slice_index_or rs k d ≡ record_at p file) e (log.each d (suc k) (omega arith));
    }

pub page_named : (file : List ℕ) (page : ℕ) → IsPage page (length file) → names_page page_size file [] page ≡ true
unfolding page_size
page_named file page is =
    let low : 0 < page = is.least in
    let high : 4096 * (page + 1) ≤ length file = is.within in
    let first : nat_lt 0 page ≡ true = grind (arith, nat_tests) in
    let second : nat_le (4096 * (page + 1)) (length file) ≡ true = grind (arith, nat_tests) in
    ap (λ (b : Bool). b && nat_le (4096 * (page + 1)) (length file) && true) first ∙ ap (λ (b : Bool). b && true) second

log_of_is : (format : Format) (log : ℕ) (records : List RecordAt) (file : List ℕ) → HasLog format log records file → log_of format log file ≡ Ok records
log_of_is One log records file has = let e : [] ≡ records = sym has in ap Ok e
log_of_is Two log records file has =
    ap (λ (b : Bool). if b then log_from log 64 (4096 * log) file else Err 0) (page_named file log has.0)
    ∙ log_is 64 (4096 * log) log records file (record { fits = has.1.fits; opened = has.1.opened; closed = has.1.closed; each = has.1.each })

pub slots_are : (root : OpenRoot) (records : List RecordAt) (file : List ℕ) → OpensAs root records file → slots_in file ≡ Ok (record { current = root; records = records })
unfolding slots_in
slots_are root records file opens =
    ap (slots_of file) opens.slot
    ∙ then_is (log_of root.format root.root.log file) (λ found. Ok (record { current = root; records = found })) records (log_of_is root.format root.root.log records file opens.log)
