-- The records of a log, one after the other.
use Rattle.std.proofs.Common.{◌≡◌, ℕ, ◌+◌, ◌<◌, List, [], ◌∷◌, ◌++◌, length, drop, Option, Some, Result, Ok, Err, refl, sym, ◌∙◌, ap, subst, append_assoc}
use Rattle.std.specs.Prelude.{slice_index_or}
use Rattle.std.proofs.lemmas.List.{drop_more}
use Rattle.file_items.specs.Items.{◌>>=◌}
use Rattle.page_chain.specs.declared.slots.layout.logs.RecordAt.{RecordAt}
use Rattle.page_chain.specs.Pages.{page_size}
use Rattle.page_chain.specs.Chains.{chain, chain_bytes}
use Rattle.page_chain.specs.declared.fault.OpenCause.{OpenCause}
use Rattle.page_chain.specs.declared.fault.OpenCause.TheVariants.{Disk, NotDatabase, Memory}
use Rattle.page_chain.specs.declared.slots.slots.slots.Slots.{Slots as FileSlots}
use Rattle.version_catalog.specs.declared.rules.catalog.Catalog.{Catalog}
use Rattle.version_catalog.specs.declared.rules.catalog_record.CatalogRecord.{CatalogRecord}
use Rattle.version_catalog.specs.Table.{record_in}
use Rattle.version_catalog.specs.Records.{after_record}
use Rattle.file_meaning.specs.Opening.{blamed, if_allowed, Logged, logged_in}
use Rattle.file_reading.specs.Inner.Log.{Applies, GoesOn, behind_log, record_step}

-- a record's pages, before those of the later ones
abbrev with_pages : List ℕ → Result Logged ℕ → Result Logged ℕ
with_pages pages step = step >>= λ later. Ok (record { pages = pages ∷ later.pages; catalog = later.catalog; taken = later.taken })

-- steps of which the last is named apart
abbrev with_both : {B : Type 0} → List ℕ → B → Result (List ℕ × B) ℕ
with_both pages now = Ok (pages, now)

allowed_then : {B C : Type 0} (pages : List ℕ) (entry : Result CatalogRecord ℕ) (made : CatalogRecord → B) (more : List ℕ → B → Result C ℕ)
    → (entry >>= λ e. more pages (made e)) ≡ (((entry >>= λ e. Ok (made e)) >>= λ now. with_both pages now) >>= λ x. more x.0 x.1)
allowed_then pages (Ok e) made more = refl
allowed_then pages (Err page) made more = refl

spelled_then : {A B C : Type 0} (pages : List ℕ) (spelled : Result A ℕ) (entry : A → Result CatalogRecord ℕ) (made : CatalogRecord → B) (more : List ℕ → B → Result C ℕ)
    → (spelled >>= λ s. entry s >>= λ e. more pages (made e)) ≡ (((spelled >>= λ s. entry s >>= λ e. Ok (made e)) >>= λ now. with_both pages now) >>= λ x. more x.0 x.1)
spelled_then pages (Ok s) entry made more = allowed_then pages (entry s) made more
spelled_then pages (Err page) entry made more = refl

chained_then : {A B C : Type 0} (chained : Result (List ℕ) ℕ) (spelled : List ℕ → Result A ℕ) (entry : A → Result CatalogRecord ℕ) (made : CatalogRecord → B) (more : List ℕ → B → Result C ℕ)
    → (chained >>= λ pages. spelled pages >>= λ s. entry s >>= λ e. more pages (made e))
    ≡ ((chained >>= λ pages. (spelled pages >>= λ s. entry s >>= λ e. Ok (made e)) >>= λ now. with_both pages now) >>= λ x. more x.0 x.1)
chained_then (Ok pages) spelled entry made more = spelled_then pages (spelled pages) entry made more
chained_then (Err page) spelled entry made more = refl

-- the log from a record on is the record's step, and the log behind it
log_step : (file : List ℕ) (log : ℕ) (taken : List ℕ) (catalog : Catalog) (at : RecordAt) (later : List RecordAt)
    → logged_in file log taken catalog (at ∷ later) ≡ (record_step file log taken catalog at >>= λ x. with_pages x.0 (logged_in file log (x.0 ++ taken) x.1 later))
log_step file log taken catalog at later =
    chained_then (chain page_size file taken log at.first at.length) (λ pages. blamed at.first (record_in (chain_bytes page_size file pages at.length))) (if_allowed catalog at.first) (after_record catalog)
    (λ pages now. with_pages pages (logged_in file log (pages ++ taken) now later))

-- what is read behind one more record
behind_more : (before : List (List ℕ)) (pages : List ℕ) (step : Result Logged ℕ) → behind_log (before ++ pages ∷ []) step ≡ behind_log before (with_pages pages step)
behind_more before pages (Ok later) = ap (λ (ps : List (List ℕ)). Ok (record { pages = ps; catalog = later.catalog; taken = later.taken })) (append_assoc before (pages ∷ []) later.pages)
behind_more before pages (Err page) = refl

-- a record was read
pub goes_by : (file : List ℕ) (log : ℕ) (taken now_taken : List ℕ) (catalog now : Catalog) (before logged : List (List ℕ)) (pages : List ℕ) (at : RecordAt) (later : List RecordAt)
    → record_step file log taken catalog at ≡ Ok (pages, now) → now_taken ≡ pages ++ taken → logged ≡ before ++ pages ∷ []
    → behind_log logged (logged_in file log now_taken now later) ≡ behind_log before (logged_in file log taken catalog (at ∷ later))
goes_by file log taken now_taken catalog now before logged pages at later step taken_is logged_is =
    ap (λ (ps : List (List ℕ)). behind_log ps (logged_in file log now_taken now later)) logged_is
    ∙ ap (λ (ts : List ℕ). behind_log (before ++ pages ∷ []) (logged_in file log ts now later)) taken_is
    ∙ behind_more before pages (logged_in file log (pages ++ taken) now later)
    ∙ sym (ap (behind_log before) (log_step file log taken catalog at later ∙ ap (λ (s : Result (List ℕ × Catalog) ℕ). s >>= λ x. with_pages x.0 (logged_in file log (x.0 ++ taken) x.1 later)) step))

-- a record was not read
pub stops_by : (cause : OpenCause) (file : List ℕ) (log : ℕ) (taken : List ℕ) (catalog now : Catalog) (before : List (List ℕ)) (at : RecordAt) (later : List RecordAt) (any : Result Logged ℕ)
    → Applies (Err cause) now (record_step file log taken catalog at) → GoesOn (Err cause) any (behind_log before (logged_in file log taken catalog (at ∷ later)))
stops_by Disk file log taken catalog now before at later any step = tt
stops_by (NotDatabase page) file log taken catalog now before at later any step =
    ap (behind_log before) (log_step file log taken catalog at later ∙ ap (λ (s : Result (List ℕ × Catalog) ℕ). s >>= λ x. with_pages x.0 (logged_in file log (x.0 ++ taken) x.1 later)) step)
stops_by Memory file log taken catalog now before at later any step = tt

-- ---- the loop

-- nothing was read before
pub behind_none : (step : Result Logged ℕ) → behind_log [] step ≡ step
behind_none (Ok later) = refl
behind_none (Err page) = refl

-- what was read by some record
pub record LogAt : Type 0 where
  pub taken : List ℕ
  pub catalog : Catalog
  pub logged : List (List ℕ)

abbrev pub left_from : FileSlots → List ℕ → LogAt → List RecordAt → Result Logged ℕ
left_from slots seen at records = behind_log at.logged (logged_in seen slots.current.root.log at.taken at.catalog records)

-- the records that are left
abbrev pub GoingLog : FileSlots → Option (List ℕ) → LogAt → ℕ → LogAt → Type 0
GoingLog slots told old i now = (seen : List ℕ) → told ≡ Some seen → left_from slots seen now (drop i slots.records) ≡ left_from slots seen old slots.records

-- a call that read one record
abbrev pub ReadsOne : FileSlots → Option (List ℕ) → ℕ → LogAt → Result (Unit {0}) OpenCause → LogAt → Type 0
ReadsOne slots told i old result now = (seen : List ℕ) → told ≡ Some seen → (d : RecordAt) (later : List RecordAt)
    → GoesOn result (left_from slots seen now later) (left_from slots seen old (slice_index_or slots.records i d ∷ later))

any_record : RecordAt
any_record = record { length = 0; first = 0 }

next_record : (slots : FileSlots) (seen : List ℕ) (at : LogAt) (i : ℕ) → i < length slots.records
    → left_from slots seen at (slice_index_or slots.records i any_record ∷ drop (i + 1) slots.records) ≡ left_from slots seen at (drop i slots.records)
next_record slots seen at i low = ap (left_from slots seen at) (sym (drop_more slots.records i any_record low))

pub log_goes : (slots mid_slots : FileSlots) (told mid : Option (List ℕ)) (old set now : LogAt) (i : ℕ) → mid_slots ≡ slots → mid ≡ told → i < length slots.records
    → ReadsOne mid_slots mid i set (Ok tt) now → GoingLog slots told old i set → GoingLog slots told old (i + 1) now
log_goes slots mid_slots told mid old set now i slots_are same low reads going seen seen_is =
    subst (λ (s : FileSlots). ReadsOne s mid i set (Ok tt) now) slots_are reads seen (same ∙ seen_is) any_record (drop (i + 1) slots.records) ∙ next_record slots seen set i low ∙ going seen seen_is

pub log_stops : (slots mid_slots : FileSlots) (told mid : Option (List ℕ)) (old set now : LogAt) (i : ℕ) (cause : OpenCause) (any : List ℕ → Result Logged ℕ) → mid_slots ≡ slots → mid ≡ told → i < length slots.records
    → ReadsOne mid_slots mid i set (Err cause) now → GoingLog slots told old i set → (seen : List ℕ) → told ≡ Some seen → GoesOn (Err cause) (any seen) (left_from slots seen old slots.records)
log_stops slots mid_slots told mid old set now i Disk any slots_are same low reads going seen seen_is = tt
log_stops slots mid_slots told mid old set now i (NotDatabase page) any slots_are same low reads going seen seen_is =
    sym (going seen seen_is) ∙ sym (next_record slots seen set i low)
    ∙ subst (λ (s : FileSlots). ReadsOne s mid i set (Err (NotDatabase page)) now) slots_are reads seen (same ∙ seen_is) any_record (drop (i + 1) slots.records)
log_stops slots mid_slots told mid old set now i Memory any slots_are same low reads going seen seen_is = tt
