-- All that a file keeps, part by part.
use Rattle.std.proofs.Common.{◌≡◌, ℕ, List, [], ◌∷◌, ◌++◌, Option, Some, IfSome, Result, Ok, Err, refl, sym, ◌∙◌, ap, subst}
use Rattle.file_items.specs.Items.{◌>>=◌}
use Rattle.page_chain.specs.declared.slots.layout.roots.Root.{Root}
use Rattle.page_chain.specs.Pages.{page_size}
use Rattle.page_chain.specs.Chains.{chain, chain_bytes}
use Rattle.page_chain.specs.declared.fault.OpenCause.{OpenCause}
use Rattle.page_chain.specs.declared.fault.OpenCause.TheVariants.{Disk, NotDatabase, Memory}
use Rattle.page_chain.specs.declared.slots.slots.slots.Slots.{Slots as FileSlots}
use Rattle.chunk_map.specs.declared.directory.Directory.{Directory}
use Rattle.version_catalog.specs.declared.rules.catalog.Catalog.{Catalog}
use Rattle.version_catalog.specs.Table.{catalog_in}
use Rattle.file_meaning.specs.Slots.{Slots}
use Rattle.file_meaning.specs.Opening.{blamed, found_in, Logged, logged_in, rows_in}
use Rattle.file_meaning.specs.declared.meaning.found.Found.{Found}
use Rattle.file_meaning.proofs.Steps.{then_is}
use Rattle.file_reading.specs.Reading.{Answers, slots_of}
use Rattle.file_reading.specs.Inner.Found.{IsLogFound, base_found_in, found_behind, log_behind, rules_in}
use Rattle.file_reading.specs.Inner.Log.{GoesOn, base_in, behind_log}
use Rattle.file_reading.proofs.Steps.{told, unless}
use Rattle.file_reading.proofs.LogLaws.{behind_none}

-- ---- the parts

abbrev with_both : List ℕ → Catalog → Result (List ℕ × Catalog) ℕ
with_both pages catalog = Ok (pages, catalog)

abbrev alone : List ℕ × Catalog → Result Found ℕ
alone base = Ok (record { chain = base.0; logged = []; catalog = base.1; directories = [] })

spelled_then : (pages : List ℕ) (spelled : Result Catalog ℕ) (more : List ℕ → Catalog → Result Found ℕ)
    → (spelled >>= λ b. more pages b) ≡ (((spelled >>= λ c. with_both pages c) >>= alone) >>= λ found. more found.chain found.catalog)
spelled_then pages (Ok b) more = refl
spelled_then pages (Err page) more = refl

chained_then : (chained : Result (List ℕ) ℕ) (spelled : List ℕ → Result Catalog ℕ) (more : List ℕ → Catalog → Result Found ℕ)
    → (chained >>= λ pages. spelled pages >>= λ b. more pages b)
    ≡ (((chained >>= λ pages. spelled pages >>= λ c. with_both pages c) >>= alone) >>= λ found. more found.chain found.catalog)
chained_then (Ok pages) spelled more = spelled_then pages (spelled pages) more
chained_then (Err page) spelled more = refl

found_parts : (file : List ℕ) (slots : Slots) → found_in file slots ≡ (base_found_in file slots.current.root >>= found_behind file slots)
unfolding found_in
found_parts file slots =
    let root = slots.current.root in
    chained_then (chain page_size file (root.log ∷ []) 0 root.first root.length) (λ pages. blamed root.first (catalog_in (chain_bytes page_size file pages root.length)))
    (λ pages catalog. logged_in file root.log (pages ++ root.log ∷ []) catalog slots.records
    >>= λ logged. rows_in file (rules_in slots) logged.taken logged.catalog.arrays
    >>= λ directories. Ok (record { chain = pages; logged = logged.pages; catalog = logged.catalog; directories = directories }))

-- ---- the base

pub base_is : (file : List ℕ) (root : Root) (pages : List ℕ) (catalog : Catalog) → base_in file root ≡ Ok (pages, catalog)
    → base_found_in file root ≡ Ok (record { chain = pages; logged = []; catalog = catalog; directories = [] })
base_is file root pages catalog is = then_is (base_in file root) _ (pages, catalog) is

pub base_stops : (cause : OpenCause) (file : List ℕ) (root : Root) → Answers (Err cause) (base_in file root) → Answers (Err cause) (base_found_in file root)
base_stops Disk file root is = tt
base_stops (NotDatabase page) file root is = unless (base_in file root) _ page is
base_stops Memory file root is = tt

-- ---- the log

pub log_is : (file : List ℕ) (slots : Slots) (base now : Found) (start taken : List ℕ) → base.logged ≡ [] → start ≡ base.chain ++ slots.current.root.log ∷ []
    → Ok (record { pages = now.logged; catalog = now.catalog; taken = taken }) ≡ behind_log base.logged (logged_in file slots.current.root.log start base.catalog slots.records)
    → log_behind file slots base ≡ Ok (record { pages = now.logged; catalog = now.catalog; taken = taken })
log_is file slots base now start taken none start_is is =
    let log = slots.current.root.log in
    sym (is ∙ ap (λ (ps : List (List ℕ)). behind_log ps (logged_in file log start base.catalog slots.records)) none ∙ behind_none (logged_in file log start base.catalog slots.records)
    ∙ ap (λ (ts : List ℕ). logged_in file log ts base.catalog slots.records) start_is)

pub log_stops : (cause : OpenCause) (file : List ℕ) (slots : Slots) (base now : Found) (start : List ℕ) (any : Result Logged ℕ) → base.logged ≡ [] → start ≡ base.chain ++ slots.current.root.log ∷ []
    → GoesOn (Err cause) any (behind_log base.logged (logged_in file slots.current.root.log start base.catalog slots.records)) → IsLogFound (Err cause) now (log_behind file slots base)
log_stops Disk file slots base now start any none start_is is = tt
log_stops (NotDatabase page) file slots base now start any none start_is is =
    let log = slots.current.root.log in
    sym (ap (λ (ps : List (List ℕ)). behind_log ps (logged_in file log start base.catalog slots.records)) none ∙ behind_none (logged_in file log start base.catalog slots.records)
    ∙ ap (λ (ts : List ℕ). logged_in file log ts base.catalog slots.records) start_is) ∙ is
log_stops Memory file slots base now start any none start_is is = tt

-- ---- what follows the base

pub behind_is : (file : List ℕ) (slots : Slots) (base now found : Found) (taken : List ℕ) (directories : List (List Directory))
    → log_behind file slots base ≡ Ok (record { pages = now.logged; catalog = now.catalog; taken = taken }) → rows_in file (rules_in slots) taken now.catalog.arrays ≡ Ok directories
    → now.chain ≡ base.chain → found ≡ record { chain = now.chain; logged = now.logged; catalog = now.catalog; directories = directories }
    → Ok found ≡ found_behind file slots base
behind_is file slots base now found taken directories log rows chain_is is =
    ap (λ (f : Found). Ok f) is ∙ ap (λ (ps : List ℕ). Ok (record { chain = ps; logged = now.logged; catalog = now.catalog; directories = directories })) chain_is
    ∙ sym (then_is (log_behind file slots base) _ (record { pages = now.logged; catalog = now.catalog; taken = taken }) log ∙ then_is (rows_in file (rules_in slots) taken now.catalog.arrays) _ directories rows)

pub records_stop : (cause : OpenCause) (file : List ℕ) (slots : Slots) (base now : Found) (any : Result Found ℕ) → IsLogFound (Err cause) now (log_behind file slots base)
    → GoesOn (Err cause) any (found_behind file slots base)
records_stop Disk file slots base now any is = tt
records_stop (NotDatabase page) file slots base now any is = unless (log_behind file slots base) _ page is
records_stop Memory file slots base now any is = tt

pub rows_stop : (cause : OpenCause) (file : List ℕ) (slots : Slots) (base now : Found) (taken : List ℕ) (any : Result Found ℕ)
    → log_behind file slots base ≡ Ok (record { pages = now.logged; catalog = now.catalog; taken = taken }) → Answers {X = List (List Directory)} (Err cause) (rows_in file (rules_in slots) taken now.catalog.arrays)
    → GoesOn (Err cause) any (found_behind file slots base)
rows_stop Disk file slots base now taken any log is = tt
rows_stop (NotDatabase page) file slots base now taken any log is =
    then_is (log_behind file slots base) _ (record { pages = now.logged; catalog = now.catalog; taken = taken }) log ∙ unless (rows_in file (rules_in slots) taken now.catalog.arrays) _ page is
rows_stop Memory file slots base now taken any log is = tt

-- ---- all of it

pub found_is : (file : List ℕ) (slots : Slots) (base found : Found) → base_found_in file slots.current.root ≡ Ok base → Ok found ≡ found_behind file slots base → found_in file slots ≡ Ok found
found_is file slots base found is behind = found_parts file slots ∙ then_is (base_found_in file slots.current.root) (found_behind file slots) base is ∙ sym behind

pub found_stops : (cause : OpenCause) (file : List ℕ) (slots : Slots) → Answers {X = Found} (Err cause) (base_found_in file slots.current.root) → Answers {X = Found} (Err cause) (found_in file slots)
found_stops Disk file slots is = tt
found_stops (NotDatabase page) file slots is = found_parts file slots ∙ unless (base_found_in file slots.current.root) (found_behind file slots) page is
found_stops Memory file slots is = tt

pub found_stops_behind : (cause : OpenCause) (file : List ℕ) (slots : Slots) (base : Found) (any : Result Found ℕ) → base_found_in file slots.current.root ≡ Ok base
    → GoesOn (Err cause) any (found_behind file slots base) → Answers {X = Found} (Err cause) (found_in file slots)
found_stops_behind Disk file slots base any is behind = tt
found_stops_behind (NotDatabase page) file slots base any is behind = found_parts file slots ∙ then_is (base_found_in file slots.current.root) (found_behind file slots) base is ∙ behind
found_stops_behind Memory file slots base any is behind = tt

-- ---- what a disk tells

-- a call that read what follows a base
abbrev pub ReadsBehind : FileSlots → Option (List ℕ) → Result (Unit {0}) OpenCause → Found → Found → Type 0
ReadsBehind slots tells result base found = (seen : List ℕ) → tells ≡ Some seen → GoesOn result (Ok found) (found_behind seen (slots_of slots) base)

pub all_told : (slots mid_slots : FileSlots) (tells mid : Option (List ℕ)) (base found : Found) → mid_slots ≡ slots → mid ≡ tells
    → ((seen : List ℕ) → tells ≡ Some seen → base_found_in seen slots.current.root ≡ Ok base) → ReadsBehind mid_slots mid (Ok tt) base found
    → IfSome tells (λ seen. found_in seen (slots_of slots) ≡ Ok found)
all_told slots mid_slots tells mid base found slots_are same first behind =
    told (λ (seen : List ℕ). found_in seen (slots_of slots) ≡ Ok found) tells
    (λ seen is. found_is seen (slots_of slots) base found (first seen is) (subst (λ (s : FileSlots). ReadsBehind s mid (Ok tt) base found) slots_are behind seen (same ∙ is)))

pub behind_stopped : (slots mid_slots : FileSlots) (tells mid : Option (List ℕ)) (base found : Found) (cause : OpenCause) → mid_slots ≡ slots → mid ≡ tells
    → ((seen : List ℕ) → tells ≡ Some seen → base_found_in seen slots.current.root ≡ Ok base) → ReadsBehind mid_slots mid (Err cause) base found
    → IfSome tells (λ seen. Answers {X = Found} (Err cause) (found_in seen (slots_of slots)))
behind_stopped slots mid_slots tells mid base found cause slots_are same first behind =
    told (λ (seen : List ℕ). Answers {X = Found} (Err cause) (found_in seen (slots_of slots))) tells
    (λ seen is. found_stops_behind cause seen (slots_of slots) base (Ok found) (first seen is) (subst (λ (s : FileSlots). ReadsBehind s mid (Err cause) base found) slots_are behind seen (same ∙ is)))

pub base_stopped : (slots : FileSlots) (tells : Option (List ℕ)) (cause : OpenCause) → ((seen : List ℕ) → tells ≡ Some seen → Answers {X = Found} (Err cause) (base_found_in seen slots.current.root))
    → IfSome tells (λ seen. Answers {X = Found} (Err cause) (found_in seen (slots_of slots)))
base_stopped slots tells cause first =
    told (λ (seen : List ℕ). Answers {X = Found} (Err cause) (found_in seen (slots_of slots))) tells (λ seen is. found_stops cause seen (slots_of slots) (first seen is))
