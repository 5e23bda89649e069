-- The catalogue of a file: its base, and the records of its log.
use Rattle.std.specs.Prelude.{◌≡◌, ℕ, List, [], ◌∷◌, ◌++◌, Result, Ok, Err}
use Rattle.file_items.specs.Items.{◌>>=◌}
use Rattle.page_chain.specs.declared.slots.layout.roots.Root.{Root}
use Rattle.page_chain.specs.declared.slots.layout.logs.RecordAt.{RecordAt}
use Rattle.page_chain.specs.Pages.{page_size}
use Rattle.page_chain.specs.Chains.{chain, chain_bytes}
use Rattle.page_chain.specs.declared.fault.OpenCause.{OpenCause}
use Rattle.page_chain.specs.declared.fault.OpenCause.TheVariants.{Disk, NotDatabase, Memory}
use Rattle.version_catalog.specs.declared.rules.catalog.Catalog.{Catalog}
use Rattle.version_catalog.specs.declared.rules.catalog_record.CatalogRecord.{CatalogRecord}
use Rattle.version_catalog.specs.Table.{catalog_in, record_in}
use Rattle.version_catalog.specs.Records.{after_record}
use Rattle.file_meaning.specs.Opening.{blamed, if_allowed, Logged}

-- the base's chain, and the catalogue that it spells
abbrev pub base_in : List ℕ → Root → Result (List ℕ × Catalog) ℕ
base_in file root = do
  pages ← chain page_size file (root.log ∷ []) 0 root.first root.length
  catalog ← blamed root.first (catalog_in (chain_bytes page_size file pages root.length))
  Ok (pages, catalog)

-- ---- records

-- the catalogue after a record of a chain that begins with this page
abbrev pub applied_record : Catalog → ℕ → CatalogRecord → Result Catalog ℕ
applied_record catalog first spelled = if_allowed catalog first spelled >>= λ entry. Ok (after_record catalog entry)

-- the catalogue after the record that these bytes of a chain spell, which begins with this page
abbrev pub applied : Catalog → ℕ → List ℕ → Result Catalog ℕ
applied catalog first bytes = do
  spelled ← blamed first (record_in bytes)
  applied_record catalog first spelled

abbrev pub IsApplied : Result (Unit {0}) OpenCause → Catalog → Result Catalog ℕ → Type 0
IsApplied (Ok u) now step = step ≡ Ok now
IsApplied (Err Disk) now step = Unit {0}
IsApplied (Err (NotDatabase page)) now step = step ≡ Err page
IsApplied (Err Memory) now step = Unit {0}

-- a record's pages, and the catalogue after it
abbrev pub record_step : List ℕ → ℕ → List ℕ → Catalog → RecordAt → Result (List ℕ × Catalog) ℕ
record_step file log taken catalog at = do
  pages ← chain page_size file taken log at.first at.length
  now ← applied catalog at.first (chain_bytes page_size file pages at.length)
  Ok (pages, now)

abbrev pub Applies : Result (List ℕ) OpenCause → Catalog → Result (List ℕ × Catalog) ℕ → Type 0
Applies (Ok pages) now step = step ≡ Ok (pages, now)
Applies (Err Disk) now step = Unit {0}
Applies (Err (NotDatabase page)) now step = step ≡ Err page
Applies (Err Memory) now step = Unit {0}

-- ---- the log

-- what was read of the log by some record, and what is read behind it
abbrev pub behind_log : List (List ℕ) → Result Logged ℕ → Result Logged ℕ
behind_log before step = step >>= λ later. Ok (record { pages = before ++ later.pages; catalog = later.catalog; taken = later.taken })

-- a call that goes on with a step as it was to be, unless the disk fails or memory runs out
abbrev pub GoesOn : {X : Type 0} → Result (Unit {0}) OpenCause → Result X ℕ → Result X ℕ → Type 0
GoesOn (Ok u) now before = now ≡ before
GoesOn (Err Disk) now before = Unit {0}
GoesOn (Err (NotDatabase page)) now before = before ≡ Err page
GoesOn (Err Memory) now before = Unit {0}
