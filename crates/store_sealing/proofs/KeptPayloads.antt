-- What an image has of each payload that can be named goes on over the writes of a commit.
use Rattle.std.proofs.Common.{◌≡◌, ◌∙◌, ◌⊎◌, inl, inr, ⊎_elim, ℕ, Bool, true, false, List, [], ◌∷◌, IsTrue, refl, ap}
use Rattle.std.specs.List.{AllByRecursion, AllZip, flat_map, list_any}
use Rattle.cell_values.specs.declared.schema.Schema.{Schema}
use Rattle.page_chain.specs.Places.{IsNone, KeepsPages}
use Rattle.page_chain.specs.Pages.{page_size, blob}
use Rattle.page_chain.specs.Standing.{target_page}
use Rattle.page_chain.specs.declared.slots.slots.slots.Slots.{Slots}
use Rattle.chunk_map.specs.declared.directory.DirEntry.{DirEntry}
use Rattle.logical_plan.specs.declared.names.NameEntry.{NameEntry}
use Rattle.logical_plan.specs.declared.names.Names.{Names}
use Rattle.plan_changes.specs.Changes.{entry_named}
use Rattle.version_reaper.specs.PageSets.{holds}
use Rattle.file_meaning.specs.Opening.{are_pages}
use Rattle.file_meaning.proofs.Elsewhere.{AreApart as LieApart}
use Rattle.file_meaning.proofs.Parts.{blob_still, pages_still, pages_there}
use Rattle.event_core.specs.declared.state.Core.{Core}
use Rattle.event_core.specs.declared.state.VersionPages.{VersionPages}
use Rattle.event_core.specs.Apart.{AreApart}
use Rattle.event_core.specs.History.{History, OpenPin, catalogue_at, names_at, open_pins, pages_at}
use Rattle.event_core.specs.Pages.{has_page, is_live, pin_names}
use Rattle.store_versions.proofs.Free.{Dead, dead}
use Rattle.file_meaning.proofs.Free.{weaker}
use Rattle.store_versions.specs.declared.row.VersionRow.{VersionRow}
use Rattle.store_versions.specs.Versions.{Directories, MadeVersion, versions_at}
use Rattle.prepared_commits.specs.Calls.{IsWhole, spelled_by}
use Rattle.prepared_commits.specs.Kept.{AreVersions, IsInOrder}
use Rattle.prepared_commits.specs.Payloads.{HasItsPayloads, HasPayload, HasPayloads, HavePayloads, IsAsOpened}
use Rattle.prepared_commits.specs.Keeping.{HasItsPages}
use Rattle.prepared_commits.proofs.Decodes.{if_some}
use Rattle.store_sealing.proofs.Carried.{IsBeside, entries_apart, first_beside, first_none, second_beside, second_none, slot_page, stays_apart, which_page}

-- ---- a payload whose pages aren't written

payload_by : (first : List MadeVersion) (file written old new : List ℕ) → KeepsPages written old new → (schema : Schema) (entry : DirEntry) → AllByRecursion (IsNone written) entry.pages
    → HasPayload first file old schema entry → HasPayload first file new schema entry
payload_by first file written old new keeps schema entry apart has = record { pages = there; bytes = ⊎_elim (λ whole. inl (still whole)) (λ was. inr (goes_on was)) has.bytes }
  where
    there : are_pages new entry.pages ≡ true
    there = pages_still old new entry.pages keeps.no_shorter has.pages

    same : blob page_size new entry.pages entry.length ≡ blob page_size old entry.pages entry.length
    same = blob_still written old new entry.pages entry.length keeps apart (pages_there old entry.pages has.pages)

    still : IsWhole old schema entry → IsWhole new schema entry
    still whole = record { within = pages_there new entry.pages there; chunk = whole.chunk; spells = ap (spelled_by schema entry) same ∙ whole.spells }

    goes_on : IsAsOpened first file old entry → IsAsOpened first file new entry
    goes_on was = record { listed = was.listed; same = same ∙ was.same }

payload_still : (first : List MadeVersion) (file written old new : List ℕ) → KeepsPages written old new → (schema : Schema) (entry : DirEntry) → LieApart written entry.pages
    → HasPayload first file old schema entry → HasPayload first file new schema entry
unfolding LieApart
payload_still first file written old new keeps schema entry apart has = payload_by first file written old new keeps schema entry apart has

entries_still : (first : List MadeVersion) (file written old new : List ℕ) → KeepsPages written old new → (schema : Schema) (entries : List DirEntry) → AllByRecursion (λ (entry : DirEntry). LieApart written entry.pages) entries
    → AllByRecursion (HasPayload first file old schema) entries → AllByRecursion (HasPayload first file new schema) entries
entries_still first file written old new keeps schema [] apart have = tt
entries_still first file written old new keeps schema (e ∷ entries) apart have =
    (payload_still first file written old new keeps schema e apart.0 have.0, entries_still first file written old new keeps schema entries apart.1 have.1)

-- ---- versions

module _ (first : List MadeVersion) (file : List ℕ) (page : ℕ) (pages old new : List ℕ) (keeps : KeepsPages (page ∷ pages) old new) where
  has_still : (t : ℕ → Bool) → IsBeside t page → AllByRecursion (λ q. t q ≡ false) pages → (schema : Schema) (entries : List DirEntry)
      → AllByRecursion (λ p. IsTrue (t p)) (flat_map (λ (entry : DirEntry). entry.pages) entries) → AllByRecursion (HasPayload first file old schema) entries
      → AllByRecursion (HasPayload first file new schema) entries
  has_still t beside none schema entries held have =
      entries_still first file (page ∷ pages) old new keeps schema entries
      (entries_apart t page pages old beside none entries held (weaker (HasPayload first file old schema) (λ (e : DirEntry). IsTrue (are_pages old e.pages)) (λ e has. has.pages) entries have)) have

  versions_kept : (names : Names) (its : List VersionPages) (versions : List MadeVersion) → AllZip HasItsPages its versions → IsBeside (has_page its) page → AllByRecursion (λ q. has_page its q ≡ false) pages
      → HavePayloads first file old names versions → HavePayloads first file new names versions
  versions_kept names [] [] zip beside none have = tt
  versions_kept names [] (v ∷ versions) zip beside none have = absurd zip
  versions_kept names (w ∷ its) [] zip beside none have = absurd zip
  versions_kept names (w ∷ its) (v ∷ versions) zip beside none have = (
    if_some (λ (entry : NameEntry). HasItsPayloads first file old entry.schema v.directory) (λ entry. HasItsPayloads first file new entry.schema v.directory) (entry_named names.arrays v.name)
        (λ entry its_have. has_still (holds w.pages) (first_beside (has_page (w ∷ its)) (holds w.pages) (has_page its) page (λ p. refl) beside)
        (first_none (has_page (w ∷ its)) (holds w.pages) (has_page its) pages (λ p. refl) none) entry.schema v.directory.entries zip.0.payloads its_have) have.0,
    versions_kept names its versions zip.1 (second_beside (has_page (w ∷ its)) (holds w.pages) (has_page its) page (λ p. refl) beside)
        (second_none (has_page (w ∷ its)) (holds w.pages) (has_page its) pages (λ p. refl) none) have.1,
  )

  abbrev Sees : Core → Directories → List ℕ → OpenPin → Type 0
  Sees base given image pin = HavePayloads first file image (names_at base pin.before) (versions_at base given pin.before)

  pins_kept : (base : Core) (given : Directories) (pins : List OpenPin) → AllByRecursion (λ pin. AllZip HasItsPages (pages_at base pin.before) (versions_at base given pin.before)) pins
      → IsBeside (λ q. list_any (pin_names base q) pins) page → AllByRecursion (λ q. list_any (pin_names base q) pins ≡ false) pages
      → AllByRecursion (Sees base given old) pins → AllByRecursion (Sees base given new) pins
  pins_kept base given [] zip beside none have = tt
  pins_kept base given (pin ∷ pins) zip beside none have =
      let s : ℕ → Bool = λ q. list_any (pin_names base q) (pin ∷ pins) in
      let u : ℕ → Bool = λ q. list_any (pin_names base q) pins in
      let its : List VersionPages = pages_at base pin.before in (
        versions_kept (names_at base pin.before) its (versions_at base given pin.before) zip.0 (first_beside s (has_page its) u page (λ p. refl) beside) (first_none s (has_page its) u pages (λ p. refl) none) have.0,
        pins_kept base given pins zip.1 (second_beside s (has_page its) u page (λ p. refl) beside) (second_none s (has_page its) u pages (λ p. refl) none) have.1,
      )

-- ---- an image

pub payloads_kept : (base : Core) (given : Directories) (h : History) (rows : List VersionRow) (slots : Slots) (page : ℕ) (pages old new file : List ℕ) → IsInOrder base h → AreVersions base given h rows
    → IsTrue (holds (0 ∷ catalogue_at base h) slots.current.root.log) → page ≡ target_page slots.target slots → AllByRecursion (λ q. is_live base h q ≡ false) pages → KeepsPages (page ∷ pages) old new
    → HasPayloads base given file h old → HasPayloads base given file h new
payloads_kept base given h rows slots page pages old new file order versions log its unnamed keeps have =
    let apart : AreApart base h = stays_apart base h order in
    let slot : (page ≡ 0) ⊎ (holds (catalogue_at base h) page ≡ true) = slot_page page slots.current.root.log (catalogue_at base h) (which_page slots page its) log in
    let none : AllByRecursion (Dead base h) pages = weaker (λ q. is_live base h q ≡ false) (Dead base h) (dead base h) pages unnamed in
    record {
      now = versions_kept given.first file page pages old new keeps (names_at base h) (pages_at base h) (versions_at base given h) versions.pages
          (⊎_elim inl (λ held. inr (apart.now page held)) slot) (weaker (Dead base h) (λ q. has_page (pages_at base h) q ≡ false) (λ q d. d.versions) pages none) have.now;
      pinned = pins_kept given.first file page pages old new keeps base given (open_pins h) versions.pinned_pages
          (⊎_elim inl (λ held. inr (apart.pinned page held)) slot) (weaker (Dead base h) (λ q. list_any (pin_names base q) (open_pins h) ≡ false) (λ q d. d.pins) pages none) have.pinned;
    }
