-- What an image has goes on over the writes of a commit.
use Rattle.std.proofs.Common.{◌≡◌, ◌⊎◌, inl, inr, ⊎_elim, ◌<◌, ℕ, Bool, true, false, ◌||◌, nat_eq, List, [], ◌∷◌, Option, None, IsTrue, refl, sym, ◌∙◌, ap, arith}
use Rattle.std.specs.List.{AllByRecursion, AllZip, flat_map, list_any}
use Rattle.std.proofs.lemmas.Bool.{eqb-true, or_parts}
use Rattle.cell_values.specs.declared.datum.Row.{Row}
use Rattle.cell_values.specs.declared.schema.Schema.{Schema}
use Rattle.page_chain.specs.Places.{IsNone, KeepsPages}
use Rattle.page_chain.specs.Pages.{page_size, first_past}
use Rattle.page_chain.specs.Standing.{target_page}
use Rattle.page_chain.specs.declared.slots.slots.slots.Slots.{Slots}
use Rattle.page_chain.specs.declared.slots.slots.slots.Target.{Target}
use Rattle.page_chain.specs.declared.slots.slots.slots.Target.TheVariants as targets
use Rattle.chunk_map.specs.declared.directory.DirEntry.{DirEntry}
use Rattle.chunk_map.specs.declared.directory.Directory.{Directory}
use Rattle.logical_plan.specs.declared.names.NameEntry.{NameEntry}
use Rattle.plan_changes.specs.declared.change.Change.{Change}
use Rattle.plan_changes.specs.Changes.{entry_named}
use Rattle.plan_changes.specs.Databases.{Database, names_of, rows_of}
use Rattle.version_reaper.specs.PageSets.{holds}
use Rattle.file_meaning.specs.Opening.{are_pages}
use Rattle.file_meaning.specs.declared.meaning.found.Found.{Found}
use Rattle.page_chain.specs.Chains.{names_page}
use Rattle.file_meaning.proofs.Parts.{both_true, front_all, pages_still, pages_there, rest_all}
use Rattle.file_meaning.proofs.Elsewhere.{part_still, AreApart as LieApart}
use Rattle.event_core.specs.declared.state.Core.{Core}
use Rattle.event_core.specs.declared.state.VersionPages.{VersionPages}
use Rattle.event_core.specs.Apart.{AreApart}
use Rattle.event_core.specs.Bases.{Base}
use Rattle.event_core.specs.Cells.{at}
use Rattle.event_core.specs.History.{History, OpenPin, catalogue_at, open_pins, pages_at}
use Rattle.event_core.specs.Pages.{has_page, is_live, pin_names}
use Rattle.store_versions.proofs.Apart.{catalogues_stay_apart}
use Rattle.store_versions.proofs.Free.{Dead, dead}
use Rattle.store_versions.proofs.Legal.{ordered_is_allowed}
use Rattle.file_meaning.specs.NextLaws.{WritesLeaveStanding}
use Rattle.file_meaning.specs.Premises.{StandsBy}
use Rattle.file_meaning.proofs.Free.{names_positive, none_cons, weaker}
use Rattle.store_versions.specs.Versions.{Directories, MadeVersion, versions_at}
use Rattle.store_state.specs.Cells.{IsImage}
use Rattle.store_state.specs.Inner.Keeping.{HasItsPages, LieIn, LiesIn}
use Rattle.store_state.specs.Kept.{IsInOrder}
use Rattle.store_state.specs.Standings.{current_slots}
use Rattle.store_state.proofs.Decodes.{if_some}
use Rattle.store_sealing.specs.Premises.{IsStore, MayBeWritten}
use Rattle.store_sealing.proofs.Live.{differ, found_apart, none_by}

-- ---- a version whose payloads' pages aren't written

-- the page of a slot is page 0, or fails a test
abbrev pub IsBeside : (ℕ → Bool) → ℕ → Type 0
IsBeside t page = (page ≡ 0) ⊎ (t page ≡ false)

unwritten : (t : ℕ → Bool) (page : ℕ) (pages : List ℕ) (p : ℕ) → t p ≡ true → 0 < p → IsBeside t page → AllByRecursion (λ q. t q ≡ false) pages → IsNone (page ∷ pages) p
unwritten t page pages p passes some (inl first) none = none_cons page pages p (λ same. absurd (omega (arith, some, same, first))) (none_by t pages p passes none)
unwritten t page pages p passes some (inr free) none = none_cons page pages p (differ t p page passes free) (none_by t pages p passes none)

each_unwritten : (t : ℕ → Bool) (page : ℕ) (pages file ps : List ℕ) → IsBeside t page → AllByRecursion (λ q. t q ≡ false) pages → AllByRecursion (λ p. IsTrue (t p)) ps → are_pages file ps ≡ true
    → AllByRecursion (IsNone (page ∷ pages)) ps
each_unwritten t page pages file [] beside none held are = tt
each_unwritten t page pages file (p ∷ ps) beside none held are =
    let e = both_true (names_page page_size file [] p) (are_pages file ps) are in
    (unwritten t page pages p held.0 (names_positive file [] p e.0) beside none, each_unwritten t page pages file ps beside none held.1 e.1)

pub entries_apart : (t : ℕ → Bool) (page : ℕ) (pages file : List ℕ) → IsBeside t page → AllByRecursion (λ q. t q ≡ false) pages → (entries : List DirEntry)
    → AllByRecursion (λ p. IsTrue (t p)) (flat_map (λ (entry : DirEntry). entry.pages) entries) → AllByRecursion (λ (entry : DirEntry). IsTrue (are_pages file entry.pages)) entries
    → AllByRecursion (λ (entry : DirEntry). LieApart (page ∷ pages) entry.pages) entries
unfolding LieApart
entries_apart t page pages file beside none [] held are = tt
entries_apart t page pages file beside none (e ∷ entries) held are = (
  each_unwritten t page pages file e.pages beside none (front_all (λ p. IsTrue (t p)) e.pages (flat_map (λ (entry : DirEntry). entry.pages) entries) held) are.0,
  entries_apart t page pages file beside none entries (rest_all (λ p. IsTrue (t p)) e.pages (flat_map (λ (entry : DirEntry). entry.pages) entries) held) are.1,
)

lies_still : (t : ℕ → Bool) (page : ℕ) (pages old new : List ℕ) → KeepsPages (page ∷ pages) old new → IsBeside t page → AllByRecursion (λ q. t q ≡ false) pages → (schema : Schema) (directory : Directory) (rows : List Row)
    → AllByRecursion (λ p. IsTrue (t p)) (flat_map (λ (entry : DirEntry). entry.pages) directory.entries) → LiesIn old schema directory rows → LiesIn new schema directory rows
lies_still t page pages old new keeps beside none schema directory rows held lies = record {
  holds = record {
    listed = lies.holds.listed;
    payloads = part_still (page ∷ pages) old new keeps schema rows directory.entries
        (weaker (λ (e : DirEntry). IsTrue (are_pages old e.pages)) (λ e. first_past page_size old e.pages ≡ None) (λ e are. pages_there old e.pages are) directory.entries lies.pages)
        (entries_apart t page pages old beside none directory.entries held lies.pages) lies.holds.payloads;
  };
  pages = weaker (λ (e : DirEntry). IsTrue (are_pages old e.pages)) (λ e. IsTrue (are_pages new e.pages)) (λ e are. pages_still old new e.pages keeps.no_shorter are) directory.entries lies.pages;
}

-- ---- versions

-- a page that fails the first of two tests
pub first_beside : (s t u : ℕ → Bool) (page : ℕ) → ((p : ℕ) → s p ≡ (t p || u p)) → IsBeside s page → IsBeside t page
first_beside s t u page is = ⊎_elim inl (λ e. inr (or_parts (t page) (u page) (sym (is page) ∙ e)).0)

pub second_beside : (s t u : ℕ → Bool) (page : ℕ) → ((p : ℕ) → s p ≡ (t p || u p)) → IsBeside s page → IsBeside u page
second_beside s t u page is = ⊎_elim inl (λ e. inr (or_parts (t page) (u page) (sym (is page) ∙ e)).1)

pub first_none : (s t u : ℕ → Bool) (pages : List ℕ) → ((p : ℕ) → s p ≡ (t p || u p)) → AllByRecursion (λ q. s q ≡ false) pages → AllByRecursion (λ q. t q ≡ false) pages
first_none s t u pages is = weaker (λ q. s q ≡ false) (λ q. t q ≡ false) (λ q e. (or_parts (t q) (u q) (sym (is q) ∙ e)).0) pages

pub second_none : (s t u : ℕ → Bool) (pages : List ℕ) → ((p : ℕ) → s p ≡ (t p || u p)) → AllByRecursion (λ q. s q ≡ false) pages → AllByRecursion (λ q. u q ≡ false) pages
second_none s t u pages is = weaker (λ q. s q ≡ false) (λ q. u q ≡ false) (λ q e. (or_parts (t q) (u q) (sym (is q) ∙ e)).1) pages

pub versions_still : (page : ℕ) (pages old new : List ℕ) → KeepsPages (page ∷ pages) old new → (db : Database) (its : List VersionPages) (versions : List MadeVersion) → AllZip HasItsPages its versions
    → IsBeside (has_page its) page → AllByRecursion (λ q. has_page its q ≡ false) pages → LieIn old db versions → LieIn new db versions
versions_still page pages old new keeps db [] [] zip beside none lie = tt
versions_still page pages old new keeps db [] (v ∷ versions) zip beside none lie = absurd zip
versions_still page pages old new keeps db (w ∷ its) [] zip beside none lie = absurd zip
versions_still page pages old new keeps db (w ∷ its) (v ∷ versions) zip beside none lie = (
  if_some (λ (entry : NameEntry). LiesIn old entry.schema v.directory (rows_of db v.name v.version)) (λ entry. LiesIn new entry.schema v.directory (rows_of db v.name v.version)) (entry_named (names_of db).arrays v.name)
      (λ entry. lies_still (holds w.pages) page pages old new keeps (first_beside (has_page (w ∷ its)) (holds w.pages) (has_page its) page (λ p. refl) beside)
      (first_none (has_page (w ∷ its)) (holds w.pages) (has_page its) pages (λ p. refl) none) entry.schema v.directory (rows_of db v.name v.version) zip.0.payloads) lie.0,
  versions_still page pages old new keeps db its versions zip.1 (second_beside (has_page (w ∷ its)) (holds w.pages) (has_page its) page (λ p. refl) beside)
      (second_none (has_page (w ∷ its)) (holds w.pages) (has_page its) pages (λ p. refl) none) lie.1,
)

module _ (base : Core) (given : Directories) (db : Database) (page : ℕ) (pages old new : List ℕ) (keeps : KeepsPages (page ∷ pages) old new) where
  pins_still : (pins : List OpenPin) → AllByRecursion (λ pin. AllZip HasItsPages (pages_at base pin.before) (versions_at base given pin.before)) pins
      → IsBeside (λ q. list_any (pin_names base q) pins) page → AllByRecursion (λ q. list_any (pin_names base q) pins ≡ false) pages
      → AllByRecursion (λ pin. LieIn old (at db pin.before) (versions_at base given pin.before)) pins → AllByRecursion (λ pin. LieIn new (at db pin.before) (versions_at base given pin.before)) pins
  pins_still [] zip beside none lie = tt
  pins_still (pin ∷ pins) zip beside none lie =
      let s : ℕ → Bool = λ q. list_any (pin_names base q) (pin ∷ pins) in
      let u : ℕ → Bool = λ q. list_any (pin_names base q) pins in
      let its : List VersionPages = pages_at base pin.before in (
        versions_still page pages old new keeps (at db pin.before) its (versions_at base given pin.before) zip.0 (first_beside s (has_page its) u page (λ p. refl) beside) (first_none s (has_page its) u pages (λ p. refl) none) lie.0,
        pins_still pins zip.1 (second_beside s (has_page its) u page (λ p. refl) beside) (second_none s (has_page its) u pages (λ p. refl) none) lie.1,
      )

-- ---- the page of a slot

pub which : (target : Target) (slots : Slots) → (target_page target slots ≡ 0) ⊎ (target_page target slots ≡ slots.current.root.log)
which targets.Root slots = inl refl
which targets.Record slots = inr refl

pub which_page : (slots : Slots) (page : ℕ) → page ≡ target_page slots.target slots → (page ≡ 0) ⊎ (page ≡ slots.current.root.log)
which_page slots page its = ⊎_elim (λ e. inl (its ∙ e)) (λ e. inr (its ∙ e)) (which slots.target slots)

of_catalogue_by : (b : Bool) (log : ℕ) (catalogue : List ℕ) → nat_eq 0 log ≡ b → (b || holds catalogue log) ≡ true → (log ≡ 0) ⊎ (holds catalogue log ≡ true)
of_catalogue_by true log catalogue zero_is e = inl (sym (eqb-true 0 log zero_is))
of_catalogue_by false log catalogue zero_is e = inr e

of_catalogue : (log : ℕ) (catalogue : List ℕ) → holds (0 ∷ catalogue) log ≡ true → (log ≡ 0) ⊎ (holds catalogue log ≡ true)
of_catalogue log catalogue e = of_catalogue_by (nat_eq 0 log) log catalogue refl e

pub slot_page : (page log : ℕ) (catalogue : List ℕ) → (page ≡ 0) ⊎ (page ≡ log) → holds (0 ∷ catalogue) log ≡ true → (page ≡ 0) ⊎ (holds catalogue page ≡ true)
slot_page page log catalogue (inl first) held = inl first
slot_page page log catalogue (inr same) held = ⊎_elim (λ e. inl (same ∙ e)) (λ e. inr (ap (holds catalogue) same ∙ e)) (of_catalogue log catalogue held)

pub stays_apart : (base : Core) (h : History) → IsInOrder base h → AreApart base h
stays_apart base h x =
    let allowed = ordered_is_allowed base h x.ordered in
    catalogues_stay_apart base h allowed.0 x.apart x.own allowed.1

-- ---- an image

-- what an image has, but for what it opens as
pub record Carried (base : Core) (given : Directories) (db : Database) (h : History) (slots : Slots) (found : Found) (file : List ℕ) : Type 0 where
  pub stands : StandsBy file (current_slots slots) (at db h) found
  pub now : LieIn file (at db h) (versions_at base given h)
  pub pinned : AllByRecursion (λ pin. LieIn file (at db pin.before) (versions_at base given pin.before)) (open_pins h)

pub carried : WritesLeaveStanding → (base : Base) (given : Directories) (db : Database) (h : History) (slots : Slots) (doubt : Option Change) (found : Found) (page : ℕ) (pages old new : List ℕ)
    → IsStore base given db h slots found → MayBeWritten base.core h slots page pages → IsImage base.core given db h slots doubt found old → KeepsPages (page ∷ pages) old new
    → Carried base.core given db h slots found new
carried writes base given db h slots doubt found page pages old new store may image keeps =
    let apart : AreApart base.core h = stays_apart base.core h store.in_order in
    let slot : (page ≡ 0) ⊎ (holds (catalogue_at base.core h) page ≡ true) = slot_page page slots.current.root.log (catalogue_at base.core h) (which_page slots page may.its) store.are_slots.log in
    let none : AllByRecursion (Dead base.core h) pages = weaker (λ q. is_live base.core h q ≡ false) (Dead base.core h) (dead base.core h) pages may.unnamed in
    record {
      stands = writes page pages old new (current_slots slots) (at db h) found (which_page slots page may.its) keeps (found_apart base.core h given store.catalog slots.current.root.log found store.is_found pages may.unnamed)
          (record { finds = image.opens; database = store.database; holds = image.holds });
      now = versions_still page pages old new keeps (at db h) (pages_at base.core h) (versions_at base.core given h) store.versions.pages
          (⊎_elim inl (λ held. inr (apart.now page held)) slot) (weaker (Dead base.core h) (λ q. has_page (pages_at base.core h) q ≡ false) (λ q d. d.versions) pages none) image.now;
      pinned = pins_still base.core given db page pages old new keeps (open_pins h) store.versions.pinned_pages
          (⊎_elim inl (λ held. inr (apart.pinned page held)) slot) (weaker (Dead base.core h) (λ q. list_any (pin_names base.core q) (open_pins h) ≡ false) (λ q d. d.pins) pages none) image.pinned;
    }
