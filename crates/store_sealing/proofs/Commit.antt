-- A commit that is ready over a store, as plain values.
use Rattle.std.proofs.Common.{◌≡◌, ◌∙◌, ℕ, ◌+◌, ◌<◌, ◌^◌, List, [], ◌∷◌, ◌++◌, length, Option, None, Some, IfSome, IsTrue, false, refl, ap, sym, subst}
use Rattle.std.specs.Prelude.{Ok}
use Rattle.std.specs.List.{AllByRecursion, AllZip}
use Rattle.afl_outside.specs.Disk.{Moment}
use Rattle.array_geom.specs.declared.chunk.Changed.{Changed}
use Rattle.page_chain.specs.Pages.{AreDistinct}
use Rattle.chunk_map.specs.declared.directory.Directory.{Directory}
use Rattle.logical_plan.specs.declared.names.Names.{Names}
use Rattle.plan_changes.specs.declared.change.Change.{Change}
use Rattle.plan_changes.specs.Changes.{name_of, newest_of}
use Rattle.plan_changes.specs.Databases.{Database, names_of}
use Rattle.plan_changes.proofs.NamesOf.{names_depend_on_no_row}
use Rattle.plan_changes.specs.Typed.{IsTypedFor}
use Rattle.version_catalog.specs.declared.rules.catalog.Catalog.{Catalog}
use Rattle.version_catalog.specs.Catalogs.{IsCatalog, names_in}
use Rattle.version_reaper.specs.PageSets.{holds}
use Rattle.event_core.specs.declared.state.Core.{Core}
use Rattle.event_core.specs.declared.entry.Entry.TheVariants.{Pin, Unpin, Commit, Reap}
use Rattle.event_core.specs.Allowed.{IsBase, is_allowed}
use Rattle.event_core.specs.Cells.{at}
use Rattle.event_core.specs.History.{History, catalogue_at, names_at, pages_at}
use Rattle.event_core.specs.Legal.{BeginsAt, Cost, IsLegal}
use Rattle.event_core.specs.Pages.{free_at, is_live}
use Rattle.store_versions.proofs.Cells.{names_are_of_the_database}
use Rattle.file_meaning.specs.Opening.{found_in, pages_of, sequence_of}
use Rattle.file_meaning.specs.Standing.{HoldsDatabase}
use Rattle.file_meaning.specs.Premises.{StandsBy, row_of}
use Rattle.commit_pages.specs.Costs.{cost_from}
use Rattle.store_state.specs.Laid.{Laid}
use Rattle.store_state.specs.Changes.{ComesWith}
use Rattle.store_state.specs.Commits.{base_laid, base_needs, record_laid, record_needs}
use Rattle.store_state.specs.Versions.{draft_of}
use Rattle.store_state.specs.LaidPremises.{IsCommit, IsNewestIn, last_of_row, newest_in}
use Rattle.store_state.specs.RowsLaws.{StandInOrder}
use Rattle.store_state.specs.Rows.{AreInOrder, IsPagesOf, directories_in}
use Rattle.store_state.proofs.RowsNewest.{newest_are_last}
use Rattle.store_ledger.specs.Ledger.{history}
use Rattle.store_versions.specs.Versions.{Directories, HaveDirectories, MadeVersion, directory_of, versions_at}
use Rattle.store_versions.proofs.Made.{named_versions_have_directories}
use Rattle.prepared_commits.specs.Cells.{HoldsCells, IsFound}
use Rattle.prepared_commits.specs.Kept.{AreVersions, IsKept}
use Rattle.prepared_commits.specs.Standings.{BeganAs, IsSound, Standing, base_of, commit_places, current_slots, given_of}
use Rattle.prepared_commits.specs.Keeping.{HasItsPages, IsDirectoryOf, Keeping}
use Rattle.prepared_commits.proofs.Lists.{zip_map}
use Rattle.store_sealing.proofs.Live.{found_live}
use Rattle.prepared_commits.specs.declared.commits.prepared.NewBase.{NewBase}
use Rattle.prepared_commits.specs.declared.commits.prepared.Prepared.{Prepared}
use Rattle.prepared_commits.specs.Needs.{IsLaidBy, all_pages, newest_now, next_sequence, or_empty}
use Rattle.prepared_commits.specs.Prepared.{MayBeMade}
use Rattle.prepared_commits.proofs.Newest.{newest_fits, newest_is_last}
use Rattle.store_sealing.specs.StepsLaws.{IsReady}
use Rattle.store_sealing.proofs.Over.{IsLaidIn, IsOver, Over, target_of}
use Rattle.store_sealing.proofs.Own.{begins as ready_begins, its_schema, laid_is, laid_of, own_unnamed, page_is}
use Rattle.store_sealing.proofs.CellsPages.{are_free, log_live}
use Rattle.store_sealing.proofs.Rest.{Rest}

-- a legal history begins at a base of the database
starts : (cost : Cost) (db : Database) (base : Core) (h : History) → IsLegal cost db base h → BeginsAt db base
starts cost db base [] legal = legal
starts cost db base (Pin session ∷ before) legal = starts cost db base before legal.0
starts cost db base (Unpin session ∷ before) legal = starts cost db base before legal.0
starts cost db base (Commit session change used ∷ before) legal = starts cost db base before legal.0
starts cost db base (Reap ∷ before) legal = starts cost db base before legal.0

-- what a store keeps of its versions, as found of its file
pub stand_in : (core : Core) (given : Directories) (h : History) (catalog : Catalog) → IsCatalog catalog → names_in catalog ≡ names_at core h
    → HaveDirectories (names_at core h) (versions_at core given h) → AreInOrder (names_at core h) (versions_at core given h) → StandInOrder catalog (versions_at core given h)
stand_in core given h catalog is named have order = record {
  stored = is.names;
  have = subst (λ (names : Names). HaveDirectories names (versions_at core given h)) (sym named) have;
  order = subst (λ (names : Names). AreInOrder names (versions_at core given h)) (sym named) order;
}

pub are_pages_of : (core : Core) (given : Directories) (h : History) → AllZip HasItsPages (pages_at core h) (versions_at core given h) → AllZip IsPagesOf (pages_at core h) (versions_at core given h)
are_pages_of core given h zip = zip_map HasItsPages IsPagesOf (λ pages v its. record { name = its.name; version = its.version }) (pages_at core h) (versions_at core given h) zip

module _ (rest : Rest) {D : Type 0} (moment : D → Moment) (s : Standing D) (k : Keeping) (p : Prepared) (db : Database) (ready : IsReady moment s k p)
    (cells : HoldsCells moment s k db (history s.ledger) (given_of s) (commit_places 0 s.ledger.entries)) (began : BeganAs (moment s.opened.disk).state db) where
  abbrev h : History
  h = history s.ledger

  abbrev core : Core
  core = s.ledger.base

  abbrev change : Change
  change = p.commit.change

  abbrev newest : Directory
  newest = newest_now s change

  abbrev kept : IsKept moment s k h (given_of s)
  kept = ready.kept

  abbrev versions : List MadeVersion
  versions = versions_at core (given_of s) h

  -- the commit over this store, with these directories
  abbrev pub over : Directories → Over
  over given = record {
    base = base_of s;
    given = given;
    db = db;
    notes = s.ledger.notes;
    h = h;
    slots = k.slots;
    doubt = s.doubt;
    found = cells.found;
    change = change;
    changed = ready.changed;
    newest = newest;
    catalogue = catalogue_at core h;
    pages = ready.pages;
    laid = laid_of p ready.laid;
  }

  pub begins : IsBase core × IsTrue (is_allowed core h)
  begins = ready_begins moment s k p ready

  -- ---- the newest version

  have : HaveDirectories (names_at core h) versions
  have = named_versions_have_directories (given_of s) core h kept.in_order.ordered kept.versions.first

  stand : StandInOrder k.catalog versions
  stand = stand_in core (given_of s) h k.catalog kept.catalog kept.names have kept.versions.in_order

  is_in : newest ≡ newest_in cells.found change
  is_in =
      let name : List ℕ = name_of change in
      ap (λ (names : Names). or_empty (directory_of name (newest_of names.arrays name) versions)) (sym kept.names)
      ∙ newest_is_last newest_are_last k.catalog versions name stand
      ∙ ap (λ (catalog : Catalog). last_of_row (row_of name (names_in catalog).arrays (directories_in k.catalog versions))) (sym cells.is_found.catalog)
      ∙ ap (λ (rows : List (List Directory)). last_of_row (row_of name (names_in cells.found.catalog).arrays rows)) (sym cells.is_found.directories)

  of_chunks : (some : Changed) → ComesWith change (Some some) → IsDirectoryOf some.schema newest
  of_chunks some comes =
      newest_fits (names_at core h) versions (name_of change) (newest_of (names_at core h).arrays (name_of change)) some.schema have kept.versions.now (its_schema (names_at core h) change some ready.asked.typed comes)

  part : (changed : Option Changed) → ComesWith change changed → IfSome changed (λ some. some.whole ≡ false → IsNewestIn cells.found change some.schema newest)
  part None comes = tt
  part (Some some) comes = λ whole.
      let d : IsDirectoryOf some.schema newest = of_chunks some comes in
      record { is = is_in; rules = d.spelled; cores = d.cores }

  -- ---- over an image

  pub told : MayBeMade (at db h) change ready.changed
  told = ready.asked.told db began

  sequence_is : next_sequence s ≡ sequence_of (current_slots k.slots) + 1
  sequence_is = ap (λ (n : ℕ). n + 1) (sym kept.slots.sequence)

  names_are : names_of (at db h) ≡ names_at core h
  names_are = names_are_of_the_database names_depend_on_no_row db core h (starts (cost_from (base_of s).records) db core h cells.legal).names

  pub typed : IsTypedFor (names_of (at db h)) change
  typed = subst (λ (names : Names). IsTypedFor names change) (sym names_are) ready.asked.typed

  commit_over : (file : List ℕ) → found_in file (current_slots k.slots) ≡ Ok cells.found → HoldsDatabase file (at db h) cells.found
      → IsCommit file (current_slots k.slots) (at db h) cells.found change ready.changed newest
  commit_over file finds holds =
      let stands : StandsBy file (current_slots k.slots) (at db h) cells.found = record { finds = finds; database = cells.database; holds = holds } in
      let catalog : IsCatalog cells.found.catalog = subst IsCatalog (sym cells.is_found.catalog) kept.catalog in
      record {
        stands = stands;
        may = record { named = ready.asked.named; typed = typed; stores = told.stores; sound = told.fault };
        over = rest.over file (current_slots k.slots) (at db h) cells.found change ready.changed newest stands catalog typed ready.asked.comes ready.asked.valid told.chunks
            (part ready.changed ready.asked.comes);
        catalog = catalog;
        part = part ready.changed ready.asked.comes;
        sequence = subst (λ (n : ℕ). n < 2 ^ 64) sequence_is ready.may_come.sequence;
      }

  -- ---- what is laid

  abbrev IsFree : ℕ → Type 0
  IsFree page = IsTrue (holds (free_at core h) page)

  abbrev LaidBy : Option NewBase → Type 0
  LaidBy o = IsLaidBy s k change ready.changed ready.pages o ready.laid

  target_is : (o : Option NewBase) → LaidBy o → k.slots.target ≡ target_of o
  target_is None is = is.target
  target_is (Some base) is = is.target

  live : AllByRecursion (λ q. IsTrue (is_live core h q)) (pages_of cells.found)
  live = found_live core h (given_of s) k.catalog k.slots.current.root.log cells.found cells.is_found

  laid_in : (given : Directories) (o : Option NewBase) → LaidBy o → AllByRecursion IsFree (all_pages ready.pages o) → AreDistinct (all_pages ready.pages o) → IsLaidIn (over given) o
  laid_in given None is free distinct = record {
    enough = subst (λ (c : Catalog). length ready.pages ≡ record_needs c newest change (draft_of (sequence_of (current_slots k.slots) + 1) ready.changed)) (sym cells.is_found.catalog)
        (subst (λ (n : ℕ). length ready.pages ≡ record_needs k.catalog newest change (draft_of n ready.changed)) sequence_is is.enough);
    few = ready.is_laid.few;
    free = are_free core h begins.0 begins.1 (k.slots.current.root.log ∷ pages_of cells.found) ready.pages ready.may_come.limit
        (log_live core h k.slots.current.root.log kept.slots.log, live) free distinct;
    is = laid_is moment s k p ready ∙ is.is
        ∙ ap (λ (n : ℕ). record_laid k.catalog (catalogue_at core h) newest change (draft_of n ready.changed) ready.pages) sequence_is
        ∙ ap (λ (c : Catalog). record_laid c (catalogue_at core h) newest change (draft_of (sequence_of (current_slots k.slots) + 1) ready.changed) ready.pages) (sym cells.is_found.catalog);
  }
  laid_in given (Some base) is free distinct = (
    record {
      enough = subst (λ (c : Catalog). length ready.pages ≡ base_needs c newest change (draft_of (sequence_of (current_slots k.slots) + 1) ready.changed)) (sym cells.is_found.catalog)
          (subst (λ (n : ℕ). length ready.pages ≡ base_needs k.catalog newest change (draft_of n ready.changed)) sequence_is is.enough);
      few = ready.is_laid.few;
      free = are_free core h begins.0 begins.1 (pages_of cells.found) (ready.pages ++ base.log ∷ []) ready.may_come.limit live free distinct;
      is = laid_is moment s k p ready ∙ is.is
          ∙ ap (λ (n : ℕ). base_laid k.catalog newest change (draft_of n ready.changed) ready.pages base.log) sequence_is
          ∙ ap (λ (c : Catalog). base_laid c newest change (draft_of (sequence_of (current_slots k.slots) + 1) ready.changed) ready.pages base.log) (sym cells.is_found.catalog);
    },
    sym sequence_is ∙ sym is.sequence,
  )

  -- ---- all of it

  pub is_sound : IsSound (at db h) change
  is_sound = record { typed = typed; whole = told.fault }

  pub is_over : (given : Directories) → AreVersions core given h k.rows → IsFound core given h k.catalog k.slots.current.root.log cells.found → IsOver (over given) p.base
  is_over given are found = record {
    store = record {
      rows = k.rows;
      catalog = k.catalog;
      in_order = kept.in_order;
      versions = are;
      are_slots = kept.slots;
      database = cells.database;
      is_found = found;
    };
    may = record {
      its = page_is moment s k p ready;
      unnamed = own_unnamed moment s k p ready;
    };
    target = target_is p.base ready.is_laid.by;
    same = kept.doubt;
    doubtful = cells.doubt;
    sound = record { sound = is_sound; tried = (p.session, ready.may_come.tried) };
    commit = λ image i. commit_over image i.opens i.holds;
    laid_in = laid_in given p.base ready.is_laid.by ready.is_laid.free ready.is_laid.distinct;
  }
