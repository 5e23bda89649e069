-- What a store holds once a commit is sealed.
use Rattle.std.proofs.Common.{◌≡◌, ◌∙◌, ℕ, ◌+◌, Bool, if◌then◌else◌, List, [], ◌∷◌, ◌++◌, length, Option, None, Some, IsTrue, refl, ap, sym, subst, arith}
use Rattle.std.specs.List.{AllByRecursion}
use Rattle.std.proofs.lemmas.Bool.{eq-eqb, not_from_false}
use Rattle.std.proofs.lemmas.List.{length-reverse}
use Rattle.afl_outside.specs.Disk.{Moment}
use Rattle.page_chain.specs.declared.slots.slots.slots.Slots.{Slots}
use Rattle.logical_plan.specs.declared.names.Names.{Names}
use Rattle.plan_changes.specs.Allowed.{names_allow}
use Rattle.plan_changes.specs.Databases.{Database}
use Rattle.plan_changes.proofs.DatabaseLaws.{changes_keep_databases}
use Rattle.version_catalog.specs.Catalogs.{names_in}
use Rattle.event_core.specs.declared.entry.Entry.{Entry}
use Rattle.event_core.specs.declared.state.Core.{Core}
use Rattle.event_core.specs.Cells.{at}
use Rattle.event_core.specs.History.{History, catalogue_at}
use Rattle.event_core.specs.Pages.{free_at}
use Rattle.file_meaning.proofs.Parts.{rest_all}
use Rattle.version_reaper.specs.PageSets.{holds}
use Rattle.page_file.specs.Moments.{IsKnown, IsOpened}
use Rattle.store_state.specs.Laid.{Laid}
use Rattle.store_state.specs.LaidPremises.{made_of}
use Rattle.store_state.proofs.Used.{bases_have, records_have}
use Rattle.store_state.specs.Rows.{IsMadeWith}
use Rattle.store_ledger.specs.declared.note.Note.{Note}
use Rattle.store_ledger.specs.Ledger.{LedgerState, history}
use Rattle.store_ledger.proofs.Pins.{one_more}
use Rattle.store_versions.specs.Laws.{with_made}
use Rattle.store_versions.specs.Versions.{Directories}
use Rattle.store_versions.proofs.Made.{named_versions_have_directories}
use Rattle.prepared_commits.specs.Cells.{HoldsCells, IsFound, IsImage}
use Rattle.prepared_commits.specs.Kept.{AreVersions, IsKept}
use Rattle.prepared_commits.specs.Standings.{HaveStood, Standing, commit_places, current_slots, given_of}
use Rattle.prepared_commits.specs.Keeping.{Keeping}
use Rattle.prepared_commits.proofs.Attempts.{have_stood_noted, have_stood_on}
use Rattle.prepared_commits.proofs.Lists.{zip_map}
use Rattle.store_sealing.specs.Premises.{IsFoundInOrder}
use Rattle.store_sealing.proofs.Moments.{have_stood_by, have_stood_now}
use Rattle.prepared_commits.specs.declared.commits.prepared.NewBase.{NewBase}
use Rattle.prepared_commits.specs.declared.commits.prepared.Prepared.{Prepared}
use Rattle.prepared_commits.specs.Needs.{IsLaidBy, all_pages, newest_now, next_sequence}
use Rattle.store_sealing.specs.StepsLaws.{SealedStoresAreKept}
use Rattle.store_sealing.specs.Steps.{entry_of, made_by, sealed, sealed_keeping, sealed_ledger, sealed_slots}
use Rattle.store_sealing.proofs.Catalogs.{IsMadeOf, base_is, record_is}
use Rattle.store_sealing.proofs.Givens.{count_places, given_more, places_more}
use Rattle.store_sealing.proofs.Lists.{zip_push}
use Rattle.store_sealing.specs.CellsLaws.{IsWritten, SealedCellsAreHeld, SealedImagesStand}
use Rattle.store_sealing.specs.Moves.{IsDone}
use Rattle.store_sealing.proofs.Commit.{are_pages_of, begins, is_over, over, stand_in, told, typed}
use Rattle.store_sealing.proofs.Found.{base_catalogue, is_next, made_with, record_catalogue}
use Rattle.store_sealing.proofs.Given.{found_more, image_more, versions_more}
use Rattle.store_sealing.proofs.Over.{HasNew, Image, IsLaidIn, IsOver, May, Over, have_stood, its_pages, new_found, next_image, stands_next}
use Rattle.store_sealing.proofs.CellsPages.{positive}
use Rattle.store_sealing.proofs.Pass.{noted_is}
use Rattle.store_sealing.proofs.Rest.{Rest}

module _ (rest : Rest) {D : Type 0} (moment : D → Moment) (s : Standing D) (k : Keeping) (p : Prepared) (db : Database) (later : Slots) (disk : D)
    (w : IsWritten moment s k p db later disk) where
  abbrev h : History
  h = history s.ledger

  abbrev core : Core
  core = s.ledger.base

  -- ---- what was done

  slots_are : (o : Option NewBase) → IsDone o k.slots later p.blobs p.chain (moment s.disk) (moment disk) → later ≡ sealed_slots o p.chain k.slots
  slots_are None done = done.slots_are
  slots_are (Some base) done = done.slots_are

  module _ (given : Directories) where
    abbrev v : Over
    v = over rest moment s k p db w.ready w.cells w.began given

    opened : (o : Option NewBase) → IsDone o k.slots later p.blobs p.chain (moment s.disk) (moment disk) → (c : List ℕ) → (moment disk).may_leave c
        → IsOpened (its_pages v o) (HasNew v o) (moment s.disk).may_leave c
    opened None done c left = done.images w.cells.bytes w.cells.known c left
    opened (Some base) done c left = done.images w.cells.bytes w.cells.known c left

  -- ---- with the directory of the version that it makes

  abbrev are : AreVersions core (given_of s) h k.rows
  are = w.ready.kept.versions

  abbrev more : Directories
  more = with_made (length h) (made_by p) (given_of s)

  abbrev its : Over
  its = over rest moment s k p db w.ready w.cells w.began more

  are_more : AreVersions core more h k.rows
  are_more = versions_more core (given_of s) h k.rows (made_by p) are

  is_found : IsFound core more h k.catalog k.slots.current.root.log w.cells.found
  is_found = found_more core (given_of s) h k.rows (made_by p) are k.catalog k.slots.current.root.log w.cells.found w.cells.is_found

  is_its : IsOver its p.base
  is_its = is_over rest moment s k p db w.ready w.cells w.began more are_more is_found

  its_image : (image : List ℕ) → (moment s.disk).may_leave image → Image its image
  its_image image left = image_more core (given_of s) h k.rows (made_by p) are db k.slots s.doubt w.cells.found image (w.cells.images image left)

  -- ---- what is found then

  abbrev LaidBy : Option NewBase → Type 0
  LaidBy o = IsLaidBy s k p.commit.change w.ready.changed w.ready.pages o w.ready.laid

  version_made : (o : Option NewBase) → LaidBy o → IsMadeOf w.ready.changed w.ready.laid.at w.ready.laid.directory w.ready.laid.used.version
  version_made None is = subst (λ (l : Laid). IsMadeOf w.ready.changed l.at l.directory l.used.version) (sym is.is)
      (record_is k.catalog (catalogue_at core h) (newest_now s p.commit.change) p.commit.change (next_sequence s) w.ready.changed w.ready.pages).version
  version_made (Some base) is = subst (λ (l : Laid). IsMadeOf w.ready.changed l.at l.directory l.used.version) (sym is.is)
      (base_is k.catalog (newest_now s p.commit.change) p.commit.change (next_sequence s) w.ready.changed w.ready.pages base.log).version

  with_its : IsMadeWith p.commit.change (made_of its.laid) (made_by p)
  with_its = made_with p.commit.change w.ready.changed w.ready.laid.at w.ready.laid.directory w.ready.laid.used.version p.version w.ready.asked.comes (version_made p.base w.ready.is_laid.by)
      w.ready.is_laid.directory

  its_directory : more.made (length h) ≡ made_by p
  its_directory = ap (λ (b : Bool). if b then made_by p else (given_of s).made (length h)) (eq-eqb (length h) (length h) refl)

  its_names : IsTrue (names_allow (names_in k.catalog) p.commit.change)
  its_names = subst (λ (names : Names). IsTrue (names_allow names p.commit.change)) (sym w.ready.kept.names) w.ready.asked.typed.0

  abbrev IsNext : Option NewBase → Type 0
  IsNext o = IsFound core more (entry_of p ∷ h) p.catalog (sealed_slots o p.chain k.slots).current.root.log (new_found its o)

  next_is : (o : Option NewBase) → IsLaidIn its o → AllByRecursion (λ page. IsTrue (holds (free_at core h) page)) (all_pages w.ready.pages o) → IsNext o
  next_is None is free =
      let has = records_have (current_slots k.slots) w.cells.found p.commit.change w.ready.changed its.newest its.catalogue w.ready.pages its.laid is in
      is_next core more h k.catalog k.slots.current.root.log w.cells.found p.commit.change (made_of its.laid) (made_by p) p.session p.commit.used is_found
      (stand_in core more h k.catalog w.ready.kept.catalog w.ready.kept.names (named_versions_have_directories more core h w.ready.kept.in_order.ordered are_more.first) are_more.in_order)
      w.ready.kept.catalog (are_pages_of core more h are_more.pages) w.ready.kept.names its_names with_its its_directory has.version
      p.catalog k.slots.current.root.log w.cells.found.chain (w.cells.found.logged ++ p.chain.pages ∷ []) has.catalog
      (record_catalogue (catalogue_at core h) p.commit.used.catalogue w.cells.found.chain p.chain.pages k.slots.current.root.log w.cells.found.logged has.told is_found.catalogue)
  next_is (Some base) is free =
      let has = bases_have (current_slots k.slots) w.cells.found p.commit.change w.ready.changed its.newest w.ready.pages base.log its.laid is.0 in
      let log = (rest_all (λ page. IsTrue (holds (free_at core h) page)) w.ready.pages (base.log ∷ []) free).0 in
      let first = begins rest moment s k p db w.ready w.cells w.began in
      is_next core more h k.catalog k.slots.current.root.log w.cells.found p.commit.change (made_of its.laid) (made_by p) p.session p.commit.used is_found
      (stand_in core more h k.catalog w.ready.kept.catalog w.ready.kept.names (named_versions_have_directories more core h w.ready.kept.in_order.ordered are_more.first) are_more.in_order)
      w.ready.kept.catalog (are_pages_of core more h are_more.pages) w.ready.kept.names its_names with_its its_directory has.version
      p.catalog base.log p.chain.pages [] has.catalog
      (base_catalogue p.commit.used.catalogue p.chain.pages base.log (positive core h first.0 first.1 base.log log) has.told)

  -- ---- all of it, with other notes

  module _ (done : IsDone p.base k.slots later p.blobs p.chain (moment s.disk) (moment disk))
      (only : (image : List ℕ) → (moment disk).left_since (moment disk).state.moment image → (moment disk).may_leave image) (noted : List Note) where
    abbrev ledger : LedgerState
    ledger = record (sealed_ledger s p) { notes = s.ledger.notes ++ noted }

    abbrev next : Standing D
    next = sealed moment s p ledger disk

    abbrev entry : Entry
    entry = entry_of p

    history_is : history ledger ≡ entry ∷ h
    history_is = one_more s.ledger.entries entry

    given_is : given_of next ≡ more
    given_is = given_more s.first s.ledger.entries s.made (length h) p.session p.commit.change p.commit.used (made_by p) (length-reverse s.ledger.entries)
        (count_places 0 s.ledger.entries ∙ sym w.ready.kept.made)

    places_are : commit_places 0 ledger.entries ≡ commit_places 0 s.ledger.entries ++ length s.ledger.entries ∷ []
    places_are = places_more 0 (length s.ledger.entries) p.session p.commit.change p.commit.used s.ledger.entries (omega arith)

    abbrev Keeps : History → Directories → Type 0
    Keeps h' given = IsKept moment next (sealed_keeping s k p) h' given

    order_in : Keeps (entry ∷ h) more → IsFoundInOrder core more (entry ∷ h) (sealed_slots p.base p.chain k.slots).current.root.log (new_found its p.base)
    order_in kept = record {
      catalog = p.catalog;
      is_found = next_is p.base is_its.laid_in w.ready.is_laid.free;
      names = kept.names;
      in_order = kept.versions.in_order;
    }

    image_next : Keeps (entry ∷ h) more → (image : List ℕ) → (moment disk).may_leave image
        → IsImage core more db (entry ∷ h) (sealed_slots p.base p.chain k.slots) None (new_found its p.base) image
    image_next kept image left =
        let op = opened more p.base done image left in
        next_image rest its p.base is_its p.session p.commit.used (order_in kept) op.0.0 image (its_image op.0.0 op.0.1) op.0.2 op.1

    stood_on : (least since : ℕ) → HaveStood (moment s.disk) db s.ledger.notes h least since → HaveStood (moment disk) db (s.ledger.notes ++ noted) (entry ∷ h) least since
    stood_on least since x = have_stood_noted (moment disk) db s.ledger.notes noted (entry ∷ h) least since
        (have_stood_on entry (moment disk) db s.ledger.notes h least since
        (have_stood_by (May rest its p.base is_its (moment s.disk).may_leave its_image) (moment s.disk) (moment disk) db s.ledger.notes h least since
        (have_stood rest its p.base is_its (moment s.disk).may_leave its_image) (w.writes.during w.cells.bytes w.cells.known) x))

    stood_now : Keeps (entry ∷ h) more → HaveStood (moment disk) db (s.ledger.notes ++ noted) (entry ∷ h) (length s.ledger.entries + 1) (moment disk).state.moment
    stood_now kept =
        let same : length h ≡ length s.ledger.entries = length-reverse s.ledger.entries in
        subst (λ (n : ℕ). HaveStood (moment disk) db (s.ledger.notes ++ noted) (entry ∷ h) n (moment disk).state.moment) (omega (arith, same))
        (have_stood_now (moment disk) only db (s.ledger.notes ++ noted) (entry ∷ h) (λ image left. (image_next kept image left).stands))

    abbrev Holds : History → Directories → List ℕ → Type 0
    Holds h' given places = HoldsCells moment next (sealed_keeping s k p) db h' given places

    holds_next : Keeps (entry ∷ h) more → Holds (entry ∷ h) more (commit_places 0 s.ledger.entries ++ length s.ledger.entries ∷ [])
    holds_next kept =
        let t = told rest moment s k p db w.ready w.cells w.began in
        let known = w.writes.known w.cells.bytes w.cells.known in
        record {
          legal = (w.cells.legal, w.ready.may_come.allowed, (not_from_false _ w.ready.may_come.first, w.ready.asked.named, w.ready.asked.typed.1), (t.fault, w.ready.may_come.cost db w.began));
          database = changes_keep_databases (at db h) p.commit.change w.cells.database w.ready.asked.named (typed rest moment s k p db w.ready w.cells w.began) t.stores t.fault;
          pinned = w.cells.pinned;
          doubt = tt;
          bytes = known.0;
          known = subst (λ (slots : Slots). IsKnown slots known.0 (moment disk)) (slots_are p.base done) known.1;
          found = new_found its p.base;
          is_found = next_is p.base is_its.laid_in w.ready.is_laid.free;
          images = image_next kept;
          past = stood_on 0 _ w.cells.past;
          acked = zip_push (λ place since. HaveStood (moment disk) db (s.ledger.notes ++ noted) (entry ∷ h) (place + 1) since) (commit_places 0 s.ledger.entries) s.acked (length s.ledger.entries)
              (moment disk).state.moment
              (zip_map (λ place since. HaveStood (moment s.disk) db s.ledger.notes h (place + 1) since) (λ place since. HaveStood (moment disk) db (s.ledger.notes ++ noted) (entry ∷ h) (place + 1) since)
              (λ place since x. stood_on (place + 1) since x) (commit_places 0 s.ledger.entries) s.acked w.cells.acked)
              (stood_now kept);
        }

    holds_sealed : Keeps (history ledger) (given_of next) → Holds (history ledger) (given_of next) (commit_places 0 ledger.entries)
    holds_sealed kept =
        let kept_next : Keeps (entry ∷ h) more = subst (λ (given : Directories). Keeps (entry ∷ h) given) given_is (subst (λ (h' : History). Keeps h' (given_of next)) history_is kept) in
        subst (λ (h' : History). Holds h' (given_of next) (commit_places 0 ledger.entries)) (sym history_is)
        (subst (λ (given : Directories). Holds (entry ∷ h) given (commit_places 0 ledger.entries)) (sym given_is)
        (subst (λ (places : List ℕ). Holds (entry ∷ h) more places) (sym places_are) (holds_next kept_next)))

-- ---- the laws

pub sealed_cells : Rest → {D : Type 0} (moment : D → Moment) → SealedStoresAreKept moment → SealedCellsAreHeld moment
sealed_cells rest moment keeps s k p db later ledger disk w done only notes =
    let noted = noted_is (moment s.disk).state (moment disk).state p.session (sealed_ledger s p) ledger notes in
    let kept = keeps s k p ledger disk w.ready w.writes.same notes in
    subst (λ (l : LedgerState). HoldsCells moment (sealed moment s p l disk) (sealed_keeping s k p) db (history l) (given_of (sealed moment s p l disk)) (commit_places 0 l.entries)) (sym noted.1)
    (holds_sealed rest moment s k p db later disk w done only noted.0
    (subst (λ (l : LedgerState). IsKept moment (sealed moment s p l disk) (sealed_keeping s k p) (history l) (given_of (sealed moment s p l disk))) noted.1 kept))

pub sealed_images : Rest → {D : Type 0} (moment : D → Moment) → SealedImagesStand moment
sealed_images rest moment s k p db later disk w done image left =
    let v = over rest moment s k p db w.ready w.cells w.began (given_of s) in
    let x = is_over rest moment s k p db w.ready w.cells w.began (given_of s) w.ready.kept.versions w.cells.is_found in
    let op = opened rest moment s k p db later disk w (given_of s) p.base done image left in
    stands_next rest v p.base x op.0.0 image (w.cells.images op.0.0 op.0.1) op.0.2 op.1
