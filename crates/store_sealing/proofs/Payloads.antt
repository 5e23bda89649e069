-- What an honest disk has of each payload once a commit is sealed, and where it stopped.
use Rattle.std.proofs.Common.{◌≡◌, ◌∙◌, ◌⊎◌, inl, inr, ℕ, ◌≤◌, Bool, true, false, if◌then◌else◌, List, [], ◌∷◌, ◌++◌, length, Option, None, Some, IfSome, refl, ap, sym, subst}
use Rattle.std.specs.List.{AllByRecursion}
use Rattle.std.proofs.lemmas.Bool.{eq-eqb}
use Rattle.std.proofs.lemmas.List.{length-reverse}
use Rattle.afl_outside.specs.Disk.{Moment}
use Rattle.array_geom.specs.declared.chunk.Changed.{Changed}
use Rattle.cell_values.specs.declared.schema.Schema.{Schema}
use Rattle.chunk_map.specs.declared.directory.Directory.{Directory}
use Rattle.page_chain.specs.Inner.Runs.{Over}
use Rattle.page_chain.specs.declared.slots.slots.slots.Slots.{Slots}
use Rattle.logical_plan.specs.declared.names.Names.{Names}
use Rattle.plan_changes.specs.declared.change.Change.{Change}
use Rattle.plan_changes.specs.Changes.{name_of, names_after, newest_of}
use Rattle.page_file.specs.declared.commits.placed.Placed.{Placed}
use Rattle.page_file.specs.declared.commits.stopped.Stopped.{Stopped}
use Rattle.page_file.specs.declared.commits.stopped.Stopped.TheVariants as stages
use Rattle.page_file.specs.Commits.{HoldsAll, HoldsBlobs}
use Rattle.page_file.specs.Moments.{IsKnown, IsOpened, IsUnopened}
use Rattle.event_core.specs.declared.entry.Entry.{Entry}
use Rattle.event_core.specs.declared.state.Core.{Core}
use Rattle.event_core.specs.History.{History, catalogue_at, names_at}
use Rattle.event_core.specs.Pages.{is_live}
use Rattle.store_state.specs.Laid.{Laid}
use Rattle.store_state.specs.NewVersion.{NewVersion}
use Rattle.store_state.specs.Written.{Written}
use Rattle.store_state.specs.Changes.{AreValid, ComesWith}
use Rattle.store_state.specs.Versions.{draft, draft_of, new_version, version_needs}
use Rattle.store_ledger.specs.declared.note.Note.{Note}
use Rattle.store_ledger.specs.Ledger.{LedgerState, history}
use Rattle.store_ledger.proofs.Pins.{one_more}
use Rattle.store_versions.specs.Laws.{with_made}
use Rattle.store_versions.specs.Versions.{Directories, HaveDirectories, MadeVersion, versions_after, versions_at}
use Rattle.store_versions.proofs.Made.{named_versions_have_directories}
use Rattle.prepared_commits.specs.Kept.{AreVersions}
use Rattle.prepared_commits.specs.Payloads.{HasItsPayloads, HasPayloads, HavePayloads, HoldsPayloads}
use Rattle.prepared_commits.specs.Standings.{Standing, given_of}
use Rattle.prepared_commits.specs.Keeping.{Keeping}
use Rattle.prepared_commits.specs.declared.commits.prepared.NewBase.{NewBase}
use Rattle.prepared_commits.specs.declared.commits.prepared.Prepared.{Prepared}
use Rattle.prepared_commits.specs.Needs.{IsLaidBy, newest_now, next_sequence, written_now}
use Rattle.prepared_commits.proofs.Newest.{newest_rises, newest_suits}
use Rattle.store_sealing.specs.Steps.{entry_of, made_by, sealed, sealed_keeping, sealed_ledger, sealed_slots, stopped, stopped_keeping, stopped_slots}
use Rattle.store_sealing.proofs.Givens.{count_places, given_more}
use Rattle.store_sealing.proofs.Schemas.{MakesSo, suit_after}
use Rattle.store_sealing.specs.CellsLaws.{IsWrittenOver, SealedPayloadsAreHeld, StoppedPayloadsAreHeld}
use Rattle.store_sealing.specs.Moves.{IsDone, NewIn, StopsAt, own_pages, slot_page}
use Rattle.store_sealing.proofs.Given.{payloads_more, versions_more}
use Rattle.store_sealing.proofs.KeptPayloads.{payloads_kept}
use Rattle.store_sealing.proofs.NewPayloads.{IsMadeSo, LaysVersion, base_lays, base_room, makes_so, new_payloads, record_lays, record_room}
use Rattle.store_sealing.proofs.Own.{given_positive, its_schema, own_unnamed, page_is}
use Rattle.store_sealing.proofs.Pass.{noted_is}

-- of an image of before these pages alone may differ: that of the slot, and some that nobody can name
record IsOverIn (core : Core) (h : History) (before : List ℕ → Type 0) (slot : ℕ) (c : List ℕ) : Type 0 where
  pages : List ℕ
  unnamed : AllByRecursion (λ q. is_live core h q ≡ false) pages
  over : Over (slot ∷ pages) before c

module _ {D : Type 0} (moment : D → Moment) (s : Standing D) (k : Keeping) (p : Prepared) (file : List ℕ) (later : Slots) (disk : D)
    (w : IsWrittenOver moment s k p file later disk) where
  abbrev h : History
  h = history s.ledger

  abbrev core : Core
  core = s.ledger.base

  abbrev change : Change
  change = p.commit.change

  abbrev given : Directories
  given = given_of s

  abbrev before : List ℕ → Type 0
  before = (moment s.disk).may_leave

  -- ---- what goes on

  abbrev IsOver : List ℕ → Type 0
  IsOver c = IsOverIn core h before (slot_page p.base k.slots) c

  own : (c : List ℕ) → Over (slot_page p.base k.slots ∷ own_pages p.base p.blobs p.chain) before c → IsOver c
  own c over = record { pages = own_pages p.base p.blobs p.chain; unnamed = own_unnamed moment s k p w.ready; over = over }

  goes_on : (c : List ℕ) → IsOver c → HasPayloads core given file h c
  goes_on c is = payloads_kept core given h k.rows k.slots (slot_page p.base k.slots) is.pages is.over.0 c file w.ready.kept.in_order w.ready.kept.versions w.ready.kept.slots.log
      (page_is moment s k p w.ready) is.unnamed is.over.2 (w.payloads.images is.over.0 is.over.1)

  -- ---- where it stopped

  slots_stopped : (stage : Stopped) (o : Option NewBase) → StopsAt o stage k.slots later p.blobs p.chain (moment s.disk) (moment disk) → later ≡ stopped_slots stage o p.chain k.slots later
  slots_stopped stages.Closing None stops = stops.slots_are
  slots_stopped stages.Closing (Some base) stops = stops.slots_are
  slots_stopped stages.Filling None stops = stops.slots_are
  slots_stopped stages.Filling (Some base) stops = stops.slots_are
  slots_stopped stages.Opening None stops = stops.slots_are
  slots_stopped stages.Opening (Some base) stops = stops.slots_are

  abbrev IsOverBy : Option NewBase → List ℕ → Type 0
  IsOverBy o c = Over (slot_page o k.slots ∷ []) before c

  abbrev IsOverOwn : Option NewBase → List ℕ → Type 0
  IsOverOwn o c = Over (slot_page o k.slots ∷ own_pages o p.blobs p.chain) before c

  abbrev OverAt : Stopped → Option NewBase → List ℕ → Type 0
  OverAt stages.Closing o c = IsOverBy o c
  OverAt stages.Filling o c = IsOverOwn o c
  OverAt stages.Opening o c = IsOverOwn o c

  either : (o : Option NewBase) (c : List ℕ) → IsUnopened (slot_page o k.slots ∷ own_pages o p.blobs p.chain) k.slots before c
      ⊎ IsOpened (slot_page o k.slots ∷ own_pages o p.blobs p.chain) (NewIn o k.slots p.blobs p.chain) before c → IsOverOwn o c
  either o c (inl un) = un.0
  either o c (inr op) = op.0

  over_at : (stage : Stopped) (o : Option NewBase) → StopsAt o stage k.slots later p.blobs p.chain (moment s.disk) (moment disk) → (c : List ℕ) → (moment disk).may_leave c → OverAt stage o c
  over_at stages.Closing None stops c left = (stops.images w.payloads.bytes w.payloads.known c left).0
  over_at stages.Closing (Some base) stops c left = (stops.images w.payloads.bytes w.payloads.known c left).0
  over_at stages.Filling None stops c left = (stops.images w.payloads.bytes w.payloads.known c left).0
  over_at stages.Filling (Some base) stops c left = (stops.images w.payloads.bytes w.payloads.known c left).0
  over_at stages.Opening None stops c left = either None c (stops.images w.payloads.bytes w.payloads.known c left).1
  over_at stages.Opening (Some base) stops c left = either (Some base) c (stops.images w.payloads.bytes w.payloads.known c left).1

  is_over : (stage : Stopped) (c : List ℕ) → OverAt stage p.base c → IsOver c
  is_over stages.Closing c over = record { pages = []; unnamed = tt; over = over }
  is_over stages.Filling c over = own c over
  is_over stages.Opening c over = own c over

  pub holds_stopped : (stage : Stopped) (ledger : LedgerState) → ledger.base ≡ core → StopsAt p.base stage k.slots later p.blobs p.chain (moment s.disk) (moment disk)
      → HoldsPayloads moment (stopped stage s p ledger disk) (stopped_keeping stage k p later) file h given
  holds_stopped stage ledger same stops =
      let known = w.writes.known w.payloads.bytes w.payloads.known in
      record {
        bytes = known.0;
        known = subst (λ (slots : Slots). IsKnown slots known.0 (moment disk)) (slots_stopped stage p.base stops) known.1;
        images = λ image left. subst (λ (base : Core). HasPayloads base given file h image) (sym same) (goes_on image (is_over stage image (over_at stage p.base stops image left)));
      }

  -- ---- once it is sealed

  slots_are : (o : Option NewBase) → IsDone o k.slots later p.blobs p.chain (moment s.disk) (moment disk) → later ≡ sealed_slots o p.chain k.slots
  slots_are None done = done.slots_are
  slots_are (Some base) done = done.slots_are

  opened : (o : Option NewBase) → IsDone o k.slots later p.blobs p.chain (moment s.disk) (moment disk) → (c : List ℕ) → (moment disk).may_leave c → IsOverOwn o c × HoldsAll c p.blobs p.chain
  opened None done c left = let is = done.images w.payloads.bytes w.payloads.known c left in (is.0, is.1.1)
  opened (Some base) done c left = let is = done.images w.payloads.bytes w.payloads.known c left in (is.0, is.1.1)

  -- the version that is laid

  abbrev newest : Directory
  newest = newest_now s change

  abbrev version : NewVersion
  version = new_version w.ready.pages (written_now s w.ready.changed) newest

  lays : (o : Option NewBase) → IsLaidBy s k change w.ready.changed w.ready.pages o w.ready.laid → LaysVersion w.ready.laid version
  lays None is = subst (λ (l : Laid). LaysVersion l version) (sym is.is) (record_lays k.catalog (catalogue_at core h) newest change (written_now s w.ready.changed) w.ready.pages)
  lays (Some base) is = subst (λ (l : Laid). LaysVersion l version) (sym is.is) (base_lays k.catalog newest change (written_now s w.ready.changed) w.ready.pages base.log)

  room : (o : Option NewBase) → IsLaidBy s k change w.ready.changed w.ready.pages o w.ready.laid → version_needs (written_now s w.ready.changed) newest ≤ length w.ready.pages
  room None is = record_room k.catalog newest change (written_now s w.ready.changed) w.ready.pages is.enough
  room (Some base) is = base_room k.catalog newest change (written_now s w.ready.changed) w.ready.pages is.enough

  have : HaveDirectories (names_at core h) (versions_at core given h)
  have = named_versions_have_directories given core h w.ready.kept.in_order.ordered w.ready.kept.versions.first

  module _ (c : List ℕ) (over : IsOver c) (blobs : HoldsBlobs c p.blobs) where
    abbrev R : Schema → Directory → Type 0
    R = HasItsPayloads given.first file c

    newest_has : (some : Changed) → ComesWith change (Some some) → R some.schema newest
    newest_has some comes = newest_suits R (λ schema. tt) (names_at core h) (versions_at core given h) (name_of change) (newest_of (names_at core h).arrays (name_of change)) some.schema have
        (goes_on c over).now (its_schema (names_at core h) change some w.ready.asked.typed comes)

    made : (changed : Option Changed) → ComesWith change changed → IfSome changed AreValid → version_needs (draft_of (next_sequence s) changed) newest ≤ length w.ready.pages
        → HoldsBlobs c (new_version w.ready.pages (draft_of (next_sequence s) changed) newest).blobs
        → IfSome changed (λ some. IsMadeSo (new_version w.ready.pages (draft_of (next_sequence s) changed) newest).directory (R some.schema))
    made None comes valid fits holds = tt
    made (Some some) comes valid fits holds =
        new_payloads given.first file c some newest (next_sequence s) w.ready.pages valid (given_positive moment s k p w.ready) fits holds
        (λ part. (newest_rises (names_at core h) (versions_at core given h) (name_of change) (newest_of (names_at core h).arrays (name_of change)) have w.ready.kept.versions.now, newest_has some comes))

    makes : MakesSo R change (made_by p)
    makes =
        let laid = lays p.base w.ready.is_laid.by in
        makes_so R change w.ready.changed version.directory p.version w.ready.asked.comes
        (made w.ready.changed w.ready.asked.comes w.ready.asked.valid (room p.base w.ready.is_laid.by) (subst (HoldsBlobs c) (w.ready.is_laid.blobs ∙ laid.blobs) blobs))
        (w.ready.is_laid.directory ∙ laid.directory)

  -- with the directory of the version that it makes

  abbrev more : Directories
  more = with_made (length h) (made_by p) given

  are_more : AreVersions core more h k.rows
  are_more = versions_more core given h k.rows (made_by p) w.ready.kept.versions

  its_directory : more.made (length h) ≡ made_by p
  its_directory = ap (λ (b : Bool). if b then made_by p else given.made (length h)) (eq-eqb (length h) (length h) refl)

  abbrev entry : Entry
  entry = entry_of p

  next_payloads : (c : List ℕ) → IsOver c → HoldsBlobs c p.blobs → HasPayloads core more file (entry ∷ h) c
  next_payloads c over blobs =
      let names : Names = names_at core h in
      let has : HasPayloads core more file h c = payloads_more core given h k.rows (made_by p) w.ready.kept.versions file c (goes_on c over) in
      record {
        now = subst (λ (d : Directory). HavePayloads given.first file c (names_after names change) (versions_after names change d (versions_at core more h))) (sym its_directory)
            (suit_after (HasItsPayloads given.first file c) names (versions_at core more h) (made_by p) (named_versions_have_directories more core h w.ready.kept.in_order.ordered are_more.first) has.now
            change w.ready.asked.typed (makes c over blobs));
        pinned = has.pinned;
      }

  module _ (done : IsDone p.base k.slots later p.blobs p.chain (moment s.disk) (moment disk)) (noted : List Note) where
    abbrev ledger : LedgerState
    ledger = record (sealed_ledger s p) { notes = s.ledger.notes ++ noted }

    abbrev next : Standing D
    next = sealed moment s p ledger disk

    history_is : history ledger ≡ entry ∷ h
    history_is = one_more s.ledger.entries entry

    given_is : given_of next ≡ more
    given_is = given_more s.first s.ledger.entries s.made (length h) p.session p.commit.change p.commit.used (made_by p) (length-reverse s.ledger.entries)
        (count_places 0 s.ledger.entries ∙ sym w.ready.kept.made)

    holds_next : HoldsPayloads moment next (sealed_keeping s k p) file (entry ∷ h) more
    holds_next =
        let known = w.writes.known w.payloads.bytes w.payloads.known in
        record {
          bytes = known.0;
          known = subst (λ (slots : Slots). IsKnown slots known.0 (moment disk)) (slots_are p.base done) known.1;
          images = λ image left. let op = opened p.base done image left in next_payloads image (own image op.0) op.1.0;
        }

    pub holds_sealed : HoldsPayloads moment next (sealed_keeping s k p) file (history ledger) (given_of next)
    holds_sealed =
        subst (λ (h' : History). HoldsPayloads moment next (sealed_keeping s k p) file h' (given_of next)) (sym history_is)
        (subst (λ (all : Directories). HoldsPayloads moment next (sealed_keeping s k p) file (entry ∷ h) all) (sym given_is) holds_next)

-- ---- the laws

pub sealed_payloads : {D : Type 0} (moment : D → Moment) → SealedPayloadsAreHeld moment
sealed_payloads moment s k p file later ledger disk w done notes =
    let noted = noted_is (moment s.disk).state (moment disk).state p.session (sealed_ledger s p) ledger notes in
    subst (λ (l : LedgerState). HoldsPayloads moment (sealed moment s p l disk) (sealed_keeping s k p) file (history l) (given_of (sealed moment s p l disk))) (sym noted.1)
    (holds_sealed moment s k p file later disk w done noted.0)

pub stopped_payloads : {D : Type 0} (moment : D → Moment) → StoppedPayloadsAreHeld moment
stopped_payloads moment s k p file later stage ledger disk w stops notes =
    let noted = noted_is (moment s.disk).state (moment disk).state p.session s.ledger ledger notes in
    subst (λ (l : LedgerState). HoldsPayloads moment (stopped stage s p l disk) (stopped_keeping stage k p later) file (history l) (given_of (stopped stage s p l disk))) (sym noted.1)
    (holds_stopped moment s k p file later disk w stage (record s.ledger { notes = s.ledger.notes ++ noted.0 }) refl stops)
