-- The parts of a store that was just opened are those of a store.
use Rattle.std.proofs.Common.{◌≡◌, ◌≤◌, ℕ, ◌+◌, false, ◌||◌, inl, [], List, None, IfSome, Ok, refl, sym, ◌∙◌, ap, subst, arith}
use Rattle.afl_outside.specs.Disk.{Moment, Only}
use Rattle.page_chain.specs.Opens.{OpensAs}
use Rattle.page_chain.specs.Inner.Runs.{OnlyReads}
use Rattle.page_chain.specs.Standing.{IsAlone, IsSound, IsStillEntry, IsStillRoot}
use Rattle.page_chain.specs.declared.slots.slots.slots.Slots.{Slots}
use Rattle.page_chain.specs.declared.slots.slots.slots.RootSlot.{RootSlot}
use Rattle.page_chain.specs.declared.slots.slots.slots.RootSlot.TheVariants as roots
use Rattle.page_chain.specs.declared.slots.slots.slots.NextEntry.TheVariants as entries
use Rattle.page_chain.specs.declared.slots.slots.slots.Target.{Target}
use Rattle.page_chain.specs.declared.slots.slots.slots.Target.TheVariants as targets
use Rattle.page_file.specs.FilesOpened.{OpenFile}
use Rattle.page_file.specs.OpeningOpened.{IsRead}
use Rattle.plan_changes.specs.Databases.{Database}
use Rattle.version_catalog.specs.Catalogs.{names_in}
use Rattle.page_file.specs.Moments.{IsKnown}
use Rattle.file_meaning.specs.Opening.{found_in, opened}
use Rattle.file_meaning.specs.Standing.{HoldsDatabase, HoldsFound, Stands}
use Rattle.file_meaning.specs.declared.meaning.found.Found.{Found}
use Rattle.file_reading.specs.Reading.{IsFound, LieApart, slots_of}
use Rattle.file_reading.proofs.Steps.{at_some}
use Rattle.event_core.specs.declared.state.Core.{Core}
use Rattle.event_core.specs.Legal.{BeginsWithNames}
use Rattle.store_state.specs.RowsLaws.{AreFirst}
use Rattle.store_state.proofs.Opening.{first_rows_are_in_order}
use Rattle.store_opening.specs.Bases.{base_core}
use Rattle.store_opening.proofs.ApartLaws.{bases_lie_apart, log_held}
use Rattle.store_opening.proofs.NamedLaws.{bases_begin, directories_are_counted}
use Rattle.store_versions.specs.Rows.{first_rows}
use Rattle.store_versions.proofs.Made.{bases_are_seen, bases_have_directories}
use Rattle.store_state.specs.Standings.{BeganAs, HaveStood, Standing, base_of, given_of}
use Rattle.store_state.specs.Kept.{AreSlots, AreVersions, IsInOrder, IsKept}
use Rattle.store_state.specs.Cells.{HoldsCells, IsFound as IsFoundBy, IsImage}
use Rattle.store_state.specs.At.{IsAt}
use Rattle.store_state.specs.Payloads.{HasPayloads, HasTold, HoldsPayloads}
use Rattle.store_state.specs.Inner.Keeping.{Keeping, is_opening, is_opening_entry, is_opening_root}
use Rattle.store_opening.specs.declared.opening.opening.Limits.{Limits}
use Rattle.store_opening.specs.Opened.{versions_of}
use Rattle.store_opening.specs.Inner.Read.{IsOpenFile, new_ledger}
use Rattle.store_opening.proofs.Lies.{versions_lie}
use Rattle.store_opening.proofs.PageRows.{pages_by_arrays}
use Rattle.store_opening.proofs.Payloads.{found_payloads}
use Rattle.store_opening.proofs.Read.{opens_so}
use Rattle.store_opening.proofs.Versions.{directories_made, versions_paged}

-- ---- the slots

no_opening : (slots : Slots) → IsRead slots.other → slots.next ≡ entries.Closed → is_opening slots ≡ false
no_opening slots read closed = root slots.other read ∙ ap is_opening_entry closed
  where
    root : (other : RootSlot) → IsRead other → (is_opening_root other || is_opening_entry slots.next) ≡ is_opening_entry slots.next
    root roots.Closed read = refl
    root roots.Older read = refl
    root (roots.Written at) read = absurd read
    root (roots.Opening at) read = absurd read

still : (other : RootSlot) → IsRead other → IsStillRoot other
still roots.Closed read = tt
still roots.Older read = tt
still (roots.Written at) read = absurd read
still (roots.Opening at) read = absurd read

alone : (target : Target) (slots : Slots) → IsRead slots.other → slots.next ≡ entries.Closed → IsAlone target slots
alone targets.Root slots read closed = subst IsStillEntry (sym closed) tt
alone targets.Record slots read closed = still slots.other read

-- ---- the store

-- a store to which nothing came yet, and what it keeps
abbrev pub store_of : {D : Type 0} → D → OpenFile D → Found → Limits → Standing D
store_of disk opened found limits = record {
  disk = disk;
  opened = opened;
  first = versions_of found;
  ledger = new_ledger found opened.slots.current.root.log limits;
  doubt = None;
  acked = [];
  made = [];
}

abbrev pub keeping_of : {D : Type 0} → OpenFile D → Found → Keeping
keeping_of opened found = record { slots = opened.slots; catalog = found.catalog; rows = first_rows (names_in found.catalog).arrays found.directories }

-- what opening a file and reading it gives
pub record Gives {D : Type 0} (moment : D → Moment) (opened : OpenFile D) (disk : D) (found : Found) : Type 0 where
  pub file : IsOpenFile (moment opened.disk) opened.slots
  pub reads : OnlyReads (moment opened.disk) (moment disk)
  pub sound : (seen : List ℕ) → IsSound opened.slots seen (moment opened.disk).may_leave → IsSound opened.slots seen (moment disk).may_leave
  pub rules : IsFound found
  pub apart : LieApart opened.slots.current.root.log found
  pub told : IfSome (moment opened.disk).state.seen (λ seen. found_in seen (slots_of opened.slots) ≡ Ok found)

module _ {D : Type 0} (moment : D → Moment) (file : OpenFile D) (disk : D) (found : Found) (limits : Limits) (given : Gives moment file disk found) where
  abbrev log : ℕ
  log = file.slots.current.root.log

  abbrev base : Core
  base = base_core found log limits.pages

  abbrev store : Standing D
  store = store_of disk file found limits

  abbrev keeping : Keeping
  keeping = keeping_of file found

  first : AreFirst found.catalog found.directories
  first = first_rows_are_in_order found.catalog found.directories given.rules.catalog.names (directories_are_counted found given.rules)

  begins : BeginsWithNames base
  begins = bases_begin found log limits.pages given.rules

  in_order : IsInOrder base []
  in_order = record { ordered = begins; own = tt; apart = bases_lie_apart found log limits.pages given.apart }

  versions : AreVersions base (given_of store) [] keeping.rows
  versions = record {
    first = bases_have_directories (names_in found.catalog) found.directories (directories_are_counted found given.rules);
    seen = bases_are_seen (given_of store) base found.directories refl;
    now = directories_made found given.rules;
    pinned = tt;
    in_order = first.order;
    pages = versions_paged found given.rules;
    pinned_pages = tt;
  }

  nothing_more : (n : ℕ) → n ≡ n + 0
  nothing_more n = omega arith

  slots : AreSlots (base_of store) [] file.slots
  slots = record {
    sequence = nothing_more _;
    records = refl;
    log = log_held found log;
    fits = given.file.fresh.fits;
    target = given.file.fresh.target;
    alone = alone file.slots.target file.slots given.file.fresh.other given.file.fresh.next;
  }

  none_noted : (before now : ℕ) → before ≤ now → before + 0 ≤ now
  none_noted before now later = omega (arith, later)

  kept : IsKept moment store keeping [] (given_of store)
  kept = record {
    in_order = in_order;
    catalog = given.rules.catalog;
    names = refl;
    versions = versions;
    slots = slots;
    doubt = no_opening file.slots given.file.fresh.other given.file.fresh.next;
    acked = refl;
    made = refl;
    tried = refl;
    noted = inl (none_noted _ _ given.reads.same.later);
  }

  -- ---- on an honest disk that told its bytes

  module _ (bytes : List ℕ) (told : HasTold (moment file.disk).state bytes) where
    found_is : found_in bytes (slots_of file.slots) ≡ Ok found
    found_is = at_some (λ seen. found_in seen (slots_of file.slots) ≡ Ok found) (moment file.disk).state.seen bytes given.told told.tells

    opens : OpensAs file.slots.current file.slots.records bytes
    opens = at_some (OpensAs file.slots.current file.slots.records) (moment file.disk).state.seen bytes given.file.opens told.tells

    -- a crash leaves these bytes alone
    only : (image : List ℕ) → (moment file.disk).may_leave image → image ≡ bytes
    only = at_some (λ seen. Only seen (moment file.disk).may_leave) (moment file.disk).state.seen bytes (given.file.durable told.honest) told.tells

    known : IsKnown file.slots bytes (moment disk)
    known = record {
      honest = given.reads.same.honest ∙ told.honest;
      tells = given.reads.seen ∙ told.tells;
      sound = given.sound bytes (at_some (λ seen. IsSound file.slots seen (moment file.disk).may_leave) (moment file.disk).state.seen bytes (given.file.sound told.honest) told.tells);
    }

    payloads : HoldsPayloads moment store keeping bytes [] (given_of store)
    payloads = record {
      bytes = bytes;
      known = known;
      images = λ image left. subst (HasPayloads base (given_of store) bytes []) (sym (only image (given.reads.crash image left)))
          (record { now = found_payloads bytes (slots_of file.slots) found found_is; pinned = tt });
    }

  -- ---- and that began as a database

  module _ (db : Database) (began : BeganAs (moment file.disk).state db) where
    abbrev bytes : List ℕ
    bytes = began.file

    abbrev told : HasTold (moment file.disk).state bytes
    told = record { honest = began.honest; tells = began.tells }

    held : HoldsDatabase bytes db found
    held = let all : HoldsFound bytes db (Ok found) = subst (HoldsFound bytes db) (opens_so bytes file.slots (opens bytes told) ∙ found_is bytes told) began.stands.holds in all

    is_found : IsFoundBy base (given_of store) [] found.catalog log found
    is_found = record { catalog = refl; directories = sym first.directories; catalogue = refl; stored = pages_by_arrays found given.rules }

    image_is : IsImage base (given_of store) db [] file.slots None found bytes
    image_is = record {
      opens = found_is bytes told;
      holds = held;
      now = versions_lie bytes (slots_of file.slots) db found began.stands.database (found_is bytes told) held;
      pinned = tt;
      doubted = tt;
      stands = began.stands;
    }

    stood : HaveStood (moment disk) db [] [] 0 (moment file.disk).state.moment
    stood = record {
      gone = given.reads.time.later;
      made = omega arith;
      images = λ image left. record {
        later = [];
        before = [];
        part = refl;
        enough = omega arith;
        more = None;
        tried = tt;
        stands = subst (λ (c : List ℕ). Stands c db) (sym (only bytes told image (given.reads.time.each image left))) began.stands;
      };
    }

    cells : HoldsCells moment store keeping db [] (given_of store) []
    cells = record {
      legal = record { base = begins.base; database = began.stands.database; names = held.names; pages = begins.pages };
      database = began.stands.database;
      pinned = tt;
      doubt = tt;
      bytes = bytes;
      known = known bytes told;
      found = found;
      is_found = is_found;
      images = λ image left. subst (IsImage base (given_of store) db [] file.slots None found) (sym (only bytes told image (given.reads.crash image left))) image_is;
      past = stood;
      acked = tt;
    }

  -- THE STORE IS ONE
  pub store_is_at : IsAt moment store keeping
  store_is_at = record { kept = kept; payloads = λ bytes told. payloads bytes told; cells = λ db began. cells db began }
