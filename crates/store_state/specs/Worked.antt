-- A store that was just opened: over the file of one array with two cells, on a disk that tells its bytes.
use Rattle.std.specs.Prelude.{◌≡◌, true, false, [], ◌∷◌, codes, None, Some}
use Rattle.afl_outside.specs.Disk.{Moment}
use Rattle.chunk_map.specs.declared.directory.Directory.{Directory}
use Rattle.page_chain.specs.declared.slots.layout.sides.Side.TheVariants.{A}
use Rattle.page_chain.specs.declared.slots.layout.sides.Format.TheVariants.{Two}
use Rattle.page_chain.specs.declared.slots.slots.slots.Slots.{Slots}
use Rattle.page_chain.specs.declared.slots.slots.slots.RootSlot.TheVariants as roots
use Rattle.page_chain.specs.declared.slots.slots.slots.NextEntry.TheVariants as entries
use Rattle.page_chain.specs.declared.slots.slots.slots.Target.TheVariants as targets
use Rattle.version_catalog.specs.declared.rules.catalog.Catalog.{Catalog}
use Rattle.version_reaper.specs.PageSets.{pages_from}
use Rattle.file_meaning.specs.Inner.FileExample.{file, schema}
use Rattle.event_core.specs.declared.state.Core.{Core}
use Rattle.store_state.specs.Standings.{Standing}
use Rattle.store_state.specs.Inner.Keeping.{Keeping}

-- an honest disk, of which a crash leaves what a read gives. There is one such, and so nothing is kept of it
abbrev pub worked_moment : Unit {0} → Moment
worked_moment disk = record {
  state = record { name = None; first = Some file; seen = Some file; honest = true; moment = 0; faults = 0; wants = 0 };
  may_leave = λ image. image ≡ file;
  left_since = λ since image. image ≡ file;
}

-- slot A is open on the second root, whose log page is 2 and empty
abbrev pub worked_slots : Slots
worked_slots = record {
  current = record { side = A; format = Two; root = record { sequence = 2; length = 74; first = 1; log = 2 } };
  records = [];
  target = targets.Record;
  other = roots.Closed;
  next = entries.Closed;
  doubtful = false;
  zeroed = None;
}

-- the one chunk's payload lies in page 4, and the directory in page 3
abbrev pub worked_directory : Directory
worked_directory = record { entries = record { at = record { items = 0 ∷ [] }; length = 66; birth = 2; pages = 4 ∷ [] } ∷ [] }

abbrev pub worked_catalog : Catalog
worked_catalog = record {
  arrays = record {
    entry = record { name = codes "A"; schema = schema; next = 2; versions = 1 ∷ [] };
    directories = record { length = 40; pages = 3 ∷ [] } ∷ [];
  } ∷ [];
}

-- as many as 16 pages
abbrev pub worked_base : Core
worked_base = record {
  names = record { arrays = record { name = codes "A"; schema = schema; next = 2; versions = 1 ∷ [] } ∷ [] };
  pages = record { name = codes "A"; version = 1; pages = 3 ∷ 4 ∷ [] } ∷ [];
  catalogue = 1 ∷ 2 ∷ [];
  pins = [];
  free = pages_from 5 11;
  limit = 16;
  entries = 0;
}

abbrev pub worked_store : Standing (Unit {0})
worked_store = record {
  disk = tt;
  opened = record { disk = tt; slots = worked_slots };
  first = record { name = codes "A"; version = 1; directory = worked_directory } ∷ [];
  ledger = record { base = worked_base; limit = 100; entries = []; notes = [] };
  doubt = None;
  acked = [];
  made = [];
}

abbrev pub worked_keeping : Keeping
worked_keeping = record {
  slots = worked_slots;
  catalog = worked_catalog;
  rows = record { name = codes "A"; version = 1; made = 0; gone = None; directory = worked_directory } ∷ [];
}
