-- The worked store on a disk that began as the worked database.
use Rattle.std.proofs.Common.{◌≡◌, ◌∙◌, inl, ℕ, true, [], ◌∷◌, List, None, Some, Ok, refl, sym, subst, arith}
use Rattle.std.specs.Prelude.{codes}
use Rattle.file_items.specs.Items.{repeat}
use Rattle.file_items.specs.Pages.{pages_at}
use Rattle.file_items.specs.Table.{name_fields, name_at, kind_at, flag_at, typed_at, attribute_at, attributes_at, signed_at, range_at, cut_at, extent_at, dimension_at, dimensions_at, schema_at}
use Rattle.chunk_map.specs.Table as items
use Rattle.version_catalog.specs.Table.{blob_at, version_at, numbered_at, content_at, items_at, array_at, arrays_at}
use Rattle.page_chain.specs.Places.{number_at}
use Rattle.page_chain.specs.Roots.{has_front, slot_in}
use Rattle.page_chain.specs.Opens.{OpensAs}
use Rattle.page_chain.specs.declared.slots.layout.sides.Side.TheVariants.{A, B}
use Rattle.page_chain.specs.Pages.{page_size}
use Rattle.page_chain.specs.Standing.{Holds}
use Rattle.plan_changes.specs.Databases.{Database, rows_of}
use Rattle.page_file.specs.Moments.{IsKnown}
use Rattle.file_meaning.specs.Slots.{slots_in}
use Rattle.file_meaning.specs.Opening.{are_pages, found_in, opened}
use Rattle.file_meaning.specs.Standing.{HoldsDatabase, HoldsFound, Stands}
use Rattle.file_meaning.specs.declared.meaning.found.Found.{Found}
use Rattle.file_meaning.proofs.One.{one_database}
use Rattle.file_meaning.proofs.SlotsBack.{slots_open}
use Rattle.file_meaning.proofs.Steps.{then_is}
use Rattle.file_meaning.proofs.WorkedFiles.{file_stands}
use Rattle.file_meaning.specs.Inner.FileExample.{database, schema, zeros, front, catalog_bytes, directory_bytes, payload_bytes, file_with, file}
use Rattle.store_state.specs.Standings.{BeganAs, HaveStood, current_slots, given_of}
use Rattle.store_state.specs.Cells.{HoldsCells, IsFound, IsImage}
use Rattle.store_state.specs.At.{IsAt}
use Rattle.store_state.specs.Calls.{IsWhole}
use Rattle.store_state.specs.Payloads.{HasPayloads, HoldsPayloads}
use Rattle.store_state.specs.Worked.{worked_moment, worked_base, worked_catalog, worked_directory, worked_keeping, worked_slots, worked_store}
use Rattle.store_state.proofs.ReadLaws.{part_whole}
use Rattle.store_state.proofs.Worked.{base_is, pages_are, store_is_kept}

abbrev found : Found
found = record { chain = 1 ∷ []; logged = []; catalog = worked_catalog; directories = (worked_directory ∷ []) ∷ [] }

slots_are : slots_in file ≡ Ok (current_slots worked_slots)
unfolding slots_in number_at front file_with zeros catalog_bytes directory_bytes payload_bytes page_size
slots_are = refl

opens : OpensAs worked_slots.current [] file
opens = slots_open file (current_slots worked_slots) slots_are

front_is : has_front file ≡ true
unfolding number_at front file_with zeros catalog_bytes directory_bytes payload_bytes page_size
front_is = refl

current_is : slot_in A file ≡ Some worked_slots.current
unfolding number_at front file_with zeros catalog_bytes directory_bytes payload_bytes page_size
current_is = refl

other_is : slot_in B file ≡ None
unfolding number_at front file_with zeros catalog_bytes directory_bytes payload_bytes page_size
other_is = refl

-- what is found by these slots
found_is : found_in file (current_slots worked_slots) ≡ Ok found
unfolding found_in front file_with zeros catalog_bytes directory_bytes payload_bytes page_size arrays_at array_at items_at content_at numbered_at version_at blob_at pages_at schema_at dimensions_at dimension_at extent_at cut_at range_at signed_at attributes_at attribute_at typed_at flag_at kind_at name_at name_fields repeat items.entries_at items.entry_after items.payload_at items.written_at items.number_of
found_is = refl

opened_is : opened file ≡ Ok found
unfolding opened
opened_is = then_is (slots_in file) (λ slots. found_in file slots) (current_slots worked_slots) slots_are ∙ found_is

database_held : HoldsDatabase file database found
database_held = let held : HoldsFound file database (Ok found) = subst (HoldsFound file database) opened_is file_stands.holds in held

payload_there : are_pages file (4 ∷ []) ≡ true
unfolding front file_with zeros catalog_bytes directory_bytes payload_bytes page_size
payload_there = refl

slots_hold : Holds worked_slots file
slots_hold = record {
  roots = record { front = front_is; current = current_is; other = other_is };
  log = record {
    is_page = opens.log.0;
    fits = opens.log.1.fits;
    opened = opens.log.1.opened;
    next = λ room. opens.log.1.closed 0 (omega arith) (omega arith);
    closed = λ k low high. opens.log.1.closed k (omega arith) high;
    each = opens.log.1.each;
  };
}

known : IsKnown worked_slots file (worked_moment tt)
known = record {
  honest = refl;
  tells = refl;
  sound = record {
    images = λ image same. subst (Holds worked_slots) (sym same) slots_hold;
    zeroed = tt;
    alone = tt;
    sure = λ e. (tt, tt);
    filled = tt;
  };
}

is_found : IsFound worked_base (given_of worked_store) [] worked_catalog 2 found
is_found = record { catalog = refl; directories = refl; catalogue = refl; stored = refl }

image_is : IsImage worked_base (given_of worked_store) database [] worked_slots None found file
image_is = record {
  opens = found_is;
  holds = database_held;
  now = (record { holds = database_held.versions.0.0; pages = (payload_there, tt) }, tt);
  pinned = tt;
  doubted = tt;
  stands = file_stands;
}

stood : HaveStood (worked_moment tt) database [] [] 0 0
stood = record {
  gone = omega arith;
  made = omega arith;
  images = λ image same. record {
    later = [];
    before = [];
    part = refl;
    enough = omega arith;
    more = None;
    tried = tt;
    stands = subst (λ (c : List ℕ). Stands c database) (sym same) file_stands;
  };
}

cells : HoldsCells worked_moment worked_store worked_keeping database [] (given_of worked_store) []
cells = record {
  legal = record { base = base_is; database = file_stands.database; names = refl; pages = pages_are };
  database = file_stands.database;
  pinned = tt;
  doubt = tt;
  bytes = file;
  known = known;
  found = found;
  is_found = is_found;
  images = λ image same. subst (IsImage worked_base (given_of worked_store) database [] worked_slots None found) (sym same) image_is;
  past = stood;
  acked = tt;
}

-- its one payload is whole
whole : IsWhole file schema (record { at = record { items = 0 ∷ [] }; length = 66; birth = 2; pages = 4 ∷ [] })
whole = part_whole file schema (rows_of database (codes "A") 1) (record { at = record { items = 0 ∷ [] }; length = 66; birth = 2; pages = 4 ∷ [] }) payload_there
    database_held.versions.0.0.payloads.0

payloads : (opened : List ℕ) → HoldsPayloads worked_moment worked_store worked_keeping opened [] (given_of worked_store)
payloads opened = record {
  bytes = file;
  known = known;
  images = λ image same. subst (HasPayloads worked_base (given_of worked_store) opened []) (sym same)
      (record { now = ((record { pages = payload_there; bytes = inl whole }, tt), tt); pinned = tt });
}

the_same : (db : Database) → BeganAs (worked_moment tt).state db → database ≡ db
the_same db began =
    let told : Some file ≡ Some began.file = began.tells in
    let same : file ≡ began.file = cc in
    one_database file database db file_stands (subst (λ (c : List ℕ). Stands c db) (sym same) began.stands)

pub store_is_at : IsAt worked_moment worked_store worked_keeping
store_is_at = record {
  kept = store_is_kept;
  payloads = λ opened told. payloads opened;
  cells = λ db began. subst (λ (d : Database). HoldsCells worked_moment worked_store worked_keeping d [] (given_of worked_store) []) (the_same db began) cells;
}
