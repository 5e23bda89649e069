-- The file of one array with two cells, computed.
use Rattle.std.proofs.Common.{◌≡◌, ℕ, pos, Bool, true, false, cond, ◌||◌, [], ◌∷◌, length, Ok, Err, refl, sym, ◌∙◌, subst, arith}
use Rattle.std.specs.Prelude.{codes}
use Rattle.std.specs.Ordering.{is_eq}
use Rattle.file_items.specs.Items.{repeat}
use Rattle.chunk_source.specs.Rows.{Coordinate, placed}
use Rattle.chunk_source.specs.Boxes.{is_inside}
use Rattle.chunk_source.specs.Geometry.{ChunkNumber, chunk_of, core}
use Rattle.chunk_source.specs.Link.{number_order, is_listed, is_not_empty, has_cell}
use Rattle.chunk_source.proofs.CoreLaws.{core_of}
use Rattle.chunk_source.proofs.NearLemmas.{valid_placed}
use Rattle.chunk_source.proofs.NumberLaws.{same_number, is_equal}
use Rattle.file_items.specs.Pages.{pages_at}
use Rattle.page_chain.specs.Places.{number_at}
use Rattle.page_chain.specs.declared.slots.layout.sides.Side.TheVariants.{A}
use Rattle.page_chain.specs.declared.slots.layout.sides.Format.TheVariants.{Two}
use Rattle.page_file.specs.Pages.{page_size}
use Rattle.chunk_map.specs.declared.directory.DirEntry.{DirEntry}
use Rattle.chunk_map.specs.declared.directory.Directory.{Directory}
use Rattle.chunk_map.specs.Table as items
use Rattle.chunk_rle.specs.Frames.{all_from, any_from, is_held}
use Rattle.chunk_rle.specs.Table.{position_run_at, position_runs_at, value_fields, is_same, is_allowed, run_at, column_at, columns_at, runs_at}
use Rattle.chunk_rle.specs.Chunks.{chunk_payload}
use Rattle.file_items.specs.Table.{name_fields, name_at, kind_at, flag_at, typed_at, attribute_at, attributes_at, signed_at, range_at, cut_at, extent_at, dimension_at, dimensions_at, schema_at}
use Rattle.version_catalog.specs.declared.rules.catalog.Catalog.{Catalog}
use Rattle.version_catalog.specs.Table.{blob_at, version_at, numbered_at, content_at, items_at, array_at, arrays_at}
use Rattle.version_catalog.specs.Stored.{IsDatabase}
use Rattle.file_meaning.specs.Slots.{Slots, slots_in}
use Rattle.file_meaning.specs.Opening.{found_in, opened}
use Rattle.file_meaning.specs.Standing.{HoldsPart, HoldsVersion, HoldsFound}
use Rattle.file_meaning.specs.declared.meaning.found.Found.{Found}
use Rattle.cell_values.specs.declared.datum.Cell.TheVariants.{Full}
use Rattle.cell_values.specs.declared.datum.Datum.TheVariants.{Int}
use Rattle.file_meaning.proofs.Steps.{then_is}
use Rattle.file_meaning.specs.Inner.FileExample.{schema, rows, database, zeros, front, catalog_bytes, directory_bytes, payload_bytes, file_with, file, AFileStands, FilesAreWrongAtPages}

abbrev entry : DirEntry
entry = record { at = record { items = 0 ∷ [] }; length = 66; birth = 2; pages = 4 ∷ [] }

abbrev directory : Directory
directory = record { entries = entry ∷ [] }

abbrev catalog : Catalog
catalog = record { arrays = record { entry = record { name = codes "A"; schema = schema; next = 2; versions = 1 ∷ [] }; directories = record { length = 40; pages = 3 ∷ [] } ∷ [] } ∷ [] }

abbrev found : Found
found = record { chain = 1 ∷ []; logged = []; catalog = catalog; directories = (directory ∷ []) ∷ [] }

abbrev slots : Slots
slots = record { current = record { side = A; format = Two; root = record { sequence = 2; length = 74; first = 1; log = 2 } }; records = [] }

slots_are : slots_in file ≡ Ok slots
unfolding slots_in number_at front file_with zeros catalog_bytes directory_bytes payload_bytes page_size
slots_are = refl

pub found_is : found_in file slots ≡ Ok found
unfolding found_in front file_with zeros catalog_bytes directory_bytes payload_bytes page_size arrays_at array_at items_at content_at numbered_at version_at blob_at pages_at schema_at dimensions_at dimension_at extent_at cut_at range_at signed_at attributes_at attribute_at typed_at flag_at kind_at name_at name_fields repeat items.entries_at items.entry_after items.payload_at items.written_at items.number_of
found_is = refl

pub payload_is : HoldsPart file schema rows entry
unfolding front file_with zeros catalog_bytes directory_bytes payload_bytes page_size chunk_payload runs_at position_runs_at position_run_at repeat columns_at column_at run_at value_fields is_same is_allowed all_from any_from is_held
payload_is = refl

-- ---- its one chunk

not_inside : (k : ChunkNumber) (c : Coordinate) → length k ≡ 1 → chunk_of schema.dimensions c ≡ 0 ∷ [] → is_eq (number_order (0 ∷ []) k) ≡ false → is_inside (core schema.dimensions k) c ≡ false
not_inside k c long is other = cases (is_inside (core schema.dimensions k) c) refl
  where
    apart : is_inside (core schema.dimensions k) c ≡ true → ⊥
    apart inside =
        let here : k ≡ 0 ∷ [] = core_of schema.dimensions k c (valid_placed schema refl).near long inside ∙ is in
        let same : is_eq (number_order (0 ∷ []) k) ≡ true = subst (λ (n : ChunkNumber). is_eq (number_order (0 ∷ []) n) ≡ true) (sym here) refl in
        cc

    cases : (b : Bool) → is_inside (core schema.dimensions k) c ≡ b → b ≡ false
    cases false e = refl
    cases true e = absurd (apart e)

listed_is : (k : ChunkNumber) → length k ≡ 1 → is_listed k ((0 ∷ []) ∷ []) ≡ has_cell schema.dimensions rows k
listed_is k long = cases (is_eq (number_order (0 ∷ []) k)) refl
  where
    none : (p q : Bool) → p ≡ false → q ≡ false → is_not_empty (cond p (placed (pos 0 ∷ []) (Full (Int (pos 5) ∷ [])) ∷ cond q (placed (pos 1 ∷ []) (Full (Int (pos 7) ∷ [])) ∷ []) []) (cond q (placed (pos 1 ∷ []) (Full (Int (pos 7) ∷ [])) ∷ []) [])) ≡ false
    none false false e f = refl
    none true q e f = absurd cc
    none false true e f = absurd cc

    cases : (b : Bool) → is_eq (number_order (0 ∷ []) k) ≡ b → (b || false) ≡ has_cell schema.dimensions rows k
    cases true is =
        let same : 0 ∷ [] ≡ k = same_number (0 ∷ []) k (is_equal (number_order (0 ∷ []) k) is) in
        subst (λ (n : ChunkNumber). true ≡ has_cell schema.dimensions rows n) same refl
    cases false is = sym (none (is_inside (core schema.dimensions k) (pos 0 ∷ [])) (is_inside (core schema.dimensions k) (pos 1 ∷ [])) (not_inside k (pos 0 ∷ []) long refl is) (not_inside k (pos 1 ∷ []) long refl is))

pub version_is : HoldsVersion file schema directory rows
version_is = record { listed = listed_is; payloads = (payload_is, tt) }

-- ---- the database

pub database_is : IsDatabase database
database_is = record {
  names = record {
    count = omega arith;
    rising = tt;
    each = (record { name = refl; schema = refl; named = record { attributes = (refl, tt); dimensions = (refl, tt) }; next = (omega arith, omega arith); versions = (omega arith, omega arith, tt) }, tt);
  };
  rows = (((record { valid = refl; are_rows = record { rising = ((refl, tt), (tt, tt)); in_bounds = (refl, (refl, tt)) }; kinds = ((refl, tt), ((refl, tt), tt)) }, (refl, (refl, tt))), tt), tt);
}

opened_is : opened file ≡ Ok found
unfolding opened
opened_is = then_is (slots_in file) (λ slots. found_in file slots) slots slots_are ∙ found_is

pub file_stands : AFileStands
file_stands = record { database = database_is; holds = subst (HoldsFound file database) (sym opened_is) (record { names = refl; versions = ((version_is, tt), tt) }) }

-- ---- wrong pages

wrong_at : (at number birth page named : ℕ) → slots_in (file_with at number birth page) ≡ Ok slots → found_in (file_with at number birth page) slots ≡ Err named → opened (file_with at number birth page) ≡ Err named
unfolding opened
wrong_at at number birth page named is wrong = then_is (slots_in (file_with at number birth page)) (λ s. found_in (file_with at number birth page) s) slots is ∙ wrong

slots-front_page : slots_in (file_with 0 0 2 4) ≡ Ok slots
unfolding slots_in number_at front file_with zeros catalog_bytes directory_bytes payload_bytes page_size
slots-front_page = refl

found-front_page : found_in (file_with 0 0 2 4) slots ≡ Err 1
unfolding found_in front file_with zeros catalog_bytes directory_bytes payload_bytes page_size arrays_at array_at items_at content_at numbered_at version_at blob_at pages_at schema_at dimensions_at dimension_at extent_at cut_at range_at signed_at attributes_at attribute_at typed_at flag_at kind_at name_at name_fields repeat items.entries_at items.entry_after items.payload_at items.written_at items.number_of
found-front_page = refl

slots-taken_directory : slots_in (file_with 1 0 2 4) ≡ Ok slots
unfolding slots_in number_at front file_with zeros catalog_bytes directory_bytes payload_bytes page_size
slots-taken_directory = refl

found-taken_directory : found_in (file_with 1 0 2 4) slots ≡ Err 1
unfolding found_in front file_with zeros catalog_bytes directory_bytes payload_bytes page_size arrays_at array_at items_at content_at numbered_at version_at blob_at pages_at schema_at dimensions_at dimension_at extent_at cut_at range_at signed_at attributes_at attribute_at typed_at flag_at kind_at name_at name_fields repeat items.entries_at items.entry_after items.payload_at items.written_at items.number_of
found-taken_directory = refl

slots-log_page : slots_in (file_with 2 0 2 4) ≡ Ok slots
unfolding slots_in number_at front file_with zeros catalog_bytes directory_bytes payload_bytes page_size
slots-log_page = refl

found-log_page : found_in (file_with 2 0 2 4) slots ≡ Err 1
unfolding found_in front file_with zeros catalog_bytes directory_bytes payload_bytes page_size arrays_at array_at items_at content_at numbered_at version_at blob_at pages_at schema_at dimensions_at dimension_at extent_at cut_at range_at signed_at attributes_at attribute_at typed_at flag_at kind_at name_at name_fields repeat items.entries_at items.entry_after items.payload_at items.written_at items.number_of
found-log_page = refl

slots-past_directory : slots_in (file_with 5 0 2 4) ≡ Ok slots
unfolding slots_in number_at front file_with zeros catalog_bytes directory_bytes payload_bytes page_size
slots-past_directory = refl

found-past_directory : found_in (file_with 5 0 2 4) slots ≡ Err 1
unfolding found_in front file_with zeros catalog_bytes directory_bytes payload_bytes page_size arrays_at array_at items_at content_at numbered_at version_at blob_at pages_at schema_at dimensions_at dimension_at extent_at cut_at range_at signed_at attributes_at attribute_at typed_at flag_at kind_at name_at name_fields repeat items.entries_at items.entry_after items.payload_at items.written_at items.number_of
found-past_directory = refl

slots-no_core : slots_in (file_with 3 1 2 4) ≡ Ok slots
unfolding slots_in number_at front file_with zeros catalog_bytes directory_bytes payload_bytes page_size
slots-no_core = refl

found-no_core : found_in (file_with 3 1 2 4) slots ≡ Err 3
unfolding found_in front file_with zeros catalog_bytes directory_bytes payload_bytes page_size arrays_at array_at items_at content_at numbered_at version_at blob_at pages_at schema_at dimensions_at dimension_at extent_at cut_at range_at signed_at attributes_at attribute_at typed_at flag_at kind_at name_at name_fields repeat items.entries_at items.entry_after items.payload_at items.written_at items.number_of
found-no_core = refl

slots-born_later : slots_in (file_with 3 0 3 4) ≡ Ok slots
unfolding slots_in number_at front file_with zeros catalog_bytes directory_bytes payload_bytes page_size
slots-born_later = refl

found-born_later : found_in (file_with 3 0 3 4) slots ≡ Err 3
unfolding found_in front file_with zeros catalog_bytes directory_bytes payload_bytes page_size arrays_at array_at items_at content_at numbered_at version_at blob_at pages_at schema_at dimensions_at dimension_at extent_at cut_at range_at signed_at attributes_at attribute_at typed_at flag_at kind_at name_at name_fields repeat items.entries_at items.entry_after items.payload_at items.written_at items.number_of
found-born_later = refl

slots-own_page : slots_in (file_with 3 0 2 3) ≡ Ok slots
unfolding slots_in number_at front file_with zeros catalog_bytes directory_bytes payload_bytes page_size
slots-own_page = refl

found-own_page : found_in (file_with 3 0 2 3) slots ≡ Err 3
unfolding found_in front file_with zeros catalog_bytes directory_bytes payload_bytes page_size arrays_at array_at items_at content_at numbered_at version_at blob_at pages_at schema_at dimensions_at dimension_at extent_at cut_at range_at signed_at attributes_at attribute_at typed_at flag_at kind_at name_at name_fields repeat items.entries_at items.entry_after items.payload_at items.written_at items.number_of
found-own_page = refl

slots-past_payload : slots_in (file_with 3 0 2 5) ≡ Ok slots
unfolding slots_in number_at front file_with zeros catalog_bytes directory_bytes payload_bytes page_size
slots-past_payload = refl

found-past_payload : found_in (file_with 3 0 2 5) slots ≡ Err 3
unfolding found_in front file_with zeros catalog_bytes directory_bytes payload_bytes page_size arrays_at array_at items_at content_at numbered_at version_at blob_at pages_at schema_at dimensions_at dimension_at extent_at cut_at range_at signed_at attributes_at attribute_at typed_at flag_at kind_at name_at name_fields repeat items.entries_at items.entry_after items.payload_at items.written_at items.number_of
found-past_payload = refl

pub files_are_wrong : FilesAreWrongAtPages
files_are_wrong = record {
  front_page = wrong_at 0 0 2 4 1 slots-front_page found-front_page;
  taken_directory = wrong_at 1 0 2 4 1 slots-taken_directory found-taken_directory;
  log_page = wrong_at 2 0 2 4 1 slots-log_page found-log_page;
  past_directory = wrong_at 5 0 2 4 1 slots-past_directory found-past_directory;
  no_core = wrong_at 3 1 2 4 3 slots-no_core found-no_core;
  born_later = wrong_at 3 0 3 4 3 slots-born_later found-born_later;
  own_page = wrong_at 3 0 2 3 3 slots-own_page found-own_page;
  past_payload = wrong_at 3 0 2 5 3 slots-past_payload found-past_payload;
}
