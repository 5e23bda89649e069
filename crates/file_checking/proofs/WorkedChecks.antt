-- Two files, checked.
use Rattle.std.proofs.Common.{◌≡◌, [], ◌∷◌, Ok, Err, refl, ◌∙◌, ap}
use Rattle.std.specs.Prelude.{codes}
use Rattle.file_items.specs.Items.{repeat}
use Rattle.file_items.specs.Pages.{pages_at}
use Rattle.page_chain.specs.Pages.{page_size}
use Rattle.page_chain.specs.Places.{number_at}
use Rattle.page_chain.specs.declared.slots.layout.sides.Side.TheVariants.{A}
use Rattle.page_chain.specs.declared.slots.layout.sides.Format.TheVariants.{Two}
use Rattle.chunk_map.specs.declared.directory.DirEntry.{DirEntry}
use Rattle.chunk_map.specs.Table as items
use Rattle.chunk_rle.specs.Frames.{all_from, any_from, is_held}
use Rattle.chunk_rle.specs.Table.{position_run_at, position_runs_at, value_fields, is_same, is_allowed, run_at, column_at, columns_at, runs_at}
use Rattle.chunk_rle.specs.Chunks.{chunk_payload, spelling}
use Rattle.chunk_rle.specs.Spelling.{spell_runs, spell_value}
use Rattle.file_items.specs.Table.{name_fields, name_at, kind_at, flag_at, typed_at, attribute_at, attributes_at, signed_at, range_at, cut_at, extent_at, dimension_at, dimensions_at, schema_at}
use Rattle.version_catalog.specs.declared.rules.catalog.Catalog.{Catalog}
use Rattle.version_catalog.specs.Table.{blob_at, version_at, numbered_at, content_at, items_at, array_at, arrays_at}
use Rattle.backup_format.specs.Table.{rows_of}
use Rattle.file_meaning.specs.Slots.{Slots, slots_in}
use Rattle.file_meaning.specs.Opening.{found_in, opened}
use Rattle.file_meaning.specs.declared.meaning.found.Found.{Found}
use Rattle.file_meaning.specs.Inner.FileExample.{catalog_bytes, directory_bytes, file, file_with, front, payload_bytes, schema, zeros}
use Rattle.file_meaning.proofs.Steps.{then_is}
use Rattle.file_meaning.proofs.WorkedFiles.{found_is}
use Rattle.file_checking.specs.Checks.{Tested, behind, checked, checked_found, sound_found, test_found, test_overlaps, test_payloads}
use Rattle.file_checking.specs.Inner.CheckExample.{TwoCellsAreSound, ZerosAreDamaged, damaged_file}
use Rattle.file_checking.specs.declared.sound.CheckFault.TheVariants.{Damaged}
use Rattle.file_checking.proofs.Tests.{passed}

abbrev entry : DirEntry
entry = record { at = record { items = 0 ∷ [] }; length = 66; birth = 2; pages = 4 ∷ [] }

abbrev catalog : Catalog
catalog = record { arrays = record { entry = record { name = codes "A"; schema = schema; next = 2; versions = 1 ∷ [] }; directories = record { length = 40; pages = 3 ∷ [] } ∷ [] } ∷ [] }

abbrev found : Found
found = record { chain = 1 ∷ []; logged = []; catalog = catalog; directories = (record { entries = entry ∷ [] } ∷ []) ∷ [] }

abbrev slots : Slots
slots = record { current = record { side = A; format = Two; root = record { sequence = 2; length = 74; first = 1; log = 2 } }; records = [] }

slots_are : slots_in file ≡ Ok slots
unfolding slots_in number_at front file_with zeros catalog_bytes directory_bytes payload_bytes page_size
slots_are = refl

opens : opened file ≡ Ok found
unfolding opened
opens = then_is (slots_in file) (λ s. found_in file s) slots slots_are ∙ found_is

payloads_whole : test_found (test_payloads file) found ≡ Ok tt
unfolding front file_with zeros catalog_bytes directory_bytes payload_bytes page_size chunk_payload runs_at position_runs_at position_run_at repeat columns_at column_at run_at value_fields is_same is_allowed all_from any_from is_held
payloads_whole = refl

overlaps_right : test_found (test_overlaps file) found ≡ Ok tt
unfolding front file_with zeros catalog_bytes directory_bytes payload_bytes page_size chunk_payload runs_at position_runs_at position_run_at repeat columns_at column_at run_at value_fields is_same is_allowed all_from any_from is_held rows_of spelling spell_runs spell_value
overlaps_right = refl

pub two_cells_are_sound : TwoCellsAreSound
unfolding checked
two_cells_are_sound =
    ap (checked_found file) opens
    ∙ passed (test_found (test_payloads file) found) (behind (test_found (test_overlaps file) found) (Ok (sound_found found))) payloads_whole
    ∙ passed (test_found (test_overlaps file) found) (Ok (sound_found found)) overlaps_right

damaged_slots : slots_in damaged_file ≡ Ok slots
unfolding slots_in number_at front damaged_file zeros catalog_bytes directory_bytes page_size
damaged_slots = refl

damaged_found : found_in damaged_file slots ≡ Ok found
unfolding found_in front damaged_file zeros catalog_bytes directory_bytes page_size arrays_at array_at items_at content_at numbered_at version_at blob_at pages_at schema_at dimensions_at dimension_at extent_at cut_at range_at signed_at attributes_at attribute_at typed_at flag_at kind_at name_at name_fields repeat items.entries_at items.entry_after items.payload_at items.written_at items.number_of
damaged_found = refl

damaged_opens : opened damaged_file ≡ Ok found
unfolding opened
damaged_opens = then_is (slots_in damaged_file) (λ s. found_in damaged_file s) slots damaged_slots ∙ damaged_found

payload_damaged : test_found (test_payloads damaged_file) found ≡ Err (Damaged 4)
unfolding front damaged_file zeros catalog_bytes directory_bytes page_size chunk_payload runs_at position_runs_at position_run_at repeat columns_at column_at run_at value_fields is_same is_allowed all_from any_from is_held
payload_damaged = refl

pub zeros_are_damaged : ZerosAreDamaged
unfolding checked
zeros_are_damaged =
    ap (checked_found damaged_file) damaged_opens
    ∙ ap (λ (t : Tested). behind t (behind (test_found (test_overlaps damaged_file) found) (Ok (sound_found found)))) payload_damaged
