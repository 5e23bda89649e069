-- The worked costs, computed.
use Rattle.std.proofs.Common.{◌≡◌, [], Some, None, refl}
use Rattle.std.specs.Prelude.{codes}
use Rattle.chunk_rle.specs.Chunks.{spelling as payload_spelling}
use Rattle.chunk_rle.specs.Spelling.{spell_runs, spell_value}
use Rattle.chunk_rle.specs.Table.{is_same}
use Rattle.chunk_map.specs.Spelling.{spelling as directory_spelling, spell_entry}
use Rattle.file_meaning.specs.Spelling.{spelling, spell_array, spell_version, spell_blob, spell_record}
use Rattle.file_items.specs.Spelling.{spell_name, spell_attribute, spell_signed, spell_dimension, spell_schema}
use Rattle.page_chain.specs.Pages.{page_size}
use Rattle.event_core.specs.Change.TheVariants.{Create, Remove, RemoveVersions}
use Rattle.commit_pages.specs.Costs.{cost_from}
use Rattle.commit_pages.specs.Inner.Examples.{CommitsCostTheirPages, schema, store, store_text, insert_at, stored, creations}

stored_first_is : cost_from (Some 0) [] [] (store 0) ≡ 4
unfolding payload_spelling spell_runs spell_value directory_spelling spell_entry spelling spell_array spell_version spell_blob spell_record spell_schema spell_dimension spell_signed spell_attribute spell_name page_size is_same
stored_first_is = refl

log_full_is : cost_from (Some 64) [] [] (store 0) ≡ 5
unfolding payload_spelling spell_runs spell_value directory_spelling spell_entry spelling spell_array spell_version spell_blob spell_record spell_schema spell_dimension spell_signed spell_attribute spell_name page_size is_same
log_full_is = refl

no_log_is : cost_from None [] [] (store 0) ≡ 5
unfolding payload_spelling spell_runs spell_value directory_spelling spell_entry spelling spell_array spell_version spell_blob spell_record spell_schema spell_dimension spell_signed spell_attribute spell_name page_size is_same
no_log_is = refl

inserted_is : cost_from (Some 63) (stored 0) [] (insert_at 0 2) ≡ 3
unfolding payload_spelling spell_runs spell_value directory_spelling spell_entry spelling spell_array spell_version spell_blob spell_record spell_schema spell_dimension spell_signed spell_attribute spell_name page_size is_same
inserted_is = refl

beside_is : cost_from (Some 63) (stored 1) [] (insert_at 1 2) ≡ 4
unfolding payload_spelling spell_runs spell_value directory_spelling spell_entry spelling spell_array spell_version spell_blob spell_record spell_schema spell_dimension spell_signed spell_attribute spell_name page_size is_same
beside_is = refl

made_is : cost_from (Some 0) [] [] (Create (codes "A") (schema 0)) ≡ 1
unfolding payload_spelling spell_runs spell_value directory_spelling spell_entry spelling spell_array spell_version spell_blob spell_record spell_schema spell_dimension spell_signed spell_attribute spell_name page_size is_same
made_is = refl

removed_is : cost_from (Some 64) (stored 0) [] (Remove (codes "A")) ≡ 2
unfolding payload_spelling spell_runs spell_value directory_spelling spell_entry spelling spell_array spell_version spell_blob spell_record spell_schema spell_dimension spell_signed spell_attribute spell_name page_size is_same
removed_is = refl

cut_is : cost_from (Some 0) (stored 0) [] (RemoveVersions (codes "A") 1) ≡ 1
unfolding payload_spelling spell_runs spell_value directory_spelling spell_entry spelling spell_array spell_version spell_blob spell_record spell_schema spell_dimension spell_signed spell_attribute spell_name page_size is_same
cut_is = refl

short_text_is : cost_from (Some 0) [] [] (store_text 5) ≡ 3
unfolding payload_spelling spell_runs spell_value directory_spelling spell_entry spelling spell_array spell_version spell_blob spell_record spell_schema spell_dimension spell_signed spell_attribute spell_name page_size is_same
short_text_is = refl

long_text_is : cost_from (Some 0) [] [] (store_text 5000) ≡ 4
unfolding payload_spelling spell_runs spell_value directory_spelling spell_entry spelling spell_array spell_version spell_blob spell_record spell_schema spell_dimension spell_signed spell_attribute spell_name page_size is_same
long_text_is = refl

sixty_fourth_is : cost_from (Some 0) [] (creations 63) (store 0) ≡ 4
unfolding payload_spelling spell_runs spell_value directory_spelling spell_entry spelling spell_array spell_version spell_blob spell_record spell_schema spell_dimension spell_signed spell_attribute spell_name page_size is_same
sixty_fourth_is = refl

sixty_fifth_is : cost_from (Some 0) [] (creations 64) (store 0) ≡ 5
unfolding payload_spelling spell_runs spell_value directory_spelling spell_entry spelling spell_array spell_version spell_blob spell_record spell_schema spell_dimension spell_signed spell_attribute spell_name page_size is_same
sixty_fifth_is = refl

sixty_sixth_is : cost_from (Some 0) [] (creations 65) (store 0) ≡ 4
unfolding payload_spelling spell_runs spell_value directory_spelling spell_entry spelling spell_array spell_version spell_blob spell_record spell_schema spell_dimension spell_signed spell_attribute spell_name page_size is_same
sixty_sixth_is = refl

pub commits : CommitsCostTheirPages
commits = record {
  stored_first = stored_first_is;
  log_full = log_full_is;
  no_log = no_log_is;
  inserted = inserted_is;
  beside = beside_is;
  made = made_is;
  removed = removed_is;
  cut = cut_is;
  short_text = short_text_is;
  long_text = long_text_is;
  sixty_fourth = sixty_fourth_is;
  sixty_fifth = sixty_fifth_is;
  sixty_sixth = sixty_sixth_is;
}
