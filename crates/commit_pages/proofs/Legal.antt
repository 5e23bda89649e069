-- The worked list of entries, at the costs of the file.
use Rattle.std.proofs.Common.{[], ◌∷◌, Some, refl, arith}
use Rattle.chunk_rle.specs.Chunks.{spelling as payload_spelling}
use Rattle.chunk_rle.specs.Spelling.{spell_runs, spell_value}
use Rattle.chunk_rle.specs.Table.{is_same}
use Rattle.chunk_map.specs.Spelling.{spelling as directory_spelling, spell_entry}
use Rattle.file_meaning.specs.Spelling.{spelling, spell_array, spell_version, spell_blob, spell_record}
use Rattle.file_items.specs.Spelling.{spell_name, spell_attribute, spell_signed, spell_dimension, spell_schema}
use Rattle.page_chain.specs.Pages.{page_size}
use Rattle.event_core.specs.Stored.{HasItsNames}
use Rattle.event_core.specs.Typed.{HasTypedPlan}
use Rattle.event_core.specs.declared.entry.Entry.TheVariants.{Pin, Unpin, Commit}
use Rattle.event_core.specs.Legal.{BeginsAt, IsLegal}
use Rattle.event_core.specs.Worked.{worked_base, worked_store, worked}
use Rattle.event_core.proofs.Worked.{base_is}
use Rattle.commit_pages.specs.Costs.{cost_from}
use Rattle.commit_pages.specs.Inner.Examples.{WorkedIsLegal}

store_typed : HasTypedPlan worked_base.names worked_store
store_typed = (record { typed = (refl, refl); reads = tt }, refl)

store_names : HasItsNames worked_store
store_names = (refl, record { attributes = (refl, tt); dimensions = (refl, tt) })

begins_at : BeginsAt [] worked_base
begins_at = record { base = base_is; database = record { names = record { count = omega arith; rising = tt; each = tt }; rows = tt }; names = refl; pages = λ name version. refl }

-- entry by entry, the oldest first
first_legal : IsLegal (cost_from (Some 0)) [] worked_base (Pin 1 ∷ Unpin 0 ∷ Commit 0 worked_store (record { version = 2 ∷ 3 ∷ []; catalogue = 4 ∷ [] }) ∷ Pin 0 ∷ [])
unfolding payload_spelling spell_runs spell_value is_same directory_spelling spell_entry spelling spell_array spell_version spell_blob spell_record spell_schema spell_dimension spell_signed spell_attribute spell_name page_size
first_legal = ((((begins_at, refl, tt, tt), refl, (refl, store_names, store_typed), (refl, refl)), refl, tt, tt), refl, tt, tt)

worked_legal : IsLegal (cost_from (Some 0)) [] worked_base worked
unfolding payload_spelling spell_runs spell_value is_same directory_spelling spell_entry spelling spell_array spell_version spell_blob spell_record spell_schema spell_dimension spell_signed spell_attribute spell_name page_size
worked_legal = (((first_legal, refl, tt, tt), refl, (refl, refl, tt), (refl, refl)), refl, tt, tt)

pub legal : WorkedIsLegal
legal = (((worked_legal, refl, tt, tt), refl, tt, tt), refl, tt, tt)
