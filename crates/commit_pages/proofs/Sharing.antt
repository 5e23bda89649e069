-- The worked list whose versions share a page, entry by entry.
use Rattle.std.proofs.Common.{true, [], ◌∷◌, Some, refl, arith}
use Rattle.array_rows.specs.Arrays.{AreRowsOf}
use Rattle.chunk_rle.specs.Chunks.{spelling as payload_spelling}
use Rattle.chunk_rle.specs.Spelling.{spell_runs, spell_value}
use Rattle.chunk_rle.specs.Table.{is_same}
use Rattle.chunk_map.specs.Spelling.{spelling as directory_spelling, spell_entry}
use Rattle.file_meaning.specs.Spelling.{spelling, spell_array, spell_version, spell_blob, spell_record}
use Rattle.file_items.specs.Spelling.{spell_name, spell_attribute, spell_signed, spell_dimension, spell_schema}
use Rattle.page_chain.specs.Pages.{page_size}
use Rattle.event_core.specs.Stored.{HasItsNames}
use Rattle.event_core.specs.Typed.{HasTypedPlan}
use Rattle.event_core.specs.declared.entry.Entry.TheVariants.{Pin, Unpin, Commit}
use Rattle.event_core.specs.Apart.{AllShareOwn, AreApart}
use Rattle.event_core.specs.History.{names_at}
use Rattle.event_core.specs.Legal.{BeginsAt, IsLegal}
use Rattle.event_core.proofs.Tests.{both_not}
use Rattle.commit_pages.specs.Costs.{cost_from}
use Rattle.commit_pages.specs.Inner.Examples.{schema, cell_at, store, insert_at}
use Rattle.commit_pages.specs.Inner.Sharing.{shared_base, stored_twice, removed_pinned, reaped_again, SharingIsLegal}

begins_at : BeginsAt [] shared_base
begins_at = record {
  base = record { pins = refl; entries = refl; free = refl };
  database = record { names = record { count = omega arith; rising = tt; each = tt }; rows = tt };
  names = refl;
  pages = λ name version. refl;
}

pub four_rows : AreRowsOf (schema 0) (cell_at 0 ∷ cell_at 1 ∷ cell_at 2 ∷ cell_at 3 ∷ [])
four_rows = record {
  valid = refl;
  are_rows = record { rising = ((refl, (refl, (refl, tt))), ((refl, (refl, tt)), ((refl, tt), (tt, tt)))); in_bounds = (refl, (refl, (refl, (refl, tt)))) };
  kinds = ((refl, tt), ((refl, tt), ((refl, tt), ((refl, tt), tt))));
}

one_row : AreRowsOf (schema 0) (cell_at 2 ∷ [])
one_row = record { valid = refl; are_rows = record { rising = (tt, tt); in_bounds = (refl, tt) }; kinds = ((refl, tt), tt) }

store_typed : HasTypedPlan shared_base.names (store 0)
store_typed = (record { typed = (refl, four_rows, (refl, (refl, (refl, (refl, tt))))); reads = tt }, refl)

store_names : HasItsNames (store 0)
store_names = (refl, record { attributes = (refl, tt); dimensions = (refl, tt) })

stored_legal : IsLegal (cost_from (Some 0)) [] shared_base (Pin 0 ∷ Unpin 0 ∷ Commit 0 (store 0) (record { version = 3 ∷ 4 ∷ 5 ∷ []; catalogue = 1 ∷ 2 ∷ 6 ∷ [] }) ∷ Pin 0 ∷ [])
unfolding payload_spelling spell_runs spell_value is_same directory_spelling spell_entry spelling spell_array spell_version spell_blob spell_record spell_schema spell_dimension spell_signed spell_attribute spell_name page_size
stored_legal = ((((begins_at, refl, tt, tt), refl, (refl, store_names, store_typed), (refl, refl)), refl, tt, tt), refl, tt, tt)

insert_typed : HasTypedPlan (names_at shared_base (Pin 0 ∷ Unpin 0 ∷ Commit 0 (store 0) (record { version = 3 ∷ 4 ∷ 5 ∷ []; catalogue = 1 ∷ 2 ∷ 6 ∷ [] }) ∷ Pin 0 ∷ [])) (insert_at 0 2)
insert_typed = (record { typed = (refl, one_row, (refl, tt)); reads = tt }, (refl, refl))

twice_legal : IsLegal (cost_from (Some 0)) [] shared_base stored_twice
unfolding payload_spelling spell_runs spell_value is_same directory_spelling spell_entry spelling spell_array spell_version spell_blob spell_record spell_schema spell_dimension spell_signed spell_attribute spell_name page_size
twice_legal = (stored_legal, refl, (refl, refl, insert_typed), (refl, refl))

removed_legal : IsLegal (cost_from (Some 0)) [] shared_base removed_pinned
unfolding payload_spelling spell_runs spell_value is_same directory_spelling spell_entry spelling spell_array spell_version spell_blob spell_record spell_schema spell_dimension spell_signed spell_attribute spell_name page_size
removed_legal = ((((((twice_legal, refl, tt, tt), refl, tt, tt), refl, tt, tt), refl, (refl, refl, tt), (refl, refl)), refl, tt, tt), refl, tt, tt)

apart_is : AreApart shared_base []
apart_is = record { now = λ page e. refl; pinned = λ page e. refl; first = (refl, refl) }

own_is : AllShareOwn shared_base reaped_again
own_is = (((tt, record { version = refl; catalogue = refl; none = λ e. absurd (both_not true e refl) }), record { version = refl; catalogue = refl; none = λ e. absurd (both_not true e refl) }), record { version = refl; catalogue = refl; none = λ e. refl })

pub sharing : SharingIsLegal
sharing = record { legal = ((removed_legal, refl, tt, tt), refl, tt, tt); apart = apart_is; own = own_is; pinned = refl; free = refl }
