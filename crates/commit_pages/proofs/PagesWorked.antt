-- The worked insert, computed.
use Rattle.std.proofs.Common.{◌≡◌, ◌∙◌, Bool, true, false, ◌&&◌, ◌||◌, [], ◌∷◌, length, Some, refl, sym, ap, subst, arith}
use Rattle.std.specs.Ordering.{is_eq}
use Rattle.array_rows.specs.Arrays.{AreRowsOf}
use Rattle.array_geom.specs.Geometry.{ChunkNumber}
use Rattle.array_geom.specs.Link.{number_order, is_listed, has_cell}
use Rattle.array_geom.proofs.NearLemmas.{valid_placed, stored_frame}
use Rattle.array_geom.proofs.NumberLaws.{is_equal, same_number}
use Rattle.chunk_rle.specs.Chunks.{spelling as payload_spelling}
use Rattle.chunk_rle.specs.Spelling.{spell_runs, spell_value}
use Rattle.chunk_rle.specs.Table.{is_same}
use Rattle.chunk_map.specs.Spelling.{spelling as directory_spelling, spell_entry}
use Rattle.file_meaning.specs.Spelling.{spell_blob, spell_record}
use Rattle.file_items.specs.Spelling.{spell_name}
use Rattle.page_chain.specs.Pages.{page_size}
use Rattle.plan_changes.specs.Typing.{AreSound}
use Rattle.plan_changes.specs.Databases.{names_of}
use Rattle.plan_changes.specs.Stored.{IsDatabase}
use Rattle.plan_changes.specs.Typed.{IsTypedFor}
use Rattle.file_meaning.proofs.Payloads.{stored_part}
use Rattle.file_meaning.proofs.FileStored.{is_stored_chunk}
use Rattle.commit_pages.specs.Costs.{catalog_of}
use Rattle.commit_pages.specs.Inner.Examples.{schema, cell_at, stored, insert_at}
use Rattle.commit_pages.specs.Lengths.{AreAlikeCatalogs, meets}
use Rattle.commit_pages.proofs.Orders.{numbers_listed}
use Rattle.commit_pages.proofs.Sharing.{four_rows}
use Rattle.page_file.specs.Commits.{pages_of}
use Rattle.commit_pages.specs.Versions.{draft_of, directory_of, version_in}
use Rattle.commit_pages.specs.Commits.{record_needs, record_laid}
use Rattle.commit_pages.specs.Changes.{AreValid, IsChangeOf}
use Rattle.commit_pages.specs.Laws.{IsOfRows, IsOver}
use Rattle.commit_pages.specs.Inner.Example.{four, newest, changed, inserted, births_of, AnInsertIsLaid}

sound : AreSound (schema 0) four
sound = (refl, (refl, (refl, (refl, tt))))

one_row : AreRowsOf (schema 0) (cell_at 2 ∷ [])
one_row = record { valid = refl; are_rows = record { rising = (tt, tt); in_bounds = (refl, tt) }; kinds = ((refl, tt), tt) }

database : IsDatabase (stored 0)
database = record {
  names = record {
    count = omega arith;
    rising = tt;
    each = (
      record {
        name = refl;
        schema = refl;
        named = record { attributes = (refl, tt); dimensions = (refl, tt) };
        next = (omega arith, omega arith);
        versions = (omega arith, omega arith, tt);
      },
      tt,
    );
  };
  rows = (((four_rows, sound), tt), tt);
}

typed : IsTypedFor (names_of (stored 0)) (insert_at 0 2)
typed = (refl, (record { typed = (refl, one_row, (refl, tt)); reads = tt }, (refl, refl)))

alike : AreAlikeCatalogs (catalog_of (stored 0)) (catalog_of (stored 0))
alike = (record { entry = refl; directories = (record { bytes = refl; pages = refl }, tt) }, tt)

valid : AreValid changed
valid = record { rising = (tt, tt); stored = (is_stored_chunk (schema 0) four (1 ∷ []) four_rows sound refl refl, tt) }

held : (k : ChunkNumber) → length k ≡ 1 → is_listed k ((0 ∷ []) ∷ (1 ∷ []) ∷ []) ≡ has_cell (schema 0).dimensions four k
held k len = numbers_listed (schema 0).dimensions k (valid_placed (schema 0) four_rows.valid).near len four four_rows.are_rows.in_bounds

written : (k : ChunkNumber) → length k ≡ 1 → is_listed k ((1 ∷ []) ∷ []) ≡ (has_cell (schema 0).dimensions four k && meets (schema 0).dimensions (cell_at 2 ∷ []) k)
written k len = by_tests (is_eq (number_order (0 ∷ []) k)) (is_eq (number_order (1 ∷ []) k)) refl refl
  where
    here : ChunkNumber → Type 0
    here n = is_listed n ((1 ∷ []) ∷ []) ≡ (has_cell (schema 0).dimensions four n && meets (schema 0).dimensions (cell_at 2 ∷ []) n)

    by_tests : (b c : Bool) → is_eq (number_order (0 ∷ []) k) ≡ b → is_eq (number_order (1 ∷ []) k) ≡ c → here k
    by_tests true c e f = subst here (same_number (0 ∷ []) k (is_equal (number_order (0 ∷ []) k) e)) refl
    by_tests false true e f = subst here (same_number (1 ∷ []) k (is_equal (number_order (1 ∷ []) k) f)) refl
    by_tests false false e f =
        let none : has_cell (schema 0).dimensions four k ≡ false =
        sym (held k len) ∙ ap (λ (b : Bool). b || (is_eq (number_order (1 ∷ []) k) || false)) e ∙ ap (λ (b : Bool). b || false) f in
        ap (λ (b : Bool). b || false) f ∙ sym (ap (λ (b : Bool). b && meets (schema 0).dimensions (cell_at 2 ∷ []) k) none)

chunks : IsChangeOf (stored 0) (insert_at 0 2) changed
chunks = record {
  fault = refl;
  rows = four_rows;
  listed = written;
  parts = (stored_part (schema 0) four (1 ∷ []) (stored_frame (schema 0) (1 ∷ []) refl refl), tt);
}

before : IsOfRows (schema 0) four newest
unfolding payload_spelling spell_runs spell_value is_same
before = record {
  listed = record { rising = ((refl, tt), (tt, tt)); sized = (refl, (refl, tt)); listed = held };
  lengths = (record { bytes = refl; pages = refl }, (record { bytes = refl; pages = refl }, tt));
}

over : IsOver (stored 0) (insert_at 0 2) (catalog_of (stored 0)) (Some changed) newest
over = record { database = database; typed = typed; alike = alike; comes = (refl, refl); valid = valid; chunks = chunks; before = λ part. (four_rows, before) }

needs_is : record_needs (catalog_of (stored 0)) newest (insert_at 0 2) (draft_of 2 (Some changed)) ≡ 3
unfolding record_needs directory_of payload_spelling spell_runs spell_value directory_spelling spell_entry spell_record spell_blob spell_name page_size is_same
needs_is = refl

blobs_is : pages_of inserted.blobs ≡ 7 ∷ 8 ∷ []
unfolding record_laid version_in directory_of payload_spelling spell_runs spell_value directory_spelling spell_entry page_size is_same
blobs_is = refl

chain_is : inserted.chain.pages ≡ 9 ∷ []
unfolding record_laid version_in directory_of payload_spelling spell_runs spell_value directory_spelling spell_entry spell_record spell_blob spell_name page_size is_same
chain_is = refl

used_is : inserted.used ≡ record { version = 8 ∷ 3 ∷ 7 ∷ []; catalogue = 1 ∷ 2 ∷ 6 ∷ 9 ∷ [] }
unfolding record_laid version_in directory_of payload_spelling spell_runs spell_value directory_spelling spell_entry spell_record spell_blob spell_name page_size is_same
used_is = refl

births_is : births_of inserted.directory ≡ 1 ∷ 2 ∷ []
unfolding record_laid version_in directory_of payload_spelling spell_runs spell_value page_size is_same
births_is = refl

pub laid : AnInsertIsLaid
laid = record { over = over; needs = needs_is; blobs = blobs_is; chain = chain_is; used = used_is; births = births_is }
