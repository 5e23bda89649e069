-- An insert over the file of one array with two cells, computed: what the laws ask of it, and what they say.
use Rattle.std.proofs.Common.{◌≡◌, ◌∙◌, Bool, true, false, ◌&&◌, ◌||◌, [], ◌∷◌, length, Some, refl, sym, ap, subst, arith}
use Rattle.std.specs.Ordering.{is_eq}
use Rattle.array_rows.specs.Arrays.{AreRowsOf}
use Rattle.array_geom.specs.Geometry.{ChunkNumber}
use Rattle.array_geom.specs.Link.{number_order, is_listed, has_cell}
use Rattle.array_geom.proofs.NearLemmas.{valid_placed, stored_frame}
use Rattle.array_geom.proofs.NumberLaws.{is_equal, same_number}
use Rattle.chunk_rle.specs.Chunks.{spelling as payload_spelling}
use Rattle.chunk_rle.specs.Spelling.{spell_runs, spell_value}
use Rattle.chunk_rle.specs.Table.{is_same}
use Rattle.chunk_map.specs.Spelling.{spelling as directory_spelling, spell_entry}
use Rattle.page_chain.specs.Pages.{page_size}
use Rattle.logical_plan.specs.Typing.{AreSound}
use Rattle.plan_changes.specs.Databases.{names_of}
use Rattle.plan_changes.specs.Typed.{IsTypedFor}
use Rattle.version_catalog.specs.Catalogs.{IsCatalog}
use Rattle.file_meaning.specs.Inner.FileExample.{schema, rows as old_rows, database, file}
use Rattle.file_meaning.proofs.Payloads.{stored_part}
use Rattle.file_meaning.proofs.FileStored.{is_stored_chunk}
use Rattle.file_meaning.proofs.WorkedFiles.{found_is, database_is, version_is}
use Rattle.file_meaning.specs.Inner.NextExample.{found, slots}
use Rattle.file_meaning.specs.Premises.{StandsBy}
use Rattle.commit_pages.specs.Costs.{catalog_of}
use Rattle.commit_pages.specs.Lengths.{AreAlikeCatalogs, meets}
use Rattle.commit_pages.proofs.Orders.{numbers_listed}
use Rattle.commit_pages.specs.Changes.{AreValid, IsChangeOf}
use Rattle.commit_pages.specs.Laws.{IsOfRows, IsOver}
use Rattle.store_state.specs.LaidPremises.{IsNewestIn}
use Rattle.store_state.specs.Inner.Insert.{put, change, rows, changed, newest, AnInsertIsOverItsFile}

stands : StandsBy file slots database found
stands = record { finds = found_is; database = database_is; holds = record { names = refl; versions = ((version_is, tt), tt) } }

is_catalog : IsCatalog found.catalog
is_catalog = record {
  names = database_is.names;
  each = (record { one_each = refl; blobs = (record { some = (omega arith, omega arith); count = (refl, omega arith); each = (omega arith, tt) }, tt) }, tt);
}

put_rows : AreRowsOf schema put
put_rows = record { valid = refl; are_rows = record { rising = (tt, tt); in_bounds = (refl, tt) }; kinds = ((refl, tt), tt) }

typed : IsTypedFor (names_of database) change
typed = (refl, (record { typed = (refl, put_rows, (refl, tt)); reads = tt }, (refl, refl)))

-- ---- the chunks

two_rows : AreRowsOf schema rows
two_rows = record { valid = refl; are_rows = record { rising = ((refl, tt), (tt, tt)); in_bounds = (refl, (refl, tt)) }; kinds = ((refl, tt), ((refl, tt), tt)) }

sound : AreSound schema rows
sound = (refl, (refl, tt))

valid : AreValid changed
valid = record { rising = (tt, tt); stored = (is_stored_chunk schema rows (0 ∷ []) two_rows sound refl refl, tt) }

held : (k : ChunkNumber) → length k ≡ 1 → is_listed k ((0 ∷ []) ∷ []) ≡ has_cell schema.dimensions rows k
held k len = numbers_listed schema.dimensions k (valid_placed schema two_rows.valid).near len rows two_rows.are_rows.in_bounds

written : (k : ChunkNumber) → length k ≡ 1 → is_listed k ((0 ∷ []) ∷ []) ≡ (has_cell schema.dimensions rows k && meets schema.dimensions put k)
written k len = by_test (is_eq (number_order (0 ∷ []) k)) refl
  where
    here : ChunkNumber → Type 0
    here n = is_listed n ((0 ∷ []) ∷ []) ≡ (has_cell schema.dimensions rows n && meets schema.dimensions put n)

    by_test : (b : Bool) → is_eq (number_order (0 ∷ []) k) ≡ b → here k
    by_test true e = subst here (same_number (0 ∷ []) k (is_equal (number_order (0 ∷ []) k) e)) refl
    by_test false e =
        let none : has_cell schema.dimensions rows k ≡ false = sym (held k len) ∙ ap (λ (b : Bool). b || false) e in
        ap (λ (b : Bool). b || false) e ∙ sym (ap (λ (b : Bool). b && meets schema.dimensions put k) none)

chunks : IsChangeOf database change changed
chunks = record { fault = refl; rows = two_rows; listed = written; parts = (stored_part schema rows (0 ∷ []) (stored_frame schema (0 ∷ []) refl refl), tt) }

-- ---- what is found

newest_is : IsNewestIn found change schema newest
newest_is = record {
  is = refl;
  rules = record {
    count = omega arith;
    each = (
      record {
        dimensions = refl;
        numbers = (omega arith, tt);
        birth = (omega arith, omega arith);
        payload = record { some = (omega arith, omega arith); count = (refl, omega arith); each = (omega arith, tt) };
      },
      tt,
    );
    rising = (tt, tt);
  };
  cores = (refl, tt);
}

alike : AreAlikeCatalogs found.catalog (catalog_of database)
unfolding directory_spelling spell_entry payload_spelling spell_runs spell_value page_size is_same
alike = (record { entry = refl; directories = (record { bytes = refl; pages = refl }, tt) }, tt)

before : IsOfRows schema old_rows newest
unfolding payload_spelling spell_runs spell_value is_same
before = record { listed = record { rising = (tt, tt); sized = (refl, tt); listed = version_is.listed }; lengths = (record { bytes = refl; pages = refl }, tt) }

over : IsOver database change found.catalog (Some changed) newest
over = record { database = database_is; typed = typed; alike = alike; comes = (refl, refl); valid = valid; chunks = chunks; before = λ part. (database_is.rows.0.0.0, before) }

pub insert_is_over : AnInsertIsOverItsFile
insert_is_over = record { stands = stands; catalog = is_catalog; typed = typed; comes = (refl, refl); valid = valid; chunks = chunks; part = newest_is; over = over }
