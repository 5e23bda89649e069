-- An array that is removed by a new base, computed: what the law of laid bases asks.
use Rattle.std.proofs.Common.{[], ◌∷◌, None, refl, sym, subst, arith}
use Rattle.page_chain.specs.Places.{KeepsPages}
use Rattle.page_chain.specs.Pages.{page_size}
use Rattle.chunk_map.specs.Spelling.{spelling as directory_spelling, spell_entry}
use Rattle.commit_pages.specs.Chunks.{spelling as payload_spelling}
use Rattle.commit_pages.specs.Spelling.{spell_runs, spell_value}
use Rattle.commit_pages.specs.Table.{is_same}
use Rattle.file_meaning.specs.Stored.{AreStored}
use Rattle.file_meaning.specs.Catalogs.{IsCatalog, names_in}
use Rattle.file_meaning.specs.Spelling.{spelling}
use Rattle.commit_pages.specs.Costs.{catalog_of}
use Rattle.commit_pages.specs.Lengths.{AreAlikeCatalogs}
use Rattle.page_file.specs.Commits.{base_pages, HoldsAll}
use Rattle.commit_pages.specs.Commits.{base_needs, base_laid}
use Rattle.file_meaning.specs.Inner.FileExample.{database, file}
use Rattle.file_meaning.specs.Inner.NextExample.{found, slots}
use Rattle.file_meaning.specs.Inner.Removed.{change, next, AnArrayIsRemoved}
use Rattle.file_meaning.specs.NextLaws.{FreePagesTurn}
use Rattle.store_state.specs.Inner.Removal.{no_directory, removal, ARemovalIsLaid}
use Rattle.store_state.specs.LaidPremises.{IsCommit, IsLaidBase}

alike : AreAlikeCatalogs found.catalog (catalog_of database)
unfolding directory_spelling spell_entry payload_spelling spell_runs spell_value page_size is_same
alike = (record { entry = refl; directories = (record { bytes = refl; pages = refl }, tt) }, tt)

is_catalog : AreStored (names_in found.catalog) → IsCatalog found.catalog
is_catalog names = record {
  names = names;
  each = (record { one_each = refl; blobs = (record { some = (omega arith, omega arith); count = (refl, omega arith); each = (omega arith, tt) }, tt) }, tt);
}

commit : AnArrayIsRemoved → IsCommit file slots database found change None no_directory
commit removed = record {
  stands = removed.stands;
  may = removed.may;
  over = record { database = removed.stands.database; typed = removed.may.typed; alike = alike; comes = refl; valid = tt; chunks = tt; before = tt };
  catalog = is_catalog (subst AreStored (sym removed.stands.holds.names) removed.stands.database.names);
  part = tt;
  sequence = omega arith;
}

laid : FreePagesTurn → AnArrayIsRemoved → IsLaidBase slots found change None no_directory (5 ∷ []) 6 removal
unfolding base_needs spelling page_size
laid turn removed = record { enough = refl; few = omega arith; free = turn (1 ∷ 3 ∷ 4 ∷ []) [] (6 ∷ []) (5 ∷ []) removed.holds.free; is = refl }

kept : AnArrayIsRemoved → KeepsPages (0 ∷ base_pages removal.blobs removal.chain 6) file next
unfolding base_laid spelling page_size
kept removed = removed.holds.kept

held : AnArrayIsRemoved → HoldsAll next removal.blobs removal.chain
unfolding base_laid spelling page_size
held removed = (tt, removed.holds.chained.held)

pub removal_is_laid : FreePagesTurn → AnArrayIsRemoved → ARemovalIsLaid
removal_is_laid turn removed = record { commit = commit removed; laid = laid turn removed; kept = kept removed; held = held removed }
