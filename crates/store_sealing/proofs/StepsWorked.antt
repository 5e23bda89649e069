-- The commit that removes the worked store's array is prepared for it.
use Rattle.std.proofs.Common.{inl, [], ◌∷◌, None, refl, arith}
use Rattle.std.proofs.lemmas.List.Elements.{Contains-push}
use Rattle.page_chain.specs.Pages.{page_size, AreDistinct}
use Rattle.file_items.specs.Spelling.{spell_name}
use Rattle.version_catalog.specs.Spelling.{spell_record}
use Rattle.file_meaning.proofs.WorkedFiles.{file_stands}
use Rattle.event_core.specs.declared.entry.Entry.TheVariants.{Pin}
use Rattle.store_state.specs.Commits.{record_laid, record_needs}
use Rattle.store_ledger.specs.Ledger.{attempt, history}
use Rattle.prepared_commits.specs.Standings.{given_of}
use Rattle.prepared_commits.specs.Kept.{IsKept}
use Rattle.prepared_commits.specs.Worked.{worked_keeping, worked_moment, worked_store}
use Rattle.prepared_commits.proofs.KeptOn.{kept_pin}
use Rattle.prepared_commits.specs.Prepared.{IsAsked, IsLaid, MayCome}
use Rattle.store_sealing.specs.StepsLaws.{IsReady}
use Rattle.store_sealing.specs.StepsWorked.{pinned_store, prepared_removal, removal, removal_laid}

pinned_kept : IsKept worked_moment worked_store worked_keeping [] (given_of worked_store) →
    IsKept worked_moment pinned_store worked_keeping (history pinned_store.ledger) (given_of pinned_store)
pinned_kept before =
    let x : IsKept worked_moment worked_store worked_keeping (Pin 7 ∷ []) (given_of worked_store) =
    kept_pin worked_moment worked_store worked_keeping [] (given_of worked_store) before 7 refl in
    record {
      in_order = x.in_order;
      catalog = x.catalog;
      names = x.names;
      versions = x.versions;
      slots = x.slots;
      doubt = refl;
      acked = refl;
      made = refl;
      tried = refl;
      noted = inl (omega arith);
    }

asked : IsAsked worked_moment pinned_store removal None
asked = record {
  named = file_stands.database.names.each.0.name;
  typed = (refl, tt);
  comes = refl;
  valid = tt;
  told = λ db began. record { stores = tt; fault = refl; chunks = tt };
}

one_page : AreDistinct (5 ∷ [])
one_page i j below few = λ same. omega (arith, below, few)

laid : IsLaid pinned_store worked_keeping None (5 ∷ []) removal_laid prepared_removal
unfolding record_laid record_needs spell_name spell_record page_size
laid = record {
  by = record { target = refl; enough = refl; is = refl };
  few = omega arith;
  free = (refl, tt);
  distinct = one_page;
  blobs = refl;
  chain = refl;
  catalog = refl;
  used = refl;
  sized = tt;
  chained = record { some = omega arith; enough = refl };
  blob = tt;
  rules = tt;
  directory = refl;
}

comes : MayCome worked_moment pinned_store worked_keeping prepared_removal
unfolding record_laid spell_name spell_record page_size
comes = record {
  over = record { names = refl; pages = refl; catalogue = refl };
  allowed = refl;
  own = record { version = refl; catalogue = refl; none = λ e. refl };
  first = refl;
  noted = refl;
  tried = record { since = []; start = Pin 7 ∷ []; part = refl; noted = Contains-push [] (record { session = 7; kind = attempt removal; after = 1 }); still = refl };
  room = refl;
  version = tt;
  sequence = omega arith;
  records = omega arith;
  limit = omega arith;
  cost = λ db began. refl;
}

pub removal_is_ready : IsKept worked_moment worked_store worked_keeping [] (given_of worked_store) → IsReady worked_moment pinned_store worked_keeping prepared_removal
removal_is_ready before = record { kept = pinned_kept before; changed = None; asked = asked; pages = 5 ∷ []; laid = removal_laid; is_laid = laid; may_come = comes }
