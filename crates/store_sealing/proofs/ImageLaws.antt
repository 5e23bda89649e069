-- The images of a store while a commit is written, and after it.
use Rattle.std.proofs.Common.{◌≡◌, ◌⊎◌, inl, inr, ⊎_elim, ℕ, List, [], ◌∷◌, Some, IfSome, sym, subst}
use Rattle.std.specs.Prelude.{Ok}
use Rattle.page_chain.specs.Places.{other, KeepsPages}
use Rattle.page_chain.specs.declared.slots.layout.sides.Side.{Side}
use Rattle.page_chain.specs.Standing.{IsAlone, IsStillEntry, IsStillRoot, target_page}
use Rattle.page_chain.specs.Steps.{doubted, emptied_entry, emptied_root}
use Rattle.page_chain.specs.declared.slots.slots.slots.Slots.{Slots}
use Rattle.page_chain.specs.declared.slots.slots.slots.RootSlot.{RootSlot}
use Rattle.page_chain.specs.declared.slots.slots.slots.RootSlot.TheVariants as roots
use Rattle.page_chain.specs.declared.slots.slots.slots.NextEntry.{NextEntry}
use Rattle.page_chain.specs.declared.slots.slots.slots.NextEntry.TheVariants as entries
use Rattle.page_chain.specs.declared.slots.slots.slots.Target.{Target}
use Rattle.page_chain.specs.declared.slots.slots.slots.Target.TheVariants as targets
use Rattle.plan_changes.specs.Databases.{Database, after}
use Rattle.file_meaning.specs.Opening.{found_in, pages_of}
use Rattle.file_meaning.specs.Slots.{Slots as FoundSlots}
use Rattle.event_core.specs.declared.entry.Entry.TheVariants.{Commit}
use Rattle.event_core.specs.Cells.{at}
use Rattle.store_state.specs.LaidLaws.{OpenedFilesStand, OpenedRootsStand}
use Rattle.file_meaning.specs.NextLaws.{WritesLeaveStanding}
use Rattle.file_meaning.specs.Premises.{slots_of, slots_with}
use Rattle.store_state.specs.Cells.{ByEntry, ByRoot, IsImage, StandsByOpening, StandsBySome}
use Rattle.store_state.specs.Standings.{current_slots}
use Rattle.store_state.proofs.Decodes.{if_some}
use Rattle.store_sealing.specs.ImagesLaws.{UntouchedImages, UnopenedImages, OpeningRecords, OpeningRoots, NextImages}
use Rattle.store_sealing.proofs.Carried.{Carried, carried}
use Rattle.store_sealing.proofs.Lies.{found_versions_lie}
use Rattle.store_sealing.proofs.Live.{all_none}
use Rattle.store_sealing.proofs.Stand.{images_stand}

-- ---- what may stand open, where the page of its slot alone was written

module _ (writes : WritesLeaveStanding) (page : ℕ) (old new : List ℕ) (keeps : KeepsPages (page ∷ []) old new) (db : Database) where
  root_still : (side : Side) (slot : RootSlot) → (page ≡ 0) ⊎ IsStillRoot slot → ByRoot slot side (StandsBySome old db) → ByRoot slot side (StandsBySome new db)
  root_still side roots.Closed its told = tt
  root_still side roots.Older its told = tt
  root_still side (roots.Written root) its told = tt
  root_still side (roots.Opening root) (inl first) told = (told.0, writes page [] old new (slots_of side root) db told.0 (inl first) keeps (all_none (pages_of told.0)) told.1)
  root_still side (roots.Opening root) (inr still) told = absurd still

  entry_still : (slots : FoundSlots) (next : NextEntry) → (page ≡ slots.current.root.log) ⊎ IsStillEntry next → ByEntry next slots (StandsBySome old db) → ByEntry next slots (StandsBySome new db)
  entry_still slots entries.Closed its told = tt
  entry_still slots (entries.Written entry) its told = tt
  entry_still slots (entries.Opening entry) (inl log) told = (told.0, writes page [] old new (slots_with slots entry) db told.0 (inr log) keeps (all_none (pages_of told.0)) told.1)
  entry_still slots (entries.Opening entry) (inr still) told = absurd still

  its_root : (target : Target) (slots : Slots) → page ≡ target_page target slots → IsAlone target slots → (page ≡ 0) ⊎ IsStillRoot slots.other
  its_root targets.Root slots its alone = inl its
  its_root targets.Record slots its alone = inr alone

  its_entry : (target : Target) (slots : Slots) → page ≡ target_page target slots → IsAlone target slots → (page ≡ slots.current.root.log) ⊎ IsStillEntry slots.next
  its_entry targets.Root slots its alone = inr alone
  its_entry targets.Record slots its alone = inl its

  pub opening_still : (slots : Slots) → page ≡ target_page slots.target slots → IsAlone slots.target slots → StandsByOpening old slots db → StandsByOpening new slots db
  opening_still slots its alone told = record {
    root = root_still (other slots.current.side) slots.other (its_root slots.target slots its alone) told.root;
    entry = entry_still (current_slots slots) slots.next (its_entry slots.target slots its alone) told.entry;
  }

in_doubt : (image : List ℕ) (slots : Slots) (db : Database) → StandsByOpening image slots db → StandsByOpening image (doubted slots) db
in_doubt image slots db told = record { root = told.root; entry = told.entry }

-- ---- before the slot is opened

pub untouched_images : WritesLeaveStanding → OpenedFilesStand → OpenedRootsStand → UntouchedImages
untouched_images writes own torn base given db h slots doubt found page old new store may same image keeps opens =
    let c : Carried base.core given db h slots found new = carried writes base given db h slots doubt found page [] old new store may image keeps in
    let told : IfSome doubt (λ change. StandsByOpening new slots (after (at db h) change)) =
    if_some (λ change. StandsByOpening old slots (after (at db h) change)) (λ change. StandsByOpening new slots (after (at db h) change)) doubt
    (λ change. opening_still writes page old new keeps (after (at db h) change) slots may.its store.are_slots.alone) image.doubted in
    record {
      opens = c.stands.finds;
      holds = c.stands.holds;
      now = c.now;
      pinned = c.pinned;
      doubted = if_some (λ change. StandsByOpening new slots (after (at db h) change)) (λ change. StandsByOpening new (doubted slots) (after (at db h) change)) doubt
          (λ change. in_doubt new slots (after (at db h) change)) told;
      stands = images_stand own torn new slots (at db h) doubt found same c.stands told opens;
    }

pub unopened_images : WritesLeaveStanding → OpenedFilesStand → UnopenedImages
unopened_images writes own base given db h slots later doubt found page pages old new store may image keeps opens same =
    let c : Carried base.core given db h slots found new = carried writes base given db h slots doubt found page pages old new store may image keeps in
    record {
      opens = subst (λ (s : FoundSlots). found_in new s ≡ Ok found) (sym same) c.stands.finds;
      holds = c.stands.holds;
      now = c.now;
      pinned = c.pinned;
      doubted = tt;
      stands = (own new (current_slots slots) (at db h) found c.stands opens).1;
    }

-- ---- while the slot may stand open

still_root : (side : Side) (P : FoundSlots → Type 0) (slot : RootSlot) → IsStillRoot slot → ByRoot (emptied_root slot) side P
still_root side P roots.Closed still = tt
still_root side P roots.Older still = tt
still_root side P (roots.Written root) still = tt
still_root side P (roots.Opening root) still = absurd still

still_entry : (slots : FoundSlots) (P : FoundSlots → Type 0) (next : NextEntry) → IsStillEntry next → ByEntry (emptied_entry next) slots P
still_entry slots P entries.Closed still = tt
still_entry slots P (entries.Written entry) still = tt
still_entry slots P (entries.Opening entry) still = absurd still

pub opening_records : WritesLeaveStanding → OpenedFilesStand → OpeningRecords
opening_records writes own base given db h slots later doubt found next page pages old new change place store may image keeps target is stands opens =
    let c : Carried base.core given db h slots found new = carried writes base given db h slots doubt found page pages old new store may image keeps in
    let alone : IsStillRoot slots.other = subst (λ (t : Target). IsAlone t slots) target store.are_slots.alone in
    subst (λ (s : Slots). IsImage base.core given db h s (Some change) found new) (sym is) (record {
      opens = c.stands.finds;
      holds = c.stands.holds;
      now = c.now;
      pinned = c.pinned;
      doubted = record { root = still_root (other slots.current.side) (StandsBySome new (after (at db h) change)) slots.other alone; entry = (next, stands) };
      stands = ⊎_elim (λ o. inl (own new (current_slots slots) (at db h) found c.stands o).1)
          (λ o. inr (own new (slots_with (current_slots slots) place) (after (at db h) change) next stands o).1) opens;
    })

pub opening_roots : WritesLeaveStanding → OpenedFilesStand → OpenedRootsStand → OpeningRoots
opening_roots writes own torn base given db h slots later doubt found next page pages old new change root store may image keeps target is stands opens =
    let c : Carried base.core given db h slots found new = carried writes base given db h slots doubt found page pages old new store may image keeps in
    let alone : IsStillEntry slots.next = subst (λ (t : Target). IsAlone t slots) target store.are_slots.alone in
    subst (λ (s : Slots). IsImage base.core given db h s (Some change) found new) (sym is) (record {
      opens = c.stands.finds;
      holds = c.stands.holds;
      now = c.now;
      pinned = c.pinned;
      doubted = record { root = (next, stands); entry = still_entry (current_slots slots) (StandsBySome new (after (at db h) change)) slots.next alone };
      stands = ⊎_elim (λ o. inl (own new (current_slots slots) (at db h) found c.stands o).1)
          (λ o. inr (torn new (other slots.current.side) root (after (at db h) change) next stands o).1) opens;
    })

-- ---- once it is open

pub next_images : WritesLeaveStanding → OpenedFilesStand → NextImages
next_images writes own base given db h slots later doubt found next page pages old new session change used store may image keeps order stands opens =
    let c : Carried base.core given db h slots found new = carried writes base given db h slots doubt found page pages old new store may image keeps in
    record {
      opens = stands.finds;
      holds = stands.holds;
      now = found_versions_lie base given db (Commit session change used ∷ h) later next new order stands;
      pinned = c.pinned;
      doubted = tt;
      stands = (own new (current_slots later) (after (at db h) change) next stands opens).1;
    }
