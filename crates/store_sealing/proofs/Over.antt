-- A commit over a store, as plain values, and what becomes of an image of the store while it is written.
use Rattle.std.proofs.Common.{◌≡◌, ◌⊎◌, inl, inr, ⊎_elim, ℕ, ◌+◌, List, [], ◌∷◌, ◌++◌, length, Option, None, Some, IfSome, refl, subst}
use Rattle.std.specs.Option.{is_some}
use Rattle.array_geom.specs.declared.chunk.Changed.{Changed}
use Rattle.page_chain.specs.Places.{other, KeepsPages}
use Rattle.page_chain.specs.Opens.{OpensAs}
use Rattle.page_chain.specs.Inner.Runs.{Over as OverPages}
use Rattle.page_chain.specs.Standing.{MayOpen, OpensAsRoot}
use Rattle.page_chain.specs.Steps.{doubted}
use Rattle.page_chain.specs.declared.slots.slots.slots.Slots.{Slots}
use Rattle.page_chain.specs.declared.slots.slots.slots.RootSlot.TheVariants as roots
use Rattle.page_chain.specs.declared.slots.slots.slots.Target.{Target}
use Rattle.page_chain.specs.declared.slots.slots.slots.Target.TheVariants as targets
use Rattle.chunk_map.specs.declared.directory.Directory.{Directory}
use Rattle.plan_changes.specs.declared.change.Change.{Change}
use Rattle.plan_changes.specs.Databases.{Database, after}
use Rattle.file_meaning.specs.Opening.{sequence_of}
use Rattle.file_meaning.specs.Slots.{Slots as FoundSlots}
use Rattle.file_meaning.specs.Standing.{Stands}
use Rattle.file_meaning.specs.declared.meaning.found.Found.{Found}
use Rattle.file_meaning.specs.Next.{with_base, with_record}
use Rattle.file_meaning.specs.Premises.{StandsBy, slots_of, slots_with}
use Rattle.page_file.specs.declared.commits.stopped.Stopped.{Stopped}
use Rattle.page_file.specs.declared.commits.stopped.Stopped.TheVariants as stages
use Rattle.page_file.specs.Commits.{HoldsAll, record_of, root_of}
use Rattle.page_file.specs.Moments.{HasBase, HasRecord, IsOpened, IsUnopened, IsUntouched, MayBe}
use Rattle.store_state.specs.Laid.{Laid}
use Rattle.event_core.specs.declared.entry.Entry.TheVariants.{Commit}
use Rattle.event_core.specs.declared.entry.Used.{Used}
use Rattle.event_core.specs.Bases.{Base}
use Rattle.event_core.specs.Cells.{at}
use Rattle.event_core.specs.History.{History}
use Rattle.store_state.specs.LaidPremises.{IsCommit, IsLaidBase, IsLaidRecord, made_of}
use Rattle.store_ledger.specs.declared.note.Note.{Note}
use Rattle.store_versions.specs.Versions.{Directories}
use Rattle.prepared_commits.specs.Cells.{IsImage}
use Rattle.prepared_commits.specs.Standings.{IsAttempt, StandsFor, StoodFor, current_slots}
use Rattle.prepared_commits.specs.Keeping.{is_opening}
use Rattle.store_sealing.specs.Premises.{IsStore, MayBeWritten, IsFoundInOrder}
use Rattle.prepared_commits.specs.declared.commits.prepared.NewBase.{NewBase}
use Rattle.store_sealing.specs.Steps.{doubt_after, sealed_slots, stopped_slots}
use Rattle.store_sealing.specs.Moves.{NewIn, own_pages, slot_page}
use Rattle.store_sealing.proofs.Rest.{Rest}

-- the store's parts, what is found of its file, the change, and what is laid of it
pub record Over : Type 0 where
  pub base : Base
  pub given : Directories
  pub db : Database
  pub notes : List Note
  pub h : History
  pub slots : Slots
  pub doubt : Option Change
  pub found : Found
  pub change : Change
  pub changed : Option Changed
  pub newest : Directory
  pub catalogue : List ℕ
  pub pages : List ℕ
  pub laid : Laid

abbrev pub now : Over → Database
now v = at v.db v.h

abbrev pub Image : Over → List ℕ → Type 0
Image v image = IsImage v.base.core v.given v.db v.h v.slots v.doubt v.found image

abbrev pub target_of : Option NewBase → Target
target_of None = targets.Record
target_of (Some base) = targets.Root

-- what is laid of a record, or of a new base of the next sequence
abbrev pub IsLaidIn : Over → Option NewBase → Type 0
IsLaidIn v None = IsLaidRecord (current_slots v.slots) v.found v.change v.changed v.newest v.catalogue v.pages v.laid
IsLaidIn v (Some base) = IsLaidBase (current_slots v.slots) v.found v.change v.changed v.newest v.pages base.log v.laid
    × (sequence_of (current_slots v.slots) + 1 ≡ base.sequence)

pub record IsOver (v : Over) (o : Option NewBase) : Type 0 where
  pub store : IsStore v.base v.given v.db v.h v.slots v.found
  pub may : MayBeWritten v.base.core v.h v.slots (slot_page o v.slots) (own_pages o v.laid.blobs v.laid.chain)
  pub target : v.slots.target ≡ target_of o
  pub same : is_opening v.slots ≡ is_some v.doubt
  pub doubtful : IfSome v.doubt (IsAttempt v.db v.notes v.h)
  pub sound : IsAttempt v.db v.notes v.h v.change
  pub commit : (image : List ℕ) → Image v image → IsCommit image (current_slots v.slots) (now v) v.found v.change v.changed v.newest
  pub laid_in : IsLaidIn v o

-- ---- what is new

abbrev pub new_slots : Over → Option NewBase → FoundSlots
new_slots v None = slots_with (current_slots v.slots) (record_of v.laid.chain)
new_slots v (Some base) = slots_of (other v.slots.current.side) (root_of base.sequence v.laid.chain base.log)

abbrev pub new_found : Over → Option NewBase → Found
new_found v None = with_record v.found v.laid.chain.pages v.change (made_of v.laid)
new_found v (Some base) = with_base v.found v.laid.chain.pages v.change (made_of v.laid)

abbrev pub its_pages : Over → Option NewBase → List ℕ
its_pages v o = slot_page o v.slots ∷ own_pages o v.laid.blobs v.laid.chain

stands_new : Rest → (v : Over) (o : Option NewBase) → IsOver v o → (old new : List ℕ) → Image v old → KeepsPages (its_pages v o) old new → HoldsAll new v.laid.blobs v.laid.chain
    → StandsBy new (new_slots v o) (after (now v) v.change) (new_found v o)
stands_new rest v None x old new image keeps holds =
    rest.laid_records v.base v.given v.db v.h v.slots v.doubt v.found old old new v.change v.changed v.newest v.catalogue v.pages v.laid (x.commit old image) x.laid_in image keeps holds
stands_new rest v (Some base) x old new image keeps holds =
    subst (λ (n : ℕ). StandsBy new (slots_of (other v.slots.current.side) (root_of n v.laid.chain base.log)) (after (now v) v.change) (new_found v (Some base))) x.laid_in.1
    (rest.laid_bases v.base v.given v.db v.h v.slots v.doubt v.found old old new v.change v.changed v.newest v.pages base.log v.laid (x.commit old image) x.laid_in.0 image keeps holds)

-- an image that opens with what is new stands for the database after the change
opens_new : Rest → (v : Over) (o : Option NewBase) → IsOver v o → (old new : List ℕ) → Image v old → KeepsPages (its_pages v o) old new → NewIn o v.slots v.laid.blobs v.laid.chain new
    → Stands new (after (now v) v.change)
opens_new rest v None x old new image keeps is =
    (rest.own new (new_slots v None) (after (now v) v.change) (new_found v None) (stands_new rest v None x old new image keeps is.1) is.0).1
opens_new rest v (Some base) x old new image keeps is =
    (rest.torn new (other v.slots.current.side) (root_of base.sequence v.laid.chain base.log) (after (now v) v.change) (new_found v (Some base))
    (stands_new rest v (Some base) x old new image keeps is.1) is.0).1

-- ---- while it is written

module _ (rest : Rest) (v : Over) (o : Option NewBase) (x : IsOver v o) where
  pub untouched_on : (old new : List ℕ) → Image v old → KeepsPages (slot_page o v.slots ∷ []) old new → MayOpen v.slots new
      → IsImage v.base.core v.given v.db v.h (doubted v.slots) v.doubt v.found new
  untouched_on old new image keeps opens =
      rest.untouched v.base v.given v.db v.h v.slots v.doubt v.found (slot_page o v.slots) old new x.store (record { its = x.may.its; unnamed = tt }) x.same image keeps opens

  pub unopened_on : (later : Slots) (old new : List ℕ) → Image v old → KeepsPages (its_pages v o) old new → OpensAs v.slots.current v.slots.records new
      → current_slots later ≡ current_slots v.slots → IsImage v.base.core v.given v.db v.h later None v.found new
  unopened_on later old new image keeps opens same =
      rest.unopened v.base v.given v.db v.h v.slots later v.doubt v.found (slot_page o v.slots) (own_pages o v.laid.blobs v.laid.chain) old new x.store x.may image keeps opens same

module _ (rest : Rest) (v : Over) (o : Option NewBase) (x : IsOver v o) (before : List ℕ → Type 0) (images : (image : List ℕ) → before image → Image v image) where
  abbrev pub May : List ℕ → Type 0
  May image = MayBe (slot_page o v.slots) (own_pages o v.laid.blobs v.laid.chain) v.slots (NewIn o v.slots v.laid.blobs v.laid.chain) before image

  over_images : (ps : List ℕ) (c : List ℕ) → OverPages ps before c → OverPages ps (Image v) c
  over_images ps c is = (is.0, images is.0 is.1, is.2)

  in_images : (c : List ℕ) → May c
      → MayBe (slot_page o v.slots) (own_pages o v.laid.blobs v.laid.chain) v.slots (λ image. Stands image (after (now v) v.change)) (Image v) c
  in_images c (inl is) = inl (over_images _ c is.0, is.1)
  in_images c (inr (inl is)) = inr (inl (over_images _ c is.0, is.1))
  in_images c (inr (inr is)) = inr (inr (over_images _ c is.0, opens_new rest v o x is.0.0 c (images is.0.0 is.0.1) is.0.2 is.1))

  pub have_stood : (c : List ℕ) → May c → StoodFor v.db v.notes (length v.h) v.h c
  have_stood c is = rest.stood v.base v.given v.db v.notes v.h v.slots v.doubt v.found (slot_page o v.slots) (own_pages o v.laid.blobs v.laid.chain) v.change c
      x.store x.may x.same x.doubtful x.sound (in_images c is)

  pub may_leave : (c : List ℕ) → May c
      → (StandsFor (now v) v.doubt c × OverPages (slot_page o v.slots ∷ []) before c) ⊎ (StandsFor (now v) (Some v.change) c × OverPages (its_pages v o) before c)
  may_leave c (inl is) = inl ((untouched_on rest v o x is.0.0 c (images is.0.0 is.0.1) is.0.2 is.1).stands, is.0)
  may_leave c (inr (inl is)) = inr (inl (unopened_on rest v o x v.slots is.0.0 c (images is.0.0 is.0.1) is.0.2 is.1 refl).stands, is.0)
  may_leave c (inr (inr is)) = inr (inr (opens_new rest v o x is.0.0 c (images is.0.0 is.0.1) is.0.2 is.1), is.0)

-- ---- once it is open

-- the file opens with what is new, and with nothing else
abbrev pub HasNew : Over → Option NewBase → List ℕ → Type 0
HasNew v None = HasRecord v.slots v.laid.blobs v.laid.chain
HasNew v (Some base) = HasBase v.slots v.laid.blobs v.laid.chain base.sequence base.log

pub next_image : Rest → (v : Over) (o : Option NewBase) → IsOver v o → (session : ℕ) (used : Used)
    → IsFoundInOrder v.base.core v.given (Commit session v.change used ∷ v.h) (sealed_slots o v.laid.chain v.slots).current.root.log (new_found v o)
    → (old new : List ℕ) → Image v old → KeepsPages (its_pages v o) old new → HasNew v o new
    → IsImage v.base.core v.given v.db (Commit session v.change used ∷ v.h) (sealed_slots o v.laid.chain v.slots) None (new_found v o) new
next_image rest v None x session used order old new image keeps is =
    rest.next v.base v.given v.db v.h v.slots (sealed_slots None v.laid.chain v.slots) v.doubt v.found (new_found v None) (slot_page None v.slots) (own_pages None v.laid.blobs v.laid.chain) old new
    session v.change used x.store x.may image keeps order (stands_new rest v None x old new image keeps is.1) is.0
next_image rest v (Some base) x session used order old new image keeps is =
    rest.next v.base v.given v.db v.h v.slots (sealed_slots (Some base) v.laid.chain v.slots) v.doubt v.found (new_found v (Some base)) (slot_page (Some base) v.slots)
    (own_pages (Some base) v.laid.blobs v.laid.chain) old new
    session v.change used x.store x.may image keeps order (stands_new rest v (Some base) x old new image keeps is.1) is.0

-- it stands for the database after the change
pub stands_next : Rest → (v : Over) (o : Option NewBase) → IsOver v o → (old new : List ℕ) → Image v old → KeepsPages (its_pages v o) old new → HasNew v o new → Stands new (after (now v) v.change)
stands_next rest v None x old new image keeps is = opens_new rest v None x old new image keeps is
stands_next rest v (Some base) x old new image keeps is =
    (rest.own new (new_slots v (Some base)) (after (now v) v.change) (new_found v (Some base)) (stands_new rest v (Some base) x old new image keeps is.1) is.0).1

-- ---- where it stopped

-- what the stage tells of an image
abbrev pub StoppedIn : Stopped → Over → Option NewBase → (List ℕ → Type 0) → List ℕ → Type 0
StoppedIn stages.Closing v o before c = IsUntouched (slot_page o v.slots) v.slots before c
StoppedIn stages.Filling v o before c = IsUnopened (its_pages v o) v.slots before c
StoppedIn stages.Opening v o before c = HoldsAll c v.laid.blobs v.laid.chain
    × (IsUnopened (its_pages v o) v.slots before c ⊎ IsOpened (its_pages v o) (NewIn o v.slots v.laid.blobs v.laid.chain) before c)

pub stopped_image : Rest → (v : Over) (o : Option NewBase) → IsOver v o → (before : List ℕ → Type 0) → ((image : List ℕ) → before image → Image v image)
    → (stage : Stopped) (later : Slots) (c : List ℕ) → StoppedIn stage v o before c
    → IsImage v.base.core v.given v.db v.h (stopped_slots stage o v.laid.chain v.slots later) (doubt_after stage v.doubt v.change) v.found c
stopped_image rest v o x before images stages.Closing later c is = untouched_on rest v o x is.0.0 c (images is.0.0 is.0.1) is.0.2 is.1
stopped_image rest v None x before images stages.Filling later c is =
    unopened_on rest v None x (stopped_slots stages.Filling None v.laid.chain v.slots later) is.0.0 c (images is.0.0 is.0.1) is.0.2 is.1 refl
stopped_image rest v (Some base) x before images stages.Filling later c is =
    unopened_on rest v (Some base) x (stopped_slots stages.Filling (Some base) v.laid.chain v.slots later) is.0.0 c (images is.0.0 is.0.1) is.0.2 is.1 refl
stopped_image rest v None x before images stages.Opening later c is = ⊎_elim
    (λ (un : IsUnopened (its_pages v None) v.slots before c). by_old un.0.0 (images un.0.0 un.0.1) un.0.2 (inl un.1))
    (λ (op : IsOpened (its_pages v None) (NewIn None v.slots v.laid.blobs v.laid.chain) before c). by_old op.0.0 (images op.0.0 op.0.1) op.0.2 (inr op.1.0)) is.1
  where
    by_old : (old : List ℕ) → Image v old → KeepsPages (its_pages v None) old c
        → OpensAs v.slots.current v.slots.records c ⊎ OpensAs v.slots.current (v.slots.records ++ record_of v.laid.chain ∷ []) c
        → IsImage v.base.core v.given v.db v.h (stopped_slots stages.Opening None v.laid.chain v.slots later) (Some v.change) v.found c
    by_old old image keeps opens =
        rest.opening_records v.base v.given v.db v.h v.slots (stopped_slots stages.Opening None v.laid.chain v.slots later) v.doubt v.found (new_found v None) (slot_page None v.slots)
        (own_pages None v.laid.blobs v.laid.chain) old c v.change (record_of v.laid.chain) x.store x.may image keeps x.target refl
        (stands_new rest v None x old c image keeps is.0) opens
stopped_image rest v (Some base) x before images stages.Opening later c is = ⊎_elim
    (λ (un : IsUnopened (its_pages v (Some base)) v.slots before c). by_old un.0.0 (images un.0.0 un.0.1) un.0.2 (inl un.1))
    (λ (op : IsOpened (its_pages v (Some base)) (NewIn (Some base) v.slots v.laid.blobs v.laid.chain) before c). by_old op.0.0 (images op.0.0 op.0.1) op.0.2 (inr op.1.0)) is.1
  where
    by_old : (old : List ℕ) → Image v old → KeepsPages (its_pages v (Some base)) old c
        → OpensAs v.slots.current v.slots.records c ⊎ OpensAsRoot (roots.Opening (root_of base.sequence v.laid.chain base.log)) (other v.slots.current.side) c
        → IsImage v.base.core v.given v.db v.h (stopped_slots stages.Opening (Some base) v.laid.chain v.slots later) (Some v.change) v.found c
    by_old old image keeps opens =
        rest.opening_roots v.base v.given v.db v.h v.slots (stopped_slots stages.Opening (Some base) v.laid.chain v.slots later) v.doubt v.found (new_found v (Some base))
        (slot_page (Some base) v.slots) (own_pages (Some base) v.laid.blobs v.laid.chain) old c v.change (root_of base.sequence v.laid.chain base.log) x.store x.may image keeps x.target refl
        (stands_new rest v (Some base) x old c image keeps is.0) opens
