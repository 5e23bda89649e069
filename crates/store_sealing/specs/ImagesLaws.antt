-- What becomes of the images of a store by the writes of a commit.
use Rattle.std.specs.Prelude.{◌≡◌, ◌⊎◌, ℕ, ◌+◌, List, [], ◌∷◌, ◌++◌, length, Option, None, Some, IfSome, is_some, true}
use Rattle.afl_outside.specs.Disk.{LeavesOnly, Moment}
use Rattle.array_geom.specs.declared.chunk.Changed.{Changed}
use Rattle.page_chain.specs.Places.{other, KeepsPages}
use Rattle.page_chain.specs.Opens.{OpensAs}
use Rattle.page_chain.specs.declared.slots.layout.logs.RecordAt.{RecordAt}
use Rattle.page_chain.specs.declared.slots.layout.roots.Root.{Root}
use Rattle.page_chain.specs.Standing.{MayOpen, OpensAsRoot}
use Rattle.page_chain.specs.Steps.{doubted}
use Rattle.page_chain.specs.declared.slots.slots.slots.Slots.{Slots}
use Rattle.page_chain.specs.declared.slots.slots.slots.NextEntry.TheVariants as entries
use Rattle.page_chain.specs.declared.slots.slots.slots.RootSlot.TheVariants as roots
use Rattle.page_chain.specs.declared.slots.slots.slots.Target.TheVariants as targets
use Rattle.chunk_map.specs.declared.directory.Directory.{Directory}
use Rattle.plan_changes.specs.declared.change.Change.{Change}
use Rattle.plan_changes.specs.Databases.{Database, after}
use Rattle.file_meaning.specs.Opening.{sequence_of}
use Rattle.file_meaning.specs.Standing.{Stands}
use Rattle.file_meaning.specs.declared.meaning.found.Found.{Found}
use Rattle.event_core.specs.declared.entry.Entry.TheVariants.{Commit}
use Rattle.event_core.specs.declared.entry.Used.{Used}
use Rattle.event_core.specs.Bases.{Base}
use Rattle.event_core.specs.Cells.{at}
use Rattle.event_core.specs.History.{History}
use Rattle.file_meaning.specs.Next.{with_base, with_record}
use Rattle.file_meaning.specs.Premises.{StandsBy, slots_of, slots_with}
use Rattle.page_file.specs.Commits.{HoldsAll, base_pages, commit_pages, record_of, root_of}
use Rattle.page_file.specs.Moments.{HasRecord, MayBe, MayHaveBase, cleared}
use Rattle.store_state.specs.Laid.{Laid}
use Rattle.store_state.specs.LaidPremises.{IsCommit, IsLaidBase, IsLaidRecord, made_of}
use Rattle.store_ledger.specs.declared.note.Note.{Note}
use Rattle.store_versions.specs.Versions.{Directories, versions_at}
use Rattle.store_state.specs.Cells.{IsImage, StandsByOpening}
use Rattle.store_state.specs.Inner.Keeping.{LieIn, is_opening}
use Rattle.store_state.specs.Standings.{HaveStood, IsAttempt, StandsFor, StoodFor, WasTried, current_slots}
use Rattle.store_sealing.specs.Premises.{IsStore, MayBeWritten, IsFoundInOrder}

-- ---- what an image stands for

-- a file that stands for a database by its slots, and for the one in doubt by what may stand open in them, stands for one of these, whichever
-- it opens as
abbrev pub ImagesStand : Type 0
ImagesStand = (image : List ℕ) (slots : Slots) (db : Database) (doubt : Option Change) (found : Found) → is_opening slots ≡ is_some doubt
    → StandsBy image (current_slots slots) db found → IfSome doubt (λ change. StandsByOpening image slots (after db change))
    → MayOpen slots image → StandsFor db doubt image

-- where what is found has the versions in order, each lies in the file with the rows that the database has of it
abbrev pub FoundVersionsLie : Type 0
FoundVersionsLie = (base : Base) (given : Directories) (db : Database) (h : History) (slots : Slots) (found : Found) (file : List ℕ)
    → IsFoundInOrder base.core given h slots.current.root.log found → StandsBy file (current_slots slots) (at db h) found
    → LieIn file (at db h) (versions_at base.core given h)

-- ---- before the slot of a commit is opened

-- WHILE THE SLOT IS BEING CLOSED: an image of which its page alone was written, and which opens as the slots say, is one as before
abbrev pub UntouchedImages : Type 0
UntouchedImages = (base : Base) (given : Directories) (db : Database) (h : History) (slots : Slots) (doubt : Option Change) (found : Found)
    (page : ℕ) (old new : List ℕ) → IsStore base given db h slots found → MayBeWritten base.core h slots page [] → is_opening slots ≡ is_some doubt
    → IsImage base.core given db h slots doubt found old → KeepsPages (page ∷ []) old new → MayOpen slots new
    → IsImage base.core given db h (doubted slots) doubt found new

-- ONCE THE SLOT IS CLOSED: an image of which the commit's pages were written too, and which opens as before, is one as before with no doubt
abbrev pub UnopenedImages : Type 0
UnopenedImages = (base : Base) (given : Directories) (db : Database) (h : History) (slots later : Slots) (doubt : Option Change) (found : Found)
    (page : ℕ) (pages old new : List ℕ) → IsStore base given db h slots found → MayBeWritten base.core h slots page pages
    → IsImage base.core given db h slots doubt found old → KeepsPages (page ∷ pages) old new → OpensAs slots.current slots.records new
    → current_slots later ≡ current_slots slots → IsImage base.core given db h later None found new

-- ---- while the slot of a commit may stand open

-- WITH A RECORD THAT MAY STAND OPEN: an image that opens as before or with it, and stands with it for the database after the change, is one
-- that has the change in doubt
abbrev pub OpeningRecords : Type 0
OpeningRecords = (base : Base) (given : Directories) (db : Database) (h : History) (slots later : Slots) (doubt : Option Change) (found next : Found)
    (page : ℕ) (pages old new : List ℕ) (change : Change) (place : RecordAt) → IsStore base given db h slots found
    → MayBeWritten base.core h slots page pages → IsImage base.core given db h slots doubt found old → KeepsPages (page ∷ pages) old new
    → slots.target ≡ targets.Record
    → later ≡ record (cleared slots) { next = entries.Opening place; doubtful = true; zeroed = later.zeroed }
    → StandsBy new (slots_with (current_slots slots) place) (after (at db h) change) next
    → OpensAs slots.current slots.records new ⊎ OpensAs slots.current (slots.records ++ place ∷ []) new
    → IsImage base.core given db h later (Some change) found new

-- WITH A ROOT THAT MAY STAND OPEN
abbrev pub OpeningRoots : Type 0
OpeningRoots = (base : Base) (given : Directories) (db : Database) (h : History) (slots later : Slots) (doubt : Option Change) (found next : Found)
    (page : ℕ) (pages old new : List ℕ) (change : Change) (root : Root) → IsStore base given db h slots found
    → MayBeWritten base.core h slots page pages → IsImage base.core given db h slots doubt found old → KeepsPages (page ∷ pages) old new
    → slots.target ≡ targets.Root
    → later ≡ record (cleared slots) { other = roots.Opening root; doubtful = true; zeroed = later.zeroed }
    → StandsBy new (slots_of (other slots.current.side) root) (after (at db h) change) next
    → OpensAs slots.current slots.records new ⊎ OpensAsRoot (roots.Opening root) (other slots.current.side) new
    → IsImage base.core given db h later (Some change) found new

-- ---- once it is open

-- ONCE THE SLOT IS OPEN: an image that opens as the next slots, and stands by them for the database after the change, is one after the commit
abbrev pub NextImages : Type 0
NextImages = (base : Base) (given : Directories) (db : Database) (h : History) (slots later : Slots) (doubt : Option Change) (found next : Found)
    (page : ℕ) (pages old new : List ℕ) (session : ℕ) (change : Change) (used : Used) → IsStore base given db h slots found
    → MayBeWritten base.core h slots page pages → IsImage base.core given db h slots doubt found old → KeepsPages (page ∷ pages) old new
    → IsFoundInOrder base.core given (Commit session change used ∷ h) later.current.root.log next
    → StandsBy new (current_slots later) (after (at db h) change) next → OpensAs later.current later.records new
    → IsImage base.core given db (Commit session change used ∷ h) later None next new

-- ---- what is laid

-- with what is laid of a record an image stands for the database after the change by the slots with it
abbrev pub LaidRecordsStand : Type 0
LaidRecordsStand = (base : Base) (given : Directories) (db : Database) (h : History) (slots : Slots) (doubt : Option Change) (found : Found)
    (any old new : List ℕ) (change : Change) (changed : Option Changed) (newest : Directory) (catalogue pages : List ℕ) (laid : Laid)
    → IsCommit any (current_slots slots) (at db h) found change changed newest
    → IsLaidRecord (current_slots slots) found change changed newest catalogue pages laid → IsImage base.core given db h slots doubt found old
    → KeepsPages (slots.current.root.log ∷ commit_pages laid.blobs laid.chain) old new → HoldsAll new laid.blobs laid.chain
    → StandsBy new (slots_with (current_slots slots) (record_of laid.chain)) (after (at db h) change)
    (with_record found laid.chain.pages change (made_of laid))

-- with what is laid of a new base so it does by its root
abbrev pub LaidBasesStand : Type 0
LaidBasesStand = (base : Base) (given : Directories) (db : Database) (h : History) (slots : Slots) (doubt : Option Change) (found : Found)
    (any old new : List ℕ) (change : Change) (changed : Option Changed) (newest : Directory) (pages : List ℕ) (log : ℕ) (laid : Laid)
    → IsCommit any (current_slots slots) (at db h) found change changed newest
    → IsLaidBase (current_slots slots) found change changed newest pages log laid → IsImage base.core given db h slots doubt found old
    → KeepsPages (0 ∷ base_pages laid.blobs laid.chain log) old new → HoldsAll new laid.blobs laid.chain
    → StandsBy new (slots_of (other slots.current.side) (root_of (sequence_of (current_slots slots) + 1) laid.chain log)) (after (at db h) change)
    (with_base found laid.chain.pages change (made_of laid))

-- ---- at any moment

-- AN IMAGE OF ANY MOMENT OF A COMMIT, which stands for the database after the change where it has what is new, stands for the whole history,
-- or for that and one change more that was tried: the one in doubt, or the commit's
abbrev pub ImagesHaveStood : Type 0
ImagesHaveStood = (base : Base) (given : Directories) (db : Database) (notes : List Note) (h : History) (slots : Slots) (doubt : Option Change) (found : Found)
    (page : ℕ) (pages : List ℕ) (change : Change) (image : List ℕ) → IsStore base given db h slots found
    → MayBeWritten base.core h slots page pages → is_opening slots ≡ is_some doubt → IfSome doubt (IsAttempt db notes h) → IsAttempt db notes h change
    → MayBe page pages slots (λ c. Stands c (after (at db h) change)) (IsImage base.core given db h slots doubt found) image
    → StoodFor db notes (length h) h image

-- so does one of a commit of what is laid of a record
abbrev pub RecordsHaveStood : Type 0
RecordsHaveStood = (base : Base) (given : Directories) (db : Database) (notes : List Note) (h : History) (slots : Slots) (doubt : Option Change) (found : Found)
    (any : List ℕ) (change : Change) (changed : Option Changed) (newest : Directory) (catalogue pages : List ℕ) (laid : Laid) (image : List ℕ)
    → IsStore base given db h slots found → MayBeWritten base.core h slots slots.current.root.log (commit_pages laid.blobs laid.chain)
    → is_opening slots ≡ is_some doubt → IfSome doubt (IsAttempt db notes h) → WasTried notes h change
    → IsCommit any (current_slots slots) (at db h) found change changed newest
    → IsLaidRecord (current_slots slots) found change changed newest catalogue pages laid
    → MayBe slots.current.root.log (commit_pages laid.blobs laid.chain) slots (HasRecord slots laid.blobs laid.chain)
    (IsImage base.core given db h slots doubt found) image
    → StoodFor db notes (length h) h image

-- and of a new base
abbrev pub BasesHaveStood : Type 0
BasesHaveStood = (base : Base) (given : Directories) (db : Database) (notes : List Note) (h : History) (slots : Slots) (doubt : Option Change) (found : Found)
    (any : List ℕ) (change : Change) (changed : Option Changed) (newest : Directory) (pages : List ℕ) (log : ℕ) (laid : Laid) (image : List ℕ)
    → IsStore base given db h slots found → MayBeWritten base.core h slots 0 (base_pages laid.blobs laid.chain log)
    → is_opening slots ≡ is_some doubt → IfSome doubt (IsAttempt db notes h) → WasTried notes h change
    → IsCommit any (current_slots slots) (at db h) found change changed newest
    → IsLaidBase (current_slots slots) found change changed newest pages log laid
    → MayBe 0 (base_pages laid.blobs laid.chain log) slots (MayHaveBase slots laid.blobs laid.chain (sequence_of (current_slots slots) + 1) log)
    (IsImage base.core given db h slots doubt found) image
    → StoodFor db notes (length h) h image

-- WHAT HAS STOOD GOES ON TO, where each image of the moments since then stands for the whole history, or for that and one change more
abbrev pub HaveStoodOver : Moment → Moment → Type 0
HaveStoodOver old new = (db : Database) (notes : List Note) (h : History) (least since : ℕ)
    → LeavesOnly old.state.moment new.state.moment old.left_since new.left_since (StoodFor db notes (length h) h)
    → HaveStood old db notes h least since → HaveStood new db notes h least since

-- from the moment on at which each image stands for the whole history, no image is of a shorter one
abbrev pub HaveStoodNow : Moment → Type 0
HaveStoodNow now = (db : Database) (notes : List Note) (h : History) → ((image : List ℕ) → now.may_leave image → Stands image (at db h))
    → HaveStood now db notes h (length h) now.state.moment
