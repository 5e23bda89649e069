-- Where nothing is being opened, a file opens as the current root.
use Rattle.std.proofs.Common.{⊎_elim, ℕ, List}
use Rattle.page_chain.specs.Places.{other}
use Rattle.page_chain.specs.Opens.{OpensAs}
use Rattle.page_chain.specs.declared.slots.layout.sides.Side.{Side}
use Rattle.page_chain.specs.declared.slots.layout.roots.OpenRoot.{OpenRoot}
use Rattle.page_chain.specs.declared.slots.layout.logs.RecordAt.{RecordAt}
use Rattle.page_chain.specs.Standing.{IsStillRoot, IsStillEntry, OpensAsRoot, OpensWith, MayOpen}
use Rattle.page_chain.specs.declared.slots.slots.slots.Slots.{Slots}
use Rattle.page_chain.specs.declared.slots.slots.slots.RootSlot.{RootSlot}
use Rattle.page_chain.specs.declared.slots.slots.slots.RootSlot.TheVariants as roots
use Rattle.page_chain.specs.declared.slots.slots.slots.NextEntry.{NextEntry}
use Rattle.page_chain.specs.declared.slots.slots.slots.NextEntry.TheVariants as entries

pub no_root : (known : RootSlot) (side : Side) (file : List ℕ) → IsStillRoot known → OpensAsRoot known side file → ⊥
no_root roots.Closed side file still opens = opens
no_root roots.Older side file still opens = opens
no_root (roots.Written root) side file still opens = opens
no_root (roots.Opening root) side file still opens = still

pub no_record : (known : NextEntry) (current : OpenRoot) (records : List RecordAt) (file : List ℕ) → IsStillEntry known → OpensWith known current records file → ⊥
no_record entries.Closed current records file still opens = opens
no_record (entries.Written entry) current records file still opens = opens
no_record (entries.Opening entry) current records file still opens = still

pub settled : (slots : Slots) (file : List ℕ) → IsStillRoot slots.other → IsStillEntry slots.next → MayOpen slots file → OpensAs slots.current slots.records file
settled slots file root entry may = ⊎_elim (λ opens. opens)
    (λ new. absurd (⊎_elim (λ opens. no_root slots.other (other slots.current.side) file root opens) (λ opens. no_record slots.next slots.current slots.records file entry opens) new)) may
