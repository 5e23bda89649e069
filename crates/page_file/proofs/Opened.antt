-- A slot that was opened, or may be open.
use Rattle.std.proofs.Common.{◌≡◌, ℕ, false, List, [], ◌∷◌, ◌++◌, ◌∙◌, ap, subst}
use Rattle.page_chain.specs.Places.{other}
use Rattle.page_chain.specs.Opens.{OpensAs}
use Rattle.page_chain.specs.declared.slots.layout.sides.Format.TheVariants.{Two}
use Rattle.page_chain.specs.declared.slots.layout.roots.Root.{Root}
use Rattle.page_chain.specs.declared.slots.layout.logs.RecordAt.{RecordAt}
use Rattle.page_chain.specs.Standing.{root_in, IsSound}
use Rattle.page_chain.specs.Steps.{with_target, with_other, with_next, with_root, with_record}
use Rattle.page_chain.specs.declared.slots.slots.slots.Slots.{Slots}
use Rattle.page_chain.specs.declared.slots.slots.slots.RootSlot.{RootSlot}
use Rattle.page_chain.specs.declared.slots.slots.slots.RootSlot.TheVariants as roots
use Rattle.page_chain.specs.declared.slots.slots.slots.NextEntry.{NextEntry}
use Rattle.page_chain.specs.declared.slots.slots.slots.NextEntry.TheVariants as entries
use Rattle.page_chain.specs.declared.slots.slots.slots.Target.{Target}
use Rattle.page_chain.specs.declared.slots.slots.slots.Target.TheVariants as targets
use Rattle.page_chain.proofs.Opening.{may_open}
use Rattle.page_chain.proofs.Settling.{settled}

entered : (slots later : Slots) (at : RecordAt) → slots.target ≡ targets.Record → slots.next ≡ entries.Written at → later ≡ with_target slots.target slots → later ≡ with_record at slots
entered slots later at target next is = is ∙ ap (λ (t : Target). with_target t slots) target ∙ ap (λ (n : NextEntry). with_next n slots) next

opens : (later : Slots) (now c : List ℕ) (may : List ℕ → Type 0) → later.doubtful ≡ false → IsSound later now may → may c → OpensAs later.current later.records c
opens later now c may sure sound left = settled later c (sound.sure sure).0 (sound.sure sure).1 (may_open later c (sound.images c left))

rooted : (slots later : Slots) (root : Root) → slots.target ≡ targets.Root → slots.other ≡ roots.Written root → later ≡ with_target slots.target slots → later ≡ with_root root slots
rooted slots later root target other_ is = is ∙ ap (λ (t : Target). with_target t slots) target ∙ ap (λ (k : RootSlot). with_other k slots) other_

-- the entry was opened
pub record_open : (slots later : Slots) (at : RecordAt) (seen s : List ℕ) (before now : List ℕ → Type 0) → slots.next ≡ entries.Written at → slots.doubtful ≡ false → slots.target ≡ targets.Record → later ≡ with_target slots.target slots
    → IsSound slots seen before → IsSound later s now → (c : List ℕ) → now c → OpensAs slots.current (slots.records ++ at ∷ []) c
record_open slots later at seen s before now next sure target is was sound c left =
    let record_in : later ≡ with_record at slots = entered slots later at target next is in
    subst (λ (x : Slots). OpensAs x.current x.records c) record_in (opens later s c now (ap (λ (x : Slots). x.doubtful) record_in ∙ sure) sound left)

-- the root was opened
pub root_open : (slots later : Slots) (root : Root) (seen s : List ℕ) (before now : List ℕ → Type 0) → slots.other ≡ roots.Written root → slots.target ≡ targets.Root → later ≡ with_target slots.target slots
    → IsSound slots seen before → IsSound later s now → (c : List ℕ) → now c → OpensAs (root_in Two (other slots.current.side) root) [] c
root_open slots later root seen s before now other_ target is was sound c left =
    let root_in_ : later ≡ with_root root slots = rooted slots later root target other_ is in
    subst (λ (x : Slots). OpensAs x.current x.records c) root_in_ (opens later s c now (ap (λ (x : Slots). x.doubtful) root_in_) sound left)
