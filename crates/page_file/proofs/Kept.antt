-- A page that was written stands there after the log entry was.
use Rattle.std.proofs.Common.{◌≡◌, ◌<◌, ℕ, Bool, List, length, slice_index, IsTrue, Option, Some, None, IfSome, sym, ◌∙◌, ap, subst}
use Rattle.page_chain.proofs.Moments.{seeing}
use Rattle.page_chain.specs.Disk.{DiskState, DiskGoesOn}
use Rattle.page_chain.specs.Places.{IsNone, KeepsPages}
use Rattle.page_chain.specs.declared.slots.layout.roots.Root.{Root}
use Rattle.page_chain.specs.Pages.{page_size}
use Rattle.page_chain.specs.Chains.{HoldsChain}
use Rattle.page_chain.proofs.Kept.{size_is, page_kept}
use Rattle.page_chain.proofs.WriteLemmas.{length-chain_piece}
use Rattle.page_chain.specs.Standing.{IsReady, IsShutRoot, IsSound, IsTarget, KeepsSound}
use Rattle.page_chain.specs.Steps.{emptied_root}
use Rattle.page_chain.specs.declared.slots.slots.slots.RootSlot.{RootSlot}
use Rattle.page_chain.specs.declared.slots.slots.slots.RootSlot.TheVariants as roots
use Rattle.page_chain.specs.declared.slots.slots.slots.Target.{Target}
use Rattle.page_chain.specs.declared.slots.slots.slots.Target.TheVariants as targets
use Rattle.page_chain.specs.declared.slots.slots.slots.Slots.{Slots}

pub at_some : (o : Option (List ℕ)) (x : List ℕ) (P : List ℕ → Type 0) → o ≡ Some x → IfSome o P → P x
at_some None x P is h = absurd (cc is)
at_some (Some y) x P is h = let same : y ≡ x = cc is in subst P same h

-- a chain stands where none of its pages was written
pub chain_on : (written pages bytes now later : List ℕ) → KeepsPages written now later → ((k : ℕ) → k < length pages → IsNone written (slice_index pages k)) → HoldsChain page_size now pages bytes → HoldsChain page_size later pages bytes
chain_on written pages bytes now later keeps none chain k low =
    page_kept written page_size (slice_index pages k) now later size_is keeps (none k low) (ap length (chain k low) ∙ length-chain_piece pages bytes k) ∙ chain k low

-- the root slot is the target, and has what it is to open
pub root_ready : (slots : Slots) (root : Root) → slots.target ≡ targets.Root → slots.other ≡ roots.Written root → slots.zeroed ≡ Some root.log → IsReady slots.target slots
root_ready slots root target other_ zeroed = subst (λ (t : Target). IsReady t slots) (sym target) (root, other_, zeroed)

pub root_there : (slots : Slots) → slots.target ≡ targets.Root → IsTarget slots
root_there slots target is = absurd (cc (target, is))

pub shut_emptied : (known : RootSlot) → IsShutRoot known → IsShutRoot (emptied_root known)
shut_emptied roots.Closed shut_ = tt
shut_emptied roots.Older shut_ = shut_
shut_emptied (roots.Written root) shut_ = tt
shut_emptied (roots.Opening root) shut_ = shut_

-- one call, and then another
pub sound_on : (a b c : Slots) (old mid new : DiskState) (before between now : List ℕ → Type 0) → DiskGoesOn old mid → KeepsSound a b (seeing old before) (seeing mid between) → KeepsSound b c (seeing mid between) (seeing new now)
    → KeepsSound a c (seeing old before) (seeing new now)
sound_on a b c old mid new before between now same first then_ honest = go old.seen (first honest)
  where
    still : IsTrue mid.honest
    still = subst (λ (x : Bool). IsTrue x) (sym same.honest) honest

    go : (o : Option (List ℕ)) → IfSome o (λ seen. IsSound a seen before → (s : List ℕ) × (mid.seen ≡ Some s) × IsSound b s between) → IfSome o (λ seen. IsSound a seen before → (s : List ℕ) × (new.seen ≡ Some s) × IsSound c s now)
    go None h = tt
    go (Some seen) h = λ sound. let m = h sound in at_some mid.seen m.0 (λ x. IsSound b x between → (s : List ℕ) × (new.seen ≡ Some s) × IsSound c s now) m.1 (then_ still) m.2
