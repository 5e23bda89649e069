-- A sync alone.
use Rattle.std.proofs.Common.{◌≡◌, ℕ, List, Bool, true, false, Option, Some, None, IfSome, refl, sym, subst}
use Rattle.page_chain.specs.Places.{SameBut}
use Rattle.page_chain.specs.Standing.{IsSound, IsShut, IsShutRoot, IsShutEntry, IsAlone, IsStillRoot, IsStillEntry, filled_gate, MayOpen}
use Rattle.page_chain.specs.Steps.{shut_root, shut_entry, shut}
use Rattle.page_chain.specs.declared.slots.slots.slots.Slots.{Slots}
use Rattle.page_chain.specs.declared.slots.slots.slots.RootSlot.{RootSlot}
use Rattle.page_chain.specs.declared.slots.slots.slots.RootSlot.TheVariants as roots
use Rattle.page_chain.specs.declared.slots.slots.slots.NextEntry.{NextEntry}
use Rattle.page_chain.specs.declared.slots.slots.slots.NextEntry.TheVariants as entries
use Rattle.page_chain.specs.declared.slots.slots.slots.Target.{Target}
use Rattle.page_chain.specs.declared.slots.slots.slots.Target.TheVariants as targets
use Rattle.page_chain.proofs.Opening.{may_open}
use Rattle.page_chain.proofs.RootCommits.{any_doubt, not_both}

fewer : (o : Option ℕ) (seen : List ℕ) (before now : List ℕ → Type 0) → ((c : List ℕ) → now c → before c) → IfSome o (λ at. (c : List ℕ) → before c → SameBut at 1 seen c) → IfSome o (λ at. (c : List ℕ) → now c → SameBut at 1 seen c)
fewer None seen before now less filled = tt
fewer (Some at) seen before now less filled = λ c left. filled c (less c left)

-- a slot that is shut stays as it is
root_as_it_is : (known : RootSlot) → IsShutRoot known → shut_root known ≡ known
root_as_it_is roots.Closed shut_ = refl
root_as_it_is roots.Older shut_ = absurd shut_
root_as_it_is (roots.Written root) shut_ = refl
root_as_it_is (roots.Opening root) shut_ = absurd shut_

entry_as_it_is : (known : NextEntry) → IsShutEntry known → shut_entry known ≡ known
entry_as_it_is entries.Closed shut_ = refl
entry_as_it_is (entries.Written entry) shut_ = refl
entry_as_it_is (entries.Opening entry) shut_ = absurd shut_

still_root : (known : RootSlot) → IsShutRoot known → IsStillRoot known
still_root roots.Closed shut_ = tt
still_root roots.Older shut_ = tt
still_root (roots.Written root) shut_ = tt
still_root (roots.Opening root) shut_ = absurd shut_

still_next : (known : NextEntry) → IsShutEntry known → IsStillEntry known
still_next entries.Closed shut_ = tt
still_next (entries.Written entry) shut_ = tt
still_next (entries.Opening entry) shut_ = absurd shut_

-- nothing but the doubt changes
doubt_is : (slots : Slots) (doubt : Bool) (seen : List ℕ) (before now : List ℕ → Type 0) → ((c : List ℕ) → now c → before c) → (doubt ≡ false → IsStillRoot slots.other × IsStillEntry slots.next) → IsSound slots seen before
    → IsSound (record slots { doubtful = doubt }) seen now
doubt_is slots doubt seen before now less still sound = record {
  images = λ c left. any_doubt slots doubt c (sound.images c (less c left));
  zeroed = sound.zeroed;
  alone = same_alone slots.target sound.alone;
  sure = still;
  filled = same_filled slots.target (fewer (filled_gate slots.target slots) seen before now less sound.filled);
}
  where
    same_alone : (t : Target) → IsAlone t slots → IsAlone t (record slots { doubtful = doubt })
    same_alone targets.Root alone = alone
    same_alone targets.Record alone = alone

    same_filled : (t : Target) → IfSome (filled_gate t slots) (λ at. (c : List ℕ) → now c → SameBut at 1 seen c) → IfSome (filled_gate t (record slots { doubtful = doubt })) (λ at. (c : List ℕ) → now c → SameBut at 1 seen c)
    same_filled targets.Root filled = filled
    same_filled targets.Record filled = filled

pub settle_failed : (slots : Slots) (seen : List ℕ) (before now : List ℕ → Type 0) → ((c : List ℕ) → now c → before c) → IsSound slots seen before → IsSound (record slots { doubtful = true }) seen now
settle_failed slots seen before now less sound = doubt_is slots true seen before now less (λ is. not_both is) sound

pub settle_done : (slots : Slots) (seen : List ℕ) (before now : List ℕ → Type 0) → IsShut slots.target slots → ((c : List ℕ) → now c → before c) → IsSound slots seen before → IsSound (shut slots.target slots) seen now
settle_done slots seen before now shut_ less sound = by_target slots.target shut_ sound.alone
  where
    by_target : (t : Target) → IsShut t slots → IsAlone t slots → IsSound (shut t slots) seen now
    by_target targets.Root is alone = subst (λ (k : RootSlot). IsSound (record slots { other = k; doubtful = false }) seen now) (sym (root_as_it_is slots.other is)) (doubt_is slots false seen before now less (λ _. (still_root slots.other is, alone)) sound)
    by_target targets.Record is alone = subst (λ (k : NextEntry). IsSound (record slots { next = k; doubtful = false }) seen now) (sym (entry_as_it_is slots.next is)) (doubt_is slots false seen before now less (λ _. (alone, still_next slots.next is)) sound)

pub settle_opens : (slots : Slots) (seen : List ℕ) (before : List ℕ → Type 0) → IsSound slots seen before → (c : List ℕ) → before c → MayOpen slots c
settle_opens slots seen before sound c left = may_open slots c (sound.images c left)
