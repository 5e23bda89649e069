-- What is known of the slots over the calls of a commit.
use Rattle.std.proofs.Common.{◌≡◌, ◌⊎◌, inl, inr, ⊎_elim, ℕ, Bool, true, false, List, [], ◌∷◌, ◌++◌, Option, refl, sym, ◌∙◌, ap, subst, arith}
use Rattle.afl_outside.specs.Counts.{Rose}
use Rattle.afl_outside.specs.Disk.{DiskState, DiskGoesOn}
use Rattle.page_chain.specs.Places.{other}
use Rattle.page_chain.specs.Opens.{OpensAs}
use Rattle.page_chain.specs.declared.slots.layout.logs.RecordAt.{RecordAt}
use Rattle.page_chain.specs.Standing.{IsClosed, IsReady, IsShut, IsShutRoot, IsShutEntry, IsStillRoot, MayOpen}
use Rattle.page_chain.proofs.Settling.{no_root}
use Rattle.page_chain.specs.Steps.{emptied, emptied_root, emptied_entry, shut, shut_root, shut_entry, ajar, ajar_entry, doubted, with_target, with_next, with_record}
use Rattle.page_chain.specs.declared.slots.slots.slots.Slots.{Slots}
use Rattle.page_chain.specs.declared.slots.slots.slots.RootSlot.{RootSlot}
use Rattle.page_chain.specs.declared.slots.slots.slots.RootSlot.TheVariants as roots
use Rattle.page_chain.specs.declared.slots.slots.slots.NextEntry.{NextEntry}
use Rattle.page_chain.specs.declared.slots.slots.slots.NextEntry.TheVariants as entries
use Rattle.page_chain.specs.declared.slots.slots.slots.Target.{Target}
use Rattle.page_chain.specs.declared.slots.slots.slots.Target.TheVariants as targets

root_emptied : (known : RootSlot) → IsShutRoot known → IsShutRoot (emptied_root known)
root_emptied roots.Closed h = h
root_emptied roots.Older h = h
root_emptied (roots.Written root) h = tt
root_emptied (roots.Opening root) h = h

root_filled : (known : RootSlot) → IsShutRoot (emptied_root known) → IsShutRoot known
root_filled roots.Closed h = h
root_filled roots.Older h = h
root_filled (roots.Written root) h = tt
root_filled (roots.Opening root) h = h

entry_emptied : (known : NextEntry) → IsShutEntry known → IsShutEntry (emptied_entry known)
entry_emptied entries.Closed h = h
entry_emptied (entries.Written entry) h = tt
entry_emptied (entries.Opening entry) h = h

entry_filled : (known : NextEntry) → IsShutEntry (emptied_entry known) → IsShutEntry known
entry_filled entries.Closed h = h
entry_filled (entries.Written entry) h = tt
entry_filled (entries.Opening entry) h = h

-- a slot that is closed stays so
pub closed_on : (old now : Slots) → IsClosed old → emptied now ≡ record (emptied old) { zeroed = now.zeroed } → IsClosed now
closed_on old now closed same = record {
  shut = subst (λ (t : Target). IsShut t now) (sym (ap (λ (s : Slots). s.target) same)) (on old.target closed.shut);
  sure = ap (λ (s : Slots). s.doubtful) same ∙ closed.sure;
}
  where
    on : (t : Target) → IsShut t old → IsShut t now
    on targets.Root h = root_filled now.other (subst IsShutRoot (sym (ap (λ (s : Slots). s.other) same)) (root_emptied old.other h))
    on targets.Record h = entry_filled now.next (subst IsShutEntry (sym (ap (λ (s : Slots). s.next) same)) (entry_emptied old.next h))

root_shut : (known : RootSlot) → IsShutRoot (shut_root known)
root_shut roots.Closed = tt
root_shut roots.Older = tt
root_shut (roots.Written root) = tt
root_shut (roots.Opening root) = tt

entry_shut : (known : NextEntry) → IsShutEntry (shut_entry known)
entry_shut entries.Closed = tt
entry_shut (entries.Written entry) = tt
entry_shut (entries.Opening entry) = tt

shut_closed : (t : Target) (s : Slots) → t ≡ s.target → IsClosed (shut t s)
shut_closed targets.Root s is = record { shut = subst (λ (t : Target). IsShut t (shut targets.Root s)) is (root_shut s.other); sure = refl }
shut_closed targets.Record s is = record { shut = subst (λ (t : Target). IsShut t (shut targets.Record s)) is (entry_shut s.next); sure = refl }

-- a slot that was closed is closed
pub closed_now : (old now : Slots) → now ≡ shut old.target old → IsClosed now
closed_now old now is = subst IsClosed (sym is) (shut_closed old.target old refl)

pub zeroed_only : (old new : Slots) (z : Option ℕ) → new ≡ record (emptied old) { zeroed = z } → new ≡ record (emptied old) { zeroed = new.zeroed }
zeroed_only old new z is = is ∙ ap (λ (y : Option ℕ). record (emptied old) { zeroed = y }) (sym (ap (λ (s : Slots). s.zeroed) is))

-- what was emptied before is emptied still
pub emptied_then : (old mid new : Slots) → emptied mid ≡ record (emptied old) { zeroed = mid.zeroed } → new ≡ record (emptied mid) { zeroed = new.zeroed } → new ≡ record (emptied old) { zeroed = new.zeroed }
emptied_then old mid new same is = is ∙ ap (λ (s : Slots). record s { zeroed = new.zeroed }) same

root_twice : (known : RootSlot) → emptied_root (emptied_root known) ≡ emptied_root known
root_twice roots.Closed = refl
root_twice roots.Older = refl
root_twice (roots.Written root) = refl
root_twice (roots.Opening root) = refl

entry_twice : (known : NextEntry) → emptied_entry (emptied_entry known) ≡ emptied_entry known
entry_twice entries.Closed = refl
entry_twice (entries.Written entry) = refl
entry_twice (entries.Opening entry) = refl

emptied_twice : (s : Slots) (z : Option ℕ) → emptied (record (emptied s) { zeroed = z }) ≡ record (emptied s) { zeroed = z }
emptied_twice s z = ap (λ (r : RootSlot). record s { other = r; next = emptied_entry (emptied_entry s.next); zeroed = z }) (root_twice s.other)
    ∙ ap (λ (n : NextEntry). record s { other = emptied_root s.other; next = n; zeroed = z }) (entry_twice s.next)

pub emptied_again : (old mid new : Slots) → emptied mid ≡ record (emptied old) { zeroed = mid.zeroed } → new ≡ record (emptied mid) { zeroed = new.zeroed } → emptied new ≡ record (emptied old) { zeroed = new.zeroed }
emptied_again old mid new same is = ap (λ (s : Slots). emptied s) (emptied_then old mid new same is) ∙ emptied_twice old new.zeroed

-- a later call has its cause
pub cause_on : (a b c : DiskState) → DiskGoesOn a b → (Rose b.faults c.faults ⊎ Rose b.wants c.wants) → Rose a.faults c.faults ⊎ Rose a.wants c.wants
cause_on a b c same cause = ⊎_elim (λ h. inl (omega (arith, same.later, h))) (λ h. inr (omega (arith, same.wants_later, h))) cause

pub pair_on : (F : List ℕ → List ℕ → Type 0) (p q b d : List ℕ) → p ≡ q → b ≡ d → F p b → F q d
pair_on F p q b d e f h = subst (F q) f (subst (λ (x : List ℕ). F x b) e h)

-- the slots once pages were written, and then the entry
pub entry_ready : (old mid : Slots) → IsClosed old → old.target ≡ targets.Record → mid ≡ record (emptied old) { zeroed = mid.zeroed } → IsShutEntry mid.next
entry_ready old mid closed target is = subst IsShutEntry (sym (ap (λ (s : Slots). s.next) is)) (entry_emptied old.next (subst (λ (t : Target). IsShut t old) target closed.shut))

pub entry_written : (old mid new : Slots) (n m : NextEntry) → mid ≡ record (emptied old) { zeroed = mid.zeroed } → new ≡ record mid { next = n } → n ≡ m → new ≡ record (emptied old) { next = m; zeroed = new.zeroed }
entry_written old mid new n m is then_ e = then_ ∙ ap (λ (s : Slots). record s { next = n }) is ∙ ap (λ (k : NextEntry). record (emptied old) { next = k; zeroed = mid.zeroed }) e
    ∙ ap (λ (z : Option ℕ). record (emptied old) { next = m; zeroed = z }) (sym (ap (λ (s : Slots). s.zeroed) then_))

pub entry_unwritten : (old mid new : Slots) (d : Bool) → mid ≡ record (emptied old) { zeroed = mid.zeroed } → new ≡ record mid { next = entries.Closed; doubtful = d }
    → new ≡ record (emptied old) { next = entries.Closed; doubtful = new.doubtful; zeroed = new.zeroed }
entry_unwritten old mid new d is then_ = then_ ∙ ap (λ (s : Slots). record s { next = entries.Closed; doubtful = d }) is
    ∙ ap (λ (b : Bool). record (emptied old) { next = entries.Closed; doubtful = b; zeroed = mid.zeroed }) (sym (ap (λ (s : Slots). s.doubtful) then_))
    ∙ ap (λ (z : Option ℕ). record (emptied old) { next = entries.Closed; doubtful = new.doubtful; zeroed = z }) (sym (ap (λ (s : Slots). s.zeroed) then_))

entry_closed : (known : NextEntry) → IsShutEntry known → emptied_entry known ≡ entries.Closed
entry_closed entries.Closed h = refl
entry_closed (entries.Written entry) h = refl
entry_closed (entries.Opening entry) h = absurd h

pub entry_unfilled : (old mid : Slots) → IsClosed old → old.target ≡ targets.Record → mid ≡ record (emptied old) { zeroed = mid.zeroed } → mid ≡ record (emptied old) { next = entries.Closed; doubtful = mid.doubtful; zeroed = mid.zeroed }
entry_unfilled old mid closed target is = is ∙ ap (λ (n : NextEntry). record (emptied old) { next = n; zeroed = mid.zeroed }) (entry_closed old.next (subst (λ (t : Target). IsShut t old) target closed.shut))
    ∙ ap (λ (b : Bool). record (emptied old) { next = entries.Closed; doubtful = b; zeroed = mid.zeroed }) (sym (ap (λ (s : Slots). s.doubtful) is))

-- the entry was closed
pub shut_record : (old mid : Slots) → old.target ≡ targets.Record → mid ≡ shut old.target old → mid ≡ record old { next = shut_entry old.next; doubtful = false }
shut_record old mid target is = is ∙ ap (λ (t : Target). shut t old) target

-- the entry was opened, or may be open
pub entry_opened : (old new : Slots) (at : RecordAt) → old.target ≡ targets.Record → old.next ≡ entries.Written at → new ≡ with_target old.target old → new ≡ with_record at old
entry_opened old new at target next is = is ∙ ap (λ (t : Target). with_target t old) target ∙ ap (λ (n : NextEntry). with_next n old) next

pub entry_ajar : (old new : Slots) (at : RecordAt) → old.target ≡ targets.Record → old.next ≡ entries.Written at → new ≡ doubted (ajar old.target old) → new ≡ record old { next = entries.Opening at; doubtful = true }
entry_ajar old new at target next is = is ∙ ap (λ (t : Target). doubted (ajar t old)) target ∙ ap (λ (n : NextEntry). record old { next = ajar_entry n; doubtful = true }) next

pub ajar_opens : (slots : Slots) (at : RecordAt) (c : List ℕ) → slots.target ≡ targets.Record → slots.next ≡ entries.Written at → IsStillRoot slots.other → MayOpen (ajar slots.target slots) c
    → OpensAs slots.current slots.records c ⊎ OpensAs slots.current (slots.records ++ at ∷ []) c
ajar_opens slots at c target next still opens =
    let may : MayOpen (record slots { next = entries.Opening at }) c = subst (λ (s : Slots). MayOpen s c) (ap (λ (t : Target). ajar t slots) target ∙ ap (λ (n : NextEntry). record slots { next = ajar_entry n }) next) opens in
    ⊎_elim inl (λ new. inr (⊎_elim (λ root. absurd (no_root slots.other (other slots.current.side) c still root)) (λ more. more) new)) may

pub entry_target : (slots : Slots) (at : RecordAt) → slots.target ≡ targets.Record → slots.next ≡ entries.Written at → IsReady slots.target slots
entry_target slots at target next = subst (λ (t : Target). IsReady t slots) (sym target) (at, next)
