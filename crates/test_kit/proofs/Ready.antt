-- What is to be opened is there.
use Rattle.std.proofs.Common.{◌≡◌, ◌≢◌, ℕ, zero, suc, true, false, ◌||◌, if◌then◌else◌, List, [], ◌∷◌, Option, Some, None, sym, ◌∙◌, ap, subst, arith, ne_eqb}
use Rattle.std.specs.Prelude.{nat_eq}
use Rattle.std.specs.List.{list_all}
use Rattle.page_chain.specs.declared.slots.layout.roots.Root.{Root}
use Rattle.page_chain.specs.declared.slots.layout.logs.RecordAt.{RecordAt}
use Rattle.page_chain.specs.Places.{IsNone}
use Rattle.page_chain.specs.Standing.{IsClosed, IsReady, IsShut, IsShutEntry}
use Rattle.page_chain.specs.Steps.{emptied_root, emptied_entry}
use Rattle.page_chain.specs.declared.slots.slots.slots.Slots.{Slots}
use Rattle.page_chain.specs.declared.slots.slots.slots.RootSlot.TheVariants as roots
use Rattle.page_chain.specs.declared.slots.slots.slots.NextEntry.{NextEntry}
use Rattle.page_chain.specs.declared.slots.slots.slots.NextEntry.TheVariants as entries
use Rattle.page_chain.specs.declared.slots.slots.slots.Target.{Target}
use Rattle.page_chain.specs.declared.slots.slots.slots.Target.TheVariants as targets
use Rattle.page_file.specs.Written.{MayWrite, blob_written, pages_written, unwritten, zeroed_by}
use Rattle.page_file.proofs.Kept.{shut_emptied}
use Rattle.test_kit.specs.Committing.{IsLaid}

pub root_ready : (old new : Slots) (root : Root) → new ≡ record old { other = roots.Written root } → old.target ≡ targets.Root → old.zeroed ≡ Some root.log → IsReady new.target new
root_ready old new root is target zeroed = subst (λ (t : Target). IsReady t new) (sym (ap (λ (s : Slots). s.target) is ∙ target)) (root, ap (λ (s : Slots). s.other) is, ap (λ (s : Slots). s.zeroed) is ∙ zeroed)

pub entry_ready : (old new : Slots) (at : RecordAt) → new ≡ record old { next = entries.Written at } → old.target ≡ targets.Record → IsReady new.target new
entry_ready old new at is target = subst (λ (t : Target). IsReady t new) (sym (ap (λ (s : Slots). s.target) is ∙ target)) (at, ap (λ (s : Slots). s.next) is)

-- ---- what was written for the target counts no more, and its gate stays shut

shut_next : (known : NextEntry) → IsShutEntry known → IsShutEntry (emptied_entry known)
shut_next entries.Closed shut_ = tt
shut_next (entries.Written entry) shut_ = tt
shut_next (entries.Opening entry) shut_ = shut_

still_shut : (t : Target) (slots : Slots) (zeroed : Option ℕ) → IsShut t slots
    → IsShut t (record slots { other = emptied_root slots.other; next = emptied_entry slots.next; zeroed = zeroed })
still_shut targets.Root slots zeroed shut_ = shut_emptied slots.other shut_
still_shut targets.Record slots zeroed shut_ = shut_next slots.next shut_

pub still_closed : (old new : Slots) (zeroed : Option ℕ)
    → new ≡ record old { other = emptied_root old.other; next = emptied_entry old.next; zeroed = zeroed } → IsClosed old → IsClosed new
still_closed old new zeroed is closed = subst IsClosed (sym is) (record { shut = still_shut old.target old zeroed closed.shut; sure = closed.sure })

pub still_laid : (old new : Slots) (page log : ℕ) → new ≡ pages_written (page ∷ []) old → IsLaid log old → page ≢ log → IsLaid log new
still_laid old new page log is laid apart = record {
  closed = still_closed old new (unwritten (page ∷ []) old.zeroed) is laid.closed;
  zeroed = ap (λ (s : Slots). s.zeroed) is ∙ ap (unwritten (page ∷ [])) laid.zeroed
      ∙ ap (λ b. if b || false then None else Some log) (ne_eqb page log apart);
}

pub now_laid : (old new : Slots) (log : ℕ) (bytes : List ℕ) → new ≡ blob_written (log ∷ []) bytes old → IsClosed old → list_all (λ byte. nat_eq byte 0) bytes ≡ true
    → IsLaid log new
now_laid old new log bytes is closed zeros = record {
  closed = still_closed old new (zeroed_by (log ∷ []) bytes old.zeroed) is closed;
  zeroed = ap (λ (s : Slots). s.zeroed) is ∙ ap (λ b. if b then Some log else unwritten (log ∷ []) old.zeroed) zeros;
}

-- ---- a page alone

one_page : (page other : ℕ) → page ≢ other → IsNone (page ∷ []) other
one_page page other apart zero near = apart
one_page page other apart (suc k) near = absurd (omega arith)

pub may_write : (page : ℕ) (slots : Slots) → page ≢ 0 → page ≢ slots.current.root.log → MayWrite (page ∷ []) slots
may_write page slots first log = record {
  distinct = λ i j less near. absurd (omega arith);
  apart = one_page page 0 first;
  log = one_page page slots.current.root.log log;
}
