-- The entry of a record is filled.
use Rattle.std.proofs.Common.{◌≡◌, ◌≤◌, ◌⊎◌, inl, inr, ⊎_elim, ℕ, false, ◌+◌, List, [], ◌∷◌, Option, IfSome, sym, ◌∙◌, ap, subst, arith}
use Rattle.afl_outside.specs.Disk.{Moment}
use Rattle.page_chain.specs.Opens.{OpensAs}
use Rattle.page_chain.specs.Inner.Runs.{OnlyWrites, Sees}
use Rattle.page_chain.specs.Puts.{OnlyPuts}
use Rattle.page_chain.specs.Standing.{entry_gate, gate_place, target_page, IsClosed, IsTarget, LeavesOpening, MayOpen}
use Rattle.page_chain.specs.declared.slots.slots.slots.Slots.{Slots}
use Rattle.page_chain.specs.declared.slots.slots.slots.Target.{Target}
use Rattle.page_chain.specs.declared.slots.slots.slots.Target.TheVariants as targets
use Rattle.page_chain.specs.declared.slots.slots.slots.NextEntry.TheVariants as entries
use Rattle.page_chain.proofs.Settling.{settled}
use Rattle.page_file.specs.Written.{MayWrite}
use Rattle.page_chain.specs.Places.{IsNone, KeepsPages}
use Rattle.page_chain.specs.Steps.{ajar, emptied, shut_entry}
use Rattle.page_file.specs.Commits.{HoldsAll, commit_pages, record_of}
use Rattle.page_file.specs.Inner.Going.{Goes}
use Rattle.page_file.specs.Moments.{IsKnown, HasRecord}
use Rattle.page_file.proofs.BlobLemmas.{all_on, first_of, second_of}
use Rattle.page_file.proofs.SlotLemmas.{ajar_opens}
use Rattle.page_file.specs.declared.commits.placed.Placed.{Placed}
use Rattle.page_file.proofs.GoingLemmas.{goes_then, pages_go, put_goes, put_keeps, widen, more_pages}

target_on : (old mid : Slots) → old.target ≡ targets.Record → mid ≡ record (emptied old) { zeroed = mid.zeroed } → mid.target ≡ targets.Record
target_on old mid target is = ap (λ (s : Slots). s.target) is ∙ target

page_on : (old mid : Slots) → old.target ≡ targets.Record → mid ≡ record (emptied old) { zeroed = mid.zeroed } → old.current.root.log ≡ target_page mid.target mid
page_on old mid target is = sym (ap (λ (t : Target). target_page t mid) (target_on old mid target is) ∙ ap (λ (s : Slots). s.current.root.log) is)

gate_low : (old mid : Slots) → old.target ≡ targets.Record → mid ≡ record (emptied old) { zeroed = mid.zeroed } → gate_place mid.target mid ≤ entry_gate mid + 8
gate_low old mid target is = subst (λ (t : Target). gate_place t mid ≤ entry_gate mid + 8) (sym (target_on old mid target is)) (omega arith)

gate_high : (old mid : Slots) → old.target ≡ targets.Record → mid ≡ record (emptied old) { zeroed = mid.zeroed } → entry_gate mid + 8 + 12 ≤ gate_place mid.target mid + 32
gate_high old mid target is = subst (λ (t : Target). entry_gate mid + 8 + 12 ≤ gate_place t mid + 32) (sym (target_on old mid target is)) (omega arith)

-- the body of the entry is within the log page
pub body_keeps : (old mid : Slots) (seen : List ℕ) (m n : Moment) → old.target ≡ targets.Record → IsTarget old → mid ≡ record (emptied old) { zeroed = mid.zeroed } → IsKnown mid seen m → IfSome m.state.seen m.may_leave
    → OnlyPuts (entry_gate mid + 8) 12 m n → Sees m.state n.state (KeepsPages (old.current.root.log ∷ []))
body_keeps old mid seen m n target there is known read put =
    put_keeps mid old.current.root.log (entry_gate mid + 8) 12 seen m n (page_on old mid target is) known (subst IsTarget (sym is) there) read (gate_low old mid target is) (gate_high old mid target is) put

body_goes : (old mid : Slots) (seen : List ℕ) (m n : Moment) → old.target ≡ targets.Record → IsTarget old → IsClosed old → mid ≡ record (emptied old) { zeroed = mid.zeroed } → IsKnown mid seen m → IfSome m.state.seen m.may_leave
    → OnlyPuts (entry_gate mid + 8) 12 m n → LeavesOpening mid (record mid { next = entries.Closed }) m n → Goes (old.current.root.log ∷ []) (OpensAs old.current old.records) m n
body_goes old mid seen m n target there closed is known read put opens =
    widen (old.current.root.log ∷ []) (MayOpen (record mid { next = entries.Closed })) (OpensAs old.current old.records) m n
    (λ c over may. subst (λ (s : Slots). OpensAs s.current s.records c) is
    (settled (record mid { next = entries.Closed }) c (known.sound.sure (ap (λ (s : Slots). s.doubtful) is ∙ closed.sure)).0 tt may))
    (put_goes mid (record mid { next = entries.Closed }) old.current.root.log (entry_gate mid + 8) 12 seen m n (page_on old mid target is) known (subst IsTarget (sym is) there) read (gate_low old mid target is) (gate_high old mid target is) put opens)

-- pages and body
pub filled_goes : (old mid : Slots) (pages seen now : List ℕ) (a b c : Moment) → old.target ≡ targets.Record → IsTarget old → IsClosed old → MayWrite pages old → mid ≡ record (emptied old) { zeroed = mid.zeroed } → IsKnown old seen a → IsKnown mid now b
    → IfSome b.state.seen b.may_leave → OnlyWrites pages a b → OnlyPuts (entry_gate mid + 8) 12 b c → LeavesOpening mid (record mid { next = entries.Closed }) b c → Goes (old.current.root.log ∷ pages) (OpensAs old.current old.records) a c
filled_goes old mid pages seen now a b c target there closed may is known next read writes put opens =
    goes_then pages (old.current.root.log ∷ []) (old.current.root.log ∷ pages) (OpensAs old.current old.records) (OpensAs old.current old.records) (OpensAs old.current old.records) a b c
    (second_of (old.current.root.log ∷ []) pages) (first_of (old.current.root.log ∷ []) pages) (λ x h. h) (λ x h. h)
    (pages_go old pages seen a b known closed may writes) (body_goes old mid now b c target there closed is next read put opens)

-- pages alone
pub pages_more : (old : Slots) (pages seen : List ℕ) (a b : Moment) → IsKnown old seen a → IsClosed old → MayWrite pages old → OnlyWrites pages a b → Goes (old.current.root.log ∷ pages) (OpensAs old.current old.records) a b
pages_more old pages seen a b known closed may writes = more_pages pages (old.current.root.log ∷ pages) (OpensAs old.current old.records) a b (second_of (old.current.root.log ∷ []) pages) (pages_go old pages seen a b known closed may writes)

-- the entry is opened
pub ajar_goes : (old : Slots) (blobs : List Placed) (chain : Placed) (seen : List ℕ) (m n : Moment) → old.target ≡ targets.Record → IsTarget old → old.doubtful ≡ false → old.next ≡ entries.Written (record_of chain)
    → IsNone (commit_pages blobs chain) old.current.root.log → IsKnown old seen m → ((d : List ℕ) → m.may_leave d → HoldsAll d blobs chain) → IfSome m.state.seen m.may_leave
    → OnlyPuts (gate_place old.target old) 1 m n → LeavesOpening old (ajar old.target old) m n
    → Goes (old.current.root.log ∷ []) (λ c. OpensAs old.current old.records c ⊎ HasRecord old blobs chain c) m n
ajar_goes old blobs chain seen m n target there sure written apart known holds read put opens =
    widen (old.current.root.log ∷ []) (MayOpen (ajar old.target old)) (λ c. OpensAs old.current old.records c ⊎ HasRecord old blobs chain c) m n
    (λ c over may. ⊎_elim inl (λ new. inr (new, all_on old.current.root.log blobs chain over.0 c apart over.2 (holds over.0 over.1)))
    (ajar_opens old (record_of chain) c target written (known.sound.sure sure).0 may))
    (put_goes old (ajar old.target old) old.current.root.log (gate_place old.target old) 1 seen m n (sym (ap (λ (t : Target). target_page t old) target)) known there read (omega arith) (omega arith) put opens)

-- what is said of the slots once the entry was closed is said of those before
pub shut_on : (old mid : Slots) (pages : List ℕ) (a b : Moment) → mid ≡ record old { next = shut_entry old.next; doubtful = false }
    → Goes (mid.current.root.log ∷ pages) (OpensAs mid.current mid.records) a b → Goes (old.current.root.log ∷ pages) (OpensAs old.current old.records) a b
shut_on old mid pages a b is went = subst (λ (s : Slots). Goes (s.current.root.log ∷ pages) (OpensAs s.current s.records) a b) is went

-- the pages and the body, and then the gate
pub sealed_goes : (old mid later : Slots) (blobs : List Placed) (chain : Placed) (z : Option ℕ) (a b c : Moment) → mid ≡ record old { next = shut_entry old.next; doubtful = false }
    → later ≡ record (emptied mid) { next = entries.Written (record_of chain); zeroed = z } → Goes (mid.current.root.log ∷ commit_pages blobs chain) (OpensAs mid.current mid.records) a b
    → Goes (later.current.root.log ∷ []) (λ x. OpensAs later.current later.records x ⊎ HasRecord later blobs chain x) b c
    → Goes (old.current.root.log ∷ commit_pages blobs chain) (λ x. OpensAs old.current old.records x ⊎ HasRecord old blobs chain x) a c
sealed_goes old mid later blobs chain z a b c is then_ p q =
    let q1 : Goes (mid.current.root.log ∷ []) (λ x. OpensAs mid.current mid.records x ⊎ HasRecord mid blobs chain x) b c =
    subst (λ (s : Slots). Goes (s.current.root.log ∷ []) (λ x. OpensAs s.current s.records x ⊎ HasRecord s blobs chain x) b c) then_ q in
    let q2 : Goes (old.current.root.log ∷ []) (λ x. OpensAs old.current old.records x ⊎ HasRecord old blobs chain x) b c =
    subst (λ (s : Slots). Goes (s.current.root.log ∷ []) (λ x. OpensAs s.current s.records x ⊎ HasRecord s blobs chain x) b c) is q1 in
    goes_then (old.current.root.log ∷ commit_pages blobs chain) (old.current.root.log ∷ []) (old.current.root.log ∷ commit_pages blobs chain) (OpensAs old.current old.records)
    (λ x. OpensAs old.current old.records x ⊎ HasRecord old blobs chain x) (λ x. OpensAs old.current old.records x ⊎ HasRecord old blobs chain x) a b c
    (λ n none. none) (first_of (old.current.root.log ∷ []) (commit_pages blobs chain)) (λ x h. inl h) (λ x h. h) (shut_on old mid (commit_pages blobs chain) a b is p) q2
