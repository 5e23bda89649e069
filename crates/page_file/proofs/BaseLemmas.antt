-- The other root slot is filled and opened.
use Rattle.std.proofs.Common.{◌≡◌, ◌≤◌, ◌<◌, ◌⊎◌, inl, inr, ⊎_elim, ℕ, suc, zero, Bool, false, true, ◌+◌, List, [], ◌∷◌, ◌++◌, replicate, Option, Some, IfSome, refl, sym, ◌∙◌, ap, subst, arith}
use Rattle.std.specs.Prelude.{nat_eq, if◌then◌else◌}
use Rattle.std.specs.List.{list_all}
use Rattle.afl_outside.specs.Disk.{Moment}
use Rattle.page_chain.specs.Opens.{OpensAs}
use Rattle.page_chain.specs.Places.{gate_of, body_of, other, IsNone, KeepsPages}
use Rattle.page_chain.specs.declared.slots.layout.sides.Side.{Side}
use Rattle.page_chain.specs.declared.slots.layout.sides.Side.TheVariants.{A, B}
use Rattle.page_chain.specs.declared.slots.layout.roots.Root.{Root}
use Rattle.page_chain.specs.Pages.{AreDistinct}
use Rattle.page_chain.specs.Inner.Runs.{OnlyWrites, Sees}
use Rattle.page_chain.specs.Puts.{OnlyPuts}
use Rattle.page_chain.specs.Standing.{gate_place, target_page, IsClosed, IsShut, IsShutRoot, IsStillEntry, LeavesOpening, MayOpen, OpensAsRoot}
use Rattle.page_chain.specs.Steps.{ajar, ajar_root, doubted, emptied, emptied_root, shut, shut_root, with_other, with_root, with_target}
use Rattle.page_chain.specs.declared.slots.slots.slots.Slots.{Slots}
use Rattle.page_chain.specs.declared.slots.slots.slots.RootSlot.{RootSlot}
use Rattle.page_chain.specs.declared.slots.slots.slots.RootSlot.TheVariants as roots
use Rattle.page_chain.specs.declared.slots.slots.slots.Target.{Target}
use Rattle.page_chain.specs.declared.slots.slots.slots.Target.TheVariants as targets
use Rattle.page_chain.proofs.Settling.{no_record, settled}
use Rattle.page_file.specs.Written.{MayWrite, unwritten, zeroed_by}
use Rattle.page_file.proofs.Kept.{root_there, shut_emptied}
use Rattle.page_file.specs.Commits.{HoldsAll, base_pages, commit_pages, root_of}
use Rattle.page_file.specs.Inner.Going.{Goes}
use Rattle.page_file.specs.Moments.{IsKnown, MayHaveBase}
use Rattle.page_file.specs.declared.commits.placed.Placed.{Placed}
use Rattle.page_file.proofs.BlobLemmas.{all_on, apart_of, first_of, second_of}
use Rattle.page_file.proofs.SlotLemmas.{emptied_again}
use Rattle.page_file.proofs.GoingLemmas.{goes_then, more_pages, pages_go, put_goes, put_keeps, widen}

zeros_all : (n : ℕ) → list_all (λ byte. nat_eq byte 0) (replicate n 0) ≡ true
zeros_all zero = refl
zeros_all (suc n) = zeros_all n

-- a page of zeros was written
pub zeros_written : (old new : Slots) (log n : ℕ) → new ≡ record (emptied old) { zeroed = zeroed_by (log ∷ []) (replicate n 0) old.zeroed } → new ≡ record (emptied old) { zeroed = Some log }
zeros_written old new log n is = is ∙ ap (λ (b : Bool). record (emptied old) { zeroed = if b then Some log else unwritten (log ∷ []) old.zeroed }) (zeros_all n)

-- the last page is none of the others
pub last_apart : (pages : List ℕ) (log : ℕ) → AreDistinct (pages ++ log ∷ []) → IsNone pages log
last_apart pages log apart k low is = apart_of pages (log ∷ []) apart k low 0 (omega arith) (sym is)

gate_low : (side : Side) → gate_of side ≤ body_of side
gate_low A = omega arith
gate_low B = omega arith

gate_high : (side : Side) → body_of side + 24 ≤ gate_of side + 32
gate_high A = omega arith
gate_high B = omega arith

target_on : (old mid : Slots) → old.target ≡ targets.Root → mid ≡ record (emptied old) { zeroed = mid.zeroed } → mid.target ≡ targets.Root
target_on old mid target is = ap (λ (s : Slots). s.target) is ∙ target

page_is : (mid : Slots) → mid.target ≡ targets.Root → 0 ≡ target_page mid.target mid
page_is mid target = sym (ap (λ (t : Target). target_page t mid) target)

low_is : (mid : Slots) → mid.target ≡ targets.Root → gate_place mid.target mid ≤ body_of (other mid.current.side)
low_is mid target = subst (λ (t : Target). gate_place t mid ≤ body_of (other mid.current.side)) (sym target) (gate_low (other mid.current.side))

high_is : (mid : Slots) → mid.target ≡ targets.Root → body_of (other mid.current.side) + 24 ≤ gate_place mid.target mid + 32
high_is mid target = subst (λ (t : Target). body_of (other mid.current.side) + 24 ≤ gate_place t mid + 32) (sym target) (gate_high (other mid.current.side))

-- the body of the root slot is within page 0
pub body_keeps : (mid : Slots) (seen : List ℕ) (m n : Moment) → mid.target ≡ targets.Root → IsKnown mid seen m → IfSome m.state.seen m.may_leave → OnlyPuts (body_of (other mid.current.side)) 24 m n → Sees m.state n.state (KeepsPages (0 ∷ []))
body_keeps mid seen m n target known read put =
    put_keeps mid 0 (body_of (other mid.current.side)) 24 seen m n (page_is mid target) known (root_there mid target) read (low_is mid target) (high_is mid target) put

body_goes : (old mid : Slots) (seen : List ℕ) (m n : Moment) → old.target ≡ targets.Root → IsClosed old → mid ≡ record (emptied old) { zeroed = mid.zeroed } → IsKnown mid seen m → IfSome m.state.seen m.may_leave
    → OnlyPuts (body_of (other mid.current.side)) 24 m n → LeavesOpening mid (record mid { other = roots.Closed }) m n → Goes (0 ∷ []) (OpensAs old.current old.records) m n
body_goes old mid seen m n target closed is known read put opens =
    widen (0 ∷ []) (MayOpen (record mid { other = roots.Closed })) (OpensAs old.current old.records) m n
    (λ c over may. subst (λ (s : Slots). OpensAs s.current s.records c) is
    (settled (record mid { other = roots.Closed }) c tt (known.sound.sure (ap (λ (s : Slots). s.doubtful) is ∙ closed.sure)).1 may))
    (put_goes mid (record mid { other = roots.Closed }) 0 (body_of (other mid.current.side)) 24 seen m n (page_is mid (target_on old mid target is)) known (root_there mid (target_on old mid target is)) read
    (low_is mid (target_on old mid target is)) (high_is mid (target_on old mid target is)) put opens)

-- pages and body
pub filled_goes : (old mid : Slots) (pages seen now : List ℕ) (a b c : Moment) → old.target ≡ targets.Root → IsClosed old → MayWrite pages old → mid ≡ record (emptied old) { zeroed = mid.zeroed } → IsKnown old seen a → IsKnown mid now b
    → IfSome b.state.seen b.may_leave → OnlyWrites pages a b → OnlyPuts (body_of (other mid.current.side)) 24 b c → LeavesOpening mid (record mid { other = roots.Closed }) b c → Goes (0 ∷ pages) (OpensAs old.current old.records) a c
filled_goes old mid pages seen now a b c target closed may is known next read writes put opens =
    goes_then pages (0 ∷ []) (0 ∷ pages) (OpensAs old.current old.records) (OpensAs old.current old.records) (OpensAs old.current old.records) a b c
    (second_of (0 ∷ []) pages) (first_of (0 ∷ []) pages) (λ x h. h) (λ x h. h) (pages_go old pages seen a b known closed may writes) (body_goes old mid now b c target closed is next read put opens)

-- pages alone
pub pages_more : (old : Slots) (pages seen : List ℕ) (a b : Moment) → IsKnown old seen a → IsClosed old → MayWrite pages old → OnlyWrites pages a b → Goes (0 ∷ pages) (OpensAs old.current old.records) a b
pages_more old pages seen a b known closed may writes = more_pages pages (0 ∷ pages) (OpensAs old.current old.records) a b (second_of (0 ∷ []) pages) (pages_go old pages seen a b known closed may writes)

ajar_opens : (slots : Slots) (root : Root) (c : List ℕ) → slots.target ≡ targets.Root → slots.other ≡ roots.Written root → IsStillEntry slots.next → MayOpen (ajar slots.target slots) c
    → OpensAs slots.current slots.records c ⊎ OpensAsRoot (roots.Opening root) (other slots.current.side) c
ajar_opens slots root c target written still opens =
    let may : MayOpen (record slots { other = roots.Opening root }) c = subst (λ (s : Slots). MayOpen s c) (ap (λ (t : Target). ajar t slots) target ∙ ap (λ (k : RootSlot). record slots { other = ajar_root k }) written) opens in
    ⊎_elim inl (λ new. inr (⊎_elim (λ it. it) (λ more. absurd (no_record slots.next slots.current slots.records c still more)) new)) may

-- the root slot is opened
pub ajar_goes : (old : Slots) (blobs : List Placed) (chain : Placed) (sequence log : ℕ) (seen : List ℕ) (m n : Moment) → old.target ≡ targets.Root → old.doubtful ≡ false → old.other ≡ roots.Written (root_of sequence chain log)
    → IsNone (commit_pages blobs chain) 0 → IsKnown old seen m → ((d : List ℕ) → m.may_leave d → HoldsAll d blobs chain) → IfSome m.state.seen m.may_leave
    → OnlyPuts (gate_place old.target old) 1 m n → LeavesOpening old (ajar old.target old) m n
    → Goes (0 ∷ []) (λ c. OpensAs old.current old.records c ⊎ MayHaveBase old blobs chain sequence log c) m n
ajar_goes old blobs chain sequence log seen m n target sure written apart known holds read put opens =
    widen (0 ∷ []) (MayOpen (ajar old.target old)) (λ c. OpensAs old.current old.records c ⊎ MayHaveBase old blobs chain sequence log c) m n
    (λ c over may. ⊎_elim inl (λ new. inr (new, all_on 0 blobs chain over.0 c apart over.2 (holds over.0 over.1)))
    (ajar_opens old (root_of sequence chain log) c target written (known.sound.sure sure).1 may))
    (put_goes old (ajar old.target old) 0 (gate_place old.target old) 1 seen m n (page_is old target) known (root_there old target) read (omega arith) (omega arith) put opens)

-- what is said of the slots once the root slot was closed is said of those before
pub shut_on : (old mid : Slots) (pages : List ℕ) (a b : Moment) → mid ≡ record old { other = shut_root old.other; doubtful = false } → Goes (0 ∷ pages) (OpensAs mid.current mid.records) a b → Goes (0 ∷ pages) (OpensAs old.current old.records) a b
shut_on old mid pages a b is went = subst (λ (s : Slots). Goes (0 ∷ pages) (OpensAs s.current s.records) a b) is went

-- the pages and the body, and then the gate
pub sealed_goes : (old mid later : Slots) (blobs : List Placed) (chain : Placed) (sequence log : ℕ) (z : Option ℕ) (a b c : Moment) → mid ≡ record old { other = shut_root old.other; doubtful = false }
    → later ≡ record (emptied mid) { other = roots.Written (root_of sequence chain log); zeroed = z } → Goes (0 ∷ base_pages blobs chain log) (OpensAs mid.current mid.records) a b
    → Goes (0 ∷ []) (λ x. OpensAs later.current later.records x ⊎ MayHaveBase later blobs chain sequence log x) b c
    → Goes (0 ∷ base_pages blobs chain log) (λ x. OpensAs old.current old.records x ⊎ MayHaveBase old blobs chain sequence log x) a c
sealed_goes old mid later blobs chain sequence log z a b c is then_ p q =
    let q1 : Goes (0 ∷ []) (λ x. OpensAs mid.current mid.records x ⊎ MayHaveBase mid blobs chain sequence log x) b c =
    subst (λ (s : Slots). Goes (0 ∷ []) (λ x. OpensAs s.current s.records x ⊎ MayHaveBase s blobs chain sequence log x) b c) then_ q in
    let q2 : Goes (0 ∷ []) (λ x. OpensAs old.current old.records x ⊎ MayHaveBase old blobs chain sequence log x) b c =
    subst (λ (s : Slots). Goes (0 ∷ []) (λ x. OpensAs s.current s.records x ⊎ MayHaveBase s blobs chain sequence log x) b c) is q1 in
    goes_then (0 ∷ base_pages blobs chain log) (0 ∷ []) (0 ∷ base_pages blobs chain log) (OpensAs old.current old.records)
    (λ x. OpensAs old.current old.records x ⊎ MayHaveBase old blobs chain sequence log x) (λ x. OpensAs old.current old.records x ⊎ MayHaveBase old blobs chain sequence log x) a b c
    (λ n none. none) (first_of (0 ∷ []) (base_pages blobs chain log)) (λ x h. inl h) (λ x h. h) (shut_on old mid (base_pages blobs chain log) a b is p) q2

-- the slots once pages were written, and then the root slot
pub root_fills : (old mid : Slots) → IsClosed old → old.target ≡ targets.Root → mid ≡ record (emptied old) { zeroed = mid.zeroed } → IsShutRoot mid.other
root_fills old mid closed target is = subst IsShutRoot (sym (ap (λ (s : Slots). s.other) is)) (shut_emptied old.other (subst (λ (t : Target). IsShut t old) target closed.shut))

pub root_written : (old mid new : Slots) (n m : RootSlot) (z : Option ℕ) → mid ≡ record (emptied old) { zeroed = mid.zeroed } → mid.zeroed ≡ z → new ≡ record mid { other = n } → n ≡ m → new ≡ record (emptied old) { other = m; zeroed = z }
root_written old mid new n m z is zeroed then_ e = then_ ∙ ap (λ (s : Slots). record s { other = n }) is ∙ ap (λ (k : RootSlot). record (emptied old) { other = k; zeroed = mid.zeroed }) e
    ∙ ap (λ (y : Option ℕ). record (emptied old) { other = m; zeroed = y }) zeroed

pub root_unwritten : (old mid new : Slots) (d : Bool) → mid ≡ record (emptied old) { zeroed = mid.zeroed } → new ≡ record mid { other = roots.Closed; doubtful = d }
    → new ≡ record (emptied old) { other = roots.Closed; doubtful = new.doubtful; zeroed = new.zeroed }
root_unwritten old mid new d is then_ = then_ ∙ ap (λ (s : Slots). record s { other = roots.Closed; doubtful = d }) is
    ∙ ap (λ (b : Bool). record (emptied old) { other = roots.Closed; doubtful = b; zeroed = mid.zeroed }) (sym (ap (λ (s : Slots). s.doubtful) then_))
    ∙ ap (λ (z : Option ℕ). record (emptied old) { other = roots.Closed; doubtful = new.doubtful; zeroed = z }) (sym (ap (λ (s : Slots). s.zeroed) then_))

root_closed : (known : RootSlot) → IsShutRoot known → emptied_root known ≡ roots.Closed
root_closed roots.Closed h = refl
root_closed roots.Older h = absurd h
root_closed (roots.Written root) h = refl
root_closed (roots.Opening root) h = absurd h

pub root_unfilled : (old mid : Slots) → IsClosed old → old.target ≡ targets.Root → mid ≡ record (emptied old) { zeroed = mid.zeroed } → mid ≡ record (emptied old) { other = roots.Closed; doubtful = mid.doubtful; zeroed = mid.zeroed }
root_unfilled old mid closed target is = is ∙ ap (λ (n : RootSlot). record (emptied old) { other = n; zeroed = mid.zeroed }) (root_closed old.other (subst (λ (t : Target). IsShut t old) target closed.shut))
    ∙ ap (λ (b : Bool). record (emptied old) { other = roots.Closed; doubtful = b; zeroed = mid.zeroed }) (sym (ap (λ (s : Slots). s.doubtful) is))

-- the root slot was closed; it was opened, or may be open
pub shut_base : (old mid : Slots) → old.target ≡ targets.Root → mid ≡ shut old.target old → mid ≡ record old { other = shut_root old.other; doubtful = false }
shut_base old mid target is = is ∙ ap (λ (t : Target). shut t old) target

pub root_opened : (old new : Slots) (root : Root) → old.target ≡ targets.Root → old.other ≡ roots.Written root → new ≡ with_target old.target old → new ≡ with_root root old
root_opened old new root target written is = is ∙ ap (λ (t : Target). with_target t old) target ∙ ap (λ (k : RootSlot). with_other k old) written

pub root_ajar : (old new : Slots) (root : Root) → old.target ≡ targets.Root → old.other ≡ roots.Written root → new ≡ doubted (ajar old.target old) → new ≡ record old { other = roots.Opening root; doubtful = true }
root_ajar old new root target written is = is ∙ ap (λ (t : Target). doubted (ajar t old)) target ∙ ap (λ (k : RootSlot). record old { other = ajar_root k; doubtful = true }) written

-- what was emptied is so
pub emptied_once : (old mid : Slots) → mid ≡ record (emptied old) { zeroed = mid.zeroed } → emptied mid ≡ record (emptied old) { zeroed = mid.zeroed }
emptied_once old mid is = emptied_again old old mid refl is

pub newer_on : (old mid : Slots) (given root : Root) → mid ≡ record (emptied old) { zeroed = mid.zeroed } → given ≡ root → old.current.root.sequence < root.sequence → mid.current.root.sequence < given.sequence
newer_on old mid given root is same newer = subst (λ (r : Root). mid.current.root.sequence < r.sequence) (sym same) (subst (λ (s : Slots). s.current.root.sequence < root.sequence) (sym is) newer)
