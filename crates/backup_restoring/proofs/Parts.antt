-- What the calls of a page file leave, as restoring needs it.
use Rattle.std.proofs.Common.{◌≡◌, ℕ, zero, suc, ◌+◌, ◌*◌, ◌<◌, ◌≤◌, List, [], ◌∷◌, ◌++◌, length, slice_index, IsTrue, Option, Some, IfSome, refl, sym, ◌∙◌, ap, subst, arith}
use Rattle.afl_outside.specs.Disk.{DiskState, DiskGoesOn, Moment}
use Rattle.page_chain.specs.Inner.Runs.{Sees}
use Rattle.page_chain.specs.Opens.{OpensAs}
use Rattle.page_chain.specs.Places.{other, KeepsPages}
use Rattle.page_chain.specs.Pages.{page_size}
use Rattle.page_chain.specs.Chains.{content_size, HoldsChain}
use Rattle.page_chain.specs.Standing.{root_in, IsShut, IsShutRoot, IsSound, KeepsSound}
use Rattle.page_chain.specs.Steps.{aimed, shut, slot_of_side, target_slot}
use Rattle.page_chain.specs.declared.slots.layout.roots.Root.{Root}
use Rattle.page_chain.specs.declared.slots.layout.sides.Side.{Side}
use Rattle.page_chain.specs.declared.slots.layout.sides.Side.TheVariants as sides
use Rattle.page_chain.specs.declared.slots.layout.sides.Slot.{Slot}
use Rattle.page_chain.specs.declared.slots.layout.sides.Format.TheVariants.{Two}
use Rattle.page_chain.specs.declared.slots.slots.slots.Slots.{Slots}
use Rattle.page_chain.specs.declared.slots.slots.slots.Target.{Target}
use Rattle.page_chain.specs.declared.slots.slots.slots.Target.TheVariants as targets
use Rattle.page_chain.proofs.BlobLemmas.{enough}
use Rattle.page_chain.proofs.Kept.{size_is}
use Rattle.page_file.specs.Commits.{base_pages, IsChainSized}
use Rattle.page_file.specs.Inner.Aims.{target_of}
use Rattle.page_file.specs.Moments.{IsKnown, LeavesOne, MakesBase, Rereads}
use Rattle.page_file.specs.Start.{first_root}
use Rattle.page_file.specs.Written.{blob_written, MayWrite}
use Rattle.page_file.specs.declared.commits.placed.Placed.{Placed}
use Rattle.page_file.proofs.GoingLemmas.{stays_known}
use Rattle.page_file.proofs.Kept.{at_some, shut_emptied}
use Rattle.page_file.proofs.SlotLemmas.{closed_now}
use Rattle.backup_restoring.specs.Inner.Layout.{pages_from}
use Rattle.backup_restoring.specs.Inner.Writing.{chain_needs, AwaitsBase, Closes, IsBase, Writes}
use Rattle.backup_restoring.proofs.Laid.{length_from, from_push}
use Rattle.backup_restoring.proofs.Written.{may_write}

pub same_some : (o : Option (List ℕ)) (a b : List ℕ) → o ≡ Some a → o ≡ Some b → a ≡ b
same_some o a b p q = let e : Some a ≡ Some b = sym p ∙ q in cc

-- ---- a blob

written_awaits : (pages bytes : List ℕ) (slots : Slots) → AwaitsBase slots → AwaitsBase (blob_written pages bytes slots)
written_awaits pages bytes slots awaits =
    let shut_root : IsShutRoot slots.other = subst (λ (t : Target). IsShut t slots) awaits.target awaits.closed.shut in
    record {
      closed = record { shut = subst (λ (t : Target). IsShut t (blob_written pages bytes slots)) (sym awaits.target) (shut_emptied slots.other shut_root); sure = awaits.closed.sure };
      target = awaits.target;
      root = awaits.root;
    }

pub awaits_after : (pages bytes : List ℕ) (slots later : Slots) → later ≡ blob_written pages bytes slots → AwaitsBase slots → AwaitsBase later
awaits_after pages bytes slots later is awaits = subst AwaitsBase (sym is) (written_awaits pages bytes slots awaits)

pub writes_by : (first count : ℕ) (P : List ℕ → Type 0) (slots later : Slots) (old new : Moment) → DiskGoesOn old.state new.state → AwaitsBase later → KeepsSound slots later old new
    → Sees old.state new.state (λ seen now. KeepsPages (pages_from first count) seen now × P now) → Writes first count P slots later old new
writes_by first count P slots later old new same awaits sound sees = record {
  same = same;
  awaits = awaits;
  known = λ seen known.
      let k = stays_known slots later old new same sound seen known in
      let s = at_some old.state.seen seen (λ x. (now : List ℕ) × (new.state.seen ≡ Some now) × (KeepsPages (pages_from first count) x now × P now)) known.tells (sees known.honest) in
      let e = same_some new.state.seen s.0 k.0 s.1 k.1.tells in
      (k.0, k.1, subst (KeepsPages (pages_from first count) seen) e s.2.0, subst P e s.2.1);
}

-- ---- a base

pub base_is : (first count log : ℕ) (pages : List ℕ) → pages ≡ pages_from first count → log ≡ first + count → pages ++ log ∷ [] ≡ pages_from first (count + 1)
base_is first count log pages is at = ap (λ (ps : List ℕ). ps ++ log ∷ []) is ∙ ap (λ (p : ℕ). pages_from first count ++ p ∷ []) at ∙ sym (from_push first count)

some_needs : (room n k : ℕ) → n ≤ room * k → 0 < n → 0 < k
some_needs room n zero le some = let e : room * 0 ≡ 0 = grind arith in absurd (omega (arith, le, some, e))
some_needs room n (suc k) le some = omega arith

pub chain_sized : (first : ℕ) (chain : Placed) → chain.pages ≡ pages_from first (chain_needs (length chain.bytes)) → 0 < length chain.bytes → IsChainSized chain
chain_sized first chain is some =
    let n = length chain.bytes in
    let long : length chain.pages ≡ chain_needs n = ap (λ (ps : List ℕ). length ps) is ∙ length_from first (chain_needs n) in
    let room : 0 < content_size page_size = omega (arith, size_is) in
    let needs : 0 < chain_needs n = some_needs (content_size page_size) n (chain_needs n) (enough (content_size page_size) n room) some in
    record { some = omega (arith, long, needs); enough = long }

pub may_commit : (first : ℕ) (chain : Placed) (log : ℕ) (slots : Slots) → 3 ≤ first → AwaitsBase slots → chain.pages ≡ pages_from first (chain_needs (length chain.bytes)) → log ≡ first + chain_needs (length chain.bytes)
    → MayWrite (base_pages [] chain log) slots
may_commit first chain log slots least awaits is at =
    let count = chain_needs (length chain.bytes) in
    subst (λ (ps : List ℕ). MayWrite ps slots) (sym (base_is first count log chain.pages is at)) (may_write first (count + 1) slots least awaits.root)

pub newer : (slots : Slots) → AwaitsBase slots → slots.current.root.sequence < 2
newer slots awaits = let e : slots.current.root.sequence ≡ 1 = ap (λ (r : Root). r.sequence) awaits.root in omega (arith, e)

pub based_by : (first : ℕ) (chain : Placed) (log : ℕ) (slots later : Slots) (old new : Moment) (seen : List ℕ) → chain.pages ≡ pages_from first (chain_needs (length chain.bytes)) → log ≡ first + chain_needs (length chain.bytes)
    → IsKnown slots seen old → MakesBase slots later [] chain 2 log old new → LeavesOne slots old new → Rereads (0 ∷ base_pages [] chain log) slots old new → IfSome new.state.seen new.may_leave
    → IsBase first (length chain.bytes) chain.bytes seen new
based_by first chain log slots later old new seen is at known makes leaves rereads as_read =
    let n = length chain.bytes in
    let count = chain_needs n in
    let side : Side = other slots.current.side in
    let one = leaves seen known in
    let read = rereads seen known in
    let same : read.0 ≡ one.0 = same_some new.state.seen read.0 one.0 read.1 one.1 in
    let has = (makes.images seen known one.0 (at_some new.state.seen one.0 new.may_leave one.1 as_read)).1 in
    let all = base_is first count log chain.pages is at in
    record {
      now = one.0;
      side = side;
      reads = one.1;
      leaves = one.2;
      keeps = subst (λ (ps : List ℕ). KeepsPages (0 ∷ ps) seen one.0) all (subst (KeepsPages (0 ∷ base_pages [] chain log) seen) same read.2);
      opens = subst (λ (l : ℕ). OpensAs (root_in Two side (record { sequence = 2; length = n; first = slice_index (pages_from first count) 0; log = l })) [] one.0) at
          (subst (λ (ps : List ℕ). OpensAs (root_in Two side (record { sequence = 2; length = n; first = slice_index ps 0; log = log })) [] one.0) is has.0);
      holds = subst (λ (ps : List ℕ). HoldsChain page_size one.0 ps chain.bytes) is has.1.1;
    }

-- ---- the slot

by_side : (side : Side) → target_of (slot_of_side (other side)) ≡ targets.Root
by_side sides.A = refl
by_side sides.B = refl

pub aims_root : (slot : Slot) (slots : Slots) → slot ≡ target_slot targets.Root slots → target_of slot ≡ targets.Root
aims_root slot slots is = ap target_of is ∙ by_side slots.current.side

-- the slots that were aimed at a root slot, and then closed
record IsShutNow (slots later : Slots) : Type 0 where
  target : later.target ≡ targets.Root
  root : later.current.root ≡ slots.current.root

shut_now : (slots mid later : Slots) (t : Target) → t ≡ targets.Root → mid ≡ aimed t slots → later ≡ shut mid.target mid → IsShutNow slots later
shut_now slots mid later t root aim is =
    let aimed_root : mid ≡ aimed targets.Root slots = aim ∙ ap (λ (u : Target). aimed u slots) root in
    let closed : later ≡ shut targets.Root (aimed targets.Root slots) = is ∙ ap (λ (m : Slots). shut m.target m) aimed_root in
    record { target = ap (λ (s : Slots). s.target) closed; root = ap (λ (s : Slots). s.current.root) closed }

pub closes_by : (slot : Slot) (slots mid later : Slots) (old between new : Moment) → slot ≡ target_slot targets.Root slots → mid ≡ aimed (target_of slot) slots → later ≡ shut mid.target mid
    → slots.current.root ≡ first_root.root → old.state ≡ between.state → ((seen : List ℕ) → IsSound slots seen old.may_leave → IsSound mid seen between.may_leave) → DiskGoesOn between.state new.state → KeepsSound mid later between new
    → Closes slots later old new
closes_by slot slots mid later old between new at aim is root still sound same closes =
    let now = shut_now slots mid later (target_of slot) (aims_root slot slots at) aim is in
    record {
      same = subst (λ (s : DiskState). DiskGoesOn s new.state) (sym still) same;
      awaits = record { closed = closed_now mid later is; target = now.target; root = now.root ∙ root };
      known = λ seen known. stays_known mid later between new same closes seen
          (record { honest = subst (λ (s : DiskState). IsTrue s.honest) still known.honest; tells = subst (λ (s : DiskState). s.seen ≡ Some seen) still known.tells; sound = sound seen known.sound });
    }
