-- The writes of a root slot.
use Rattle.std.proofs.Common.{◌≡◌, ◌<◌, ◌≤◌, inl, ⊎_elim, ℕ, ◌+◌, List, [], ◌∷◌, length, slice_index, Bool, true, false, Option, Some, None, IfSome, refl, sym, ◌∙◌, ap, subst, arith}
use Rattle.std.proofs.lemmas.Bool.Decides.{nat_tests}
use Rattle.afl_outside.specs.Disk.{Follows, Only, Torn, written}
use Rattle.page_chain.specs.Places.{gate_of, body_of, other, SameBut}
use Rattle.page_chain.specs.Roots.{has_front, root_at, slot_in}
use Rattle.page_chain.specs.declared.slots.layout.sides.Side.{Side}
use Rattle.page_chain.specs.declared.slots.layout.sides.Format.{Format}
use Rattle.page_chain.specs.declared.slots.layout.sides.Format.TheVariants.{Two}
use Rattle.page_chain.specs.declared.slots.layout.roots.Root.{Root}
use Rattle.page_chain.specs.declared.slots.layout.roots.OpenRoot.{OpenRoot}
use Rattle.page_chain.proofs.SlotsKept.{root_moved}
use Rattle.page_chain.specs.Puts.{Over}
use Rattle.page_chain.specs.Standing.{IsZeroed, OtherHolds, Holds, IsSound, IsShutRoot, IsAlone, IsStillRoot, ZeroHolds, filled_root, filled_gate, MayOpen, root_in}
use Rattle.page_chain.specs.Steps.{shut_root, shut, with_root}
use Rattle.page_chain.specs.declared.slots.slots.slots.Slots.{Slots}
use Rattle.page_chain.specs.declared.slots.slots.slots.RootSlot.{RootSlot}
use Rattle.page_chain.specs.declared.slots.slots.slots.RootSlot.TheVariants as roots
use Rattle.page_chain.specs.declared.slots.slots.slots.Target.{Target}
use Rattle.page_chain.specs.declared.slots.slots.slots.Target.TheVariants as targets
use Rattle.page_chain.proofs.PutLemmas.{if_some}
use Rattle.page_chain.proofs.Bytes.{torn_same, written_same, written_byte, same_wide, same_trans, same_sym}
use Rattle.page_chain.proofs.RootImages.{gate_shut, zero_gate, open_gate, opened_cases, other_twice, older_kept, opening_kept, opening_shut, written_opens, other_changed, zero_kept, gate_then_body, side_high}
use Rattle.page_chain.proofs.LogImages.{log_apart, empty_page}
use Rattle.page_chain.proofs.Opening.{may_open, same_sequence}

pub front_size : (file : List ℕ) → has_front file ≡ true → 4096 ≤ length file
front_size file front = grind (arith, nat_tests)

-- the one byte that was written
pub byte_at_gate : (at byte : ℕ) (old : List ℕ) → at + 1 ≤ length old → slice_index (written at (byte ∷ []) old) at ≡ byte
byte_at_gate at byte old within_old =
    let moved : at + 0 ≡ at = omega arith in
    subst (λ (k : ℕ). slice_index (written at (byte ∷ []) old) k ≡ byte) moved (written_byte at 0 (byte ∷ []) old (omega arith) (omega arith))

-- the sequence of an open slot is its body's
its_sequence : (side : Side) (file : List ℕ) (it : OpenRoot) → slot_in side file ≡ Some it → (root_at (body_of side) file).sequence ≡ it.root.sequence
its_sequence side file it is = ⊎_elim (λ none. never none) (λ open_. opened_as open_.0 open_.1) (opened_cases side (slice_index file (gate_of side)) (root_at (body_of side) file))
  where
    never : slot_in side file ≡ None → (root_at (body_of side) file).sequence ≡ it.root.sequence
    never none = let both : Some it ≡ None = sym is ∙ none in cc

    opened_as : (format : Format) → slot_in side file ≡ Some (root_in format side (root_at (body_of side) file)) → (root_at (body_of side) file).sequence ≡ it.root.sequence
    opened_as format as_it =
        let both : Some (root_in format side (root_at (body_of side) file)) ≡ Some it = sym as_it ∙ is in
        let same_slot : root_in format side (root_at (body_of side) file) ≡ it = cc in
        sym (same_sequence format side (root_at (body_of side) file)) ∙ ap (λ (o : OpenRoot). o.root.sequence) same_slot

-- a write in the other root slot, after which it holds what is said
pub root_changed : (slots : Slots) (known : RootSlot) (d c : List ℕ) → SameBut (gate_of (other slots.current.side)) 32 d c → Holds slots d
    → OtherHolds known (other slots.current.side) slots.current.root.sequence c → Holds (record slots { other = known }) c
root_changed slots known d c same hold new = record {
  roots = other_changed slots known d c same hold.roots new;
  log = log_apart slots.current.format slots.current.root.log slots.records slots.next (gate_of (other slots.current.side)) 32 d c (omega (arith, side_high (other slots.current.side))) same hold.log;
}

shut_other : (known : RootSlot) (side : Side) (sequence : ℕ) (d : List ℕ) → IsShutRoot known → OtherHolds known side sequence d → slot_in side d ≡ None
shut_other roots.Closed side sequence d shut hold = hold
shut_other roots.Older side sequence d shut hold = absurd shut
shut_other (roots.Written root) side sequence d shut hold = hold.0
shut_other (roots.Opening root) side sequence d shut hold = absurd shut

module _ (slots : Slots) (shut : IsShutRoot slots.other) where
  at_body : gate_of (other slots.current.side) ≤ body_of (other slots.current.side)
  at_body = omega (arith, gate_then_body (other slots.current.side))

  within : (d : List ℕ) → Holds slots d → body_of (other slots.current.side) + 24 ≤ length d
  within d hold = omega (arith, front_size d hold.roots.front, side_high (other slots.current.side), gate_then_body (other slots.current.side))

  body_wide : (d c : List ℕ) → SameBut (body_of (other slots.current.side)) 24 d c → SameBut (gate_of (other slots.current.side)) 32 d c
  body_wide d c same = same_wide (body_of (other slots.current.side)) 24 (gate_of (other slots.current.side)) 32 d c at_body (omega (arith, gate_then_body (other slots.current.side))) same

  gate_stays : (d c : List ℕ) → SameBut (body_of (other slots.current.side)) 24 d c → Holds slots d → slot_in (other slots.current.side) c ≡ None
  gate_stays d c same hold = gate_shut (other slots.current.side) d c (same.each (gate_of (other slots.current.side)) (inl (omega (arith, gate_then_body (other slots.current.side)))))
      (shut_other slots.other (other slots.current.side) slots.current.root.sequence d shut hold.roots.other)

  -- the body may be torn
  pub body_torn : (d c : List ℕ) → Torn (body_of (other slots.current.side)) 24 d c → Holds slots d → Holds (record slots { other = roots.Closed }) c
  body_torn d c torn hold =
      let same = torn_same (body_of (other slots.current.side)) 24 d c (within d hold) torn in
      root_changed slots roots.Closed d c (body_wide d c same) hold (gate_stays d c same hold)

  -- the body is written
  pub body_written : (root : Root) (bytes d : List ℕ) → slots.current.root.sequence < root.sequence → root_at 0 bytes ≡ root → length bytes ≡ 24 → Holds slots d
      → Holds (record slots { other = roots.Written root }) (written (body_of (other slots.current.side)) bytes d)
  body_written root bytes d newer spelled size hold =
      let at = body_of (other slots.current.side) in
      let file = written at bytes d in
      let low : at + length bytes ≤ length d = omega (arith, size, within d hold) in
      let same : SameBut at 24 d file = subst (λ (n : ℕ). SameBut at n d file) size (written_same at bytes d low) in
      let there : root_at at file ≡ root = root_moved at bytes file (λ k small. written_byte at k bytes d (omega (arith, low)) (omega (arith, size, small))) ∙ spelled in
      root_changed slots (roots.Written root) d file (body_wide d file same) hold (gate_stays d file same hold, there, newer)

-- what holds at a target that is known
pub at_root : (target : Target) (P : Target → Type 0) → target ≡ targets.Root → P targets.Root → P target
at_root target P is here = subst P (sym is) here

pub from_root : (target : Target) (P : Target → Type 0) → target ≡ targets.Root → P target → P targets.Root
from_root target P is here = subst P is here

pub not_both : {A : Type 0} → true ≡ false → A
not_both is = cc

zero_in : (zeroed : Option ℕ) (at n : ℕ) (d c : List ℕ) → at + n ≤ 4096 → SameBut at n d c → IfSome zeroed (λ page. IsZeroed page d) → IfSome zeroed (λ page. IsZeroed page c)
zero_in zeroed at n d c low same zero = if_some zeroed (λ page. IsZeroed page d) (λ page. IsZeroed page c) (λ page is. zero_kept page at n d c low same is) zero

-- the write failed
pub body_failed : (slots : Slots) (seen torn : List ℕ) (before now : List ℕ → Type 0) → IsShutRoot slots.other → slots.target ≡ targets.Root → before seen
    → Torn (body_of (other slots.current.side)) 24 seen torn → Follows (Torn (body_of (other slots.current.side)) 24) before now → IsSound slots seen before
    → IsSound (record slots { other = roots.Closed; doubtful = true }) torn now
body_failed slots seen torn before now shut target here tore crash sound = record {
  images = λ c left. let from = crash c left in let hold = body_torn slots shut from.0 c from.2 (sound.images from.0 from.1) in record { roots = record { front = hold.roots.front; current = hold.roots.current; other = hold.roots.other }; log = hold.log };
  zeroed = at_root slots.target (λ t. ZeroHolds t slots.zeroed torn) target (zero_in slots.zeroed at 24 seen torn (omega (arith, side_high (other slots.current.side), gate_then_body (other slots.current.side))) same (from_root slots.target (λ t. ZeroHolds t slots.zeroed seen) target sound.zeroed));
  alone = at_root slots.target (λ t. IsAlone t (record slots { other = roots.Closed; doubtful = true })) target (from_root slots.target (λ t. IsAlone t slots) target sound.alone);
  sure = λ is. not_both is;
  filled = at_root slots.target (λ t. IfSome (filled_gate t (record slots { other = roots.Closed; doubtful = true })) (λ at. (c : List ℕ) → now c → SameBut at 1 torn c)) target tt;
}
  where
    at : ℕ
    at = body_of (other slots.current.side)

    same : SameBut (body_of (other slots.current.side)) 24 seen torn
    same = torn_same (body_of (other slots.current.side)) 24 seen torn (within slots shut seen (sound.images seen here)) tore

-- the write is on the disk
pub body_done : (slots : Slots) (root : Root) (bytes seen : List ℕ) (before now : List ℕ → Type 0) → IsShutRoot slots.other → slots.doubtful ≡ false → slots.target ≡ targets.Root
    → slots.current.root.sequence < root.sequence → root_at 0 bytes ≡ root → length bytes ≡ 24 → before seen
    → Only (written (body_of (other slots.current.side)) bytes seen) now → IsSound slots seen before
    → IsSound (record slots { other = roots.Written root }) (written (body_of (other slots.current.side)) bytes seen) now
body_done slots root bytes seen before now shut sure target newer spelled size here only sound =
    let file = written (body_of (other slots.current.side)) bytes seen in
    let later : Slots = record slots { other = roots.Written root } in
    let low : body_of (other slots.current.side) + length bytes ≤ length seen = omega (arith, size, within slots shut seen (sound.images seen here)) in
    let same = written_same (body_of (other slots.current.side)) bytes seen low in
    let itself : SameBut (gate_of (other slots.current.side)) 1 file file = record { size = refl; each = λ k place. refl } in
    record {
      images = λ c left. subst (Holds later) (sym (only c left)) (body_written slots shut root bytes seen newer spelled size (sound.images seen here));
      zeroed = at_root slots.target (λ t. ZeroHolds t slots.zeroed file) target (zero_in slots.zeroed (body_of (other slots.current.side)) (length bytes) seen file
          (omega (arith, size, side_high (other slots.current.side), gate_then_body (other slots.current.side))) same (from_root slots.target (λ t. ZeroHolds t slots.zeroed seen) target sound.zeroed));
      alone = at_root slots.target (λ t. IsAlone t later) target (from_root slots.target (λ t. IsAlone t slots) target sound.alone);
      sure = λ is. (tt, (sound.sure sure).1);
      filled = at_root slots.target (λ t. IfSome (filled_gate t later) (λ at. (c : List ℕ) → now c → SameBut at 1 file c)) target (λ c left. subst (λ (x : List ℕ). SameBut (gate_of (other slots.current.side)) 1 file x) (sym (only c left)) itself);
    }

-- at any moment of the write
pub body_opens : (slots : Slots) (seen : List ℕ) (before : List ℕ → Type 0) → IsShutRoot slots.other → IsSound slots seen before → (c : List ℕ) → Over (body_of (other slots.current.side)) 24 before c
    → MayOpen (record slots { other = roots.Closed }) c
body_opens slots seen before shut sound c over = may_open (record slots { other = roots.Closed }) c (body_torn slots shut over.0 c over.2 (sound.images over.0 over.1))

-- the gate

still_shut : (known : RootSlot) → IsStillRoot (shut_root known)
still_shut roots.Closed = tt
still_shut roots.Older = tt
still_shut (roots.Written root) = tt
still_shut (roots.Opening root) = tt

ajar_kept : (known : RootSlot) (side : Side) (sequence : ℕ) (d c : List ℕ) → ¬ IsShutRoot known → SameBut (gate_of side) 1 d c → OtherHolds known side sequence d → OtherHolds known side sequence c
ajar_kept roots.Closed side sequence d c ajar same hold = absurd (ajar tt)
ajar_kept roots.Older side sequence d c ajar same hold = older_kept side sequence d c same hold
ajar_kept (roots.Written root) side sequence d c ajar same hold = absurd (ajar tt)
ajar_kept (roots.Opening root) side sequence d c ajar same hold = opening_kept root side sequence d c same hold

gate_zero : (known : RootSlot) (side : Side) (sequence : ℕ) (d c : List ℕ) → ¬ IsShutRoot known → SameBut (gate_of side) 1 d c → slice_index c (gate_of side) ≡ 0 → OtherHolds known side sequence d
    → OtherHolds (shut_root known) side sequence c
gate_zero roots.Closed side sequence d c ajar same zero hold = absurd (ajar tt)
gate_zero roots.Older side sequence d c ajar same zero hold = zero_gate side c zero
gate_zero (roots.Written root) side sequence d c ajar same zero hold = absurd (ajar tt)
gate_zero (roots.Opening root) side sequence d c ajar same zero hold = opening_shut root side sequence d c same zero hold

-- a write of the gate
pub gate_wide : (side : Side) (d c : List ℕ) → SameBut (gate_of side) 1 d c → SameBut (gate_of side) 32 d c
gate_wide side d c same = same_wide (gate_of side) 1 (gate_of side) 32 d c (omega arith) (omega arith) same

pub gate_within : (slots : Slots) (d : List ℕ) → Holds slots d → gate_of (other slots.current.side) + 1 ≤ length d
gate_within slots d hold = omega (arith, front_size d hold.roots.front, side_high (other slots.current.side))

pub gate_torn : (slots : Slots) (d c : List ℕ) → ¬ IsShutRoot slots.other → Torn (gate_of (other slots.current.side)) 1 d c → Holds slots d → Holds slots c
gate_torn slots d c ajar torn hold =
    let same = torn_same (gate_of (other slots.current.side)) 1 d c (gate_within slots d hold) torn in
    root_changed slots slots.other d c (gate_wide (other slots.current.side) d c same) hold (ajar_kept slots.other (other slots.current.side) slots.current.root.sequence d c ajar same hold.roots.other)

pub any_doubt : (slots : Slots) (doubt : Bool) (c : List ℕ) → Holds slots c → Holds (record slots { doubtful = doubt }) c
any_doubt slots doubt c hold = record { roots = record { front = hold.roots.front; current = hold.roots.current; other = hold.roots.other }; log = hold.log }

-- the images agree with what a read gives, but for the gate, before the write and after it
pub gate_filled : (gate : ℕ) (seen torn : List ℕ) (before now : List ℕ → Type 0) → SameBut gate 1 seen torn → ((c : List ℕ) → now c → (d : List ℕ) × before d × SameBut gate 1 d c)
    → ((c : List ℕ) → before c → SameBut gate 1 seen c) → (c : List ℕ) → now c → SameBut gate 1 torn c
gate_filled gate seen torn before now tore from filled c left =
    let was = from c left in same_trans gate 1 torn seen c (same_sym gate 1 seen torn tore) (same_trans gate 1 seen was.0 c (filled was.0 was.1) was.2)

root_filled : (known : RootSlot) (side : Side) (seen torn : List ℕ) (before now : List ℕ → Type 0) → SameBut (gate_of side) 1 seen torn → ((c : List ℕ) → now c → (d : List ℕ) × before d × SameBut (gate_of side) 1 d c)
    → IfSome (filled_root known side) (λ at. (c : List ℕ) → before c → SameBut at 1 seen c) → IfSome (filled_root known side) (λ at. (c : List ℕ) → now c → SameBut at 1 torn c)
root_filled roots.Closed side seen torn before now tore from filled = tt
root_filled roots.Older side seen torn before now tore from filled = tt
root_filled (roots.Written root) side seen torn before now tore from filled = gate_filled (gate_of side) seen torn before now tore from filled
root_filled (roots.Opening root) side seen torn before now tore from filled = gate_filled (gate_of side) seen torn before now tore from filled

-- after a write that is on the disk all images are what a read gives
pub all_same : (o : Option ℕ) (file : List ℕ) (now : List ℕ → Type 0) → Only file now → IfSome o (λ at. (c : List ℕ) → now c → SameBut at 1 file c)
all_same None file now only = tt
all_same (Some at) file now only = λ c left. subst (λ (x : List ℕ). SameBut at 1 file x) (sym (only c left)) (record { size = refl; each = λ k place. refl })

pub close_failed : (slots : Slots) (seen torn : List ℕ) (before now : List ℕ → Type 0) → ¬ IsShutRoot slots.other → slots.target ≡ targets.Root → before seen
    → Torn (gate_of (other slots.current.side)) 1 seen torn → Follows (Torn (gate_of (other slots.current.side)) 1) before now → IsSound slots seen before
    → IsSound (record slots { doubtful = true }) torn now
close_failed slots seen torn before now ajar target here tore crash sound =
    let later : Slots = record slots { doubtful = true } in
    record {
      images = λ c left. let from = crash c left in any_doubt slots true c (gate_torn slots from.0 c ajar from.2 (sound.images from.0 from.1));
      zeroed = at_root slots.target (λ t. ZeroHolds t slots.zeroed torn) target (zero_in slots.zeroed (gate_of (other slots.current.side)) 1 seen torn (omega (arith, side_high (other slots.current.side))) same (from_root slots.target (λ t. ZeroHolds t slots.zeroed seen) target sound.zeroed));
      alone = at_root slots.target (λ t. IsAlone t later) target (from_root slots.target (λ t. IsAlone t slots) target sound.alone);
      sure = λ is. not_both is;
      filled = at_root slots.target (λ t. IfSome (filled_gate t later) (λ at. (c : List ℕ) → now c → SameBut at 1 torn c)) target
          (root_filled slots.other (other slots.current.side) seen torn before now same from_before (from_root slots.target (λ t. IfSome (filled_gate t slots) (λ at. (c : List ℕ) → before c → SameBut at 1 seen c)) target sound.filled));
    }
  where
    same : SameBut (gate_of (other slots.current.side)) 1 seen torn
    same = torn_same (gate_of (other slots.current.side)) 1 seen torn (gate_within slots seen (sound.images seen here)) tore

    from_before : (c : List ℕ) → now c → (d : List ℕ) × before d × SameBut (gate_of (other slots.current.side)) 1 d c
    from_before c left = let from = crash c left in (from.0, from.1, torn_same (gate_of (other slots.current.side)) 1 from.0 c (gate_within slots from.0 (sound.images from.0 from.1)) from.2)

pub close_done : (slots : Slots) (seen : List ℕ) (before now : List ℕ → Type 0) → ¬ IsShutRoot slots.other → slots.target ≡ targets.Root → before seen
    → Only (written (gate_of (other slots.current.side)) (0 ∷ []) seen) now → IsSound slots seen before → IsSound (shut slots.target slots) (written (gate_of (other slots.current.side)) (0 ∷ []) seen) now
close_done slots seen before now ajar target here only sound =
    let later : Slots = record slots { other = shut_root slots.other; doubtful = false } in
    let file = written (gate_of (other slots.current.side)) (0 ∷ []) seen in
    let within_seen : gate_of (other slots.current.side) + 1 ≤ length seen = gate_within slots seen (sound.images seen here) in
    let same : SameBut (gate_of (other slots.current.side)) 1 seen file = written_same (gate_of (other slots.current.side)) (0 ∷ []) seen within_seen in
    let zero : slice_index file (gate_of (other slots.current.side)) ≡ 0 = byte_at_gate (gate_of (other slots.current.side)) 0 seen within_seen in
    let closed : IsSound later file now = record {
      images = λ c left. subst (Holds later) (sym (only c left)) (any_doubt (record slots { other = shut_root slots.other }) false file
          (root_changed slots (shut_root slots.other) seen file (gate_wide (other slots.current.side) seen file same) (sound.images seen here)
          (gate_zero slots.other (other slots.current.side) slots.current.root.sequence seen file ajar same zero (sound.images seen here).roots.other)));
      zeroed = at_root slots.target (λ t. ZeroHolds t slots.zeroed file) target (zero_in slots.zeroed (gate_of (other slots.current.side)) 1 seen file (omega (arith, side_high (other slots.current.side))) same (from_root slots.target (λ t. ZeroHolds t slots.zeroed seen) target sound.zeroed));
      alone = at_root slots.target (λ t. IsAlone t later) target (from_root slots.target (λ t. IsAlone t slots) target sound.alone);
      sure = λ is. (still_shut slots.other, from_root slots.target (λ t. IsAlone t slots) target sound.alone);
      filled = all_same (filled_gate slots.target later) file now only;
    } in
    at_root slots.target (λ t. IsSound (shut t slots) file now) target closed

pub close_opens : (slots : Slots) (seen : List ℕ) (before : List ℕ → Type 0) → ¬ IsShutRoot slots.other → IsSound slots seen before → (c : List ℕ) → Over (gate_of (other slots.current.side)) 1 before c → MayOpen slots c
close_opens slots seen before ajar sound c over = may_open slots c (gate_torn slots over.0 c ajar over.2 (sound.images over.0 over.1))

-- the gate is opened
module _ (slots : Slots) (root : Root) (is_written : slots.other ≡ roots.Written root) (target : slots.target ≡ targets.Root) (is_zeroed : slots.zeroed ≡ Some root.log) where
  filled_seen : (seen : List ℕ) (before : List ℕ → Type 0) → IsSound slots seen before → (c : List ℕ) → before c → SameBut (gate_of (other slots.current.side)) 1 seen c
  filled_seen seen before sound =
      subst (λ (k : RootSlot). IfSome (filled_root k (other slots.current.side)) (λ at. (c : List ℕ) → before c → SameBut at 1 seen c)) is_written
      (from_root slots.target (λ t. IfSome (filled_gate t slots) (λ at. (c : List ℕ) → before c → SameBut at 1 seen c)) target sound.filled)

  zero_seen : (seen : List ℕ) (before : List ℕ → Type 0) → IsSound slots seen before → IsZeroed root.log seen
  zero_seen seen before sound = subst (λ (o : Option ℕ). IfSome o (λ page. IsZeroed page seen)) is_zeroed (from_root slots.target (λ t. ZeroHolds t slots.zeroed seen) target sound.zeroed)

  holds_written : (d : List ℕ) → Holds slots d → OtherHolds (roots.Written root) (other slots.current.side) slots.current.root.sequence d
  holds_written d hold = subst (λ (k : RootSlot). OtherHolds k (other slots.current.side) slots.current.root.sequence d) is_written hold.roots.other

  pub open_torn : (seen : List ℕ) (before : List ℕ → Type 0) (d c : List ℕ) → IsSound slots seen before → before d → SameBut (gate_of (other slots.current.side)) 1 d c → Holds (record slots { other = roots.Opening root }) c
  open_torn seen before d c sound left same =
      let side : Side = other slots.current.side in
      let hold = sound.images d left in
      let zero : IsZeroed root.log d = zero_kept root.log (gate_of (other slots.current.side)) 1 seen d (omega (arith, side_high (other slots.current.side))) (filled_seen seen before sound d left) (zero_seen seen before sound) in
      root_changed slots (roots.Opening root) d c (gate_wide side d c same) hold (written_opens root side slots.current.root.sequence d c same zero (holds_written d hold))

  pub open_failed : (seen torn : List ℕ) (before now : List ℕ → Type 0) → before seen → Torn (gate_of (other slots.current.side)) 1 seen torn → Follows (Torn (gate_of (other slots.current.side)) 1) before now
      → IsSound slots seen before → IsSound (record slots { other = roots.Opening root; doubtful = true }) torn now
  open_failed seen torn before now here tore crash sound =
      let later : Slots = record slots { other = roots.Opening root; doubtful = true } in
      let same : SameBut (gate_of (other slots.current.side)) 1 seen torn = torn_same (gate_of (other slots.current.side)) 1 seen torn (gate_within slots seen (sound.images seen here)) tore in
      let from_before : (c : List ℕ) → now c → (d : List ℕ) × before d × SameBut (gate_of (other slots.current.side)) 1 d c = λ c left. let from = crash c left in
      (from.0, from.1, torn_same (gate_of (other slots.current.side)) 1 from.0 c (gate_within slots from.0 (sound.images from.0 from.1)) from.2) in
      record {
        images = λ c left. let from = from_before c left in any_doubt (record slots { other = roots.Opening root }) true c (open_torn seen before from.0 c sound from.1 from.2);
        zeroed = at_root slots.target (λ t. ZeroHolds t slots.zeroed torn) target (zero_in slots.zeroed (gate_of (other slots.current.side)) 1 seen torn (omega (arith, side_high (other slots.current.side))) same (from_root slots.target (λ t. ZeroHolds t slots.zeroed seen) target sound.zeroed));
        alone = at_root slots.target (λ t. IsAlone t later) target (from_root slots.target (λ t. IsAlone t slots) target sound.alone);
        sure = λ is. not_both is;
        filled = at_root slots.target (λ t. IfSome (filled_gate t later) (λ at. (c : List ℕ) → now c → SameBut at 1 torn c)) target
            (gate_filled (gate_of (other slots.current.side)) seen torn before now same from_before (filled_seen seen before sound));
      }

  pub open_opens : (seen : List ℕ) (before : List ℕ → Type 0) → IsSound slots seen before → (c : List ℕ) → Over (gate_of (other slots.current.side)) 1 before c → MayOpen (record slots { other = roots.Opening root }) c
  open_opens seen before sound c over = may_open (record slots { other = roots.Opening root }) c
      (open_torn seen before over.0 c sound over.1 (torn_same (gate_of (other slots.current.side)) 1 over.0 c (gate_within slots over.0 (sound.images over.0 over.1)) over.2))

  pub open_done : (seen : List ℕ) (before now : List ℕ → Type 0) → before seen → Only (written (gate_of (other slots.current.side)) (2 ∷ []) seen) now → IsSound slots seen before
      → IsSound (with_root root slots) (written (gate_of (other slots.current.side)) (2 ∷ []) seen) now
  open_done seen before now here only sound =
      let side : Side = other slots.current.side in
      let file = written (gate_of (other slots.current.side)) (2 ∷ []) seen in
      let later : Slots = with_root root slots in
      let within_seen = gate_within slots seen (sound.images seen here) in
      let same : SameBut (gate_of (other slots.current.side)) 1 seen file = written_same (gate_of (other slots.current.side)) (2 ∷ []) seen within_seen in
      let opening = open_torn seen before seen file sound here same in
      let two : slice_index file (gate_of (other slots.current.side)) ≡ 2 = byte_at_gate (gate_of (other slots.current.side)) 2 seen within_seen in
      let body : root_at (body_of (other slots.current.side)) file ≡ root = opening.roots.other.1 in
      let back : (root_at (body_of slots.current.side) file).sequence ≡ slots.current.root.sequence = its_sequence slots.current.side file slots.current opening.roots.current in
      let older : (root_at (body_of (other (other slots.current.side))) file).sequence < root.sequence =
      subst (λ (s : Side). (root_at (body_of s) file).sequence < root.sequence) (sym (other_twice slots.current.side)) (subst (λ (n : ℕ). n < root.sequence) (sym back) opening.roots.other.2) in
      record {
        images = λ c left. subst (Holds later) (sym (only c left)) (record {
          roots = record {
            front = opening.roots.front;
            current = open_gate side file two ∙ ap (λ (r : Root). Some (root_in Two (other slots.current.side) r)) body;
            other = older;
          };
          log = empty_page root.log file opening.roots.other.0;
        });
        zeroed = tt;
        alone = tt;
        sure = λ is. (tt, tt);
        filled = tt;
      }
