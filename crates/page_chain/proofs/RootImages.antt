-- What images hold of page 0, before a write and after it.
use Rattle.std.proofs.Common.{◌≡◌, ◌≢◌, ◌<◌, ◌≤◌, ◌⊎◌, inl, inr, ⊎_elim, ℕ, ◌+◌, ◌*◌, List, length, slice_index, true, Some, None, refl, sym, ◌∙◌, ap, subst, arith}
use Rattle.std.proofs.lemmas.Bool.{cases_eq}
use Rattle.std.proofs.lemmas.Bool.Decides.{nat_tests}
use Rattle.page_chain.specs.Places.{gate_of, body_of, other, SameBut}
use Rattle.page_chain.specs.Roots.{has_front, root_at, slot_in, opened, current}
use Rattle.page_chain.specs.declared.slots.layout.sides.Side.{Side}
use Rattle.page_chain.specs.declared.slots.layout.sides.Side.TheVariants.{A, B}
use Rattle.page_chain.specs.declared.slots.layout.sides.Format.{Format}
use Rattle.page_chain.specs.declared.slots.layout.sides.Format.TheVariants.{One, Two}
use Rattle.page_chain.specs.declared.slots.layout.roots.Root.{Root}
use Rattle.page_chain.specs.declared.slots.layout.roots.OpenRoot.{OpenRoot}
use Rattle.page_chain.proofs.SlotsKept.{root_kept, front_kept}
use Rattle.page_chain.specs.Standing.{IsZeroed, OtherHolds, RootsHold, IsStillRoot, root_in}
use Rattle.page_chain.specs.declared.slots.slots.slots.Slots.{Slots}
use Rattle.page_chain.specs.declared.slots.slots.slots.RootSlot.{RootSlot}
use Rattle.page_chain.specs.declared.slots.slots.slots.RootSlot.TheVariants as roots

pub slot_kept : (side : Side) (d c : List ℕ) → slice_index c (gate_of side) ≡ slice_index d (gate_of side)
    → ((k : ℕ) → body_of side ≤ k → k < body_of side + 24 → slice_index c k ≡ slice_index d k) → slot_in side c ≡ slot_in side d
slot_kept side d c gate body = ap (λ (g : ℕ). opened side g (root_at (body_of side) c)) gate ∙ ap (λ (r : Root). opened side (slice_index d (gate_of side)) r) (root_kept (body_of side) d c body)

-- a slot that is closed stays so while its gate does
shut_opened : (side : Side) (gate : ℕ) (r s : Root) → opened side gate r ≡ None → opened side gate s ≡ None
shut_opened side gate r s is = ⊎_elim (one gate is) (λ not_one. ⊎_elim (two gate is) (λ not_two. shut gate not_one not_two) (cases_eq gate 2)) (cases_eq gate 1)
  where
    one : (g : ℕ) → opened side g r ≡ None → g ≡ 1 → opened side g s ≡ None
    one g none e = let at_one : opened side 1 r ≡ None = subst (λ (x : ℕ). opened side x r ≡ None) e none in cc

    two : (g : ℕ) → opened side g r ≡ None → g ≡ 2 → opened side g s ≡ None
    two g none e = let at_two : opened side 2 r ≡ None = subst (λ (x : ℕ). opened side x r ≡ None) e none in cc

    shut : (g : ℕ) → g ≢ 1 → g ≢ 2 → opened side g s ≡ None
    shut g not_one not_two = grind (arith, nat_tests)

pub gate_shut : (side : Side) (d c : List ℕ) → slice_index c (gate_of side) ≡ slice_index d (gate_of side) → slot_in side d ≡ None → slot_in side c ≡ None
gate_shut side d c gate none =
    subst (λ (g : ℕ). opened side g (root_at (body_of side) c) ≡ None) (sym gate) (shut_opened side (slice_index d (gate_of side)) (root_at (body_of side) d) (root_at (body_of side) c) none)

pub zero_gate : (side : Side) (c : List ℕ) → slice_index c (gate_of side) ≡ 0 → slot_in side c ≡ None
zero_gate side c is = subst (λ (g : ℕ). opened side g (root_at (body_of side) c) ≡ None) (sym is) refl

pub open_gate : (side : Side) (c : List ℕ) → slice_index c (gate_of side) ≡ 2 → slot_in side c ≡ Some (root_in Two side (root_at (body_of side) c))
open_gate side c is = subst (λ (g : ℕ). opened side g (root_at (body_of side) c) ≡ Some (root_in Two side (root_at (body_of side) c))) (sym is) refl

pub opened_cases : (side : Side) (gate : ℕ) (r : Root) → (opened side gate r ≡ None) ⊎ ((format : Format) × (opened side gate r ≡ Some (root_in format side r)))
opened_cases side gate r = ⊎_elim (λ one. inr (One, subst (λ (g : ℕ). opened side g r ≡ Some (root_in One side r)) (sym one) refl))
    (λ not_one. ⊎_elim (λ two. inr (Two, subst (λ (g : ℕ). opened side g r ≡ Some (root_in Two side r)) (sym two) refl)) (λ not_two. inl (shut gate not_one not_two)) (cases_eq gate 2)) (cases_eq gate 1)
  where
    shut : (g : ℕ) → g ≢ 1 → g ≢ 2 → opened side g r ≡ None
    shut g not_one not_two = grind (arith, nat_tests)

-- places of page 0
pub gate_then_body : (side : Side) → body_of side ≡ gate_of side + 8
gate_then_body A = refl
gate_then_body B = refl

pub side_low : (side : Side) → 512 ≤ gate_of side
side_low A = omega arith
side_low B = omega arith

pub side_high : (side : Side) → gate_of side + 32 ≤ 1056
side_high A = omega arith
side_high B = omega arith

pub other_twice : (side : Side) → other (other side) ≡ side
other_twice A = refl
other_twice B = refl

-- a write in one slot leaves the other
pub side_kept : (side : Side) (d c : List ℕ) → SameBut (gate_of (other side)) 32 d c → slot_in side c ≡ slot_in side d
side_kept A d c same = slot_kept A d c (same.each 512 (inl (omega arith))) (λ k low high. same.each k (inl (omega arith)))
side_kept B d c same = slot_kept B d c (same.each 1024 (inr (omega arith))) (λ k low high. same.each k (inr (omega arith)))

-- a write in the other slot, after which that one holds what is said
pub other_changed : (slots : Slots) (known : RootSlot) (d c : List ℕ) → SameBut (gate_of (other slots.current.side)) 32 d c → RootsHold slots d
    → OtherHolds known (other slots.current.side) slots.current.root.sequence c → RootsHold (record slots { other = known }) c
other_changed slots known d c same hold new = record {
  front = front_kept d c (omega (arith, same.size)) (λ k low. same.each k (inl (omega (arith, side_low (other slots.current.side))))) hold.front;
  current = side_kept slots.current.side d c same ∙ hold.current;
  other = new;
}

body_kept : (side : Side) (d c : List ℕ) → SameBut (gate_of side) 1 d c → root_at (body_of side) c ≡ root_at (body_of side) d
body_kept side d c same = root_kept (body_of side) d c (λ k low high. same.each k (inr (omega (arith, gate_then_body side))))

pub zero_kept : (page at n : ℕ) (d c : List ℕ) → at + n ≤ 4096 → SameBut at n d c → IsZeroed page d → IsZeroed page c
zero_kept page at n d c low same zero = record {
  is_page = record { least = zero.is_page.least; within = omega (arith, zero.is_page.within, same.size) };
  zeros = λ k small. same.each (4096 * page + k) (inr (omega (arith, zero.is_page.least))) ∙ zero.zeros k small;
}

-- The gate was written: a slot that may be open is as it was.
abbrev pub ajar : RootSlot → RootSlot
ajar roots.Closed = roots.Closed
ajar roots.Older = roots.Older
ajar (roots.Written root) = roots.Opening root
ajar (roots.Opening root) = roots.Opening root

pub older_kept : (side : Side) (sequence : ℕ) (d c : List ℕ) → SameBut (gate_of side) 1 d c → OtherHolds roots.Older side sequence d → OtherHolds roots.Older side sequence c
older_kept side sequence d c same hold = subst (λ (r : Root). r.sequence < sequence) (sym (body_kept side d c same)) hold

pub opening_kept : (root : Root) (side : Side) (sequence : ℕ) (d c : List ℕ) → SameBut (gate_of side) 1 d c → OtherHolds (roots.Opening root) side sequence d → OtherHolds (roots.Opening root) side sequence c
opening_kept root side sequence d c same hold = (zero_kept root.log (gate_of side) 1 d c (omega (arith, side_high side)) same hold.0, body_kept side d c same ∙ hold.1, hold.2)

pub written_opens : (root : Root) (side : Side) (sequence : ℕ) (d c : List ℕ) → SameBut (gate_of side) 1 d c → IsZeroed root.log d → OtherHolds (roots.Written root) side sequence d → OtherHolds (roots.Opening root) side sequence c
written_opens root side sequence d c same zero hold = (zero_kept root.log (gate_of side) 1 d c (omega (arith, side_high side)) same zero, body_kept side d c same ∙ hold.1, hold.2)

pub opening_shut : (root : Root) (side : Side) (sequence : ℕ) (d c : List ℕ) → SameBut (gate_of side) 1 d c → slice_index c (gate_of side) ≡ 0 → OtherHolds (roots.Opening root) side sequence d → OtherHolds (roots.Written root) side sequence c
opening_shut root side sequence d c same zero hold = (zero_gate side c zero, body_kept side d c same ∙ hold.1, hold.2)

-- page 0 is as it was
pub roots_kept : (slots : Slots) (d c : List ℕ) → IsStillRoot slots.other → length d ≤ length c → ((k : ℕ) → k < 4096 → slice_index c k ≡ slice_index d k) → RootsHold slots d → RootsHold slots c
roots_kept slots d c still longer same hold = record {
  front = front_kept d c longer (λ k low. same k (omega arith)) hold.front;
  current = there slots.current.side ∙ hold.current;
  other = other_kept slots.other (other slots.current.side) still hold.other;
}
  where
    there : (side : Side) → slot_in side c ≡ slot_in side d
    there side = slot_kept side d c (same (gate_of side) (omega (arith, side_high side))) (λ k low high. same k (omega (arith, side_high side, gate_then_body side)))

    body : (side : Side) → root_at (body_of side) c ≡ root_at (body_of side) d
    body side = root_kept (body_of side) d c (λ k low high. same k (omega (arith, side_high side, gate_then_body side)))

    other_kept : (known : RootSlot) (side : Side) → IsStillRoot known → OtherHolds known side slots.current.root.sequence d → OtherHolds known side slots.current.root.sequence c
    other_kept roots.Closed side still hold = there side ∙ hold
    other_kept roots.Older side still hold = subst (λ (r : Root). r.sequence < slots.current.root.sequence) (sym (body side)) hold
    other_kept (roots.Written root) side still hold = (there side ∙ hold.0, body side ∙ hold.1, hold.2)
    other_kept (roots.Opening root) side still hold = absurd still

-- which slot is current
pub is_newest : (side : Side) (c : List ℕ) (it : OpenRoot) → has_front c ≡ true → slot_in side c ≡ Some it
    → (slot_in (other side) c ≡ None) ⊎ ((older : OpenRoot) × (slot_in (other side) c ≡ Some older) × (older.root.sequence < it.root.sequence)) → current c ≡ Some it
is_newest A c it front here (inl none) = grind (arith, nat_tests)
is_newest A c it front here (inr older) = let h : older.0.root.sequence < it.root.sequence = older.2 in grind (arith, nat_tests)
is_newest B c it front here (inl none) = grind (arith, nat_tests)
is_newest B c it front here (inr older) = let h : older.0.root.sequence < it.root.sequence = older.2 in grind (arith, nat_tests)
