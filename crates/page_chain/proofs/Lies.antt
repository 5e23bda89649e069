-- Where the target lies.
use Rattle.std.proofs.Common.{◌≡◌, ◌≤◌, ℕ, ◌+◌, ◌*◌, List, length, true, refl, sym, subst, arith}
use Rattle.std.proofs.lemmas.Bool.Decides.{nat_tests}
use Rattle.page_chain.specs.Places.{gate_of, other, IsPage}
use Rattle.page_chain.specs.Roots.{has_front}
use Rattle.page_chain.specs.declared.slots.layout.sides.Side.{Side}
use Rattle.page_chain.specs.declared.slots.layout.sides.Side.TheVariants.{A, B}
use Rattle.page_chain.specs.declared.slots.layout.sides.Format.{Format}
use Rattle.page_chain.specs.declared.slots.layout.sides.Format.TheVariants.{Two}
use Rattle.page_chain.specs.Standing.{target_page, gate_place, Holds, HasTarget, LogHolds, PageHolds, IsTarget}
use Rattle.page_chain.specs.declared.slots.slots.slots.Slots.{Slots}
use Rattle.page_chain.specs.declared.slots.slots.slots.Target.{Target}
use Rattle.page_chain.specs.declared.slots.slots.slots.Target.TheVariants as targets

pub long_front : (c : List ℕ) → has_front c ≡ true → 4096 ≤ length c
long_front c front = grind (arith, nat_tests)

gate_low : (side : Side) → gate_of side + 32 ≤ 4096
gate_low A = omega arith
gate_low B = omega arith

-- an image that holds what is known has the log page
pub has_log : (slots : Slots) (now : List ℕ) → slots.current.format ≡ Two → Holds slots now → IsPage slots.current.root.log (length now)
has_log slots now format holds =
    let log : PageHolds slots.current.root.log slots.records slots.next now = subst (λ (f : Format). LogHolds f slots.current.root.log slots.records slots.next now) format holds.log in
    log.is_page

pub has_target : (slots : Slots) (c : List ℕ) → IsTarget slots → Holds slots c → HasTarget slots c
has_target slots c there holds = by_target slots.target refl
  where
    by_target : (t : Target) → slots.target ≡ t → HasTarget slots c
    by_target targets.Root is = record {
      from = subst (λ (t : Target). 4096 * target_page t slots ≤ gate_place t slots) (sym is) (omega arith);
      to = subst (λ (t : Target). gate_place t slots + 32 ≤ 4096 * (target_page t slots + 1)) (sym is) (omega (arith, gate_low (other slots.current.side)));
      whole = subst (λ (t : Target). 4096 * (target_page t slots + 1) ≤ length c) (sym is) (omega (arith, long_front c holds.roots.front));
    }
    by_target targets.Record is =
        let format = (there is).0 in
        let room = (there is).1 in
        let page : IsPage slots.current.root.log (length c) = has_log slots c format holds in
        record {
          from = subst (λ (t : Target). 4096 * target_page t slots ≤ gate_place t slots) (sym is) (omega arith);
          to = subst (λ (t : Target). gate_place t slots + 32 ≤ 4096 * (target_page t slots + 1)) (sym is) (omega (arith, room));
          whole = subst (λ (t : Target). 4096 * (target_page t slots + 1) ≤ length c) (sym is) (omega (arith, page.within));
        }
