use Rattle.std.proofs.Common.{◌≡◌, ◌+◌, ◌-◌, ◌∙◌, ℕ, List, true, false, length, sym, subst, arith}
use Rattle.cell_values.specs.Schemas.{is_among}
use Rattle.logical_plan.specs.PlanSchema.{free_from, with_suffix}
use Rattle.check_rules.specs.Checked.{Answers}
use Rattle.check_groups.specs.Names.{short_name}
use Rattle.check_joins.proofs.Suffixes.{free_here, free_last, free_on}
use Rattle.check_joins.proofs.free.free_from.Goals as goal

pub returns-then-not-is_given : goal.returns-then-not-is_given
returns-then-not-is_given c =
    let bytes = c.as_slice.ensures ∙ c.in_ok-bytes.ensures.value in
    let new : is_among (with_suffix c.args.name.now c.loop-number.number) c.args.given.now ≡ false = grind (arith, bytes, c.is_given.ensures, c.if-not-is_given.true) in
    let found : free_from (length c.args.given.now + 2 - c.loop-number.number) c.loop-number.number c.args.given.now c.args.name.now ≡ with_suffix c.args.name.now c.loop-number.number
    = free_here c.args.given.now c.args.name.now (length c.args.given.now + 2 - c.loop-number.number) c.loop-number.number new in
    subst (λ (x : List ℕ). Answers c.named.result (short_name c.args.span x)) (c.in_ok-bytes.ensures.value ∙ sym found ∙ c.loop-number.invariant) c.named.ensures

pub loop-number-preserved : goal.loop-number-preserved
loop-number-preserved c =
    let bytes = c.as_slice.ensures ∙ c.in_ok-bytes.ensures.value in
    let taken : is_among (with_suffix c.args.name.now c.loop-number.number) c.args.given.now ≡ true = grind (arith, bytes, c.is_given.ensures, c.if-not-is_given.false) in
    sym (free_on c.args.given.now c.args.name.now (length c.args.given.now + 2 - c.loop-number.number) (length c.args.given.now + 2 - (c.loop-number.number + 1)) c.loop-number.number
    (omega (arith, c.loop-number-test.true)) taken) ∙ c.loop-number.invariant

pub returns : goal.returns
returns c =
    let found : free_from (length c.args.given.now + 2 - c.loop-number.number) c.loop-number.number c.args.given.now c.args.name.now ≡ with_suffix c.args.name.now (length c.args.given.now + 2)
    = free_last c.args.given.now c.args.name.now (length c.args.given.now + 2 - c.loop-number.number) c.loop-number.number (length c.args.given.now + 2)
    (omega (arith, c.loop-number-test.false, c.loop-number.auto)) (omega (arith, c.loop-number-test.false, c.loop-number.auto)) in
    subst (λ (x : List ℕ). Answers c.named-2.result (short_name c.args.span x)) (c.in_ok-suffixed.ensures.value ∙ sym found ∙ c.loop-number.invariant) c.named-2.ensures
