use Rattle.std.proofs.Common.{◌≡◌, ◌+◌, ◌+ℤ◌, refl, subst, sym, ap, ◌∙◌, arith}
use Rattle.std.proofs.lemmas.Int.{ints}
use Rattle.std.specs.Option.{option_map}
use Rattle.logical_plan.specs.Groups.{attribute_of, fault_for, number_of}
use Rattle.agg_states.specs.Merged.{earlier, count_of, best_with}
use Rattle.agg_states.specs.Stands.{StandsFor}
use Rattle.agg_states.proofs.Results.{take_stands}
use Rattle.agg_states.proofs.state.AggState.take.Goals as goal

pub returns-clause-stands : goal.returns-clause-stands
returns-clause-stands c = λ g rows stands attribute empty.
    let here : StandsFor g rows _ = subst (StandsFor g rows) (sym c.self.view_is) stands in
    let value : c.value_in-value.result.now ≡ attribute_of g.attribute c.args.cell.now = c.value_in-value.ensures ∙ ap (λ x. attribute_of x c.args.cell.now) (sym attribute) in
    let fault : c.fault_in.result ≡ fault_for g.function g.attribute c.args.cell.now = c.fault_in.ensures ∙ (λ i. fault_for (here.function i) (sym attribute i) c.args.cell.now) in
    let i = c.self.invariant in
    take_stands g rows _ _ _ here empty refl
    (c.earlier_of-self-inside.ensures ∙ (λ i. earlier ((c.placed_fault-fault.ensures ∙ ap (option_map (λ kind. record { at = c.args.at.now; kind = kind })) fault) i) (c.take.ensures.value i)))
    refl
    (ap (λ n. c.self.inside.values + n) (c.count_of.ensures ∙ ap count_of value))
    (omega (arith, ints) ∙ ap (λ n. c.self.inside.total +ℤ n) (c.number_of.ensures ∙ ap number_of value))
    (c.in_ok-keep_best.ensures.ok ∙ ap (λ v. best_with c.self.inside.function v c.self.inside.best) value)
