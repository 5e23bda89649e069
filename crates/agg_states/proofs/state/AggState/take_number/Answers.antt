use Rattle.std.proofs.Common.{◌+◌, ◌+ℤ◌, refl, subst, sym, ap, ◌∙◌, arith}
use Rattle.std.proofs.lemmas.Int.{ints, to_z-of_z}
use Rattle.std.specs.Option.{option_map}
use Rattle.logical_plan.specs.Groups.{number_of}
use Rattle.agg_states.specs.Merged.{earlier, count_of, best_with}
use Rattle.agg_states.specs.Stands.{StandsFor}
use Rattle.agg_states.proofs.Results.{take_stands}
use Rattle.agg_states.proofs.state.AggState.take_number.Goals as goal

pub returns-clause-stands : goal.returns-clause-stands
returns-clause-stands c = λ g rows new stands value none empty.
    let here : StandsFor g rows _ = subst (StandsFor g rows) (sym c.self.view_is) stands in
    let i = c.self.invariant in
    take_stands g rows new _ _ here empty refl
    (λ j. earlier (option_map (λ kind. record { at = new.at; kind = kind }) (sym none j)) c.self.inside.fault)
    refl
    (ap (λ v. c.self.inside.values + count_of v) (sym value))
    (omega (arith, ints) ∙ ap (λ v. c.self.inside.total +ℤ number_of v) (sym value))
    ((simp (to_z-of_z, c.ranges.number) at c.keep_number.ensures) ∙ ap (λ v. best_with c.self.inside.function v c.self.inside.best) (sym value))
