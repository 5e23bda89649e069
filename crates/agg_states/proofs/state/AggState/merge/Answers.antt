use Rattle.std.proofs.Common.{refl, subst, sym, arith}
use Rattle.std.proofs.lemmas.Int.{ints}
use Rattle.agg_states.specs.Stands.{StandsFor}
use Rattle.agg_states.proofs.Results.{merge_stands}
use Rattle.agg_states.proofs.state.AggState.merge.Goals as goal

pub returns-clause-stands : goal.returns-clause-stands
returns-clause-stands c = λ g a b left right apart.
    let i = c.self.invariant in
    let j = c.other.invariant in
    merge_stands g a b _ _ _ (subst (StandsFor g a) (sym c.self.view_is) left) (subst (StandsFor g b) (sym c.other.view_is) right) apart
    refl c.earlier_of.ensures refl refl (omega (arith, ints)) c.better_of.ensures
