use Rattle.std.proofs.Common.{◌∙◌, ap, subst, sym, rules}
use Rattle.std.proofs.lemmas.Int.{to_z-of_z}
use mir.Val.{SFits}
use mir.Syntax.{w128}
use Rattle.agg_states.specs.Merged.{outcome}
use Rattle.agg_states.specs.Stands.{StandsFor}
use Rattle.agg_states.proofs.Finishing.{told_fault, told_outcome}
use Rattle.agg_states.proofs.state.AggState.value.Goals as goal

pub returns-in-Some : goal.returns-in-Some
returns-in-Some c = λ g attributes rows stands typed kinds.
    told_fault g attributes rows _ (subst (StandsFor g rows) (sym c.self.view_is) stands) typed kinds c.in-Some.broken c.in-Some.is

pub returns-in_ok-best-in-None : goal.returns-in_ok-best-in-None
returns-in_ok-best-in-None c = λ g attributes rows stands typed kinds.
    let fits : SFits w128 c.self.inside.total = search rules in
    told_outcome g attributes rows _ (subst (StandsFor g rows) (sym c.self.view_is) stands) typed kinds c.outcome.result c.in-None.is
    (simp to_z-of_z at c.outcome.ensures ∙ ap (outcome c.self.inside.function c.self.inside.cells c.self.inside.values c.self.inside.total) c.in_ok-best-in-None.ensures)
