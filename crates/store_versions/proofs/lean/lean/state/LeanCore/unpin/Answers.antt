use Rattle.std.proofs.Common.{◌∙◌, List, rules, ap, not, nat_eq}
use Rattle.std.specs.List.{filter}
use Rattle.std.proofs.lemmas.Fn.{filter_same}
use Rattle.store_versions.specs.declared.lean.lean.pin.LeanPin.{LeanPin}
use Rattle.store_versions.specs.LeanRows.{is_needed}
use Rattle.store_versions.proofs.States.{unpin_keeps, unpin_tells}
use Rattle.store_versions.proofs.lean.lean.state.LeanCore.unpin.Goals as goal

pub invariant_of-self : goal.invariant_of-self
invariant_of-self c =
    let i = c.self.inside in
    unpin_keeps i.rows.items _ i.pins.items _ i.entries c.args.session c.self.invariant
    (filter_same _ (λ pin. not (nat_eq pin.session c.args.session)) _ (λ x b f' k. search rules) _ _ c.retain.ensures.filtered)
    (c.forget.ensures.rows ∙ ap (λ (ps : List LeanPin). filter (is_needed ps) i.rows.items) c.as_slice-pins.ensures.value)

pub returns-clause-core : goal.returns-clause-core
returns-clause-core c =
    let i = c.self.inside in
    unpin_tells i.names i.rows.items _ i.catalogue i.pins.items _ i.free i.limit i.entries c.args.session _ c.args.self.now c.self.view_is
    (filter_same _ (λ pin. not (nat_eq pin.session c.args.session)) _ (λ x b f' k. search rules) _ _ c.retain.ensures.filtered)
    (c.forget.ensures.rows ∙ ap (λ (ps : List LeanPin). filter (is_needed ps) i.rows.items) c.as_slice-pins.ensures.value)
