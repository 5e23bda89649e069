use Rattle.std.proofs.Common.{◌≡◌, slice_index, sym, ◌∙◌, ap}
use Rattle.page_chain.specs.Places.{gate_of, other}
use Rattle.page_chain.specs.declared.slots.layout.sides.Side.{Side}
use Rattle.page_file.proofs.Fronts.{older_one, older_two, other_shut}
use Rattle.page_file.proofs.opening.opening.other_of.Goals as goal

pub returns-then-gate-eq1-clause-other : goal.returns-then-gate-eq1-clause-other
returns-then-gate-eq1-clause-other c =
    let gate : c.gate_in-gate.result ≡ slice_index c.args.page.now (gate_of (other c.args.it.side)) = c.gate_in-gate.ensures ∙ ap (λ (s : Side). slice_index c.args.page.now (gate_of s)) c.other.ensures in
    older_one c.args.page.now c.args.it c.requires.opens (sym gate ∙ c.if-gate-eq1.true)

pub returns-then-gate-eq2-clause-other : goal.returns-then-gate-eq2-clause-other
returns-then-gate-eq2-clause-other c =
    let gate : c.gate_in-gate.result ≡ slice_index c.args.page.now (gate_of (other c.args.it.side)) = c.gate_in-gate.ensures ∙ ap (λ (s : Side). slice_index c.args.page.now (gate_of s)) c.other.ensures in
    older_two c.args.page.now c.args.it c.requires.opens (sym gate ∙ c.if-gate-eq2.true)

pub returns-clause-other : goal.returns-clause-other
returns-clause-other c =
    let gate : c.gate_in-gate.result ≡ slice_index c.args.page.now (gate_of (other c.args.it.side)) = c.gate_in-gate.ensures ∙ ap (λ (s : Side). slice_index c.args.page.now (gate_of s)) c.other.ensures in
    other_shut (other c.args.it.side) c.args.page.now (λ one. c.if-gate-eq1.false (gate ∙ one)) (λ two. c.if-gate-eq2.false (gate ∙ two))
