use Rattle.event_core.proofs.state.Core.ready.Goals as goal

pub returns : goal.returns
returns c = λ i. record { core = c.of.ensures i; change = c.of-2.ensures i; used = c.of-3.ensures i }
