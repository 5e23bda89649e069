use Rattle.std.proofs.Common.{◌∙◌, ap, false, length, replicate}
use Rattle.std.proofs.lemmas.List.{length-replicate}
use Rattle.event_core.proofs.Reaping.{unmarked}
use Rattle.event_core.proofs.state.Core.count_unused.Goals as goal

pub returns-clause-limit : goal.returns-clause-limit
returns-clause-limit c = c.mark_live.ensures.limit ∙ ap length c.clear.ensures ∙ length-replicate (length c.args.set.now) false

pub returns-clause-count : goal.returns-clause-count
returns-clause-count c =
    c.free_of.ensures
    ∙ ap length (unmarked c.args.self.now c.clear.new.self c.mark_live.new.set (c.clear.ensures ∙ ap (λ n. replicate n false) c.requires) c.mark_live.ensures.limit c.mark_live.ensures.pages)
