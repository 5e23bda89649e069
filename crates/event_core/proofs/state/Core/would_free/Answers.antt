use Rattle.std.proofs.Common.{◌∙◌, ap, false, length, replicate}
use Rattle.std.proofs.lemmas.List.{length-replicate}
use Rattle.event_core.proofs.Reaping.{awaited}
use Rattle.event_core.proofs.state.Core.would_free.Goals as goal

pub returns-clause-limit : goal.returns-clause-limit
returns-clause-limit c =
    c.add_all.ensures.limit ∙ c.mark_live.ensures.limit ∙ ap length c.clear.ensures ∙ length-replicate (length c.args.set.now) false

pub returns-clause-some : goal.returns-clause-some
returns-clause-some c =
    c.has_others.ensures
    ∙ awaited c.args.self.now c.clear.new.self c.mark_live.new.set c.add_all.new.self (c.clear.ensures ∙ ap (λ n. replicate n false) c.requires)
    c.mark_live.ensures.limit c.add_all.ensures.limit c.mark_live.ensures.pages c.add_all.ensures.pages
