use Rattle.std.proofs.Common.{◌∙◌, ◌||◌, ap, false, length, replicate, slice_index_or}
use Rattle.std.proofs.lemmas.List.{length-replicate}
use Rattle.version_reaper.specs.PageSets.{holds}
use Rattle.event_core.proofs.Reaping.{awaited}
use Rattle.store_versions.specs.States.{LeanState}
use Rattle.store_versions.proofs.lean.lean.state.LeanCore.would_free.Goals as goal

pub returns-clause-some : goal.returns-clause-some
returns-clause-some c =
    c.has_others.ensures
    ∙ awaited c.args.self.now.core c.clear.new.self c.mark_live.new.set c.add_all.new.self (c.clear.ensures ∙ ap (λ n. replicate n false) c.requires)
    c.mark_live.ensures.limit c.add_all.ensures.limit c.mark_live.ensures.pages
    (λ p h. c.add_all.ensures.pages p h ∙ ap (λ (s : LeanState). slice_index_or c.mark_live.new.set p false || holds s.core.free p) c.self.view_is)

pub returns-clause-limit : goal.returns-clause-limit
returns-clause-limit c = c.add_all.ensures.limit ∙ c.mark_live.ensures.limit ∙ ap length c.clear.ensures ∙ length-replicate (length c.args.set.now) false
