use Rattle.std.proofs.Common.{◌≡◌, ◌∙◌, ap, false, ◌||◌, arith, length, slice_index_or}
use Rattle.std.proofs.lemmas.List.{length-replicate, get_or-replicate}
use Rattle.version_reaper.specs.PageSets.{holds}
use Rattle.event_core.proofs.marks.set_of.Goals as goal

pub returns : goal.returns
returns c = λ p h.
    let none : length c.in_ok-set.set ≡ c.args.limit = ap length c.in_ok-set.ensures ∙ length-replicate c.args.limit false in
    let all : length c.add_all.new.self ≡ c.args.limit = c.add_all.ensures.limit ∙ none in
    c.add_all.ensures.pages p (omega (arith, h, all, none))
    ∙ ap (λ b. b || holds c.args.pages.now p) (ap (λ s. slice_index_or s p false) c.in_ok-set.ensures ∙ get_or-replicate c.args.limit p false false (omega (arith, h, all)))
