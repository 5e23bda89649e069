use Rattle.std.proofs.Common.{slice_index, refl, sym, ap, ◌∙◌}
use Rattle.std.specs.FinSet.{insert}
use Rattle.page_chain.proofs.SetLemmas.{first_pages}
use Rattle.page_chain.proofs.page_set.PageSet.of.Goals as goal

pub loop-page-preserved : goal.loop-page-preserved
loop-page-preserved c =
    c.in_ok-insert.ensures ∙ ap (λ s. insert s (slice_index c.args.pages.now c.loop-page.page-index)) c.loop-page.invariant ∙ sym (first_pages c.args.pages.now c.loop-page.page-index (slice_index c.args.pages.now c.loop-page.page-index) c.loop-page-test.true refl)
