use Rattle.std.proofs.Common.{refl, ◌∙◌, length, ap}
use Rattle.std.specs.Prelude.{slice_index_or}
use Rattle.std.proofs.lemmas.List.{length-replicate}
use Rattle.file_reading.proofs.TakenLaws.{is_started, started_more}
use Rattle.file_reading.proofs.taken.taken_pages.Goals as goal

pub loop-page-preserved : goal.loop-page-preserved
loop-page-preserved c =
    started_more c.args.pages.now _ c.loop-page.page-index (slice_index_or c.args.pages.now c.loop-page.page-index 0) _ _ c.loop-page-test.true refl c.take.ensures.limit c.take.ensures.pages c.loop-page.invariant

pub returns : goal.returns
returns c = λ file is.
    is_started c.args.pages.now _ c.loop-page.page-index _ c.loop-page-test.false c.loop-page.invariant file c.args.count is (ap length c.in_ok-set.ensures ∙ length-replicate _ _)
