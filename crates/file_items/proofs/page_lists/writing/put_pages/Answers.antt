use Rattle.std.proofs.Common.{length, slice_index, refl}
use Rattle.std.specs.Int.{w32, to_le_bytes}
use Rattle.file_items.proofs.Puts.{put_more_or}
use Rattle.file_items.proofs.page_lists.writing.put_pages.Goals as goal

pub loop-page-preserved : goal.loop-page-preserved
loop-page-preserved c =
    put_more_or (to_le_bytes w32) c.args.out.now (to_le_bytes w32 (length c.args.pages.now)) c.loop-page.out c.put_u32.new.out c.args.pages.now c.loop-page.page-index
    (slice_index c.args.pages.now c.loop-page.page-index) 0 c.loop-page-test.true refl c.loop-page.invariant c.in_ok-put_u32.ensures
