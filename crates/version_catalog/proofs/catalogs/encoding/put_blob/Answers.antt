use Rattle.std.proofs.Common.{ap, ◌++◌}
use Rattle.std.specs.Int.{w64, to_le_bytes}
use Rattle.std.proofs.lemmas.Result.{IfOk-equal}
use Rattle.file_items.specs.Pages.{spell_pages}
use Rattle.file_items.proofs.Puts.{put_two}
use Rattle.version_catalog.specs.Spelling.{spell_blob}
use Rattle.version_catalog.proofs.catalogs.encoding.put_blob.Goals as goal

pub returns : goal.returns
unfolding spell_blob
returns c =
    IfOk-equal c.put_pages.result c.put_pages.new.out _ _ c.put_pages.ensures
    (put_two c.args.out.now c.put_u64.new.out _ (to_le_bytes w64 c.args.blob.now.length) (spell_pages c.args.blob.now.pages) c.in_ok-put_u64.ensures
    (ap (λ pages. c.put_u64.new.out ++ spell_pages pages) c.as_slice.ensures))
