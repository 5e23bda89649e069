use Rattle.std.proofs.Common.{length, sym, ◌∙◌, ap, arith}
use Rattle.file_meaning.proofs.Counts.{counts_agree}
use Rattle.backup_restoring.specs.Inner.Layout.{pages_from}
use Rattle.backup_restoring.proofs.pages.write_bytes.Goals as goal

pub overflow_cast-count : goal.overflow_cast-count
overflow_cast-count g c = let is = c.blob_pages-count.ensures in let same = counts_agree (length c.args.bytes.now) in omega (arith, is, same, c.requires.room)

pub pages_from-requires : goal.pages_from-requires
pages_from-requires g c = let is = c.blob_pages-count.ensures in let same = counts_agree (length c.args.bytes.now) in omega (arith, is, same, c.requires.room)

pub write_to-requires-clause-pages : goal.write_to-requires-clause-pages
write_to-requires-clause-pages g c =
    c.as_slice.ensures ∙ c.in-Ok.ensures ∙ ap (pages_from c.args.first) (c.blob_pages-count.ensures ∙ sym (counts_agree (length c.args.bytes.now)))

pub returns-in-Ok-write_to-clause-pages : goal.returns-in-Ok-write_to-clause-pages
returns-in-Ok-write_to-clause-pages g c = c.in-Ok.ensures ∙ ap (pages_from c.args.first) (c.blob_pages-count.ensures ∙ sym (counts_agree (length c.args.bytes.now)))
