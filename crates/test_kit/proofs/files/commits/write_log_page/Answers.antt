use Rattle.std.proofs.Common.{replicate, sym, ap, ◌∙◌}
use Rattle.test_kit.proofs.Ready.{may_write, now_laid}
use Rattle.test_kit.proofs.files.commits.write_log_page.Goals as goal

pub write_blob-requires-clause-free : goal.write_blob-requires-clause-free
write_blob-requires-clause-free g c =
    may_write c.args.log c.args.file.now.slots c.if-log-eq0.false (λ e. c.if-log-root.false (e ∙ sym (ap (λ r. r.log) c.root.ensures)))

pub write_blob-requires-clause-pages : goal.write_blob-requires-clause-pages
write_blob-requires-clause-pages g c = sym c.if-blob_pages-ne1.false ∙ c.blob_pages.ensures

pub returns-in-Ok-clause-laid : goal.returns-in-Ok-clause-laid
returns-in-Ok-clause-laid g c =
    now_laid c.args.file.now.slots c.write_blob.new.self.slots c.args.log (replicate 4096 0) c.in-Ok.ensures.slots c.requires.closed
    (sym c.are_zeros.ensures ∙ c.if-not-are_zeros.false)
