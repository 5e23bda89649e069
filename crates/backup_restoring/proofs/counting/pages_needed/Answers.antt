use Rattle.std.proofs.Common.{sym, ◌∙◌}
use Rattle.file_meaning.proofs.Counts.{counts_agree}
use Rattle.backup_restoring.proofs.counting.pages_needed.Goals as goal

pub returns : goal.returns
returns c = c.blob_pages.ensures ∙ sym (counts_agree c.args.bytes)
