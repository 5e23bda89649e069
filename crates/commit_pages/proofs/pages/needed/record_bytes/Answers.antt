use Rattle.std.proofs.Common.{sym, ap, ◌∙◌}
use Rattle.commit_pages.specs.Commits.{spelled}
use Rattle.commit_pages.proofs.pages.needed.record_bytes.Goals as goal

pub returns-in-Ok : goal.returns-in-Ok
returns-in-Ok c = c.in-Ok.ensures ∙ sym (ap spelled c.in_ok-entry.ensures.entry)
