use Rattle.std.proofs.Common.{sym, ◌∙◌, ap}
use Rattle.file_meaning.specs.Opening.{are_pages}
use Rattle.file_reading.proofs.EntryLaws.{all_true}
use Rattle.file_reading.proofs.entries.is_entry.Goals as goal

pub returns-then-has_commit : goal.returns-then-has_commit
returns-then-has_commit c = λ file before has.
    all_true _ _ (are_pages file c.args.entry.now.pages) c.are_pages.result (sym c.has_core.ensures ∙ c.if-has_core.true) (sym c.has_commit.ensures ∙ c.if-has_commit.true)
    (c.are_pages.ensures file before has ∙ ap (are_pages file) c.as_slice.ensures)
