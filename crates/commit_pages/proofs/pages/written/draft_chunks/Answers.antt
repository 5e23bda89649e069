use Rattle.commit_pages.proofs.pages.written.draft_chunks.Goals as goal

pub returns-in-Ok-clause-short : goal.returns-in-Ok-clause-short
returns-in-Ok-clause-short c = c.in-Ok.ensures.short
