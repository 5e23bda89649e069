use Rattle.std.proofs.Common.{List, ℕ, ap, ◌∙◌}
use Rattle.commit_pages.specs.Versions.{drafted}
use Rattle.commit_pages.proofs.Results.{blob_of}
use Rattle.commit_pages.proofs.pages.written.drafted_payload.Goals as goal

pub returns-clause-drafted : goal.returns-clause-drafted
returns-clause-drafted c = ap (λ (pages : List ℕ). blob_of pages c.in_ok-bytes.bytes) c.in_ok-pages.ensures.pages ∙ ap drafted c.in_ok-bytes.ensures

pub returns-clause-short : goal.returns-clause-short
returns-clause-short c = c.in_ok-pages.ensures.short
