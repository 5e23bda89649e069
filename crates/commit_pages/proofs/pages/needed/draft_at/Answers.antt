use Rattle.std.proofs.Common.{IfSome, Option, Some, sym, subst, ap, ◌∙◌}
use Rattle.file_meaning.specs.BlobAt.{BlobAt}
use Rattle.commit_pages.specs.declared.pages.written.Written.{Written}
use Rattle.commit_pages.specs.Versions.{draft_at, HasRisingNumbers}
use Rattle.commit_pages.proofs.pages.needed.draft_at.Goals as goal

pub returns-in_ok-drafted_directory-in-Some : goal.returns-in_ok-drafted_directory-in-Some
returns-in_ok-drafted_directory-in-Some c =
    ap (λ (at : BlobAt). Some at) c.in_ok-drafted_directory-in-Some.ensures ∙ sym (ap (λ (written : Option Written). draft_at written c.args.newest.now) c.in-Some.is)

pub drafted_directory-requires-clause-written : goal.drafted_directory-requires-clause-written
drafted_directory-requires-clause-written c = subst (λ (written : Option Written). IfSome written HasRisingNumbers) c.in-Some.is c.requires.written
