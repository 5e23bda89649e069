use Rattle.std.proofs.Common.{IfSome, Option, ◌<◌, ◌≤◌, ◌^◌, length, sym, subst, arith, Some, ap, ◌∙◌}
use Rattle.std.specs.List.{AllByRecursion}
use Rattle.commit_pages.specs.declared.pages.written.Written.{Written}
use Rattle.commit_pages.specs.Changes.{AreValid}
use Rattle.commit_pages.proofs.Rules.{can_be_listed}
use Rattle.array_geom.specs.declared.chunk.Changed.{Changed}
use Rattle.array_geom.specs.Link.{NumbersRise, numbers}
use Rattle.commit_pages.specs.Versions.{draft, IsWritten, CanBeListed, draft_of}
use Rattle.commit_pages.proofs.Drafts.{is_written}
use Rattle.commit_pages.proofs.pages.written.draft.Goals as goal

pub returns-in_ok-draft_chunks-in-Some-clause-ready : goal.returns-in_ok-draft_chunks-in-Some-clause-ready
returns-in_ok-draft_chunks-in-Some-clause-ready c =
    subst IsWritten (sym c.in_ok-draft_chunks-in-Some.ensures.drafted)
    (is_written c.args.birth c.in-Some.changed (subst (λ (o : Option Changed). IfSome o (λ some. NumbersRise (numbers some.chunks))) c.in-Some.is c.requires))

pub returns-in_ok-draft_chunks-in-Some-clause-listed : goal.returns-in_ok-draft_chunks-in-Some-clause-listed
returns-in_ok-draft_chunks-in-Some-clause-listed c =
    let short = subst (λ (w : Written). AllByRecursion (λ one. length one.bytes < 2 ^ 64) w.payloads) c.in_ok-draft_chunks-in-Some.ensures.drafted c.in_ok-draft_chunks-in-Some.ensures.short in
    subst (λ (o : Option Changed). IfSome o (λ some. AreValid some → 1 ≤ c.args.birth → CanBeListed (length some.schema.dimensions) (draft c.args.birth some))) (sym c.in-Some.is)
    (λ valid some. can_be_listed c.args.birth c.in-Some.changed (omega (arith, c.ranges.birth.fits)) short valid some)

pub returns-in_ok-draft_chunks-in-Some-clause-spelled : goal.returns-in_ok-draft_chunks-in-Some-clause-spelled
returns-in_ok-draft_chunks-in-Some-clause-spelled c = ap (λ (w : Written). Some w) c.in_ok-draft_chunks-in-Some.ensures.drafted ∙ sym (ap (draft_of c.args.birth) c.in-Some.is)
