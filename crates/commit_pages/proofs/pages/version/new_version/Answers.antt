use Rattle.std.proofs.Common.{IfSome, ℕ, List, Option, drop, sym, subst, ap, ◌∙◌}
use Rattle.commit_pages.specs.declared.pages.written.Written.{Written}
use Rattle.commit_pages.specs.Versions.{settled, version_in, new_version, payload_count, HasRisingNumbers}
use Rattle.commit_pages.proofs.Results.{handed}
use Rattle.commit_pages.proofs.pages.version.new_version.Goals as goal

pub settled_version-requires-clause-written : goal.settled_version-requires-clause-written
settled_version-requires-clause-written c = subst (λ (written : Option Written). IfSome written HasRisingNumbers) c.in-Some.is c.requires.written

pub returns-in-Some : goal.returns-in-Some
returns-in-Some c =
    let pages = c.args.pages.now in
    let written = c.in-Some.written in
    let newest = c.args.newest.now in
    handed c.settled_version.result _ _
    (ap (λ (behind : List ℕ). version_in behind (settled pages written) newest) (c.pages_behind.ensures ∙ ap (λ (n : ℕ). drop n pages) (c.requires.count ∙ ap payload_count c.in-Some.is))
    ∙ sym (ap (λ (some : Option Written). new_version pages some newest) c.in-Some.is)) c.settled_version.ensures
