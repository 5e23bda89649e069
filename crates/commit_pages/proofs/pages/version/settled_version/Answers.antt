use Rattle.std.proofs.Common.{sym, subst, ap}
use Rattle.commit_pages.specs.declared.pages.written.Written.{Written}
use Rattle.commit_pages.specs.Versions.{version_in, HasRisingNumbers}
use Rattle.commit_pages.proofs.Results.{handed}
use Rattle.commit_pages.proofs.pages.version.settled_version.Goals as goal

pub returns-in-Ok : goal.returns-in-Ok
returns-in-Ok c = handed c.version_of.result _ _ (ap (λ (written : Written). version_in c.args.behind.now written c.args.newest.now) c.in-Ok.ensures) c.version_of.ensures

pub version_of-requires-clause-written : goal.version_of-requires-clause-written
version_of-requires-clause-written c = subst HasRisingNumbers (sym c.in-Ok.ensures) c.requires.written

pub version_of-requires-clause-newest : goal.version_of-requires-clause-newest
version_of-requires-clause-newest c = c.requires.newest
