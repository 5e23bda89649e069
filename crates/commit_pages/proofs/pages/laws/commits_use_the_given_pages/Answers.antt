use Rattle.commit_pages.proofs.Fresh.{records_use_the_given, bases_use_the_given}
use Rattle.commit_pages.proofs.pages.laws.commits_use_the_given_pages.Goals as goal

pub returns : goal.returns
returns c = record { records = records_use_the_given; bases = bases_use_the_given }
