use Rattle.commit_pages.proofs.Costs.{records_cost, bases_cost}
use Rattle.commit_pages.proofs.pages.laws.commits_take_what_they_cost.Goals as goal

pub returns : goal.returns
returns c = record { records = records_cost; bases = bases_cost }
