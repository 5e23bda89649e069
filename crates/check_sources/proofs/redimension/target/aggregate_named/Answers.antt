use Rattle.std.proofs.Common.{◌∙◌, sym}
use Rattle.check_sources.proofs.Origins.{named_found}
use Rattle.check_sources.proofs.redimension.target.aggregate_named.Goals as goal

pub returns : goal.returns
returns c = c.find_aggregate.ensures ∙ sym (named_found c.args.aggregates.now c.args.name.now)
