use Rattle.std.proofs.Common.{◌∙◌, sym}
use Rattle.check_groups.proofs.Among.{among_aggregates}
use Rattle.check_groups.proofs.aggregates.aggregate.is_aggregate_name.Goals as goal

pub returns : goal.returns
returns c = c.any_aggregate.ensures ∙ sym (among_aggregates c.args.name.now c.args.done.now)
