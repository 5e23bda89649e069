use Rattle.std.proofs.Common.{◌∙◌, ap}
use Rattle.std.specs.Int.{from_bool}
use Rattle.check_sources.proofs.Origins.{counted_on}
use Rattle.check_sources.proofs.redimension.target.+count_synthetic.Goals as goal

pub returns-in-len1-up-clause-value : goal.returns-in-len1-up-clause-value
returns-in-len1-up-clause-value t c =
    counted_on c.args.source.now c.args.dimensions.now c.first-item.result c.from.result c.count_synthetic.result
    c.in-len1-up.len_at_least c.first-item.is (c.from.ensures ∙ ap from_bool c.is_synthetic.ensures) c.count_synthetic.ensures.value
