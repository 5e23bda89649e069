use Rattle.std.proofs.Common.{◌∙◌, sym}
use Rattle.check_sources.proofs.Origins.{among_attributes}
use Rattle.check_sources.proofs.redimension.target.has_attribute.Goals as goal

pub returns : goal.returns
returns c = c.any_attribute.ensures ∙ sym (among_attributes c.args.name.now c.args.attributes.now)
