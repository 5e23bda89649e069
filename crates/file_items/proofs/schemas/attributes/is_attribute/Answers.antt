use Rattle.std.proofs.Common.{◌∙◌}
use Rattle.file_items.proofs.Among.{among_attributes}
use Rattle.file_items.proofs.schemas.attributes.is_attribute.Goals as goal

pub returns : goal.returns
returns c = c.any_attribute.ensures ∙ among_attributes c.args.name.now c.args.attributes.now
