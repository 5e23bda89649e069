use Rattle.std.proofs.Common.{◌∙◌, sym}
use Rattle.check_shapes.proofs.Among.{among_attributes}
use Rattle.check_shapes.proofs.names.is_attribute_name.Goals as goal

pub returns : goal.returns
returns c = c.any_attribute.ensures ∙ sym (among_attributes c.args.name.now c.args.attributes.now)
