use Rattle.std.proofs.Common.{◌∙◌, sym}
use Rattle.check_shapes.proofs.Among.{among_dimensions}
use Rattle.check_shapes.proofs.names.is_dimension_name.Goals as goal

pub returns : goal.returns
returns c = c.any_dimension.ensures ∙ sym (among_dimensions c.args.name.now c.args.dimensions.now)
