use Rattle.std.proofs.Common.{◌∙◌}
use Rattle.file_items.proofs.Among.{among_dimensions}
use Rattle.file_items.proofs.schemas.dimensions.is_dimension.Goals as goal

pub returns : goal.returns
returns c = c.any_dimension.ensures ∙ among_dimensions c.args.name.now c.args.dimensions.now
