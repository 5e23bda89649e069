use Rattle.std.proofs.Common.{ap, ◌∙◌}
use Rattle.std.specs.Option.{is_some}
use Rattle.version_catalog.proofs.Maps.{same_some, found_any}
use Rattle.version_catalog.proofs.changing.rules.has_array.Goals as goal

pub returns : goal.returns
returns c = c.is_some.ensures ∙ same_some _ c.array_named.result ∙ ap is_some c.array_named.ensures ∙ found_any c.args.name.now c.args.arrays.now
