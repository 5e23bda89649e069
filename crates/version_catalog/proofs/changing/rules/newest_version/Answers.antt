use Rattle.std.proofs.Common.{◌∙◌, ap, sym}
use Rattle.version_catalog.specs.Records.{newest_in}
use Rattle.version_catalog.proofs.Maps.{newest_map}
use Rattle.version_catalog.proofs.changing.rules.newest_version.Goals as goal

pub returns : goal.returns
returns c = c.newest_in.ensures ∙ ap newest_in c.array_named.ensures ∙ sym (newest_map c.args.name.now c.args.arrays.now)
