use Rattle.std.proofs.Common.{◌∙◌}
use Rattle.version_catalog.proofs.Pairs.{count_pairs}
use Rattle.version_catalog.proofs.catalogs.encoding.count_versions.Goals as goal

pub returns-clause-count : goal.returns-clause-count
returns-clause-count c = c.min.ensures ∙ count_pairs c.args.numbers.now c.args.directories.now
