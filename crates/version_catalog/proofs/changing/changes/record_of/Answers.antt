use Rattle.version_catalog.proofs.Recorded.{if_stands, if_allowed, if_same}
use Rattle.version_catalog.proofs.changing.changes.record_of.Goals as goal

pub returns-clause-allowed : goal.returns-clause-allowed
returns-clause-allowed c = if_allowed c.args.catalog.now c.args.change.now c.args.directory c.recorded_change.result (if_stands c.args.catalog.now c.args.change.now c.args.directory c.recorded_change.result c.requires.names c.recorded_change.ensures)

pub returns-clause-same : goal.returns-clause-same
returns-clause-same c = if_same c.args.catalog.now c.args.change.now c.args.directory c.recorded_change.result (if_stands c.args.catalog.now c.args.change.now c.args.directory c.recorded_change.result c.requires.names c.recorded_change.ensures)
