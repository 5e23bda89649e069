use Rattle.test_sources.proofs.Stored.{is_stored}
use Rattle.test_sources.proofs.example.stored.Goals as goal

pub returns-clause-stored : goal.returns-clause-stored
returns-clause-stored c = is_stored c.args.layout (record { leaf = c.in_ok-example_leaf.field-0; array = c.in_ok-array.field-0 }) c.in_ok-example_leaf.ensures c.in_ok-array.ensures.array c.in_ok-array.ensures.margins
