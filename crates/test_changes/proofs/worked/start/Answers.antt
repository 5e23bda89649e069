use Rattle.test_changes.proofs.Made.{base_as}
use Rattle.test_changes.proofs.worked.start.Goals as goal

pub returns : goal.returns
returns c = base_as c.new.result c.new-2.result c.in_ok-catalogue.catalogue c.new-3.result c.in_ok-free.free c.new.ensures c.new-2.ensures c.in_ok-catalogue.ensures c.new-3.ensures c.in_ok-free.ensures
