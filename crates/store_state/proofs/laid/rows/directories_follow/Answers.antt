use Rattle.store_state.proofs.RowsDirectories.{directories_follow, orders_stay}
use Rattle.store_state.proofs.laid.rows.directories_follow.Goals as goal

pub returns-clause-directories : goal.returns-clause-directories
returns-clause-directories c = directories_follow

pub returns-clause-order : goal.returns-clause-order
returns-clause-order c = orders_stay
