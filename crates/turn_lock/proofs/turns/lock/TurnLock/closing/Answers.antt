use Rattle.std.proofs.Common.{rules, []}
use Rattle.turn_lock.specs.Inner.Views.{spent_view}
use Rattle.turn_lock.proofs.Ends.{sits}
use Rattle.turn_lock.proofs.turns.lock.TurnLock.closing.Goals as goal

pub load_new_seat-all-requires : goal.load_new_seat-all-requires
load_new_seat-all-requires g c = (search rules, sits g.V.History.origin g.V.History.entries g.V.History.owner _ _ _ _ (spent_view, []))
