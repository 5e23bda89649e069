use Rattle.std.proofs.Common.{get_or}
use Rattle.turn_lock.proofs.Ends.{value_at_end, none_at_end}
use Rattle.turn_lock.proofs.Gathering.{item_at}
use Rattle.turn_lock.proofs.turns.closing.Closing.end.Goals as goal

pub unreachable-requires : goal.unreachable-requires
unreachable-requires g c = none_at_end g.V.History.origin g.V.History.entries g.V.History.owner _ _ _ c.args.self.all.me.0 _ _ c.args.self.idle c.requires c.close_with-closed.ensures.values.2 c.in-None.ensures.value

pub returns-clause-origin : goal.returns-clause-origin
returns-clause-origin g c = (value_at_end g.V.History.origin g.V.History.entries g.V.History.owner _ _ _ c.args.self.all.me.0 _ _ c.in-Some.value c.args.self.idle c.requires
    c.close_with-closed.ensures.values.2 c.in-Some.ensures.value).0

pub returns-clause-entries : goal.returns-clause-entries
returns-clause-entries g c = λ k d near. (value_at_end g.V.History.origin g.V.History.entries g.V.History.owner _ _ _ c.args.self.all.me.0 _ _ c.in-Some.value c.args.self.idle c.requires
    c.close_with-closed.ensures.values.2 c.in-Some.ensures.value).1 k (get_or c.args.self.all.me.0.claims k d) (item_at c.args.self.all.me.0.claims k d near)

pub returns-clause-owned : goal.returns-clause-owned
returns-clause-owned g c = (value_at_end g.V.History.origin g.V.History.entries g.V.History.owner _ _ _ c.args.self.all.me.0 _ _ c.in-Some.value c.args.self.idle c.requires
    c.close_with-closed.ensures.values.2 c.in-Some.ensures.value).2
