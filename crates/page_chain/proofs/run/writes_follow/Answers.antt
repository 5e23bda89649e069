use Rattle.page_chain.proofs.RunLemmas.{writes_follow}
use Rattle.page_chain.proofs.run.writes_follow.Goals as goal

pub returns : goal.returns
returns g c = λ first second old between new p q.
    let a = g.D.Disk.moment old in
    let b = g.D.Disk.moment between in
    let c = g.D.Disk.moment new in
    writes_follow first second a.state b.state c.state a.left_since b.left_since c.left_since a.may_leave b.may_leave c.may_leave p q
