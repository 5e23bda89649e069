use Rattle.store_opening.specs.Bases.{pages_named}
use Rattle.store_opening.proofs.PairLaws.{next_pair, none_to_pair}
use Rattle.store_opening.proofs.bases.base.push_version.Goals as goal

pub returns-in-Ok-push : goal.returns-in-Ok-push
returns-in-Ok-push c =
    λ lists. next_pair (pages_named c.args.name.now) c.in-Some.number.now c.in-Some.rest.now c.args.left.now c.args.pages lists c.in-Ok.version c.args.versions.now
    c.push.new.self c.in-Some.ensures.cases.0 c.in-Ok.ensures c.in-Ok-push.ensures.ok

pub returns-in-None : goal.returns-in-None
returns-in-None c = λ lists. none_to_pair (pages_named c.args.name.now) c.args.left.now c.args.pages lists c.args.versions.now c.in-None.ensures.cases
