use Rattle.std.proofs.Common.{◌∙◌, sym}
use Rattle.std.proofs.lemmas.Bool.{false≢true}
use Rattle.test_stores.proofs.Seeing.{pin_stays}
use Rattle.test_stores.proofs.steps.committed.Goals as goal

pub commit-found-requires-clause-told : goal.commit-found-requires-clause-told
commit-found-requires-clause-told g c = λ db began. absurd (false≢true (sym c.requires.untold ∙ began.honest))

pub returns-clause-pin : goal.returns-clause-pin
returns-clause-pin g c =
    pin_stays g.D.Disk.moment c.args.shared.now c.commit-found.new.seat c.given_back.new.seat c.args.pinned.now
    (record { holds = c.commit-found.ensures.pin; stored = c.requires.pin.pin.stored }) c.given_back.ensures.same c.given_back.ensures.seen
