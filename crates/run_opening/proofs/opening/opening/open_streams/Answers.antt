use Rattle.std.proofs.Common.{length, refl}
use Rattle.run_opening.proofs.OpeningLemmas.{hands_none, or_second}
use Rattle.run_opening.proofs.opening.opening.open_streams.Goals as goal

pub returns-in-Err-clause-some : goal.returns-in-Err-clause-some
returns-in-Err-clause-some g c =
    let start = g.F.Shelf.state c.args.shelf.now in
    hands_none (length c.args.scripts.now) start start refl

pub returns-in-Ok-clause-cause : goal.returns-in-Ok-clause-cause
returns-in-Ok-clause-cause g c = or_second c.open_in.result _ _ c.open_in.ensures.cause
