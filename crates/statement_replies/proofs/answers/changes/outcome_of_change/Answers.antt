use Rattle.std.proofs.Common.{subst, sym}
use Rattle.afl_types.specs.declared.types.statements.checking.Typed.TheVariants.{Change as AChange}
use Rattle.statement_replies.specs.Inner.Come.{ComesOf}
use Rattle.statement_replies.proofs.Answering.{good}
use Rattle.statement_replies.proofs.answers.changes.outcome_of_change.Goals as goal

pub offer_of-offer-requires-clause-ready : goal.offer_of-offer-requires-clause-ready
offer_of-offer-requires-clause-ready g c κs within = c.requires.ready

pub offer_of-offer-requires-clause-typed : goal.offer_of-offer-requires-clause-typed
offer_of-offer-requires-clause-typed g c κs within = c.requires.typed

pub returns-clause-come : goal.returns-clause-come
returns-clause-come g c =
    let old = g.S.ChunkSource.state c.args.source.now in
    let new = g.S.ChunkSource.state c.offer_of-offer.new.source in
    subst (ComesOf c.args.style c.args.names.now old new (good (AChange c.args.change))) (sym c.offered.ensures) c.offer_of-offer.ensures.come

pub returns-clause-start : goal.returns-clause-start
returns-clause-start g c = c.offer_of-offer.ensures.start
