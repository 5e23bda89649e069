use Rattle.std.proofs.Common.{Option, Result, Ok, Err, refl, subst, sym}
use Rattle.cell_values.specs.declared.datum.Broken.{Broken}
use Rattle.array_geom.specs.declared.chunk.Changed.{Changed}
use Rattle.chunk_source.proofs.ReadLemmas.{keeps_still}
use Rattle.chunk_source.specs.declared.reading.fault.ExecFault.TheVariants as fault
use Rattle.statement_replies.specs.declared.answers.outcome.Offer.{Offer}
use Rattle.statement_replies.specs.Inner.Come.{IsAnswered}
use Rattle.statement_replies.proofs.Offers.{none_is, offer_is, refusal_is}
use Rattle.statement_replies.proofs.answers.changes.answered.Goals as goal

pub returns-in-Ok-reply_of_change-clause-answer : goal.returns-in-Ok-reply_of_change-clause-answer
returns-in-Ok-reply_of_change-clause-answer g c =
    let names = c.args.names.now in
    let change = c.args.change.now in
    let old = g.S.ChunkSource.state c.args.source.now in
    let new = g.S.ChunkSource.state c.reply_of_change.new.source in
    let reply = c.in-Ok-reply_of_change.reply in
    let by = c.in-Ok-reply_of_change.ensures in
    let offer : Offer = record { changed = c.in-Ok.changed; reply = reply } in
    subst (λ (made : Result (Option Changed) Broken). IsAnswered c.args.style names old new change c.args.target made (Ok (Ok offer))) (sym c.in-Ok.is)
    (offer_is c.args.style names change c.args.target old new c.in-Ok.changed reply by.kind by.told by.asked by.kept by.cause)

pub returns-in-Ok-reply_of_change-clause-start : goal.returns-in-Ok-reply_of_change-clause-start
returns-in-Ok-reply_of_change-clause-start g c = c.in-Ok-reply_of_change.ensures.start

pub returns-in-Err-reply_of_change-clause-answer : goal.returns-in-Err-reply_of_change-clause-answer
returns-in-Err-reply_of_change-clause-answer g c =
    let by = c.in-Err-reply_of_change.ensures in
    none_is c.args.style c.args.names.now c.args.change.now c.args.target (g.S.ChunkSource.state c.args.source.now) (g.S.ChunkSource.state c.reply_of_change.new.source)
    c.args.made c.in-Err-reply_of_change.fault by.asked by.kept by.cause

pub returns-in-Err-reply_of_change-clause-start : goal.returns-in-Err-reply_of_change-clause-start
returns-in-Err-reply_of_change-clause-start g c = c.in-Err-reply_of_change.ensures.start

pub returns-in-Ok-faulty-clause-answer : goal.returns-in-Ok-faulty-clause-answer
returns-in-Ok-faulty-clause-answer g c =
    let names = c.args.names.now in
    let change = c.args.change.now in
    let source = g.S.ChunkSource.state c.args.source.now in
    let reply = c.in-Ok-faulty.reply in
    subst (λ (made : Result (Option Changed) Broken). IsAnswered c.args.style names source source change c.args.target made (Ok (Err reply))) (sym c.in-Err.is)
    (refusal_is c.args.style names change c.args.target source c.in-Err.broken reply c.in-Ok-faulty.ensures)

pub returns-in-Ok-faulty-clause-start : goal.returns-in-Ok-faulty-clause-start
returns-in-Ok-faulty-clause-start g c = refl

pub returns-in-Err-faulty-clause-answer : goal.returns-in-Err-faulty-clause-answer
returns-in-Err-faulty-clause-answer g c =
    let source = g.S.ChunkSource.state c.args.source.now in
    none_is c.args.style c.args.names.now c.args.change.now c.args.target source source c.args.made fault.Memory refl (keeps_still source) refl

pub returns-in-Err-faulty-clause-start : goal.returns-in-Err-faulty-clause-start
returns-in-Err-faulty-clause-start g c = refl
