use Rattle.std.proofs.Common.{◌∙◌}
use Rattle.statement_replies.proofs.Offers.{offer_comes}
use Rattle.statement_replies.proofs.Targets.{can_trace}
use Rattle.statement_replies.proofs.answers.changes.offer_of.Goals as goal

pub chunks_of-requires-clause-ready : goal.chunks_of-requires-clause-ready
chunks_of-requires-clause-ready g c κs within = c.requires.ready

pub chunks_of-requires-clause-typed : goal.chunks_of-requires-clause-typed
chunks_of-requires-clause-typed g c κs within = c.requires.typed

pub answered-requires : goal.answered-requires
answered-requires g c =
    can_trace c.args.names.now (g.S.ChunkSource.state c.args.source.now) c.requires.ready.holds (g.S.ChunkSource.state c.chunks_of.new.source) c.args.change.now
    c.in-Ok.ensures.made.kept c.requires.typed

pub returns-in-Ok-clause-come : goal.returns-in-Ok-clause-come
returns-in-Ok-clause-come g c =
    offer_comes c.args.style c.args.names.now c.args.change.now c.chunks_of.new.asking (g.S.ChunkSource.state c.args.source.now) (g.S.ChunkSource.state c.chunks_of.new.source)
    (g.S.ChunkSource.state c.answered.new.source) c.in-Ok.made c.answered.result c.has_its_names.ensures c.requires.typed c.in-Ok.ensures.made c.answered.ensures.answer

pub returns-in-Ok-clause-start : goal.returns-in-Ok-clause-start
returns-in-Ok-clause-start g c = c.answered.ensures.start ∙ c.in-Ok.ensures.start

pub returns-in-Err-clause-come : goal.returns-in-Err-clause-come
returns-in-Err-clause-come g c =
    let by = c.in-Err.ensures.made in
    record { kind = tt; told = tt; asked = tt; front = by.front; kept = by.kept; cause = by.cause }

pub returns-in-Err-clause-start : goal.returns-in-Err-clause-start
returns-in-Err-clause-start g c = c.in-Err.ensures.start
