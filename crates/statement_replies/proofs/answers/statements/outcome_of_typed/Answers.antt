use Rattle.std.proofs.Common.{ap, refl, subst}
use Rattle.afl_types.specs.declared.types.statements.checking.Typed.TheVariants.{Query as AQuery, Change as AChange, Versions, Show, ListArrays}
use Rattle.statement_replies.specs.Statements.{list_reply, show_reply, versions_reply}
use Rattle.statement_replies.specs.Inner.Made.{CanAnswer}
use Rattle.statement_replies.proofs.Answering.{good, listing_told}
use Rattle.statement_replies.proofs.Coming.{comes_over, reply_comes}
use Rattle.statement_replies.proofs.answers.statements.outcome_of_typed.Goals as goal

pub outcome_of_query-requires-clause-ready : goal.outcome_of_query-requires-clause-ready
outcome_of_query-requires-clause-ready g c κs within = c.requires.ready

pub outcome_of_query-requires-clause-can : goal.outcome_of_query-requires-clause-can
outcome_of_query-requires-clause-can g c κs within = subst (CanAnswer c.args.names.now (g.S.ChunkSource.state c.args.source.now)) c.in-Query.is c.requires.can

pub outcome_of_change-requires-clause-ready : goal.outcome_of_change-requires-clause-ready
outcome_of_change-requires-clause-ready g c κs within = c.requires.ready

pub outcome_of_change-requires-clause-typed : goal.outcome_of_change-requires-clause-typed
outcome_of_change-requires-clause-typed g c κs within = subst (CanAnswer c.args.names.now (g.S.ChunkSource.state c.args.source.now)) c.in-Change.is c.requires.can

pub versions_reply-requires : goal.versions_reply-requires
versions_reply-requires g c = subst (CanAnswer c.args.names.now (g.S.ChunkSource.state c.args.source.now)) c.in-Versions.is c.requires.can

pub show_reply-requires : goal.show_reply-requires
show_reply-requires g c = subst (CanAnswer c.args.names.now (g.S.ChunkSource.state c.args.source.now)) c.in-Show.is c.requires.can

pub returns-in-Query-clause-come : goal.returns-in-Query-clause-come
returns-in-Query-clause-come g c =
    comes_over c.args.style c.args.names.now (g.S.ChunkSource.state c.args.source.now) (g.S.ChunkSource.state c.outcome_of_query.new.source) c.outcome_of_query.result
    (good c.args.typed) (good (AQuery c.in-Query.plan)) (ap good c.in-Query.is) c.outcome_of_query.ensures.come

pub returns-in-Query-clause-start : goal.returns-in-Query-clause-start
returns-in-Query-clause-start g c = c.outcome_of_query.ensures.start

pub returns-in-Change-clause-come : goal.returns-in-Change-clause-come
returns-in-Change-clause-come g c =
    comes_over c.args.style c.args.names.now (g.S.ChunkSource.state c.args.source.now) (g.S.ChunkSource.state c.outcome_of_change.new.source) c.outcome_of_change.result
    (good c.args.typed) (good (AChange c.in-Change.change)) (ap good c.in-Change.is) c.outcome_of_change.ensures.come

pub returns-in-Change-clause-start : goal.returns-in-Change-clause-start
returns-in-Change-clause-start g c = c.outcome_of_change.ensures.start

pub returns-in-Versions-clause-come : goal.returns-in-Versions-clause-come
returns-in-Versions-clause-come g c =
    let names = c.args.names.now in
    let source = g.S.ChunkSource.state c.args.source.now in
    let reply = versions_reply names c.in-Versions.name in
    comes_over c.args.style names source source c.replied.result (good c.args.typed) (good (Versions c.in-Versions.name)) (ap good c.in-Versions.is)
    (reply_comes c.args.style names source (good (Versions c.in-Versions.name)) reply refl (listing_told names source (λ n. versions_reply n c.in-Versions.name) reply refl) (λ rows. refl)
    c.versions_reply.result c.replied.result c.replied.ensures c.versions_reply.ensures)

pub returns-in-Versions-clause-start : goal.returns-in-Versions-clause-start
returns-in-Versions-clause-start g c = refl

pub returns-in-Show-clause-come : goal.returns-in-Show-clause-come
returns-in-Show-clause-come g c =
    let names = c.args.names.now in
    let source = g.S.ChunkSource.state c.args.source.now in
    let reply = show_reply names c.in-Show.name in
    comes_over c.args.style names source source c.replied-in-Show.result (good c.args.typed) (good (Show c.in-Show.name)) (ap good c.in-Show.is)
    (reply_comes c.args.style names source (good (Show c.in-Show.name)) reply refl (listing_told names source (λ n. show_reply n c.in-Show.name) reply refl) (λ rows. refl)
    c.show_reply.result c.replied-in-Show.result c.replied-in-Show.ensures c.show_reply.ensures)

pub returns-in-Show-clause-start : goal.returns-in-Show-clause-start
returns-in-Show-clause-start g c = refl

pub returns-in-ListArrays-clause-come : goal.returns-in-ListArrays-clause-come
returns-in-ListArrays-clause-come g c =
    let names = c.args.names.now in
    let source = g.S.ChunkSource.state c.args.source.now in
    comes_over c.args.style names source source c.replied-in-ListArrays.result (good c.args.typed) (good ListArrays) (ap good c.in-ListArrays.is)
    (reply_comes c.args.style names source (good ListArrays) (list_reply names) refl (listing_told names source list_reply (list_reply names) refl) (λ rows. refl)
    c.list_reply.result c.replied-in-ListArrays.result c.replied-in-ListArrays.ensures c.list_reply.ensures)

pub returns-in-ListArrays-clause-start : goal.returns-in-ListArrays-clause-start
returns-in-ListArrays-clause-start g c = refl
