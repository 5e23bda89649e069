use Rattle.std.proofs.Common.{◌≡◌, Option, IfOk, subst}
use Rattle.logical_plan.specs.declared.names.NameEntry.{NameEntry}
use Rattle.plan_changes.specs.Changes.{entry_named}
use Rattle.result_print.specs.Listings.{show_text}
use Rattle.statement_replies.specs.Statements.{entry_text}
use Rattle.statement_replies.proofs.replies.listings.show_reply.Goals as goal

pub returns : goal.returns
returns c =
    c.told.ensures (entry_text show_text (entry_named c.args.names.now.arrays c.args.name.now))
    (subst (λ (o : Option NameEntry). IfOk c.show_text.result (λ t. t ≡ entry_text show_text o)) c.in-Some.ensures c.show_text.ensures)
