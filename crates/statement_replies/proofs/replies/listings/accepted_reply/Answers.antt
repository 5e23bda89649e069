use Rattle.std.proofs.Common.{◌++◌}
use Rattle.statement_replies.specs.Statements.{change_text}
use Rattle.statement_replies.proofs.replies.listings.accepted_reply.Goals as goal

pub returns : goal.returns
returns c =
    let text = change_text c.args.names.now c.args.change.now in
    c.told.ensures (text ++ c.args.lines.now) (c.with_lines.ensures text c.change_text.ensures)
