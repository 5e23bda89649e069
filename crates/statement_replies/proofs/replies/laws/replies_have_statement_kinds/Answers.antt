use Rattle.statement_replies.proofs.StatementReplies.{have_statement_kinds}
use Rattle.statement_replies.proofs.replies.laws.replies_have_statement_kinds.Goals as goal

pub returns : goal.returns
returns c = have_statement_kinds
