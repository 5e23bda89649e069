use Rattle.statement_replies.proofs.StatementReplies.{queries_replied}
use Rattle.statement_replies.proofs.replies.laws.queries_have_their_replies.Goals as goal

pub returns : goal.returns
returns c = queries_replied
