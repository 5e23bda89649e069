use Rattle.statement_replies.proofs.PlanReplies.{have_kinds}
use Rattle.statement_replies.proofs.replies.laws.replies_have_kinds.Goals as goal

pub returns : goal.returns
returns c = have_kinds
