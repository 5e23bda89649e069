use Rattle.result_print.specs.Listings.{list_text}
use Rattle.statement_replies.proofs.replies.listings.list_reply.Goals as goal

pub returns : goal.returns
returns c = c.told.ensures (list_text c.args.names.now) c.list_text.ensures
