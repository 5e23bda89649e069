use Rattle.std.proofs.Common.{Ok}
use Rattle.afl_outside.proofs.FileLemmas.{reply_handed, reply_others}
use Rattle.test_runs.proofs.capped.CappedShelfShelf.reply.Goals as goal

pub returns-in-Ok-clause-handed : goal.returns-in-Ok-clause-handed
returns-in-Ok-clause-handed c = reply_handed c.args.name.now c.args.self.now.shelf c.reply.new.self (Ok c.in-Ok.sink) c.in-Ok.ensures.exact

pub returns-in-Ok-clause-others : goal.returns-in-Ok-clause-others
returns-in-Ok-clause-others c =
    reply_others c.args.name.now c.args.self.now.shelf c.reply.new.self (Ok c.in-Ok.sink) c.in-Ok.ensures.exact c.in-Ok.ensures.later c.in-Ok.ensures.wants_later
