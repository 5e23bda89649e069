use Rattle.array_parts.specs.Cores.{cores_of}
use Rattle.statement_replies.specs.Printed.{printed}
use Rattle.statement_replies.proofs.replies.queries.text_with.Goals as goal

pub returns : goal.returns
returns c = c.with_lines.ensures (printed c.args.style c.args.array.now.schema (cores_of c.args.array.now)) c.text_of.ensures
