use Rattle.statement_replies.proofs.Lines.{newest_line}
use Rattle.statement_replies.proofs.replies.traces.push_newest.Goals as goal

pub returns : goal.returns
returns c =
    newest_line c.write_line.result c.args.names.now c.args.name.now c.newest_of.result c.args.asking c.args.lines.now c.write_line.new.out c.newest_of.ensures c.write_line.ensures
