use Rattle.std.specs.Prelude.{codes}
use Rattle.std.specs.Fmt.{decimal}
use Rattle.changed_chunks.proofs.Kept.{counts_written}
use Rattle.changed_chunks.proofs.traces.line.write_counts.Goals as goal

pub returns : goal.returns
returns c =
    counts_written c.push.result c.args.out.now c.extend.new.self c.write_number.new.out c.extend-2.new.self c.write_number-2.new.out c.push.new.self
    (codes " asked ") (decimal c.args.asking.asked) (codes " of ") (decimal c.args.asking.stored) (codes "\n")
    c.in_ok-extend.ensures.ok c.in_ok-write_number.ensures c.in_ok-extend-2.ensures.ok c.in_ok-write_number-2.ensures c.push.ensures.ok
