use Rattle.commit_pages.proofs.Loops.{entries_step, entries_end}
use Rattle.commit_pages.proofs.pages.version.entries.Goals as goal

pub loop-index-preserved : goal.loop-index-preserved
loop-index-preserved c =
    entries_step c.args.birth c.args.numbers.now c.args.payloads.now c.loop-index.index c.min-count.result c.index-numbers-index.result c.index-payloads-index.result c.in_ok-entry.field-0
    c.loop-index.entries c.push.new.self c.loop-index-test.true c.min-count.ensures c.index-numbers-index.is c.index-payloads-index.is c.in_ok-entry.ensures c.loop-index.invariant c.in_ok-push.ensures.ok

pub returns : goal.returns
returns c =
    entries_end c.args.birth c.args.numbers.now c.args.payloads.now c.loop-index.index c.min-count.result c.loop-index.entries c.loop-index-test.false c.min-count.ensures c.loop-index.invariant
