use Rattle.std.proofs.Common.{◌-◌, arith}
use Rattle.file_items.specs.Items.{repeat}
use Rattle.file_items.proofs.Loop.{stops_here, all_read}
use Rattle.version_catalog.specs.Spelling.{versions_at}
use Rattle.version_catalog.specs.Table.{next_version, number_in}
use Rattle.version_catalog.proofs.Loops.{version_more, same_lengths}
use Rattle.version_catalog.proofs.catalogs.reading.versions.Goals as goal

pub returns-in-Err-clause-read : goal.returns-in-Err-clause-read
returns-in-Err-clause-read c =
    stops_here (next_version c.args.next) number_in c.loop-index.last c.in-Err.stop (versions_at c.loop-index.numbers c.loop-index.directories) c.args.count c.loop-index._index (c.args.count - c.loop-index._index - 1) c.loop-index.rest.now
    (repeat (next_version c.args.next) number_in c.args.count 0 c.args.bytes.now) c.loop-index-test.true (omega arith) c.in-Err.ensures c.loop-index.invariant.read

pub loop-index-preserved : goal.loop-index-preserved
loop-index-preserved c = record {
  read = version_more c.args.next c.loop-index.last c.loop-index.numbers c.push.new.self c.loop-index.directories c.push-in-Ok.new.self c.args.count c.loop-index._index c.loop-index.rest.now c.in-Ok.number c.in-Ok.directory c.in-Ok.after.now
      (repeat (next_version c.args.next) number_in c.args.count 0 c.args.bytes.now) c.loop-index.invariant.one_each c.in_ok-push-in-Ok.ensures.ok c.in_ok-push-in-Ok-2.ensures.ok c.loop-index-test.true c.in-Ok.ensures c.loop-index.invariant.read;
  one_each = same_lengths c.loop-index.numbers c.push.new.self c.loop-index.directories c.push-in-Ok.new.self c.in-Ok.number c.in-Ok.directory c.loop-index.invariant.one_each c.in_ok-push-in-Ok.ensures.ok c.in_ok-push-in-Ok-2.ensures.ok;
}

pub returns-clause-read : goal.returns-clause-read
returns-clause-read c = all_read (next_version c.args.next) number_in c.loop-index.last (versions_at c.loop-index.numbers c.loop-index.directories) c.args.count c.loop-index._index c.loop-index.rest.now
    (repeat (next_version c.args.next) number_in c.args.count 0 c.args.bytes.now) c.loop-index-test.false c.loop-index.invariant.read

pub returns-clause-one_each : goal.returns-clause-one_each
returns-clause-one_each c = c.loop-index.invariant.one_each
