use Rattle.std.proofs.Common.{None}
use Rattle.std.specs.Option.{option_copied}
use Rattle.file_items.specs.Items.{repeat}
use Rattle.file_items.proofs.Loop.{all_read}
use Rattle.version_catalog.specs.Table.{next_array, name_in, last_name}
use Rattle.version_catalog.proofs.Last.{array_more, array_stops}
use Rattle.version_catalog.proofs.catalogs.reading.arrays.Goals as goal

pub returns-in-Err : goal.returns-in-Err
returns-in-Err c =
    array_stops (option_copied c.last_name.result) c.in-Err.stop c.loop-index.arrays c.args.count c.loop-index._index c.loop-index.rest.now
    (repeat next_array name_in c.args.count None c.args.bytes.now) c.last_name.ensures c.loop-index-test.true c.in-Err.ensures c.loop-index.invariant

pub loop-index-preserved : goal.loop-index-preserved
loop-index-preserved c =
    array_more (option_copied c.last_name.result) c.loop-index.arrays c.push.new.self c.args.count c.loop-index._index c.loop-index.rest.now c.in-Ok.array c.in-Ok.after.now
    (repeat next_array name_in c.args.count None c.args.bytes.now) c.last_name.ensures c.in_ok-push-in-Ok.ensures.ok c.loop-index-test.true c.in-Ok.ensures c.loop-index.invariant

pub returns : goal.returns
returns c = all_read next_array name_in (last_name c.loop-index.arrays) c.loop-index.arrays c.args.count c.loop-index._index c.loop-index.rest.now
    (repeat next_array name_in c.args.count None c.args.bytes.now) c.loop-index-test.false c.loop-index.invariant
