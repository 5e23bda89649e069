use Rattle.std.proofs.Common.{None, arith}
use Rattle.std.specs.Option.{option_copied}
use Rattle.file_items.specs.Items.{repeat}
use Rattle.file_items.proofs.Loop.{all_read}
use Rattle.backup_format.specs.Laws.{IsNextArray}
use Rattle.backup_format.specs.Spelling.{spell_array}
use Rattle.backup_format.specs.Table.{next_array, name_in}
use Rattle.backup_format.proofs.ItemLaws.{array_reads}
use Rattle.backup_format.specs.PiecePlaces.{array_in, arrays_in, last_name}
use Rattle.backup_format.proofs.Ends.{end_after}
use Rattle.backup_format.proofs.LastArray.{array_more, array_stops}
use Rattle.backup_format.proofs.arrays.arrays_from.Goals as goal

pub returns-in-Err : goal.returns-in-Err
returns-in-Err c =
    array_stops (option_copied c.last_name.result) c.in-Err.stop (arrays_in c.args.whole.now c.loop-index.arrays) c.loop-index.arrays c.args.count c.loop-index._index c.loop-index.rest.now
    (repeat next_array name_in c.args.count None c.args.bytes.now) c.last_name.ensures c.loop-index-test.true c.in-Err.ensures c.loop-index.invariant.read

pub loop-index-preserved : goal.loop-index-preserved
loop-index-preserved c = record {
  read = array_more c.args.whole.now (option_copied c.last_name.result) c.loop-index.arrays c.push.new.self c.args.count c.loop-index._index c.loop-index.rest.now c.in-Ok.array c.in-Ok.after.now
      (repeat next_array name_in c.args.count None c.args.bytes.now) c.last_name.ensures c.in_ok-push-in-Ok.ensures.ok c.loop-index-test.true c.in-Ok.ensures c.loop-index.invariant.read;
  end = end_after (next_array (option_copied c.last_name.result) 0) spell_array (IsNextArray (option_copied c.last_name.result) 0) (array_reads (option_copied c.last_name.result) 0) c.args.whole.now c.loop-index.rest.now
      (array_in c.args.whole.now c.in-Ok.array) c.in-Ok.after.now (λ i. omega (arith, c.type_inv.whole i)) c.loop-index.invariant.end c.in-Ok.ensures;
}

pub returns : goal.returns
returns c =
    all_read next_array name_in (last_name c.loop-index.arrays) (arrays_in c.args.whole.now c.loop-index.arrays) c.args.count c.loop-index._index c.loop-index.rest.now
    (repeat next_array name_in c.args.count None c.args.bytes.now) c.loop-index-test.false c.loop-index.invariant.read
