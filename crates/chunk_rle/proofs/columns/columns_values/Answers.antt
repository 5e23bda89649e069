use Rattle.std.proofs.Common.{[], ◌∷◌, ◌++◌, length, drop}
use Rattle.file_items.specs.Items.{repeat}
use Rattle.file_items.proofs.Loop.{all_read}
use Rattle.chunk_rle.specs.Table.{next_column_at, others, columns_at, column_at}
use Rattle.chunk_rle.proofs.RunLemmas.{column_more, column_stops}
use Rattle.chunk_rle.proofs.ValuedLaws.{column_read, column_stopped, columns_push, columns_stopped, columns_valued}
use Rattle.chunk_rle.proofs.columns.columns_values.Goals as goal

pub loop-attribute-preserved : goal.loop-attribute-preserved
loop-attribute-preserved c =
    let before = c.loop-attribute.invariant in
    let column = column_read (column_at c.attribute-item.result c.args.n c.loop-attribute.rest.now) c.in-Ok.values c.in-Ok.after.now c.in-Ok.ensures in (
      before.0 ++ column.0 ∷ [],
      columns_push before.0 column.0 c.push_column.new.columns.items c.loop-attribute.columns.items c.in-Ok.values column.2 before.1 c.in_ok-push_column-in-Ok.ensures,
      column_more c.args.n c.args.attributes.now c.attribute-item.result before.0 c.loop-attribute.attribute-index c.loop-attribute.rest.now column.0 c.in-Ok.after.now
          (repeat (next_column_at c.args.n) others (length c.args.attributes.now) c.args.attributes.now c.args.bytes.now) c.loop-attribute-test.true c.attribute-item.is column.1 before.2,
    )

pub returns-in-Err : goal.returns-in-Err
unfolding columns_at
returns-in-Err c =
    let before = c.loop-attribute.invariant in
    columns_stopped c.in-Err.stop (columns_at c.args.attributes.now c.args.n c.args.bytes.now)
    (column_stops c.args.n c.args.attributes.now c.attribute-item.result c.in-Err.stop before.0 c.loop-attribute.attribute-index c.loop-attribute.rest.now
    (repeat (next_column_at c.args.n) others (length c.args.attributes.now) c.args.attributes.now c.args.bytes.now) c.loop-attribute-test.true c.attribute-item.is
    (column_stopped c.in-Err.stop (column_at c.attribute-item.result c.args.n c.loop-attribute.rest.now) c.in-Err.ensures) before.2)

pub returns : goal.returns
unfolding columns_at
returns c =
    let before = c.loop-attribute.invariant in
    columns_valued (columns_at c.args.attributes.now c.args.n c.args.bytes.now) before.0 c.loop-attribute.columns.items c.loop-attribute.rest.now before.1
    (all_read (next_column_at c.args.n) others (drop c.loop-attribute.attribute-index c.args.attributes.now) before.0 (length c.args.attributes.now) c.loop-attribute.attribute-index c.loop-attribute.rest.now
    (repeat (next_column_at c.args.n) others (length c.args.attributes.now) c.args.attributes.now c.args.bytes.now) c.loop-attribute-test.false before.2)
