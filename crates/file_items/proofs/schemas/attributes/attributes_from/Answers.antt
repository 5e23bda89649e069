use Rattle.std.proofs.Common.{◌-◌, [], arith}
use Rattle.std.proofs.lemmas.Result.{err_from_is_err_and}
use Rattle.file_items.specs.Items.{repeat}
use Rattle.file_items.proofs.Loop.{all_read}
use Rattle.file_items.specs.Table.{next_attribute, with_last}
use Rattle.file_items.proofs.Growing.{more_grown, stops_growing}
use Rattle.file_items.proofs.schemas.attributes.attributes_from.Goals as goal

pub returns-in_err-attribute : goal.returns-in_err-attribute
returns-in_err-attribute c =
    let p = err_from_is_err_and c.from_residual.result c.from_residual.ensures.1 in
    rw (p.1, p.2) (stops_growing next_attribute c.in_err-attribute.field-0.0 c.loop-index.attributes c.args.count c.loop-index._index (c.args.count - c.loop-index._index - 1) c.loop-index.rest.now
    (repeat next_attribute with_last c.args.count [] c.args.bytes.now) c.loop-index-test.true (omega arith) c.in_err-attribute.ensures c.loop-index.invariant)

pub loop-index-preserved : goal.loop-index-preserved
loop-index-preserved c =
    more_grown next_attribute c.loop-index.attributes c.push.new.self c.args.count c.loop-index._index (c.args.count - c.loop-index._index - 1) c.loop-index.rest.now c.in_ok-attribute.attribute c.in_ok-attribute.after.now
    (repeat next_attribute with_last c.args.count [] c.args.bytes.now) c.loop-index-test.true (omega arith) c.in_ok-attribute.ensures c.in_ok-push.ensures.ok c.loop-index.invariant

pub returns : goal.returns
returns c = all_read next_attribute with_last c.loop-index.attributes c.loop-index.attributes c.args.count c.loop-index._index c.loop-index.rest.now
    (repeat next_attribute with_last c.args.count [] c.args.bytes.now) c.loop-index-test.false c.loop-index.invariant
