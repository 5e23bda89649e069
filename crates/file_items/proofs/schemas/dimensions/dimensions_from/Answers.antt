use Rattle.std.proofs.Common.{◌-◌, [], arith}
use Rattle.std.proofs.lemmas.Result.{err_from_is_err_and}
use Rattle.file_items.specs.Items.{repeat}
use Rattle.file_items.proofs.Loop.{all_read}
use Rattle.cell_values.specs.Schemas.{attribute_names}
use Rattle.file_items.specs.Table.{dimension_at, with_last}
use Rattle.file_items.proofs.Growing.{more_grown, stops_growing}
use Rattle.file_items.proofs.schemas.dimensions.dimensions_from.Goals as goal

pub returns-in_err-dimension : goal.returns-in_err-dimension
returns-in_err-dimension c =
    let p = err_from_is_err_and c.from_residual.result c.from_residual.ensures.1 in
    let one = dimension_at (attribute_names c.args.attributes.now) in
    rw (p.1, p.2) (stops_growing one c.in_err-dimension.field-0.0 c.loop-index.dimensions c.args.count c.loop-index.index (c.args.count - c.loop-index.index - 1) c.loop-index.rest.now
    (repeat one with_last c.args.count [] c.args.bytes.now) c.loop-index-test.true (omega arith) c.in_err-dimension.ensures c.loop-index.invariant)

pub loop-index-preserved : goal.loop-index-preserved
loop-index-preserved c =
    let one = dimension_at (attribute_names c.args.attributes.now) in
    more_grown one c.loop-index.dimensions c.push.new.self c.args.count c.loop-index.index (c.args.count - c.loop-index.index - 1) c.loop-index.rest.now c.in_ok-dimension.dimension c.in_ok-dimension.after.now
    (repeat one with_last c.args.count [] c.args.bytes.now) c.loop-index-test.true (omega arith) c.in_ok-dimension.ensures c.in_ok-push.ensures.ok c.loop-index.invariant

pub returns : goal.returns
returns c =
    let one = dimension_at (attribute_names c.args.attributes.now) in
    all_read one with_last c.loop-index.dimensions c.loop-index.dimensions c.args.count c.loop-index.index c.loop-index.rest.now
    (repeat one with_last c.args.count [] c.args.bytes.now) c.loop-index-test.false c.loop-index.invariant
