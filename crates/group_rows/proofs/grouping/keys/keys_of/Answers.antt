use Rattle.cell_values.specs.declared.datum.Row.{Row}
use Rattle.group_rows.specs.Inner.Places.{key_of, HasKey}
use Rattle.group_rows.proofs.KeyLaws.{all_keys, next_key, all_items}
use Rattle.group_rows.proofs.grouping.keys.keys_of.Goals as goal

pub loop-row-preserved : goal.loop-row-preserved
loop-row-preserved c =
    next_key (key_of c.args.grouping.now) c.as_slice-row-items.result.now c.loop-row.row-index c.row-item.result c.loop-row.keys c.push.new.self c.key_at.result c.loop-row-test.true c.row-item.is c.loop-row.invariant c.key_at.ensures c.in_ok-push.ensures.ok

pub returns : goal.returns
returns c =
    all_keys (key_of c.args.grouping.now) c.as_slice-row-items.result.now c.args.rows.now c.loop-row.keys c.loop-row.row-index
    c.as_slice-row-items.ensures c.loop-row-test.false c.loop-row.invariant

pub key_at-requires : goal.key_at-requires
key_at-requires c =
    all_items (λ (row : Row). HasKey c.args.grouping.now row.at.items) c.args.rows.now c.as_slice-row-items.result.now c.loop-row.row-index c.row-item.result c.as_slice-row-items.ensures
    c.loop-row-test.true c.row-item.is c.requires
