use Rattle.std.proofs.Common.{◌-◌, [], ◌∷◌, length, refl, arith}
use Rattle.std.proofs.lemmas.List.{length-append}
use Rattle.std.specs.Option.{option_copied}
use Rattle.file_items.proofs.Loop.{one_more, stops_here, all_read}
use Rattle.backup_format.specs.Table.{placed_number, next_placing, numbers_at}
use Rattle.backup_format.proofs.numbers.numbers.Goals as goal

pub returns-in-Err : goal.returns-in-Err
returns-in-Err c =
    stops_here placed_number next_placing (record { before = option_copied c.loop-index.left; dims = c.loop-index.sides.now }) c.in-Err.stop c.loop-index.at.items (length c.args.dims.now) c.loop-index.index (length c.args.dims.now - c.loop-index.index - 1) c.loop-index.rest.now
    (numbers_at c.args.dims.now (option_copied c.args.before) c.args.bytes.now) c.loop-index-test.true (omega arith) c.in-Err.ensures c.loop-index.invariant.read

pub loop-index-preserved : goal.loop-index-preserved
loop-index-preserved c = record {
  read =
      rw (c.push.ensures.items, c.next_number-left.ensures, c.behind-sides.ensures)
      (one_more placed_number next_placing (record { before = option_copied c.loop-index.left; dims = c.loop-index.sides.now }) c.loop-index.at.items (length c.args.dims.now) c.loop-index.index (length c.args.dims.now - c.loop-index.index - 1) c.loop-index.rest.now c.in-Ok.number c.in-Ok.after.now
      (numbers_at c.args.dims.now (option_copied c.args.before) c.args.bytes.now) c.loop-index-test.true (omega arith) c.in-Ok.ensures c.loop-index.invariant.read);
  count = rw (c.push.ensures.items, length-append c.loop-index.at.items (c.in-Ok.number ∷ []), c.loop-index.invariant.count) refl;
}

pub returns : goal.returns
returns c =
    all_read placed_number next_placing (record { before = option_copied c.loop-index.left; dims = c.loop-index.sides.now }) c.loop-index.at.items (length c.args.dims.now) c.loop-index.index c.loop-index.rest.now
    (numbers_at c.args.dims.now (option_copied c.args.before) c.args.bytes.now) c.loop-index-test.false c.loop-index.invariant.read
