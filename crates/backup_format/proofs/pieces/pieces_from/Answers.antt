use Rattle.std.proofs.Common.{◌+◌, ◌-◌, length, None, refl, ap, arith}
use Rattle.std.specs.Option.{option_map}
use Rattle.file_items.specs.Items.{repeat}
use Rattle.file_items.proofs.Loop.{stops_here, all_read}
use Rattle.backup_format.specs.Table.{next_piece, number_in}
use Rattle.backup_format.specs.declared.pieces.PieceAt.{PieceAt}
use Rattle.backup_format.specs.PiecePlaces.{pieces_in}
use Rattle.backup_format.proofs.PieceLaws.{none_read, none_left, none_chunks, piece_lies, piece_more, chunk_more, left_more, pieces_pass, chunks_stored, chunks_rise, all_cores, some_dimensions}
use Rattle.backup_format.proofs.pieces.pieces_from.Goals as goal

pub loop-index-init : goal.loop-index-init
loop-index-init c = record {
  read = none_read c.args.whole.now c.new-pieces.result c.args.count (λ n. repeat (next_piece c.args.schema.now) number_in n None c.args.bytes.now) c.new-pieces.ensures;
  end = c.requires.end;
  chunks = none_chunks c.args.schema.now c.args.whole.now c.new-pieces.result c.new-chunks.result c.new-pieces.ensures c.new-chunks.ensures;
  left = none_left c.args.whole.now c.new-pieces.result (length c.args.bytes.now) c.new-pieces.ensures;
}

pub returns-in-Err-clause-read : goal.returns-in-Err-clause-read
returns-in-Err-clause-read c =
    stops_here (next_piece c.args.schema.now) number_in (option_map (λ at. at.items) c.loop-index.last) c.in-Err.stop (pieces_in c.args.whole.now c.loop-index.pieces) c.args.count c.loop-index._index (c.args.count - c.loop-index._index - 1) c.loop-index.rest.now
    (repeat (next_piece c.args.schema.now) number_in c.args.count None c.args.bytes.now) c.loop-index-test.true (omega arith) (rw c.numbers_in.ensures at c.in-Err.ensures.read) c.loop-index.invariant.read

pub loop-index-preserved : goal.loop-index-preserved
loop-index-preserved c =
    let state = option_map (λ at. at.items) c.loop-index.last in
    let own = c.in-Ok.own.now in
    let after = c.in-Ok.after.now in
    let piece : PieceAt = record { at = c.in-Ok.at; left = length own + length after; size = length own } in
    let here = rw c.numbers_in.ensures at c.in-Ok.ensures.read in
    let lies = piece_lies c.args.schema.now state c.args.whole.now c.loop-index.rest.now c.in-Ok.at.items own after (λ i. omega (arith, c.type_inv.whole i)) c.loop-index.invariant.end here in
    record {
      read = piece_more c.args.schema.now c.args.whole.now state c.loop-index.pieces c.push.new.self piece c.copy_numbers.result.items c.args.count c.loop-index._index c.loop-index.rest.now own after
          (repeat (next_piece c.args.schema.now) number_in c.args.count None c.args.bytes.now) c.in_ok-push-in-Ok.ensures.ok lies.lies (ap (λ at. at.items) c.copy_numbers.ensures) c.loop-index-test.true here c.loop-index.invariant.read;
      end = lies.end;
      chunks = chunk_more c.args.schema.now c.args.whole.now c.loop-index.pieces c.push.new.self piece c.loop-index.chunks c.push-in-Ok.new.self c.in-Ok.chunk own c.in_ok-push-in-Ok.ensures.ok c.in_ok-push-in-Ok-2.ensures.ok lies.lies c.in-Ok.ensures.chunk c.loop-index.invariant.chunks;
      left = left_more c.args.whole.now c.loop-index.pieces c.push.new.self piece own c.loop-index.rest.now after c.in_ok-push-in-Ok.ensures.ok lies.lies refl lies.parts c.loop-index.invariant.left;
    }

pub returns-clause-read : goal.returns-clause-read
returns-clause-read c =
    all_read (next_piece c.args.schema.now) number_in (option_map (λ at. at.items) c.loop-index.last) (pieces_in c.args.whole.now c.loop-index.pieces) c.args.count c.loop-index._index c.loop-index.rest.now
    (repeat (next_piece c.args.schema.now) number_in c.args.count None c.args.bytes.now) c.loop-index-test.false c.loop-index.invariant.read

pub returns-clause-stored : goal.returns-clause-stored
returns-clause-stored c =
    let schema = c.args.schema.now in
    let pieces = pieces_in c.args.whole.now c.loop-index.pieces in
    let read = all_read (next_piece schema) number_in (option_map (λ at. at.items) c.loop-index.last) pieces c.args.count c.loop-index._index c.loop-index.rest.now
    (repeat (next_piece schema) number_in c.args.count None c.args.bytes.now) c.loop-index-test.false c.loop-index.invariant.read in
    let pass = pieces_pass schema c.args.count c.args.bytes.now pieces c.loop-index.rest.now (λ i. omega (arith, c.type_inv.bytes i)) read in
    rw c.loop-index.invariant.chunks (chunks_stored schema c.args.count None pieces c.requires.valid pass)

pub returns-clause-rising : goal.returns-clause-rising
returns-clause-rising c =
    let schema = c.args.schema.now in
    let pieces = pieces_in c.args.whole.now c.loop-index.pieces in
    let read = all_read (next_piece schema) number_in (option_map (λ at. at.items) c.loop-index.last) pieces c.args.count c.loop-index._index c.loop-index.rest.now
    (repeat (next_piece schema) number_in c.args.count None c.args.bytes.now) c.loop-index-test.false c.loop-index.invariant.read in
    let pass = pieces_pass schema c.args.count c.args.bytes.now pieces c.loop-index.rest.now (λ i. omega (arith, c.type_inv.bytes i)) read in
    rw c.loop-index.invariant.chunks (chunks_rise schema c.args.count pieces c.requires.valid (some_dimensions schema c.requires.valid) pass)

pub returns-clause-cores : goal.returns-clause-cores
returns-clause-cores c =
    let schema = c.args.schema.now in
    let pieces = pieces_in c.args.whole.now c.loop-index.pieces in
    let read = all_read (next_piece schema) number_in (option_map (λ at. at.items) c.loop-index.last) pieces c.args.count c.loop-index._index c.loop-index.rest.now
    (repeat (next_piece schema) number_in c.args.count None c.args.bytes.now) c.loop-index-test.false c.loop-index.invariant.read in
    let pass = pieces_pass schema c.args.count c.args.bytes.now pieces c.loop-index.rest.now (λ i. omega (arith, c.type_inv.bytes i)) read in
    all_cores schema c.args.whole.now c.args.count None c.loop-index.pieces pass
