use Rattle.std.proofs.Common.{◌≡◌, ℕ, length, sym, subst, ◌∙◌, true, false}
use Rattle.std.specs.Prelude.{◌==◌}
use Rattle.file_items.specs.Items.{Stopped}
use Rattle.chunk_rle.specs.Frames.{frame_in}
use Rattle.chunk_rle.specs.Table.{columns_at}
use Rattle.chunk_rle.specs.Inner.Valued.{Gives, valued_columns}
use Rattle.chunk_rle.proofs.ValuedLaws.{columns_stop, payload_left, payload_valued, positions_stop}
use Rattle.chunk_rle.proofs.decoding.payload_values.Goals as goal

pub returns-then-is_empty : goal.returns-then-is_empty
returns-then-is_empty c =
    let second = subst (λ (n : ℕ). Gives (valued_columns (columns_at c.args.attributes.now n c.in-Ok.rest.now)) c.in-Ok-columns_values.columns.items c.in-Ok-columns_values.rest.now) c.in-Ok.ensures.count c.in-Ok-columns_values.ensures in
    let none : (length c.in-Ok-columns_values.rest.now == 0) ≡ true = sym c.is_empty.ensures ∙ c.if-is_empty.true in
    payload_valued (frame_in c.args.places.now) c.args.attributes.now c.args.bytes.now c.in-Ok.rest.now c.in-Ok-columns_values.rest.now c.in-Ok.positions c.in-Ok-columns_values.columns.items c.in-Ok.ensures.read second none

pub returns-else-is_empty : goal.returns-else-is_empty
returns-else-is_empty c =
    let second = subst (λ (n : ℕ). Gives (valued_columns (columns_at c.args.attributes.now n c.in-Ok.rest.now)) c.in-Ok-columns_values.columns.items c.in-Ok-columns_values.rest.now) c.in-Ok.ensures.count c.in-Ok-columns_values.ensures in
    let more : (length c.in-Ok-columns_values.rest.now == 0) ≡ false = sym c.is_empty.ensures ∙ c.if-is_empty.false in
    payload_left (frame_in c.args.places.now) c.args.attributes.now c.args.bytes.now c.in-Ok.rest.now c.in-Ok-columns_values.rest.now c.in-Ok.positions c.in-Ok-columns_values.columns.items c.in-Ok.ensures.read second more

pub returns-in-Err-columns_values : goal.returns-in-Err-columns_values
returns-in-Err-columns_values c =
    columns_stop (frame_in c.args.places.now) c.args.attributes.now c.args.bytes.now c.in-Ok.rest.now c.in-Ok.positions c.in-Err-columns_values.stop c.in-Ok.ensures.read
    (subst (λ (n : ℕ). Stopped c.in-Err-columns_values.stop (valued_columns (columns_at c.args.attributes.now n c.in-Ok.rest.now))) c.in-Ok.ensures.count c.in-Err-columns_values.ensures)

pub returns-in-Err : goal.returns-in-Err
returns-in-Err c = positions_stop (frame_in c.args.places.now) c.args.attributes.now c.args.bytes.now c.in-Err.stop c.in-Err.ensures.read
