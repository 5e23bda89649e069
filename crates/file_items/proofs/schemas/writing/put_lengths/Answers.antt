use Rattle.std.specs.Int.{w64, to_le_bytes}
use Rattle.file_items.proofs.Puts.{put_two}
use Rattle.file_items.proofs.schemas.writing.put_lengths.Goals as goal

pub returns : goal.returns
returns c = put_two c.args.out.now c.put_u64.new.out c.put_u64-2.new.out (to_le_bytes w64 c.args.chunk) (to_le_bytes w64 c.args.overlap) c.in_ok-put_u64.ensures c.in_ok-put_u64-2.ensures
