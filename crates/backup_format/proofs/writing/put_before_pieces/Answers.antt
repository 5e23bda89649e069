use Rattle.std.specs.Int.{w32, w64, to_le_bytes}
use Rattle.file_items.proofs.Puts.{put_two}
use Rattle.backup_format.proofs.writing.put_before_pieces.Goals as goal

pub returns : goal.returns
returns c = put_two c.args.out.now c.put_u32.new.out c.put_u64.new.out (to_le_bytes w32 c.args.number) (to_le_bytes w64 c.args.pieces) c.in_ok-put_u32.ensures c.in_ok-put_u64.ensures
