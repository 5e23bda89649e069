use Rattle.std.specs.Int.{w32, to_le_bytes}
use Rattle.file_items.proofs.Puts.{put_two}
use Rattle.backup_format.specs.Spelling.{text}
use Rattle.backup_format.proofs.writing.put_before_arrays.Goals as goal

pub returns : goal.returns
returns c = put_two c.args.out.now c.extend.new.self c.put_count.new.out text (to_le_bytes w32 c.args.arrays) c.in_ok-extend.ensures.ok c.in_ok-put_count.ensures
