use Rattle.std.proofs.Common.{rules}
use Rattle.std.proofs.lemmas.Int.{to_z-of_z}
use mir.Val.{SFits}
use Rattle.std.specs.Int.{w64, to_le_bytes}
use Rattle.array_geom.specs.Datum.TheVariants.{Int}
use Rattle.file_items.proofs.Puts.{put_two}
use Rattle.chunk_rle.specs.Spelling.{spell_value}
use Rattle.chunk_rle.proofs.numbers.put_number_run.Goals as goal

pub returns : goal.returns
returns c =
    let fits : SFits w64 c.args.run.number = search rules in
    put_two c.args.out.now c.put_u64.new.out c.put_integer.new.out (to_le_bytes w64 c.args.run.length) (spell_value (Int c.args.run.number)) c.in_ok-put_u64.ensures (simp to_z-of_z at c.in_ok-put_integer.ensures)
