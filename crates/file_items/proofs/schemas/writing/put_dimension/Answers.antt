use Rattle.std.proofs.Common.{◌++◌, rules}
use Rattle.std.specs.Int.{w64, to_le_bytes, cast_signed, cast_unsigned}
use Rattle.file_items.specs.Spelling.{spell_name, spell_signed, spell_dimension}
use Rattle.file_items.proofs.Puts.{put_three, put_same}
use Rattle.file_items.proofs.schemas.writing.put_dimension.Goals as goal

pub returns : goal.returns
unfolding spell_dimension
returns c =
    let it = c.args.dimension.now in
    put_three c.args.out.now c.put_name.new.out c.put_bounds.new.out c.put_lengths.new.out (spell_name it.name) (spell_signed it.lo ++ spell_signed it.hi)
    (to_le_bytes w64 it.chunk ++ to_le_bytes w64 it.overlap) c.in_ok-put_name.ensures
    (put_same (λ hi. spell_signed it.lo ++ spell_signed hi) c.put_name.new.out c.put_bounds.new.out (cast_signed w64 (cast_unsigned w64 it.hi)) it.hi (search rules)
    (put_same (λ lo. spell_signed lo ++ spell_signed (cast_signed w64 (cast_unsigned w64 it.hi))) c.put_name.new.out c.put_bounds.new.out (cast_signed w64 (cast_unsigned w64 it.lo)) it.lo (search rules) c.in_ok-put_bounds.ensures))
    c.in_ok-put_lengths.ensures
