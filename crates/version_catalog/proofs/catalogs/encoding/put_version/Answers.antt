use Rattle.std.proofs.Common.{refl}
use Rattle.std.specs.Int.{w32, to_le_bytes}
use Rattle.std.proofs.lemmas.Result.{IfOk-equal}
use Rattle.file_items.proofs.Puts.{put_two}
use Rattle.version_catalog.specs.Spelling.{spell_blob, spell_version}
use Rattle.version_catalog.proofs.catalogs.encoding.put_version.Goals as goal

pub returns : goal.returns
unfolding spell_version
returns c =
    IfOk-equal c.put_blob.result c.put_blob.new.out _ _ c.put_blob.ensures
    (put_two c.args.out.now c.put_u32.new.out _ (to_le_bytes w32 c.args.number) (spell_blob c.args.directory.now) c.in_ok-put_u32.ensures refl)
