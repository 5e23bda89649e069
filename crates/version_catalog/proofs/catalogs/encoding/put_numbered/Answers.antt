use Rattle.std.proofs.Common.{refl}
use Rattle.std.specs.Int.{w32, to_le_bytes}
use Rattle.std.proofs.lemmas.Result.{IfOk-equal}
use Rattle.file_items.specs.Items.{spell_counted}
use Rattle.file_items.proofs.Puts.{put_two}
use Rattle.version_catalog.specs.Spelling.{versions_at, spell_version}
use Rattle.version_catalog.proofs.catalogs.encoding.put_numbered.Goals as goal

pub returns : goal.returns
returns c =
    IfOk-equal c.put_versions.result c.put_versions.new.out _ _ c.put_versions.ensures
    (put_two c.args.out.now c.put_u32.new.out _ (to_le_bytes w32 c.args.next) (spell_counted w32 spell_version (versions_at c.args.numbers.now c.args.directories.now)) c.in_ok-put_u32.ensures refl)
