use Rattle.std.proofs.Common.{[], ◌∷◌, refl}
use Rattle.std.specs.Int.{w32, to_le_bytes}
use Rattle.std.proofs.lemmas.Result.{IfOk-equal}
use Rattle.file_items.specs.Spelling.{spell_name}
use Rattle.file_items.proofs.Puts.{put_three}
use Rattle.version_catalog.proofs.catalogs.encoding.put_below.Goals as goal

pub returns : goal.returns
returns c =
    IfOk-equal c.put_u32.result c.put_u32.new.out _ _ c.put_u32.ensures
    (put_three c.args.out.now c.push.new.self c.put_name.new.out _ (5 ∷ []) (spell_name c.args.name.now) (to_le_bytes w32 c.args.below) c.in_ok-push.ensures.ok c.in_ok-put_name.ensures refl)
