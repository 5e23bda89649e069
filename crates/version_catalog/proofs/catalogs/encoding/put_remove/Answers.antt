use Rattle.std.proofs.Common.{[], ◌∷◌, refl}
use Rattle.std.proofs.lemmas.Result.{IfOk-equal}
use Rattle.file_items.specs.Spelling.{spell_name}
use Rattle.file_items.proofs.Puts.{put_two}
use Rattle.version_catalog.proofs.catalogs.encoding.put_remove.Goals as goal

pub returns : goal.returns
returns c =
    IfOk-equal c.put_name.result c.put_name.new.out _ _ c.put_name.ensures
    (put_two c.args.out.now c.push.new.self _ (4 ∷ []) (spell_name c.args.name.now) c.in_ok-push.ensures.ok refl)
