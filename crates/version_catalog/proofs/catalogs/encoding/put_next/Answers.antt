use Rattle.std.proofs.Common.{[], ◌∷◌, refl}
use Rattle.std.proofs.lemmas.Result.{IfOk-equal}
use Rattle.file_items.specs.Spelling.{spell_name}
use Rattle.file_items.proofs.Puts.{put_three}
use Rattle.version_catalog.specs.Spelling.{spell_blob}
use Rattle.version_catalog.proofs.catalogs.encoding.put_next.Goals as goal

pub returns : goal.returns
returns c =
    IfOk-equal c.put_blob.result c.put_blob.new.out _ _ c.put_blob.ensures
    (put_three c.args.out.now c.push.new.self c.put_name.new.out _ (3 ∷ []) (spell_name c.args.name.now) (spell_blob c.args.directory.now) c.in_ok-push.ensures.ok c.in_ok-put_name.ensures refl)
