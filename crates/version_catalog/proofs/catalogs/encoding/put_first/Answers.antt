use Rattle.std.proofs.Common.{[], ◌∷◌, ◌++◌, refl}
use Rattle.std.proofs.lemmas.Result.{IfOk-equal}
use Rattle.file_items.specs.Spelling.{spell_name, spell_schema}
use Rattle.file_items.proofs.Puts.{put_three}
use Rattle.version_catalog.specs.Spelling.{spell_blob}
use Rattle.version_catalog.proofs.catalogs.encoding.put_first.Goals as goal

pub returns : goal.returns
returns c =
    IfOk-equal c.put_blob.result c.put_blob.new.out _ _ c.put_blob.ensures
    (put_three c.args.out.now c.push.new.self c.put_named_schema.new.out _ (2 ∷ []) (spell_name c.args.name.now ++ spell_schema c.args.schema.now) (spell_blob c.args.directory.now)
    c.in_ok-push.ensures.ok c.in_ok-put_named_schema.ensures refl)
