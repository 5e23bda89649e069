use Rattle.std.proofs.Common.{[], ◌∷◌, ◌++◌, refl}
use Rattle.std.proofs.lemmas.Result.{IfOk-equal}
use Rattle.file_items.specs.Spelling.{spell_name, spell_schema}
use Rattle.file_items.proofs.Puts.{put_two}
use Rattle.version_catalog.proofs.catalogs.encoding.put_create.Goals as goal

pub returns : goal.returns
returns c =
    IfOk-equal c.put_named_schema.result c.put_named_schema.new.out _ _ c.put_named_schema.ensures
    (put_two c.args.out.now c.push.new.self _ (1 ∷ []) (spell_name c.args.name.now ++ spell_schema c.args.schema.now) c.in_ok-push.ensures.ok refl)
