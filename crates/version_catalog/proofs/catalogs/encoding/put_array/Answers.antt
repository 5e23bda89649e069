use Rattle.std.proofs.Common.{ℕ, List, ◌++◌, ap, ◌∙◌}
use Rattle.std.specs.Int.{w32, to_le_bytes}
use Rattle.std.proofs.lemmas.Result.{IfOk-equal}
use Rattle.file_items.specs.Items.{spell_counted}
use Rattle.file_items.specs.Spelling.{spell_name, spell_schema}
use Rattle.file_items.proofs.Puts.{put_three}
use Rattle.version_catalog.specs.Spelling.{versions_at, spell_version, spell_array}
use Rattle.version_catalog.specs.declared.rules.catalog.BlobAt.{BlobAt}
use Rattle.version_catalog.proofs.catalogs.encoding.put_array.Goals as goal

pub returns : goal.returns
unfolding spell_array
returns c =
    let array = c.args.array.now in
    let numbered : List ℕ → List BlobAt → List ℕ = λ numbers directories. to_le_bytes w32 array.entry.next ++ spell_counted w32 spell_version (versions_at numbers directories) in
    IfOk-equal c.put_numbered.result c.put_numbered.new.out _ _ c.put_numbered.ensures
    (put_three c.args.out.now c.put_name.new.out c.put_schema.new.out _ (spell_name array.entry.name) (spell_schema array.entry.schema)
    (numbered array.entry.versions array.directories) c.in_ok-put_name.ensures c.in_ok-put_schema.ensures
    (ap (λ (numbers : List ℕ). c.put_schema.new.out ++ numbered numbers c.as_slice.result.now) c.as_slice-numbers.ensures
    ∙ ap (λ (directories : List BlobAt). c.put_schema.new.out ++ numbered array.entry.versions directories) c.as_slice.ensures))
