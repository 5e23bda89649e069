use Rattle.std.proofs.Common.{List, ◌++◌, length, ap, ◌∙◌}
use Rattle.std.specs.List.{flat_map}
use Rattle.std.proofs.lemmas.List.{take_all}
use Rattle.std.specs.Int.{w32, to_le_bytes}
use Rattle.file_items.proofs.Puts.{put_more}
use Rattle.version_catalog.specs.declared.rules.catalog.CatalogArray.{CatalogArray}
use Rattle.version_catalog.specs.Spelling.{spell_array}
use Rattle.version_catalog.proofs.catalogs.encoding.put_arrays.Goals as goal

pub loop-array-preserved : goal.loop-array-preserved
loop-array-preserved c =
    put_more spell_array c.args.out.now (to_le_bytes w32 (length c.args.arrays.now)) c.loop-array.out c.put_array.new.out c.args.arrays.now c.loop-array.array-index c.array-item.result
    c.loop-array-test.true c.array-item.is c.loop-array.invariant c.in_ok-put_array.ensures

pub returns : goal.returns
returns c =
    let head = to_le_bytes w32 (length c.args.arrays.now) in
    c.loop-array.invariant
    ∙ ap (λ (arrays : List CatalogArray). c.args.out.now ++ (head ++ flat_map spell_array arrays)) (take_all c.loop-array.array-index c.args.arrays.now c.loop-array-test.false)
