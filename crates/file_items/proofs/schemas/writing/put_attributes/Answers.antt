use Rattle.std.proofs.Common.{length}
use Rattle.std.specs.Int.{w8, to_le_bytes}
use Rattle.file_items.proofs.Puts.{put_more}
use Rattle.file_items.specs.Spelling.{spell_attribute}
use Rattle.file_items.proofs.schemas.writing.put_attributes.Goals as goal

pub loop-attribute-preserved : goal.loop-attribute-preserved
loop-attribute-preserved c =
    put_more spell_attribute c.args.out.now (to_le_bytes w8 (length c.args.attributes.now)) c.loop-attribute.out c.put_attribute.new.out c.args.attributes.now c.loop-attribute.attribute-index c.attribute-item.result
    c.loop-attribute-test.true c.attribute-item.is c.loop-attribute.invariant c.in_ok-put_attribute.ensures
