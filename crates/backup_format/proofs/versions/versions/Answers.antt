use Rattle.std.proofs.Common.{◌-◌, map, arith}
use Rattle.file_items.specs.Items.{repeat}
use Rattle.file_items.proofs.Loop.{stops_here, all_read}
use Rattle.backup_format.specs.Spelling.{spell_version}
use Rattle.backup_format.specs.Table.{next_version, last_in}
use Rattle.backup_format.proofs.ItemLaws.{PassesVersion, passing_version}
use Rattle.backup_format.specs.PiecePlaces.{version_in}
use Rattle.backup_format.proofs.Ends.{end_after}
use Rattle.backup_format.proofs.VersionLaws.{version_more}
use Rattle.backup_format.proofs.versions.versions.Goals as goal

pub returns-in-Err : goal.returns-in-Err
returns-in-Err c =
    stops_here (next_version c.args.schema.now c.args.next) last_in c.loop-index.last c.in-Err.stop (map (version_in c.args.whole.now) c.loop-index.versions) c.args.count c.loop-index._index (c.args.count - c.loop-index._index - 1) c.loop-index.rest.now
    (repeat (next_version c.args.schema.now c.args.next) last_in c.args.count 0 c.args.bytes.now) c.loop-index-test.true (omega arith) c.in-Err.ensures c.loop-index.invariant.read

pub loop-index-preserved : goal.loop-index-preserved
loop-index-preserved c = record {
  read = version_more c.args.schema.now c.args.next c.loop-index.last c.args.whole.now c.loop-index.versions c.push.new.self c.in-Ok.version c.args.count c.loop-index._index c.loop-index.rest.now c.in-Ok.after.now
      (repeat (next_version c.args.schema.now c.args.next) last_in c.args.count 0 c.args.bytes.now) c.in_ok-push-in-Ok.ensures.ok c.loop-index-test.true c.in-Ok.ensures c.loop-index.invariant.read;
  end = end_after (next_version c.args.schema.now c.args.next c.loop-index.last 0) spell_version (PassesVersion c.args.schema.now c.args.next c.loop-index.last) (passing_version c.args.schema.now c.args.next c.loop-index.last 0) c.args.whole.now c.loop-index.rest.now
      (version_in c.args.whole.now c.in-Ok.version) c.in-Ok.after.now (λ i. omega (arith, c.type_inv.whole i)) c.loop-index.invariant.end c.in-Ok.ensures;
}

pub returns : goal.returns
returns c =
    all_read (next_version c.args.schema.now c.args.next) last_in c.loop-index.last (map (version_in c.args.whole.now) c.loop-index.versions) c.args.count c.loop-index._index c.loop-index.rest.now
    (repeat (next_version c.args.schema.now c.args.next) last_in c.args.count 0 c.args.bytes.now) c.loop-index-test.false c.loop-index.invariant.read
