use Rattle.std.proofs.Common.{map, ap, take_all, ◌∙◌}
use Rattle.run_opening.specs.Names.{reply_name}
use Rattle.run_opening.proofs.RoomLemmas.{mapped_more}
use Rattle.run_opening.proofs.opening.room.reply_names.Goals as goal

pub loop-script-preserved : goal.loop-script-preserved
loop-script-preserved c =
    mapped_more reply_name c.args.scripts.now c.loop-script.script-index c.script-item.result c.in_ok-reply_name.field-0 c.loop-script.names.items
    c.push.new.self.items c.loop-script-test.true c.script-item.is c.in_ok-reply_name.ensures c.loop-script.invariant c.in_ok-push.ensures.items

pub returns : goal.returns
returns c = c.loop-script.invariant ∙ ap (map reply_name) (take_all c.loop-script.script-index c.args.scripts.now c.loop-script-test.false)
