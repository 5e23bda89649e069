use Rattle.std.proofs.Common.{◌≡◌, map, take}
use Rattle.run_opening.specs.Names.{reply_name}
use Rattle.run_opening.proofs.opening.room.reply_names.Given as goal

abbrev pub invariant-loop-script : goal.invariant-loop-script
invariant-loop-script l = l.names.items ≡ map reply_name (take l.script-index l.scripts)
