use Rattle.exec_join.proofs.RowsCrossLaws.{found_room}
use Rattle.exec_join.proofs.cross.push_partners.Goals as goal

pub push_crossed-requires : goal.push_crossed-requires
push_crossed-requires c = found_room c.numbers_at-key.result.items c.args.left.now c.args.partners.now c.partners_at.result.now c.partners_at.ensures c.requires.room
