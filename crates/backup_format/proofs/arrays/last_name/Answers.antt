use Rattle.std.proofs.Common.{refl}
use Rattle.backup_format.proofs.LastArray.{last_is}
use Rattle.backup_format.proofs.arrays.last_name.Goals as goal

pub returns-in-len1-up : goal.returns-in-len1-up
returns-in-len1-up c = last_is c.args.arrays.now c.as_slice.result.now c.last-item.result c.last-item.result.name c.as_slice.ensures c.in-len1-up.len_at_least c.last-item.is refl
