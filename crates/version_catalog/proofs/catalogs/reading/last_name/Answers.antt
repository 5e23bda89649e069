use Rattle.std.proofs.Common.{refl}
use Rattle.version_catalog.proofs.Last.{none_last, last_is}
use Rattle.version_catalog.proofs.catalogs.reading.last_name.Goals as goal

pub returns-in-len1-up : goal.returns-in-len1-up
returns-in-len1-up c = last_is c.args.arrays.now c.as_slice.result.now c.last-item.result c.last-item.result.entry.name c.as_slice.ensures c.in-len1-up.len_at_least c.last-item.is refl

pub returns-in-empty : goal.returns-in-empty
returns-in-empty c = none_last c.args.arrays.now c.as_slice.result.now c.as_slice.ensures c.in-empty.len_below
