use Rattle.std.proofs.Common.{◌<◌, sym, arith}
use Rattle.version_catalog.proofs.Maps.{own_number}
use Rattle.version_catalog.proofs.changing.arrays.raise.Goals as goal

pub overflow_add-array : goal.overflow_add-array
overflow_add-array c =
    let small : c.args.array.now.entry.next < 65536 = own_number _ c.args.array.now.entry.next (sym c.if-is_same.ensures) c.requires in
    omega (arith, small)
