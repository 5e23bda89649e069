use Rattle.backup_format.specs.PiecePlaces.{arrays_in}
use Rattle.backup_restoring.proofs.News.{base_room, makes_all}
use Rattle.backup_restoring.proofs.making.fill.Goals as goal

pub write_base-requires-clause-room : goal.write_base-requires-clause-room
write_base-requires-clause-room g c =
    base_room (arrays_in c.args.whole.now c.args.arrays.now) c.in-Ok-write_arrays.catalog c.in-Ok-write_arrays.next c.close.new.file.slots c.write_arrays.new.file.slots
    (g.D.Disk.moment c.close.new.file.disk) (g.D.Disk.moment c.write_arrays.new.file.disk) c.requires.room c.in-Ok-write_arrays.ensures.laid

pub returns-in-Ok-write_arrays-clause-made : goal.returns-in-Ok-write_arrays-clause-made
returns-in-Ok-write_arrays-clause-made g c =
    makes_all (arrays_in c.args.whole.now c.args.arrays.now) c.in-Ok-write_arrays.catalog c.in-Ok-write_arrays.next c.args.file.now.slots c.close.new.file.slots c.write_arrays.new.file.slots c.write_base.new.file.slots
    (g.D.Disk.moment c.args.file.now.disk) (g.D.Disk.moment c.close.new.file.disk) (g.D.Disk.moment c.write_arrays.new.file.disk) (g.D.Disk.moment c.write_base.new.file.disk)
    c.write_base.result c.requires.room c.in-Ok.ensures.closed c.in-Ok-write_arrays.ensures.laid c.write_base.ensures.based
