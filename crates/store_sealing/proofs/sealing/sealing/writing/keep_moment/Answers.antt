use Rattle.std.proofs.Common.{map}
use Rattle.store_sealing.proofs.Came.{acked_done, map_push, moment_of}
use Rattle.store_sealing.proofs.sealing.sealing.writing.keep_moment.Goals as goal

pub returns-in-Ok : goal.returns-in-Ok
returns-in-Ok g c =
    let moment = g.D.Disk.moment in
    let old = c.args.acked.now.items in
    let new = c.push_reserved.new.self.items in
    let now = (moment c.args.file.now.disk).state.moment in
    acked_done c.args.end.now _ c.in-Ok.is (map (λ file. (moment file.value.disk).state.moment) old) (map (λ file. (moment file.value.disk).state.moment) new) now
    (map_push old new c.of.result c.push_reserved.ensures.items (λ file. (moment file.value.disk).state.moment) now (moment_of moment c.of.result.value c.args.file.now c.of.ensures))
