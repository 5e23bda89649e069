use Rattle.session_threads.proofs.Reaps.{reaper_kept}
use Rattle.session_threads.proofs.reaper.reap_once.Goals as goal

pub returns : goal.returns
returns g c =
    let e = c.reap.ensures in
    reaper_kept c.args.shared.now c.args.seat.now c.reap.new.seat c.reap.result c.requires e.seat e.same e.adds e.err
