use Rattle.store_sealing.proofs.Moments.{have_stood_over, have_stood_now}
use Rattle.store_sealing.proofs.sealing.images.moments_go_on.Goals as goal

pub returns : goal.returns
returns g c = record {
  over = have_stood_over (g.D.Disk.moment c.args.old.now) (g.D.Disk.moment c.args.new.now);
  now = have_stood_now (g.D.Disk.moment c.args.new.now) (g.met.D.Disk.only_now c.args.new.now);
}
