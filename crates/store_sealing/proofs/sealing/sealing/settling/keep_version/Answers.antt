use Rattle.std.proofs.Common.{ap}
use Rattle.store_versions.specs.Rows.{directory_in}
use Rattle.store_sealing.proofs.Came.{map_push}
use Rattle.store_sealing.proofs.sealing.sealing.settling.keep_version.Goals as goal

pub returns : goal.returns
returns c =
    map_push c.args.made.now.items c.push_reserved.new.self.items c.of.result c.push_reserved.ensures.items (λ ready. directory_in ready.value) (directory_in c.args.version.now) (ap directory_in c.of.ensures)
