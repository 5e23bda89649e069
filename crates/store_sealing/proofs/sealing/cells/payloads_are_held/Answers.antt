use Rattle.store_sealing.proofs.Payloads.{sealed_payloads, stopped_payloads}
use Rattle.store_sealing.proofs.sealing.cells.payloads_are_held.Goals as goal

pub returns : goal.returns
returns g c = record { is_sealed = sealed_payloads g.D.Disk.moment; has_stopped = stopped_payloads g.D.Disk.moment }
