use Rattle.store_state.proofs.Payloads.{payload_size}
use Rattle.store_state.proofs.laid.sizes.read_payloads_are_as_long.Goals as goal

pub returns : goal.returns
returns c = payload_size
