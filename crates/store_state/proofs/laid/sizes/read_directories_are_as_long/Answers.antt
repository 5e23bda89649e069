use Rattle.store_state.proofs.SizesDirectories.{directory_taken}
use Rattle.store_state.proofs.laid.sizes.read_directories_are_as_long.Goals as goal

pub returns : goal.returns
returns c = directory_taken
