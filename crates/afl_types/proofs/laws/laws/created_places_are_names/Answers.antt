use Rattle.afl_types.proofs.CreatedPlaces.{name_in_place}
use Rattle.afl_types.proofs.laws.laws.created_places_are_names.Goals as goal

pub returns : goal.returns
returns c = name_in_place
