-- Where the numbers and values of a target come from, as the code keeps it.
use Rattle.logical_plan.specs.Redimension.{Origin, from_dimension, from_attribute, counted}
use Rattle.redimension_exec.specs.declared.places.places.Place.{Place}
use Rattle.redimension_exec.specs.declared.places.places.Place.TheVariants.{OfDimension, OfAttribute, Counted}

-- a dimension or an attribute of the source by its place, or a synthetic dimension by its low bound
abbrev pub origin : Place → Origin
origin (OfDimension place) = from_dimension place
origin (OfAttribute place) = from_attribute place
origin (Counted lo) = counted lo
