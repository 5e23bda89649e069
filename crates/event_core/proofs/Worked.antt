-- The worked base is a base, and the worked entries are allowed over it: computed.
use Rattle.std.proofs.Common.{refl, IsTrue}
use Rattle.event_core.specs.Allowed.{IsBase, is_allowed}
use Rattle.event_core.specs.Worked.{worked_base, worked_on}

pub base_is : IsBase worked_base
base_is = record { pins = refl; entries = refl; free = refl }

pub allowed_is : IsTrue (is_allowed worked_base worked_on)
allowed_is = refl
