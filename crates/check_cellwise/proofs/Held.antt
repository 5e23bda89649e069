-- Whether a dimension is held.
use Rattle.std.proofs.Common.{◌≡◌, ℕ, List, [], ◌∷◌, refl, ap}
use Rattle.std.specs.Prelude.{◌==◌, ◌||◌}
use Rattle.std.specs.List.{list_any}
use Rattle.logical_plan.specs.declared.parts.Fixed.{Fixed}
use Rattle.logical_plan.specs.BoxOps.{fixed_places}

pub held : (place : ℕ) (done : List Fixed) → list_any (λ other. other == place) (fixed_places done) ≡ list_any (λ (f : Fixed). f.dimension == place) done
held place [] = refl
held place (f ∷ done) = ap (λ b. f.dimension == place || b) (held place done)
