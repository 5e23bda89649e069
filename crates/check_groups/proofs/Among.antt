-- Whether a name is that of an aggregate.
use Rattle.std.proofs.Common.{◌≡◌, ℕ, List, [], ◌∷◌, refl, ap}
use Rattle.std.specs.Prelude.{◌||◌}
use Rattle.std.specs.List.{list_any}
use Rattle.std.specs.Str.{bytes_eq}
use Rattle.cell_values.specs.Schemas.{is_among}
use Rattle.logical_plan.specs.Typing.{aggregate_names}
use Rattle.logical_plan.specs.declared.parts.Aggregate.{Aggregate}

pub among_aggregates : (name : List ℕ) (done : List Aggregate) → is_among name (aggregate_names done) ≡ list_any (λ (g : Aggregate). bytes_eq name g.name) done
among_aggregates name [] = refl
among_aggregates name (g ∷ done) = ap (λ b. bytes_eq name g.name || b) (among_aggregates name done)
