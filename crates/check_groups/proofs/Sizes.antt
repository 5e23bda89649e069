-- Places of windows, cut off where 64 bits end.
use Rattle.std.proofs.Common.{◌≡◌, ◌+◌, ◌-◌, ◌*◌, ◌^◌, List, ◌∷◌, min, arith}
use Rattle.std.specs.Prelude.{max}
use Rattle.cell_values.specs.declared.schema.Dimension.{Dimension}
use Rattle.logical_plan.specs.Typing.{reached_size, window_size}
use Rattle.logical_plan.specs.declared.parts.Reach.{Reach}
use Rattle.check_rules.proofs.Capped.{capped}

pub window_on : (r : Reach) (rest : List Reach) → min (min (r.before + r.after + 1) (2 ^ 64 - 1) * min (window_size rest) (2 ^ 64 - 1)) (2 ^ 64 - 1) ≡ min (window_size (r ∷ rest)) (2 ^ 64 - 1)
window_on r rest = capped (r.before + r.after + 1) (window_size rest) (2 ^ 64 - 1) (omega arith)

pub reached_on : (d : Dimension) (dims : List Dimension) (r : Reach) (rest : List Reach)
    → min (min (d.chunk + 2 * max d.overlap (max r.before r.after)) (2 ^ 64 - 1) * min (reached_size dims rest) (2 ^ 64 - 1)) (2 ^ 64 - 1) ≡ min (reached_size (d ∷ dims) (r ∷ rest)) (2 ^ 64 - 1)
reached_on d dims r rest = capped (d.chunk + 2 * max d.overlap (max r.before r.after)) (reached_size dims rest) (2 ^ 64 - 1) (omega arith)
