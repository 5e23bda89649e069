-- Coordinates and reaches, as functions read them from the front: what is pushed first stands before what the rest gives.
use Rattle.std.proofs.Common.{◌≡◌, ◌∙◌, ◌≤◌, ◌<◌, ◌^◌, ℤ, pos, List, [], ◌∷◌, ◌++◌, append-nil, length, get_or, sym, ap}
use Rattle.array_rows.specs.Boxes.{by_pairs}
use Rattle.array_geom.proofs.Fronts.{get_first, rest}
use Rattle.array_geom.proofs.Pairs.{by_pairs_none, pairs_pushed}
use Rattle.logical_plan.specs.declared.parts.Reach.{Reach}

abbrev pub IsShort : Reach → Type 0
IsShort r = (r.before ≤ 2 ^ 48) × (r.after ≤ 2 ^ 48)

abbrev pub nowhere : Reach
nowhere = record { before = 0; after = 0 }

pub reach_pushed : (f : ℤ → Reach → ℤ) (at : List ℤ) (reach : List Reach) (old more new : List ℤ) (z : ℤ) → 1 ≤ length at → 1 ≤ length reach
    → more ≡ old ++ z ∷ [] → new ≡ more ++ by_pairs f (rest at) (rest reach) → z ≡ f (get_or at 0 (pos 0)) (get_or reach 0 nowhere)
    → new ≡ old ++ by_pairs f at reach
reach_pushed f at reach old more new z some also pushed after is =
    pairs_pushed f at reach (get_or at 0 (pos 0)) nowhere old more new z some also (get_first at (pos 0) some) pushed after is

pub no_reach : (f : ℤ → Reach → ℤ) (at : List ℤ) (reach : List Reach) (old : List ℤ) → length reach < 1 → old ≡ old ++ by_pairs f at reach
no_reach f at reach old none = sym (ap (λ (l : List ℤ). old ++ l) (by_pairs_none f at reach none) ∙ append-nil old)
