-- As many free names as there are names.
use Rattle.std.proofs.Common.{◌≡◌, ℕ, suc, List, [], ◌∷◌, ◌++◌, length, refl, ap}
use Rattle.logical_plan.specs.PlanSchema.{free_name, free_names}

pub many_names : (given names : List (List ℕ)) → length (free_names given names) ≡ length names
many_names given [] = refl
many_names given (name ∷ names) = ap suc (many_names (given ++ free_name given name ∷ []) names)
