-- Arguments that are checked in turn, each beside what those before it are.
use Rattle.std.specs.Prelude.{ℕ, not, ◌==◌, Option, Some, None, Ok, List, [], ◌∷◌, ◌++◌}
use Rattle.std.specs.List.{list_any}
use Rattle.cell_values.specs.declared.name.Span.{Span}
use Rattle.afl_trees.specs.TypeKind.TheVariants.{UnknownName, RepeatedName}
use Rattle.check_rules.specs.Checked.{Checked, refused, demand, then}

-- one argument after the other
abbrev pub in_turn : {A B : Type 0} → (List B → A → Checked B) → List B → List A → Checked (List B)
in_turn step done [] = Ok done
in_turn step done (x ∷ xs) = then (step done x) (λ y. in_turn step (done ++ y ∷ []) xs)

-- one pair of arguments after the other
abbrev pub pairs_in_turn : {A B : Type 0} → (List B → A → A → Checked B) → List B → List A → Checked (List B)
pairs_in_turn step done (x ∷ y ∷ xs) = then (step done x y) (λ z. pairs_in_turn step (done ++ z ∷ []) xs)
pairs_in_turn step done xs = Ok done

-- the place of a name that there is, if it is not among the places before
abbrev pub new_place : Span → List ℕ → Option ℕ → Checked ℕ
new_place s done (Some place) = demand (not (list_any (λ other. other == place) done)) s RepeatedName (Ok place)
new_place s done None = refused s UnknownName
