-- States of three cells, two of them faulty, and of two texts.
use Rattle.std.proofs.Common.{◌≡◌, pos, negsuc, List, [], ◌∷◌, Some, None, refl, codes, inl, inr}
use Rattle.cell_values.specs.declared.datum.Cell.TheVariants.{Full, Doubt}
use Rattle.cell_values.specs.declared.datum.Datum.TheVariants.{Null, Int, Text, Bad}
use Rattle.cell_values.specs.declared.datum.FaultKind.TheVariants.{Overflow, DivideByZero}
use Rattle.cell_values.specs.declared.datum.Row.{Row}
use Rattle.array_rows.specs.Rows.{placed}
use Rattle.logical_plan.specs.declared.parts.Aggregate.{Aggregate}
use Rattle.logical_plan.specs.declared.parts.AggFunction.TheVariants.{Sum, Min}
use Rattle.logical_plan.specs.Groups.{cells_of, aggregate_of}
use Rattle.agg_states.specs.Stands.{StandsFor}
use Rattle.agg_states.specs.Inner.Summary.{Summary}

abbrev sum : Aggregate
sum = record { function = Sum; attribute = 0; name = codes "v_sum" }

abbrev rows : List Row
rows = placed (pos 0 ∷ []) (Full (Int (pos 4) ∷ [])) ∷ placed (pos 2 ∷ []) (Doubt DivideByZero) ∷ placed (pos 3 ∷ []) (Full (Bad Overflow ∷ [])) ∷ []

abbrev faulty : Summary
faulty = record { function = Sum; fault = Some (record { at = record { items = pos 2 ∷ [] }; kind = DivideByZero }); cells = 3; values = 2; total = pos 4; best = None }

pub stands : StandsFor sum rows faulty
stands = record { function = refl; rising = ((refl, (refl, tt)), ((refl, tt), (tt, tt))); fault = refl; cells = refl; values = refl; total = refl; best = refl }

told : aggregate_of sum (cells_of rows) ≡ Bad DivideByZero
told = refl

abbrev least : Aggregate
least = record { function = Min; attribute = 0; name = codes "v_min" }

abbrev texts : List Row
texts = placed (negsuc 0 ∷ []) (Full (Text (codes "b") ∷ [])) ∷ placed (pos 5 ∷ []) (Full (Null ∷ [])) ∷ placed (pos 6 ∷ []) (Full (Text (codes "ab") ∷ [])) ∷ []

pub stands_for_texts : StandsFor least texts (record { function = Min; fault = None; cells = 3; values = 2; total = pos 0; best = Some (Text (codes "ab")) })
stands_for_texts = record { function = refl; rising = ((refl, (refl, tt)), ((refl, tt), (tt, tt))); fault = refl; cells = refl; values = refl; total = refl; best = (inr (inl refl), (refl, (refl, tt))) }

least_told : aggregate_of least (cells_of texts) ≡ Text (codes "ab")
least_told = refl
