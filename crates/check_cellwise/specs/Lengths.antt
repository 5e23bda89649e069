-- The rules of `subarray` by the exact lengths of the part that it cuts.
use Rattle.std.specs.Prelude.{◌≡◌, ℤ, pos, ◌-ℤ◌, int_le, List, [], ◌∷◌}
use Rattle.std.specs.Int.{int_max, int_min}
use Rattle.std.specs.List.{list_all}
use Rattle.cell_values.specs.declared.name.Span.{Span}
use Rattle.cell_values.specs.declared.schema.Bounds.{Bounds}
use Rattle.cell_values.specs.declared.schema.Dimension.{Dimension}
use Rattle.cell_values.specs.Schemas.{greatest_bound}
use Rattle.schema_grammar.specs.declared.kinds.TypeKind.TheVariants.{EmptyBox, BoundsRange}
use Rattle.logical_plan.specs.PlanSchema.{schema_of}
use Rattle.logical_plan.specs.Query.{Query, subarray}
use Rattle.check_rules.specs.Checked.{Checked, demand}
use Rattle.check_rules.specs.NewSchema.{of_new_schema}
use Rattle.check_cellwise.specs.Boxes.{of_parts}

-- high less low, along each dimension, of its part between two numbers
abbrev pub lengths : List Dimension → List ℤ → List ℤ → List ℤ
lengths [] lo hi = []
lengths (d ∷ dims) [] hi = []
lengths (d ∷ dims) (low ∷ lo) [] = []
lengths (d ∷ dims) (low ∷ lo) (high ∷ hi) = (int_min d.hi high -ℤ int_max d.lo low) ∷ lengths dims lo hi

-- an empty box where some high is below its low, and else bounds out of range where some length is above the greatest bound
abbrev pub by_lengths : Span → List ℤ → Checked Query → Checked Query
by_lengths s ns next =
    demand (list_all (λ n. int_le (pos 0) n) ns) s EmptyBox
    (demand (list_all (λ n. int_le n (pos greatest_bound)) ns) s BoundsRange next)

-- so `subarray` is checked, whatever its schema says of a part without length
abbrev pub PartsAreToldByLengths : Type 0
PartsAreToldByLengths = (s : Span) (source : Query) (area : Bounds) → of_parts s (subarray source area)
    ≡ by_lengths s (lengths (schema_of source).dimensions area.lo.items area.hi.items) (of_new_schema s (subarray source area))
