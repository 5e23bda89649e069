-- `between` and `subarray` of a source and bounds: a low one for each dimension, then a high one for each.
use Rattle.std.specs.Prelude.{◌*◌, ◌==◌, ℤ, length, drop, Ok, List, unwrap_or}
use Rattle.std.specs.List.{list_all}
use Rattle.cell_values.specs.declared.name.Span.{Span}
use Rattle.cell_values.specs.declared.schema.Bounds.{Bounds}
use Rattle.cell_values.specs.declared.schema.Dimension.{Dimension}
use Rattle.cell_values.specs.Schemas.{bounds_in_order, bounds_in_range}
use Rattle.schema_grammar.specs.declared.kinds.TypeKind.TheVariants.{WrongCount, EmptyBox, BoundsRange}
use Rattle.afl_trees.specs.Term.{Term}
use Rattle.array_rows.specs.Boxes.{by_pairs, corners}
use Rattle.logical_plan.specs.PlanSchema.{schema_of}
use Rattle.logical_plan.specs.Query.{Query, between, subarray}
use Rattle.check_rules.specs.Checked.{Checked, demand}
use Rattle.check_rules.specs.NewSchema.{of_new_schema}
use Rattle.check_rules.specs.Sorts.{number_in, is_bound, first_but, unless_other}

-- the number, or for `null` the dimension's own bound
abbrev pub low_bound : Dimension → Term → ℤ
low_bound d t = unwrap_or (number_in t) d.lo

abbrev pub high_bound : Dimension → Term → ℤ
high_bound d t = unwrap_or (number_in t) d.hi

abbrev pub box_of : List Dimension → List Term → Bounds
box_of dims bounds = corners (by_pairs low_bound dims bounds) (by_pairs high_bound dims (drop (length dims) bounds))

-- two bounds for each dimension
abbrev pub by_count : Span → List Dimension → List Term → (Bounds → Checked Query) → Checked Query
by_count s dims bounds next = demand (length bounds == 2 * length dims) s WrongCount (next (box_of dims bounds))

abbrev pub by_box : Span → List Dimension → List Term → (Bounds → Checked Query) → Checked Query
by_box s dims bounds next = unless_other (first_but is_bound bounds) (by_count s dims bounds next)

abbrev pub between_call : Span → Query → List Term → Checked Query
between_call s source bounds = by_box s (schema_of source).dimensions bounds (λ area. Ok (between source area))

-- A part runs from 0 to one less than its length, so its bounds are in order where the box holds something along the dimension.
abbrev pub by_parts : Span → List Dimension → Checked Query → Checked Query
by_parts s parts next =
    demand (list_all bounds_in_order parts) s EmptyBox
    (demand (list_all bounds_in_range parts) s BoundsRange next)

abbrev pub of_parts : Span → Query → Checked Query
of_parts s query = by_parts s (schema_of query).dimensions (of_new_schema s query)

abbrev pub subarray_call : Span → Query → List Term → Checked Query
subarray_call s source bounds = by_box s (schema_of source).dimensions bounds (λ area. of_parts s (subarray source area))
