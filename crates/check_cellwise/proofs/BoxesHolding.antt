-- What holds of each plan that passes the rules of `between`, `subarray` and `slice`.
use Rattle.std.proofs.Common.{◌≡◌, ◌*◌, ◌==◌, true, length, Ok, IfOk, List, []}
use Rattle.std.specs.Prelude.{nat_le}
use Rattle.std.specs.List.{list_all}
use Rattle.cell_values.specs.declared.name.Span.{Span}
use Rattle.cell_values.specs.declared.schema.Dimension.{Dimension}
use Rattle.cell_values.specs.Schemas.{bounds_in_order, bounds_in_range}
use Rattle.schema_grammar.specs.declared.kinds.TypeKind.TheVariants.{WrongCount, EmptyBox, BoundsRange}
use Rattle.afl_trees.specs.Term.{Term}
use Rattle.logical_plan.specs.PlanSchema.{schema_of}
use Rattle.logical_plan.specs.Query.{Query, between, subarray, sliced}
use Rattle.logical_plan.specs.declared.parts.Fixed.{Fixed}
use Rattle.check_rules.proofs.RulesHolding.{demanded, thens}
use Rattle.check_rules.specs.InTurn.{pairs_in_turn}
use Rattle.check_rules.specs.Sorts.{is_name, is_number, is_bound, first_but, first_but_pairs}
use Rattle.check_rules.proofs.OperatorsHolding.{IsWithin, unless_holds, new_holds}
use Rattle.check_cellwise.specs.Boxes.{box_of, between_call, subarray_call}
use Rattle.check_cellwise.specs.Slice.{fixed_one, slice_call}

module _ (P : Query → Type 0) (s : Span) (source : Query) where
  abbrev dims : List Dimension
  dims = (schema_of source).dimensions

  pub between_holds : (bounds : List Term) → ((length bounds == 2 * length dims) ≡ true → P (between source (box_of dims bounds)))
      → IfOk (between_call s source bounds) P
  between_holds bounds h =
      unless_holds P (first_but is_bound bounds) _ (λ sorts.
      demanded P (length bounds == 2 * length dims) s WrongCount _ h)

  pub subarray_holds : (bounds : List Term) → ((length bounds == 2 * length dims) ≡ true → list_all bounds_in_order (schema_of (subarray source (box_of dims bounds))).dimensions ≡ true
      → list_all bounds_in_range (schema_of (subarray source (box_of dims bounds))).dimensions ≡ true
      → IsWithin (schema_of (subarray source (box_of dims bounds))) → P (subarray source (box_of dims bounds)))
      → IfOk (subarray_call s source bounds) P
  subarray_holds bounds h =
      let part : Query = subarray source (box_of dims bounds) in
      unless_holds P (first_but is_bound bounds) _ (λ sorts.
      demanded P (length bounds == 2 * length dims) s WrongCount _ (λ count.
      demanded P (list_all bounds_in_order (schema_of part).dimensions) s EmptyBox _ (λ order.
      demanded P (list_all bounds_in_range (schema_of part).dimensions) s BoundsRange _ (λ range.
      new_holds P s part (h count order range)))))

  pub slice_holds : (arguments : List Term) → ((fixed : List Fixed) → pairs_in_turn (fixed_one dims) [] arguments ≡ Ok fixed → nat_le 1 (length (schema_of (sliced source fixed)).dimensions) ≡ true
      → IsWithin (schema_of (sliced source fixed)) → P (sliced source fixed))
      → IfOk (slice_call s source arguments) P
  slice_holds arguments h =
      unless_holds P (first_but_pairs is_name is_number arguments) _ (λ sorts.
      thens P (pairs_in_turn (fixed_one dims) [] arguments) _ (λ fixed e.
      demanded P (nat_le 1 (length (schema_of (sliced source fixed)).dimensions)) s WrongCount _ (λ some.
      new_holds P s (sliced source fixed) (h fixed e some))))
