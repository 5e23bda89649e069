use Rattle.std.proofs.Common.{◌≡◌, ◌∙◌, ℕ, List, None, Some, sym, ap}
use Rattle.cell_values.specs.declared.schema.Attribute.{Attribute}
use Rattle.cell_values.specs.declared.schema.Dimension.{Dimension}
use Rattle.check_exprs.specs.Expressions.{attribute_place, dimension_place}
use Rattle.check_sources.proofs.Origins.{of_numbers}
use Rattle.check_sources.proofs.redimension.target.carried_fault.Goals as goal

pub returns-in-Some-dimension_place : goal.returns-in-Some-dimension_place
returns-in-Some-dimension_place c =
    let source = c.args.source.now in
    let attribute = c.args.attribute.now in
    let none : attribute_place source.attributes attribute.name ≡ None
    = ap (λ (attributes : List Attribute). attribute_place attributes attribute.name) (sym c.as_slice.ensures)
    ∙ ap (λ (name : List ℕ). attribute_place c.as_slice.result.now name) (sym c.as_slice-name.ensures.value) ∙ sym c.in-None.ensures.value in
    let some : dimension_place source.dimensions attribute.name ≡ Some c.in-Some-dimension_place.field-0
    = ap (λ (dims : List Dimension). dimension_place dims attribute.name) (sym c.as_slice-in-None.ensures)
    ∙ ap (λ (name : List ℕ). dimension_place c.as_slice-in-None.result.now name) (sym c.as_slice-name.ensures.value)
    ∙ sym c.in-Some-dimension_place.ensures.value in
    c.kind_fault.ensures ∙ sym (of_numbers source attribute c.in-Some-dimension_place.field-0 none some)
