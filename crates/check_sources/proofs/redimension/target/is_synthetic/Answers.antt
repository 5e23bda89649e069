use Rattle.std.proofs.Common.{◌≡◌, ◌∙◌, ℕ, Bool, not, ◌&&◌, List, Some, None, sym, ap}
use Rattle.std.specs.List.{list_any}
use Rattle.std.specs.Str.{bytes_eq}
use Rattle.cell_values.specs.declared.schema.Attribute.{Attribute}
use Rattle.cell_values.specs.declared.schema.Dimension.{Dimension}
use Rattle.cell_values.specs.declared.schema.Kind.TheVariants.{Int64}
use Rattle.expr_nulls.specs.Typing.{same_kind}
use Rattle.check_exprs.specs.Expressions.{dimension_place}
use Rattle.check_sources.proofs.Origins.{is_own, not_own}
use Rattle.check_sources.proofs.redimension.target.is_synthetic.Goals as goal

pub returns-in-None : goal.returns-in-None
returns-in-None c =
    let source = c.args.source.now in
    let dimension = c.args.dimension.now in
    let none : dimension_place source.dimensions dimension.name ≡ None
    = ap (λ (dims : List Dimension). dimension_place dims dimension.name) (sym c.as_slice.ensures)
    ∙ ap (λ (name : List ℕ). dimension_place c.as_slice.result.now name) (sym c.as_slice-name.ensures.value) ∙ sym c.in-None.ensures.value in
    let without : List Attribute → List ℕ → Bool = λ attributes name. not (list_any (λ (a : Attribute). bytes_eq a.name name && same_kind a.kind Int64) attributes) in
    ap not c.has_number.ensures
    ∙ ap (λ (attributes : List Attribute). without attributes c.as_slice-name.result.now) c.as_slice-in-None.ensures
    ∙ ap (λ (name : List ℕ). without source.attributes name) c.as_slice-name.ensures.value
    ∙ sym (not_own source dimension none)

pub returns-in-Some : goal.returns-in-Some
returns-in-Some c =
    let source = c.args.source.now in
    let dimension = c.args.dimension.now in
    let some : dimension_place source.dimensions dimension.name ≡ Some c.in-Some.field-0
    = ap (λ (dims : List Dimension). dimension_place dims dimension.name) (sym c.as_slice.ensures)
    ∙ ap (λ (name : List ℕ). dimension_place c.as_slice.result.now name) (sym c.as_slice-name.ensures.value) ∙ sym c.in-Some.ensures.value in
    sym (is_own source dimension c.in-Some.field-0 some)
