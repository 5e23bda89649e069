use Rattle.std.proofs.Common.{List, subst}
use Rattle.cell_values.specs.declared.schema.Attribute.{Attribute}
use Rattle.cell_values.specs.declared.schema.Dimension.{Dimension}
use Rattle.check_rules.specs.Checked.{Answers}
use Rattle.check_exprs.specs.Expressions.{typed}
use Rattle.check_cellwise.proofs.cells.source.typed_over.Goals as goal

pub returns : goal.returns
returns c =
    subst (λ (ds : List Dimension). Answers c.typed.result (typed c.args.source.now.attributes ds c.args.value.now)) c.as_slice.ensures
    (subst (λ (xs : List Attribute). Answers c.typed.result (typed xs c.as_slice.result.now c.args.value.now)) c.as_slice-attributes.ensures c.typed.ensures)
