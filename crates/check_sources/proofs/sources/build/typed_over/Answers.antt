use Rattle.std.proofs.Common.{List, [], subst}
use Rattle.cell_values.specs.declared.schema.Dimension.{Dimension}
use Rattle.check_rules.specs.Checked.{Answers}
use Rattle.check_exprs.specs.Expressions.{typed}
use Rattle.check_sources.proofs.sources.build.typed_over.Goals as goal

pub returns : goal.returns
returns c = subst (λ (ds : List Dimension). Answers c.typed.result (typed [] ds c.args.value.now)) c.as_slice.ensures c.typed.ensures
