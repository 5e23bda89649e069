use Rattle.std.proofs.Common.{subst}
use Rattle.cell_values.specs.declared.schema.Schema.{Schema}
use Rattle.check_rules.specs.Checked.{Answers}
use Rattle.check_cellwise.specs.Filter.{filter_of}
use Rattle.check_cellwise.proofs.cells.filter.filter_over.Goals as goal

pub returns-in-Ok : goal.returns-in-Ok
returns-in-Ok c =
    subst (λ (shape : Schema). Answers c.filter_of.result (filter_of c.args.source shape c.args.test.now)) c.in-Ok.ensures c.filter_of.ensures
