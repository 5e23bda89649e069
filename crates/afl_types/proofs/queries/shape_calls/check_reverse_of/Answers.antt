use Rattle.std.proofs.Common.{subst}
use Rattle.cell_values.specs.declared.schema.Schema.{Schema}
use Rattle.check_rules.specs.Checked.{Answers}
use Rattle.check_shapes.specs.Reverse.{reverse_rules}
use Rattle.check_shapes.specs.Tables.{all_hold}
use Rattle.afl_types.proofs.queries.shape_calls.check_reverse_of.Goals as goal

pub returns : goal.returns
returns c = subst (λ (shape : Schema). Answers c.check_reverse.result (all_hold (reverse_rules c.args.at shape))) c.in_ok-schema.ensures c.check_reverse.ensures
