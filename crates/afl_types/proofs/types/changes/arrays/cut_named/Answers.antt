use Rattle.std.proofs.Common.{ℤ, Option, subst}
use Rattle.cell_values.specs.declared.name.Span.{Span}
use Rattle.afl_trees.specs.Grammar.{span_of}
use Rattle.check_rules.specs.Checked.{Answers}
use Rattle.afl_types.specs.Changes.{cut_by}
use Rattle.afl_types.proofs.types.changes.arrays.cut_named.Goals as goal

pub returns : goal.returns
returns c =
    subst (λ (o : Option ℤ). Answers c.cut_by.result (cut_by c.args.arrays.now c.args.at c.args.name.now (span_of c.args.number.now) o)) c.number_in.ensures
    (subst (λ (s : Span). Answers c.cut_by.result (cut_by c.args.arrays.now c.args.at c.args.name.now s c.number_in.result)) c.span_of.ensures c.cut_by.ensures)
