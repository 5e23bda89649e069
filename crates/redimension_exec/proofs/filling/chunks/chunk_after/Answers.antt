use Rattle.std.proofs.Common.{sym, ap, ◌∙◌}
use Rattle.std.specs.Ordering.{is_eq}
use Rattle.redimension_exec.proofs.HoldLaws.{others_last}
use Rattle.redimension_exec.proofs.filling.chunks.chunk_after.Goals as goal

pub returns-then-is_eq-clause-others : goal.returns-then-is_eq-clause-others
returns-then-is_eq-clause-others c = λ key n.
    others_last c.args.last c.args.others.now c.args.number.now key (ap is_eq (sym c.compare_numbers.ensures) ∙ sym c.is_eq.ensures ∙ c.if-is_eq.true) n
