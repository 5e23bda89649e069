-- Faults within operands come first.
use Rattle.std.proofs.Common.{ap, ◌∙◌}
use Rattle.check_rules.specs.Checked.{Checked, then}
use Rattle.check_exprs.specs.Expressions.{combined, typed}
use Rattle.check_exprs.specs.Laws.{InnerFaultsFirst}
use Rattle.check_exprs.specs.declared.operand.Operand.{Operand}

pub inner_first : InnerFaultsFirst
inner_first attributes dimensions s at op a b kind = (
  λ e. ap (λ (part : Checked Operand). then part (λ x. then (typed attributes dimensions b) (combined s op x))) e,
  λ x e f. ap (λ (part : Checked Operand). then part (λ x. then (typed attributes dimensions b) (combined s op x))) e ∙ ap (λ (part : Checked Operand). then part (combined s op x)) f,
)
