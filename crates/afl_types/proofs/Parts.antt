-- What a statement is by the part that makes it.
use Rattle.std.proofs.Common.{◌≡◌, ◌∙◌, Ok, Err, ap}
use Rattle.check_rules.specs.Checked.{Checked, Answers, then}
use Rattle.check_rules.specs.declared.rules.fault.TypeFault.{TypeFault}
use Rattle.check_rules.specs.declared.rules.fault.TypeFault.TheVariants.{Rule, Memory}

module _ {A B : Type 0} (next : A → Checked B) (part : Checked A) where
  pub ok_part : (a : A) (b : B) → next a ≡ Ok b → Answers (Ok a) part → Answers (Ok b) (then part next)
  ok_part a b e h = ap (λ p. then p next) h ∙ e

  pub err_part : (fault : TypeFault) → Answers {A = A} (Err fault) part → Answers {A = B} (Err fault) (then part next)
  err_part (Rule span kind) h = ap (λ p. then p next) h
  err_part Memory h = tt
