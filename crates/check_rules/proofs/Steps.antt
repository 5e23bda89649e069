-- Parts that are checked before the whole.
use Rattle.std.proofs.Common.{◌≡◌, Ok, Err, Result, sym, ap, subst}
use Rattle.check_rules.specs.Checked.{Checked, Answers, then}
use Rattle.check_rules.specs.declared.rules.fault.TypeFault.{TypeFault}
use Rattle.check_rules.specs.declared.rules.fault.TypeFault.TheVariants.{Rule, Memory}

pub ok_then : {A B : Type 0} (r : Result B TypeFault) (part : Checked A) (next : A → Checked B) (a : A) → part ≡ Ok a → Answers r (next a) → Answers r (then part next)
ok_then r part next a e h = subst (λ p. Answers r (then p next)) (sym e) h

pub err_then : {A B : Type 0} (fault : TypeFault) (part : Checked A) (next : A → Checked B) → Answers {A = A} (Err fault) part → Answers {A = B} (Err fault) (then part next)
err_then (Rule span kind) part next e = ap (λ p. then p next) e
err_then Memory part next e = tt
