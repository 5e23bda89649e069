-- A plan that is made once its parts are checked.
use Rattle.std.proofs.Common.{◌≡◌, IfOk, Ok, Result, sym, subst}
use Rattle.cell_values.specs.declared.memory.Memory.{Memory}
use Rattle.cell_values.specs.declared.name.Span.{Span}
use Rattle.logical_plan.specs.Query.{Query}
use Rattle.check_rules.specs.Checked.{Answers, Checked, then}
use Rattle.check_rules.specs.NewSchema.{of_new_schema}
use Rattle.check_rules.specs.declared.rules.fault.TypeFault.{TypeFault}

pub made_then : {A : Type 0} (s : Span) (r : Result Query TypeFault) (made : Result Query Memory) (checked : Checked A) (plan : A → Query) (parts : A) → checked ≡ Ok parts
    → IfOk made (λ query. query ≡ plan parts) → ((query : Query) → IfOk made (λ q. q ≡ query) → Answers r (of_new_schema s query))
    → Answers r (then checked (λ p. of_new_schema s (plan p)))
made_then s r made checked plan parts e is h = subst (λ z. Answers r (then z (λ p. of_new_schema s (plan p)))) (sym e) (h (plan parts) is)

pub planned_then : {A : Type 0} (r : Result Query TypeFault) (made : Result Query Memory) (checked : Checked A) (plan : A → Query) (parts : A)
    → checked ≡ Ok parts
    → IfOk made (λ query. query ≡ plan parts) → ((query : Query) → IfOk made (λ q. q ≡ query) → Answers r (Ok query))
    → Answers r (then checked (λ p. Ok (plan p)))
planned_then r made checked plan parts e is h = subst (λ z. Answers r (then z (λ p. Ok (plan p)))) (sym e) (h (plan parts) is)
