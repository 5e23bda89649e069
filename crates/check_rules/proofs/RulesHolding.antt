-- What holds of a thing wherever it is what checking answers.
use Rattle.std.proofs.Common.{◌≡◌, Bool, true, false, Ok, Err, IfOk, refl, subst}
use Rattle.cell_values.specs.declared.name.Span.{Span}
use Rattle.afl_trees.specs.TypeKind.{TypeKind}
use Rattle.check_rules.specs.Checked.{Checked, demand, then}

module _ {A : Type 0} (P : A → Type 0) where
  pub demanded : (b : Bool) (s : Span) (kind : TypeKind) (next : Checked A) → (b ≡ true → IfOk next P) → IfOk (demand b s kind next) P
  demanded true s kind next h = h refl
  demanded false s kind next h = tt

  pub thens : {B : Type 0} (part : Checked B) (next : B → Checked A) → ((b : B) → part ≡ Ok b → IfOk (next b) P) → IfOk (then part next) P
  thens (Ok b) next h = h b refl
  thens (Err breach) next h = tt

  pub of_answer : (part : Checked A) (a : A) → IfOk part P → part ≡ Ok a → P a
  of_answer part a h e = subst (λ (x : Checked A). IfOk x P) e h
