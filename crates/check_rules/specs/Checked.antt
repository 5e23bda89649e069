-- What checking answers: a typed thing, or the first rule that is broken.
use Rattle.std.specs.Prelude.{◌≡◌, Bool, true, false, Result, Ok, Err, ⊤}
use Rattle.cell_values.specs.declared.name.Span.{Span}
use Rattle.afl_trees.specs.TypeKind.{TypeKind}
use Rattle.afl_trees.specs.SchemaFault.{SchemaFault}
use Rattle.afl_trees.specs.SchemaFault.TheVariants as schema
use Rattle.check_rules.specs.declared.rules.fault.TypeFault.{TypeFault}
use Rattle.check_rules.specs.declared.rules.fault.TypeFault.TheVariants.{Rule, Memory}

-- a rule that is broken: the place of what breaks it, and the rule's kind
pub record Breach : Type 0 where
  pub span : Span
  pub kind : TypeKind

abbrev pub Checked : Type 0 → Type 0
Checked A = Result A Breach

abbrev pub refused : {A : Type 0} → Span → TypeKind → Checked A
refused span kind = Err (record { span = span; kind = kind })

-- A rule, and what comes where it holds. So rules are tested one behind the other, and the first that is broken is the answer.
abbrev pub demand : {A : Type 0} → Bool → Span → TypeKind → Checked A → Checked A
demand true span kind next = next
demand false span kind next = refused span kind

-- a part that is checked before what is made of it
abbrev pub then : {A B : Type 0} → Checked A → (A → Checked B) → Checked B
then (Ok a) next = next a
then (Err breach) next = Err breach

-- A call answers what is checked, unless memory ran out.
abbrev pub Answers : {A : Type 0} → Result A TypeFault → Checked A → Type 0
Answers (Ok a) checked = checked ≡ Ok a
Answers (Err (Rule span kind)) checked = checked ≡ refused span kind
Answers (Err Memory) checked = ⊤

abbrev pub of_schema : SchemaFault → TypeFault
of_schema (schema.Rule span kind) = Rule span kind
of_schema schema.Memory = Memory
