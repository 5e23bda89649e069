use Rattle.std.proofs.Common.{refl, sym, ◌∙◌}
use Rattle.csv_scripts.specs.Fields.{a_null, a_truth}
use Rattle.csv_scripts.proofs.fields.parse_field.Goals as goal

pub returns-then-is_nullable : goal.returns-then-is_nullable
returns-then-is_nullable c = a_null (sym c.is_null_field.ensures ∙ c.if-is_null_field.true) (sym c.is_nullable.ensures ∙ c.if-is_nullable.true) refl

pub returns-in-Some-parse_bool : goal.returns-in-Some-parse_bool
returns-in-Some-parse_bool c = a_truth c.in-Some-parse_bool.truth c.if-format-2.true refl (sym c.in-Some-parse_bool.ensures)
