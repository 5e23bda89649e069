-- What the rules of schemas answer.
use Rattle.std.proofs.Common.{◌≡◌, Ok, Err, sym, ap, ◌∙◌}
use Rattle.cell_values.specs.declared.schema.Schema.{Schema}
use Rattle.schema_grammar.specs.Rules.{rules, schema_of, Means}
use Rattle.schema_grammar.specs.declared.shape_text.SchemaText.{SchemaText}
use Rattle.schema_grammar.specs.declared.kinds.SchemaFault.{SchemaFault}
use Rattle.schema_grammar.specs.declared.kinds.SchemaFault.TheVariants as schema_fault
use Rattle.check_rules.specs.Checked.{Answers, of_schema}
use Rattle.check_sources.specs.Build.{meant, meant_by}

pub is_meant : (written : SchemaText) (schema : Schema) → Means (rules written) (schema_of written) (Ok schema) → meant written ≡ Ok schema
is_meant written schema (none, same) = ap (λ f. meant_by f (schema_of written)) none ∙ ap Ok (sym same)

pub is_broken : (written : SchemaText) (fault : SchemaFault) → Means (rules written) (schema_of written) (Err fault) → Answers {A = Schema} (Err (of_schema fault)) (meant written)
is_broken written (schema_fault.Rule span kind) broken = ap (λ f. meant_by f (schema_of written)) broken
is_broken written schema_fault.Memory broken = tt
