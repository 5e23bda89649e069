-- What holds of each plan that passes the rules that operators share.
use Rattle.std.proofs.Common.{◌≡◌, ◌≤◌, true, length, Option, Some, None, IfOk, refl}
use Rattle.std.specs.Prelude.{nat_le}
use Rattle.std.proofs.lemmas.Bool.{leb-true}
use Rattle.cell_values.specs.declared.name.Span.{Span}
use Rattle.cell_values.specs.declared.schema.Schema.{Schema}
use Rattle.cell_values.specs.Schemas.{frame_fits}
use Rattle.afl_trees.specs.TypeKind.TheVariants.{TooManyDimensions, TooManyAttributes, ChunkTooLarge}
use Rattle.plan_schemas.specs.PlanSchema.{schema_of}
use Rattle.plan_schemas.specs.Query.{Query}
use Rattle.check_rules.specs.Checked.{Checked}
use Rattle.check_rules.proofs.RulesHolding.{demanded}
use Rattle.check_rules.specs.NewSchema.{of_new_schema}
use Rattle.check_rules.specs.Sorts.{unless_other}

-- a schema within the limits
pub record IsWithin (schema : Schema) : Type 0 where
  pub attributes : length schema.attributes ≤ 64
  pub dimensions : length schema.dimensions ≤ 6
  pub frames : frame_fits schema.dimensions ≡ true

module _ (P : Query → Type 0) where
  pub unless_holds : (o : Option Span) (next : Checked Query) → (o ≡ None → IfOk next P) → IfOk (unless_other o next) P
  unless_holds None next h = h refl
  unless_holds (Some s) next h = tt

  pub new_holds : (s : Span) (query : Query) → (IsWithin (schema_of query) → P query) → IfOk (of_new_schema s query) P
  new_holds s query h =
      let schema : Schema = schema_of query in
      demanded P (nat_le (length schema.dimensions) 6) s TooManyDimensions _ (λ d.
      demanded P (nat_le (length schema.attributes) 64) s TooManyAttributes _ (λ a.
      demanded P (frame_fits schema.dimensions) s ChunkTooLarge _ (λ f.
      h (record { attributes = leb-true (length schema.attributes) 64 a; dimensions = leb-true (length schema.dimensions) 6 d; frames = f }))))
