-- Values that are made of parts are the worked ones.
use Rattle.std.proofs.Common.{◌≡◌, ◌∙◌, ℕ, pos, List, [], ap, true, false, codes}
use Rattle.cell_values.specs.declared.datum.Datum.TheVariants.{Int}
use Rattle.cell_values.specs.declared.datum.Row.{Row}
use Rattle.cell_values.specs.declared.schema.Schema.{Schema}
use Rattle.expr_nulls.specs.declared.expr.TypedExpr.{TypedExpr}
use Rattle.expr_nulls.specs.Expr.{literal}
use Rattle.logical_plan.specs.declared.names.NameEntry.{NameEntry}
use Rattle.logical_plan.specs.declared.plan.Plan.{Plan}
use Rattle.logical_plan.specs.Query.{built, listed}
use Rattle.plan_changes.specs.declared.change.Change.TheVariants.{Store, Insert}
use Rattle.event_core.specs.declared.state.Core.{Core}
use Rattle.event_core.specs.declared.state.CorePin.{CorePin}
use Rattle.event_core.specs.declared.state.VersionPages.{VersionPages}
use Rattle.event_core.specs.Worked.{worked_base, worked_store}
use Rattle.test_changes.specs.Worked.{schema_to, worked_schema, written}

abbrev core_of : List NameEntry → List VersionPages → List ℕ → List CorePin → List ℕ → Core
core_of arrays pages catalogue pins free = record { names = record { arrays = arrays }; pages = pages; catalogue = catalogue; pins = pins; free = free; limit = 16; entries = 0 }

pub base_as : (arrays : List NameEntry) (pages : List VersionPages) (catalogue : List ℕ) (pins : List CorePin) (free : List ℕ) → arrays ≡ [] → pages ≡ [] → catalogue ≡ worked_base.catalogue → pins ≡ [] → free ≡ worked_base.free → core_of arrays pages catalogue pins free ≡ worked_base
base_as arrays pages catalogue pins free a p c k f =
    ap (λ x. core_of x pages catalogue pins free) a
    ∙ ap (λ x. core_of [] x catalogue pins free) p
    ∙ ap (λ x. core_of [] [] x pins free) c
    ∙ ap (λ x. core_of [] [] worked_base.catalogue x free) k
    ∙ ap (λ x. core_of [] [] worked_base.catalogue [] x) f

module _ (name known : List ℕ) (schema copy : Schema) (rows : List Row) (plan : Plan) (n : name ≡ known) (s : schema ≡ worked_schema) (k : copy ≡ schema) (r : rows ≡ []) (p : plan ≡ listed copy rows) where
  none_listed : plan ≡ listed worked_schema []
  none_listed = p ∙ ap (λ x. listed x rows) (k ∙ s) ∙ ap (λ x. listed worked_schema x) r

  pub inserted_as : Insert name schema plan ≡ written known true
  inserted_as = ap (λ x. Insert x schema plan) n ∙ ap (λ x. Insert known x plan) s ∙ ap (λ x. Insert known worked_schema x) none_listed

  pub stored_as : Store name schema plan ≡ written known false
  stored_as = ap (λ x. Store x schema plan) n ∙ ap (λ x. Store known x plan) s ∙ ap (λ x. Store known worked_schema x) none_listed

pub sevens_as : (name : List ℕ) (schema places : Schema) (value : TypedExpr) (plan : Plan) → name ≡ codes "A" → schema ≡ places → places ≡ schema_to (pos 1) → value ≡ literal (Int (pos 7)) → plan ≡ built places value → Store name schema plan ≡ worked_store
sevens_as name schema places value plan n s k v p =
    ap (λ x. Store x schema plan) n
    ∙ ap (λ x. Store (codes "A") x plan) (s ∙ k)
    ∙ ap (λ x. Store (codes "A") (schema_to (pos 1)) x) (p ∙ ap (λ x. built x value) k ∙ ap (λ x. built (schema_to (pos 1)) x) v)
