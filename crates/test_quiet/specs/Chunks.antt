-- Changes that can be computed where no array is stored.
use Rattle.std.specs.Prelude.{◌≡◌, []}
use Rattle.cell_values.specs.declared.schema.Schema.{Schema}
use Rattle.plan_changes.specs.declared.change.Change.{Change}
use Rattle.logical_plan.specs.declared.parts.Leaf.{Leaf}
use Rattle.chunk_source.specs.InMemory.{sure_state, unread}
use Rattle.changed_chunks.specs.Changing.{CanChange}

abbrev pub CanBeMade : Change → Leaf → Type 0
CanBeMade change target = CanChange (sure_state (unread [])) change target

-- an array without versions
pub record HasNoVersion (schema : Schema) (target : Leaf) : Type 0 where
  pub none : target.version ≡ 0
  pub of : target.schema ≡ schema
