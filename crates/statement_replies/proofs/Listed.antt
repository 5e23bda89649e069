-- What is asked for rests on the chunks alone that the source lists.
use Rattle.std.proofs.Common.{◌≡◌, ℕ, ◌+◌, List, [], ◌∷◌, ◌++◌, length, map, Ok, Err, refl}
use Rattle.cell_values.specs.declared.datum.Row.{Row}
use Rattle.cell_values.specs.declared.schema.Bounds.{Bounds}
use Rattle.logical_plan.specs.declared.names.Names.{Names}
use Rattle.logical_plan.specs.declared.parts.Leaf.{Leaf}
use Rattle.logical_plan.specs.Leaves.{leaves}
use Rattle.logical_plan.specs.Query.{Query}
use Rattle.plan_changes.specs.declared.change.Change.{Change}
use Rattle.plan_changes.specs.declared.change.Change.TheVariants.{Create, Store, Insert, Remove, RemoveVersions}
use Rattle.plan_needs.specs.Wanted.{wanted_of, whole_need}
use Rattle.check_rules.specs.Checked.{Checked}
use Rattle.afl_types.specs.declared.types.statements.checking.Typed.{Typed}
use Rattle.afl_types.specs.declared.types.statements.checking.Typed.TheVariants.{Query as AQuery, Change as AChange, Versions, Show, ListArrays}
use Rattle.chunk_source.specs.Source.{SourceState, asks, listed}
use Rattle.chunk_exec.specs.Computed.{asked_for_plan, asked_in_boxes}
use Rattle.changed_chunks.specs.Wanted.{target_wanted}
use Rattle.statement_replies.specs.Traces.{newest_leaf}
use Rattle.statement_replies.specs.Outcomes.{all_asked, all_of_change}

module _ (rows : List Row) (a b : SourceState) (same : (leaf : Leaf) → listed a leaf ≡ listed b leaf) where
  boxes_decide : (number : ℕ) (all : List Leaf) (boxes : List Bounds) → asked_in_boxes a number all boxes ≡ asked_in_boxes b number all boxes
  boxes_decide number [] boxes = refl
  boxes_decide number (leaf ∷ all) [] = refl
  boxes_decide number (leaf ∷ all) (box ∷ boxes) =
      λ i. map (asks number) (wanted_of leaf.schema.dimensions box (same leaf i)) ++ boxes_decide (number + 1) all boxes i

  plans_decide : (plan : Query) → asked_for_plan a plan ≡ asked_for_plan b plan
  plans_decide plan = boxes_decide 0 (leaves plan) (whole_need plan)

  changes_decide : (names : Names) (change : Change) → all_of_change rows a names change ≡ all_of_change rows b names change
  changes_decide names (Create name schema) = refl
  changes_decide names (Store name schema plan) = plans_decide plan
  changes_decide names (Insert name schema plan) =
      λ i. plans_decide plan i ++ map (asks (length (leaves plan))) (target_wanted schema.dimensions rows (same (newest_leaf names name schema) i))
  changes_decide names (Remove name) = refl
  changes_decide names (RemoveVersions name below) = refl

  pub listed_decide : (names : Names) (checked : Checked Typed) → all_asked rows a names checked ≡ all_asked rows b names checked
  listed_decide names (Ok (AQuery plan)) = plans_decide plan
  listed_decide names (Ok (AChange change)) = changes_decide names change
  listed_decide names (Ok (Versions name)) = refl
  listed_decide names (Ok (Show name)) = refl
  listed_decide names (Ok ListArrays) = refl
  listed_decide names (Err breach) = refl
