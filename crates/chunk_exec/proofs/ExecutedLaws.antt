-- What is told of a plan that was computed in place of another one.
use Rattle.std.proofs.Common.{◌≡◌, List, [], ◌∷◌, ◌++◌, Ok, Err, Result, sym, ap, ◌∙◌, subst}
use Rattle.std.specs.Prelude.{IfOk, OnErr, OnOk}
use Rattle.std.specs.List.{AllByRecursion}
use Rattle.cell_values.specs.declared.schema.Bounds.{Bounds}
use Rattle.cell_values.specs.declared.schema.Schema.{Schema}
use Rattle.array_rows.specs.Arrays.{AreRowsOf}
use Rattle.array_rows.specs.Boxes.{bounds_of}
use Rattle.array_geom.specs.declared.chunk.ChunkedArray.{ChunkedArray}
use Rattle.array_geom.specs.Link.{Is}
use Rattle.array_parts.specs.Cores.{HasCells}
use Rattle.array_parts.specs.Placed.{IsSound}
use Rattle.logical_plan.specs.declared.parts.Leaf.{Leaf}
use Rattle.logical_plan.specs.Leaves.{leaves}
use Rattle.logical_plan.specs.Meaning.{Database, meaning, version_rows}
use Rattle.logical_plan.specs.PlanSchema.{schema_of}
use Rattle.logical_plan.specs.Query.{Query}
use Rattle.logical_plan.specs.Typing.{IsTyped}
use Rattle.plan_needs.specs.Needs.{needs}
use Rattle.plan_needs.specs.Sides.{sides_of}
use Rattle.plan_needs.specs.Sufficient.{HasArrays}
use Rattle.plan_needs.specs.Wanted.{whole_need}
use Rattle.plan_rewrite.specs.Same.{IsRewritten}
use Rattle.chunk_source.specs.declared.reading.fault.ExecFault.{ExecFault}
use Rattle.chunk_source.specs.declared.sources.asked.Asked.{Asked}
use Rattle.chunk_source.specs.Source.{SourceState, AsksFront, Reads, listed as chunks_listed}
use Rattle.chunk_source.specs.Numbered.{HoldsAll, by_number, known_of_leaves}
use Rattle.chunk_source.proofs.SufficientLaws.{holds_behind, suffices}
use Rattle.chunk_exec.specs.Computed.{CanCompute, IsComputed, asked_for_plan, asked_in_boxes}
use Rattle.chunk_exec.proofs.ComputedLaws.{HasLeaf}

-- ---- a plan that is computed as it stands

-- it was computed in the boxes that it needs
pub in_its_boxes : (answer : Result ChunkedArray ExecFault) (boxes : List Bounds) (old new : SourceState) (query : Query) → boxes ≡ whole_need query → IfOk answer (IsComputed 0 boxes old new query)
    → IfOk answer (IsComputed 0 (whole_need query) old new query)
in_its_boxes answer boxes old new query e made = subst (λ (z : List Bounds). IfOk answer (IsComputed 0 z old new query)) e made

-- what is known of the leaves suffices
executed : (old new : SourceState) (query : Query) (array : ChunkedArray) → IsTyped query → IsComputed 0 (whole_need query) old new query array → (db : Database) → old.tells db → Is array (meaning db query)
executed old new query array typed made db tells =
    let rows = known_of_leaves (chunks_listed old) db (leaves query) (whole_need query) in
    let known : Database = by_number rows in
    let holds : HoldsAll known 0 rows = holds_behind [] rows in
    subst (Is array) (suffices (chunks_listed old) db known query typed (made.leaves_are db tells) holds) (made.means db known tells holds)

-- each leaf stands for an array
have_rows : (old : SourceState) (db : Database) (all : List Leaf) → AllByRecursion (HasLeaf old db) all → AllByRecursion (λ leaf. AreRowsOf leaf.schema (version_rows db leaf.name leaf.version)) all
have_rows old db [] are = tt
have_rows old db (leaf ∷ all) are = (are.0.rows_of, have_rows old db all are.1)

-- ---- a settled plan in place of another one

module _ (query settled : Query) (is : IsRewritten query settled) where
  same_boxes : whole_need settled ≡ whole_need query
  same_boxes =
      ap (λ (s : Schema). needs settled (sides_of (bounds_of s.dimensions))) is.is_same.same_schema
      ∙ is.is_same.same_needs (sides_of (bounds_of (schema_of query).dimensions))

  same_asked : (source : SourceState) → asked_for_plan source settled ≡ asked_for_plan source query
  same_asked source =
      ap (λ (z : List Leaf). asked_in_boxes source 0 z (whole_need settled)) is.is_same.same_leaves
      ∙ ap (λ (z : List Bounds). asked_in_boxes source 0 (leaves query) z) same_boxes

  same_meaning : (old new : SourceState) (array : ChunkedArray) → IsComputed 0 (whole_need settled) old new settled array → (db : Database) → old.tells db → Is array (meaning db query)
  same_meaning old new array made db tells =
      let arrays : HasArrays db query = have_rows old db (leaves query) (subst (AllByRecursion (HasLeaf old db)) is.is_same.same_leaves (made.leaves_are db tells)) in
      subst (Is array) (is.is_same.same_meaning db arrays) (executed old new settled array is.is_typed made db tells)

  pub can_settled : (source : SourceState) → CanCompute source query → CanCompute source settled
  can_settled source can = record { typed = is.is_typed; reads = subst (AllByRecursion (Reads source)) (sym is.is_same.same_leaves) can.reads }

  pub schema_if : (answer : Result ChunkedArray ExecFault) (old new : SourceState) → IfOk answer (IsComputed 0 (whole_need settled) old new settled) → IfOk answer (λ array. array.schema ≡ schema_of query)
  schema_if (Err fault) old new made = tt
  schema_if (Ok array) old new made = made.schema_is ∙ is.is_same.same_schema

  pub means_if : (answer : Result ChunkedArray ExecFault) (old new : SourceState) → IfOk answer (IsComputed 0 (whole_need settled) old new settled)
      → IfOk answer (λ array. (db : Database) → old.tells db → Is array (meaning db query))
  means_if (Err fault) old new made = tt
  means_if (Ok array) old new made = same_meaning old new array made

  pub asked_if : (answer : Result ChunkedArray ExecFault) (old new : SourceState) → IfOk answer (IsComputed 0 (whole_need settled) old new settled) → OnOk answer (new.asked ≡ old.asked ++ asked_for_plan old query)
  asked_if (Err fault) old new made = tt
  asked_if (Ok array) old new made = made.asked ∙ ap (λ (z : List Asked). old.asked ++ z) (same_asked old)

  pub front_if : (answer : Result ChunkedArray ExecFault) (old new : SourceState) → OnErr answer (AsksFront (asked_for_plan old settled) old new) → OnErr answer (AsksFront (asked_for_plan old query) old new)
  front_if answer old new front = subst (λ (z : List Asked). OnErr answer (AsksFront z old new)) (same_asked old) front

pub sound_if : (answer : Result ChunkedArray ExecFault) (boxes : List Bounds) (old new : SourceState) (query : Query) → IfOk answer (IsComputed 0 boxes old new query) → IfOk answer IsSound
sound_if (Err fault) boxes old new query made = tt
sound_if (Ok array) boxes old new query made = λ whole. (made.cells whole).placed

pub cells_if : (answer : Result ChunkedArray ExecFault) (boxes : List Bounds) (old new : SourceState) (query : Query) → IfOk answer (IsComputed 0 boxes old new query) → IfOk answer HasCells
cells_if (Err fault) boxes old new query made = tt
cells_if (Ok array) boxes old new query made = made.cells
