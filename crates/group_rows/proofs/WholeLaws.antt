-- Aggregates of whole arrays.
use Rattle.std.proofs.Common.{◌≡◌, ℕ, ◌≤◌, IsTrue, List, [], ◌∷◌, length, Some, None, Result, Ok, Err, sym, ap, ◌∙◌, subst, arith}
use Rattle.std.proofs.lemmas.List.{length-map}
use Rattle.std.specs.Prelude.{IfOk}
use Rattle.cell_values.specs.declared.datum.Broken.{Broken}
use Rattle.cell_values.specs.declared.datum.Row.{Row}
use Rattle.cell_values.specs.declared.memory.Memory.{Memory}
use Rattle.cell_values.specs.declared.schema.Attribute.{Attribute}
use Rattle.cell_values.specs.declared.schema.Schema.{Schema}
use Rattle.cell_values.specs.Schemas.{IsValid}
use Rattle.array_rows.specs.Arrays.{AreRowsOf, Meant}
use Rattle.array_rows.specs.Rows.{Coordinate}
use Rattle.array_geom.specs.declared.chunk.ChunkedArray.{ChunkedArray}
use Rattle.array_geom.specs.Link.{Is}
use Rattle.array_geom.proofs.NearLemmas.{valid_placed}
use Rattle.array_parts.specs.Cores.{HaveCells, cores_of, meant_by_cores, unless_broken}
use Rattle.array_parts.proofs.CoreLaws.{cores_are_rows}
use Rattle.logical_plan.specs.declared.parts.Aggregate.{Aggregate}
use Rattle.logical_plan.specs.BoxOps.{items_at}
use Rattle.logical_plan.specs.Faults.{if_whole}
use Rattle.logical_plan.specs.Meaning.{made as means}
use Rattle.logical_plan.specs.PlanSchema.{without_overlap, aggregate_attributes, aggregate_schema}
use Rattle.logical_plan.specs.Typing.{are_aggregates_of, are_below, kinds_of}
use Rattle.group_rows.specs.declared.rows.groups.Group.{Group}
use Rattle.group_rows.specs.Grouped.{AreGroupsOf}
use Rattle.group_rows.specs.Sets.{Sets}
use Rattle.group_rows.specs.Inner.Merging.{CanBeTold, HoldsSets, IsSetFor}
use Rattle.group_rows.specs.Told.{AreRowsOfSets}
use Rattle.group_rows.proofs.InsideLaws.{kinds_told, as_many_items}

abbrev meant_of : Schema → Result (List Row) Broken → Meant
meant_of schema rows = record { schema = schema; rows = rows }

pub means_whole : (schema_of : Schema → Schema) (rows_of : Schema → List Row → List Row) (array : ChunkedArray) (schema : Schema) (new : List Row)
    → array.broken ≡ None → schema ≡ schema_of array.schema → new ≡ rows_of array.schema (cores_of array) → meant_of schema (Ok new) ≡ means schema_of rows_of (meant_by_cores array)
means_whole schema_of rows_of array schema new none e m =
    let rows : Ok new ≡ if_whole (rows_of array.schema) (unless_broken array.broken (cores_of array)) =
    ap (λ (z : List Row). Ok z) m ∙ ap (λ b. if_whole (rows_of array.schema) (unless_broken b (cores_of array))) (sym none) in
    λ i. meant_of (e i) (rows i)

pub means_broken : (schema_of : Schema → Schema) (rows_of : Schema → List Row → List Row) (array : ChunkedArray) (schema : Schema) (broken : Broken)
    → schema ≡ schema_of array.schema → array.broken ≡ Some broken → meant_of schema (Err broken) ≡ means schema_of rows_of (meant_by_cores array)
means_broken schema_of rows_of array schema broken e b =
    let rows : Err broken ≡ if_whole (rows_of array.schema) (unless_broken array.broken (cores_of array)) = ap (λ z. if_whole (rows_of array.schema) (unless_broken z (cores_of array))) (sym b) in
    λ i. meant_of (e i) (rows i)

pub stands_for : (r : Result ChunkedArray Memory) (a b : Meant) → a ≡ b → IfOk r (λ made. Is made a) → IfOk r (λ made. Is made b)
stands_for r a b e h = subst (λ (m : Meant). IfOk r (λ made. Is made m)) e h

pub of_cores : (array : ChunkedArray) (rows : List Row) → rows ≡ cores_of array → HaveCells array.schema array.margins.items array.chunks → AreRowsOf array.schema rows
of_cores array rows e h = subst (AreRowsOf array.schema) (sym e) (cores_are_rows array.schema array.margins.items array.chunks h)

pub few_names : (gs : List Aggregate) (places : List ℕ) (schema target : Schema) → target ≡ aggregate_schema gs places schema → IsValid target → IsTrue (are_below (length schema.dimensions) places) → length places ≤ 6
few_names gs [] schema target e v l = omega arith
few_names gs (d ∷ places) schema target e v l =
    let few = (valid_placed target v).few in
    let same = ap (λ (s : Schema). length s.dimensions) e ∙ length-map (items_at (d ∷ places) schema.dimensions) without_overlap ∙ as_many_items schema.dimensions (d ∷ places) l in
    omega (arith, few, same)

abbrev pub can_tell : (source target : Schema) (gs : List Aggregate) (sets : Sets) (groups : List Group) → target.attributes ≡ aggregate_attributes source.attributes gs → IsTrue (are_aggregates_of source.attributes gs)
    → ((c : Coordinate) → IsSetFor source.attributes target c (sets c)) → AreGroupsOf gs sets groups → CanBeTold target groups
can_tell source target gs sets groups e typed fits are = record {
  gs = gs;
  attributes = source.attributes;
  sets = sets;
  groups_of = are;
  typed = typed;
  cells = fits;
  kinds = ap (λ (attributes : List Attribute). kinds_of attributes) e ∙ kinds_told source.attributes gs;
}

pub told_whole : (schema_of : Schema → Schema) (rows_of : Schema → List Row → List Row) (array : ChunkedArray) (gs : List Aggregate) (sets : Sets) (target : Schema) (rows : List Row) (made : ChunkedArray) → rows ≡ cores_of array → array.broken ≡ None
    → target ≡ schema_of array.schema → ((new : List Row) → AreRowsOfSets gs sets new → new ≡ rows_of array.schema rows) → HoldsSets target gs sets made → Is made (means schema_of rows_of (meant_by_cores array))
told_whole schema_of rows_of array gs sets target rows made same none e told h =
    subst (λ (m : Meant). Is made m)
    (means_whole schema_of rows_of array target h.rows none e (told h.rows h.told ∙ ap (rows_of array.schema) same))
    h.is

pub if_ok : {X E : Type 0} {P Q : X → Type 0} (r : Result X E) → IfOk r P → ((x : X) → P x → Q x) → IfOk r Q
if_ok (Ok x) p f = f x p
if_ok (Err e) p f = p
