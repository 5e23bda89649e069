-- Chunks without margins that hold the rows that landed so far, each in the order in which they came, and what becomes of them.
use Rattle.std.specs.Prelude.{◌≡◌, ℕ, ◌≤◌, ℤ, true, cond, IsTrue, List, [], ◌∷◌, ◌++◌, length, map}
use Rattle.std.specs.Prelude.{Option, Some, None, Result, Ok, Err, ⊤}
use Rattle.std.specs.BTreeMap as tree
use Rattle.std.specs.BTreeMap.{BTreeMap}
use Rattle.std.specs.Ordering.{is_eq}
use Rattle.std.specs.declared.cmp.Ordering.{Ordering}
use Rattle.arrayvec.specs.ArrayVec.{ArrayVec}
use Rattle.cell_values.specs.declared.datum.Broken.{Broken}
use Rattle.cell_values.specs.declared.datum.FaultKind.{FaultKind}
use Rattle.cell_values.specs.declared.datum.Row.{Row}
use Rattle.cell_values.specs.declared.memory.Memory.{Memory}
use Rattle.cell_values.specs.declared.schema.Bounds.{Bounds}
use Rattle.cell_values.specs.declared.schema.Schema.{Schema}
use Rattle.cell_values.specs.Schemas.{IsValid}
use Rattle.array_rows.specs.Boxes.{bounds_of, is_inside, within}
use Rattle.array_geom.specs.declared.chunk.Chunk.{Chunk}
use Rattle.array_geom.specs.Geometry.{ChunkNumber, HasFrame, frame}
use Rattle.array_geom.specs.Link.{IsPart, number_order}
use Rattle.area_cells.specs.Margins.{no_margins}
use Rattle.logical_plan.specs.Redimension.{Origin, landed, origin_of, value_origin}
use Rattle.redimension_exec.specs.declared.filling.chunks.Filled.{Filled}
use Rattle.redimension_exec.specs.declared.places.landing.Step.{Step}
use Rattle.redimension_exec.specs.declared.places.landing.Step.TheVariants.{Lands, Drops, Breaks}
use Rattle.redimension_exec.specs.declared.places.places.Place.{Place}
use Rattle.redimension_exec.specs.Inner.Counting.{AreCountsOf}
use Rattle.redimension_exec.specs.Inner.Steps.{AreSteps, IsStep, continued, targets_of}

-- ---- chunks by their numbers

abbrev pub by_number : ArrayVec ℕ → ArrayVec ℕ → Ordering
by_number v w = number_order v.items w.items

-- the chunk of that number without a cell
abbrev pub no_cells : ArrayVec ℕ → Chunk
no_cells number = record { at = number; positions = []; cells = [] }

-- the chunk of that number holds the rows in its frame
pub record IsHeldAt (target : Schema) (made : List Row) (number : ChunkNumber) (chunk : Chunk) : Type 0 where
  pub at : chunk.at.items ≡ number
  pub framed : HasFrame target (no_margins target.dimensions) number
  pub part : IsPart target.dimensions (no_margins target.dimensions) made chunk

-- where there is no chunk there is no row
abbrev pub IsHeld : Schema → List Row → ArrayVec ℕ → Option Chunk → Type 0
IsHeld target made key None =
    length key.items ≡ length target.dimensions → within (frame target.dimensions (no_margins target.dimensions) key.items) made ≡ []
IsHeld target made key (Some chunk) = IsHeldAt target made key.items chunk

-- the chunks hold these rows
abbrev pub AreHeld : Schema → List Row → BTreeMap (ArrayVec ℕ) Chunk → Type 0
AreHeld target made chunks = (key : ArrayVec ℕ) → IsHeld target made key (tree.get by_number chunks key)

-- the chunk of that number, where one stands beside the others
abbrev pub chunk_at : Option Chunk → BTreeMap (ArrayVec ℕ) Chunk → ArrayVec ℕ → Option Chunk
chunk_at None others key = tree.get by_number others key
chunk_at (Some last) others key = cond (is_eq (by_number last.at key)) (Some last) (tree.get by_number others key)

-- the same chunks, of which one stands beside the others
abbrev pub AreIn : Schema → List Row → Filled → Type 0
AreIn target made filled = (key : ArrayVec ℕ) → IsHeld target made key (chunk_at filled.last filled.others key)

-- ---- rows that land

-- a schema, no margins, the bounds, and at most six places
pub record IsTarget (schema : Schema) (margins : List ℕ) (bounds : Bounds) (places : List Place) : Type 0 where
  pub valid : IsValid schema
  pub none : margins ≡ no_margins schema.dimensions
  pub all : bounds ≡ bounds_of schema.dimensions
  pub few : length places ≤ 6

-- one row further, whose new row is told: it lands, drops out or breaks the array
abbrev pub IsNext : List Origin → Bounds → List Origin → List Row → Row → Step
    → BTreeMap (ArrayVec ℤ) ℕ → Type 0
IsNext origins bounds values made row (Lands new) counts = IsStep origins bounds values made row None (made ++ new ∷ []) counts
IsNext origins bounds values made row Drops counts = IsStep origins bounds values made row None made counts
IsNext origins bounds values made row (Breaks kind) counts = IsStep origins bounds values made row (Some kind) made counts

abbrev pub LandsInside : Bounds → Step → Type 0
LandsInside bounds (Lands new) = IsTrue (is_inside bounds new.at.items)
LandsInside bounds Drops = ⊤
LandsInside bounds (Breaks kind) = ⊤

-- one row of the source, whatever was made before, of which these are the counts and the chunks
pub record IsFilledWith (target : Schema) (origins : List Origin) (bounds : Bounds) (values : List Origin) (made : List Row) (row : Row)
    (fault : Option FaultKind) (counts : BTreeMap (ArrayVec ℤ) ℕ) (chunks : Filled) : Type 0 where
  pub all : List Row
  pub step : IsStep origins bounds values made row fault all counts
  pub held : AreIn target all chunks

pub record FillOne (target : Schema) (origins : List Origin) (bounds : Bounds) (values : List Origin) (row : Row)
    (fault : Option FaultKind) (counts : BTreeMap (ArrayVec ℤ) ℕ) (chunks : Filled)
    (counts' : BTreeMap (ArrayVec ℤ) ℕ) (chunks' : Filled) : Type 0 where
  pub of_made : (made : List Row) → AreCountsOf origins (targets_of made) counts → AreIn target made chunks
      → IsFilledWith target origins bounds values made row fault counts' chunks'

-- rows of the source one after the other: one breaks the array, or the chunks hold what landed of them too
pub record AreFilled (target : Schema) (origins : List Origin) (bounds : Bounds) (values : List Origin) (made rows : List Row)
    (broken : Option Broken) (counts : BTreeMap (ArrayVec ℤ) ℕ) (chunks : Filled) : Type 0 where
  pub all : List Row
  pub steps : AreSteps origins bounds values made rows broken all counts
  pub held : AreIn target all chunks

-- the same whatever was made before, of which these are the counts and the chunks
pub record Fill (target : Schema) (origins : List Origin) (bounds : Bounds) (values : List Origin) (rows : List Row)
    (broken : Option Broken) (counts : BTreeMap (ArrayVec ℤ) ℕ) (chunks : Filled)
    (counts' : BTreeMap (ArrayVec ℤ) ℕ) (chunks' : Filled) : Type 0 where
  pub of_made : (made : List Row) → AreCountsOf origins (targets_of made) counts → AreIn target made chunks
      → AreFilled target origins bounds values made rows broken counts' chunks'

-- after rows that were moved: what broke the target, or all its chunks by their numbers
abbrev pub IsFinished : Filled → Result (Option Broken) Memory → Result (BTreeMap (ArrayVec ℕ) Chunk) Broken → Type 0
IsFinished filled (Ok None) (Ok chunks) = (key : ArrayVec ℕ) → tree.get by_number chunks key ≡ chunk_at filled.last filled.others key
IsFinished filled (Ok None) (Err other) = ⊥
IsFinished filled (Ok (Some broken)) (Ok chunks) = ⊥
IsFinished filled (Ok (Some broken)) (Err other) = broken ≡ other
IsFinished filled (Err memory) made = ⊥

-- all rows of a source: the first that breaks the target, or chunks that hold what landed
abbrev pub HoldsAll : Schema → List Origin → Bounds → List Origin → List Row → Result (BTreeMap (ArrayVec ℕ) Chunk) Broken → Type 0
HoldsAll target origins bounds values rows (Ok chunks) =
    (made : List Row) × (Ok made ≡ continued values [] (landed origins bounds true rows [])) × AreHeld target made chunks
HoldsAll target origins bounds values rows (Err broken) = Err broken ≡ continued values [] (landed origins bounds true rows [])

-- the same by the names of a source and a target
abbrev pub HoldsLanded : Schema → Schema → List Row → Result (BTreeMap (ArrayVec ℕ) Chunk) Broken → Type 0
HoldsLanded source target =
    HoldsAll target (map (origin_of source) target.dimensions) (bounds_of target.dimensions) (map (value_origin source) target.attributes)
