-- Chunks that are stored as they are.
use Rattle.std.proofs.Common.{Bool, Option, ◌≡◌, ℕ, zero, suc, ◌⊎◌, ⊎_elim, ◌+◌, ◌<◌, ◌≤◌, ℤ, true, List, [], ◌∷◌, length, map, take, get_or, Some, None, Result, Ok, Err, refl, sym, ap, ◌∙◌, subst, arith, add-one, inl, inr, false, ◌&&◌}
use Rattle.std.specs.Prelude.{IfOk, slice_index_or}
use Rattle.std.specs.List.{AllByRecursion}
use Rattle.std.specs.Option.{option_or}
use Rattle.std.proofs.lemmas.Bool.{and_parts, and_from}
use Rattle.std.proofs.lemmas.List.{take_all, length-map}
use Rattle.cell_values.specs.declared.datum.Broken.{Broken}
use Rattle.cell_values.specs.declared.datum.Cell.{Cell}
use Rattle.cell_values.specs.declared.datum.Cell.TheVariants.{Full, Doubt}
use Rattle.cell_values.specs.declared.datum.Datum.{Datum}
use Rattle.cell_values.specs.declared.datum.Datum.TheVariants.{Null, Missing, Int, Text, Truth, Bad}
use Rattle.cell_values.specs.declared.datum.FaultKind.{FaultKind}
use Rattle.cell_values.specs.declared.datum.Row.{Row}
use Rattle.cell_values.specs.declared.schema.Attribute.{Attribute}
use Rattle.cell_values.specs.declared.schema.Bounds.{Bounds}
use Rattle.cell_values.specs.declared.schema.Schema.{Schema}
use Rattle.cell_values.specs.Cells.{AreOfKinds, IsCellOf}
use Rattle.array_rows.specs.Arrays.{AreRowsOf}
use Rattle.array_rows.specs.Boxes.{is_inside, within}
use Rattle.array_rows.specs.CellFaults.{fault_of_cell, fault_of_value, fault_of_values}
use Rattle.array_rows.specs.Inner.CellsIn.{value_in}
use Rattle.array_geom.specs.declared.chunk.Changed.{Changed}
use Rattle.array_geom.specs.declared.chunk.Chunk.{Chunk}
use Rattle.array_geom.specs.declared.chunk.ChunkedArray.{ChunkedArray}
use Rattle.array_geom.specs.Chunks.{IsChunk}
use Rattle.array_geom.specs.Geometry.{HasFrame, coordinate_in, frame, frame_low, frame_lengths, overlaps, volume, ChunkNumber, core}
use Rattle.array_geom.specs.Link.{HoldsResult, HoldsRows, Is, IsPart, chunk_rows, core_rows, rows_in, has_cell, is_not_empty}
use Rattle.array_geom.proofs.LawProofs.{coordinate_at_place}
use Rattle.array_geom.proofs.LinkLaws.{chunks_have_their_rows, within-within}
use Rattle.array_parts.specs.Cores.{HasCells, HaveCells, cores_of}
use Rattle.array_parts.specs.Placed.{HasPlaces}
use Rattle.array_parts.proofs.CoreLaws.{cores_are_rows}
use Rattle.chunk_source.specs.Laws.{HasSoundCells}
use Rattle.chunk_source.proofs.ValidLaws.{valid_chunk}
use Rattle.commit_pages.specs.Changes.{AreValid}
use Rattle.logical_plan.specs.CellOps.{fit_value, fit_values, fit_rows}
use Rattle.logical_plan.specs.Faults.{fault_in, first_fault}
use Rattle.logical_plan.specs.Groups.{bad_kind, first_some}
use Rattle.logical_plan.specs.Meaning.{Meant, meaning}
use Rattle.logical_plan.specs.Query.{Query}
use Rattle.logical_plan.specs.Typing.{may_stand, may_all_stand, is_sound, AreSound}
use Rattle.plan_changes.specs.Databases.{Database, fitted, rows_of}
use Rattle.plan_changes.specs.Kept.{MeansArray}
use Rattle.plan_changes.specs.declared.change.Change.TheVariants.{Store}
use Rattle.plan_changes.proofs.FitLaws.{fit_is, fitted_cell, fitted_row}
use Rattle.array_geom.proofs.CoreLaws.{core_in_frame}
use Rattle.array_rows.specs.Rows.{Coordinate, put_all}
use Rattle.cell_values.specs.declared.schema.Dimension.{Dimension}
use Rattle.chunk_cells.proofs.MergeLaws.{put_all-none}
use Rattle.commit_pages.specs.Lengths.{meets}
use Rattle.changed_chunks.specs.Changing.{IsAnswerOver}
use Rattle.changed_chunks.specs.Inner.Input.{CanBeStored, IsFound, fitted_cores}
use Rattle.changed_chunks.specs.Inner.Unchanged.{AreNumbers, AreNumbersAt, HaveNoFault, IsStorable, MayStandAt, MayStandFrom, IsStorableChunk}
use Rattle.changed_chunks.specs.Inner.Writes.{IsStoreOf, IsInsertOf}
use Rattle.array_parts.specs.Parts.{holds_cell}
use Rattle.area_cells.specs.Margins.{no_margins}
use Rattle.chunk_source.specs.Inner.Alone.{have_no_overlap}
use Rattle.changed_chunks.proofs.ChunkLaws.{sound_cores, stored_chunks}
use Rattle.changed_chunks.proofs.CoresAlone.{alone_chunks, no_overlap, own_part}
use Rattle.changed_chunks.proofs.Reach.{met_of}
use Rattle.changed_chunks.proofs.Rows.{found_there}
use Rattle.changed_chunks.proofs.Told.{answers_store}
use Rattle.changed_chunks.proofs.Written.{all_written}

-- ---- numbers are sound

abbrev IsNumber : Datum → Type 0
IsNumber v = (n : ℤ) × (v ≡ Int n)

number_stands : (a : Attribute) (v : Datum) → IsNumber v → may_stand a v ≡ true
number_stands a v is = subst (λ (w : Datum). may_stand a w ≡ true) (sym is.1) refl

-- a row of numbers
numbers_stand : (attributes : List Attribute) (vs : List Datum) → ((k : ℕ) → k < length attributes → IsNumber (slice_index_or vs k Null)) → may_all_stand attributes vs ≡ true
numbers_stand [] [] are = refl
numbers_stand [] (v ∷ vs) are = refl
numbers_stand (a ∷ attributes) [] are = refl
numbers_stand (a ∷ attributes) (v ∷ vs) are =
    and_from (may_stand a v) (may_all_stand attributes vs) (number_stands a v (are 0 (omega arith))) (numbers_stand attributes vs (λ k lt. are (suc k) (omega arith)))

no_number : (kind : FaultKind) (n : ℤ) → Bad kind ≡ Int n → ⊥
no_number kind n e = cc

sound_cell : (attributes : List Attribute) (cell : Cell) → 0 < length attributes → ((k : ℕ) → k < length attributes → IsNumber (value_in k cell)) → is_sound attributes cell ≡ true
sound_cell attributes (Full vs) some are = numbers_stand attributes vs are
sound_cell attributes (Doubt kind) some are = let first = are 0 some in absurd (no_number kind first.0 first.1)

-- the values at a place of all cells, one by one
abbrev AreEach : ℕ → List Cell → Type 0
AreEach count cells = AllByRecursion (λ cell. (k : ℕ) → k < count → IsNumber (value_in k cell)) cells

first_number : (v : Datum) (vs : List Datum) (numbers : List ℤ) → v ∷ vs ≡ map Int numbers → IsNumber v × ((rest : List ℤ) × (vs ≡ map Int rest))
first_number v vs [] e = absurd cc
first_number v vs (n ∷ numbers) e = ((n, cc), (numbers, cc))

each_number : (count : ℕ) (cells : List Cell) → AreNumbers count cells → AreEach count cells
each_number count [] are = tt
each_number count (cell ∷ cells) are = (
  λ k lt. let all = are k lt in (first_number (value_in k cell) (map (value_in k) cells) all.0 all.1).0,
  each_number count cells (λ k lt. let all = are k lt in (first_number (value_in k cell) (map (value_in k) cells) all.0 all.1).1),
)

sound_each : (attributes : List Attribute) (cells : List Cell) → 0 < length attributes → AreEach (length attributes) cells → AllByRecursion (λ cell. is_sound attributes cell ≡ true) cells
sound_each attributes [] some are = tt
sound_each attributes (cell ∷ cells) some are = (sound_cell attributes cell some are.0, sound_each attributes cells some are.1)

sound_all : (schema : Schema) (margins : List ℕ) (chunks : List Chunk) → AllByRecursion (IsStorableChunk schema margins) chunks → AllByRecursion (HasSoundCells schema) chunks
sound_all schema margins [] are = tt
sound_all schema margins (chunk ∷ chunks) are = (are.0.sound, sound_all schema margins chunks are.1)

pub numbers_sound : (attributes : List Attribute) (cells : List Cell) (count : ℕ) → 0 < length attributes → count ≡ length attributes → AreNumbers count cells → AllByRecursion (λ cell. is_sound attributes cell ≡ true) cells
numbers_sound attributes cells count some same are = sound_each attributes cells some (each_number (length attributes) cells (subst (λ (n : ℕ). AreNumbers n cells) same are))

-- ---- cells without a fault

-- a cell's values from a place on may be null, or are numbers
abbrev StandFrom : ℕ → List Attribute → Cell → Type 0
StandFrom place [] cell = Unit {0}
StandFrom place (a ∷ attributes) cell = (a.nullable ≡ true ⊎ IsNumber (value_in place cell)) × StandFrom (suc place) attributes cell

first_stands : (place : ℕ) (attributes : List Attribute) (cell : Cell) (cells : List Cell) → MayStandFrom place attributes (cell ∷ cells) → StandFrom place attributes cell × MayStandFrom place attributes cells
first_stands place [] cell cells may = (tt, tt)
first_stands place (a ∷ attributes) cell cells may =
    let rest = first_stands (suc place) attributes cell cells may.1 in
    let Here : Type 0 = (a.nullable ≡ true ⊎ IsNumber (value_in place cell)) × MayStandAt a place cells in
    let here : Here = ⊎_elim
    (λ n. (inl n, inl n))
    (λ are. let one = first_number (value_in place cell) (map (value_in place) cells) are.0 are.1 in (inr one.0, inr one.1)) may.0 in
    ((here.0, rest.0), (here.1, rest.1))

later_stand : (place : ℕ) (attributes : List Attribute) (v : Datum) (vs : List Datum) → StandFrom (suc place) attributes (Full (v ∷ vs)) → StandFrom place attributes (Full vs)
later_stand place [] v vs stand = tt
later_stand place (a ∷ attributes) v vs stand = (stand.0, later_stand (suc place) attributes v vs stand.1)

both_none : (a b : Option FaultKind) → option_or a b ≡ None → (a ≡ None) × (b ≡ None)
both_none None b e = (refl, e)
both_none (Some kind) b e = absurd cc

null_stands : (a : Attribute) (v : Datum) → fault_of_value v ≡ None → a.nullable ≡ true → may_stand a v ≡ true
null_stands a Null e n = n
null_stands a (Missing code) e n = n
null_stands a (Int k) e n = refl
null_stands a (Text s) e n = refl
null_stands a (Truth b) e n = refl
null_stands a (Bad kind) e n = absurd cc

all_stand : (attributes : List Attribute) (vs : List Datum) → fault_of_values vs ≡ None → StandFrom 0 attributes (Full vs) → may_all_stand attributes vs ≡ true
all_stand [] [] e stand = refl
all_stand [] (v ∷ vs) e stand = refl
all_stand (a ∷ attributes) [] e stand = refl
all_stand (a ∷ attributes) (v ∷ vs) e stand =
    let none = both_none (fault_of_value v) (fault_of_values vs) e in
    and_from (may_stand a v) (may_all_stand attributes vs) (⊎_elim (null_stands a v none.0) (number_stands a v) stand.0) (all_stand attributes vs none.1 (later_stand 0 attributes v vs stand.1))

cell_sound : (attributes : List Attribute) (cell : Cell) → fault_of_cell cell ≡ None → StandFrom 0 attributes cell → is_sound attributes cell ≡ true
cell_sound attributes (Full vs) e stand = all_stand attributes vs e stand
cell_sound attributes (Doubt kind) e stand = absurd cc

pub faultless_sound : (attributes : List Attribute) (cells : List Cell) → MayStandFrom 0 attributes cells → HaveNoFault cells → AllByRecursion (λ cell. is_sound attributes cell ≡ true) cells
faultless_sound attributes [] may none = tt
faultless_sound attributes (cell ∷ cells) may none =
    let first = first_stands 0 attributes cell cells may in
    (cell_sound attributes cell (none 0 (omega arith)) first.0, faultless_sound attributes cells first.1 (λ k low. none (suc k) (omega (arith, low))))

pub no_fault_more : (k : ℕ) (cells : List Cell) → fault_of_cell (slice_index_or cells k (Full [])) ≡ None → ((i : ℕ) → i < k → fault_of_cell (slice_index_or cells i (Full [])) ≡ None)
    → (i : ℕ) → i < k + 1 → fault_of_cell (slice_index_or cells i (Full [])) ≡ None
no_fault_more k cells now before = λ i low. ⊎_elim (before i) (λ same. ap (λ (n : ℕ). fault_of_cell (slice_index_or cells n (Full []))) same ∙ now) (cases i low)
  where
    cases : (i : ℕ) → i < k + 1 → (i < k) ⊎ (i ≡ k)
    cases i low = grind arith

-- ---- the tests, one by one

pub numbers_more : (i : ℕ) (cells : List Cell) → AreNumbersAt i cells → AreNumbers i cells → AreNumbers (i + 1) cells
numbers_more i cells now before = λ k low. ⊎_elim (before k) (λ same. subst (λ (n : ℕ). AreNumbersAt n cells) (sym same) now) (cases k low)
  where
    cases : (k : ℕ) → k < i + 1 → (k < i) ⊎ (k ≡ i)
    cases k low = grind arith

more : {A : Type 0} (P : A → Type 0) (xs : List A) (i : ℕ) (x : A) → i < length xs → x ≡ get_or xs i x → P x → AllByRecursion P (take i xs) → AllByRecursion P (take (suc i) xs)
more P [] i x low is one before = absurd (omega (arith, low))
more {A = A} P (y ∷ xs) zero x low is one before = (subst P is one, tt)
more {A = A} P (y ∷ xs) (suc i) x low is one before = (before.0, more P xs i x (omega (arith, low)) is one before.1)

pub one_more : {A : Type 0} (P : A → Type 0) (xs : List A) (i : ℕ) (x : A) → i < length xs → x ≡ get_or xs i x → P x → AllByRecursion P (take i xs) → AllByRecursion P (take (i + 1) xs)
one_more P xs i x low is one before = rw add-one (more P xs i x low is one before)

pub all_tested : {A : Type 0} (P : A → Type 0) (xs : List A) (i : ℕ) → length xs ≤ i → AllByRecursion P (take i xs) → AllByRecursion P xs
all_tested P xs i le all = subst (AllByRecursion P) (take_all i xs (omega (arith, le))) all

-- ---- sound rows are their own fitted rows

value_fits : (a : Attribute) (v : Datum) → may_stand a v ≡ true → fit_value a v ≡ v
value_fits a Null e = rw e refl
value_fits a (Missing code) e = rw e refl
value_fits a (Int n) e = refl
value_fits a (Text s) e = refl
value_fits a (Truth b) e = refl
value_fits a (Bad kind) e = absurd cc

values_fit : (attributes : List Attribute) (vs : List Datum) → may_all_stand attributes vs ≡ true → fit_values attributes vs ≡ vs
values_fit [] vs e = refl
values_fit (a ∷ attributes) [] e = refl
values_fit (a ∷ attributes) (v ∷ vs) e =
    let both = and_parts (may_stand a v) (may_all_stand attributes vs) e in
    rw (value_fits a v both.0, values_fit attributes vs both.1) refl

row_fits : (attributes : List Attribute) (row : Row) → is_sound attributes row.cell ≡ true → fitted_row attributes row ≡ row
row_fits attributes row e = by_cell row.cell refl e
  where
    by_cell : (cell : Cell) → row.cell ≡ cell → is_sound attributes cell ≡ true → fitted_row attributes row ≡ row
    by_cell (Full vs) is sound = λ i. record {
      at = row.at;
      cell = (ap (fitted_cell attributes) is ∙ ap Full (values_fit attributes vs sound) ∙ sym is) i;
    }
    by_cell (Doubt kind) is sound = absurd cc

rows_fit : (schema : Schema) (rows : List Row) → AreSound schema rows → fit_rows schema.attributes rows ≡ rows
rows_fit schema rows sound = fit_is schema.attributes rows ∙ each rows sound
  where
    each : (rows : List Row) → AreSound schema rows → map (fitted_row schema.attributes) rows ≡ rows
    each [] sound = refl
    each (row ∷ rows) sound = rw (row_fits schema.attributes row sound.0, each rows sound.1) refl

-- ---- sound rows have no fault

value_whole : (a : Attribute) (v : Datum) → may_stand a v ≡ true → bad_kind v ≡ None
value_whole a Null e = refl
value_whole a (Missing code) e = refl
value_whole a (Int n) e = refl
value_whole a (Text s) e = refl
value_whole a (Truth b) e = refl
value_whole a (Bad kind) e = absurd cc

values_whole : (attributes : List Attribute) (vs : List Datum) → AreOfKinds attributes vs → may_all_stand attributes vs ≡ true → first_some bad_kind vs ≡ None
values_whole [] [] kinds e = refl
values_whole [] (v ∷ vs) kinds e = absurd kinds
values_whole (a ∷ attributes) [] kinds e = refl
values_whole (a ∷ attributes) (v ∷ vs) kinds e =
    let both = and_parts (may_stand a v) (may_all_stand attributes vs) e in
    rw (value_whole a v both.0, values_whole attributes vs kinds.1 both.1) refl

cell_whole : (attributes : List Attribute) (cell : Cell) → IsCellOf attributes cell → is_sound attributes cell ≡ true → fault_in cell ≡ None
cell_whole attributes (Full vs) kinds e = values_whole attributes vs kinds e
cell_whole attributes (Doubt kind) kinds e = absurd cc

rows_whole : (schema : Schema) (rows : List Row) → AllByRecursion (λ row. IsCellOf schema.attributes row.cell) rows → AreSound schema rows → first_fault rows ≡ None
rows_whole schema [] kinds sound = refl
rows_whole schema (row ∷ rows) kinds sound = rw (cell_whole schema.attributes row.cell kinds.0 sound.0, rows_whole schema rows kinds.1 sound.1) refl

-- ---- chunks that are valid

all_chunks : (schema : Schema) (margins : List ℕ) (chunks : List Chunk) → AllByRecursion (HasPlaces schema margins) chunks → AllByRecursion (λ chunk. AreRowsOf schema (chunk_rows schema.dimensions margins chunk)) chunks
    → AllByRecursion (IsStorableChunk schema margins) chunks → AllByRecursion (IsChunk schema margins) chunks
all_chunks schema margins [] places rows are = tt
all_chunks schema margins (chunk ∷ chunks) places rows are = (
  valid_chunk schema margins (chunk_rows schema.dimensions margins chunk) chunk (own_part schema margins chunk places.0) rows.0 places.0 are.0.held,
  all_chunks schema margins chunks places.1 rows.1 are.1,
)

held_all : (schema : Schema) (margins : List ℕ) (chunks : List Chunk) → AllByRecursion (IsStorableChunk schema margins) chunks → AllByRecursion (λ chunk. holds_cell schema.dimensions margins chunk ≡ true) chunks
held_all schema margins [] are = tt
held_all schema margins (chunk ∷ chunks) are = (are.0.held, held_all schema margins chunks are.1)

-- ---- the array

module _ (schema : Schema) (array : ChunkedArray) (cells : HasCells array) (is : IsStorable schema array) where
  have : HaveCells array.schema array.margins.items array.chunks
  have = cells is.whole

  overlapping : array.margins.items ≡ overlaps array.schema.dimensions
  overlapping = is.margins ∙ ap (λ (s : Schema). overlaps s.dimensions) (sym is.same)

  all_sound : AllByRecursion (HasSoundCells array.schema) array.chunks
  all_sound = sound_all array.schema array.margins.items array.chunks is.chunks

  rows_sound : AreSound array.schema (cores_of array)
  rows_sound = sound_cores array.schema array.margins.items array.chunks all_sound

  pub unchanged_valid : AreValid (record { schema = array.schema; whole = true; chunks = array.chunks })
  unchanged_valid = record {
    rising = have.placed.rising;
    stored = stored_chunks array.schema array.chunks
        (subst (λ (ms : List ℕ). AllByRecursion (IsChunk array.schema ms) array.chunks) overlapping (all_chunks array.schema array.margins.items array.chunks have.placed.all have.rows_of is.chunks)) all_sound;
  }

  pub found_unchanged : IsFound (fitted_cores schema array) (Ok (cores_of array))
  found_unchanged =
      let fits : fit_rows schema.attributes (cores_of array) ≡ cores_of array = subst (λ (s : Schema). fit_rows s.attributes (cores_of array) ≡ cores_of array) is.same (rows_fit array.schema (cores_of array) rows_sound) in
      let none : first_fault (cores_of array) ≡ None = rows_whole array.schema (cores_of array) (cores_are_rows array.schema array.margins.items array.chunks have).kinds rows_sound in
      rw (is.whole, fits) (refl, none)

  can_stay : (meant : Meant) → Is array meant → CanBeStored array
  can_stay meant of = record {
    margins = overlapping;
    holds = subst (λ (s : Schema). HoldsRows s array (cores_of array)) (sym of.schema) (by_rows meant.rows of.cells);
    sound = rows_sound;
  }
    where
      by_rows : (rows : Result (List Row) Broken) → HoldsResult meant.schema array rows → HoldsRows meant.schema array (cores_of array)
      by_rows (Ok rows) holds =
          subst (HoldsRows meant.schema array) (sym (chunks_have_their_rows meant.schema array rows holds) ∙ ap (λ (s : Schema). core_rows s.dimensions array.margins.items array.chunks) (sym of.schema)) holds
      by_rows (Err broken) holds = let e : None ≡ Some broken = sym is.whole ∙ holds in absurd cc

  -- where no chunk has an overlap it can be stored, whatever the source tells
  pub alone_can : have_no_overlap schema.dimensions ≡ true → CanBeStored array
  alone_can none =
      let zero : array.margins.items ≡ no_margins array.schema.dimensions = overlapping ∙ no_overlap array.schema.dimensions (subst (λ (s : Schema). have_no_overlap s.dimensions ≡ true) (sym is.same) none) in
      record {
        margins = overlapping;
        holds = record {
          whole = is.whole;
          rows_of = cores_are_rows array.schema array.margins.items array.chunks have;
          each = have.placed.each;
          places = have.placed.places;
          chunks = alone_chunks array.schema array.margins.items array.chunks have zero (held_all array.schema array.margins.items array.chunks is.chunks);
        };
        sound = rows_sound;
      }

  pub unchanged_told : (db : Database) (name : List ℕ) (plan : Query) (changed : Changed) → Is array (meaning (rows_of db) plan) → MeansArray db plan → changed ≡ record { schema = array.schema; whole = true; chunks = array.chunks }
      → IsAnswerOver db (Store name schema plan) (Ok changed)
  unchanged_told db name plan changed of means e =
      answers_store db name schema plan (Ok (cores_of array)) (cores_of array) changed means (found_there db schema plan array (Ok (cores_of array)) of found_unchanged) refl (cores_of array) refl
      (subst (λ (c : Changed). IsStoreOf schema (cores_of array) c) (sym e) (subst (λ (s : Schema). IsStoreOf s (cores_of array) (record { schema = array.schema; whole = true; chunks = array.chunks })) is.same (all_written array (can_stay (meaning (rows_of db) plan) of))))

-- ---- the answer by rows

pub rows_told : {E : Type 0} (schema : Schema) (array : ChunkedArray) (found : Result (List Row) Broken) (made : Result (Result Changed Broken) E) → IsFound (fitted_cores schema array) found
    → IfOk made (λ m. (db : Database) (name : List ℕ) (plan : Query) → MeansArray db plan → IsFound (fitted schema plan db) found → IsAnswerOver db (Store name schema plan) m)
    → IfOk made (λ m. (db : Database) (name : List ℕ) (plan : Query) → Is array (meaning (rows_of db) plan) → MeansArray db plan → IsAnswerOver db (Store name schema plan) m)
rows_told schema array found (Ok made) is told = λ db name plan of means. told db name plan means (found_there db schema plan array found of is)
rows_told schema array found (Err error) is told = tt

-- ---- an insert over nothing

-- a chunk whose core holds a row is met
has_and_meets : (dims : List Dimension) (rows : List Row) (k : ChunkNumber) → has_cell dims rows k ≡ (has_cell dims rows k && meets dims rows k)
has_and_meets dims rows k = by_test (has_cell dims rows k) refl
  where
    by_test : (b : Bool) → has_cell dims rows k ≡ b → b ≡ (b && meets dims rows k)
    by_test false e = refl
    by_test true e = sym (met_of (core dims k) (frame dims (overlaps dims) k) rows (λ c. core_in_frame dims (overlaps dims) k c (length-map dims (λ d. d.overlap))) e)

pub over_none : (put : ChunkedArray) (changed : Changed) → CanBeStored put → changed ≡ record { schema = put.schema; whole = false; chunks = put.chunks } → IsInsertOf put.schema (cores_of put) [] changed
over_none put changed can is =
    let dims = put.schema.dimensions in
    let rows = cores_of put in
    let all = all_written put can in
    let same : put_all rows [] ≡ rows = put_all-none rows can.holds.rows_of.are_rows.rising in
    subst (IsInsertOf put.schema rows []) (sym is) (record {
      is_of = (refl, refl);
      valid = record { rising = all.valid.rising; stored = all.valid.stored };
      rows_of = subst (AreRowsOf put.schema) (sym same) all.rows_of;
      listed = λ k l. all.listed k l ∙ has_and_meets dims rows k ∙ ap (λ (rs : List Row). has_cell dims rs k && meets dims rows k) (sym same);
      parts = subst (λ (rs : List Row). AllByRecursion (IsPart dims (overlaps dims) rs) put.chunks) (sym same) all.parts;
    })
