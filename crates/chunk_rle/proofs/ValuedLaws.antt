-- Values that are read into columns are those of the runs that stand there.
use Rattle.std.proofs.Common.{◌≡◌, true, false, ℕ, List, [], ◌∷◌, ◌++◌, length, replicate, Result, Ok, Err, refl, sym, ap, ◌∙◌, append_assoc}
use Rattle.std.specs.Prelude.{◌==◌}
use Rattle.std.proofs.lemmas.List.{append-nil, map-append}
use Rattle.file_items.specs.Items.{◌>>=◌, repeat, Stopped}
use Rattle.file_items.specs.declared.bytes.stop.Stop.{Stop}
use Rattle.file_items.specs.declared.bytes.stop.Stop.TheVariants as stops
use Rattle.file_items.proofs.BytesLaws.{bind_ok, ok_is}
use Rattle.array_geom.specs.Cell.{Cell}
use Rattle.array_geom.specs.Datum.{Datum}
use Rattle.array_geom.specs.Attribute.{Attribute}
use Rattle.chunk_rle.specs.declared.runs.PosRun.{PosRun}
use Rattle.chunk_rle.specs.declared.runs.Run.{Run}
use Rattle.chunk_rle.specs.declared.runs.Column.{Column}
use Rattle.chunk_rle.specs.declared.runs.ChunkRuns.{ChunkRuns}
use Rattle.arrayvec.specs.ArrayVec.{ArrayVec}
use Rattle.array_geom.specs.declared.chunk.Chunk.{Chunk}
use Rattle.chunk_rle.specs.Chunks.{all_values, cells_from, chunk_payload}
use Rattle.chunk_rle.proofs.ChunkLaws.{chunk_read, payload_stops}
use Rattle.chunk_rle.specs.Frames.{Frame}
use Rattle.chunk_rle.specs.Longest.{positions_of, values_of}
use Rattle.chunk_rle.specs.Table.{count_positions, position_runs_at, run_at, runs_at, with_values, no_values, columns_at, payload}
use Rattle.chunk_rle.specs.Inner.Valued.{Gives, chunk_of_values, valued, valued_column, valued_columns, valued_payload}

abbrev columns_before : List Column → List ℕ → Result (List Column × List ℕ) ℕ
columns_before columns rest = Ok (columns, rest)

abbrev IsPayload : Result (List PosRun × List (List Datum)) ℕ → List PosRun → List (List Datum) → Type 0
IsPayload read positions values = read ≡ Ok (positions, values)

-- ---- what stops before its value is looked at

pub stays_stopped : {X Y : Type 0} (stop : Stop) (f : X → Y) (step : Result X ℕ) → Stopped stop step → Stopped stop (step >>= λ x. Ok (f x))
stays_stopped stops.Memory f step fails = tt
stays_stopped (stops.Left left) f step fails = rw fails refl

pub stopped_before : {X Y : Type 0} (stop : Stop) (f : X → Y) (step : Result X ℕ) → Stopped stop (step >>= λ x. Ok (f x)) → Stopped stop step
stopped_before stops.Memory f step fails = tt
stopped_before (stops.Left left) f (Ok x) fails = absurd cc
stopped_before (stops.Left left) f (Err at) fails = cc

-- ---- the values of runs

pub values_push : (runs : List Run) (run : Run) → values_of (runs ++ run ∷ []) ≡ values_of runs ++ replicate run.length run.value
values_push [] run = append-nil (replicate run.length run.value)
values_push (first ∷ runs) run =
    ap (λ (vs : List Datum). replicate first.length first.value ++ vs) (values_push runs run)
    ∙ sym (append_assoc (replicate first.length first.value) (values_of runs) (replicate run.length run.value))

pub values_grow : (new old : List Datum) (runs : List Run) (run : Run) → new ≡ old ++ replicate run.length run.value → old ≡ values_of runs → new ≡ values_of (runs ++ run ∷ [])
values_grow new old runs run pushed before = pushed ∙ ap (λ (vs : List Datum). vs ++ replicate run.length run.value) before ∙ sym (values_push runs run)

pub values_read : (attribute : Attribute) (n count : ℕ) (bytes rest : List ℕ) (runs : List Run) (values : List Datum) → values ≡ values_of runs
    → Gives (repeat (run_at attribute n) with_values count no_values bytes) runs rest → Gives (valued (repeat (run_at attribute n) with_values count no_values bytes)) values rest
values_read attribute n count bytes rest runs values same read = rw (read, same) refl

-- values of the runs that are left, behind those so far
pub values_step : (new old all : List Datum) (left left' : List Run) (run : Run) → left ≡ run ∷ left' → new ≡ old ++ replicate run.length run.value → old ++ values_of left ≡ all → new ++ values_of left' ≡ all
values_step new old all left left' run e pushed before =
    ap (λ (vs : List Datum). vs ++ values_of left') pushed ∙ append_assoc old (replicate run.length run.value) (values_of left') ∙ ap (λ (rs : List Run). old ++ values_of rs) (sym e) ∙ before

pub values_end : (new all : List Datum) (left : List Run) → left ≡ [] → new ++ values_of left ≡ all → new ≡ all
values_end new all left e before = sym (append-nil new) ∙ ap (λ (rs : List Run). new ++ values_of rs) (sym e) ∙ before

-- ---- columns

pub columns_push : (columns : List Column) (column : Column) (new old : List (List Datum)) (values : List Datum) → values ≡ values_of column.runs → old ≡ all_values columns → new ≡ old ++ values ∷ []
    → new ≡ all_values (columns ++ column ∷ [])
columns_push columns column new old values same before pushed =
    pushed ∙ ap (λ (vs : List (List Datum)). vs ++ values ∷ []) before ∙ ap (λ (v : List Datum). all_values columns ++ v ∷ []) same
    ∙ sym (map-append (λ (c : Column). values_of c.runs) columns (column ∷ []))

abbrev column_before : Column → List ℕ → Result (Column × List ℕ) ℕ
column_before column rest = Ok (column, rest)

-- what the column is of which the values were read
pub column_read : (read : Result (Column × List ℕ) ℕ) (values : List Datum) (after : List ℕ) → Gives (valued_column read) values after
    → (column : Column) × Gives read column after × (values ≡ values_of column.runs)
column_read read values after gives =
    let pair : List Datum × List ℕ = (values, after) in
    let a = bind_ok read (λ x. Ok (values_of x.0.runs, x.1)) pair gives in
    let found : List Datum × List ℕ = (values_of a.0.0.runs, a.0.1) in
    let same : found ≡ pair = ok_is found pair a.2 in
    let left : a.0.1 ≡ after = ap (λ (p : List Datum × List ℕ). p.1) same in
    (a.0.0, a.1 ∙ ap (λ (r : List ℕ). column_before a.0.0 r) left, sym (ap (λ (p : List Datum × List ℕ). p.0) same))

pub column_stopped : (stop : Stop) (read : Result (Column × List ℕ) ℕ) → Stopped stop (valued_column read) → Stopped stop read
column_stopped stop read fails = stopped_before stop (λ (x : Column × List ℕ). (values_of x.0.runs, x.1)) read fails

pub columns_stopped : (stop : Stop) (read : Result (List Column × List ℕ) ℕ) → Stopped stop read → Stopped stop (valued_columns read)
columns_stopped stop read fails = stays_stopped stop (λ (x : List Column × List ℕ). (all_values x.0, x.1)) read fails

pub runs_stopped : (stop : Stop) (read : Result (List Run × List ℕ) ℕ) → Stopped stop read → Stopped stop (valued read)
runs_stopped stop read fails = stays_stopped stop (λ (x : List Run × List ℕ). (values_of x.0, x.1)) read fails

pub columns_valued : (read : Result (List Column × List ℕ) ℕ) (columns : List Column) (values : List (List Datum)) (rest : List ℕ) → values ≡ all_values columns → Gives read columns rest → Gives (valued_columns read) values rest
columns_valued read columns values rest same gives = rw (gives, same) refl

-- ---- the payload

-- what the columns are of which the values were read
columns_read : (read : Result (List Column × List ℕ) ℕ) (values : List (List Datum)) (after : List ℕ) → Gives (valued_columns read) values after
    → (columns : List Column) × Gives read columns after × (all_values columns ≡ values)
columns_read read values after gives =
    let pair : List (List Datum) × List ℕ = (values, after) in
    let a = bind_ok read (λ x. Ok (all_values x.0, x.1)) pair gives in
    let found : List (List Datum) × List ℕ = (all_values a.0.0, a.0.1) in
    let same : found ≡ pair = ok_is found pair a.2 in
    let left : a.0.1 ≡ after = ap (λ (p : List (List Datum) × List ℕ). p.1) same in
    (a.0.0, a.1 ∙ ap (λ (r : List ℕ). columns_before a.0.0 r) left, ap (λ (p : List (List Datum) × List ℕ). p.0) same)

pub payload_valued : (frame : Frame) (attributes : List Attribute) (bytes rest after : List ℕ) (positions : List PosRun) (values : List (List Datum))
    → Gives (position_runs_at frame bytes) positions rest → Gives (valued_columns (columns_at attributes (count_positions positions) rest)) values after → (length after == 0) ≡ true
    → IsPayload (valued_payload (payload frame attributes bytes)) positions values
unfolding runs_at
payload_valued frame attributes bytes rest after positions values first second ends =
    let a = columns_read (columns_at attributes (count_positions positions) rest) values after second in
    rw (first, a.1, ends, a.2) refl

pub payload_left : (frame : Frame) (attributes : List Attribute) (bytes rest after : List ℕ) (positions : List PosRun) (values : List (List Datum))
    → Gives (position_runs_at frame bytes) positions rest → Gives (valued_columns (columns_at attributes (count_positions positions) rest)) values after → (length after == 0) ≡ false
    → valued_payload (payload frame attributes bytes) ≡ Err (length after)
unfolding runs_at
payload_left frame attributes bytes rest after positions values first second more =
    let a = columns_read (columns_at attributes (count_positions positions) rest) values after second in
    rw (first, a.1, more) refl

pub positions_stop : (frame : Frame) (attributes : List Attribute) (bytes : List ℕ) (stop : Stop) → Stopped stop (position_runs_at frame bytes) → Stopped stop (valued_payload (payload frame attributes bytes))
unfolding runs_at
positions_stop frame attributes bytes stops.Memory fails = tt
positions_stop frame attributes bytes (stops.Left left) fails = rw fails refl

pub columns_stop : (frame : Frame) (attributes : List Attribute) (bytes rest : List ℕ) (positions : List PosRun) (stop : Stop)
    → Gives (position_runs_at frame bytes) positions rest → Stopped stop (valued_columns (columns_at attributes (count_positions positions) rest)) → Stopped stop (valued_payload (payload frame attributes bytes))
unfolding runs_at
columns_stop frame attributes bytes rest positions stops.Memory first fails = tt
columns_stop frame attributes bytes rest positions (stops.Left left) first fails =
    let at = stopped_before (stops.Left left) (λ (x : List Column × List ℕ). (all_values x.0, x.1)) (columns_at attributes (count_positions positions) rest) fails in
    rw (first, at) refl

-- what the runs are of which the values were read
pub payload_read : (read : Result ChunkRuns ℕ) (positions : List PosRun) (values : List (List Datum)) → IsPayload (valued_payload read) positions values
    → (runs : ChunkRuns) × (read ≡ Ok runs) × (runs.positions ≡ positions) × (all_values runs.columns ≡ values)
payload_read read positions values gives =
    let pair : List PosRun × List (List Datum) = (positions, values) in
    let a = bind_ok read (λ runs. Ok (runs.positions, all_values runs.columns)) pair gives in
    let found : List PosRun × List (List Datum) = (a.0.positions, all_values a.0.columns) in
    let same : found ≡ pair = ok_is found pair a.2 in
    (a.0, a.1, ap (λ (p : List PosRun × List (List Datum)). p.0) same, ap (λ (p : List PosRun × List (List Datum)). p.1) same)

pub chunk_valued : (frame : Frame) (at : ArrayVec ℕ) (attributes : List Attribute) (bytes : List ℕ) (positions : List PosRun) (values : List (List Datum)) (chunk : Chunk)
    → IsPayload (valued_payload (payload frame attributes bytes)) positions values → chunk ≡ chunk_of_values at positions values → chunk_payload frame at attributes bytes ≡ Ok chunk
chunk_valued frame at attributes bytes positions values chunk gives is =
    let read = payload_read (payload frame attributes bytes) positions values gives in
    chunk_read frame at attributes bytes read.0 chunk read.1
    (is ∙ ap (λ (ps : List PosRun). chunk_of_values at ps values) (sym read.2) ∙ ap (λ (vs : List (List Datum)). chunk_of_values at read.0.positions vs) (sym read.3))

pub chunk_stops : (frame : Frame) (at : ArrayVec ℕ) (attributes : List Attribute) (bytes : List ℕ) (stop : Stop) → Stopped stop (valued_payload (payload frame attributes bytes)) → Stopped stop (chunk_payload frame at attributes bytes)
chunk_stops frame at attributes bytes stop fails =
    payload_stops frame at attributes bytes stop (stopped_before stop (λ (runs : ChunkRuns). (runs.positions, all_values runs.columns)) (payload frame attributes bytes) fails)

pub chunk_made : (at made : ArrayVec ℕ) (runs : List PosRun) (columns : List (List Datum)) (positions : List ℕ) (cells : List Cell) → made ≡ at → positions ≡ positions_of runs → cells ≡ cells_from 0 (length positions) columns
    → record { at = made; positions = positions; cells = cells } ≡ chunk_of_values at runs columns
chunk_made at made runs columns positions cells a p c = λ i. record {
  at = a i;
  positions = p i;
  cells = (c ∙ ap (λ (ps : List ℕ). cells_from 0 (length ps) columns) p) i;
}
