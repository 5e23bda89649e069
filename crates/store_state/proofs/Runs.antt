-- Runs that pass the tests of a payload are the longest runs of their chunk, also where no bytes spell their values.
use Rattle.std.proofs.Common.{◌≡◌, ℕ, zero, suc, ◌+◌, ◌^◌, ◌<◌, Bool, true, false, not, nat_lt, nat_le, List, [], ◌∷◌, ◌++◌, length, map, replicate, Some, refl, sym, ap, subst, ◌∙◌, append_assoc, arith, length-append}
use Rattle.std.specs.Prelude.{◌==◌, slice_index_or}
use Rattle.std.proofs.lemmas.Bool.Decides.{Decides-eqb, Decides-int_eq}
use Rattle.std.proofs.lemmas.Slice.Eq.{bytes_eq-Decides}
use Rattle.std.proofs.lemmas.List.{length-replicate}
use Rattle.arrayvec.specs.ArrayVec.{ArrayVec}
use Rattle.file_items.specs.Items.{Are}
use Rattle.array_geom.proofs.TestLaws.{and_parts}
use Rattle.cell_values.specs.declared.datum.FaultKind.{FaultKind}
use Rattle.cell_values.specs.declared.datum.Datum.{Datum}
use Rattle.cell_values.specs.declared.datum.Datum.TheVariants.{Null, Missing, Int, Text, Truth, Bad}
use Rattle.cell_values.specs.declared.schema.Attribute.{Attribute}
use Rattle.cell_values.specs.declared.schema.Kind.{Kind}
use Rattle.cell_values.specs.declared.schema.Kind.TheVariants.{Int64, Str, Bool as Truths}
use Rattle.chunk_rle.specs.Frames.{Frame}
use Rattle.chunk_rle.specs.declared.runs.Seen.{Seen}
use Rattle.chunk_rle.specs.declared.runs.PosRun.{PosRun}
use Rattle.chunk_rle.specs.declared.runs.Run.{Run}
use Rattle.chunk_rle.specs.declared.runs.Column.{Column}
use Rattle.chunk_rle.specs.declared.runs.ChunkRuns.{ChunkRuns}
use Rattle.chunk_rle.specs.Chunks.{value_of, columns_of, as_runs, row_at, cells_from, all_values, chunk_of}
use Rattle.chunk_rle.specs.Longest.{positions_of, position_runs, values_of, value_runs}
use Rattle.chunk_rle.specs.Table.{Values, no_positions, with_run, is_start, is_length, count_positions, is_same, is_of, is_allowed, is_new, no_values, with_values, is_run_length, is_run_value, others}
use Rattle.chunk_rle.specs.Valid.{IsPositionRun, some_runs}
use Rattle.chunk_rle.proofs.ChunkLaws.{count_is}
use Rattle.chunk_rle.proofs.PositionLaws.{length_parts, start_parts, runs_again as places_again}
use Rattle.chunk_rle.proofs.ValueLaws.{FirstDiffers, run_again}
use Rattle.store_state.proofs.Takes.{AreMany}

-- ---- what the items pass

abbrev pub IsTestedPlace : Frame → Seen → ℕ → PosRun → Type 0
IsTestedPlace frame before after run = (Unit {0} × (is_start frame before run.start ≡ true)) × (Unit {0} × (is_length frame before (after == 0) run.start run.length ≡ true))

abbrev pub IsTestedRun : Attribute → ℕ → Values → ℕ → Run → Type 0
IsTestedRun attribute n before after run = (Unit {0} × (is_run_length n before.total (after == 0) run.length ≡ true)) × (Unit {0} × (is_run_value attribute before run.value ≡ true))

abbrev pub IsTestedColumn : ℕ → Attribute → Column → Type 0
IsTestedColumn n attribute column = AreMany (some_runs n) (IsTestedRun attribute n) with_values no_values column.runs

abbrev pub IsNextTested : ℕ → List Attribute → ℕ → Column → Type 0
IsNextTested n [] after column = ⊥
IsNextTested n (attribute ∷ attributes) after column = IsTestedColumn n attribute column

pub record AreTestedRuns (frame : Frame) (attributes : List Attribute) (chunk : ChunkRuns) : Type 0 where
  pub positions : Are (IsTestedPlace frame) (with_run frame) (length chunk.positions) no_positions chunk.positions
  pub columns : Are (IsNextTested (count_positions chunk.positions)) others (length attributes) attributes chunk.columns

-- ---- positions

-- in a frame of fewer than 2^64 places all numbers are below that
small_place : (frame : Frame) → frame.volume < 2 ^ 64 → (before : Seen) (after : ℕ) (run : PosRun) → IsTestedPlace frame before after run → IsPositionRun frame before after run
small_place frame narrow before after run tested =
    let s = start_parts frame before run.start tested.0.1 in
    let l = length_parts frame before (after == 0) run.start run.length tested.1.1 in
    ((omega (arith, s.1, narrow), tested.0.1), (omega (arith, l.within, narrow), tested.1.1))

small_places : (frame : Frame) → frame.volume < 2 ^ 64 → (n : ℕ) (before : Seen) (runs : List PosRun) → Are (IsTestedPlace frame) (with_run frame) n before runs → Are (IsPositionRun frame) (with_run frame) n before runs
unfolding Are
small_places frame narrow zero before [] tested = tt
small_places frame narrow zero before (run ∷ runs) tested = absurd tested
small_places frame narrow (suc n) before [] tested = absurd tested
small_places frame narrow (suc n) before (run ∷ runs) tested = (small_place frame narrow before n run tested.0, small_places frame narrow n (with_run frame before run) runs tested.1)

-- ---- values

-- a fault is of no kind
no_kind : (kind : Kind) (fault : FaultKind) → is_of kind (Bad fault) ≡ true → ⊥
no_kind Int64 fault e = cc
no_kind Str fault e = cc
no_kind Truths fault e = cc

-- a value that an attribute allows is the same as itself
same_self : (attribute : Attribute) (v : Datum) → is_allowed attribute v ≡ true → is_same v v ≡ true
unfolding is_allowed is_same
same_self attribute Null e = refl
same_self attribute (Missing a) e = (Decides-eqb a a).1 refl
same_self attribute (Int a) e = (Decides-int_eq a a).1 refl
same_self attribute (Text a) e = (bytes_eq-Decides a a).1 refl
same_self attribute (Truth true) e = refl
same_self attribute (Truth false) e = refl
same_self attribute (Bad fault) e = absurd (no_kind attribute.kind fault e)

some_there : (n total : ℕ) (last : Bool) (count : ℕ) → is_run_length n total last count ≡ true → 0 < count
some_there n total true count e = let a = and_parts (nat_lt 0 count) (total + count == n) e in grind (arith, a.0)
some_there n total false count e = let a = and_parts (nat_lt 0 count) (nat_lt (total + count) n) e in grind (arith, a.0)

last_ends : (n total count : ℕ) → is_run_length n total true count ≡ true → total + count ≡ n
last_ends n total count e = let a = and_parts (nat_lt 0 count) (total + count == n) e in (Decides-eqb (total + count) n).0 a.1

count_values : (attribute : Attribute) (n k : ℕ) (before : Values) (runs : List Run) → Are (IsTestedRun attribute n) with_values (suc k) before runs → before.total + length (values_of runs) ≡ n
unfolding Are
count_values attribute n k before [] good = absurd good
count_values attribute n zero before (run ∷ []) good =
    let ends = last_ends n before.total run.length good.0.0.1 in omega (arith, ends, length-append (replicate run.length run.value) [], length-replicate run.length run.value)
count_values attribute n zero before (run ∷ next ∷ runs) good = absurd good.1
count_values attribute n (suc k) before (run ∷ runs) good =
    omega (arith, length-append (replicate run.length run.value) (values_of runs), length-replicate run.length run.value, count_values attribute n k (with_values before run) runs good.1)

replicate_differs : (v w : Datum) (n : ℕ) (ws : List Datum) → 0 < n → is_same v w ≡ false → FirstDiffers v (replicate n w ++ ws)
replicate_differs v w zero ws there differs = absurd (omega (arith, there))
replicate_differs v w (suc n) ws there differs = differs

not_false : (b : Bool) → not b ≡ true → b ≡ false
not_false true e = absurd cc
not_false false e = refl

runs_differ : (attribute : Attribute) (n k total : ℕ) (v : Datum) (runs : List Run) → Are (IsTestedRun attribute n) with_values k (record { total = total; last = Some v }) runs → FirstDiffers v (values_of runs)
unfolding Are
runs_differ attribute n k total v [] good = tt
runs_differ attribute n zero total v (run ∷ runs) good = absurd good
runs_differ attribute n (suc k) total v (run ∷ runs) good =
    let a = and_parts (not (is_same v run.value)) (is_allowed attribute run.value) good.0.1.1 in
    replicate_differs v run.value run.length (values_of runs) (some_there n total (k == 0) run.length good.0.0.1) (not_false (is_same v run.value) a.0)

runs_again : (attribute : Attribute) (n k : ℕ) (before : Values) (runs : List Run) → Are (IsTestedRun attribute n) with_values k before runs → value_runs (values_of runs) ≡ runs
unfolding Are
runs_again attribute n k before [] good = refl
runs_again attribute n zero before (run ∷ runs) good = absurd good
runs_again attribute n (suc k) before (run ∷ runs) good =
    let a = and_parts (is_new before.last run.value) (is_allowed attribute run.value) good.0.1.1 in
    run_again run.length run.value (values_of runs) (some_there n before.total (k == 0) run.length good.0.0.1) (λ more. same_self attribute run.value a.1)
    (runs_differ attribute n k (before.total + run.length) run.value runs good.1)
    ∙ ap (λ (rs : List Run). run ∷ rs) (runs_again attribute n k (with_values before run) runs good.1)

record IsAgain (n : ℕ) (column : Column) : Type 0 where
  many : length (values_of column.runs) ≡ n
  runs : value_runs (values_of column.runs) ≡ column.runs

column_again : (attribute : Attribute) (n : ℕ) (column : Column) → IsTestedColumn n attribute column → IsAgain n column
column_again attribute n column good =
    let a = and_parts (nat_lt 0 (length column.runs)) (nat_le (length column.runs) n) good.count in
    record { many = counted (length column.runs) (grind (arith, a.0)) good.each; runs = runs_again attribute n (length column.runs) no_values column.runs good.each }
  where
    counted : (k : ℕ) → 0 < k → Are (IsTestedRun attribute n) with_values k no_values column.runs → length (values_of column.runs) ≡ n
    counted zero there each = absurd (omega (arith, there))
    counted (suc k) there each = omega (arith, count_values attribute n k no_values column.runs each)

-- ---- columns of the cells of some columns

pick : ℕ → ℕ → List Datum → List Datum
pick i zero vs = []
pick i (suc n) vs = slice_index_or vs i Null ∷ pick (suc i) n vs

pick_later : (i n : ℕ) (v : Datum) (vs : List Datum) → pick (suc i) n (v ∷ vs) ≡ pick i n vs
unfolding pick
pick_later i zero v vs = refl
pick_later i (suc n) v vs = ap (λ (ws : List Datum). slice_index_or vs i Null ∷ ws) (pick_later (suc i) n v vs)

pick_all : (vs : List Datum) → pick 0 (length vs) vs ≡ vs
unfolding pick
pick_all [] = refl
pick_all (v ∷ vs) = ap (λ (ws : List Datum). v ∷ ws) (pick_later 0 (length vs) v vs ∙ pick_all vs)

at_front : (i : ℕ) (front : List (List Datum)) (v : List Datum) (rest : List (List Datum)) → slice_index_or (row_at i (front ++ v ∷ rest)) (length front) Null ≡ slice_index_or v i Null
at_front i [] v rest = refl
at_front i (f ∷ front) v rest = at_front i front v rest

column_is : (i n : ℕ) (front : List (List Datum)) (v : List Datum) (rest : List (List Datum)) → map (value_of (length front)) (cells_from i n (front ++ v ∷ rest)) ≡ pick i n v
unfolding pick
column_is i zero front v rest = refl
column_is i (suc n) front v rest = rw (at_front i front v rest, column_is (suc i) n front v rest) refl

columns_again : (n : ℕ) (attributes : List Attribute) (columns : List Column) (front : List (List Datum)) → Are (IsNextTested n) others (length attributes) attributes columns
    → columns_of (length attributes) (length front) (cells_from 0 n (front ++ all_values columns)) ≡ columns
unfolding Are
columns_again n [] [] front good = refl
columns_again n [] (column ∷ columns) front good = absurd good
columns_again n (attribute ∷ attributes) [] front good = absurd good
columns_again n (attribute ∷ attributes) (column ∷ columns) front good =
    let t = column_again attribute n column good.0 in
    let vs = values_of column.runs in
    let one : value_runs (map (value_of (length front)) (cells_from 0 n (front ++ vs ∷ all_values columns))) ≡ column.runs =
    ap value_runs (column_is 0 n front vs (all_values columns) ∙ ap (λ (k : ℕ). pick 0 k vs) (sym t.many) ∙ pick_all vs) ∙ t.runs in
    let longer : length (front ++ vs ∷ []) ≡ suc (length front) = omega (arith, length-append front (vs ∷ [])) in
    let moved : (front ++ vs ∷ []) ++ all_values columns ≡ front ++ vs ∷ all_values columns = append_assoc front (vs ∷ []) (all_values columns) in
    let more : columns_of (length attributes) (suc (length front)) (cells_from 0 n (front ++ vs ∷ all_values columns)) ≡ columns =
    subst (λ (k : ℕ). columns_of (length attributes) k (cells_from 0 n (front ++ vs ∷ all_values columns)) ≡ columns) longer
    (subst (λ (all : List (List Datum)). columns_of (length attributes) (length (front ++ vs ∷ [])) (cells_from 0 n all) ≡ columns) moved (columns_again n attributes columns (front ++ vs ∷ []) good.1)) in
    rw (one, more) refl

-- ---- the chunk

pub runs_of_chunk : (frame : Frame) (at : ArrayVec ℕ) (attributes : List Attribute) (runs : ChunkRuns) → frame.volume < 2 ^ 64 → AreTestedRuns frame attributes runs → as_runs attributes (chunk_of at runs) ≡ runs
runs_of_chunk frame at attributes runs narrow good =
    let n = length (positions_of runs.positions) in
    let columns : Are (IsNextTested n) others (length attributes) attributes runs.columns
    = subst (λ (k : ℕ). Are (IsNextTested k) others (length attributes) attributes runs.columns) (count_is runs.positions) good.columns in
    let same : position_runs (positions_of runs.positions) ≡ runs.positions
    = places_again frame (length runs.positions) no_positions runs.positions (small_places frame narrow (length runs.positions) no_positions runs.positions good.positions) in
    let same' : columns_of (length attributes) 0 (cells_from 0 n (all_values runs.columns)) ≡ runs.columns = columns_again n attributes runs.columns [] columns in
    rw (same, same') refl
