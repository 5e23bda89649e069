-- Runs of numbers are runs of values.
use Rattle.std.proofs.Common.{◌≡◌, ℕ, ℤ, ◌+◌, ◌<◌, ◌≤◌, true, false, List, [], ◌∷◌, ◌++◌, length, get_or, take, drop, map, replicate, refl, sym, ap, ◌∙◌, append_assoc, arith, suc, add-one, drop-cons}
use Rattle.std.specs.List.{flat_map}
use Rattle.std.specs.Int.{w64, to_le_bytes}
use Rattle.std.proofs.lemmas.List.{append-nil, map-append, nil_from_length, length-drop, length-map, take_all}
use Rattle.std.proofs.lemmas.Grind.{flat_map-append}
use Rattle.std.proofs.lemmas.Bool.Decides.{Decides-int_eq}
use Rattle.array_geom.specs.Datum.{Datum}
use Rattle.array_geom.specs.Datum.TheVariants.{Int}
use Rattle.array_geom.specs.Cell.{Cell}
use Rattle.array_geom.specs.Cell.TheVariants.{Full, Doubt}
use Rattle.array_rows.specs.Inner.CellsIn.{value_in}
use Rattle.file_items.specs.Items.{spell_counted}
use Rattle.chunk_rle.specs.declared.runs.NumberRun.{NumberRun}
use Rattle.chunk_rle.specs.declared.runs.Run.{Run}
use Rattle.chunk_rle.specs.declared.runs.Column.{Column}
use Rattle.chunk_rle.specs.Inner.Valued.{as_run}
use Rattle.array_geom.specs.Attribute.{Attribute}
use Rattle.array_geom.specs.declared.chunk.Chunk.{Chunk}
use Rattle.chunk_rle.specs.Chunks.{columns_of, spelling, value_of}
use Rattle.chunk_rle.specs.Longest.{position_runs, value_runs}
use Rattle.chunk_rle.specs.Spelling.{spell_column, spell_position_run, spell_run, spell_runs}
use Rattle.chunk_rle.specs.Table.{is_same}
use Rattle.chunk_rle.proofs.Steps.{columns_more, value_begins, value_ends, value_joins}

pub one_number : (n : ℤ) → is_same (Int n) (Int n) ≡ true
unfolding is_same
one_number n = (Decides-int_eq n n).1 refl

pub number_joins : (runs : List Run) (n : ℕ) (v w : ℤ) (rest : List Datum) → is_same (Int v) (Int w) ≡ true
    → runs ++ value_runs (replicate (n + 1) (Int w) ++ rest) ≡ runs ++ value_runs (replicate n (Int v) ++ Int w ∷ rest)
number_joins runs n v w rest e = ap (λ (rs : List Run). runs ++ rs) (value_joins n (Int v) (Int w) rest e)

pub number_begins : (new old : List NumberRun) (run : NumberRun) (w : ℤ) (rest : List Datum) → 0 < run.length → is_same (Int run.number) (Int w) ≡ false → new ≡ old ++ run ∷ []
    → map as_run new ++ value_runs (replicate 1 (Int w) ++ rest) ≡ map as_run old ++ value_runs (replicate run.length (Int run.number) ++ Int w ∷ rest)
number_begins new old run w rest there e pushed =
    let step = value_begins run.length (Int run.number) (Int w) rest there (λ more. one_number run.number) e in
    ap (λ (rs : List NumberRun). map as_run rs ++ value_runs (replicate 1 (Int w) ++ rest)) pushed
    ∙ ap (λ (rs : List Run). rs ++ value_runs (replicate 1 (Int w) ++ rest)) (map-append as_run old (run ∷ []))
    ∙ append_assoc (map as_run old) (as_run run ∷ []) (value_runs (replicate 1 (Int w) ++ rest))
    ∙ ap (λ (rs : List Run). map as_run old ++ rs) (sym step)

pub number_step : (runs runs' : List NumberRun) (run run' : NumberRun) (i : ℕ) (numbers : List ℤ) (n d : ℤ) (all : List Run) → i < length numbers → n ≡ get_or numbers i d
    → ((rest : List Datum) → map as_run runs' ++ value_runs (replicate run'.length (Int run'.number) ++ rest) ≡ map as_run runs ++ value_runs (replicate run.length (Int run.number) ++ Int n ∷ rest))
    → map as_run runs ++ value_runs (replicate run.length (Int run.number) ++ map Int (drop i numbers)) ≡ all
    → map as_run runs' ++ value_runs (replicate run'.length (Int run'.number) ++ map Int (drop (i + 1) numbers)) ≡ all
number_step runs runs' run run' i numbers n d all low is step before =
    let next : map Int (drop i numbers) ≡ Int n ∷ map Int (drop (i + 1) numbers) =
    rw (add-one, drop-cons numbers i d low) (ap (λ (k : ℤ). Int k ∷ map Int (drop (suc i) numbers)) (sym is)) in
    step (map Int (drop (i + 1) numbers)) ∙ sym (ap (λ (vs : List Datum). map as_run runs ++ value_runs (replicate run.length (Int run.number) ++ vs)) next) ∙ before

pub numbers_done : (new runs : List NumberRun) (run : NumberRun) (i : ℕ) (numbers : List ℤ) (all : List Run) → length numbers ≤ i → 0 < run.length → new ≡ runs ++ run ∷ []
    → map as_run runs ++ value_runs (replicate run.length (Int run.number) ++ map Int (drop i numbers)) ≡ all → map as_run new ≡ all
numbers_done new runs run i numbers all le there pushed before =
    let none : drop i numbers ≡ [] = nil_from_length (drop i numbers) (omega (arith, length-drop i numbers)) in
    ap (map as_run) pushed ∙ map-append as_run runs (run ∷ [])
    ∙ ap (λ (rs : List Run). map as_run runs ++ rs) (sym (value_ends run.length (Int run.number) there (λ more. one_number run.number)))
    ∙ sym (ap (λ (ks : List ℤ). map as_run runs ++ value_runs (replicate run.length (Int run.number) ++ map Int ks)) none) ∙ before

-- ---- columns of numbers

same_value : (k : ℕ) (cell : Cell) → value_of k cell ≡ value_in k cell
same_value k (Full values) = refl
same_value k (Doubt kind) = refl

same_values : (k : ℕ) (cells : List Cell) → map (value_of k) cells ≡ map (value_in k) cells
same_values k [] = refl
same_values k (cell ∷ cells) = rw (same_value k cell, same_values k cells) refl

pub column_put : (k : ℕ) (cells : List Cell) (numbers : List ℤ) (new old front : List ℕ) → map (value_in k) cells ≡ map Int numbers
    → new ≡ old ++ spell_counted w64 spell_run (value_runs (map Int numbers)) → old ≡ front ++ flat_map spell_column (columns_of k 0 cells)
    → new ≡ front ++ flat_map spell_column (columns_of (k + 1) 0 cells)
column_put k cells numbers new old front are put before =
    let column : Column = record { runs = value_runs (map (value_of k) cells) } in
    let spelled : spell_counted w64 spell_run (value_runs (map Int numbers)) ≡ spell_column column =
    ap (λ (vs : List Datum). spell_counted w64 spell_run (value_runs vs)) (sym are ∙ sym (same_values k cells)) in
    let longer : flat_map spell_column (columns_of (k + 1) 0 cells) ≡ flat_map spell_column (columns_of k 0 cells) ++ spell_column column =
    ap (flat_map spell_column) (columns_more k cells) ∙ flat_map-append spell_column (columns_of k 0 cells) (column ∷ []) ∙ ap (λ (t : List ℕ). flat_map spell_column (columns_of k 0 cells) ++ t) (append-nil (spell_column column)) in
    put ∙ ap (λ (t : List ℕ). t ++ spell_counted w64 spell_run (value_runs (map Int numbers))) before ∙ append_assoc front (flat_map spell_column (columns_of k 0 cells)) (spell_counted w64 spell_run (value_runs (map Int numbers)))
    ∙ ap (λ (t : List ℕ). front ++ (flat_map spell_column (columns_of k 0 cells) ++ t)) spelled ∙ ap (λ (t : List ℕ). front ++ t) (sym longer)

-- ---- all runs, written

flat_map_map : (runs : List NumberRun) → flat_map (λ run. spell_run (as_run run)) runs ≡ flat_map spell_run (map as_run runs)
flat_map_map [] = refl
flat_map_map (run ∷ runs) = ap (λ (t : List ℕ). spell_run (as_run run) ++ t) (flat_map_map runs)

pub numbers_put : (old out : List ℕ) (runs : List NumberRun) (i : ℕ) → length runs ≤ i → out ≡ old ++ (to_le_bytes w64 (length runs) ++ flat_map (λ run. spell_run (as_run run)) (take i runs))
    → out ≡ old ++ spell_counted w64 spell_run (map as_run runs)
numbers_put old out runs i le before =
    let all : take i runs ≡ runs = take_all i runs (omega (arith, le)) in
    before ∙ ap (λ (rs : List NumberRun). old ++ (to_le_bytes w64 (length runs) ++ flat_map (λ run. spell_run (as_run run)) rs)) all
    ∙ ap (λ (t : List ℕ). old ++ (to_le_bytes w64 (length runs) ++ t)) (flat_map_map runs)
    ∙ ap (λ (n : ℕ). old ++ (to_le_bytes w64 n ++ flat_map spell_run (map as_run runs))) (sym (length-map runs as_run))

-- the bytes of a chunk whose columns are written
pub all_put : (attributes : List Attribute) (chunk : Chunk) (k : ℕ) (out : List ℕ) → k ≡ length attributes
    → out ≡ spell_counted w64 spell_position_run (position_runs chunk.positions) ++ flat_map spell_column (columns_of k 0 chunk.cells) → out ≡ spelling attributes chunk
unfolding spelling spell_runs
all_put attributes chunk k out same put = put ∙ ap (λ (n : ℕ). spell_counted w64 spell_position_run (position_runs chunk.positions) ++ flat_map spell_column (columns_of n 0 chunk.cells)) same
