-- States that take the rows of runs, and the values of all aggregates.
use Rattle.std.proofs.Common.{◌≡◌, Bool, append-nil, take-append-drop, ℕ, zero, suc, ◌+◌, ◌-◌, ◌<◌, ◌^◌, IsTrue, true, List, [], ◌∷◌, ◌++◌, map, length, get_or, take, drop, None, refl, sym, ap, ◌∙◌, subst, append_assoc, arith, length-append}
use Rattle.std.specs.List.{AllByRecursion, list_all}
use Rattle.std.proofs.lemmas.List.{take_more, map-append}
use Rattle.cell_values.specs.declared.datum.Datum.{Datum}
use Rattle.cell_values.specs.declared.datum.Row.{Row}
use Rattle.cell_values.specs.declared.schema.Attribute.{Attribute}
use Rattle.cell_values.specs.Cells.{IsCellOf}
use Rattle.array_rows.specs.Rows.{IsRising, placed, cell_at, put_row}
use Rattle.array_geom.proofs.TestLaws.{and_parts}
use Rattle.logical_plan.specs.declared.parts.Aggregate.{Aggregate}
use Rattle.logical_plan.specs.Groups.{aggregate_of, cells_of}
use Rattle.logical_plan.specs.Typing.{is_aggregate_of}
use Rattle.agg_states.specs.Stands.{StandsFor}
use Rattle.agg_states.specs.Inner.Summary.{Summary}
use Rattle.group_rows.proofs.RowLemmas.{put_last, free_last, rising_left}
use Rattle.window_overlap.specs.declared.chunks.runs.Run.{Run}
use Rattle.window_overlap.specs.Reaches.{CanAggregate}
use Rattle.window_overlap.specs.Inner.Runs.{rows_of}

-- ---- a state that takes one row after the other

further : (before rows : List Row) (i : ℕ) (row : Row) → i < length rows → row ≡ get_or rows i row → before ++ take (i + 1) rows ≡ (before ++ take i rows) ++ row ∷ []
further before rows i row l e =
    ap (λ (rs : List Row). before ++ rs) (take_more rows i row l ∙ ap (λ (x : Row). take i rows ++ x ∷ []) (sym e))
    ∙ sym (append_assoc before (take i rows) (row ∷ []))

rising_further : (before rows : List Row) (i : ℕ) → IsRising (before ++ rows) → IsRising (before ++ take i rows)
rising_further before rows i r =
    rising_left (before ++ take i rows) (drop i rows)
    (subst IsRising (ap (λ (rs : List Row). before ++ rs) (sym (take-append-drop i rows)) ∙ sym (append_assoc before (take i rows) (drop i rows))) r)

pub next_taken : (g : Aggregate) (attribute : ℕ) (before rows : List Row) (i : ℕ) (row : Row) (s t : Summary) → IsRising (before ++ rows) → i < length rows → row ≡ get_or rows i row → g.attribute ≡ attribute → StandsFor g (before ++ take i rows) s
    → ((h : Aggregate) (some : List Row) → StandsFor h some s → h.attribute ≡ attribute → cell_at some row.at.items ≡ None → StandsFor h (put_row (placed row.at.items row.cell) some) t)
    → StandsFor g (before ++ take (i + 1) rows) t
next_taken g attribute before rows i row s t r l e a stands takes =
    let more = further before rows i row l e in
    let next = subst IsRising more (rising_further before rows (i + 1) r) in
    subst (λ (some : List Row). StandsFor g some t) (put_last (before ++ take i rows) row next ∙ sym more)
    (takes g (before ++ take i rows) stands a (free_last (before ++ take i rows) row next))

-- ---- one run after the other

rows_of-append : (rows : List Row) (runs more : List Run) → rows_of rows (runs ++ more) ≡ rows_of rows runs ++ rows_of rows more
rows_of-append rows [] more = refl
rows_of-append rows (run ∷ runs) more =
    ap (λ (rs : List Row). take (run.end - run.start) (drop run.start rows) ++ rs) (rows_of-append rows runs more)
    ∙ sym (append_assoc (take (run.end - run.start) (drop run.start rows)) (rows_of rows runs) (rows_of rows more))

abbrev run_rows : List Row → Run → List Row
run_rows rows run = take (run.end - run.start) (drop run.start rows)

pub next_rows : (rows : List Row) (runs : List Run) (i : ℕ) (run d : Run) → i < length runs → run ≡ get_or runs i d → rows_of rows (take (i + 1) runs) ≡ rows_of rows (take i runs) ++ take (run.end - run.start) (drop run.start rows)
next_rows rows runs i run d l e =
    ap (rows_of rows) (take_more runs i d l ∙ ap (λ (z : Run). take i runs ++ z ∷ []) (sym e))
    ∙ rows_of-append rows (take i runs) (run ∷ [])
    ∙ ap (λ (rs : List Row). rows_of rows (take i runs) ++ rs) (append-nil (run_rows rows run))

split_at : (rows : List Row) (runs : List Run) (i : ℕ) → rows_of rows runs ≡ rows_of rows (take i runs) ++ rows_of rows (drop i runs)
split_at rows runs i = ap (rows_of rows) (sym (take-append-drop i runs)) ∙ rows_of-append rows (take i runs) (drop i runs)

pub rising_so_far : (rows : List Row) (runs : List Run) (i : ℕ) (run d : Run) → i < length runs → run ≡ get_or runs i d → IsRising (rows_of rows runs) → IsRising (rows_of rows (take i runs) ++ take (run.end - run.start) (drop run.start rows))
rising_so_far rows runs i run d l e r =
    subst IsRising (next_rows rows runs i run d l e) (rising_left (rows_of rows (take (i + 1) runs)) (rows_of rows (drop (i + 1) runs)) (subst IsRising (split_at rows runs (i + 1)) r))

pub room_for_run : (g : Aggregate) (rows : List Row) (runs : List Run) (i : ℕ) (run d : Run) (s : Summary) → i < length runs → run ≡ get_or runs i d → length (rows_of rows runs) < 2 ^ 63 → StandsFor g (rows_of rows (take i runs)) s
    → s.cells + length (take (run.end - run.start) (drop run.start rows)) < 2 ^ 63
room_for_run g rows runs i run d s l e few stands =
    let cells = stands.cells in
    let next = ap length (next_rows rows runs i run d l e) ∙ length-append (rows_of rows (take i runs)) (run_rows rows run) in
    let all = ap length (split_at rows runs (i + 1)) ∙ length-append (rows_of rows (take (i + 1) runs)) (rows_of rows (drop (i + 1) runs)) in
    omega (arith, cells, next, all, few)

-- ---- the value of one aggregate after the other

all_at : {A : Type 0} (test : A → Bool) (xs : List A) (i : ℕ) (x : A) → list_all test xs ≡ true → i < length xs → x ≡ get_or xs i x → test x ≡ true
all_at test [] i x t l e = absurd (omega (arith, l))
all_at test (y ∷ ys) zero x t l e = ap test e ∙ (and_parts (test y) (list_all test ys) t).0
all_at test (y ∷ ys) (suc i) x t l e = all_at test ys i x (and_parts (test y) (list_all test ys) t).1 (omega (arith, l)) e

pub next_value : (gs : List Aggregate) (i : ℕ) (g : Aggregate) (rows : List Row) (values new : List Datum) (state : Summary) (value : Datum) → i < length gs → g ≡ get_or gs i g → CanAggregate gs rows
    → values ≡ map (λ h. aggregate_of h (cells_of rows)) (take i gs) → StandsFor g rows state
    → ((h : Aggregate) (attributes : List Attribute) (some : List Row) → StandsFor h some state → IsTrue (is_aggregate_of attributes h) → AllByRecursion (λ row. IsCellOf attributes row.cell) some → value ≡ aggregate_of h (cells_of some))
    → new ≡ values ++ value ∷ [] → new ≡ map (λ h. aggregate_of h (cells_of rows)) (take (i + 1) gs)
next_value gs i g rows values new state value l e can h stands tells n =
    let f = λ (z : Aggregate). aggregate_of z (cells_of rows) in
    let own = tells g can.attributes rows stands (all_at (is_aggregate_of can.attributes) gs i g can.typed l e) can.cells in
    n
    ∙ (λ j. h j ++ own j ∷ [])
    ∙ sym (map-append f (take i gs) (g ∷ []))
    ∙ ap (map f) (ap (λ (z : Aggregate). take i gs ++ z ∷ []) e ∙ sym (take_more gs i g l))
