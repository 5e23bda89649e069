-- The rows of a box by runs.
use Rattle.std.proofs.Common.{◌≡◌, ℕ, ◌+◌, ◌-◌, ◌≤◌, Bool, true, false, not, cond, List, [], ◌∷◌, ◌++◌, filter, take, drop, one-add, append-nil, take-append-drop, refl, sym, ap, ◌∙◌, subst, append_assoc, arith}
use Rattle.std.specs.List.{prefix_len}
use Rattle.std.proofs.lemmas.List.{drop-drop}
use Rattle.std.proofs.lemmas.List.Elements.{filter-append}
use Rattle.cell_values.specs.declared.datum.Row.{Row}
use Rattle.cell_values.specs.declared.schema.Bounds.{Bounds}
use Rattle.array_rows.specs.Boxes.{is_inside, within}
use Rattle.array_rows.specs.Rows.{IsRising}
use Rattle.group_rows.proofs.RowLemmas.{rising_right}
use Rattle.window_overlap.specs.declared.chunks.runs.Run.{Run}
use Rattle.window_overlap.specs.Inner.Runs.{rows_of}
use Rattle.window_overlap.specs.Inner.Skips.{begins_outside}

-- ---- rows at the beginning

inside_first : (test : Row → Bool) (rows : List Row) → filter test rows ≡ take (prefix_len test rows) rows ++ filter test (drop (prefix_len test rows) rows)
inside_first test [] = refl
inside_first test (row ∷ rows) = cases (test row) refl (inside_first test rows)
  where
    cases : (b : Bool) → test row ≡ b → filter test rows ≡ take (prefix_len test rows) rows ++ filter test (drop (prefix_len test rows) rows) → cond b (row ∷ filter test rows) (filter test rows) ≡ take (cond b (1 + prefix_len test rows) 0) (row ∷ rows) ++ filter test (drop (cond b (1 + prefix_len test rows) 0) (row ∷ rows))
    cases true e r = rw one-add (ap (λ (rs : List Row). row ∷ rs) r)
    cases false e r = ap (λ (b : Bool). cond b (row ∷ filter test rows) (filter test rows)) (sym e)

outside_first : (test : Row → Bool) (rows : List Row) (k : ℕ) → filter test (take k rows) ≡ [] → filter test rows ≡ filter test (drop k rows)
outside_first test rows k e =
    ap (filter test) (sym (take-append-drop k rows)) ∙ filter-append test (take k rows) (drop k rows) ∙ ap (λ (rs : List Row). rs ++ filter test (drop k rows)) e

pub stops_outside : (area : Bounds) (rows : List Row) → begins_outside area (drop (prefix_len (λ row. is_inside area row.at.items) rows) rows) ≡ true
stops_outside area [] = refl
stops_outside area (row ∷ rows) = cases (is_inside area row.at.items) refl (stops_outside area rows)
  where
    cases : (b : Bool) → is_inside area row.at.items ≡ b → begins_outside area (drop (prefix_len (λ r. is_inside area r.at.items) rows) rows) ≡ true → begins_outside area (drop (cond b (1 + prefix_len (λ r. is_inside area r.at.items) rows) 0) (row ∷ rows)) ≡ true
    cases true e r = rw one-add r
    cases false e r = ap not e

-- ---- one run more

rows_of-more : (rows : List Row) (runs : List Run) (run : Run) → rows_of rows (runs ++ run ∷ []) ≡ rows_of rows runs ++ take (run.end - run.start) (drop run.start rows)
rows_of-more rows [] run = append-nil (take (run.end - run.start) (drop run.start rows))
rows_of-more rows (first ∷ runs) run =
    ap (λ (rs : List Row). take (first.end - first.start) (drop first.start rows) ++ rs) (rows_of-more rows runs run)
    ∙ sym (append_assoc (take (first.end - first.start) (drop first.start rows)) (rows_of rows runs) (take (run.end - run.start) (drop run.start rows)))

abbrev run_of : ℕ → ℕ → Run
run_of start end = record { start = start; end = end }

pub pushed : (rows : List Row) (runs runs' : List Run) (start end : ℕ) → runs' ≡ runs ++ run_of start end ∷ [] → rows_of rows runs' ≡ rows_of rows runs ++ take (end - start) (drop start rows)
pushed rows runs runs' start end e = ap (rows_of rows) e ∙ rows_of-more rows runs (run_of start end)

-- what the runs and the rows still to come have of a box
pub next_run : (area : Bounds) (rows : List Row) (runs runs' : List Run) (start end next : ℕ) → start ≤ end → end ≤ next → end ≡ start + prefix_len (λ row. is_inside area row.at.items) (drop start rows)
    → rows_of rows runs' ≡ rows_of rows runs ++ take (end - start) (drop start rows) → within area (take (next - end) (drop end rows)) ≡ []
    → rows_of rows runs ++ within area (drop start rows) ≡ within area rows → rows_of rows runs' ++ within area (drop next rows) ≡ within area rows
next_run area rows runs runs' start end next l m e more out whole =
    let test = λ (row : Row). is_inside area row.at.items in
    let rest = drop start rows in
    let n = prefix_len test rest in
    let count : end - start ≡ n = omega (arith, e) in
    let later : drop n rest ≡ drop end rows = drop-drop n start rows ∙ ap (λ k. drop k rows) (sym e) in
    let upto : end + (next - end) ≡ next = omega (arith, m) in
    let last : drop (next - end) (drop end rows) ≡ drop next rows = drop-drop (next - end) end rows ∙ ap (λ k. drop k rows) upto in
    let skipped : filter test (drop n rest) ≡ filter test (drop next rows) = ap (filter test) later ∙ outside_first test (drop end rows) (next - end) out ∙ ap (filter test) last in
    let first : filter test rest ≡ take (end - start) rest ++ filter test (drop next rows) = inside_first test rest ∙ (λ i. take (sym count i) rest ++ skipped i) in
    ap (λ (rs : List Row). rs ++ filter test (drop next rows)) more
    ∙ append_assoc (rows_of rows runs) (take (end - start) rest) (filter test (drop next rows))
    ∙ ap (λ (rs : List Row). rows_of rows runs ++ rs) (sym first)
    ∙ whole

-- what stands behind the rows of a box that stand together
pub outside_behind : (area : Bounds) (rows : List Row) (start end : ℕ) → end ≡ start + prefix_len (λ row. is_inside area row.at.items) (drop start rows) → begins_outside area (drop end rows) ≡ true
outside_behind area rows start end e =
    let rest = drop start rows in
    let n = prefix_len (λ (row : Row). is_inside area row.at.items) rest in
    subst (λ (rs : List Row). begins_outside area rs ≡ true) (drop-drop n start rows ∙ ap (λ k. drop k rows) (sym e)) (stops_outside area rest)

pub rising_behind : (rows : List Row) (n : ℕ) → IsRising rows → IsRising (drop n rows)
rising_behind rows n r = rising_right (take n rows) (drop n rows) (subst IsRising (sym (take-append-drop n rows)) r)
