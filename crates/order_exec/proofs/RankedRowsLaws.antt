-- Ranks from what is known of groups.
use Rattle.std.proofs.Common.{◌≡◌, ℕ, zero, suc, ◌+◌, ◌<◌, ◌≤◌, ℤ, List, [], ◌∷◌, ◌++◌, get_or, length, take, drop, Option, Some, None, append_assoc, add-one, refl, sym, ap, ◌∙◌, subst, arith}
use Rattle.std.proofs.lemmas.List.{append-nil, length-append, length-drop, nil_from_length, take_all, take_more}
use Rattle.std.specs.Prelude.{slice_set}
use Rattle.std.specs.BTreeMap as tree
use Rattle.std.specs.BTreeMap.{BTreeMap}
use Rattle.arrayvec.specs.ArrayVec.{ArrayVec}
use Rattle.cell_values.specs.declared.datum.Cell.{Cell}
use Rattle.cell_values.specs.declared.datum.Datum.{Datum}
use Rattle.cell_values.specs.declared.datum.FaultKind.{FaultKind}
use Rattle.cell_values.specs.declared.datum.Row.{Row}
use Rattle.array_rows.specs.Cellwise.{cell_wise, put_first}
use Rattle.array_rows.specs.Rows.{Coordinate, placed}
use Rattle.group_rows.specs.Taken.{by_coordinate}
use Rattle.logical_plan.specs.Ordered.{below}
use Rattle.order_exec.specs.Inner.Ranked.{AreInOrder, AreOrdered, DescribesGroups, HoldsFaults, HoldsValues, SortsValues, values_or_none}
use Rattle.order_exec.proofs.GroupOrderLaws.{below_sorted, sorted_in_order}

-- ---- what is known

module _ (x : ℕ) (dims : List ℕ) (rows : List Row) (groups values : BTreeMap (ArrayVec ℤ) (List Datum)) (h : HoldsValues x dims rows groups) (s : SortsValues groups values) where
  pub ordered : AreOrdered values
  ordered q = subst AreInOrder (sym (s q)) (sorted_in_order (values_or_none (tree.get by_coordinate groups q)))

  pub knows : (faults : BTreeMap (ArrayVec ℤ) FaultKind) → HoldsFaults x dims rows faults → DescribesGroups x dims rows values faults
  knows faults f = record {
    first = f;
    counts = λ q v. ap (below v) (s q) ∙ below_sorted v (values_or_none (tree.get by_coordinate groups q)) ∙ ap (below v) (h q);
  }

-- ---- one cell

pub one_ranked : (change : Coordinate → Cell → Option Cell) (rows made : List Row) (i : ℕ) (row new : Row) → i < length rows → row ≡ get_or rows i row → new.at ≡ row.at → change row.at.items row.cell ≡ Some new.cell
    → made ≡ cell_wise change (take i rows) → made ++ new ∷ [] ≡ cell_wise change (take (i + 1) rows)
one_ranked change rows made i row new l e at told h =
    ap (λ (rs : List Row). rs ++ new ∷ []) h ∙ sym (ap (cell_wise change) (take_more rows i row l ∙ ap (λ (r : Row). take i rows ++ r ∷ []) (sym e)) ∙ joined (take i rows))
  where
    here : put_first row.at.items (change row.at.items row.cell) [] ≡ new ∷ []
    here = ap (λ o. put_first row.at.items o []) told ∙ (λ j. record { at = sym at j; cell = new.cell } ∷ [])

    joined : (some : List Row) → cell_wise change (some ++ row ∷ []) ≡ cell_wise change some ++ new ∷ []
    joined [] = here
    joined (r ∷ some) = cases (change r.at.items r.cell) (joined some)
      where
        cases : (o : Option Cell) → cell_wise change (some ++ row ∷ []) ≡ cell_wise change some ++ new ∷ [] → put_first r.at.items o (cell_wise change (some ++ row ∷ [])) ≡ put_first r.at.items o (cell_wise change some) ++ new ∷ []
        cases None ih = ih
        cases (Some cell) ih = ap (λ rs. placed r.at.items cell ∷ rs) ih

-- ---- rows in whose places others are put

read_behind : (front rest : List Row) (x d : Row) (k : ℕ) → length front ≡ k → get_or (front ++ x ∷ rest) k d ≡ x
read_behind [] rest x d zero e = refl
read_behind [] rest x d (suc k) e = absurd (omega (arith, e))
read_behind (y ∷ front) rest x d zero e = absurd (omega (arith, e))
read_behind (y ∷ front) rest x d (suc k) e = read_behind front rest x d k (omega (arith, e))

set_behind : (front rest : List Row) (x new : Row) (k : ℕ) → length front ≡ k → slice_set (front ++ x ∷ rest) k new ≡ front ++ new ∷ rest
set_behind [] rest x new zero e = refl
set_behind [] rest x new (suc k) e = absurd (omega (arith, e))
set_behind (y ∷ front) rest x new zero e = absurd (omega (arith, e))
set_behind (y ∷ front) rest x new (suc k) e = ap (λ (rows : List Row). y ∷ rows) (set_behind front rest x new k (omega (arith, e)))

first_row : (k : ℕ) (rows : List Row) (d : Row) → k < length rows → drop k rows ≡ get_or rows k d ∷ drop (suc k) rows
first_row k [] d l = absurd (omega (arith, l))
first_row zero (row ∷ rows) d l = refl
first_row (suc k) (row ∷ rows) d l = first_row k rows d (omega (arith, l))

-- the first rows are changed, and the others are as they were
pub record RankedSoFar (change : Coordinate → Cell → Option Cell) (rows : List Row) (k : ℕ) (made : List Row) : Type 0 where
  pub front : List Row
  pub done : front ≡ cell_wise change (take k rows)
  pub long : length front ≡ k
  pub all : made ≡ front ++ drop k rows
  pub as_many : length made ≡ length rows

pub none_placed : (change : Coordinate → Cell → Option Cell) (rows : List Row) → RankedSoFar change rows 0 rows
none_placed change rows = record { front = []; done = refl; long = refl; all = refl; as_many = refl }

pub one_placed : (change : Coordinate → Cell → Option Cell) (rows made made' : List Row) (k : ℕ) (row new : Row) → k < length rows → row ≡ get_or made k row → new.at ≡ row.at → change row.at.items row.cell ≡ Some new.cell
    → made' ≡ slice_set made k new → RankedSoFar change rows k made → RankedSoFar change rows (k + 1) made'
one_placed change rows made made' k row new l e at told set h =
    let x = get_or rows k row in
    let here : made ≡ h.front ++ x ∷ drop (suc k) rows = h.all ∙ ap (λ (zs : List Row). h.front ++ zs) (first_row k rows row l) in
    let same : row ≡ x = e ∙ ap (λ (zs : List Row). get_or zs k row) here ∙ read_behind h.front (drop (suc k) rows) x row k h.long in
    let more = length-append h.front (new ∷ []) in
    let long = h.long in
    let all : made' ≡ (h.front ++ new ∷ []) ++ drop (k + 1) rows =
    set ∙ ap (λ (zs : List Row). slice_set zs k new) here ∙ set_behind h.front (drop (suc k) rows) x new k h.long
    ∙ sym (append_assoc h.front (new ∷ []) (drop (suc k) rows)) ∙ ap (λ (n : ℕ). (h.front ++ new ∷ []) ++ drop n rows) (sym (add-one k)) in
    let total = ap (λ (zs : List Row). length zs) all ∙ length-append (h.front ++ new ∷ []) (drop (k + 1) rows) in
    let left = length-drop (k + 1) rows in
    record {
      front = h.front ++ new ∷ [];
      done = one_ranked change rows h.front k row new l same at told h.done;
      long = omega (arith, more, long);
      all = all;
      as_many = omega (arith, total, left, more, long, l);
    }

pub all_placed : (change : Coordinate → Cell → Option Cell) (rows made : List Row) (k : ℕ) → length rows ≤ k → RankedSoFar change rows k made → made ≡ cell_wise change rows
all_placed change rows made k l h =
    let left = length-drop k rows in
    h.all ∙ ap (λ (zs : List Row). h.front ++ zs) (nil_from_length (drop k rows) (omega (arith, left, l))) ∙ append-nil h.front ∙ h.done ∙ ap (cell_wise change) (take_all k rows l)
