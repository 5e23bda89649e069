-- States of the cells that landed at each coordinate.
use Rattle.std.proofs.Common.{◌≡◌, ℕ, ◌+◌, ◌<◌, ℤ, Bool, true, false, cond, List, [], ◌∷◌, ◌++◌, map, filter, length, get_or, take, drop, Option, Some, None, Ok, Err, refl, sym, ap, ◌∙◌, subst, arith}
use Rattle.std.proofs.lemmas.List.{append-nil, append_assoc, map-append, take_more, take-append-drop}
use Rattle.std.proofs.lemmas.List.Elements.{filter-append}
use Rattle.std.specs.BTreeMap.{BTreeMap, is_at}
use Rattle.std.specs.Map.{lookup}
use Rattle.std.specs.Option.{is_some}
use Rattle.std.specs.Ordering.{is_eq}
use Rattle.std.specs.declared.cmp.Ordering.{Ordering}
use Rattle.arrayvec.specs.ArrayVec.{ArrayVec}
use Rattle.cell_values.specs.declared.datum.Broken.{Broken}
use Rattle.cell_values.specs.declared.datum.Row.{Row}
use Rattle.cell_values.specs.declared.schema.Bounds.{Bounds}
use Rattle.array_rows.specs.Rows.{Coordinate, row_major, IsRising}
use Rattle.array_rows.proofs.RowsLemmas.{same_coordinate}
use Rattle.logical_plan.specs.declared.parts.Aggregate.{Aggregate}
use Rattle.logical_plan.specs.Redimension.{Origin, Landed, landed, landed_at}
use Rattle.agg_states.specs.Inner.Summary.{Summary}
use Rattle.group_rows.specs.Grouped.{IsGroupOf}
use Rattle.group_rows.specs.Sets.{Sets, unless_empty}
use Rattle.group_rows.specs.Taken.{KeepsGroups, by_coordinate, rows_of, sets_with}
use Rattle.group_rows.proofs.TakenLaws.{none_of, same_kept, set_rows, some_rows}
use Rattle.group_rows.proofs.RowLemmas.{rising_left}
use Rattle.redimension_exec.specs.Inner.Counting.{has_counted}
use Rattle.redimension_exec.specs.Inner.Grouping.{landed_sets}
use Rattle.redimension_exec.specs.Inner.Taking.{HoldsStates, IsTaken, rows_in}
use Rattle.redimension_exec.proofs.GroupLaws.{at_rises, rising_landed}
use Rattle.redimension_exec.proofs.LandingsGatherLaws.{landed_more, landed_breaks}

-- ---- one row more at a coordinate

pub landed_last : (all : List Landed) (at : ArrayVec ℤ) (row : Row) (c : Coordinate) → landed_at (all ++ (at.items, row) ∷ []) c ≡ landed_at all c ++ cond (is_eq (row_major at.items c)) (row ∷ []) []
landed_last all at row c =
    ap (λ (some : List Landed). map (λ (l : Landed). l.1) some) (filter-append (λ (l : Landed). is_eq (row_major l.0 c)) all ((at.items, row) ∷ []))
    ∙ map-append (λ (l : Landed). l.1) (filter (λ (l : Landed). is_eq (row_major l.0 c)) all) (filter (λ (l : Landed). is_eq (row_major l.0 c)) ((at.items, row) ∷ []))
    ∙ ap (λ (some : List Row). landed_at all c ++ some) (cases (is_eq (row_major at.items c)))
  where
    cases : (b : Bool) → map (λ (l : Landed). l.1) (cond b ((at.items, row) ∷ []) []) ≡ cond b (row ∷ []) []
    cases true = refl
    cases false = refl

landed_here : (all : List Landed) (at : ArrayVec ℤ) (row : Row) → landed_at (all ++ (at.items, row) ∷ []) at.items ≡ landed_at all at.items ++ row ∷ []
landed_here all at row = landed_last all at row at.items ∙ ap (λ (o : Ordering). landed_at all at.items ++ cond (is_eq o) (row ∷ []) []) (same_coordinate at.items)

sets_more : (all : List Landed) (at : ArrayVec ℤ) (row : Row) (c : Coordinate) → sets_with at.items (row ∷ []) (landed_sets all) c ≡ landed_sets (all ++ (at.items, row) ∷ []) c
sets_more all at row c = sym (ap unless_empty (landed_last all at row c) ∙ cases (is_eq (row_major at.items c)))
  where
    cases : (b : Bool) → unless_empty (landed_at all c ++ cond b (row ∷ []) []) ≡ cond b (Some (rows_of (unless_empty (landed_at all c)) ++ row ∷ [])) (unless_empty (landed_at all c))
    cases true = some_rows (landed_at all c) (row ∷ []) (omega arith)
    cases false = ap unless_empty (append-nil (landed_at all c))

set_rises : (all : List Landed) (at : ArrayVec ℤ) (row : Row) → IsRising (rows_in (all ++ (at.items, row) ∷ [])) → IsRising (rows_of (landed_sets all at.items) ++ row ∷ [])
set_rises all at row rise =
    subst IsRising (ap (λ (some : List Row). some ++ row ∷ []) (sym (set_rows (landed_at all at.items))))
    (subst IsRising (landed_here all at row) (at_rises (all ++ (at.items, row) ∷ []) at.items rise))

-- the states with a row that landed
pub landed_taken : (gs : List Aggregate) (at : ArrayVec ℤ) (row : Row) (run : List Row) (old new : BTreeMap (ArrayVec ℤ) (List Summary)) → run ≡ row ∷ []
    → ((sets : Sets) → KeepsGroups gs sets old → IsRising (rows_of (sets at.items) ++ run) → KeepsGroups gs (sets_with at.items run sets) new)
    → (all : List Landed) → HoldsStates gs all old → IsRising (rows_in (all ++ (at.items, row) ∷ [])) → HoldsStates gs (all ++ (at.items, row) ∷ []) new
landed_taken gs at row run old new e takes all holds rise =
    same_kept gs (sets_with at.items run (landed_sets all)) (landed_sets (all ++ (at.items, row) ∷ [])) new
    (λ c. ap (λ (some : List Row). sets_with at.items some (landed_sets all) c) e ∙ sets_more all at row c)
    (takes (landed_sets all) holds (subst (λ (some : List Row). IsRising (rows_of (landed_sets all at.items) ++ some)) (sym e) (set_rises all at row rise)))

-- ---- all rows

module _ (gs : List Aggregate) (origins : List Origin) (bounds : Bounds) where
  -- the states of what landed of these rows
  pub record AreTaken (rows : List Row) (groups : BTreeMap (ArrayVec ℤ) (List Summary)) : Type 0 where
    pub all : List Landed
    pub same : landed origins bounds false rows [] ≡ Ok all
    pub holds : HoldsStates gs all groups

  pub none_taken : (groups : BTreeMap (ArrayVec ℤ) (List Summary)) → groups.entries ≡ [] → AreTaken [] groups
  none_taken groups e = record {
    all = [];
    same = refl;
    holds = λ key. subst (λ (es : List (ArrayVec ℤ × List Summary)). IsGroupOf gs None (lookup (is_at (by_coordinate key)) es)) (sym e) tt;
  }

  module _ (plain : has_counted origins ≡ false) (rows items : List Row) (i : ℕ) (row : Row) (same : items ≡ rows) (less : i < length items) (is : row ≡ get_or items i row) where
    l : i < length rows
    l = subst (λ (xs : List Row). i < length xs) same less

    e : row ≡ get_or rows i row
    e = subst (λ (xs : List Row). row ≡ get_or xs i row) same is

    next_rows : take (i + 1) rows ≡ take i rows ++ row ∷ []
    next_rows = take_more rows i row l ∙ ap (λ (x : Row). take i rows ++ x ∷ []) (sym e)

    pub taken_more : (old new : BTreeMap (ArrayVec ℤ) (List Summary)) (o : Option Broken) → ((x : Broken) → o ≡ Some x → ⊥) → IsRising rows → AreTaken (take i rows) old → IsTaken gs origins bounds row o old new
        → AreTaken (take (i + 1) rows) new
    taken_more old new o none r are taken =
        let t : IsTaken gs origins bounds row None old new = subst (λ (b : Option Broken). IsTaken gs origins bounds row b old new) (none_of o none) taken in
        let same : landed origins bounds false (take (i + 1) rows) [] ≡ Ok (are.all ++ t.0) =
        ap (λ (some : List Row). landed origins bounds false some []) next_rows ∙ landed_more origins bounds plain (take i rows) row are.all t.0 are.same t.1 in
        let rise : IsRising (take (i + 1) rows) = rising_left (take (i + 1) rows) (drop (i + 1) rows) (subst IsRising (sym (take-append-drop (i + 1) rows)) r) in
        record {
          all = are.all ++ t.0;
          same = same;
          holds = t.2 are.all are.holds (rising_landed origins bounds (take (i + 1) rows) [] (are.all ++ t.0) rise same).0;
        }

    pub taken_breaks : (old new : BTreeMap (ArrayVec ℤ) (List Summary)) (o : Option Broken) (broken : Broken) → o ≡ Some broken → AreTaken (take i rows) old → IsTaken gs origins bounds row o old new
        → landed origins bounds false rows [] ≡ Err broken
    taken_breaks old new o broken is_some are taken =
        let t : IsTaken gs origins bounds row (Some broken) old new = subst (λ (b : Option Broken). IsTaken gs origins bounds row b old new) is_some taken in
        let whole : rows ≡ take i rows ++ row ∷ drop (i + 1) rows =
        sym (take-append-drop (i + 1) rows) ∙ ap (λ (some : List Row). some ++ drop (i + 1) rows) next_rows ∙ append_assoc (take i rows) (row ∷ []) (drop (i + 1) rows) in
        ap (λ (some : List Row). landed origins bounds false some []) whole ∙ landed_breaks origins bounds plain (take i rows) (drop (i + 1) rows) row are.all broken are.same (t (drop (i + 1) rows))
