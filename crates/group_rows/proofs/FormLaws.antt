-- Groups of the cells of rows.
use Rattle.std.proofs.Common.{◌≡◌, ℕ, ℤ, ◌&&◌, Bool, true, false, cond, List, [], ◌∷◌, ◌++◌, length, get_or, take, drop, Option, Some, None, refl, sym, ap, ◌∙◌, subst, arith}
use Rattle.std.proofs.lemmas.List.{take-map, drop-map}
use Rattle.std.proofs.lemmas.List.Elements.{filter-append}
use Rattle.std.specs.List.{AllByRecursion}
use Rattle.std.specs.Ordering.{is_eq}
use Rattle.std.specs.declared.cmp.Ordering.{Ordering}
use Rattle.std.specs.declared.cmp.Ordering.TheVariants.{Less, Equal, Greater}
use Rattle.arrayvec.specs.ArrayVec.{ArrayVec}
use Rattle.cell_values.specs.declared.datum.Row.{Row}
use Rattle.array_rows.specs.Rows.{Coordinate, row_major, IsRising}
use Rattle.array_rows.proofs.RowsLemmas.{row_major_exact, cond_same}
use Rattle.array_rows.proofs.RowSets.{IsRising-rows_where}
use Rattle.logical_plan.specs.declared.parts.Aggregate.{Aggregate}
use Rattle.logical_plan.specs.Groups.{group_at}
use Rattle.group_rows.specs.declared.rows.groups.Group.{Group}
use Rattle.group_rows.specs.Grouped.{AreStatesOf, states_at, IsGroupOf, AreGroupsOf}
use Rattle.group_rows.specs.Sets.{Sets, one_set, are_at, AreKeys}

pub same_sets : (gs : List Aggregate) (own other : Sets) (groups : List Group) → ((c : Coordinate) → own c ≡ other c) → AreGroupsOf gs own groups → AreGroupsOf gs other groups
same_sets gs own other groups e h = record {
  in_order = h.in_order;
  each = λ c. subst (λ (o : Option (List Row)). IsGroupOf gs o (states_at groups c)) (e c) (h.each c);
}

-- ---- one group

pub one_group : (gs : List Aggregate) (at : Coordinate) (rows : List Row) (group : Group) (groups : List Group) → IsRising rows → group.at.items ≡ at → AreStatesOf gs rows group.states → groups ≡ group ∷ [] → AreGroupsOf gs (one_set at rows) groups
one_group gs at rows group groups r own states e = subst (AreGroupsOf gs (one_set at rows)) (sym e) (record {
  in_order = (tt, tt);
  each = λ c. subst (λ (d : Coordinate). IsGroupOf gs (one_set d rows c) (states_at (group ∷ []) c)) own (cases (is_eq (row_major group.at.items c)));
})
  where
    cases : (b : Bool) → IsGroupOf gs (cond b (Some rows) None) (cond b (Some group.states) None)
    cases true = (r, states)
    cases false = tt

-- ---- cells of one group

pub all_in : (group : Coordinate → Coordinate) (at : Coordinate) (keys : List (ArrayVec ℤ)) (rows : List Row) → AreKeys group keys rows → are_at at keys ≡ true → AllByRecursion (λ row. group row.at.items ≡ at) rows
all_in group at keys [] k e = tt
all_in group at [] (row ∷ rows) k e = absurd (let l = ap length k in omega (arith, l))
all_in group at (key ∷ keys) (row ∷ rows) k e = cases (row_major key.items at) refl e (all_in group at keys rows (ap (λ (zs : List Coordinate). drop 1 zs) k))
  where
    cases : (o : Ordering) → row_major key.items at ≡ o → (is_eq o && are_at at keys) ≡ true → (are_at at keys ≡ true → AllByRecursion (λ row. group row.at.items ≡ at) rows) → AllByRecursion (λ row. group row.at.items ≡ at) (row ∷ rows)
    cases Less f e ih = absurd cc
    cases Greater f e ih = absurd cc
    cases Equal f e ih = (sym (ap (λ (zs : List Coordinate). get_or zs 0 []) k) ∙ row_major_exact key.items at f, ih e)

pub only_group : (group : Coordinate → Coordinate) (at c : Coordinate) (rows : List Row) → AllByRecursion (λ row. group row.at.items ≡ at) rows → group_at group c rows ≡ cond (is_eq (row_major at c)) rows []
only_group group at c [] h = sym (cond_same (is_eq (row_major at c)) [])
only_group group at c (row ∷ rows) h =
    ap (λ (d : Coordinate). cond (is_eq (row_major d c)) (row ∷ group_at group c rows) (group_at group c rows)) h.0
    ∙ ap (λ (zs : List Row). cond (is_eq (row_major at c)) (row ∷ zs) zs) (only_group group at c rows h.1)
    ∙ cases (is_eq (row_major at c))
  where
    cases : (b : Bool) → cond b (row ∷ cond b rows []) (cond b rows []) ≡ cond b (row ∷ rows) []
    cases true = refl
    cases false = refl

-- ---- cells before others

pub group_rises : (group : Coordinate → Coordinate) (c : Coordinate) (a b : List Row) → IsRising (a ++ b) → IsRising (group_at group c a ++ group_at group c b)
group_rises group c a b r =
    subst IsRising (filter-append (λ (row : Row). is_eq (row_major (group row.at.items) c)) a b) (IsRising-rows_where (λ at. is_eq (row_major (group at) c)) (a ++ b) r)

-- the keys of a part
pub keys_taken : (group : Coordinate → Coordinate) (n : ℕ) (keys : List (ArrayVec ℤ)) (rows : List Row) → AreKeys group keys rows → AreKeys group (take n keys) (take n rows)
keys_taken group n keys rows k =
    sym (take-map (λ (key : ArrayVec ℤ). key.items) n keys) ∙ ap (take n) k ∙ take-map (λ (row : Row). group row.at.items) n rows

pub keys_dropped : (group : Coordinate → Coordinate) (n : ℕ) (keys : List (ArrayVec ℤ)) (rows : List Row) → AreKeys group keys rows → AreKeys group (drop n keys) (drop n rows)
keys_dropped group n keys rows k =
    sym (drop-map (λ (key : ArrayVec ℤ). key.items) n keys) ∙ ap (drop n) k ∙ drop-map (λ (row : Row). group row.at.items) n rows
