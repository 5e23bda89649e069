-- The groups of what lands of some rows and of others behind them.
use Rattle.std.proofs.Common.{◌≡◌, ◌+◌, ◌≤◌, false, List, [], ◌∷◌, ◌++◌, map, filter, length, Some, Result, Ok, Err, refl, sym, ap, ◌∙◌, subst, arith}
use Rattle.std.proofs.lemmas.List.{append-nil, length-append, map-append}
use Rattle.std.proofs.lemmas.List.Elements.{filter-append}
use Rattle.std.specs.Ordering.{is_eq}
use Rattle.std.specs.Prelude.{IfOk}
use Rattle.cell_values.specs.declared.datum.Broken.{Broken}
use Rattle.cell_values.specs.declared.datum.Row.{Row}
use Rattle.cell_values.specs.declared.memory.Memory.{Memory}
use Rattle.cell_values.specs.declared.schema.Bounds.{Bounds}
use Rattle.array_rows.specs.Rows.{Coordinate, row_major, IsRising}
use Rattle.logical_plan.specs.declared.parts.Aggregate.{Aggregate}
use Rattle.logical_plan.specs.Faults.{if_whole}
use Rattle.logical_plan.specs.Redimension.{Origin, Landing, Landed, lands, drops, breaks, landing_of, after_landing, landed, landed_at}
use Rattle.group_rows.specs.declared.rows.groups.Groups.{Groups}
use Rattle.group_rows.specs.Grouped.{AreGroupsOf}
use Rattle.group_rows.specs.Counts.{cells_in}
use Rattle.group_rows.specs.Sets.{AreApartSets, IsApart, Sets, both, both_sets, unless_empty}
use Rattle.group_rows.proofs.FormLaws.{same_sets}
use Rattle.group_rows.proofs.RowLemmas.{joined_apart, put_all_joined}
use Rattle.redimension_exec.specs.Inner.Counting.{has_counted}
use Rattle.redimension_exec.specs.Inner.Grouping.{AreGroupsLanded, landed_sets}
use Rattle.redimension_exec.proofs.GroupLaws.{at_rises, rising_landed}
use Rattle.redimension_exec.proofs.LandedLaws.{whole_of}
use Rattle.redimension_exec.proofs.LandingsGatherLaws.{free, if_ok}

-- ---- what lands

as_it_is : {A : Type 0} (r : Result (List A) Broken) → r ≡ if_whole (λ (rest : List A). [] ++ rest) r
as_it_is (Ok rest) = refl
as_it_is (Err broken) = refl

twice : {A : Type 0} (x : A) (xs : List A) (r : Result (List A) Broken) → if_whole (λ (rest : List A). x ∷ rest) (if_whole (λ (rest : List A). xs ++ rest) r) ≡ if_whole (λ (rest : List A). (x ∷ xs) ++ rest) r
twice x xs (Ok rest) = refl
twice x xs (Err broken) = refl

broken_of : {A B : Type 0} (f : A → B) (r : Result A Broken) (broken : Broken) → if_whole f r ≡ Err broken → r ≡ Err broken
broken_of f (Ok x) broken e = cc
broken_of f (Err other) broken e = cc

module _ (origins : List Origin) (bounds : Bounds) (plain : has_counted origins ≡ false) where
  -- of rows, all of which land or drop out, and of others behind them
  landed-append : (a b : List Row) (taken : List Coordinate) (all : List Landed) → landed origins bounds false a taken ≡ Ok all
      → landed origins bounds false (a ++ b) taken ≡ if_whole (λ (rest : List Landed). all ++ rest) (landed origins bounds false b [])
  landed-append [] b taken all e =
      let none : [] ≡ all = cc (e) in
      free origins bounds plain b taken []
      ∙ as_it_is (landed origins bounds false b [])
      ∙ ap (λ (those : List Landed). if_whole (λ (rest : List Landed). those ++ rest) (landed origins bounds false b [])) none
  landed-append (row ∷ a) b taken all e =
      cases (landing_of origins bounds false taken row.at.items row.cell) e (λ now those h. landed-append a b now those h)
    where
      cases : (l : Landing) → after_landing l row (λ now. landed origins bounds false a now) taken ≡ Ok all
          → ((now : List Coordinate) (those : List Landed) → landed origins bounds false a now ≡ Ok those → landed origins bounds false (a ++ b) now ≡ if_whole (λ (rest : List Landed). those ++ rest) (landed origins bounds false b []))
          → after_landing l row (λ now. landed origins bounds false (a ++ b) now) taken ≡ if_whole (λ (rest : List Landed). all ++ rest) (landed origins bounds false b [])
      cases drops g again = again taken all g
      cases (breaks kind) g again = cc
      cases (lands t) g again =
          let split = whole_of (λ (rest : List Landed). (t, row) ∷ rest) (landed origins bounds false a (t ∷ taken)) all g in
          ap (if_whole (λ (rest : List Landed). (t, row) ∷ rest)) (again (t ∷ taken) split.0 split.1)
          ∙ twice {A = Landed} (t, row) split.0 (landed origins bounds false b [])
          ∙ ap (λ (those : List Landed). if_whole (λ (rest : List Landed). those ++ rest) (landed origins bounds false b [])) split.2

  -- of rows of which one breaks the array
  landed_breaks : (a b : List Row) (taken : List Coordinate) (broken : Broken) → landed origins bounds false a taken ≡ Err broken → landed origins bounds false (a ++ b) taken ≡ Err broken
  landed_breaks [] b taken broken e = cc
  landed_breaks (row ∷ a) b taken broken e =
      cases (landing_of origins bounds false taken row.at.items row.cell) e (λ now h. landed_breaks a b now broken h)
    where
      cases : (l : Landing) → after_landing l row (λ now. landed origins bounds false a now) taken ≡ Err broken
          → ((now : List Coordinate) → landed origins bounds false a now ≡ Err broken → landed origins bounds false (a ++ b) now ≡ Err broken)
          → after_landing l row (λ now. landed origins bounds false (a ++ b) now) taken ≡ Err broken
      cases drops g again = again taken g
      cases (breaks kind) g again = g
      cases (lands t) g again =
          ap (if_whole (λ (rest : List Landed). (t, row) ∷ rest)) (again (t ∷ taken) (broken_of (λ (rest : List Landed). (t, row) ∷ rest) (landed origins bounds false a (t ∷ taken)) broken g))

-- ---- the sets at a coordinate

landed_at-append : (a b : List Landed) (c : Coordinate) → landed_at (a ++ b) c ≡ landed_at a c ++ landed_at b c
landed_at-append a b c =
    ap (map (λ (l : Landed). l.1)) (filter-append (λ (l : Landed). is_eq (row_major l.0 c)) a b)
    ∙ map-append (λ (l : Landed). l.1) (filter (λ (l : Landed). is_eq (row_major l.0 c)) a) (filter (λ (l : Landed). is_eq (row_major l.0 c)) b)

joined : (a b : List Row) → IsRising (a ++ b) → both (unless_empty a) (unless_empty b) ≡ unless_empty (a ++ b)
joined [] b r = refl
joined (x ∷ a) [] r = ap (λ (zs : List Row). Some (x ∷ zs)) (sym (append-nil a))
joined (x ∷ a) (y ∷ b) r = ap (λ (zs : List Row). Some zs) (put_all_joined (x ∷ a) (y ∷ b) r)

apart : (a b : List Row) → IsRising (a ++ b) → IsApart (unless_empty a) (unless_empty b)
apart [] b r = tt
apart (x ∷ a) [] r = tt
apart (x ∷ a) (y ∷ b) r = joined_apart (x ∷ a) (y ∷ b) r

-- ---- the groups

module _ (gs : List Aggregate) (origins : List Origin) (bounds : Bounds) (front back : List Row) (plain : has_counted origins ≡ false) (rise : IsRising (front ++ back)) where
  module _ (left right : Groups) (of_front : AreGroupsLanded gs origins bounds front (Ok left)) (of_back : AreGroupsLanded gs origins bounds back (Ok right)) where
    all_land : landed origins bounds false (front ++ back) [] ≡ Ok (of_front.0 ++ of_back.0)
    all_land = landed-append origins bounds plain front back [] of_front.0 of_front.1 ∙ ap (if_whole (λ (rest : List Landed). of_front.0 ++ rest)) of_back.1

    at_both : (c : Coordinate) → IsRising (landed_at of_front.0 c ++ landed_at of_back.0 c)
    at_both c =
        subst IsRising (landed_at-append of_front.0 of_back.0 c)
        (at_rises (of_front.0 ++ of_back.0) c (rising_landed origins bounds (front ++ back) [] (of_front.0 ++ of_back.0) rise all_land).0)

    pub apart_sets : AreApartSets (landed_sets of_front.0) (landed_sets of_back.0)
    apart_sets c = apart (landed_at of_front.0 c) (landed_at of_back.0 c) (at_both c)

    pub both_landed : (merged : Groups) → AreGroupsOf gs (both_sets (landed_sets of_front.0) (landed_sets of_back.0)) merged.groups → AreGroupsLanded gs origins bounds (front ++ back) (Ok merged)
    both_landed merged are = (
      of_front.0 ++ of_back.0,
      all_land,
      same_sets gs (both_sets (landed_sets of_front.0) (landed_sets of_back.0)) (landed_sets (of_front.0 ++ of_back.0)) merged.groups
          (λ c. joined (landed_at of_front.0 c) (landed_at of_back.0 c) (at_both c) ∙ ap unless_empty (sym (landed_at-append of_front.0 of_back.0 c))) are,
    )

  pub front_breaks : (broken : Broken) → AreGroupsLanded gs origins bounds front (Err broken) → AreGroupsLanded gs origins bounds (front ++ back) (Err broken)
  front_breaks broken is = landed_breaks origins bounds plain front back [] broken is

  pub back_breaks : (left : Groups) (broken : Broken) → AreGroupsLanded gs origins bounds front (Ok left) → AreGroupsLanded gs origins bounds back (Err broken) → AreGroupsLanded gs origins bounds (front ++ back) (Err broken)
  back_breaks left broken of_front is = landed-append origins bounds plain front back [] of_front.0 of_front.1 ∙ ap (if_whole (λ (rest : List Landed). of_front.0 ++ rest)) is

-- ---- the same of whole rows that are cut in two

module _ (whole front back : List Row) (split : whole ≡ front ++ back) where
  module _ (left right : Groups) (made_left made_right : Result Groups Broken) (is_left : made_left ≡ Ok left) (is_right : made_right ≡ Ok right)
      (cells_left : IfOk made_left (λ groups. cells_in groups.groups ≤ length front)) (cells_right : IfOk made_right (λ groups. cells_in groups.groups ≤ length back)) where
    pub no_more_cells : cells_in left.groups + cells_in right.groups ≤ length whole
    no_more_cells =
        let one : cells_in left.groups ≤ length front = subst (λ (r : Result Groups Broken). IfOk r (λ groups. cells_in groups.groups ≤ length front)) is_left cells_left in
        let other : cells_in right.groups ≤ length back = subst (λ (r : Result Groups Broken). IfOk r (λ groups. cells_in groups.groups ≤ length back)) is_right cells_right in
        let sum = ap length split ∙ length-append front back in
        omega (arith, one, other, sum)

  module _ (gs : List Aggregate) (origins : List Origin) (bounds : Bounds) (plain : has_counted origins ≡ false) (rise : IsRising whole) where
    rises : IsRising (front ++ back)
    rises = subst IsRising split rise

    pub whole_breaks_first : (made : Result Groups Broken) (broken : Broken) → made ≡ Err broken → AreGroupsLanded gs origins bounds front made → AreGroupsLanded gs origins bounds whole (Err broken)
    whole_breaks_first made broken is are =
        subst (λ (rows : List Row). AreGroupsLanded gs origins bounds rows (Err broken)) (sym split)
        (front_breaks gs origins bounds front back plain rises broken (subst (AreGroupsLanded gs origins bounds front) is are))

    pub whole_breaks_next : (made_left made : Result Groups Broken) (left : Groups) (broken : Broken) → made_left ≡ Ok left → made ≡ Err broken → AreGroupsLanded gs origins bounds front made_left → AreGroupsLanded gs origins bounds back made
        → AreGroupsLanded gs origins bounds whole (Err broken)
    whole_breaks_next made_left made left broken is_left is of_front of_back =
        subst (λ (rows : List Row). AreGroupsLanded gs origins bounds rows (Err broken)) (sym split)
        (back_breaks gs origins bounds front back plain rises left broken (subst (AreGroupsLanded gs origins bounds front) is_left of_front) (subst (AreGroupsLanded gs origins bounds back) is of_back))

    pub whole_landed : (made_left made_right : Result Groups Broken) (left right : Groups) (merged : Result Groups Memory) → made_left ≡ Ok left → made_right ≡ Ok right → AreGroupsLanded gs origins bounds front made_left → AreGroupsLanded gs origins bounds back made_right
        → ((own other : Sets) → AreGroupsOf gs own left.groups → AreGroupsOf gs other right.groups → AreApartSets own other → IfOk merged (λ groups. AreGroupsOf gs (both_sets own other) groups.groups))
        → IfOk merged (λ groups. AreGroupsLanded gs origins bounds whole (Ok groups))
    whole_landed made_left made_right left right merged is_left is_right of_front of_back put =
        let f : AreGroupsLanded gs origins bounds front (Ok left) = subst (AreGroupsLanded gs origins bounds front) is_left of_front in
        let b : AreGroupsLanded gs origins bounds back (Ok right) = subst (AreGroupsLanded gs origins bounds back) is_right of_back in
        if_ok merged (put (landed_sets f.0) (landed_sets b.0) f.2 b.2 (apart_sets gs origins bounds front back plain rises left right f b))
        (λ groups are. subst (λ (rows : List Row). AreGroupsLanded gs origins bounds rows (Ok groups)) (sym split) (both_landed gs origins bounds front back plain rises left right f b groups are))
