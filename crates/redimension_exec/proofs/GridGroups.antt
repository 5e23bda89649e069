-- Groups by the places of a grid.
use Rattle.std.proofs.Common.{◌≡◌, ◌⊎◌, inl, inr, ℕ, zero, suc, ◌+◌, ◌<◌, ◌≤◌, Bool, true, false, cond, List, [], ◌∷◌, ◌++◌, add-one, map, filter, length, replicate, get_or, take, Option, Some, None, refl, sym, ap, ◌∙◌, subst, arith}
use Rattle.std.proofs.lemmas.List.{get_or-set_other, get_or-set_same, length-replicate, length-set, take_all, take_more}
use Rattle.std.proofs.lemmas.Slice.Zip.{AllZip-long}
use Rattle.std.specs.List.{AllByRecursion, AllZip, list_any}
use Rattle.std.specs.Ordering.{is_eq}
use Rattle.std.specs.Prelude.{nat_lt, slice_set, ◌||◌}
use Rattle.std.specs.declared.cmp.Ordering.TheVariants.{Less}
use Rattle.cell_values.specs.declared.datum.Row.{Row}
use Rattle.array_rows.specs.Rows.{Coordinate, IsRising, row_major}
use Rattle.array_rows.proofs.RowsLemmas.{same_coordinate}
use Rattle.array_geom.specs.declared.grid.Grid.{Grid}
use Rattle.array_geom.specs.Geometry.{position_in, volume}
use Rattle.array_geom.specs.Inner.Ranges.{IsGrid, is_in_grid}
use Rattle.array_geom.proofs.PlaceLaws.{coordinate_again, coordinate_in_grid, position_below}
use Rattle.chunk_cells.proofs.OrderLaws.{coordinate_rises}
use Rattle.logical_plan.specs.declared.parts.Aggregate.{Aggregate}
use Rattle.logical_plan.specs.Redimension.{Landed, landed_at}
use Rattle.agg_states.specs.Stands.{StandsFor}
use Rattle.agg_states.specs.Inner.Summary.{Summary}
use Rattle.group_rows.specs.declared.rows.groups.Group.{Group}
use Rattle.group_rows.specs.Counts.{cells_in, cells_of}
use Rattle.group_rows.specs.Grouped.{AreGroupsOf, AreInOrder, AreStatesOf, IsGroupOf, states_at}
use Rattle.group_rows.specs.Inner.Places.{place_of}
use Rattle.group_rows.specs.Sets.{unless_empty}
use Rattle.group_rows.proofs.ColumnLaws.{states_count}
use Rattle.group_rows.proofs.PlaceLaws.{all_at, same_key}
use Rattle.redimension_exec.specs.Inner.Dense.{AreGroupsUpTo, AreMarks, IsColumn, count_below, is_target, landed_there, no_cells}
use Rattle.redimension_exec.specs.Inner.Grouping.{landed_sets}
use Rattle.redimension_exec.proofs.ColumnLaws.{other_place, same_place, there_rises}
use Rattle.redimension_exec.proofs.GroupLaws.{at_rises}

-- ---- marks

any_last : (p : ℕ → Bool) (xs : List ℕ) (x : ℕ) → list_any p (xs ++ x ∷ []) ≡ (list_any p xs || p x)
any_last p [] x = cases (p x)
  where
    cases : (b : Bool) → (b || false) ≡ b
    cases true = refl
    cases false = refl
any_last p (y ∷ xs) x = ap (λ (b : Bool). p y || b) (any_last p xs x) ∙ cases (p y)
  where
    cases : (b : Bool) → (b || (list_any p xs || p x)) ≡ ((b || list_any p xs) || p x)
    cases true = refl
    cases false = refl

or_true : (a b : Bool) → b ≡ true → (a || b) ≡ true
or_true true b e = refl
or_true false b e = e

or_false : (a b : Bool) → b ≡ false → (a || b) ≡ a
or_false true b e = refl
or_false false b e = e

pub next_marks : (grid : Grid) (targets : List ℕ) (i t : ℕ) (old new : List Bool) → IsGrid grid → AllByRecursion (λ t. t < volume grid.lengths.items) targets → i < length targets → t ≡ get_or targets i 0 → new ≡ slice_set old t true
    → AreMarks grid (take i targets) old → AreMarks grid (take (i + 1) targets) new
next_marks grid targets i t old new is below l e set marks = record {
  long = ap length set ∙ length-set old t true ∙ marks.long;
  each = λ p small. cases p small (is_eq (row_major (place_of grid t) (place_of grid p))) refl;
}
  where
    low : t < volume grid.lengths.items
    low = subst (λ (n : ℕ). n < volume grid.lengths.items) (sym e) (all_at (λ (n : ℕ). n < volume grid.lengths.items) targets i 0 l below)

    within_old : t < length old
    within_old = let long = marks.long in let small = low in omega (arith, long, small)

    now : (p : ℕ) → is_target grid (take (i + 1) targets) p ≡ (is_target grid (take i targets) p || is_eq (row_major (place_of grid t) (place_of grid p)))
    now p =
        ap (λ (ts : List ℕ). is_target grid ts p) (take_more targets i 0 l ∙ ap (λ (n : ℕ). take i targets ++ n ∷ []) (sym e))
        ∙ any_last (λ (n : ℕ). is_eq (row_major (place_of grid n) (place_of grid p))) (take i targets) t

    cases : (p : ℕ) → p < volume grid.lengths.items → (b : Bool) → is_eq (row_major (place_of grid t) (place_of grid p)) ≡ b → get_or new p false ≡ is_target grid (take (i + 1) targets) p
    cases p small true h =
        let same = same_place grid t p is low small h in
        ap (λ (bs : List Bool). get_or bs p false) set ∙ ap (λ (n : ℕ). get_or (slice_set old t true) n false) (sym same) ∙ get_or-set_same old t true false within_old
        ∙ sym (now p ∙ or_true (is_target grid (take i targets) p) (is_eq (row_major (place_of grid t) (place_of grid p))) h)
    cases p small false h =
        ap (λ (bs : List Bool). get_or bs p false) set ∙ get_or-set_other old t p true false (other_place grid t p h) ∙ marks.each p small
        ∙ sym (now p ∙ or_false (is_target grid (take i targets) p) (is_eq (row_major (place_of grid t) (place_of grid p))) h)

pub no_marks : (grid : Grid) (targets : List ℕ) (marks : List Bool) (n : ℕ) → marks ≡ replicate n false → n ≡ volume grid.lengths.items → AreMarks grid (take 0 targets) marks
no_marks grid targets marks n e same = subst (AreMarks grid []) (sym e) (record {
  long = length-replicate n false ∙ same;
  each = λ p small. unmarked n p;
})
  where
    unmarked : (m p : ℕ) → get_or (replicate m false) p false ≡ false
    unmarked zero p = refl
    unmarked (suc m) zero = refl
    unmarked (suc m) (suc p) = unmarked m p

pub all_marks : (grid : Grid) (targets : List ℕ) (i : ℕ) (marks : List Bool) → length targets ≤ i → AreMarks grid (take i targets) marks → AreMarks grid targets marks
all_marks grid targets i marks l m = subst (λ (ts : List ℕ). AreMarks grid ts marks) (take_all i targets l) m

-- what lands at a place
none_there : (grid : Grid) (targets : List ℕ) (rows : List Row) (p : ℕ) → is_target grid targets p ≡ false → landed_at (landed_there grid targets rows) (place_of grid p) ≡ []
none_there grid [] rows p e = refl
none_there grid (t ∷ targets) [] p e = refl
none_there grid (t ∷ targets) (row ∷ rows) p e = cases (is_eq (row_major (place_of grid t) (place_of grid p))) refl e (none_there grid targets rows p)
  where
    cases : (b : Bool) → is_eq (row_major (place_of grid t) (place_of grid p)) ≡ b → (b || is_target grid targets p) ≡ false
        → (is_target grid targets p ≡ false → landed_at (landed_there grid targets rows) (place_of grid p) ≡ [])
        → landed_at ((place_of grid t, row) ∷ landed_there grid targets rows) (place_of grid p) ≡ []
    cases true h f ih = absurd (cc (f))
    cases false h f ih =
        ap (λ (b : Bool). map (λ (l : Landed). l.1) (cond b ((place_of grid t, row) ∷ filter (λ (l : Landed). is_eq (row_major l.0 (place_of grid p))) (landed_there grid targets rows)) (filter (λ (l : Landed). is_eq (row_major l.0 (place_of grid p))) (landed_there grid targets rows)))) h
        ∙ ih f

some_there : (grid : Grid) (targets : List ℕ) (rows : List Row) (p : ℕ) → length targets ≡ length rows → is_target grid targets p ≡ true → 0 < length (landed_at (landed_there grid targets rows) (place_of grid p))
some_there grid [] rows p m e = absurd (cc (e))
some_there grid (t ∷ targets) [] p m e = absurd (omega (arith, m))
some_there grid (t ∷ targets) (row ∷ rows) p m e = cases (is_eq (row_major (place_of grid t) (place_of grid p))) refl e (some_there grid targets rows p (omega (arith, m)))
  where
    there : Bool → List Row
    there b = map (λ (l : Landed). l.1) (cond b ((place_of grid t, row) ∷ filter (λ (l : Landed). is_eq (row_major l.0 (place_of grid p))) (landed_there grid targets rows)) (filter (λ (l : Landed). is_eq (row_major l.0 (place_of grid p))) (landed_there grid targets rows)))

    cases : (b : Bool) → is_eq (row_major (place_of grid t) (place_of grid p)) ≡ b → (b || is_target grid targets p) ≡ true
        → (is_target grid targets p ≡ true → 0 < length (landed_at (landed_there grid targets rows) (place_of grid p)))
        → 0 < length (there (is_eq (row_major (place_of grid t) (place_of grid p))))
    cases true h f ih = subst (λ (b : Bool). 0 < length (there b)) (sym h) (omega arith)
    cases false h f ih = subst (λ (b : Bool). 0 < length (there b)) (sym h) (ih f)

-- ---- how many cells

later : (x p : ℕ) → nat_lt x p ≡ true → nat_lt x (p + 1) ≡ false → ⊥
later x p e f = grind (arith, e, f)

itself : (p : ℕ) → nat_lt p p ≡ false
itself p = grind arith

next : (p : ℕ) → nat_lt p (p + 1) ≡ true
next p = grind arith

pub more_below : (grid : Grid) (targets : List ℕ) (rows : List Row) (p : ℕ) → IsGrid grid → AllByRecursion (λ t. t < volume grid.lengths.items) targets → p < volume grid.lengths.items
    → count_below p targets + length (landed_at (landed_there grid targets rows) (place_of grid p)) ≤ count_below (p + 1) targets
more_below grid [] rows p is below small = omega arith
more_below grid (t ∷ targets) [] p is below small = none_more (t ∷ targets)
  where
    none_more : (ts : List ℕ) → count_below p ts + 0 ≤ count_below (p + 1) ts
    none_more [] = omega arith
    none_more (x ∷ ts) = cases (nat_lt x p) (nat_lt x (p + 1)) refl refl (none_more ts)
      where
        cases : (a b : Bool) → nat_lt x p ≡ a → nat_lt x (p + 1) ≡ b → count_below p ts + 0 ≤ count_below (p + 1) ts
            → length (cond a (x ∷ filter (λ t. nat_lt t p) ts) (filter (λ t. nat_lt t p) ts)) + 0 ≤ length (cond b (x ∷ filter (λ t. nat_lt t (p + 1)) ts) (filter (λ t. nat_lt t (p + 1)) ts))
        cases true true e f ih = omega (arith, ih)
        cases true false e f ih = absurd (later x p e f)
        cases false true e f ih = omega (arith, ih)
        cases false false e f ih = ih
more_below grid (t ∷ targets) (row ∷ rows) p is below small =
    cases (is_eq (row_major (place_of grid t) (place_of grid p))) refl (nat_lt t p) (nat_lt t (p + 1)) refl refl (more_below grid targets rows p is below.1 small)
  where
    there : Bool → List Row
    there b = map (λ (l : Landed). l.1) (cond b ((place_of grid t, row) ∷ filter (λ (l : Landed). is_eq (row_major l.0 (place_of grid p))) (landed_there grid targets rows)) (filter (λ (l : Landed). is_eq (row_major l.0 (place_of grid p))) (landed_there grid targets rows)))

    counted : ℕ → Bool → ℕ
    counted n b = length (cond b (t ∷ filter (λ x. nat_lt x n) targets) (filter (λ x. nat_lt x n) targets))

    cases : (m : Bool) → is_eq (row_major (place_of grid t) (place_of grid p)) ≡ m → (a b : Bool) → nat_lt t p ≡ a → nat_lt t (p + 1) ≡ b
        → count_below p targets + length (landed_at (landed_there grid targets rows) (place_of grid p)) ≤ count_below (p + 1) targets
        → counted p a + length (there (is_eq (row_major (place_of grid t) (place_of grid p)))) ≤ counted (p + 1) b
    cases true h a b e f ih =
        let same = same_place grid t p is below.0 small h in
        let not_before : a ≡ false = sym e ∙ ap (λ (n : ℕ). nat_lt n p) same ∙ itself p in
        let counts : b ≡ true = sym f ∙ ap (λ (n : ℕ). nat_lt n (p + 1)) same ∙ next p in
        subst (λ (x : Bool). counted p x + length (there (is_eq (row_major (place_of grid t) (place_of grid p)))) ≤ counted (p + 1) b) (sym not_before)
        (subst (λ (x : Bool). counted p false + length (there (is_eq (row_major (place_of grid t) (place_of grid p)))) ≤ counted (p + 1) x) (sym counts)
        (subst (λ (x : Bool). counted p false + length (there x) ≤ counted (p + 1) true) (sym h) (omega (arith, ih))))
    cases false h true true e f ih = subst (λ (x : Bool). counted p true + length (there x) ≤ counted (p + 1) true) (sym h) (omega (arith, ih))
    cases false h true false e f ih = absurd (later t p e f)
    cases false h false true e f ih = subst (λ (x : Bool). counted p false + length (there x) ≤ counted (p + 1) true) (sym h) (omega (arith, ih))
    cases false h false false e f ih = subst (λ (x : Bool). counted p false + length (there x) ≤ counted (p + 1) false) (sym h) ih

few_below : (p : ℕ) (targets : List ℕ) → count_below p targets ≤ length targets
few_below p [] = omega arith
few_below p (t ∷ targets) = cases (nat_lt t p) (few_below p targets)
  where
    cases : (b : Bool) → count_below p targets ≤ length targets → length (cond b (t ∷ filter (λ x. nat_lt x p) targets) (filter (λ x. nat_lt x p) targets)) ≤ suc (length targets)
    cases true ih = omega (arith, ih)
    cases false ih = omega (arith, ih)

-- ---- a group more

all_push : {A : Type 0} (P : A → Type 0) (xs : List A) (x : A) → AllByRecursion P xs → P x → AllByRecursion P (xs ++ x ∷ [])
all_push P [] x h p = (p, tt)
all_push P (y ∷ xs) x h p = (h.0, all_push P xs x h.1 p)

order_push : (groups : List Group) (group : Group) (c : Coordinate) → group.at.items ≡ c → AreInOrder groups → AllByRecursion (λ x. row_major x.at.items c ≡ Less) groups → AreInOrder (groups ++ group ∷ [])
order_push [] group c e o b = (tt, tt)
order_push (x ∷ groups) group c e o b =
    (all_push (λ (y : Group). row_major x.at.items y.at.items ≡ Less) groups group o.0 (ap (row_major x.at.items) e ∙ b.0), order_push groups group c e o.1 b.1)

at_other : (groups : List Group) (group : Group) (c : Coordinate) → is_eq (row_major group.at.items c) ≡ false → states_at (groups ++ group ∷ []) c ≡ states_at groups c
at_other [] group c e = ap (λ (b : Bool). cond b (Some group.states) None) e
at_other (x ∷ groups) group c e = ap (λ (o : Option (List Summary)). cond (is_eq (row_major x.at.items c)) (Some x.states) o) (at_other groups group c e)

at_last : (groups : List Group) (group : Group) (c : Coordinate) → is_eq (row_major group.at.items c) ≡ true → AllByRecursion (λ x. row_major x.at.items c ≡ Less) groups → states_at (groups ++ group ∷ []) c ≡ Some group.states
at_last [] group c e b = ap (λ (t : Bool). cond t (Some group.states) None) e
at_last (x ∷ groups) group c e b =
    ap (λ (t : Bool). cond t (Some x.states) (states_at (groups ++ group ∷ []) c)) (ap is_eq b.0) ∙ at_last groups group c e b.1

none_at : (groups : List Group) (c : Coordinate) → AllByRecursion (λ x. row_major x.at.items c ≡ Less) groups → states_at groups c ≡ None
none_at [] c b = refl
none_at (x ∷ groups) c b = ap (λ (t : Bool). cond t (Some x.states) (states_at groups c)) (ap is_eq b.0) ∙ none_at groups c b.1

cells_push : (groups : List Group) (group : Group) → cells_in (groups ++ group ∷ []) ≡ cells_in groups + cells_of group.states
cells_push [] group = omega arith
cells_push (x ∷ groups) group = let rest = cells_push groups group in omega (arith, rest)

set_some : (gs : List Aggregate) (rows : List Row) (states : List Summary) → 0 < length rows → IsRising rows → AreStatesOf gs rows states → IsGroupOf gs (unless_empty rows) (Some states)
set_some gs [] states l r h = absurd (omega (arith, l))
set_some gs (row ∷ rows) states l r h = (r, h)

before_or_here : (q p : ℕ) → q < p + 1 → (q < p) ⊎ (q ≡ p)
before_or_here zero zero l = inr refl
before_or_here zero (suc p) l = inl (omega arith)
before_or_here (suc q) zero l = absurd (omega (arith, l))
before_or_here (suc q) (suc p) l = cases (before_or_here q p (omega (arith, l)))
  where
    cases : (q < p) ⊎ (q ≡ p) → (suc q < suc p) ⊎ (suc q ≡ suc p)
    cases (inl m) = inl (omega (arith, m))
    cases (inr e) = inr (ap suc e)

module _ (gs : List Aggregate) (grid : Grid) (targets : List ℕ) (rows : List Row) (p : ℕ) (old : List Group) (is : IsGrid grid) (small : p < volume grid.lengths.items) (below : AllByRecursion (λ t. t < volume grid.lengths.items) targets)
    (rise : IsRising rows) (upto : AreGroupsUpTo gs grid targets rows p old) where
  abbrev here_rows : List Row
  here_rows = landed_at (landed_there grid targets rows) (place_of grid p)

  pub here_rise : IsRising here_rows
  here_rise = at_rises (landed_there grid targets rows) (place_of grid p) (there_rises grid targets rows rise)

  pub group_pushed : (group : Group) (new : List Group) → group.at.items ≡ place_of grid p → length targets ≡ length rows → is_target grid targets p ≡ true → AreStatesOf gs here_rows group.states → new ≡ old ++ group ∷ []
      → AreGroupsUpTo gs grid targets rows (p + 1) new
  group_pushed group new at many marked states e = subst (AreGroupsUpTo gs grid targets rows (p + 1)) (sym e) (record {
    in_order = order_push old group (place_of grid p) at upto.in_order (upto.behind p (omega arith) small);
    behind = λ q l m. all_push (λ (x : Group). row_major x.at.items (place_of grid q) ≡ Less) old group (upto.behind q (omega (arith, l)) m)
        (ap (λ (c : Coordinate). row_major c (place_of grid q)) at ∙ coordinate_rises grid.low.items grid.lengths.items p q is.lengths is.each (omega (arith, l)) m);
    there = λ q l. cases q (before_or_here q p l);
    nowhere = λ c none. at_other old group c (apart c (none p (omega arith))) ∙ upto.nowhere c (λ q l. none q (omega (arith, l)));
    cells =
        let pushed = cells_push old group in
        let own = states_count gs here_rows group.states states in
        let more = more_below grid targets rows p is below small in
        let before = upto.cells in
        omega (arith, pushed, own, more, before);
  })
    where
      here : is_eq (row_major group.at.items (place_of grid p)) ≡ true
      here = ap (λ (c : Coordinate). is_eq (row_major c (place_of grid p))) at ∙ ap is_eq (same_coordinate (place_of grid p))

      apart : (c : Coordinate) → (place_of grid p ≡ c → ⊥) → is_eq (row_major group.at.items c) ≡ false
      apart c differ = decide (is_eq (row_major group.at.items c)) refl
        where
          decide : (b : Bool) → is_eq (row_major group.at.items c) ≡ b → is_eq (row_major group.at.items c) ≡ false
          decide false h = h
          decide true h = absurd (differ (sym at ∙ same_key group.at.items c h))

      cases : (q : ℕ) → (q < p) ⊎ (q ≡ p) → IsGroupOf gs (landed_sets (landed_there grid targets rows) (place_of grid q)) (states_at (old ++ group ∷ []) (place_of grid q))
      cases q (inl l) =
          subst (IsGroupOf gs (landed_sets (landed_there grid targets rows) (place_of grid q)))
          (sym (at_other old group (place_of grid q) (apart (place_of grid q) (λ same. no_two (same_place grid p q is small (omega (arith, l, small)) (ap (λ (c : Coordinate). is_eq (row_major (place_of grid p) c)) (sym same) ∙ ap is_eq (same_coordinate (place_of grid p))))))))
          (upto.there q l)
        where
          no_two : p ≡ q → ⊥
          no_two same = omega (arith, l, same)
      cases q (inr same) =
          subst (λ (n : ℕ). IsGroupOf gs (landed_sets (landed_there grid targets rows) (place_of grid n)) (states_at (old ++ group ∷ []) (place_of grid n))) (sym same)
          (subst (IsGroupOf gs (unless_empty here_rows)) (sym (at_last old group (place_of grid p) here (upto.behind p (omega arith) small)))
          (set_some gs here_rows group.states (some_there grid targets rows p many marked) here_rise states))

  pub group_passed : is_target grid targets p ≡ false → AreGroupsUpTo gs grid targets rows (p + 1) old
  group_passed marked = record {
    in_order = upto.in_order;
    behind = λ q l m. upto.behind q (omega (arith, l)) m;
    there = λ q l. cases q (before_or_here q p l);
    nowhere = λ c none. upto.nowhere c (λ q l. none q (omega (arith, l)));
    cells =
        let more = more_below grid targets rows p is below small in
        let before = upto.cells in
        omega (arith, more, before);
  }
    where
      cases : (q : ℕ) → (q < p) ⊎ (q ≡ p) → IsGroupOf gs (landed_sets (landed_there grid targets rows) (place_of grid q)) (states_at old (place_of grid q))
      cases q (inl l) = upto.there q l
      cases q (inr same) =
          subst (λ (n : ℕ). IsGroupOf gs (landed_sets (landed_there grid targets rows) (place_of grid n)) (states_at old (place_of grid n))) (sym same)
          (subst (λ (rs : List Row). IsGroupOf gs (unless_empty rs) (states_at old (place_of grid p))) (sym (none_there grid targets rows p marked))
          (subst (IsGroupOf gs None) (sym (none_at old (place_of grid p) (upto.behind p (omega arith) small))) tt))

-- ---- all groups

pub all_places : (grid : Grid) (count p : ℕ) → count ≡ volume grid.lengths.items → count ≤ p → p ≤ volume grid.lengths.items → volume grid.lengths.items ≡ p
all_places grid count p e l m = omega (arith, e, l, m)

pub none_yet : (gs : List Aggregate) (grid : Grid) (targets : List ℕ) (rows : List Row) (groups : List Group) → groups ≡ [] → AreGroupsUpTo gs grid targets rows 0 groups
none_yet gs grid targets rows groups e = subst (AreGroupsUpTo gs grid targets rows 0) (sym e) (record {
  in_order = tt;
  behind = λ q l m. tt;
  there = λ q l. absurd (omega (arith, l));
  nowhere = λ c none. refl;
  cells = omega arith;
})

module _ (gs : List Aggregate) (grid : Grid) (targets : List ℕ) (rows : List Row) (p : ℕ) (groups : List Group) (is : IsGrid grid) (below : AllByRecursion (λ t. t < volume grid.lengths.items) targets)
    (all : volume grid.lengths.items ≡ p) (upto : AreGroupsUpTo gs grid targets rows p groups) where
  outside : (c : Coordinate) → is_in_grid grid.low.items grid.lengths.items c ≡ false → (q : ℕ) → q < volume grid.lengths.items → place_of grid q ≡ c → ⊥
  outside c e q l same =
      let clash : true ≡ false = sym (coordinate_in_grid grid.low.items grid.lengths.items q is.lengths is.each l) ∙ ap (is_in_grid grid.low.items grid.lengths.items) same ∙ e in
      cc (clash)

  none_lands : (c : Coordinate) → is_in_grid grid.low.items grid.lengths.items c ≡ false → (ts : List ℕ) (rs : List Row) → AllByRecursion (λ t. t < volume grid.lengths.items) ts → landed_at (landed_there grid ts rs) c ≡ []
  none_lands c e [] rs b = refl
  none_lands c e (t ∷ ts) [] b = refl
  none_lands c e (t ∷ ts) (row ∷ rs) b =
      ap (λ (x : Bool). map (λ (l : Landed). l.1) (cond x ((place_of grid t, row) ∷ filter (λ (l : Landed). is_eq (row_major l.0 c)) (landed_there grid ts rs)) (filter (λ (l : Landed). is_eq (row_major l.0 c)) (landed_there grid ts rs))))
      (decide (is_eq (row_major (place_of grid t) c)) refl)
      ∙ none_lands c e ts rs b.1
    where
      decide : (x : Bool) → is_eq (row_major (place_of grid t) c) ≡ x → is_eq (row_major (place_of grid t) c) ≡ false
      decide false h = h
      decide true h = absurd (outside c e t b.0 (same_key (place_of grid t) c h))

  pub all_groups : AreGroupsOf gs (landed_sets (landed_there grid targets rows)) groups
  all_groups = record {
    in_order = upto.in_order;
    each = λ c. cases c (is_in_grid grid.low.items grid.lengths.items c) refl;
  }
    where
      cases : (c : Coordinate) (b : Bool) → is_in_grid grid.low.items grid.lengths.items c ≡ b → IsGroupOf gs (landed_sets (landed_there grid targets rows) c) (states_at groups c)
      cases c true e =
          let small = position_below grid.low.items grid.lengths.items c e in
          subst (λ (d : Coordinate). IsGroupOf gs (landed_sets (landed_there grid targets rows) d) (states_at groups d)) (coordinate_again grid.low.items grid.lengths.items c e)
          (upto.there (position_in grid.low.items grid.lengths.items c) (omega (arith, small, all)))
      cases c false e =
          subst (λ (rs : List Row). IsGroupOf gs (unless_empty rs) (states_at groups c)) (sym (none_lands c e targets rows below))
          (subst (IsGroupOf gs None) (sym (upto.nowhere c (λ q l same. outside c e q (omega (arith, l, all)) same))) tt)

  pub few_cells : length targets ≡ length rows → cells_in groups ≤ length rows
  few_cells many =
      let counted = upto.cells in
      let less = few_below p targets in
      omega (arith, counted, less, many)

-- ---- the states of all aggregates at a place

pub next_states_at : (gs : List Aggregate) (grid : Grid) (all : List Landed) (p : ℕ) (columns : List (List Summary)) (k : ℕ) (column : List Summary) (s : Summary) (states new : List Summary) → p < volume grid.lengths.items
    → AllZip (λ g states. IsColumn g grid all states) gs columns → k < length columns → column ≡ get_or columns k column → s ≡ get_or column p no_cells
    → AllZip (λ g state. StandsFor g (landed_at all (place_of grid p)) state) (take k gs) states → new ≡ states ++ s ∷ [] → AllZip (λ g state. StandsFor g (landed_at all (place_of grid p)) state) (take (k + 1) gs) new
next_states_at gs grid all p columns k column s states new small zip l e is before n =
    subst (λ (m : ℕ). AllZip (λ g state. StandsFor g (landed_at all (place_of grid p)) state) (take m gs) new) (sym (add-one k))
    (subst (AllZip (λ g state. StandsFor g (landed_at all (place_of grid p)) state) (take (suc k) gs)) (sym n) (further gs columns k states zip l e before))
  where
    further : (hs : List Aggregate) (cs : List (List Summary)) (i : ℕ) (ss : List Summary) → AllZip (λ g states. IsColumn g grid all states) hs cs → i < length cs → column ≡ get_or cs i column
        → AllZip (λ g state. StandsFor g (landed_at all (place_of grid p)) state) (take i hs) ss → AllZip (λ g state. StandsFor g (landed_at all (place_of grid p)) state) (take (suc i) hs) (ss ++ s ∷ [])
    further [] [] i ss z a f b = absurd (omega (arith, a))
    further [] (c ∷ cs) i ss z a f b = absurd z
    further (h ∷ hs) [] i ss z a f b = absurd z
    further (h ∷ hs) (c ∷ cs) zero [] z a f b = (subst (StandsFor h (landed_at all (place_of grid p))) (ap (λ (xs : List Summary). get_or xs p no_cells) (sym f) ∙ sym is) (z.0.each p small), tt)
    further (h ∷ hs) (c ∷ cs) zero (x ∷ ss) z a f b = absurd b
    further (h ∷ hs) (c ∷ cs) (suc i) [] z a f b = absurd b
    further (h ∷ hs) (c ∷ cs) (suc i) (x ∷ ss) z a f b = (b.0, further hs cs i ss z.1 (omega (arith, a)) f b.1)

pub all_states_at : (gs : List Aggregate) (grid : Grid) (all : List Landed) (p : ℕ) (columns : List (List Summary)) (k : ℕ) (states : List Summary) → AllZip (λ g states. IsColumn g grid all states) gs columns → length columns ≤ k
    → AllZip (λ g state. StandsFor g (landed_at all (place_of grid p)) state) (take k gs) states → AreStatesOf gs (landed_at all (place_of grid p)) states
all_states_at gs grid all p columns k states zip l h =
    let many = AllZip-long (λ g states. IsColumn g grid all states) gs columns zip in
    subst (λ (hs : List Aggregate). AllZip (λ g state. StandsFor g (landed_at all (place_of grid p)) state) hs states) (take_all k gs (omega (arith, many, l))) h

pub columns_long : (gs : List Aggregate) (grid : Grid) (all : List Landed) (columns : List (List Summary)) → AllZip (λ g states. IsColumn g grid all states) gs columns
    → AllByRecursion (λ states. length states ≡ volume grid.lengths.items) columns
columns_long [] grid all [] z = tt
columns_long [] grid all (c ∷ columns) z = absurd z
columns_long (g ∷ gs) grid all [] z = absurd z
columns_long (g ∷ gs) grid all (c ∷ columns) z = (z.0.long, columns_long gs grid all columns z.1)
