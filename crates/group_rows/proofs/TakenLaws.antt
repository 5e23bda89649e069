-- The states of groups, which take one run of cells after the other.
use Rattle.std.proofs.Common.{◌≡◌, ℕ, zero, suc, ◌+◌, ◌<◌, ◌≤◌, ◌^◌, ℤ, max, Bool, true, false, cond, List, [], ◌∷◌, ◌++◌, map, length, get_or, take, drop, Option, Some, None, refl, sym, ap, ◌∙◌, subst, add-one, append_assoc, length-append, arith}
use Rattle.std.proofs.lemmas.List.{append-nil, drop-take, take-append-drop, take-take, take_all, take_more}
use Rattle.std.proofs.lemmas.List.Elements.{filter-append}
use Rattle.std.specs.BTreeMap as tree
use Rattle.std.specs.BTreeMap.{BTreeMap, Updates, IsOrdered, insert_entry, is_at}
use Rattle.std.specs.List.{AllByRecursion, AllZip, list_all}
use Rattle.std.specs.List.Sorted.{IsStrictlySortedBy}
use Rattle.std.specs.Map.{lookup, set_value, keys_of}
use Rattle.std.specs.Option.{IsSome, is_some}
use Rattle.std.specs.Ordering.{is_eq, match_ordering, ordering_reverse}
use Rattle.std.specs.declared.cmp.Ordering.{Ordering}
use Rattle.std.specs.declared.cmp.Ordering.TheVariants.{Less, Equal, Greater}
use Rattle.arrayvec.specs.ArrayVec.{ArrayVec}
use Rattle.cell_values.specs.declared.datum.Row.{Row}
use Rattle.array_rows.specs.Rows.{Coordinate, row_major, IsRising, cell_at, placed, put_row}
use Rattle.array_rows.proofs.RowsLemmas.{row_major_exact, row_major_total, same_coordinate}
use Rattle.array_geom.proofs.TestLaws.{and_both, and_parts}
use Rattle.logical_plan.specs.declared.parts.Aggregate.{Aggregate}
use Rattle.logical_plan.specs.Groups.{group_at}
use Rattle.agg_states.specs.Stands.{StandsFor}
use Rattle.agg_states.specs.Inner.Summary.{Summary}
use Rattle.group_rows.specs.declared.rows.groups.Group.{Group}
use Rattle.group_rows.specs.Counts.{cells_of, cells_in}
use Rattle.group_rows.specs.Grouped.{AreGroupsOf, AreInOrder, AreStatesOf, ComesBefore, IsGroupOf, states_at}
use Rattle.group_rows.specs.Sets.{AreKeys, Sets, are_at, sets_by, unless_empty}
use Rattle.group_rows.specs.Taken.{KeepsGroups, by_coordinate, cells_kept, group_of, rows_of, sets_with}
use Rattle.group_rows.proofs.FormLaws.{all_in, group_rises, keys_taken, only_group}
use Rattle.group_rows.proofs.RowLemmas.{put_last, free_last, rising_left}
use Rattle.group_rows.proofs.StateLaws.{cells_push, zip_push}

-- ---- the state of one aggregate

module _ (g : Aggregate) (rows : List Row) (first : Summary) where
  -- for the rows that it stood for, and these behind them
  abbrev pub StandsAlso : ℕ → Summary → Type 0
  StandsAlso i state = (before : List Row) → StandsFor g before first → IsRising (before ++ rows) → StandsFor g (before ++ take i rows) state

  pub none_also : StandsAlso 0 first
  none_also before stands rise = subst (λ (some : List Row). StandsFor g some first) (sym (append-nil before)) stands

  pub one_also : (i : ℕ) (row : Row) (s t : Summary) → i < length rows → row ≡ get_or rows i row → StandsAlso i s
      → ((h : Aggregate) (some : List Row) → StandsFor h some s → h.attribute ≡ g.attribute → cell_at some row.at.items ≡ None → StandsFor h (put_row (placed row.at.items row.cell) some) t)
      → StandsAlso (i + 1) t
  one_also i row s t l e also takes before stands rise =
      let more : take (i + 1) rows ≡ take i rows ++ row ∷ [] = take_more rows i row l ∙ ap (λ (x : Row). take i rows ++ x ∷ []) (sym e) in
      let joined : before ++ take (i + 1) rows ≡ (before ++ take i rows) ++ row ∷ [] = ap (λ (zs : List Row). before ++ zs) more ∙ sym (append_assoc before (take i rows) (row ∷ [])) in
      let whole : before ++ rows ≡ (before ++ take (i + 1) rows) ++ drop (i + 1) rows =
      ap (λ (zs : List Row). before ++ zs) (sym (take-append-drop (i + 1) rows)) ∙ sym (append_assoc before (take (i + 1) rows) (drop (i + 1) rows)) in
      let next : IsRising ((before ++ take i rows) ++ row ∷ []) = subst IsRising joined (rising_left (before ++ take (i + 1) rows) (drop (i + 1) rows) (subst IsRising whole rise)) in
      subst (λ (some : List Row). StandsFor g some t) (put_last (before ++ take i rows) row next ∙ sym joined)
      (takes g (before ++ take i rows) (also before stands rise) refl (free_last (before ++ take i rows) row next))

  pub all_also : (i : ℕ) (state : Summary) → length rows ≤ i → StandsAlso i state → (before : List Row) → StandsFor g before first → IsRising (before ++ rows) → StandsFor g (before ++ rows) state
  all_also i state l also before stands rise = subst (λ (zs : List Row). StandsFor g (before ++ zs) state) (take_all i rows l) (also before stands rise)

-- ---- the states of one coordinate

zip_last : {A B : Type 0} (R : A → B → Type 0) (xs : List A) (ys : List B) (x : A) (y : B) → AllZip R (xs ++ x ∷ []) (ys ++ y ∷ []) → AllZip R xs ys × R x y
zip_last R [] [] x y h = (tt, h.0)
zip_last R [] (b ∷ []) x y h = absurd h.1
zip_last R [] (b ∷ c ∷ ys) x y h = absurd h.1
zip_last R (a ∷ []) [] x y h = absurd h.1
zip_last R (a ∷ c ∷ xs) [] x y h = absurd h.1
zip_last R (a ∷ xs) (b ∷ ys) x y h = let rest = zip_last R xs ys x y h.1 in ((h.0, rest.0), rest.1)

none_without : (rows : List Row) (gs : List Aggregate) (states : List Summary) → gs ≡ [] → states ≡ [] → AreStatesOf gs rows states
none_without rows gs states g s = subst (λ (hs : List Aggregate). AreStatesOf hs rows states) (sym g) (subst (AreStatesOf [] rows) (sym s) tt)

-- no aggregate has states of its own, nor does a state come without an aggregate
no_states : (gs : List Aggregate) (rows : List Row) (states : List Summary) → states ≡ [] → AreStatesOf gs rows states → gs ≡ []
no_states [] rows states e h = refl
no_states (g ∷ gs) rows [] e h = absurd h
no_states (g ∷ gs) rows (s ∷ states) e h = absurd cc

pub states_left_out : (gs : List Aggregate) (rows more : List Row) (states left : List Summary) → states ≡ [] → left ≡ [] → AreStatesOf gs rows states → AreStatesOf gs more left
states_left_out gs rows more states left e f h = none_without more gs left (no_states gs rows states e h) f

pub no_aggregate : (gs : List Aggregate) (rows more : List Row) (states left : List Summary) (s : Summary) → length gs ≡ 0 → states ≡ left ++ s ∷ []
    → AreStatesOf gs rows states → AreStatesOf gs more left
no_aggregate (g ∷ gs) rows more states left s less e h = absurd (omega (arith, less))
no_aggregate [] rows more [] left s less e h = absurd (omega (arith, ap length e, length-append left (s ∷ [])))
no_aggregate [] rows more (t ∷ states) left s less e h = absurd h

pub states_more : (rows more : List Row) (gs before : List Aggregate) (g : Aggregate) (states left new taken : List Summary) (s t : Summary) → gs ≡ before ++ g ∷ [] → states ≡ left ++ s ∷ [] → new ≡ taken ++ t ∷ []
    → (AreStatesOf before rows left → AreStatesOf before more taken) → (StandsFor g rows s → StandsFor g more t) → AreStatesOf gs rows states → AreStatesOf gs more new
states_more rows more gs before g states left new taken s t eg es en each last h =
    let parts = zip_last (λ h state. StandsFor h rows state) before left g s (subst (λ (hs : List Aggregate). AreStatesOf hs rows (left ++ s ∷ [])) eg (subst (AreStatesOf gs rows) es h)) in
    subst (λ (hs : List Aggregate). AreStatesOf hs more new) (sym eg) (subst (AreStatesOf (before ++ g ∷ []) more) (sym en) (zip_push (λ h state. StandsFor h more state) before taken g t (each parts.0) (last parts.1)))

pub cells_more : (n : ℕ) (states left new taken : List Summary) (s t : Summary) → states ≡ left ++ s ∷ [] → new ≡ taken ++ t ∷ [] → cells_of taken ≤ cells_of left + n → t.cells ≡ s.cells + n → cells_of new ≤ cells_of states + n
cells_more n states left new taken s t es en l e =
    let a : cells_of states ≡ max (cells_of left) s.cells = ap cells_of es ∙ cells_push left s in
    let b : cells_of new ≡ max (cells_of taken) t.cells = ap cells_of en ∙ cells_push taken t in
    omega (arith, a, b, l, e)

pub room_for : (n : ℕ) (states left : List Summary) (s : Summary) → states ≡ left ++ s ∷ [] → cells_of states + n < 2 ^ 63 → (cells_of left + n < 2 ^ 63) × (s.cells + n < 2 ^ 63)
room_for n states left s e room =
    let a : cells_of states ≡ max (cells_of left) s.cells = ap cells_of e ∙ cells_push left s in
    (omega (arith, a, room), omega (arith, a, room))

pub cells_fewer : (n : ℕ) (states left : List Summary) (s : Summary) → states ≡ left ++ s ∷ [] → cells_of left ≤ cells_of states + n
cells_fewer n states left s e =
    let a : cells_of states ≡ max (cells_of left) s.cells = ap cells_of e ∙ cells_push left s in
    omega (arith, a)

-- ---- the states of all coordinates

module _ (gs : List Aggregate) (sets : Sets) (at : ArrayVec ℤ) (rows : List Row) (rise : IsRising (rows_of (sets at.items) ++ rows)) (old new : BTreeMap (ArrayVec ℤ) (List Summary))
    (keeps : KeepsGroups gs sets old) (states more : List Summary) (u : Updates by_coordinate old new at (Some more))
    (takes : (before : List Row) → AreStatesOf gs before states → IsRising (before ++ rows) → AreStatesOf gs (before ++ rows) more) where
  some_set : (o : Option (List Row)) → IsGroupOf gs o (Some states) → AreStatesOf gs (rows_of o) states
  some_set None h = absurd h
  some_set (Some some) h = h.1

  no_set : (o : Option (List Row)) → IsGroupOf gs o None → rows_of o ≡ []
  no_set None h = refl
  no_set (Some some) h = absurd h

  each_key : AreStatesOf gs (rows_of (sets at.items)) states → KeepsGroups gs (sets_with at.items rows sets) new
  each_key stand key = subst (IsGroupOf gs (sets_with at.items rows sets key.items)) (sym (u.0 key)) (cases (row_major at.items key.items) refl)
    where
      cases : (o : Ordering) → row_major at.items key.items ≡ o
          → IsGroupOf gs (cond (is_eq o) (Some (rows_of (sets key.items) ++ rows)) (sets key.items)) (cond (is_eq o) (Some more) (tree.get by_coordinate old key))
      cases Less e = keeps key
      cases Greater e = keeps key
      cases Equal e =
          subst (λ (c : Coordinate). IsGroupOf gs (Some (rows_of (sets c) ++ rows)) (Some more)) (row_major_exact at.items key.items e)
          (rise, takes (rows_of (sets at.items)) stand rise)

  pub states_found : Some states ≡ tree.get by_coordinate old at → KeepsGroups gs (sets_with at.items rows sets) new
  states_found e = each_key (some_set (sets at.items) (subst (IsGroupOf gs (sets at.items)) (sym e) (keeps at)))

  pub states_first : None ≡ tree.get by_coordinate old at → AreStatesOf gs [] states → KeepsGroups gs (sets_with at.items rows sets) new
  states_first e h =
      each_key (subst (λ (some : List Row). AreStatesOf gs some states) (sym (no_set (sets at.items) (subst (IsGroupOf gs (sets at.items)) (sym e) (keeps at)))) h)

pub same_kept : (gs : List Aggregate) (sets other : Sets) (groups : BTreeMap (ArrayVec ℤ) (List Summary)) → ((c : Coordinate) → sets c ≡ other c) → KeepsGroups gs sets groups → KeepsGroups gs other groups
same_kept gs sets other groups e keeps key = subst (λ (o : Option (List Row)). IsGroupOf gs o (tree.get by_coordinate groups key)) (e key.items) (keeps key)

pub none_kept : (gs : List Aggregate) (group : Coordinate → Coordinate) (groups : BTreeMap (ArrayVec ℤ) (List Summary)) → groups.entries ≡ [] → KeepsGroups gs (sets_by group []) groups
none_kept gs group groups e key = subst (λ (es : List (ArrayVec ℤ × List Summary)). IsGroupOf gs None (lookup (is_at (by_coordinate key)) es)) (sym e) tt

-- ---- how many cells

pub kept_insert : (es : List (ArrayVec ℤ × List Summary)) (k : ArrayVec ℤ) (v : List Summary) → cells_kept (insert_entry by_coordinate es k v) ≤ cells_kept es + cells_of v
kept_insert [] k v = omega arith
kept_insert (e ∷ es) k v = cases (by_coordinate k e.0) (kept_insert es k v)
  where
    cases : (o : Ordering) → cells_kept (insert_entry by_coordinate es k v) ≤ cells_kept es + cells_of v
        → cells_kept (match_ordering o ((k, v) ∷ e ∷ es) ((e.0, v) ∷ es) (e ∷ insert_entry by_coordinate es k v)) ≤ (cells_of e.1 + cells_kept es) + cells_of v
    cases Less ih = omega arith
    cases Equal ih = omega arith
    cases Greater ih = omega (arith, ih)

pub kept_set : (test : ArrayVec ℤ → Bool) (es : List (ArrayVec ℤ × List Summary)) (v w : List Summary) → Some v ≡ lookup test es → cells_kept (set_value test es w) + cells_of v ≡ cells_kept es + cells_of w
kept_set test [] v w l = absurd cc
kept_set test (e ∷ es) v w l = cases (test e.0) l (kept_set test es v w)
  where
    cases : (b : Bool) → Some v ≡ cond b (Some e.1) (lookup test es) → (Some v ≡ lookup test es → cells_kept (set_value test es w) + cells_of v ≡ cells_kept es + cells_of w)
        → cells_kept (cond b ((e.0, w) ∷ es) (e ∷ set_value test es w)) + cells_of v ≡ (cells_of e.1 + cells_kept es) + cells_of w
    cases true l ih = let same : cells_of v ≡ cells_of e.1 = ap cells_of (cc (l)) in omega (arith, same)
    cases false l ih = let rest = ih l in omega (arith, rest)

pub kept_value : (test : ArrayVec ℤ → Bool) (es : List (ArrayVec ℤ × List Summary)) (v : List Summary) → Some v ≡ lookup test es → cells_of v ≤ cells_kept es
kept_value test es v l = let e = kept_set test es v [] l in omega (arith, e)

pub room_at : (n : ℕ) (test : ArrayVec ℤ → Bool) (es : List (ArrayVec ℤ × List Summary)) (v w : List Summary) → Some v ≡ lookup test es → w ≡ v → cells_kept es + n < 2 ^ 63 → cells_of w + n < 2 ^ 63
room_at n test es v w l e room =
    let a = kept_value test es v l in
    let b = ap cells_of e in
    omega (arith, a, b, room)

pub kept_after : (n : ℕ) (test : ArrayVec ℤ → Bool) (es es' : List (ArrayVec ℤ × List Summary)) (v w more : List Summary) → Some v ≡ lookup test es → w ≡ v → es' ≡ set_value test es more → cells_of more ≤ cells_of w + n
    → cells_kept es' ≤ cells_kept es + n
kept_after n test es es' v w more l e f m =
    let a = kept_set test es v more l in
    let b = ap cells_of e in
    let g = ap cells_kept f in
    omega (arith, a, b, g, m)

pub kept_first : (n : ℕ) (es es' : List (ArrayVec ℤ × List Summary)) (k : ArrayVec ℤ) (v w : List Summary) → es' ≡ insert_entry by_coordinate es k v → cells_of v ≤ cells_of w + n → cells_of w ≤ 0 → cells_kept es' ≤ cells_kept es + n
kept_first n es es' k v w f m z =
    let a = kept_insert es k v in
    let g = ap cells_kept f in
    omega (arith, a, g, m, z)

-- ---- the groups in the end

sorted_parts : (R : ArrayVec ℤ → ArrayVec ℤ → Ordering) (k : ArrayVec ℤ) (ks : List (ArrayVec ℤ)) → IsStrictlySortedBy R (k ∷ ks) → AllByRecursion (λ y. R k y ≡ Less) ks × IsStrictlySortedBy R ks
unfolding IsStrictlySortedBy
sorted_parts R k ks h = h

before_all : (k : ArrayVec ℤ) (es : List (ArrayVec ℤ × List Summary)) → AllByRecursion (λ y. by_coordinate k y ≡ Less) (keys_of es) → ComesBefore k.items (map group_of es)
before_all k [] h = tt
before_all k (e ∷ es) h = (h.0, before_all k es h.1)

groups_in_order : (es : List (ArrayVec ℤ × List Summary)) → IsStrictlySortedBy by_coordinate (keys_of es) → AreInOrder (map group_of es)
groups_in_order [] h = tt
groups_in_order (e ∷ es) h =
    let parts = sorted_parts by_coordinate e.0 (keys_of es) h in
    (before_all e.0 es parts.0, groups_in_order es parts.1)

turned_eq : (a b : Coordinate) → is_eq (row_major a b) ≡ is_eq (row_major b a)
turned_eq a b = cases (row_major b a) (row_major_total.antisymm a b)
  where
    cases : (o : Ordering) → row_major a b ≡ ordering_reverse o → is_eq (row_major a b) ≡ is_eq o
    cases Less e = ap is_eq e
    cases Equal e = ap is_eq e
    cases Greater e = ap is_eq e

found_at : (c : Coordinate) (es : List (ArrayVec ℤ × List Summary)) → lookup (is_at (by_coordinate (record { items = c }))) es ≡ states_at (map group_of es) c
found_at c [] = refl
found_at c (e ∷ es) = λ i. cond (turned_eq c e.0.items i) (Some e.1) (found_at c es i)

pub groups_made : (gs : List Aggregate) (sets : Sets) (groups : BTreeMap (ArrayVec ℤ) (List Summary)) (made : List Group) → IsOrdered by_coordinate groups → made ≡ map group_of groups.entries
    → KeepsGroups gs sets groups → AreGroupsOf gs sets made
groups_made gs sets groups made o e keeps = subst (AreGroupsOf gs sets) (sym e) (record {
  in_order = groups_in_order groups.entries o;
  each = λ c. subst (IsGroupOf gs (sets c)) (found_at c groups.entries) (keeps (record { items = c }));
})

kept_made : (es : List (ArrayVec ℤ × List Summary)) → cells_in (map group_of es) ≡ cells_kept es
kept_made [] = refl
kept_made (e ∷ es) = ap (λ (n : ℕ). cells_of e.1 + n) (kept_made es)

pub cells_made : (groups : BTreeMap (ArrayVec ℤ) (List Summary)) (made : List Group) → made ≡ map group_of groups.entries → cells_in made ≡ cells_kept groups.entries
cells_made groups made e = ap cells_in e ∙ kept_made groups.entries

pub none_of : {A : Type 0} (o : Option A) → ((x : A) → o ≡ Some x → ⊥) → o ≡ None
none_of None f = refl
none_of (Some x) f = absurd (f x refl)

pub none_left : {A : Type 0} (o : Option A) (n : ℕ) → ((x : A) → o ≡ Some x → ⊥) → (0 < n → IsSome o) → n ≡ 0
none_left o zero f g = refl
none_left o (suc n) f g =
    let some : is_some o ≡ true = g (omega arith) in
    absurd (let not : is_some o ≡ false = ap is_some (none_of o f) in cc)

pub made_more : (made made' all : List Group) (es es' : List (ArrayVec ℤ × List Summary)) (at : ArrayVec ℤ) (states : List Summary) → made ++ map group_of es ≡ all → es ≡ (at, states) ∷ es'
    → made' ≡ made ++ record { at = at; states = states } ∷ [] → made' ++ map group_of es' ≡ all
made_more made made' all es es' at states e f g =
    ap (λ (some : List Group). some ++ map group_of es') g ∙ append_assoc made (record { at = at; states = states } ∷ []) (map group_of es') ∙ ap (λ (some : List (ArrayVec ℤ × List Summary)). made ++ map group_of some) (sym f) ∙ e

pub made_all : (made all : List Group) (es : List (ArrayVec ℤ × List Summary)) → made ++ map group_of es ≡ all → length es ≡ 0 → made ≡ all
made_all made all [] e f = sym (append-nil made) ∙ e
made_all made all (x ∷ es) e f = absurd (omega (arith, f))

-- ---- runs of cells of one group

pub all_push : {A : Type 0} (p : A → Bool) (xs : List A) (x : A) → list_all p xs ≡ true → p x ≡ true → list_all p (xs ++ x ∷ []) ≡ true
all_push p [] x h k = and_both (p x) true k refl
all_push p (y ∷ xs) x h k =
    let parts = and_parts (p y) (list_all p xs) h in
    and_both (p y) (list_all p (xs ++ x ∷ [])) parts.0 (all_push p xs x parts.1 k)

pub one_more_at : (at : Coordinate) (keys : List (ArrayVec ℤ)) (i : ℕ) (key : ArrayVec ℤ) → i < length keys → key ≡ get_or keys i key → is_eq (row_major key.items at) ≡ true → are_at at (take i keys) ≡ true
    → are_at at (take (i + 1) keys) ≡ true
one_more_at at keys i key l e here before =
    ap (are_at at) (take_more keys i key l ∙ ap (λ (x : ArrayVec ℤ). take i keys ++ x ∷ []) (sym e)) ∙ all_push (λ (k : ArrayVec ℤ). is_eq (row_major k.items at)) (take i keys) key before here

-- the first one, and those behind it that are the same
pub first_at : (key : ArrayVec ℤ) (keys others : List (ArrayVec ℤ)) (n : ℕ) → 0 < length keys → key ≡ get_or keys 0 key → others ≡ drop 1 keys → are_at key.items (take n others) ≡ true → are_at key.items (take (n + 1) keys) ≡ true
first_at key [] others n l e o h = absurd (omega (arith, l))
first_at key (k ∷ keys) others n l e o h =
    subst (λ (m : ℕ). are_at key.items (take m (k ∷ keys)) ≡ true) (sym (add-one n))
    (and_both (is_eq (row_major k.items key.items)) (are_at key.items (take n keys)) (ap (λ (z : ArrayVec ℤ). is_eq (row_major z.items key.items)) (sym e) ∙ ap is_eq (same_coordinate key.items))
    (ap (λ (ks : List (ArrayVec ℤ)). are_at key.items (take n ks)) (sym o) ∙ h))

pub set_rows : (rows : List Row) → rows_of (unless_empty rows) ≡ rows
set_rows [] = refl
set_rows (row ∷ rows) = refl

pub some_rows : (rows run : List Row) → 0 < length run → unless_empty (rows ++ run) ≡ Some (rows_of (unless_empty rows) ++ run)
some_rows [] [] l = absurd (omega (arith, l))
some_rows [] (row ∷ run) l = refl
some_rows (x ∷ rows) run l = refl

-- the cells of a run, behind those before it
module _ (group : Coordinate → Coordinate) (at : Coordinate) (before run : List Row) (l : 0 < length run) (all : AllByRecursion (λ row. group row.at.items ≡ at) run) where
  run_at : (c : Coordinate) → group_at group c (before ++ run) ≡ group_at group c before ++ cond (is_eq (row_major at c)) run []
  run_at c = filter-append (λ (row : Row). is_eq (row_major (group row.at.items) c)) before run ∙ ap (λ (some : List Row). group_at group c before ++ some) (only_group group at c run all)

  pub run_sets : (c : Coordinate) → sets_with at run (sets_by group before) c ≡ sets_by group (before ++ run) c
  run_sets c = sym (ap unless_empty (run_at c) ∙ cases (is_eq (row_major at c)))
    where
      cases : (b : Bool) → unless_empty (group_at group c before ++ cond b run []) ≡ cond b (Some (rows_of (unless_empty (group_at group c before)) ++ run)) (unless_empty (group_at group c before))
      cases true = some_rows (group_at group c before) run l
      cases false = ap unless_empty (append-nil (group_at group c before))

  pub run_rises : IsRising (before ++ run) → IsRising (rows_of (sets_by group before at) ++ run)
  run_rises rise =
      subst IsRising (λ i. sym (set_rows (group_at group at before)) i ++ (only_group group at at run all ∙ ap (λ (o : Ordering). cond (is_eq o) run []) (same_coordinate at)) i) (group_rises group at before run rise)

-- the groups with a run more
pub run_taken : (gs : List Aggregate) (group : Coordinate → Coordinate) (at : ArrayVec ℤ) (keys : List (ArrayVec ℤ)) (before rows run : List Row) (n : ℕ) (old new : BTreeMap (ArrayVec ℤ) (List Summary)) → 0 < length run
    → run ≡ take n rows → are_at at.items (take n keys) ≡ true
    → ((sets : Sets) → KeepsGroups gs sets old → IsRising (rows_of (sets at.items) ++ run) → KeepsGroups gs (sets_with at.items run sets) new)
    → AreKeys group keys rows → IsRising (before ++ rows) → KeepsGroups gs (sets_by group before) old → KeepsGroups gs (sets_by group (before ++ take n rows)) new
run_taken gs group at keys before rows run n old new l e same takes are rise keeps =
    let all : AllByRecursion (λ row. group row.at.items ≡ at.items) run =
    subst (AllByRecursion (λ row. group row.at.items ≡ at.items)) (sym e) (all_in group at.items (take n keys) (take n rows) (keys_taken group n keys rows are) same) in
    let whole : before ++ rows ≡ (before ++ run) ++ drop n rows =
    ap (λ (zs : List Row). before ++ zs) (sym (take-append-drop n rows) ∙ ap (λ (zs : List Row). zs ++ drop n rows) (sym e)) ∙ sym (append_assoc before run (drop n rows)) in
    let next : IsRising (before ++ run) = rising_left (before ++ run) (drop n rows) (subst IsRising whole rise) in
    subst (λ (zs : List Row). KeepsGroups gs (sets_by group (before ++ zs)) new) e
    (same_kept gs (sets_with at.items run (sets_by group before)) (sets_by group (before ++ run)) new (run_sets group at.items before run l all)
    (takes (sets_by group before) keeps (run_rises group at.items before run l all next)))

pub taken_both : (m n : ℕ) (rows rest : List Row) → rest ≡ drop m rows → take m rows ++ take n rest ≡ take (m + n) rows
taken_both m n rows rest e =
    let front : take m (take (m + n) rows) ≡ take m rows = take-take m (m + n) rows (omega arith) in
    let back : drop m (take (m + n) rows) ≡ take n (drop m rows) = drop-take m n rows in
    ap (λ (zs : List Row). take m rows ++ take n zs) e ∙ (λ i. sym front i ++ sym back i) ∙ take-append-drop m (take (m + n) rows)
