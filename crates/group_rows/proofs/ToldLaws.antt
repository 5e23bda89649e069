-- Rows of what groups tell.
use Rattle.std.proofs.Common.{◌≡◌, ℕ, ◌+◌, ◌<◌, ◌≤◌, ◌&&◌, Bool, true, false, cond, IsTrue, List, [], ◌∷◌, ◌++◌, map, length, drop, Option, Some, None, Result, Ok, Err, refl, sym, ap, ◌∙◌, subst, arith, append_assoc}
use Rattle.std.proofs.lemmas.List.{append-nil, length-map}
use Rattle.std.specs.List.{AllByRecursion, AllZip}
use Rattle.std.specs.Prelude.{IfOk}
use Rattle.std.specs.Option.{option_map}
use Rattle.std.specs.Ordering.{is_eq}
use Rattle.std.specs.declared.cmp.Ordering.{Ordering}
use Rattle.std.specs.declared.cmp.Ordering.TheVariants.{Less, Equal, Greater}
use Rattle.cell_values.specs.declared.datum.Cell.{Cell}
use Rattle.cell_values.specs.declared.datum.Cell.TheVariants.{Full, Doubt}
use Rattle.cell_values.specs.declared.datum.Datum.{Datum}
use Rattle.cell_values.specs.declared.datum.Row.{Row}
use Rattle.cell_values.specs.declared.schema.Attribute.{Attribute}
use Rattle.cell_values.specs.declared.schema.Schema.{Schema}
use Rattle.cell_values.specs.Cells.{is_of_kind, IsCellOf}
use Rattle.cell_values.specs.Schemas.{IsValid}
use Rattle.array_rows.specs.Arrays.{AreRowsOf}
use Rattle.array_rows.specs.Boxes.{is_inside, bounds_of}
use Rattle.array_rows.specs.Rows.{Coordinate, row_major, IsBefore, IsRising, cell_at}
use Rattle.array_rows.proofs.RowsLemmas.{row_major_exact, none_at_bound, same_coordinate}
use Rattle.logical_plan.specs.declared.parts.Aggregate.{Aggregate}
use Rattle.logical_plan.specs.Groups.{cells_of, aggregate_of, aggregates_of}
use Rattle.logical_plan.specs.PlanSchema.{aggregate_kind}
use Rattle.logical_plan.specs.Typing.{is_aggregate_of, are_aggregates_of, kinds_of}
use Rattle.agg_states.specs.Inner.Summary.{Summary}
use Rattle.group_rows.specs.declared.rows.groups.Group.{Group}
use Rattle.group_rows.specs.Counts.{cells_of as counted, cells_in}
use Rattle.group_rows.specs.Grouped.{AreStatesOf, ComesBefore, AreInOrder, states_at, IsGroupOf, AreGroupsOf}
use Rattle.group_rows.specs.Sets.{Sets}
use Rattle.group_rows.specs.Inner.Merging.{IsSetFor}
use Rattle.group_rows.specs.Told.{IsTold, AreTold, IsRowOf, AreRowsOfSets}
use Rattle.group_rows.proofs.KindLaws.{aggregate_has_kind, kinds_for}

both : (p q : Bool) → IsTrue (p && q) → IsTrue p × IsTrue q
both true q h = (refl, h)
both false q h = absurd cc

-- ---- steps

zip_push : {A B : Type 0} (R : A → B → Type 0) (xs : List A) (ys : List B) (x : A) (y : B) → AllZip R xs ys → R x y → AllZip R (xs ++ x ∷ []) (ys ++ y ∷ [])
zip_push R [] [] x y h r = (r, tt)
zip_push R [] (b ∷ ys) x y h r = absurd h
zip_push R (a ∷ xs) [] x y h r = absurd h
zip_push R (a ∷ xs) (b ∷ ys) x y h r = (h.0, zip_push R xs ys x y h.1 r)

pub last_told : (all states : List Summary) (state : Summary) (told values : List Datum) (value : Datum) → all ≡ states ++ state ∷ [] → values ≡ told ++ value ∷ [] → AllZip IsTold states told → IsTold state value → AllZip IsTold all values
last_told all states state told values value e f h t =
    subst (λ (zs : List Summary). AllZip IsTold zs values) (sym e) (subst (AllZip IsTold (states ++ state ∷ [])) (sym f) (zip_push IsTold states told state value h t))

pub none_told : (states : List Summary) (values : List Datum) → states ≡ [] → values ≡ [] → AllZip IsTold states values
none_told states values e f = subst (λ (ss : List Summary). AllZip IsTold ss values) (sym e) (subst (AllZip IsTold []) (sym f) tt)

-- with the rows of the groups that are left these are the rows of all groups
abbrev pub IsOnTheWay : List Group → List Row → List Group → Type 0
IsOnTheWay all rows left = (rest : List Row) → AllZip IsRowOf left rest → AllZip IsRowOf all (rows ++ rest)

pub first_way : (groups : List Group) (rows : List Row) → rows ≡ [] → IsOnTheWay groups rows groups
first_way groups rows e = λ rest h. subst (λ (zs : List Row). AllZip IsRowOf groups (zs ++ rest)) (sym e) h

pub next_way : (all left left' : List Group) (rows rows' : List Row) (group : Group) (row : Row) → IsOnTheWay all rows left → left ≡ group ∷ left' → rows' ≡ rows ++ row ∷ [] → IsRowOf group row → IsOnTheWay all rows' left'
next_way all left left' rows rows' group row way e f told = λ rest h.
    subst (AllZip IsRowOf all) (sym (append_assoc rows (row ∷ []) rest) ∙ ap (λ (zs : List Row). zs ++ rest) (sym f))
    (way (row ∷ rest) (subst (λ (zs : List Group). AllZip IsRowOf zs (row ∷ rest)) (sym e) (told, h)))

-- of no groups the first one is none
pub none_left : (left left' : List Group) → left ≡ left' → left' ≡ drop 1 left → left ≡ []
none_left [] left' e f = refl
none_left (group ∷ left) left' e f = absurd (let n = ap length e ∙ ap length f in omega (arith, n))

pub last_way : (all left : List Group) (rows : List Row) → IsOnTheWay all rows left → left ≡ [] → AllZip IsRowOf all rows
last_way all left rows way e = subst (AllZip IsRowOf all) (append-nil rows) (way [] (subst (λ (zs : List Group). AllZip IsRowOf zs []) (sym e) tt))

-- ---- the cell of a group

told_values : (gs : List Aggregate) (attributes : List Attribute) (rows : List Row) (states : List Summary) (values : List Datum) → AllZip IsTold states values → AreStatesOf gs rows states → IsTrue (are_aggregates_of attributes gs)
    → AllByRecursion (λ row. IsCellOf attributes row.cell) rows → values ≡ map (λ g. aggregate_of g (cells_of rows)) gs
told_values [] attributes rows [] [] h s t k = refl
told_values [] attributes rows [] (v ∷ values) h s t k = absurd h
told_values [] attributes rows (state ∷ states) values h s t k = absurd s
told_values (g ∷ gs) attributes rows [] values h s t k = absurd s
told_values (g ∷ gs) attributes rows (state ∷ states) [] h s t k = absurd h
told_values (g ∷ gs) attributes rows (state ∷ states) (v ∷ values) h s t k =
    let typed = both (is_aggregate_of attributes g) (are_aggregates_of attributes gs) t in
    λ i. h.0 g attributes rows s.0 typed.0 k i ∷ told_values gs attributes rows states values h.1 s.1 typed.1 k i

told_cell : (gs : List Aggregate) (attributes : List Attribute) (rows : List Row) (states : List Summary) (cell : Cell) → AreTold states cell → AreStatesOf gs rows states → IsTrue (are_aggregates_of attributes gs)
    → AllByRecursion (λ row. IsCellOf attributes row.cell) rows → cell ≡ aggregates_of gs rows
told_cell gs attributes rows states (Full values) h s t k = ap (λ (vs : List Datum). Full vs) (told_values gs attributes rows states values h s t k)
told_cell gs attributes rows states (Doubt kind) h s t k = absurd h

-- ---- all groups

abbrev IsToldAt : Option (List Summary) → Option Cell → Type 0
IsToldAt None None = ⊥ → ⊥
IsToldAt (Some states) (Some cell) = AreTold states cell
IsToldAt _ _ = ⊥

told_at : (groups : List Group) (rows : List Row) (c : Coordinate) → AllZip IsRowOf groups rows → IsToldAt (states_at groups c) (cell_at rows c)
told_at [] [] c h = λ x. x
told_at [] (row ∷ rows) c h = absurd h
told_at (group ∷ groups) [] c h = absurd h
told_at (group ∷ groups) (row ∷ rows) c h =
    subst (λ (o : Ordering). IsToldAt (states_at (group ∷ groups) c) (cond (is_eq o) (Some row.cell) (cell_at rows c))) (λ i. row_major (sym h.0.at i).items c)
    (cases (row_major group.at.items c) (told_at groups rows c h.1))
  where
    cases : (o : Ordering) → IsToldAt (states_at groups c) (cell_at rows c) → IsToldAt (cond (is_eq o) (Some group.states) (states_at groups c)) (cond (is_eq o) (Some row.cell) (cell_at rows c))
    cases Equal ih = h.0.cell
    cases Less ih = ih
    cases Greater ih = ih

rows_behind : (c : Coordinate) (groups : List Group) (rows : List Row) → AllZip IsRowOf groups rows → ComesBefore c groups → IsBefore c rows
rows_behind c [] [] h b = tt
rows_behind c [] (row ∷ rows) h b = absurd h
rows_behind c (group ∷ groups) [] h b = absurd h
rows_behind c (group ∷ groups) (row ∷ rows) h b = ((λ i. row_major c (h.0.at i).items) ∙ b.0, rows_behind c groups rows h.1 b.1)

rows_rise : (groups : List Group) (rows : List Row) → AllZip IsRowOf groups rows → AreInOrder groups → IsRising rows
rows_rise [] [] h r = tt
rows_rise [] (row ∷ rows) h r = absurd h
rows_rise (group ∷ groups) [] h r = absurd h
rows_rise (group ∷ groups) (row ∷ rows) h r = (
  subst (λ (c : Coordinate). IsBefore c rows) (λ i. (sym h.0.at i).items) (rows_behind group.at.items groups rows h.1 r.0),
  rows_rise groups rows h.1 r.1,
)

same_cell : (gs : List Aggregate) (attributes : List Attribute) (target : Schema) (c : Coordinate) (set : Option (List Row)) (states : Option (List Summary)) (cell : Option Cell)
    → IsGroupOf gs set states → IsToldAt states cell → IsTrue (are_aggregates_of attributes gs) → IsSetFor attributes target c set → cell ≡ option_map (aggregates_of gs) set
same_cell gs attributes target c None None None g t typed k = refl
same_cell gs attributes target c None None (Some cell) g t typed k = absurd t
same_cell gs attributes target c None (Some states) cell g t typed k = absurd g
same_cell gs attributes target c (Some rows) None cell g t typed k = absurd g
same_cell gs attributes target c (Some rows) (Some states) None g t typed k = absurd t
same_cell gs attributes target c (Some rows) (Some states) (Some cell) g t typed k = ap (λ (z : Cell). Some z) (told_cell gs attributes rows states cell t g.1 typed k.1)

pub told_rows : (gs : List Aggregate) (attributes : List Attribute) (target : Schema) (sets : Sets) (groups : List Group) (rows : List Row) → AllZip IsRowOf groups rows → AreGroupsOf gs sets groups → IsTrue (are_aggregates_of attributes gs)
    → ((c : Coordinate) → IsSetFor attributes target c (sets c)) → AreRowsOfSets gs sets rows
told_rows gs attributes target sets groups rows h g typed k = record {
  rising = rows_rise groups rows h g.in_order;
  each = λ c. same_cell gs attributes target c (sets c) (states_at groups c) (cell_at rows c) (g.each c) (told_at groups rows c h) typed (k c);
}

-- ---- rows of the target

all_by_cells : (P : Coordinate → Cell → Type 0) (rows : List Row) → IsRising rows → ((c : Coordinate) (cell : Cell) → cell_at rows c ≡ Some cell → P c cell) → AllByRecursion (λ row. P row.at.items row.cell) rows
all_by_cells P [] r h = tt
all_by_cells P (row ∷ rows) r h = (
  h row.at.items row.cell (ap (λ (o : Ordering). cond (is_eq o) (Some row.cell) (cell_at rows row.at.items)) (same_coordinate row.at.items)),
  all_by_cells P rows r.1 (λ c cell e. h c cell (cases c cell e (row_major row.at.items c) refl)),
)
  where
    cases : (c : Coordinate) (cell : Cell) → cell_at rows c ≡ Some cell → (o : Ordering) → row_major row.at.items c ≡ o → cond (is_eq o) (Some row.cell) (cell_at rows c) ≡ Some cell
    cases c cell e Less f = e
    cases c cell e Greater f = e
    cases c cell e Equal f =
        absurd (let none : Some cell ≡ None = sym e ∙ ap (cell_at rows) (sym (row_major_exact row.at.items c f)) ∙ none_at_bound row.at.items rows r.0 in cc)

-- the group of a set has no more cells than all groups
cells_at : (groups : List Group) (c : Coordinate) (states : List Summary) → states_at groups c ≡ Some states → counted states ≤ cells_in groups
cells_at [] c states e = absurd cc
cells_at (group ∷ groups) c states e = cases (row_major group.at.items c) refl (cells_at groups c states)
  where
    own : group.states ≡ states → counted states ≤ counted group.states + cells_in groups
    own f =
        let n = ap counted f in
        omega (arith, n)

    the_states : Option (List Summary) → List Summary
    the_states None = []
    the_states (Some ss) = ss

    cases : (o : Ordering) → row_major group.at.items c ≡ o → (states_at groups c ≡ Some states → counted states ≤ cells_in groups) → counted states ≤ counted group.states + cells_in groups
    cases Equal f ih = own (ap the_states (ap (λ (z : Ordering). cond (is_eq z) (Some group.states) (states_at groups c)) (sym f) ∙ e))
    cases Less f ih = let n = ih (ap (λ (z : Ordering). cond (is_eq z) (Some group.states) (states_at groups c)) (sym f) ∙ e) in omega (arith, n)
    cases Greater f ih = let n = ih (ap (λ (z : Ordering). cond (is_eq z) (Some group.states) (states_at groups c)) (sym f) ∙ e) in omega (arith, n)

each_kind : (attributes : List Attribute) (gs : List Aggregate) (rows : List Row) (states : List Summary) (n : ℕ) → AreStatesOf gs rows states → IsTrue (are_aggregates_of attributes gs) → AllByRecursion (λ row. IsCellOf attributes row.cell) rows
    → counted states ≤ n → n < 9223372036854775808 → AllByRecursion (λ g. IsTrue (is_of_kind (aggregate_kind attributes g) (aggregate_of g (cells_of rows)))) gs
each_kind attributes [] rows [] n s t k l m = tt
each_kind attributes [] rows (state ∷ states) n s t k l m = absurd s
each_kind attributes (g ∷ gs) rows [] n s t k l m = absurd s
each_kind attributes (g ∷ gs) rows (state ∷ states) n s t k l m =
    let typed = both (is_aggregate_of attributes g) (are_aggregates_of attributes gs) t in
    let e = s.0.cells in
    let f = length-map rows (λ (row : Row). row.cell) in (
      aggregate_has_kind attributes g (cells_of rows) typed.0 (all_cells rows k) (omega (arith, e, f, l, m)),
      each_kind attributes gs rows states n s.1 typed.1 k (omega (arith, l)) m,
    )
  where
    all_cells : (rows : List Row) → AllByRecursion (λ row. IsCellOf attributes row.cell) rows → AllByRecursion (IsCellOf attributes) (cells_of rows)
    all_cells [] h = tt
    all_cells (row ∷ rows) h = (h.0, all_cells rows h.1)

-- a cell of a group lies within the target and has values of its kinds
cell_fits : (gs : List Aggregate) (attributes : List Attribute) (target : Schema) (n : ℕ) (c : Coordinate) (set : Option (List Row)) (states : Option (List Summary)) (cell : Cell)
    → IsGroupOf gs set states → IsTrue (are_aggregates_of attributes gs) → IsSetFor attributes target c set → kinds_of target.attributes ≡ map (aggregate_kind attributes) gs
    → ((ss : List Summary) → states ≡ Some ss → counted ss ≤ n) → n < 9223372036854775808 → option_map (aggregates_of gs) set ≡ Some cell
    → IsTrue (is_inside (bounds_of target.dimensions) c) × IsCellOf target.attributes cell
cell_fits gs attributes target n c None states cell g typed k kinds l m e = absurd cc
cell_fits gs attributes target n c (Some rows) None cell g typed k kinds l m e = absurd g
cell_fits gs attributes target n c (Some rows) (Some states) cell g typed k kinds l m e = (
  k.0,
  subst (IsCellOf target.attributes) (ap the_cell e)
      (kinds_for attributes (λ a. aggregate_of a (cells_of rows)) target.attributes gs kinds (each_kind attributes gs rows states n g.1 typed k.1 (l states refl) m)),
)
  where
    the_cell : Option Cell → Cell
    the_cell None = cell
    the_cell (Some z) = z

pub rows_of_target : (gs : List Aggregate) (attributes : List Attribute) (target : Schema) (sets : Sets) (groups : List Group) (rows : List Row) → IsValid target → AreGroupsOf gs sets groups → AreRowsOfSets gs sets rows → IsTrue (are_aggregates_of attributes gs)
    → ((c : Coordinate) → IsSetFor attributes target c (sets c)) → kinds_of target.attributes ≡ map (aggregate_kind attributes) gs → cells_in groups < 9223372036854775808 → AreRowsOf target rows
rows_of_target gs attributes target sets groups rows valid g told typed k kinds few =
    let fits = λ (c : Coordinate) (cell : Cell) (e : cell_at rows c ≡ Some cell). cell_fits gs attributes target (cells_in groups) c (sets c) (states_at groups c) cell (g.each c) typed (k c) kinds (cells_at groups c) few (sym (told.each c) ∙ e) in
    record {
      valid = valid;
      are_rows = record {
        rising = told.rising;
        in_bounds = all_by_cells (λ c cell. IsTrue (is_inside (bounds_of target.dimensions) c)) rows told.rising (λ c cell e. (fits c cell e).0);
      };
      kinds = all_by_cells (λ c cell. IsCellOf target.attributes cell) rows told.rising (λ c cell e. (fits c cell e).1);
    }

pub if_ok : {X E : Type 0} {P Q : X → Type 0} (r : Result X E) → IfOk r P → ((x : X) → P x → Q x) → IfOk r Q
if_ok (Ok x) p f = f x p
if_ok (Err e) p f = p
