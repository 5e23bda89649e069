-- The places at which rows land.
use Rattle.std.proofs.Common.{◌≡◌, ℕ, suc, ◌+◌, ◌<◌, ◌≤◌, ℤ, Bool, true, false, cond, List, [], ◌∷◌, ◌++◌, append-nil, append_assoc, map, length, get_or, take, None, Ok, refl, sym, ap, ◌∙◌, subst, arith}
use Rattle.std.proofs.lemmas.List.{get_or-map, length-map, take_all, take_more}
use Rattle.std.specs.List.{AllByRecursion, AllZip, list_any}
use Rattle.std.specs.Option.{option_or}
use Rattle.std.specs.Prelude.{not, ◌||◌, Option}
use Rattle.arrayvec.specs.ArrayVec.{ArrayVec}
use Rattle.cell_values.specs.declared.datum.Cell.{Cell}
use Rattle.cell_values.specs.declared.datum.Cell.TheVariants.{Full}
use Rattle.cell_values.specs.declared.datum.Datum.{Datum}
use Rattle.cell_values.specs.declared.datum.Datum.TheVariants.{Int}
use Rattle.cell_values.specs.declared.datum.FaultKind.{FaultKind}
use Rattle.cell_values.specs.declared.datum.FaultKind.TheVariants.{OutOfBounds}
use Rattle.cell_values.specs.declared.datum.Row.{Row}
use Rattle.cell_values.specs.declared.schema.Bounds.{Bounds}
use Rattle.cell_values.specs.Nulls.{is_null}
use Rattle.array_rows.specs.Boxes.{is_inside, within}
use Rattle.array_rows.specs.Rows.{Coordinate, placed}
use Rattle.array_geom.specs.declared.grid.Grid.{Grid}
use Rattle.array_geom.specs.Geometry.{position_in, volume}
use Rattle.array_geom.proofs.Fronts.{rest, rest_is}
use Rattle.array_geom.proofs.PlaceLaws.{coordinate_again}
use Rattle.logical_plan.specs.Faults.{if_whole}
use Rattle.logical_plan.specs.Groups.{bad_kind, first_some, number_of}
use Rattle.logical_plan.specs.Redimension.{Origin, Landed, lands, breaks, target_value, landing_at, landing_of, after_landing, landed, counted_places, alike_so_far}
use Rattle.group_rows.proofs.StateLaws.{zip_push}
use Rattle.group_rows.proofs.PlaceLaws.{length_rows, row_in}
use Rattle.group_rows.specs.Inner.Places.{place_of, rows_at}
use Rattle.redimension_exec.specs.declared.places.places.Place.{Place}
use Rattle.redimension_exec.specs.Inner.Counting.{has_counted}
use Rattle.redimension_exec.specs.Inner.Dense.{HasNumbers, IsLandingGrid, IsTargetOf, landed_there}
use Rattle.redimension_exec.specs.Inner.Places.{origin}
use Rattle.redimension_exec.proofs.LandingLaws.{begins_numbers, first_length}
use Rattle.redimension_exec.proofs.LandingsGatherLaws.{landing_free}
use Rattle.redimension_exec.proofs.TakenLaws.{up_none}

-- ---- values that are all numbers

not_bad : (v : Datum) → v ≡ Int (number_of v) → bad_kind v ≡ None
not_bad v e = ap bad_kind e

not_null : (v : Datum) → v ≡ Int (number_of v) → is_null v ≡ false
not_null v e = ap is_null e

pub none_bad : (values : List Datum) → AllByRecursion (λ v. v ≡ Int (number_of v)) values → None ≡ first_some bad_kind values
none_bad [] h = refl
none_bad (v ∷ values) h = none_bad values h.1 ∙ sym (ap (λ (o : Option FaultKind). option_or o (first_some bad_kind values)) (not_bad v h.0))

pub no_null : (values : List Datum) → AllByRecursion (λ v. v ≡ Int (number_of v)) values → list_any is_null values ≡ false
no_null [] h = refl
no_null (v ∷ values) h = ap (λ (b : Bool). b || list_any is_null values) (not_null v h.0) ∙ no_null values h.1

-- a number more from the front
pub front_numbers : (value : Place → Datum) (places : List Place) (d : Place) (old more new : List ℤ) (n : ℤ) → 1 ≤ length places → more ≡ old ++ n ∷ [] → value (get_or places 0 d) ≡ Int n
    → HasNumbers more new (map value (rest places)) → HasNumbers old new (map value places)
front_numbers value [] d old more new n some m e h = absurd (omega (arith, some))
front_numbers value (p ∷ places) d old more new n some m e h =
    let left : HasNumbers more new (map value places) = subst (λ (ps : List Place). HasNumbers more new (map value ps)) (rest_is p places) h in
    let number : number_of (value p) ≡ n = ap number_of e in
    record {
      each = (e ∙ ap (λ (k : ℤ). Int k) (sym number), left.each);
      numbers =
          left.numbers ∙ ap (λ (l : List ℤ). l ++ map number_of (map value places)) m ∙ append_assoc old (n ∷ []) (map number_of (map value places))
          ∙ ap (λ (k : ℤ). old ++ k ∷ map number_of (map value places)) (sym number);
    }

pub no_numbers : (value : Place → Datum) (places : List Place) (old : List ℤ) → length places < 1 → HasNumbers old old (map value places)
no_numbers value [] old l = record { each = tt; numbers = sym (append-nil old) }
no_numbers value (p ∷ places) old l = absurd (omega (arith, l))

-- ---- one row

map_map : (origins : List Place) (c : Coordinate) (vs : List Datum) → map (λ p. target_value c vs (origin p)) origins ≡ map (target_value c vs) (map origin origins)
map_map [] c vs = refl
map_map (p ∷ origins) c vs = ap (λ (l : List Datum). target_value c vs (origin p) ∷ l) (map_map origins c vs)

pub both_maps : (places : List Place) (c : Coordinate) (vs : List Datum) (old new : List ℤ) → HasNumbers old new (map (λ p. target_value c vs (origin p)) places) → HasNumbers old new (map (target_value c vs) (map origin places))
both_maps places c vs old new h = subst (HasNumbers old new) (map_map places c vs) h

pub back_maps : (places : List Place) (c : Coordinate) (vs : List Datum) (old new : List ℤ) → HasNumbers old new (map (target_value c vs) (map origin places)) → HasNumbers old new (map (λ p. target_value c vs (origin p)) places)
back_maps places c vs old new h = subst (HasNumbers old new) (sym (map_map places c vs)) h

pub lands_there : (origins : List Origin) (bounds : Bounds) (c : Coordinate) (vs : List Datum) (key : ArrayVec ℤ) (none : List ℤ) → has_counted origins ≡ false → none ≡ [] → HasNumbers none key.items (map (target_value c vs) origins)
    → is_inside bounds key.items ≡ true → landing_of origins bounds false [] c (Full vs) ≡ lands key.items
lands_there origins bounds c vs key none plain nothing h inside =
    let values : List Datum = map (target_value c vs) origins in
    let numbers : key.items ≡ map number_of values = h.numbers ∙ ap (λ (l : List ℤ). l ++ map number_of values) nothing in
    let begins = begins_numbers origins c vs key (none_bad values h.each) (no_null values h.each) numbers in
    let long : length key.items ≡ length origins = ap length numbers ∙ first_length origins c (Full vs) in
    begins.1 bounds false []
    ∙ (λ i. landing_at bounds false [] (up_none origins (alike_so_far (counted_places origins 0) [] key.items) key.items plain long i))
    ∙ (λ j. cond (not (inside j)) (breaks OutOfBounds) (lands key.items))

pub is_target_of : (area : Bounds) (places : List Place) (bounds : Bounds) (grid : Grid) (c : Coordinate) (vs : List Datum) (key : ArrayVec ℤ) (none : List ℤ) (t : ℕ) → IsLandingGrid places bounds grid → is_inside area c ≡ true
    → none ≡ [] → HasNumbers none key.items (map (target_value c vs) (map origin places)) → is_inside bounds key.items ≡ true → t ≡ position_in grid.low.items grid.lengths.items key.items → t < volume grid.lengths.items
    → IsTargetOf area (map origin places) bounds grid (placed c (Full vs)) t
is_target_of area places bounds grid c vs key none t to inside nothing h within_bounds at below = record {
  inside = inside;
  below = below;
  there = lands_there (map origin places) bounds c vs key none to.plain nothing h within_bounds
      ∙ ap lands (sym (ap (place_of grid) at ∙ coordinate_again grid.low.items grid.lengths.items key.items (to.held key.items within_bounds)));
}

-- ---- all rows

pub next_zip : {A B : Type 0} (R : A → B → Type 0) (xs : List A) (i : ℕ) (x : A) (old new : List B) (y : B) → i < length xs → x ≡ get_or xs i x → AllZip R (take i xs) old → R x y → new ≡ old ++ y ∷ [] → AllZip R (take (i + 1) xs) new
next_zip {A = A} R xs i x old new y l e h r n =
    subst (λ (some : List A). AllZip R some new) (ap (λ (z : A). take i xs ++ z ∷ []) e ∙ sym (take_more xs i x l))
    (subst (AllZip R (take i xs ++ x ∷ [])) (sym n) (zip_push R (take i xs) old x y h r))

module _ (area : Bounds) (origins : List Origin) (bounds : Bounds) (grid : Grid) where
  pub rows_landed : (plain : has_counted origins ≡ false) (rows : List Row) (targets : List ℕ) (taken : List Coordinate) → AllZip (IsTargetOf area origins bounds grid) rows targets
      → landed origins bounds false rows taken ≡ Ok (landed_there grid targets rows)
  rows_landed plain [] [] taken h = refl
  rows_landed plain [] (t ∷ targets) taken h = absurd h
  rows_landed plain (row ∷ rows) [] taken h = absurd h
  rows_landed plain (row ∷ rows) (t ∷ targets) taken h =
      (λ i. after_landing ((landing_free origins bounds plain taken [] row.at.items row.cell ∙ h.0.there) i) row (λ now. landed origins bounds false rows now) taken)
      ∙ ap (if_whole (λ (more : List Landed). (place_of grid t, row) ∷ more)) (rows_landed plain rows targets (place_of grid t ∷ taken) h.1)

  pub rows_inside : (rows : List Row) (targets : List ℕ) → AllZip (IsTargetOf area origins bounds grid) rows targets → within area rows ≡ rows
  rows_inside [] [] h = refl
  rows_inside [] (t ∷ targets) h = absurd h
  rows_inside (row ∷ rows) [] h = absurd h
  rows_inside (row ∷ rows) (t ∷ targets) h =
      ap (λ (b : Bool). cond b (row ∷ within area rows) (within area rows)) h.0.inside ∙ ap (λ (zs : List Row). row ∷ zs) (rows_inside rows targets h.1)

  pub targets_below : (rows : List Row) (targets : List ℕ) → AllZip (IsTargetOf area origins bounds grid) rows targets → AllByRecursion (λ t. t < volume grid.lengths.items) targets
  targets_below [] [] h = tt
  targets_below [] (t ∷ targets) h = absurd h
  targets_below (row ∷ rows) [] h = absurd h
  targets_below (row ∷ rows) (t ∷ targets) h = (h.0.below, targets_below rows targets h.1)

  pub as_many_targets : (rows : List Row) (targets : List ℕ) → AllZip (IsTargetOf area origins bounds grid) rows targets → length targets ≡ length rows
  as_many_targets [] [] h = refl
  as_many_targets [] (t ∷ targets) h = absurd h
  as_many_targets (row ∷ rows) [] h = absurd h
  as_many_targets (row ∷ rows) (t ∷ targets) h = ap suc (as_many_targets rows targets h.1)

-- a row more of those at places
module _ (area : Bounds) (origins : List Origin) (bounds : Bounds) (to grid : Grid) (positions : List ℕ) (rows : List (List Datum)) (k : ℕ) (same : length rows ≡ length positions) where
  many_cells : length positions ≤ length (map Full rows)
  many_cells = let long = length-map rows Full in omega (arith, long, same)

  many_rows : length (rows_at grid positions (map Full rows) 0) ≡ length positions
  many_rows = length_rows grid.low.items grid.lengths.items positions (map Full rows) many_cells

  pub next_target : (at : Coordinate) (old new : List ℕ) (t : ℕ) → k < length positions → at ≡ place_of grid (get_or positions k 0) → AllZip (IsTargetOf area origins bounds to) (take k (rows_at grid positions (map Full rows) 0)) old
      → IsTargetOf area origins bounds to (placed at (Full (get_or rows k []))) t → new ≡ old ++ t ∷ [] → AllZip (IsTargetOf area origins bounds to) (take (k + 1) (rows_at grid positions (map Full rows) 0)) new
  next_target at old new t l here zip is n =
      let row : Row = placed at (Full (get_or rows k [])) in
      let cell : get_or (map Full rows) k (Full []) ≡ Full (get_or rows k []) = get_or-map Full rows k [] (Full []) (omega (arith, l, same)) in
      let found : row ≡ get_or (rows_at grid positions (map Full rows) 0) k row =
      row_in grid.low.items grid.lengths.items positions (map Full rows) k row l many_cells
      (ap (λ (c : Coordinate). placed c (Full (get_or rows k []))) here ∙ ap (λ (cell : Cell). placed (place_of grid (get_or positions k 0)) cell) (sym cell)) in
      next_zip (IsTargetOf area origins bounds to) (rows_at grid positions (map Full rows) 0) k row old new t (let many = many_rows in omega (arith, l, many)) found zip is n

  pub all_targets : (targets : List ℕ) → length positions ≤ k → AllZip (IsTargetOf area origins bounds to) (take k (rows_at grid positions (map Full rows) 0)) targets → AllZip (IsTargetOf area origins bounds to) (rows_at grid positions (map Full rows) 0) targets
  all_targets targets l zip =
      subst (λ (rs : List Row). AllZip (IsTargetOf area origins bounds to) rs targets) (take_all k (rows_at grid positions (map Full rows) 0) (let many = many_rows in omega (arith, l, many))) zip
