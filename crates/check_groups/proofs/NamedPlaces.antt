-- What names of dimensions choose: places that there are, with names that are all different.
use Rattle.std.proofs.Common.{◌≡◌, ◌⊎◌, inl, inr, ℕ, zero, suc, ◌+◌, ◌<◌, ◌≤◌, ◌==◌, Bool, true, false, not, ◌&&◌, List, [], ◌∷◌, ◌++◌, length, map, Option, Some, None, IfOk, refl, sym, ap, subst, ◌∙◌, arith}
use Rattle.std.specs.Prelude.{slice_get, position, nat_lt, get_or}
use Rattle.std.specs.List.{list_any, list_all, cons_option, AllByRecursion}
use Rattle.std.specs.Option.{option_map}
use Rattle.std.specs.Str.{bytes_eq}
use Rattle.std.proofs.lemmas.Bool.{and_parts, and_from, or_parts, not-true, lt-ltb, le-leb, eq-eqb}
use Rattle.std.proofs.lemmas.List.{length-append, map-append, append-nil}
use Rattle.std.proofs.lemmas.List.Elements.{filter_map-append}
use Rattle.std.proofs.lemmas.List.Folds.{list_all-append}
use Rattle.std.proofs.lemmas.List.Quantifiers.{position-Some}
use Rattle.std.proofs.lemmas.Option.{slice_get-map, slice_get_cases}
use Rattle.cell_values.specs.declared.name.Span.{Span}
use Rattle.cell_values.specs.declared.schema.Dimension.{Dimension}
use Rattle.cell_values.specs.Schemas.{dimension_names, is_among, are_distinct, is_dimension, bounds_in_range, bounds_in_order, has_chunk, overlap_fits}
use Rattle.schema_grammar.specs.declared.kinds.TypeKind.TheVariants.{RepeatedName}
use Rattle.afl_trees.specs.Term.{Term, reference}
use Rattle.logical_plan.specs.BoxOps.{items_at}
use Rattle.logical_plan.specs.PlanSchema.{without_overlap}
use Rattle.logical_plan.specs.Typing.{are_below}
use Rattle.check_rules.proofs.RulesHolding.{demanded}
use Rattle.check_exprs.specs.Expressions.{dimension_place}
use Rattle.check_rules.specs.InTurn.{in_turn, new_place}
use Rattle.check_rules.proofs.Names.{distinct_between, differ_at, or_none}
use Rattle.check_rules.proofs.Turns.{turns_keep}
use Rattle.check_groups.specs.Names.{dimension_one}

nothing_asked : (ts : List Term) → AllByRecursion (λ t. Unit {0}) ts
nothing_asked [] = tt
nothing_asked (t ∷ ts) = (tt, nothing_asked ts)

-- the item at a place that there is
at_place : (xs : List Dimension) (i : ℕ) → i < length xs → (x : Dimension) × (slice_get xs i ≡ Some x)
at_place xs i lt = by_cases (slice_get_cases xs i).1
  where
    by_cases : (((x : Dimension) × (i < length xs) × (slice_get xs i ≡ Some x) × (get_or xs i x ≡ x)) ⊎ ((length xs ≤ i) × (slice_get xs i ≡ None))) → (x : Dimension) × (slice_get xs i ≡ Some x)
    by_cases (inl (x, h, e, same)) = (x, e)
    by_cases (inr (past, none)) = absurd (omega (arith, lt, past))

position_below : {A : Type 0} (p : A → Bool) (xs : List A) (i : ℕ) → position p xs ≡ Some i → i < length xs
position_below p [] i e = cc
position_below p (x ∷ xs) i e = (position-Some p (x ∷ xs) i x e).0

-- a dimension without its overlap is one
bare_fits : (d : Dimension) → is_dimension d ≡ true → is_dimension (without_overlap d) ≡ true
bare_fits d e = let p = and_parts (bounds_in_range d && bounds_in_order d && has_chunk d) (overlap_fits d) e in and_from (bounds_in_range d && bounds_in_order d && has_chunk d) (overlap_fits (without_overlap d)) p.0 (le-leb 0 d.chunk (omega arith))

-- a name is of a dimension that there is
module _ (dims : List Dimension) where
  place_below : (s : Span) (name : List ℕ) (done : List ℕ) (o : Option ℕ) → dimension_place dims name ≡ o → IfOk (new_place s done o) (λ p. nat_lt p (length dims) ≡ true)
  place_below s name done None e = tt
  place_below s name done (Some p) e =
      demanded (λ place. nat_lt place (length dims) ≡ true) (not (list_any (λ other. other == p) done)) s RepeatedName _ (λ new.
      lt-ltb p (length dims) (position_below (λ (d : Dimension). bytes_eq d.name name) dims p e))

  pub one_below : (done : List ℕ) (t : Term) → IfOk (dimension_one dims done t) (λ p. nat_lt p (length dims) ≡ true)
  one_below done (reference s name) = place_below s name done (dimension_place dims name) refl
  one_below done t = tt

module _ (dims : List Dimension) (apart : are_distinct (dimension_names dims) ≡ true) (all_fit : list_all is_dimension dims ≡ true) where
  abbrev bare : List ℕ → List Dimension
  bare places = map without_overlap (items_at places dims)

  -- places below the number of dimensions, of which the names differ
  pub record Named (places : List ℕ) : Type 0 where
    pub below : are_below (length dims) places ≡ true
    pub distinct : are_distinct (dimension_names (map without_overlap (items_at places dims))) ≡ true
    pub each : list_all is_dimension (map without_overlap (items_at places dims)) ≡ true
    pub count : length (map without_overlap (items_at places dims)) ≡ length places

  name_at : (i : ℕ) (d : Dimension) → slice_get dims i ≡ Some d → slice_get (dimension_names dims) i ≡ Some d.name
  name_at i d e = slice_get-map (λ (x : Dimension). x.name) dims i ∙ ap (λ o. option_map (λ (x : Dimension). x.name) o) e

  -- the name at a place is not among those at other places
  fresh : (done : List ℕ) (p : ℕ) (d : Dimension) → slice_get dims p ≡ Some d → list_any (λ other. other == p) done ≡ false → is_among d.name (dimension_names (bare done)) ≡ false
  fresh [] p d e none = refl
  fresh (q ∷ done) p d e none =
      let other = or_parts (q == p) (list_any (λ other. other == p) done) none in
      by_item (slice_get dims q) refl (λ same. absurd (true_false (q == p) (eq-eqb q p (sym same)) other.0)) (fresh done p d e other.1)
    where
      true_false : (b : Bool) → b ≡ true → b ≡ false → ⊥
      true_false b x y = cc

      by_item : (o : Option Dimension) → slice_get dims q ≡ o → (p ≡ q → ⊥) → is_among d.name (dimension_names (bare done)) ≡ false
          → is_among d.name (dimension_names (map without_overlap (cons_option o (items_at done dims)))) ≡ false
      by_item None f differ rest = rest
      by_item (Some x) f differ rest =
          or_none (bytes_eq d.name x.name) (is_among d.name (dimension_names (bare done))) (differ_at (dimension_names dims) p q d.name x.name apart differ (name_at p d e) (name_at q x f)) rest

  one_more : (done : List ℕ) (p : ℕ) (d : Dimension) → slice_get dims p ≡ Some d → bare (done ++ p ∷ []) ≡ bare done ++ without_overlap d ∷ []
  one_more done p d e =
      ap (λ (ds : List Dimension). map without_overlap ds)
      (filter_map-append (slice_get dims) done (p ∷ []) ∙ ap (λ (o : Option Dimension). items_at done dims ++ cons_option o []) e)
      ∙ map-append without_overlap (items_at done dims) (d ∷ [])

  fits_at : (ds : List Dimension) (i : ℕ) (d : Dimension) → list_all is_dimension ds ≡ true → slice_get ds i ≡ Some d → is_dimension d ≡ true
  fits_at [] i d all e = cc
  fits_at (x ∷ ds) zero d all e =
      let same : x ≡ d = cc in
      subst (λ (y : Dimension). is_dimension y ≡ true) same (and_parts (is_dimension x) (list_all is_dimension ds) all).0
  fits_at (x ∷ ds) (suc i) d all e = fits_at ds i d (and_parts (is_dimension x) (list_all is_dimension ds) all).1 e

  with_place : (done : List ℕ) (p : ℕ) (d : Dimension) → slice_get dims p ≡ Some d → p < length dims → list_any (λ other. other == p) done ≡ false → Named done → Named (done ++ p ∷ [])
  with_place done p d e lt none named =
      let more = one_more done p d e in
      let names : dimension_names (bare (done ++ p ∷ [])) ≡ dimension_names (bare done) ++ d.name ∷ [] = ap dimension_names more ∙ map-append (λ (x : Dimension). x.name) (bare done) (without_overlap d ∷ []) in
      let behind : are_distinct (dimension_names (bare done) ++ []) ≡ true = ap are_distinct (append-nil (dimension_names (bare done))) ∙ named.distinct in
      record {
        below = list_all-append (λ place. nat_lt place (length dims)) done (p ∷ []) ∙ and_from (are_below (length dims) done) (nat_lt p (length dims) && true) named.below (ap (λ b. b && true) (lt-ltb p (length dims) lt));
        distinct = ap are_distinct names ∙ distinct_between (dimension_names (bare done)) [] d.name behind (fresh done p d e none) refl;
        each = ap (list_all is_dimension) more ∙ list_all-append is_dimension (bare done) (without_overlap d ∷ [])
            ∙ and_from (list_all is_dimension (bare done)) (is_dimension (without_overlap d) && true) named.each (ap (λ b. b && true) (bare_fits d (fits_at dims p d all_fit e)));
        count = ap length more ∙ length-append (bare done) (without_overlap d ∷ []) ∙ ap (λ n. n + 1) named.count ∙ sym (length-append done (p ∷ []));
      }

  placed : (s : Span) (name : List ℕ) (done : List ℕ) (o : Option ℕ) → dimension_place dims name ≡ o → Named done → IfOk (new_place s done o) (λ p. Named (done ++ p ∷ []))
  placed s name done None e named = tt
  placed s name done (Some p) e named =
      demanded (λ place. Named (done ++ place ∷ [])) (not (list_any (λ other. other == p) done)) s RepeatedName _ (λ new.
      let lt : p < length dims = position_below (λ (d : Dimension). bytes_eq d.name name) dims p e in
      let item = at_place dims p lt in
      with_place done p item.0 item.1 lt (not-true (list_any (λ other. other == p) done) new) named)

  names_one : (done : List ℕ) (t : Term) → Named done → IfOk (dimension_one dims done t) (λ p. Named (done ++ p ∷ []))
  names_one done (reference s name) named = placed s name done (dimension_place dims name) refl named
  names_one done t named = tt

  pub places_named : (names : List Term) → IfOk (in_turn (dimension_one dims) [] names) Named
  places_named names =
      turns_keep (λ t. Unit {0}) Named (dimension_one dims) (λ done t asked named. names_one done t named) [] names (nothing_asked names)
      (record { below = refl; distinct = refl; each = refl; count = refl })
