-- What holds of the schemas and pairs that checking answers: they are those of the operator, and the schema is valid where it is within the limits.
use Rattle.std.proofs.Common.{◌≡◌, ℕ, suc, ◌+◌, ◌^◌, ◌≤◌, ◌<◌, ◌==◌, Bool, true, false, not, cond, ◌&&◌, ◌||◌, Option, Some, None, Ok, IfOk, List, [], ◌∷◌, ◌++◌, length, take, drop, refl, sym, ap, subst, ◌∙◌, arith}
use Rattle.std.specs.List.{AllByRecursion, list_any, list_all}
use Rattle.std.specs.Prelude.{nat_le, nat_lt, position}
use Rattle.std.specs.Str.{bytes_eq}
use Rattle.std.proofs.lemmas.Bool.{and_parts, and_from, or_parts, not-true, leb-true, lt-ltb, ne_eqb, eq-eqb}
use Rattle.std.proofs.lemmas.List.{length-append, length-map, length-drop, length-take, map-append, take-append-drop}
use Rattle.std.proofs.lemmas.List.Folds.{list_any-append, list_all-append}
use Rattle.std.proofs.lemmas.List.Quantifiers.{position-Some}
use Rattle.cell_values.specs.declared.name.Span.{Span}
use Rattle.cell_values.specs.declared.schema.Attribute.{Attribute}
use Rattle.cell_values.specs.declared.schema.Dimension.{Dimension}
use Rattle.cell_values.specs.declared.schema.Schema.{Schema}
use Rattle.cell_values.specs.Schemas.{IsValid, attribute_names, dimension_names, are_distinct, is_dimension}
use Rattle.schema_grammar.specs.declared.kinds.TypeKind.TheVariants.{BoundsDiffer, RepeatedName}
use Rattle.afl_trees.specs.Term.{Term, reference}
use Rattle.array_rows.specs.Boxes.{by_pairs}
use Rattle.logical_plan.specs.BoxOps.{items_but}
use Rattle.logical_plan.specs.Joins.{right_places}
use Rattle.logical_plan.specs.PlanSchema.{cross_schema, free_names, join_schema, renamed_attribute, renamed_dimension, side_by_side}
use Rattle.logical_plan.specs.Typing.{are_apart, are_below, left_places, pairs_dimensions, same_bounds}
use Rattle.logical_plan.specs.declared.parts.Pair.{Pair}
use Rattle.check_rules.specs.Checked.{Checked}
use Rattle.check_rules.proofs.RulesHolding.{demanded, thens, of_answer}
use Rattle.check_exprs.specs.Expressions.{dimension_place}
use Rattle.check_groups.specs.Names.{dimension_one}
use Rattle.check_rules.specs.InTurn.{new_place, pairs_in_turn}
use Rattle.check_rules.specs.Sorts.{is_name, first_but, unless_other}
use Rattle.check_rules.proofs.OperatorsHolding.{IsWithin}
use Rattle.check_rules.proofs.Names.{or_none}
use Rattle.check_rules.proofs.Turns.{pairs_keep}
use Rattle.check_rules.proofs.ValidSchemas.{ValidParts, valid_parts, valid_of_parts, has_some}
use Rattle.check_joins.specs.Crosses.{cross_parts, crossed_by, crossed_schema, pair_one}
use Rattle.check_joins.specs.JoinSchemas.{beside, joined_schema}
use Rattle.check_joins.specs.declared.cross.Crossed.{Crossed}
use Rattle.check_joins.proofs.Distinct.{free_names_differ, free_names_count, distinct_swapped}
use Rattle.check_joins.proofs.FreeNames.{are_side_by_side}

nothing_asked : (ts : List Term) → AllByRecursion (λ t. Unit {0}) ts
nothing_asked [] = tt
nothing_asked (t ∷ ts) = (tt, nothing_asked ts)

unless_ok : {A : Type 0} (P : A → Type 0) (o : Option Span) (next : Checked A) → IfOk next P → IfOk (unless_other o next) P
unless_ok P None next h = h
unless_ok P (Some s) next h = tt

if_ok : {A : Type 0} (r : Checked A) (P Q : A → Type 0) → ((a : A) → P a → Q a) → IfOk r P → IfOk r Q
if_ok (Ok a) P Q f h = f a h
if_ok r P Q f h = tt

-- dimensions and attributes under other names

names_of_dimensions : (dims : List Dimension) (names : List (List ℕ)) → length names ≡ length dims → dimension_names (by_pairs renamed_dimension dims names) ≡ names
names_of_dimensions [] [] e = refl
names_of_dimensions [] (n ∷ names) e = absurd (omega (arith, e))
names_of_dimensions (d ∷ dims) [] e = absurd (omega (arith, e))
names_of_dimensions (d ∷ dims) (n ∷ names) e = ap (λ (ns : List (List ℕ)). n ∷ ns) (names_of_dimensions dims names (omega (arith, e)))

names_of_attributes : (attributes : List Attribute) (names : List (List ℕ)) → length names ≡ length attributes → attribute_names (by_pairs renamed_attribute attributes names) ≡ names
names_of_attributes [] [] e = refl
names_of_attributes [] (n ∷ names) e = absurd (omega (arith, e))
names_of_attributes (a ∷ attributes) [] e = absurd (omega (arith, e))
names_of_attributes (a ∷ attributes) (n ∷ names) e = ap (λ (ns : List (List ℕ)). n ∷ ns) (names_of_attributes attributes names (omega (arith, e)))

pub pairs_count : {A B C : Type 0} (f : A → B → C) (xs : List A) (ys : List B) → length ys ≡ length xs → length (by_pairs f xs ys) ≡ length xs
pairs_count f [] ys e = refl
pairs_count f (x ∷ xs) [] e = absurd (omega (arith, e))
pairs_count f (x ∷ xs) (y ∷ ys) e = ap suc (pairs_count f xs ys (omega (arith, e)))

renamed_fit : (dims : List Dimension) (names : List (List ℕ)) → list_all is_dimension dims ≡ true → list_all is_dimension (by_pairs renamed_dimension dims names) ≡ true
renamed_fit [] names e = refl
renamed_fit (d ∷ dims) [] e = refl
renamed_fit (d ∷ dims) (n ∷ names) e =
    let p = and_parts (is_dimension d) (list_all is_dimension dims) e in
    and_from (is_dimension (renamed_dimension d n)) (list_all is_dimension (by_pairs renamed_dimension dims names)) p.0 (renamed_fit dims names p.1)

module _ (dims : List Dimension) (attributes : List Attribute) where
  abbrev given : List (List ℕ)
  given = free_names [] (dimension_names dims ++ attribute_names attributes)

  given_count : length given ≡ length dims + length attributes
  given_count =
      free_names_count (dimension_names dims ++ attribute_names attributes) ∙ length-append (dimension_names dims) (attribute_names attributes)
      ∙ ap (λ n. n + length (attribute_names attributes)) (length-map dims (λ (d : Dimension). d.name)) ∙ ap (λ n. length dims + n) (length-map attributes (λ (a : Attribute). a.name))

  beside_valid : 1 ≤ length attributes → 1 ≤ length dims → length dims + length attributes < 2 ^ 32 → list_all is_dimension dims ≡ true → IsWithin (side_by_side dims attributes) → IsValid (side_by_side dims attributes)
  beside_valid some one few each within =
      let n = length dims in
      let front : length (take n given) ≡ length dims = omega (arith, length-take n given, given_count) in
      let back : length (drop n given) ≡ length attributes = omega (arith, length-drop n given, given_count) in
      let made : Schema = side_by_side dims attributes in
      let names : attribute_names made.attributes ++ dimension_names made.dimensions ≡ drop n given ++ take n given
      = ap (λ (ns : List (List ℕ)). ns ++ dimension_names made.dimensions) (names_of_attributes attributes (drop n given) back) ∙ ap (λ (ns : List (List ℕ)). drop n given ++ ns) (names_of_dimensions dims (take n given) front) in
      let few_names : length (dimension_names dims ++ attribute_names attributes) < 2 ^ 32 = omega (arith, few, given_count, free_names_count (dimension_names dims ++ attribute_names attributes)) in
      let apart : are_distinct (take n given ++ drop n given) ≡ true = ap are_distinct (take-append-drop n given) ∙ free_names_differ (dimension_names dims ++ attribute_names attributes) few_names in
      valid_of_parts made (record {
        attributes = has_some made.attributes 64 (omega (arith, some, pairs_count renamed_attribute attributes (drop n given) back)) within.attributes;
        dimensions = has_some made.dimensions 6 (omega (arith, one, pairs_count renamed_dimension dims (take n given) front)) within.dimensions;
        distinct = ap are_distinct names ∙ distinct_swapped (take n given) (drop n given) apart;
        each = renamed_fit dims (take n given) each;
        frames = within.frames;
      })

-- items at other places

fewer_but : {A : Type 0} (places : List ℕ) (n : ℕ) (xs : List A) → length (items_but places n xs) ≤ length xs
fewer_but places n [] = omega arith
fewer_but {A} places n (x ∷ xs) = by_test (list_any (λ place. place == n) places) (fewer_but places (n + 1) xs)
  where
    by_test : (b : Bool) → length (items_but places (n + 1) xs) ≤ length xs → length (cond b (items_but places (n + 1) xs) (x ∷ items_but places (n + 1) xs)) ≤ suc (length xs)
    by_test true rest = omega (arith, rest)
    by_test false rest = omega (arith, rest)

all_but : (p : Dimension → Bool) (places : List ℕ) (n : ℕ) (dims : List Dimension) → list_all p dims ≡ true → list_all p (items_but places n dims) ≡ true
all_but p places n [] e = refl
all_but p places n (d ∷ dims) e =
    let parts = and_parts (p d) (list_all p dims) e in
    by_test (list_any (λ place. place == n) places) parts.0 (all_but p places (n + 1) dims parts.1)
  where
    by_test : (b : Bool) → p d ≡ true → list_all p (items_but places (n + 1) dims) ≡ true → list_all p (cond b (items_but places (n + 1) dims) (d ∷ items_but places (n + 1) dims)) ≡ true
    by_test true first rest = rest
    by_test false first rest = and_from (p d) (list_all p (items_but places (n + 1) dims)) first rest

-- places that are new

pub position_below : {A : Type 0} (p : A → Bool) (xs : List A) (i : ℕ) → position p xs ≡ Some i → i < length xs
position_below p [] i e = cc
position_below p (x ∷ xs) i e = (position-Some p (x ∷ xs) i x e).0

differ_back : (m n : ℕ) → (m == n) ≡ false → (n == m) ≡ false
differ_back m n e = ne_eqb n m (λ same. no (eq-eqb m n (sym same)))
  where
    no : (m == n) ≡ true → ⊥
    no f = cc

pub apart_more : (ps : List ℕ) (p : ℕ) → are_apart ps ≡ true → list_any (λ other. other == p) ps ≡ false → are_apart (ps ++ p ∷ []) ≡ true
apart_more [] p a none = refl
apart_more (n ∷ ps) p a none =
    let x = and_parts (not (list_any (λ m. m == n) ps)) (are_apart ps) a in
    let y = or_parts (n == p) (list_any (λ other. other == p) ps) none in
    let fresh : list_any (λ m. m == n) (ps ++ p ∷ []) ≡ false
    = list_any-append (λ m. m == n) ps (p ∷ []) ∙ or_none (list_any (λ m. m == n) ps) (p == n || false) (not-true (list_any (λ m. m == n) ps) x.0) (ap (λ b. b || false) (differ_back n p y.0)) in
    and_from (not (list_any (λ m. m == n) (ps ++ p ∷ []))) (are_apart (ps ++ p ∷ [])) (ap not fresh) (apart_more ps p x.1 y.1)

-- places below the number of dimensions, each once
record AreOnce (dims : List Dimension) (places : List ℕ) : Type 0 where
  below : are_below (length dims) places ≡ true
  apart : are_apart places ≡ true

module _ (dims : List Dimension) where
  once_more : (places : List ℕ) (place : ℕ) → place < length dims → list_any (λ other. other == place) places ≡ false → AreOnce dims places → AreOnce dims (places ++ place ∷ [])
  once_more places place lt none once = record {
    below = list_all-append (λ p. nat_lt p (length dims)) places (place ∷ []) ∙ and_from (are_below (length dims) places) (nat_lt place (length dims) && true) once.below (ap (λ b. b && true) (lt-ltb place (length dims) lt));
    apart = apart_more places place once.apart none;
  }

  new_once : (s : Span) (name : List ℕ) (places : List ℕ) (o : Option ℕ) → dimension_place dims name ≡ o → AreOnce dims places → IfOk (new_place s places o) (λ p. AreOnce dims (places ++ p ∷ []))
  new_once s name places None e once = tt
  new_once s name places (Some place) e once =
      demanded (λ p. AreOnce dims (places ++ p ∷ [])) (not (list_any (λ other. other == place) places)) s RepeatedName _ (λ fresh.
      once_more places place (position_below (λ (d : Dimension). bytes_eq d.name name) dims place e) (not-true (list_any (λ other. other == place) places) fresh) once)

  named_once : (places : List ℕ) (t : Term) → AreOnce dims places → IfOk (dimension_one dims places t) (λ p. AreOnce dims (places ++ p ∷ []))
  named_once places (reference s name) once = new_once s name places (dimension_place dims name) refl once
  named_once places t once = tt

-- pairs of a left and a right dimension

module _ (left right : List Dimension) where
  record Paired (pairs : List Pair) : Type 0 where
    on_left : AreOnce left (left_places pairs)
    on_right : AreOnce right (right_places pairs)

  pair_kept : (done : List Pair) (l r : Term) → Paired done → IfOk (pair_one left right done l r) (λ p. Paired (done ++ p ∷ []))
  pair_kept done l r paired =
      let Next : Pair → Type 0 = λ p. Paired (done ++ p ∷ []) in
      thens Next (dimension_one left (left_places done) l) _ (λ a e.
      thens Next (dimension_one right (right_places done) r) _ (λ b f.
      let pair : Pair = record { left = a; right = b } in
      record {
        on_left = subst (AreOnce left) (sym (map-append (λ (p : Pair). p.left) done (pair ∷ [])))
            (of_answer (λ p. AreOnce left (left_places done ++ p ∷ [])) (dimension_one left (left_places done) l) a (named_once left (left_places done) l paired.on_left) e);
        on_right = subst (AreOnce right) (sym (map-append (λ (p : Pair). p.right) done (pair ∷ [])))
            (of_answer (λ p. AreOnce right (right_places done ++ p ∷ [])) (dimension_one right (right_places done) r) b (named_once right (right_places done) r paired.on_right) f);
      }))

  all_paired : (arguments : List Term) → IfOk (pairs_in_turn (pair_one left right) [] arguments) Paired
  all_paired arguments =
      pairs_keep (λ t. Unit {0}) Paired (pair_one left right) (λ done l r x y paired. pair_kept done l r paired) [] arguments (nothing_asked arguments)
      (record { on_left = record { below = refl; apart = refl }; on_right = record { below = refl; apart = refl } })

-- both operators

module _ (s : Span) (left right : Schema) (left_valid : IsValid left) (right_valid : IsValid right) where
  l : ValidParts left
  l = valid_parts left left_valid

  r : ValidParts right
  r = valid_parts right right_valid

  abbrev both : List Attribute
  both = left.attributes ++ right.attributes

  some : 1 ≤ length both
  some =
      let one = and_parts (nat_le 1 (length left.attributes)) (nat_le (length left.attributes) 64) l.attributes in
      omega (arith, length-append left.attributes right.attributes, leb-true 1 (length left.attributes) one.0)

  few_attributes : length both ≤ 128
  few_attributes =
      let a = and_parts (nat_le 1 (length left.attributes)) (nat_le (length left.attributes) 64) l.attributes in
      let b = and_parts (nat_le 1 (length right.attributes)) (nat_le (length right.attributes) 64) r.attributes in
      omega (arith, length-append left.attributes right.attributes, leb-true (length left.attributes) 64 a.1, leb-true (length right.attributes) 64 b.1)

  one : 1 ≤ length left.dimensions
  one = leb-true 1 (length left.dimensions) (and_parts (nat_le 1 (length left.dimensions)) (nat_le (length left.dimensions) 6) l.dimensions).0

  few_left : length left.dimensions ≤ 6
  few_left = leb-true (length left.dimensions) 6 (and_parts (nat_le 1 (length left.dimensions)) (nat_le (length left.dimensions) 6) l.dimensions).1

  few_right : length right.dimensions ≤ 6
  few_right = leb-true (length right.dimensions) 6 (and_parts (nat_le 1 (length right.dimensions)) (nat_le (length right.dimensions) 6) r.dimensions).1

  pub record JoinFits (made : Schema) : Type 0 where
    pub bounds : same_bounds left.dimensions right.dimensions ≡ true
    pub schema : made ≡ join_schema left right
    pub valid : IsWithin made → IsValid made

  pub join_fits : IfOk (joined_schema s left right) JoinFits
  join_fits =
      demanded JoinFits (same_bounds left.dimensions right.dimensions) s BoundsDiffer _ (λ bounds.
      if_ok (beside s left.dimensions both) (λ schema. schema ≡ side_by_side left.dimensions both) JoinFits
      (λ schema same. record {
        bounds = bounds;
        schema = same;
        valid = λ within. subst IsValid (sym same) (beside_valid left.dimensions both some one (omega (arith, few_left, few_attributes)) l.each (subst IsWithin same within));
      })
      (are_side_by_side s left.dimensions both))

  pub record CrossFits (p : Crossed) : Type 0 where
    pub pairs : pairs_dimensions p.pairs left right ≡ true
    pub schema : p.schema ≡ cross_schema p.pairs left right
    pub valid : IsWithin p.schema → IsValid p.schema

  abbrev all_dimensions : List Pair → List Dimension
  all_dimensions pairs = left.dimensions ++ items_but (right_places pairs) 0 right.dimensions

  pairs_fit : (pairs : List Pair) → Paired left.dimensions right.dimensions pairs → pairs_dimensions pairs left right ≡ true
  pairs_fit pairs paired =
      let a = are_below (length left.dimensions) (left_places pairs) in
      let b = are_apart (left_places pairs) in
      let c = are_below (length right.dimensions) (right_places pairs) in
      let d = are_apart (right_places pairs) in
      and_from (a && b && c) d (and_from (a && b) c (and_from a b paired.on_left.below paired.on_left.apart) paired.on_right.below) paired.on_right.apart

  crossed_fits : (pairs : List Pair) → Paired left.dimensions right.dimensions pairs → IfOk (crossed_by s left right pairs) CrossFits
  crossed_fits pairs paired =
      let dims = all_dimensions pairs in
      let rest = items_but (right_places pairs) 0 right.dimensions in
      thens CrossFits (crossed_schema s pairs left right) _ (λ schema e.
      let same : schema ≡ side_by_side dims both = of_answer (λ x. x ≡ side_by_side dims both) (beside s dims both) schema (are_side_by_side s dims both) e in
      let each : list_all is_dimension dims ≡ true = list_all-append is_dimension left.dimensions rest ∙ and_from (list_all is_dimension left.dimensions) (list_all is_dimension rest) l.each (all_but is_dimension (right_places pairs) 0 right.dimensions r.each) in
      let count = length-append left.dimensions rest in
      record {
        pairs = pairs_fit pairs paired;
        schema = same;
        valid = λ within. subst IsValid (sym same) (beside_valid dims both some (omega (arith, one, count)) (omega (arith, few_left, few_right, few_attributes, count, fewer_but (right_places pairs) 0 right.dimensions)) each (subst IsWithin same within));
      })

  pub cross_fits : (arguments : List Term) → IfOk (cross_parts s left right arguments) CrossFits
  cross_fits arguments =
      unless_ok CrossFits (first_but is_name arguments) _
      (thens CrossFits (pairs_in_turn (pair_one left.dimensions right.dimensions) [] arguments) _ (λ pairs e.
      crossed_fits pairs (of_answer (Paired left.dimensions right.dimensions) (pairs_in_turn (pair_one left.dimensions right.dimensions) [] arguments) pairs (all_paired left.dimensions right.dimensions arguments) e)))
