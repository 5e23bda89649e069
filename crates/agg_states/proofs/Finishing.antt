-- What a state tells is the aggregate of the cells for which it stands.
use Rattle.std.proofs.Common.{◌≡◌, ℕ, suc, zero, ℤ, pos, Bool, true, false, not, cond, List, [], ◌∷◌, length, slice_get, slice_index_or, Option, Some, None, unwrap_or, IsTrue, refl, sym, ap, ◌∙◌, subst, inl, inr, ◌⊎◌}
use Rattle.std.proofs.lemmas.List.{length-map}
use Rattle.std.specs.FinMap.{slice_cmp-IsAntisymmetric, int_cmp-IsAntisymmetric, nat_cmp-IsAntisymmetric}
use Rattle.std.specs.List.{AllByRecursion, list_any}
use Rattle.std.specs.Option.{option_map, option_or}
use Rattle.std.specs.declared.cmp.Ordering.{Ordering}
use Rattle.std.specs.declared.cmp.Ordering.TheVariants.{Less, Equal, Greater}
use Rattle.std.specs.Ordering.{is_lt, int_cmp, nat_cmp, ordering_then, ordering_reverse, flip_args}
use Rattle.std.specs.Cmp.{IsTotalOrder}
use Rattle.std.specs.Cmp.Lexicographic.{slice_cmp}
use Rattle.std.proofs.lemmas.Cmp.{int_cmp_total, nat_list_cmp_total}
use Rattle.arrayvec.specs.ArrayVec.{ArrayVec}
use Rattle.cell_values.specs.declared.datum.Broken.{Broken}
use Rattle.cell_values.specs.declared.datum.Cell.{Cell}
use Rattle.cell_values.specs.declared.datum.Cell.TheVariants.{Full, Doubt}
use Rattle.cell_values.specs.declared.datum.Datum.{Datum}
use Rattle.cell_values.specs.declared.datum.Datum.TheVariants.{Null, Int, Text, Bad}
use Rattle.cell_values.specs.declared.datum.FaultKind.{FaultKind}
use Rattle.cell_values.specs.declared.datum.Row.{Row}
use Rattle.cell_values.specs.declared.schema.Attribute.{Attribute}
use Rattle.cell_values.specs.declared.schema.Kind.{Kind}
use Rattle.cell_values.specs.declared.schema.Kind.TheVariants.{Int64, Str, Bool as Truths}
use Rattle.cell_values.specs.Cells.{is_of_kind, AreOfKinds, IsCellOf}
use Rattle.cell_values.specs.Nulls.{is_null}
use Rattle.expr_nulls.specs.Typing.{same_kind}
use Rattle.logical_plan.specs.declared.parts.AggFunction.{AggFunction}
use Rattle.logical_plan.specs.declared.parts.AggFunction.TheVariants.{Sum, Count, CountAll, Min, Max}
use Rattle.logical_plan.specs.declared.parts.Aggregate.{Aggregate}
use Rattle.logical_plan.specs.Groups.{attribute_of, bad_kind, fault_for, first_some, lesser, greater, least, greatest, result_of, unless, sum_of, sum_or_null, cells_of, aggregate_of}
use Rattle.logical_plan.specs.Typing.{takes, is_aggregate_of}
use Rattle.agg_states.specs.Best.{value_order, IsOneOf, IsBestFor}
use Rattle.agg_states.specs.Merged.{keeps_one, total_or_null, outcome, finished}
use Rattle.agg_states.specs.Stands.{fault_at, values_in, StandsFor}
use Rattle.agg_states.specs.Inner.Summary.{Summary}
use Rattle.agg_states.proofs.FaultLaws.{fault_kind}
use Rattle.agg_states.proofs.Reorderings.{all-one}

-- ---- values of one kind that has an order

abbrev is_plain : Kind → Datum → Bool
is_plain Int64 (Int n) = true
is_plain Str (Text s) = true
is_plain k v = false

then_equal : (o : Ordering) → ordering_then o Equal ≡ o
then_equal Less = refl
then_equal Equal = refl
then_equal Greater = refl

-- of two that do not come before one another each is the other
equal_of : {A : Type 0} (R : A → A → Ordering) → IsTotalOrder R → ((x y : A) → R x y ≡ Equal → x ≡ y) → (x y : A) → is_lt (R x y) ≡ false → is_lt (R y x) ≡ false → x ≡ y
equal_of R total exact x y p q = exact x y (cases (R x y) refl p)
  where
    cases : (o : Ordering) → R x y ≡ o → is_lt (R x y) ≡ false → R x y ≡ Equal
    cases Equal e p = e
    cases Less e p = let f : true ≡ false = ap is_lt (sym e) ∙ p in cc
    cases Greater e p = let f : true ≡ false = ap is_lt (sym (total.antisymm y x ∙ ap ordering_reverse e)) ∙ q in cc

alike : (k : Kind) (v w : Datum) → is_plain k v ≡ true → is_plain k w ≡ true → is_lt (value_order v w) ≡ false → is_lt (value_order w v) ≡ false → v ≡ w
alike Int64 (Int a) (Int b) p q e f =
    ap Int (equal_of int_cmp int_cmp_total int_cmp-IsAntisymmetric a b (ap is_lt (sym (then_equal (int_cmp a b))) ∙ e) (ap is_lt (sym (then_equal (int_cmp b a))) ∙ f))
alike Str (Text s) (Text t) p q e f = ap Text (equal_of (slice_cmp nat_cmp) nat_list_cmp_total (slice_cmp-IsAntisymmetric nat_cmp-IsAntisymmetric) s t e f)
alike k v w p q e f = cc

lesser_stays : (k : Kind) (v w : Datum) → is_plain k v ≡ true → is_plain k w ≡ true → (t : Bool) → is_lt (value_order w v) ≡ t → lesser v w ≡ cond t w v
lesser_stays Int64 (Int a) (Int b) p q t e = ap (λ u. cond u (Int b) (Int a)) (ap is_lt (sym (then_equal (int_cmp b a))) ∙ e)
lesser_stays Str (Text a) (Text b) p q t e = ap (λ u. cond u (Text b) (Text a)) e
lesser_stays k v w p q t e = cc

greater_stays : (k : Kind) (v w : Datum) → is_plain k v ≡ true → is_plain k w ≡ true → (t : Bool) → is_lt (value_order v w) ≡ t → greater v w ≡ cond t w v
greater_stays Int64 (Int a) (Int b) p q t e = ap (λ u. cond u (Int b) (Int a)) (ap is_lt (sym (then_equal (int_cmp a b))) ∙ e)
greater_stays Str (Text a) (Text b) p q t e = ap (λ u. cond u (Text b) (Text a)) e
greater_stays k v w p q t e = cc

-- ---- the value that no other beats is the least or greatest one

abbrev folded : (Datum → Datum → Datum) → List Datum → Datum
folded pick [] = Null
folded pick (v ∷ vs) = pick v (folded pick vs)

abbrev IsPlain : Kind → Datum → Type 0
IsPlain k v = is_plain k v ≡ true

module _ (R : Datum → Datum → Ordering) (pick : Datum → Datum → Datum) (k : Kind) (alone : (v : Datum) → pick v Null ≡ v)
    (picks : (v w : Datum) → IsPlain k v → IsPlain k w → (t : Bool) → is_lt (R w v) ≡ t → pick v w ≡ cond t w v)
    (same : (v w : Datum) → IsPlain k v → IsPlain k w → is_lt (R v w) ≡ false → is_lt (R w v) ≡ false → v ≡ w) where
  folded_among : (vs : List Datum) → AllByRecursion (IsPlain k) vs → (folded pick vs ≡ Null) ⊎ IsOneOf (folded pick vs) vs
  folded_among [] h = inl refl
  folded_among (v ∷ vs) h = cases (folded_among vs h.1)
    where
      picked : IsOneOf (folded pick vs) vs → (t : Bool) → is_lt (R (folded pick vs) v) ≡ t → IsOneOf (pick v (folded pick vs)) (v ∷ vs)
      picked o true e = inr (subst (λ w. IsOneOf w vs) (sym (picks v (folded pick vs) h.0 (all-one (IsPlain k) vs (folded pick vs) h.1 o) true e)) o)
      picked o false e = inl (sym (picks v (folded pick vs) h.0 (all-one (IsPlain k) vs (folded pick vs) h.1 o) false e))

      cases : (folded pick vs ≡ Null) ⊎ IsOneOf (folded pick vs) vs → (pick v (folded pick vs) ≡ Null) ⊎ IsOneOf (pick v (folded pick vs)) (v ∷ vs)
      cases (inl e) = inr (inl (sym (ap (pick v) e ∙ alone v)))
      cases (inr o) = inr (picked o (is_lt (R (folded pick vs) v)) refl)

  unbeaten_folded : (vs : List Datum) (best : Datum) → AllByRecursion (IsPlain k) vs → IsOneOf best vs → AllByRecursion (λ v. is_lt (R v best) ≡ false) vs → folded pick vs ≡ best
  unbeaten_folded [] best h o b = absurd o
  unbeaten_folded (v ∷ vs) best h (inl e) b = cases (folded_among vs h.1) ∙ e
    where
      cases : (folded pick vs ≡ Null) ⊎ IsOneOf (folded pick vs) vs → pick v (folded pick vs) ≡ v
      cases (inl n) = ap (pick v) n ∙ alone v
      cases (inr o) =
          picks v (folded pick vs) h.0 (all-one (IsPlain k) vs (folded pick vs) h.1 o) false
          (ap (λ w. is_lt (R (folded pick vs) w)) e ∙ all-one (λ w. is_lt (R w best) ≡ false) vs (folded pick vs) b.1 o)
  unbeaten_folded (v ∷ vs) best h (inr o) b = ap (pick v) (unbeaten_folded vs best h.1 o b.1) ∙ cases (is_lt (R best v)) refl
    where
      plain : IsPlain k best
      plain = all-one (IsPlain k) vs best h.1 o

      cases : (t : Bool) → is_lt (R best v) ≡ t → pick v best ≡ best
      cases true e = picks v best h.0 plain true e
      cases false e = picks v best h.0 plain false e ∙ same v best h.0 plain b.0 e

least_folded : (vs : List Datum) → least vs ≡ folded lesser vs
least_folded [] = refl
least_folded (v ∷ vs) = ap (lesser v) (least_folded vs)

greatest_folded : (vs : List Datum) → greatest vs ≡ folded greater vs
greatest_folded [] = refl
greatest_folded (v ∷ vs) = ap (greater v) (greatest_folded vs)

unbeaten_least : (k : Kind) (best : Option Datum) (vs : List Datum) → AllByRecursion (IsPlain k) vs → IsBestFor Min best vs → unwrap_or best Null ≡ least vs
unbeaten_least k None vs h u = ap least (sym u)
unbeaten_least k (Some best) vs h u = sym (least_folded vs ∙ unbeaten_folded value_order lesser k (λ v. refl) (lesser_stays k) (alike k) vs best h u.0 u.1)

unbeaten_greatest : (k : Kind) (best : Option Datum) (vs : List Datum) → AllByRecursion (IsPlain k) vs → IsBestFor Max best vs → unwrap_or best Null ≡ greatest vs
unbeaten_greatest k None vs h u = ap greatest (sym u)
unbeaten_greatest k (Some best) vs h u =
    sym (greatest_folded vs ∙ unbeaten_folded (flip_args value_order) greater k (λ v. refl) (greater_stays k) (λ v w p q e f. alike k v w p q f e) vs best h u.0 u.1)

-- ---- the kinds of the values

value_of_kind : (attributes : List Attribute) (vs : List Datum) (x : ℕ) (a : Attribute) → AreOfKinds attributes vs → slice_get attributes x ≡ Some a → is_of_kind a.kind (slice_index_or vs x Null) ≡ true
value_of_kind [] vs x a h e = cc
value_of_kind (b ∷ attributes) [] x a h e = absurd h
value_of_kind (b ∷ attributes) (v ∷ vs) zero a h e = subst (λ o. kinds o) e h.0
  where
    kinds : Option Attribute → Type 0
    kinds None = ⊥
    kinds (Some c) = is_of_kind c.kind v ≡ true
value_of_kind (b ∷ attributes) (v ∷ vs) (suc x) a h e = value_of_kind attributes vs x a h.1 e

-- a value of an ordered kind that is neither null nor faulty
plain_of : (k : Kind) (v : Datum) → (k ≡ Int64) ⊎ (k ≡ Str) → is_of_kind k v ≡ true → is_null v ≡ false → bad_kind v ≡ None → is_plain k v ≡ true
plain_of Int64 (Int n) o t n' b = refl
plain_of Str (Text s) o t n b = refl
plain_of Truths v (inl e) t n b = cc
plain_of Truths v (inr e) t n b = cc
plain_of k v o t n b = cc

-- without a fault no value is one
value_plain : (f : AggFunction) (x : ℕ) (k : Kind) (cell : Cell) → keeps_one f ≡ true → (k ≡ Int64) ⊎ (k ≡ Str) → is_of_kind k (attribute_of x cell) ≡ true → fault_for f x cell ≡ None → is_null (attribute_of x cell) ≡ false → is_plain k (attribute_of x cell) ≡ true
value_plain Min x k (Full vs) p o t b n = plain_of k (slice_index_or vs x Null) o t n b
value_plain Max x k (Full vs) p o t b n = plain_of k (slice_index_or vs x Null) o t n b
value_plain f x k (Doubt kind) p o t b n = cc
value_plain f x k (Full vs) p o t b n = cc

no_fault : (at : ArrayVec ℤ) (o : Option FaultKind) (later : Option Broken) → option_or (option_map (λ kind. record { at = at; kind = kind }) o) later ≡ None → (o ≡ None) × (later ≡ None)
no_fault at None later e = (refl, e)
no_fault at (Some kind) later e = cc

plain_values : (g : Aggregate) (k : Kind) (rows : List Row) → keeps_one g.function ≡ true → (k ≡ Int64) ⊎ (k ≡ Str) → AllByRecursion (λ row. is_of_kind k (attribute_of g.attribute row.cell) ≡ true) rows → first_some (fault_at g) rows ≡ None → AllByRecursion (IsPlain k) (values_in g rows)
plain_values g k [] p o h e = tt
plain_values g k (row ∷ rows) p o h e = with_value (is_null (attribute_of g.attribute row.cell)) refl (plain_values g k rows p o h.1 none.1)
  where
    none : (fault_for g.function g.attribute row.cell ≡ None) × (first_some (fault_at g) rows ≡ None)
    none = no_fault row.at (fault_for g.function g.attribute row.cell) (first_some (fault_at g) rows) e

    with_value : (n : Bool) → is_null (attribute_of g.attribute row.cell) ≡ n → AllByRecursion (IsPlain k) (values_in g rows) → AllByRecursion (IsPlain k) (cond (not n) (attribute_of g.attribute row.cell ∷ values_in g rows) (values_in g rows))
    with_value true n ih = ih
    with_value false n ih = (value_plain g.function g.attribute k row.cell p o h.0 none.0 n, ih)

cell_kind : (attributes : List Attribute) (x : ℕ) (a : Attribute) (cell : Cell) → slice_get attributes x ≡ Some a → IsCellOf attributes cell → is_of_kind a.kind (attribute_of x cell) ≡ true
cell_kind attributes x a (Full vs) e h = value_of_kind attributes vs x a h e
cell_kind attributes x a (Doubt kind) e h = refl

row_kinds : (attributes : List Attribute) (x : ℕ) (a : Attribute) (rows : List Row) → slice_get attributes x ≡ Some a → AllByRecursion (λ row. IsCellOf attributes row.cell) rows → AllByRecursion (λ row. is_of_kind a.kind (attribute_of x row.cell) ≡ true) rows
row_kinds attributes x a [] e h = tt
row_kinds attributes x a (row ∷ rows) e h = (cell_kind attributes x a row.cell e h.0, row_kinds attributes x a rows e h.1)

ordered_kind : (k : Kind) → list_any (same_kind k) (Int64 ∷ Str ∷ []) ≡ true → (k ≡ Int64) ⊎ (k ≡ Str)
ordered_kind Int64 e = inl refl
ordered_kind Str e = inr refl
ordered_kind Truths e = cc

ordered_attribute : (f : AggFunction) (o : Option Attribute) → keeps_one f ≡ true → takes f o ≡ true → (a : Attribute) × (o ≡ Some a) × ((a.kind ≡ Int64) ⊎ (a.kind ≡ Str))
ordered_attribute Min (Some a) p e = (a, refl, ordered_kind a.kind e)
ordered_attribute Max (Some a) p e = (a, refl, ordered_kind a.kind e)
ordered_attribute f o p e = cc

-- ---- the value

total_is : (vs : List Datum) → total_or_null (length vs) (sum_of vs) ≡ sum_or_null vs
total_is [] = refl
total_is (v ∷ vs) = refl

outcome_is : (f : AggFunction) (vs : List Datum) (n m : ℕ) (best : Option Datum) → n ≡ m → IsBestFor f best vs → (keeps_one f ≡ true → (k : Kind) × AllByRecursion (IsPlain k) vs) → outcome f n (length vs) (sum_of vs) best ≡ result_of f vs m
outcome_is Sum vs n m best e u plain = total_is vs
outcome_is Count vs n m best e u plain = refl
outcome_is CountAll vs n m best e u plain = ap (λ l. Int (pos l)) e
outcome_is Min vs n m best e u plain =
    let p = plain refl in
    unbeaten_least p.0 best vs p.1 u
outcome_is Max vs n m best e u plain =
    let p = plain refl in
    unbeaten_greatest p.0 best vs p.1 u

finish_is : (g : Aggregate) (attributes : List Attribute) (rows : List Row) (s : Summary) → StandsFor g rows s → IsTrue (is_aggregate_of attributes g) → AllByRecursion (λ row. IsCellOf attributes row.cell) rows → finished s ≡ aggregate_of g (cells_of rows)
finish_is g attributes rows s stands typed kinds =
    (λ i. unless (option_map (λ broken. broken.kind) (stands.fault i)) (outcome (stands.function i) (stands.cells i) (stands.values i) (stands.total i) s.best))
    ∙ cases (first_some (fault_at g) rows) refl
    ∙ ap (λ o. unless o (result_of g.function (values_in g rows) (length (cells_of rows)))) (sym (fault_kind g rows))
  where
    plain : first_some (fault_at g) rows ≡ None → keeps_one g.function ≡ true → (k : Kind) × AllByRecursion (IsPlain k) (values_in g rows)
    plain none p =
        let a = ordered_attribute g.function (slice_get attributes g.attribute) p typed in
        (a.0.kind, plain_values g a.0.kind rows p a.2 (row_kinds attributes g.attribute a.0 rows a.1 kinds) none)

    cases : (o : Option Broken) → first_some (fault_at g) rows ≡ o
        → unless (option_map (λ broken. broken.kind) (first_some (fault_at g) rows)) (outcome g.function (length rows) (length (values_in g rows)) (sum_of (values_in g rows)) s.best)
        ≡ unless (option_map (λ broken. broken.kind) (first_some (fault_at g) rows)) (result_of g.function (values_in g rows) (length (cells_of rows)))
    cases None e =
        ap (unless (option_map (λ broken. broken.kind) (first_some (fault_at g) rows)))
        (outcome_is g.function (values_in g rows) (length rows) (length (cells_of rows)) s.best (sym (length-map rows (λ row. row.cell))) stands.best (plain e))
    cases (Some broken) e =
        ap (λ o. unless (option_map (λ b. b.kind) o) (outcome g.function (length rows) (length (values_in g rows)) (sum_of (values_in g rows)) s.best)) e
        ∙ sym (ap (λ o. unless (option_map (λ b. b.kind) o) (result_of g.function (values_in g rows) (length (cells_of rows)))) e)

-- ---- the two ways of telling it

pub told_fault : (g : Aggregate) (attributes : List Attribute) (rows : List Row) (s : Summary) → StandsFor g rows s → IsTrue (is_aggregate_of attributes g) → AllByRecursion (λ row. IsCellOf attributes row.cell) rows
    → (broken : Broken) → s.fault ≡ Some broken → Bad broken.kind ≡ aggregate_of g (cells_of rows)
told_fault g attributes rows s stands typed kinds broken e =
    ap (λ o. unless (option_map (λ b. b.kind) o) (outcome s.function s.cells s.values s.total s.best)) (sym e)
    ∙ finish_is g attributes rows s stands typed kinds

pub told_outcome : (g : Aggregate) (attributes : List Attribute) (rows : List Row) (s : Summary) → StandsFor g rows s → IsTrue (is_aggregate_of attributes g) → AllByRecursion (λ row. IsCellOf attributes row.cell) rows
    → (v : Datum) → s.fault ≡ None → v ≡ outcome s.function s.cells s.values s.total s.best → v ≡ aggregate_of g (cells_of rows)
told_outcome g attributes rows s stands typed kinds v e f =
    f ∙ ap (λ o. unless (option_map (λ b. b.kind) o) (outcome s.function s.cells s.values s.total s.best)) (sym e)
    ∙ finish_is g attributes rows s stands typed kinds
