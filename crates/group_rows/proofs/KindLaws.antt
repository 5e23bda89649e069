-- Aggregates are values of their kinds.
use Rattle.std.proofs.Common.{◌≡◌, ℕ, zero, suc, ◌<◌, ◌≤◌, ℤ, pos, Bool, true, false, not, cond, IsTrue, List, [], ◌∷◌, map, filter, length, get_or, slice_get, Option, Some, None, refl, sym, ap, subst, arith}
use Rattle.std.proofs.lemmas.List.{length-map}
use Rattle.std.specs.Prelude.{slice_index_or}
use Rattle.std.specs.List.{AllByRecursion}
use Rattle.std.specs.Ordering.{is_lt}
use Rattle.cell_values.specs.declared.datum.Cell.{Cell}
use Rattle.cell_values.specs.declared.datum.Cell.TheVariants.{Full, Doubt}
use Rattle.cell_values.specs.declared.datum.Datum.{Datum}
use Rattle.cell_values.specs.declared.datum.Datum.TheVariants.{Null, Missing, Int, Text, Truth, Bad}
use Rattle.cell_values.specs.declared.datum.FaultKind.{FaultKind}
use Rattle.cell_values.specs.declared.datum.FaultKind.TheVariants.{Overflow}
use Rattle.cell_values.specs.declared.schema.Attribute.{Attribute}
use Rattle.cell_values.specs.declared.schema.Kind.{Kind}
use Rattle.cell_values.specs.declared.schema.Kind.TheVariants.{Int64, Str, Bool as Truths}
use Rattle.cell_values.specs.Cells.{is_of_kind, AreOfKinds, IsCellOf}
use Rattle.cell_values.specs.Nulls.{is_null}
use Rattle.cell_values.specs.Table.{fits_int64}
use Rattle.array_parts.proofs.PartLemmas.{all_kept}
use Rattle.logical_plan.specs.declared.parts.AggFunction.{AggFunction}
use Rattle.logical_plan.specs.declared.parts.AggFunction.TheVariants.{Sum, Count, CountAll, Min, Max}
use Rattle.logical_plan.specs.declared.parts.Aggregate.{Aggregate}
use Rattle.logical_plan.specs.Groups.{attribute_of, datum_cmp, lesser, greater, least, greatest, unless, values_of, sum_of, sum_or_null, result_of, first_some, fault_for, aggregate_of}
use Rattle.logical_plan.specs.PlanSchema.{result_kind, aggregate_kind}
use Rattle.logical_plan.specs.Typing.{takes, is_aggregate_of, kinds_of}

abbrev HasKind : Kind → Datum → Type 0
HasKind kind v = IsTrue (is_of_kind kind v)

fault_has_kind : (kind : Kind) (fault : FaultKind) → HasKind kind (Bad fault)
fault_has_kind Int64 fault = refl
fault_has_kind Str fault = refl
fault_has_kind Truths fault = refl

null_has_kind : (kind : Kind) → HasKind kind Null
null_has_kind Int64 = refl
null_has_kind Str = refl
null_has_kind Truths = refl

unless_fault : (kind : Kind) (o : Option FaultKind) (v : Datum) → HasKind kind v → HasKind kind (unless o v)
unless_fault kind None v h = h
unless_fault kind (Some fault) v h = fault_has_kind kind fault

-- ---- the values of an attribute

abbrev HasKindOf : Option Attribute → Datum → Type 0
HasKindOf (Some a) v = HasKind a.kind v
HasKindOf None v = ⊥

value_at : (attributes : List Attribute) (vs : List Datum) (x : ℕ) (a : Attribute) → AreOfKinds attributes vs → slice_get attributes x ≡ Some a → HasKind a.kind (slice_index_or vs x Null)
value_at [] [] x a h e = null_has_kind a.kind
value_at [] (v ∷ vs) x a h e = absurd h
value_at (b ∷ attributes) [] x a h e = absurd h
value_at (b ∷ attributes) (v ∷ vs) zero a h e = subst (λ (o : Option Attribute). HasKindOf o v) e h.0
value_at (b ∷ attributes) (v ∷ vs) (suc x) a h e = value_at attributes vs x a h.1 e

each_value : (attributes : List Attribute) (x : ℕ) (a : Attribute) (cells : List Cell) → slice_get attributes x ≡ Some a → AllByRecursion (IsCellOf attributes) cells → AllByRecursion (HasKind a.kind) (map (attribute_of x) cells)
each_value attributes x a [] e h = tt
each_value attributes x a (Full vs ∷ cells) e h = (value_at attributes vs x a h.0 e, each_value attributes x a cells e h.1)
each_value attributes x a (Doubt fault ∷ cells) e h = (null_has_kind a.kind, each_value attributes x a cells e h.1)

chosen : (kind : Kind) (b : Bool) (v w : Datum) → HasKind kind v → HasKind kind w → HasKind kind (cond b w v)
chosen kind true v w h k = k
chosen kind false v w h k = h

lesser_kind : (kind : Kind) (v w : Datum) → HasKind kind v → HasKind kind w → HasKind kind (lesser v w)
lesser_kind kind v Null h k = h
lesser_kind kind v (Missing code) h k = chosen kind (is_lt (datum_cmp (Missing code) v)) v (Missing code) h k
lesser_kind kind v (Int n) h k = chosen kind (is_lt (datum_cmp (Int n) v)) v (Int n) h k
lesser_kind kind v (Text s) h k = chosen kind (is_lt (datum_cmp (Text s) v)) v (Text s) h k
lesser_kind kind v (Truth b) h k = chosen kind (is_lt (datum_cmp (Truth b) v)) v (Truth b) h k
lesser_kind kind v (Bad fault) h k = chosen kind (is_lt (datum_cmp (Bad fault) v)) v (Bad fault) h k

greater_kind : (kind : Kind) (v w : Datum) → HasKind kind v → HasKind kind w → HasKind kind (greater v w)
greater_kind kind v Null h k = h
greater_kind kind v (Missing code) h k = chosen kind (is_lt (datum_cmp v (Missing code))) v (Missing code) h k
greater_kind kind v (Int n) h k = chosen kind (is_lt (datum_cmp v (Int n))) v (Int n) h k
greater_kind kind v (Text s) h k = chosen kind (is_lt (datum_cmp v (Text s))) v (Text s) h k
greater_kind kind v (Truth b) h k = chosen kind (is_lt (datum_cmp v (Truth b))) v (Truth b) h k
greater_kind kind v (Bad fault) h k = chosen kind (is_lt (datum_cmp v (Bad fault))) v (Bad fault) h k

least_kind : (kind : Kind) (vs : List Datum) → AllByRecursion (HasKind kind) vs → HasKind kind (least vs)
least_kind kind [] h = null_has_kind kind
least_kind kind (v ∷ vs) h = lesser_kind kind v (least vs) h.0 (least_kind kind vs h.1)

greatest_kind : (kind : Kind) (vs : List Datum) → AllByRecursion (HasKind kind) vs → HasKind kind (greatest vs)
greatest_kind kind [] h = null_has_kind kind
greatest_kind kind (v ∷ vs) h = greater_kind kind v (greatest vs) h.0 (greatest_kind kind vs h.1)

-- ---- totals and numbers

exact_kind : (z : ℤ) (b : Bool) → fits_int64 z ≡ b → HasKind Int64 (cond b (Int z) (Bad Overflow))
exact_kind z true e = e
exact_kind z false e = refl

total_kind : (vs : List Datum) → HasKind Int64 (sum_or_null vs)
total_kind [] = refl
total_kind (v ∷ vs) = exact_kind (sum_of (v ∷ vs)) (fits_int64 (sum_of (v ∷ vs))) refl

number_kind : (n : ℕ) → n < 9223372036854775808 → HasKind Int64 (Int (pos n))
number_kind n l = grind (arith, l)

fewer_pass : (p : Datum → Bool) (vs : List Datum) → length (filter p vs) ≤ length vs
fewer_pass p [] = omega arith
fewer_pass p (v ∷ vs) = cases (p v) (fewer_pass p vs)
  where
    cases : (b : Bool) → length (filter p vs) ≤ length vs → length (cond b (v ∷ filter p vs) (filter p vs)) ≤ length (v ∷ vs)
    cases true l = omega (arith, l)
    cases false l = omega (arith, l)

fewer_values : (x : ℕ) (cells : List Cell) → length (values_of x cells) ≤ length cells
fewer_values x cells =
    let a = fewer_pass (λ (v : Datum). not (is_null v)) (map (attribute_of x) cells) in
    let b = length-map cells (attribute_of x) in
    omega (arith, a, b)

-- ---- aggregates

of_function : (f : AggFunction) (attributes : List Attribute) (x : ℕ) (cells : List Cell) → IsTrue (takes f (slice_get attributes x)) → AllByRecursion (IsCellOf attributes) cells → length cells < 9223372036854775808
    → HasKind (result_kind f (slice_get attributes x)) (result_of f (values_of x cells) (length cells))
of_function Sum attributes x cells t h l = total_kind (values_of x cells)
of_function Count attributes x cells t h l = number_kind (length (values_of x cells)) (let e = fewer_values x cells in omega (arith, e, l))
of_function CountAll attributes x cells t h l = number_kind (length cells) l
of_function Min attributes x cells t h l = cases (slice_get attributes x) refl t
  where
    cases : (o : Option Attribute) → slice_get attributes x ≡ o → IsTrue (takes Min o) → HasKind (result_kind Min o) (least (values_of x cells))
    cases None e t = absurd cc
    cases (Some a) e t = least_kind a.kind (values_of x cells) (all_kept (HasKind a.kind) (λ v. not (is_null v)) (map (attribute_of x) cells) (each_value attributes x a cells e h))
of_function Max attributes x cells t h l = cases (slice_get attributes x) refl t
  where
    cases : (o : Option Attribute) → slice_get attributes x ≡ o → IsTrue (takes Max o) → HasKind (result_kind Max o) (greatest (values_of x cells))
    cases None e t = absurd cc
    cases (Some a) e t = greatest_kind a.kind (values_of x cells) (all_kept (HasKind a.kind) (λ v. not (is_null v)) (map (attribute_of x) cells) (each_value attributes x a cells e h))

pub aggregate_has_kind : (attributes : List Attribute) (g : Aggregate) (cells : List Cell) → IsTrue (is_aggregate_of attributes g) → AllByRecursion (IsCellOf attributes) cells → length cells < 9223372036854775808
    → IsTrue (is_of_kind (aggregate_kind attributes g) (aggregate_of g cells))
aggregate_has_kind attributes g cells t h l =
    unless_fault (aggregate_kind attributes g) (first_some (fault_for g.function g.attribute) cells) (result_of g.function (values_of g.attribute cells) (length cells))
    (of_function g.function attributes g.attribute cells t h l)

-- values for attributes of these kinds
pub kinds_for : (attributes : List Attribute) (value : Aggregate → Datum) (targets : List Attribute) (gs : List Aggregate) → kinds_of targets ≡ map (aggregate_kind attributes) gs
    → AllByRecursion (λ g. IsTrue (is_of_kind (aggregate_kind attributes g) (value g))) gs → AreOfKinds targets (map value gs)
kinds_for attributes value [] [] e h = tt
kinds_for attributes value [] (g ∷ gs) e h = absurd (let l = ap length e in omega (arith, l))
kinds_for attributes value (a ∷ targets) [] e h = absurd (let l = ap length e in omega (arith, l))
kinds_for attributes value (a ∷ targets) (g ∷ gs) e h = (
  subst (λ (kind : Kind). IsTrue (is_of_kind kind (value g))) (sym (ap (λ (ks : List Kind). get_or ks 0 Int64) e)) h.0,
  kinds_for attributes value targets gs (ap rest e) h.1,
)
  where
    rest : List Kind → List Kind
    rest [] = []
    rest (k ∷ ks) = ks
