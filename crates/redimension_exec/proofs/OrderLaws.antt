-- Aggregates in the order of the attributes that have their names.
use Rattle.std.proofs.Common.{◌≡◌, ℕ, ◌+◌, ◌<◌, ◌≤◌, Bool, true, false, cond, IsTrue, List, [], ◌∷◌, ◌++◌, map, length, get_or, take, Option, Some, None, refl, sym, ap, ◌∙◌, subst, arith}
use Rattle.std.proofs.lemmas.List.{take_more}
use Rattle.std.proofs.lemmas.List.Elements.{filter_map-append}
use Rattle.std.specs.List.{cons_option, filter_map, list_all}
use Rattle.std.specs.Option.{option_to_list}
use Rattle.std.specs.Prelude.{◌&&◌, ◌==◌}
use Rattle.std.specs.Str.{bytes_eq}
use Rattle.array_geom.proofs.TestLaws.{and_parts}
use Rattle.cell_values.specs.declared.datum.Cell.TheVariants.{Full}
use Rattle.cell_values.specs.declared.datum.Datum.{Datum}
use Rattle.cell_values.specs.declared.datum.Row.{Row}
use Rattle.cell_values.specs.declared.schema.Attribute.{Attribute}
use Rattle.cell_values.specs.declared.schema.Schema.{Schema}
use Rattle.cell_values.specs.Schemas.{are_distinct, is_among, attribute_names}
use Rattle.logical_plan.specs.declared.parts.Aggregate.{Aggregate}
use Rattle.logical_plan.specs.Groups.{aggregate_of, aggregates_of, cells_of}
use Rattle.logical_plan.specs.PlanSchema.{aggregate_kind}
use Rattle.logical_plan.specs.Redimension.{Origin, from_dimension, from_attribute, counted, origin_of, counted_places, named, value_or_null, by_names}
use Rattle.logical_plan.specs.Typing.{is_aggregate_of, are_aggregates_of, aggregate_names, is_kind_of, kinds_of, redimensions, synthetic_count}
use Rattle.redimension_exec.specs.Inner.Counting.{has_counted}
use Rattle.redimension_exec.proofs.ValueLaws.{same as kind_same}

-- ---- what a redimension with aggregates asks for

is_zero : (n : ℕ) → (n == 0) ≡ true → n ≡ 0
is_zero n e = grind (arith, e)

none_counted : (origins : List Origin) (n : ℕ) → (length (counted_places origins n) == 0) ≡ true → has_counted origins ≡ false
none_counted [] n e = refl
none_counted (counted lo ∷ origins) n e = absurd (let none = is_zero (length (counted_places (counted lo ∷ origins) n)) e in omega (arith, none))
none_counted (from_dimension place ∷ origins) n e = none_counted origins (n + 1) e
none_counted (from_attribute place ∷ origins) n e = none_counted origins (n + 1) e

-- no dimension is synthetic, the aggregates take values of their kinds, and each attribute has the name and the kind of one
pub record Gathers (source target : Schema) (gs : List Aggregate) : Type 0 where
  pub plain : has_counted (map (origin_of source) target.dimensions) ≡ false
  pub typed : IsTrue (are_aggregates_of source.attributes gs)
  pub named_all : IsTrue (list_all (λ a. is_kind_of source.attributes a.kind (named gs a.name)) target.attributes)

pub gathers : (source target : Schema) (gs : List Aggregate) → 1 ≤ length gs → IsTrue (redimensions source target gs) → Gathers source target gs
gathers source target [] some typed = absurd (omega (arith, some))
gathers source target (g ∷ gs) some typed =
    let a = and_parts ((synthetic_count source target == 0) && are_aggregates_of source.attributes (g ∷ gs) && are_distinct (aggregate_names (g ∷ gs))
    && list_all (λ a. is_kind_of source.attributes a.kind (named (g ∷ gs) a.name)) target.attributes)
    (list_all (λ name. is_among name (attribute_names target.attributes)) (aggregate_names (g ∷ gs))) typed in
    let b = and_parts ((synthetic_count source target == 0) && are_aggregates_of source.attributes (g ∷ gs) && are_distinct (aggregate_names (g ∷ gs)))
    (list_all (λ a. is_kind_of source.attributes a.kind (named (g ∷ gs) a.name)) target.attributes) a.0 in
    let c = and_parts ((synthetic_count source target == 0) && are_aggregates_of source.attributes (g ∷ gs)) (are_distinct (aggregate_names (g ∷ gs))) b.0 in
    let d = and_parts (synthetic_count source target == 0) (are_aggregates_of source.attributes (g ∷ gs)) c.0 in
    record { plain = none_counted (map (origin_of source) target.dimensions) 0 d.0; typed = d.1; named_all = b.1 }

-- ---- the aggregates that attributes name

abbrev pub ordered : List Attribute → List Aggregate → List Aggregate
ordered attributes gs = filter_map (λ a. named gs a.name) attributes

single : {A : Type 0} (o : Option A) → cons_option o [] ≡ option_to_list o
single None = refl
single (Some x) = refl

pub next_named : (attributes items : List Attribute) (gs found new : List Aggregate) (i : ℕ) (a : Attribute) → items ≡ attributes → i < length items → a ≡ get_or items i a → found ≡ ordered (take i attributes) gs
    → new ≡ found ++ option_to_list (named gs a.name) → new ≡ ordered (take (i + 1) attributes) gs
next_named attributes items gs found new i a same l e f n =
    n
    ∙ (λ j. (f ∙ ap (λ (those : List Attribute). ordered (take i those) gs) (sym same)) j ++ sym (single (named gs a.name)) j)
    ∙ sym (filter_map-append (λ (b : Attribute). named gs b.name) (take i items) (a ∷ []))
    ∙ ap (λ (b : Attribute). ordered (take i items ++ b ∷ []) gs) e
    ∙ ap (λ (those : List Attribute). ordered those gs) (sym (take_more items i a l))
    ∙ ap (λ (those : List Attribute). ordered (take (i + 1) those) gs) same

named_passes : (p : Aggregate → Bool) (gs : List Aggregate) (name : List ℕ) (g : Aggregate) → list_all p gs ≡ true → named gs name ≡ Some g → p g ≡ true
named_passes p [] name g h e = absurd cc
named_passes p (f ∷ gs) name g h e = cases (bytes_eq f.name name) e (λ k. named_passes p gs name g (and_parts (p f) (list_all p gs) h).1 k)
  where
    cases : (b : Bool) → cond b (Some f) (named gs name) ≡ Some g → (named gs name ≡ Some g → p g ≡ true) → p g ≡ true
    cases true k again = let found : f ≡ g = cc (k) in subst (λ (x : Aggregate). p x ≡ true) found (and_parts (p f) (list_all p gs) h).0
    cases false k again = again k

pub ordered_typed : (source : List Attribute) (attributes : List Attribute) (gs : List Aggregate) → are_aggregates_of source gs ≡ true → are_aggregates_of source (ordered attributes gs) ≡ true
ordered_typed source [] gs t = refl
ordered_typed source (a ∷ attributes) gs t = cases (named gs a.name) refl (ordered_typed source attributes gs t)
  where
    cases : (o : Option Aggregate) → named gs a.name ≡ o → are_aggregates_of source (ordered attributes gs) ≡ true → are_aggregates_of source (cons_option o (ordered attributes gs)) ≡ true
    cases None e ih = ih
    cases (Some g) e ih = ap (λ (b : Bool). b && are_aggregates_of source (ordered attributes gs)) (named_passes (is_aggregate_of source) gs a.name g t e) ∙ ih

pub ordered_kinds : (source : List Attribute) (attributes : List Attribute) (gs : List Aggregate) → list_all (λ a. is_kind_of source a.kind (named gs a.name)) attributes ≡ true
    → kinds_of attributes ≡ map (aggregate_kind source) (ordered attributes gs)
ordered_kinds source [] gs h = refl
ordered_kinds source (a ∷ attributes) gs h = cases (named gs a.name) each.0 (ordered_kinds source attributes gs each.1)
  where
    each : (is_kind_of source a.kind (named gs a.name) ≡ true) × (list_all (λ b. is_kind_of source b.kind (named gs b.name)) attributes ≡ true)
    each = and_parts (is_kind_of source a.kind (named gs a.name)) (list_all (λ b. is_kind_of source b.kind (named gs b.name)) attributes) h

    cases : (o : Option Aggregate) → is_kind_of source a.kind o ≡ true → kinds_of attributes ≡ map (aggregate_kind source) (ordered attributes gs) → a.kind ∷ kinds_of attributes ≡ map (aggregate_kind source) (cons_option o (ordered attributes gs))
    cases None k ih = absurd cc
    cases (Some g) k ih = λ i. sym (kind_same (aggregate_kind source g) a.kind k) i ∷ ih i

values_named : (source : List Attribute) (attributes : List Attribute) (gs : List Aggregate) (rows : List Row) → list_all (λ a. is_kind_of source a.kind (named gs a.name)) attributes ≡ true
    → map (λ a. value_or_null (named gs a.name) rows) attributes ≡ map (λ g. aggregate_of g (cells_of rows)) (ordered attributes gs)
values_named source [] gs rows h = refl
values_named source (a ∷ attributes) gs rows h = cases (named gs a.name) each.0 (values_named source attributes gs rows each.1)
  where
    each : (is_kind_of source a.kind (named gs a.name) ≡ true) × (list_all (λ b. is_kind_of source b.kind (named gs b.name)) attributes ≡ true)
    each = and_parts (is_kind_of source a.kind (named gs a.name)) (list_all (λ b. is_kind_of source b.kind (named gs b.name)) attributes) h

    cases : (o : Option Aggregate) → is_kind_of source a.kind o ≡ true → map (λ b. value_or_null (named gs b.name) rows) attributes ≡ map (λ g. aggregate_of g (cells_of rows)) (ordered attributes gs)
        → value_or_null o rows ∷ map (λ b. value_or_null (named gs b.name) rows) attributes ≡ map (λ g. aggregate_of g (cells_of rows)) (cons_option o (ordered attributes gs))
    cases None k ih = absurd cc
    cases (Some g) k ih = ap (λ (vs : List Datum). aggregate_of g (cells_of rows) ∷ vs) ih

-- in the order of the attributes the aggregates give the values by names
pub cell_named : (source : List Attribute) (attributes : List Attribute) (gs : List Aggregate) (rows : List Row) → list_all (λ a. is_kind_of source a.kind (named gs a.name)) attributes ≡ true
    → by_names attributes gs rows ≡ aggregates_of (ordered attributes gs) rows
cell_named source attributes gs rows h = ap (λ (vs : List Datum). Full vs) (values_named source attributes gs rows h)
