-- Where the values of a target come from, by the look-ups of the code.
use Rattle.std.proofs.Common.{◌≡◌, ℕ, suc, ◌+◌, ◌-◌, ◌≤◌, ℤ, pos, Bool, true, false, not, cond, ◌&&◌, ◌||◌, List, [], ◌∷◌, length, map, take, drop, get_or, Option, Some, None, refl, sym, ap, ◌∙◌, arith}
use Rattle.std.specs.Int.{from_bool}
use Rattle.std.specs.Prelude.{if◌then◌else◌, is_some, position}
use Rattle.std.specs.List.{find, list_any, list_all, position_from}
use Rattle.std.specs.Option.{option_map}
use Rattle.std.specs.Str.{bytes_eq}
use Rattle.std.proofs.lemmas.Iterator.Adapters.{position_from-zero}
use Rattle.std.proofs.lemmas.List.{take_all}
use Rattle.std.proofs.lemmas.List.Folds.{list_all-map}
use Rattle.cell_values.specs.declared.schema.Attribute.{Attribute}
use Rattle.cell_values.specs.declared.schema.Dimension.{Dimension}
use Rattle.cell_values.specs.declared.schema.Kind.TheVariants.{Int64}
use Rattle.cell_values.specs.declared.schema.Schema.{Schema}
use Rattle.cell_values.specs.Schemas.{attribute_names, is_among}
use Rattle.schema_grammar.specs.declared.kinds.TypeKind.{TypeKind}
use Rattle.schema_grammar.specs.declared.kinds.TypeKind.TheVariants.{UnknownName, WrongType}
use Rattle.expr_nulls.specs.Typing.{same_kind}
use Rattle.check_exprs.specs.Expressions.{attribute_place, dimension_place}
use Rattle.logical_plan.specs.Redimension.{Origin, counted, from_attribute, from_dimension, counted_places, named, origin_of, origin_or, place_where}
use Rattle.logical_plan.specs.Typing.{aggregate_names}
use Rattle.logical_plan.specs.declared.parts.Aggregate.{Aggregate}
use Rattle.check_sources.specs.Targets.{carried_fault, is_counted, is_synthetic, origin_fault, unnamed_fault}

-- the first place, of places from a number on
moved_on : (o : Option ℕ) (n : ℕ) → option_map (λ k. k + n) (option_map (λ k. k + 1) o) ≡ option_map (λ k. k + (n + 1)) o
moved_on None n = refl
moved_on (Some k) n = let more : (k + 1) + n ≡ k + (n + 1) = omega arith in ap Some more

placed_from : {A : Type 0} (p : A → Bool) (n : ℕ) (xs : List A) → option_map (λ k. k + n) (place_where p xs) ≡ position_from p n xs
placed_from p n [] = refl
placed_from p n (x ∷ xs) = by_test (p x) (placed_from p (n + 1) xs)
  where
    by_test : (b : Bool) → option_map (λ k. k + (n + 1)) (place_where p xs) ≡ position_from p (n + 1) xs
        → option_map (λ k. k + n) (if b then Some 0 else option_map (λ k. k + 1) (place_where p xs)) ≡ cond b (Some n) (position_from p (n + 1) xs)
    by_test true h = let same : 0 + n ≡ n = omega arith in ap Some same
    by_test false h = moved_on (place_where p xs) n ∙ h

unmoved : (o : Option ℕ) → o ≡ option_map (λ k. k + 0) o
unmoved None = refl
unmoved (Some k) = let same : k ≡ k + 0 = omega arith in ap Some same

pub placed : {A : Type 0} (p : A → Bool) (xs : List A) → place_where p xs ≡ position p xs
placed p xs = unmoved (place_where p xs) ∙ placed_from p 0 xs ∙ sym (position_from-zero p xs)

some_moved : (o : Option ℕ) → is_some (option_map (λ n. n + 1) o) ≡ is_some o
some_moved None = refl
some_moved (Some n) = refl

some_where : {A : Type 0} (p : A → Bool) (xs : List A) → is_some (place_where p xs) ≡ list_any p xs
some_where p [] = refl
some_where p (x ∷ xs) = by_test (p x) (some_where p xs)
  where
    by_test : (b : Bool) → is_some (place_where p xs) ≡ list_any p xs → is_some (if b then Some 0 else option_map (λ n. n + 1) (place_where p xs)) ≡ (b || list_any p xs)
    by_test true h = refl
    by_test false h = some_moved (place_where p xs) ∙ h

-- a dimension of the source
pub is_own : (source : Schema) (d : Dimension) (place : ℕ) → dimension_place source.dimensions d.name ≡ Some place → is_synthetic source d ≡ false
is_own source d place e =
    let is_named = λ (s : Dimension). bytes_eq s.name d.name in
    let is_number = λ (a : Attribute). bytes_eq a.name d.name && same_kind a.kind Int64 in
    let other = origin_or (place_where is_number source.attributes) from_attribute (counted d.lo) in
    ap (λ (o : Option ℕ). is_counted (origin_or o from_dimension other)) (placed is_named source.dimensions ∙ e)

unless_number : (lo : ℤ) (o : Option ℕ) → is_counted (origin_or o from_attribute (counted lo)) ≡ not (is_some o)
unless_number lo None = refl
unless_number lo (Some n) = refl

-- a number among the attributes, or neither
pub not_own : (source : Schema) (d : Dimension) → dimension_place source.dimensions d.name ≡ None
    → is_synthetic source d ≡ not (list_any (λ (a : Attribute). bytes_eq a.name d.name && same_kind a.kind Int64) source.attributes)
not_own source d e =
    let is_named = λ (s : Dimension). bytes_eq s.name d.name in
    let is_number = λ (a : Attribute). bytes_eq a.name d.name && same_kind a.kind Int64 in
    let other = origin_or (place_where is_number source.attributes) from_attribute (counted d.lo) in
    ap (λ (o : Option ℕ). is_counted (origin_or o from_dimension other)) (placed is_named source.dimensions ∙ e)
    ∙ unless_number d.lo (place_where is_number source.attributes) ∙ ap not (some_where is_number source.attributes)

-- values of an attribute's place

module _ (source : Schema) (a : Attribute) where
  abbrev of_dimension : Origin
  of_dimension = origin_or (place_where (λ (d : Dimension). bytes_eq d.name a.name) source.dimensions) from_dimension (counted (pos 0))

  abbrev by_attribute : Option ℕ → Option TypeKind
  by_attribute o = origin_fault source.attributes a.kind (origin_or o from_attribute of_dimension)

  abbrev by_dimension : Option ℕ → Option TypeKind
  by_dimension o = origin_fault source.attributes a.kind (origin_or o from_dimension (counted (pos 0)))

  pub of_attribute : (place : ℕ) → attribute_place source.attributes a.name ≡ Some place → carried_fault source a ≡ origin_fault source.attributes a.kind (from_attribute place)
  of_attribute place e = ap by_attribute (placed (λ (b : Attribute). bytes_eq b.name a.name) source.attributes ∙ e)

  without : (o : Option ℕ) → attribute_place source.attributes a.name ≡ None → dimension_place source.dimensions a.name ≡ o → carried_fault source a ≡ by_dimension o
  without o e f =
      ap by_attribute (placed (λ (b : Attribute). bytes_eq b.name a.name) source.attributes ∙ e)
      ∙ ap by_dimension (placed (λ (d : Dimension). bytes_eq d.name a.name) source.dimensions ∙ f)

  pub of_numbers : (place : ℕ) → attribute_place source.attributes a.name ≡ None → dimension_place source.dimensions a.name ≡ Some place
      → carried_fault source a ≡ (if same_kind a.kind Int64 then None else Some WrongType)
  of_numbers place e f = without (Some place) e f

  pub of_nothing : attribute_place source.attributes a.name ≡ None → dimension_place source.dimensions a.name ≡ None → carried_fault source a ≡ Some UnknownName
  of_nothing e f = without None e f

-- numbers of synthetic dimensions

count_from : (os : List Origin) (n : ℕ) → length (counted_places os n) ≡ length (counted_places os 0)
count_from [] n = refl
count_from (counted lo ∷ os) n = ap suc (count_from os (n + 1) ∙ sym (count_from os (0 + 1)))
count_from (from_dimension p ∷ os) n = count_from os (n + 1) ∙ sym (count_from os (0 + 1))
count_from (from_attribute p ∷ os) n = count_from os (n + 1) ∙ sym (count_from os (0 + 1))

one_more : (o : Origin) (os : List Origin) → length (counted_places (o ∷ os) 0) ≡ from_bool (is_counted o) + length (counted_places os 0)
one_more (counted lo) os = let e = count_from os (0 + 1) in omega (arith, e)
one_more (from_dimension p) os = let e = count_from os (0 + 1) in omega (arith, e)
one_more (from_attribute p) os = let e = count_from os (0 + 1) in omega (arith, e)

count_on : (source : Schema) (d : Dimension) (dims : List Dimension)
    → length (counted_places (map (origin_of source) (d ∷ dims)) 0) ≡ from_bool (is_synthetic source d) + length (counted_places (map (origin_of source) dims) 0)
count_on source d dims = one_more (origin_of source d) (map (origin_of source) dims)

-- one dimension and then the others
pub counted_on : (source : Schema) (dims : List Dimension) (d : Dimension) (n m : ℕ) → 1 ≤ length dims → d ≡ get_or dims 0 d → n ≡ from_bool (is_synthetic source d)
    → m ≡ length (counted_places (map (origin_of source) (take (length dims - 1) (drop 1 dims))) 0) → n + m ≡ length (counted_places (map (origin_of source) dims) 0)
counted_on source [] d n m some is e f = absurd (omega (arith, some))
counted_on source (x ∷ dims) d n m some is e f =
    let rest : take (length (x ∷ dims) - 1) dims ≡ dims = take_all (length (x ∷ dims) - 1) dims (omega arith) in
    let first : n ≡ from_bool (is_synthetic source x) = e ∙ ap (λ (y : Dimension). from_bool (is_synthetic source y)) is in
    let others : m ≡ length (counted_places (map (origin_of source) dims) 0) = f ∙ ap (λ (ds : List Dimension). length (counted_places (map (origin_of source) ds) 0)) rest in
    ap (λ k. k + m) first ∙ ap (λ k. from_bool (is_synthetic source x) + k) others ∙ sym (count_on source x dims)

-- names

pub named_found : (gs : List Aggregate) (name : List ℕ) → named gs name ≡ find (λ (g : Aggregate). bytes_eq g.name name) gs
named_found [] name = refl
named_found (g ∷ gs) name = by_test (bytes_eq g.name name) (named_found gs name)
  where
    by_test : (b : Bool) → named gs name ≡ find (λ (g : Aggregate). bytes_eq g.name name) gs → (if b then Some g else named gs name) ≡ cond b (Some g) (find (λ (g : Aggregate). bytes_eq g.name name) gs)
    by_test true h = refl
    by_test false h = h

pub among_attributes : (name : List ℕ) (attributes : List Attribute) → is_among name (attribute_names attributes) ≡ list_any (λ (a : Attribute). bytes_eq name a.name) attributes
among_attributes name [] = refl
among_attributes name (a ∷ attributes) = ap (λ b. bytes_eq name a.name || b) (among_attributes name attributes)

all_by_name : (attributes : List Attribute) (gs : List Aggregate)
    → list_all (λ name. is_among name (attribute_names attributes)) (aggregate_names gs) ≡ list_all (λ (g : Aggregate). is_among g.name (attribute_names attributes)) gs
all_by_name attributes gs = list_all-map (λ name. is_among name (attribute_names attributes)) (λ (g : Aggregate). g.name) gs

abbrev unless_all : Bool → Option TypeKind
unless_all b = if b then None else Some UnknownName

pub each_named : (attributes : List Attribute) (gs : List Aggregate) → list_all (λ (g : Aggregate). is_among g.name (attribute_names attributes)) gs ≡ true → unnamed_fault attributes gs ≡ None
each_named attributes gs e = ap unless_all (all_by_name attributes gs ∙ e)

pub not_each_named : (attributes : List Attribute) (gs : List Aggregate) → list_all (λ (g : Aggregate). is_among g.name (attribute_names attributes)) gs ≡ false
    → unnamed_fault attributes gs ≡ Some UnknownName
not_each_named attributes gs e = ap unless_all (all_by_name attributes gs ∙ e)
