-- A schema all of whose rules hold is valid.
use Rattle.std.proofs.Common.{◌≡◌, ℕ, ◌+◌, ◌≤◌, ◌<◌, Bool, true, false, not, ◌&&◌, ◌||◌, List, [], ◌∷◌, ◌++◌, map, length, None, Ok, refl, sym, ap, subst, ◌∙◌, arith, append_assoc}
use Rattle.std.specs.Prelude.{nat_le, int_le}
use Rattle.std.specs.List.{list_all}
use Rattle.std.specs.Str.{bytes_eq}
use Rattle.std.proofs.lemmas.Bool.{ltb-true, le-leb}
use Rattle.std.proofs.lemmas.List.{length-map, length-append, append-nil}
use Rattle.std.proofs.lemmas.List.Folds.{list_any-append}
use Rattle.std.proofs.lemmas.Slice.Eq.{bytes_eq-Decides}
use Rattle.afl_lexer.specs.Schemas.{attribute_names, dimension_names, is_among, are_distinct, has_attributes, has_dimensions, names_of, is_dimension, is_bound, bounds_in_range, bounds_in_order, has_chunk, overlap_fits, frame_fits, IsValid}
use Rattle.afl_lexer.specs.Attribute.{Attribute}
use Rattle.afl_lexer.specs.Dimension.{Dimension}
use Rattle.schema_grammar.specs.declared.shape_text.SchemaText.{SchemaText}
use Rattle.schema_grammar.specs.declared.shape_text.AttrText.{AttrText}
use Rattle.schema_grammar.specs.declared.shape_text.DimText.{DimText}
use Rattle.schema_grammar.specs.declared.kinds.TypeKind.TheVariants.{BoundsOrder, ZeroChunk, OverlapTooLarge}
use Rattle.schema_grammar.specs.Rules.{rule, first_broken, attr_rules, attrs_rules, dim_rules, dims_rules, whole_rules, rules, attribute_of, dimension_of, schema_of, Means}
use Rattle.schema_grammar.proofs.Meanings.{dims_means, parts_same, whole_left}
use Rattle.schema_grammar.proofs.RuleLemmas.{AllHold, all_hold, holds_both}

both_true : (a b : Bool) → (a && b) ≡ true → (a ≡ true) × (b ≡ true)
both_true true b e = (refl, e)
both_true false b e = cc

and_true : (a b : Bool) → a ≡ true → b ≡ true → (a && b) ≡ true
and_true a b p q = ap (λ v. v && b) p ∙ q

or_false : (a b : Bool) → a ≡ false → b ≡ false → (a || b) ≡ false
or_false a b p q = ap (λ v. v || b) p ∙ q

both_false : (a b : Bool) → (a || b) ≡ false → (a ≡ false) × (b ≡ false)
both_false true b e = cc
both_false false b e = (refl, e)

not_true : (a : Bool) → not a ≡ true → a ≡ false
not_true true e = cc
not_true false e = refl

not_false : (a : Bool) → a ≡ false → not a ≡ true
not_false a e = ap not e

-- names differ both ways
pub differ_back : (b : Bool) (xs ys : List ℕ) → bytes_eq ys xs ≡ b → bytes_eq xs ys ≡ false → b ≡ false
differ_back false xs ys e h = refl
differ_back true xs ys e h =
    let same : xs ≡ ys = sym ((bytes_eq-Decides ys xs).0 e) in
    let again : bytes_eq xs ys ≡ true = (bytes_eq-Decides xs ys).1 same in
    cc

-- a new name behind distinct ones
distinct_more : (xs : List (List ℕ)) (n : List ℕ) → are_distinct xs ≡ true → is_among n xs ≡ false → are_distinct (xs ++ n ∷ []) ≡ true
distinct_more [] n d h = refl
distinct_more (x ∷ xs) n d h =
    let e = both_true (not (is_among x xs)) (are_distinct xs) d in
    let f = both_false (bytes_eq n x) (is_among n xs) h in
    let apart : bytes_eq x n ≡ false = differ_back (bytes_eq x n) n x refl f.0 in
    let none : is_among x (xs ++ n ∷ []) ≡ false
    = list_any-append (bytes_eq x) xs (n ∷ []) ∙ or_false (is_among x xs) (bytes_eq x n || false) (not_true (is_among x xs) e.0) (ap (λ b. b || false) apart) in
    and_true (not (is_among x (xs ++ n ∷ []))) (are_distinct (xs ++ n ∷ [])) (not_false (is_among x (xs ++ n ∷ [])) none) (distinct_more xs n e.1 f.1)

-- what the rules of attributes say behind those of some names
pub record AttrsHold (before : List (List ℕ)) (xs : List AttrText) : Type 0 where
  pub count : length before + length xs ≤ 64
  pub distinct : are_distinct (before ++ attribute_names (map attribute_of xs)) ≡ true

attrs_hold : (xs : List AttrText) (before : List (List ℕ)) → length before ≤ 64 → are_distinct before ≡ true → first_broken (attrs_rules before xs) ≡ None → AttrsHold before xs
attrs_hold [] before n d e = record { count = omega arith; distinct = ap are_distinct (append-nil before) ∙ d }
attrs_hold (x ∷ xs) before n d e =
    let parts = holds_both (attr_rules before x) (attrs_rules (before ++ x.name ∷ []) xs) e in
    let hold : AllHold (attr_rules before x) = all_hold (attr_rules before x) parts.0 in
    let count : length before < 64 = ltb-true (length before) 64 hold.0 in
    let size : length (before ++ x.name ∷ []) ≡ length before + 1 = length-append before (x.name ∷ []) in
    let rest = attrs_hold xs (before ++ x.name ∷ []) (omega (arith, size)) (distinct_more before x.name d (not_true (is_among x.name before) hold.1.1.0)) parts.1 in
    record {
      count = omega (arith, size, rest.count);
      distinct = ap are_distinct (sym (append_assoc before (x.name ∷ []) (attribute_names (map attribute_of xs)))) ∙ rest.distinct;
    }

pub record DimsHold (names before : List (List ℕ)) (xs : List DimText) : Type 0 where
  pub count : length before + length xs ≤ 6
  pub distinct : are_distinct (names ++ before ++ dimension_names (map dimension_of xs)) ≡ true
  pub each : list_all is_dimension (map dimension_of xs) ≡ true

dims_hold : (xs : List DimText) (names before : List (List ℕ)) → length before ≤ 6 → are_distinct (names ++ before) ≡ true → first_broken (dims_rules names before xs) ≡ None → DimsHold names before xs
dims_hold [] names before n d e = record { count = omega arith; distinct = ap are_distinct (append-nil (names ++ before)) ∙ d; each = refl }
dims_hold (x ∷ xs) names before n d e =
    let parts = holds_both (dim_rules names before x) (dims_rules names (before ++ x.name ∷ []) xs) e in
    let hold : AllHold (dim_rules names before x) = all_hold (dim_rules names before x) parts.0 in
    let fits : AllHold (rule (int_le x.lo x.hi) x.hi_span BoundsOrder ∷ rule (nat_le 1 x.chunk) x.chunk_span ZeroChunk ∷ rule (nat_le x.overlap x.chunk) x.overlap_span OverlapTooLarge ∷ []) = hold.1.1.1.1 in
    let count : length before < 6 = ltb-true (length before) 6 hold.0 in
    let size : length (before ++ x.name ∷ []) ≡ length before + 1 = length-append before (x.name ∷ []) in
    let fresh : are_distinct (names ++ (before ++ x.name ∷ [])) ≡ true
    = ap are_distinct (sym (append_assoc names before (x.name ∷ []))) ∙ distinct_more (names ++ before) x.name d (not_true (is_among x.name (names ++ before)) hold.1.0) in
    let rest = dims_hold xs names (before ++ x.name ∷ []) (omega (arith, size)) fresh parts.1 in
    let one : is_dimension (dimension_of x) ≡ true = and_true (bounds_in_range (dimension_of x) && bounds_in_order (dimension_of x) && has_chunk (dimension_of x)) (overlap_fits (dimension_of x))
    (and_true (bounds_in_range (dimension_of x) && bounds_in_order (dimension_of x)) (has_chunk (dimension_of x))
    (and_true (bounds_in_range (dimension_of x)) (bounds_in_order (dimension_of x)) (and_true (is_bound x.lo) (is_bound x.hi) hold.1.1.0 hold.1.1.1.0) fits.0) fits.1.0) fits.1.1.0 in
    record {
      count = omega (arith, size, rest.count);
      distinct = ap are_distinct (sym (ap (λ l. l ++ dimension_names (map dimension_of xs)) (sym (append_assoc names before (x.name ∷ []))) ∙ append_assoc (names ++ before) (x.name ∷ []) (dimension_names (map dimension_of xs)))) ∙ rest.distinct;
      each = and_true (is_dimension (dimension_of x)) (list_all is_dimension (map dimension_of xs)) one rest.each;
    }

pub rules_valid : (t : SchemaText) → first_broken (rules t) ≡ None → IsValid (schema_of t)
rules_valid t e =
    let schema = schema_of t in
    let parts = holds_both (attrs_rules [] t.attributes ++ dims_rules (attribute_names schema.attributes) [] t.dimensions) (whole_rules schema.attributes schema.dimensions t.brackets) e in
    let lists = holds_both (attrs_rules [] t.attributes) (dims_rules (attribute_names schema.attributes) [] t.dimensions) parts.0 in
    let whole : AllHold (whole_rules schema.attributes schema.dimensions t.brackets) = all_hold (whole_rules schema.attributes schema.dimensions t.brackets) parts.1 in
    let some = both_true (nat_le 1 (length schema.attributes)) (nat_le 1 (length schema.dimensions)) whole.1.0 in
    let attributes = attrs_hold t.attributes [] (omega arith) refl lists.0 in
    let names : are_distinct (attribute_names schema.attributes ++ []) ≡ true = ap are_distinct (append-nil (attribute_names schema.attributes)) ∙ attributes.distinct in
    let dimensions = dims_hold t.dimensions (attribute_names schema.attributes) [] (omega arith) names lists.1 in
    let few : length schema.attributes ≤ 64 = omega (arith, attributes.count, length-map t.attributes attribute_of) in
    let flat : length schema.dimensions ≤ 6 = omega (arith, dimensions.count, length-map t.dimensions dimension_of) in
    let distinct : are_distinct (names_of schema) ≡ true
    = ap (λ l. are_distinct (l ++ dimension_names schema.dimensions)) (sym (append-nil (attribute_names schema.attributes))) ∙ dimensions.distinct in
    and_true (has_attributes schema.attributes && has_dimensions schema.dimensions && are_distinct (names_of schema) && list_all is_dimension schema.dimensions) (frame_fits schema.dimensions)
    (and_true (has_attributes schema.attributes && has_dimensions schema.dimensions && are_distinct (names_of schema)) (list_all is_dimension schema.dimensions)
    (and_true (has_attributes schema.attributes && has_dimensions schema.dimensions) (are_distinct (names_of schema))
    (and_true (has_attributes schema.attributes) (has_dimensions schema.dimensions)
    (and_true (nat_le 1 (length schema.attributes)) (nat_le (length schema.attributes) 64) some.0 (le-leb (length schema.attributes) 64 few))
    (and_true (nat_le 1 (length schema.dimensions)) (nat_le (length schema.dimensions) 6) some.1 (le-leb (length schema.dimensions) 6 flat)))
    distinct) dimensions.each) whole.0

-- the same of the parts, as a call comes to them
pub parts_valid : (t : SchemaText) (texts : List AttrText) (dims : List DimText) (names : List Attribute) (attributes : List Attribute) (dimensions : List Dimension)
    → texts ≡ t.attributes → dims ≡ t.dimensions → names ≡ attributes
    → Means (attrs_rules [] texts) (map attribute_of texts) (Ok attributes)
    → Means (dims_rules (attribute_names names) [] dims) (map dimension_of dims) (Ok dimensions)
    → first_broken (whole_rules attributes dimensions t.brackets) ≡ None
    → IsValid (record { attributes = attributes; dimensions = dimensions })
parts_valid t texts dims names attributes dimensions p q r given h w =
    let there = dims_means t texts attributes p given names dims (Ok dimensions) r q h in
    subst IsValid (sym (parts_same t texts attributes p given dimensions there.1))
    (rules_valid t (whole_left t texts attributes p given dimensions there ∙ w))
