-- The rules of a schema that is valid hold.
use Rattle.std.proofs.Common.{◌≡◌, ℕ, ◌+◌, ◌≤◌, Bool, true, false, not, cond, ◌&&◌, ◌||◌, List, [], ◌∷◌, ◌++◌, map, length, Some, None, is_some, refl, sym, ap, ◌∙◌, arith, append_assoc}
use Rattle.std.specs.Prelude.{nat_le}
use Rattle.std.specs.List.{list_all, find, AllByRecursion}
use Rattle.std.specs.Option.{option_map}
use Rattle.std.specs.Str.{bytes_eq}
use Rattle.std.proofs.lemmas.Bool.{and_parts, or_parts, not-true, leb-true, lt-ltb}
use Rattle.std.proofs.lemmas.List.{length-map, length-append, append-nil}
use Rattle.std.proofs.lemmas.List.Folds.{list_any-append}
use Rattle.afl_lexer.specs.Schemas.{attribute_names, dimension_names, names_of, is_among, are_distinct, has_attributes, has_dimensions, is_dimension, is_bound, bounds_in_range, bounds_in_order, has_chunk, overlap_fits, frame_fits, IsValid}
use Rattle.schema_grammar.specs.declared.shape_text.SchemaText.{SchemaText}
use Rattle.schema_grammar.specs.declared.shape_text.AttrText.{AttrText}
use Rattle.schema_grammar.specs.declared.shape_text.DimText.{DimText}
use Rattle.schema_grammar.specs.declared.rules.Rule.{Rule}
use Rattle.schema_grammar.specs.declared.kinds.SchemaFault.TheVariants as fault
use Rattle.schema_grammar.specs.Rules.{first_broken, kind_named, attr_rules, attrs_rules, dim_rules, dims_rules, whole_rules, rules, attribute_of, dimension_of, schema_of}
use Rattle.schema_grammar.proofs.RuleLemmas.{AllHold, or_else, broken_then}
use Rattle.schema_grammar.proofs.RulesValid.{differ_back}

hold_all : (xs : List Rule) → AllHold xs → first_broken xs ≡ None
hold_all [] h = refl
hold_all (x ∷ xs) h =
    ap (λ (b : Bool). option_map (λ (r : Rule). fault.Rule r.span r.kind) (cond (not b) (Some x) (find (λ (r : Rule). not r.holds) xs))) h.0 ∙ hold_all xs h.1

hold_both : (xs ys : List Rule) → first_broken xs ≡ None → first_broken ys ≡ None → first_broken (xs ++ ys) ≡ None
hold_both xs ys e f = broken_then xs ys ∙ ap (λ o. or_else o (first_broken ys)) e ∙ f

-- a name among distinct ones is new behind those before it
fresh : (before : List (List ℕ)) (n : List ℕ) (rest : List (List ℕ)) → are_distinct (before ++ n ∷ rest) ≡ true → is_among n before ≡ false
fresh [] n rest d = refl
fresh (b ∷ before) n rest d =
    let parts = and_parts (not (is_among b (before ++ n ∷ rest))) (are_distinct (before ++ n ∷ rest)) d in
    let apart = or_parts (is_among b before) (bytes_eq b n || is_among b rest) (sym (list_any-append (bytes_eq b) before (n ∷ rest)) ∙ not-true (is_among b (before ++ n ∷ rest)) parts.0) in
    let differ : bytes_eq n b ≡ false = differ_back (bytes_eq n b) b n refl (or_parts (bytes_eq b n) (is_among b rest) apart.1).0 in
    ap (λ (x : Bool). x || is_among n before) differ ∙ fresh before n rest parts.1

-- some of distinct names are distinct
left_distinct : (xs ys : List (List ℕ)) → are_distinct (xs ++ ys) ≡ true → are_distinct xs ≡ true
left_distinct [] ys d = refl
left_distinct (x ∷ xs) ys d =
    let parts = and_parts (not (is_among x (xs ++ ys))) (are_distinct (xs ++ ys)) d in
    let none = or_parts (is_among x xs) (is_among x ys) (sym (list_any-append (bytes_eq x) xs ys) ∙ not-true (is_among x (xs ++ ys)) parts.0) in
    ap (λ (b : Bool). not b && are_distinct xs) none.0 ∙ left_distinct xs ys parts.1

-- the word names a type
abbrev pub IsKnown : AttrText → Type 0
IsKnown a = is_some (kind_named a.word) ≡ true

attrs_hold : (xs : List AttrText) (before : List (List ℕ)) → length before + length xs ≤ 64 → are_distinct (before ++ attribute_names (map attribute_of xs)) ≡ true → AllByRecursion IsKnown xs
    → first_broken (attrs_rules before xs) ≡ None
attrs_hold [] before n d k = refl
attrs_hold (x ∷ xs) before n d k =
    let names = attribute_names (map attribute_of xs) in
    let first : AllHold (attr_rules before x)
    = (lt-ltb (length before) 64 (omega arith), (k.0, (ap not (fresh before x.name names d), tt))) in
    let next : are_distinct ((before ++ x.name ∷ []) ++ names) ≡ true = ap are_distinct (append_assoc before (x.name ∷ []) names) ∙ d in
    hold_both (attr_rules before x) (attrs_rules (before ++ x.name ∷ []) xs) (hold_all (attr_rules before x) first)
    (attrs_hold xs (before ++ x.name ∷ []) (omega (arith, length-append before (x.name ∷ []))) next k.1)

dims_hold : (xs : List DimText) (names before : List (List ℕ)) → length before + length xs ≤ 6 → are_distinct (names ++ before ++ dimension_names (map dimension_of xs)) ≡ true
    → list_all is_dimension (map dimension_of xs) ≡ true → first_broken (dims_rules names before xs) ≡ None
dims_hold [] names before n d a = refl
dims_hold (x ∷ xs) names before n d a =
    let after = dimension_names (map dimension_of xs) in
    let all = and_parts (is_dimension (dimension_of x)) (list_all is_dimension (map dimension_of xs)) a in
    let a1 = and_parts (bounds_in_range (dimension_of x) && bounds_in_order (dimension_of x) && has_chunk (dimension_of x)) (overlap_fits (dimension_of x)) all.0 in
    let a2 = and_parts (bounds_in_range (dimension_of x) && bounds_in_order (dimension_of x)) (has_chunk (dimension_of x)) a1.0 in
    let a3 = and_parts (bounds_in_range (dimension_of x)) (bounds_in_order (dimension_of x)) a2.0 in
    let range = and_parts (is_bound x.lo) (is_bound x.hi) a3.0 in
    let first : AllHold (dim_rules names before x)
    = (lt-ltb (length before) 6 (omega arith), (ap not (fresh (names ++ before) x.name after d), (range.0, (range.1, (a3.1, (a2.1, (a1.1, tt))))))) in
    let next : are_distinct (names ++ (before ++ x.name ∷ []) ++ after) ≡ true
    = ap are_distinct (ap (λ l. l ++ after) (sym (append_assoc names before (x.name ∷ []))) ∙ append_assoc (names ++ before) (x.name ∷ []) after) ∙ d in
    hold_both (dim_rules names before x) (dims_rules names (before ++ x.name ∷ []) xs) (hold_all (dim_rules names before x) first)
    (dims_hold xs names (before ++ x.name ∷ []) (omega (arith, length-append before (x.name ∷ []))) next all.1)

-- where the words name types, a syntax tree whose schema is valid keeps all rules
pub valid_rules : (t : SchemaText) → IsValid (schema_of t) → AllByRecursion IsKnown t.attributes → first_broken (rules t) ≡ None
valid_rules t v k =
    let schema = schema_of t in
    let v1 = and_parts (has_attributes schema.attributes && has_dimensions schema.dimensions && are_distinct (names_of schema) && list_all is_dimension schema.dimensions) (frame_fits schema.dimensions) v in
    let v2 = and_parts (has_attributes schema.attributes && has_dimensions schema.dimensions && are_distinct (names_of schema)) (list_all is_dimension schema.dimensions) v1.0 in
    let v3 = and_parts (has_attributes schema.attributes && has_dimensions schema.dimensions) (are_distinct (names_of schema)) v2.0 in
    let v4 = and_parts (has_attributes schema.attributes) (has_dimensions schema.dimensions) v3.0 in
    let count = and_parts (nat_le 1 (length schema.attributes)) (nat_le (length schema.attributes) 64) v4.0 in
    let flat = and_parts (nat_le 1 (length schema.dimensions)) (nat_le (length schema.dimensions) 6) v4.1 in
    let names = attribute_names schema.attributes in
    let few : 0 + length t.attributes ≤ 64 = omega (arith, leb-true (length schema.attributes) 64 count.1, length-map t.attributes attribute_of) in
    let small : 0 + length t.dimensions ≤ 6 = omega (arith, leb-true (length schema.dimensions) 6 flat.1, length-map t.dimensions dimension_of) in
    let attributes : first_broken (attrs_rules [] t.attributes) ≡ None = attrs_hold t.attributes [] few (left_distinct names (dimension_names schema.dimensions) v3.1) k in
    let dimensions : first_broken (dims_rules names [] t.dimensions) ≡ None
    = dims_hold t.dimensions names [] small (ap (λ l. are_distinct (l ++ dimension_names schema.dimensions)) (append-nil names) ∙ v3.1) v2.1 in
    let whole : first_broken (whole_rules schema.attributes schema.dimensions t.brackets) ≡ None
    = hold_all (whole_rules schema.attributes schema.dimensions t.brackets) (v1.1, (ap (λ (b : Bool). b && nat_le 1 (length schema.dimensions)) count.0 ∙ flat.0, tt)) in
    hold_both (attrs_rules [] t.attributes ++ dims_rules names [] t.dimensions) (whole_rules schema.attributes schema.dimensions t.brackets)
    (hold_both (attrs_rules [] t.attributes) (dims_rules names [] t.dimensions) attributes dimensions) whole
