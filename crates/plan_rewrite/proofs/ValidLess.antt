-- A valid schema with fewer computed attributes is valid.
use Rattle.std.proofs.Common.{◌≡◌, ℕ, ◌+◌, ◌≤◌, Bool, true, false, not, List, [], ◌∷◌, ◌++◌, map, length, cond, refl, sym, ap, ◌∙◌, subst, append_assoc, length-append, arith}
use Rattle.std.specs.Prelude.{◌&&◌, ◌||◌, nat_le}
use Rattle.std.specs.List.{list_all}
use Rattle.std.specs.Str.{bytes_eq}
use Rattle.std.proofs.lemmas.Bool.{and_parts, and_from, leb-true, le-leb, not-true, or_parts}
use Rattle.std.proofs.lemmas.List.{length-map, map-append}
use Rattle.cell_values.specs.declared.schema.Attribute.{Attribute}
use Rattle.cell_values.specs.declared.schema.Schema.{Schema}
use Rattle.cell_values.specs.Schemas.{has_attributes, has_dimensions, attribute_names, dimension_names, names_of, is_among, are_distinct, is_dimension, frame_fits, IsValid}
use Rattle.logical_plan.specs.declared.parts.Applied.{Applied}
use Rattle.logical_plan.specs.PlanSchema.{derived, apply_schema}
use Rattle.plan_rewrite.specs.Inner.Trimmed.{lowered, kept}
use Rattle.plan_rewrite.specs.Settled.{is_named}
use Rattle.plan_rewrite.proofs.ItemPlaces.{kept-map, kept_few}

-- ---- distinct names, with one less

among_less : (n : List ℕ) (xs : List (List ℕ)) (y : List ℕ) (ys : List (List ℕ)) → is_among n (xs ++ y ∷ ys) ≡ false → is_among n (xs ++ ys) ≡ false
among_less n [] y ys e = (or_parts (bytes_eq n y) (is_among n ys) e).1
among_less n (x ∷ xs) y ys e =
    let p = or_parts (bytes_eq n x) (is_among n (xs ++ y ∷ ys)) e in
    ap (λ (b : Bool). b || is_among n (xs ++ ys)) p.0 ∙ among_less n xs y ys p.1

one_less : (xs : List (List ℕ)) (y : List ℕ) (ys : List (List ℕ)) → are_distinct (xs ++ y ∷ ys) ≡ true → are_distinct (xs ++ ys) ≡ true
one_less [] y ys d = (and_parts (not (is_among y ys)) (are_distinct ys) d).1
one_less (x ∷ xs) y ys d =
    let p = and_parts (not (is_among x (xs ++ y ∷ ys))) (are_distinct (xs ++ y ∷ ys)) d in
    and_from (not (is_among x (xs ++ ys))) (are_distinct (xs ++ ys)) (ap not (among_less x xs y ys (not-true (is_among x (xs ++ y ∷ ys)) p.0))) (one_less xs y ys p.1)

fewer : (k : ℕ) (front xs : List (List ℕ)) (places : List ℕ) (behind : List (List ℕ)) → are_distinct (front ++ (xs ++ behind)) ≡ true → are_distinct (front ++ (kept k xs places ++ behind)) ≡ true
fewer k front [] places behind d = d
fewer k front (x ∷ xs) places behind d =
    by_test (is_named k places)
    (fewer (k + 1) (front ++ x ∷ []) xs places behind (subst (λ (l : List (List ℕ)). are_distinct l ≡ true) (sym (append_assoc front (x ∷ []) (xs ++ behind))) d))
    (fewer k front xs (lowered k places) behind (one_less front x (xs ++ behind) d))
  where
    by_test : (b : Bool) → are_distinct ((front ++ x ∷ []) ++ (kept (k + 1) xs places ++ behind)) ≡ true → are_distinct (front ++ (kept k xs (lowered k places) ++ behind)) ≡ true
        → are_distinct (front ++ (cond b (x ∷ kept (k + 1) xs places) (kept k xs (lowered k places)) ++ behind)) ≡ true
    by_test true named other = subst (λ (l : List (List ℕ)). are_distinct l ≡ true) (append_assoc front (x ∷ []) (kept (k + 1) xs places ++ behind)) named
    by_test false named other = other

-- ---- the schema of an apply

derived_names : (values : List Applied) → attribute_names (map (λ a. derived a.name a.kind) values) ≡ map (λ a. a.name) values
derived_names [] = refl
derived_names (a ∷ values) = ap (λ (l : List (List ℕ)). a.name ∷ l) (derived_names values)

-- the names of the source's attributes, of the computed ones, and of the dimensions
in_parts : (values : List Applied) (s : Schema) → names_of (apply_schema values s) ≡ attribute_names s.attributes ++ (map (λ a. a.name) values ++ dimension_names s.dimensions)
in_parts values s =
    ap (λ (l : List (List ℕ)). l ++ dimension_names s.dimensions) (map-append (λ (a : Attribute). a.name) s.attributes (map (λ a. derived a.name a.kind) values) ∙ ap (λ (l : List (List ℕ)). attribute_names s.attributes ++ l) (derived_names values))
    ∙ append_assoc (attribute_names s.attributes) (map (λ a. a.name) values) (dimension_names s.dimensions)

pub valid_less : (k : ℕ) (values : List Applied) (places : List ℕ) (s : Schema) → IsValid s → IsValid (apply_schema values s) → IsValid (apply_schema (kept k values places) s)
valid_less k values places s v w =
    let more : Schema = apply_schema values s in
    let less : Schema = apply_schema (kept k values places) s in
    let a = and_parts (has_attributes s.attributes && has_dimensions s.dimensions && are_distinct (names_of s) && list_all is_dimension s.dimensions) (frame_fits s.dimensions) v in
    let b = and_parts (has_attributes s.attributes && has_dimensions s.dimensions && are_distinct (names_of s)) (list_all is_dimension s.dimensions) a.0 in
    let c = and_parts (has_attributes s.attributes && has_dimensions s.dimensions) (are_distinct (names_of s)) b.0 in
    let e = and_parts (has_attributes s.attributes) (has_dimensions s.dimensions) c.0 in
    let some = and_parts (nat_le 1 (length s.attributes)) (nat_le (length s.attributes) 64) e.0 in
    let a' = and_parts (has_attributes more.attributes && has_dimensions s.dimensions && are_distinct (names_of more) && list_all is_dimension s.dimensions) (frame_fits s.dimensions) w in
    let b' = and_parts (has_attributes more.attributes && has_dimensions s.dimensions && are_distinct (names_of more)) (list_all is_dimension s.dimensions) a'.0 in
    let c' = and_parts (has_attributes more.attributes && has_dimensions s.dimensions) (are_distinct (names_of more)) b'.0 in
    let e' = and_parts (has_attributes more.attributes) (has_dimensions s.dimensions) c'.0 in
    let few = and_parts (nat_le 1 (length more.attributes)) (nat_le (length more.attributes) 64) e'.0 in
    let one : 1 ≤ length s.attributes = leb-true 1 (length s.attributes) some.0 in
    let many : length more.attributes ≤ 64 = leb-true (length more.attributes) 64 few.1 in
    let long : length more.attributes ≡ length s.attributes + length values = length-append s.attributes (map (λ a. derived a.name a.kind) values) ∙ ap (λ (n : ℕ). length s.attributes + n) (length-map values (λ a. derived a.name a.kind)) in
    let short : length less.attributes ≡ length s.attributes + length (kept k values places) = length-append s.attributes (map (λ a. derived a.name a.kind) (kept k values places)) ∙ ap (λ (n : ℕ). length s.attributes + n) (length-map (kept k values places) (λ a. derived a.name a.kind)) in
    let fewer_values : length (kept k values places) ≤ length values = kept_few k values places in
    let apart : are_distinct (attribute_names s.attributes ++ (kept k (map (λ (a : Applied). a.name) values) places ++ dimension_names s.dimensions)) ≡ true =
    fewer k (attribute_names s.attributes) (map (λ (a : Applied). a.name) values) places (dimension_names s.dimensions) (subst (λ (l : List (List ℕ)). are_distinct l ≡ true) (in_parts values s) c'.1) in
    let distinct : are_distinct (names_of less) ≡ true =
    subst (λ (l : List (List ℕ)). are_distinct l ≡ true) (sym (in_parts (kept k values places) s ∙ ap (λ (l : List (List ℕ)). attribute_names s.attributes ++ (l ++ dimension_names s.dimensions)) (sym (kept-map (λ (a : Applied). a.name) k values places)))) apart in
    and_from (has_attributes less.attributes && has_dimensions s.dimensions && are_distinct (names_of less) && list_all is_dimension s.dimensions) (frame_fits s.dimensions)
    (and_from (has_attributes less.attributes && has_dimensions s.dimensions && are_distinct (names_of less)) (list_all is_dimension s.dimensions)
    (and_from (has_attributes less.attributes && has_dimensions s.dimensions) (are_distinct (names_of less))
    (and_from (has_attributes less.attributes) (has_dimensions s.dimensions)
    (and_from (nat_le 1 (length less.attributes)) (nat_le (length less.attributes) 64) (le-leb 1 (length less.attributes) (omega arith)) (le-leb (length less.attributes) 64 (omega arith))) e.1) distinct) b.1) a.1
