-- The rules of schemas.
use Rattle.std.proofs.Common.{◌≡◌, ◌⊎◌, inl, inr, ℕ, zero, suc, ◌+◌, ◌-◌, ◌*◌, ◌^◌, ◌≤◌, ◌<◌, min, Bool, true, false, not, cond, ◌||◌, ◌++◌, List, [], ◌∷◌, map, length, take, drop, slice_index_or, Option, Some, None, Ok, Err, refl, sym, ap, subst, ◌∙◌, arith}
use Rattle.std.specs.List.{list_any, find}
use Rattle.std.specs.Option.{option_map}
use Rattle.std.specs.Str.{bytes_eq}
use Rattle.std.proofs.lemmas.Bool.{cases_lt}
use Rattle.std.proofs.lemmas.List.{length-map, take_more, map-append}
use Rattle.std.proofs.lemmas.List.Folds.{list_any-append}
use Rattle.std.proofs.Math.Nat.{zero-mul, mul-zero, min-eq_left, min-eq_right, zero-min, le-mul_of_pos_right, mul_comm, mul_assoc}
use Rattle.std.proofs.Math.Seq.{drop-cons}
use Rattle.afl_lexer.specs.Schemas.{attribute_names, dimension_names, is_among, frame_length, frame_size}
use Rattle.afl_lexer.specs.Attribute.{Attribute}
use Rattle.afl_lexer.specs.Dimension.{Dimension}
use Rattle.schema_grammar.specs.declared.shape_text.AttrText.{AttrText}
use Rattle.schema_grammar.specs.declared.shape_text.DimText.{DimText}
use Rattle.schema_grammar.specs.declared.rules.Rule.{Rule}
use Rattle.schema_grammar.specs.declared.kinds.SchemaFault.{SchemaFault}
use Rattle.schema_grammar.specs.declared.kinds.SchemaFault.TheVariants as fault
use Rattle.schema_grammar.specs.Rules.{first_broken, attr_rules, attrs_rules, dim_rules, dims_rules, attribute_of, dimension_of, Means}

-- Names.

pub among_attributes : (name : List ℕ) (attributes : List Attribute) → list_any (λ attribute. bytes_eq name attribute.name) attributes ≡ is_among name (attribute_names attributes)
among_attributes name [] = refl
among_attributes name (a ∷ rest) = ap (λ b. bytes_eq name a.name || b) (among_attributes name rest)

pub among_dimensions : (name : List ℕ) (dimensions : List Dimension) → list_any (λ dimension. bytes_eq name dimension.name) dimensions ≡ is_among name (dimension_names dimensions)
among_dimensions name [] = refl
among_dimensions name (d ∷ rest) = ap (λ b. bytes_eq name d.name || b) (among_dimensions name rest)

pub among_parts : (name : List ℕ) (attributes : List Attribute) (dimensions : List Dimension)
    → (list_any (λ attribute. bytes_eq name attribute.name) attributes || list_any (λ dimension. bytes_eq name dimension.name) dimensions)
    ≡ is_among name (attribute_names attributes ++ dimension_names dimensions)
among_parts name attributes dimensions =
    ap (λ b. b || list_any (λ dimension. bytes_eq name dimension.name) dimensions) (among_attributes name attributes)
    ∙ ap (λ b. is_among name (attribute_names attributes) || b) (among_dimensions name dimensions)
    ∙ sym (list_any-append (bytes_eq name) (attribute_names attributes) (dimension_names dimensions))

pub count_attributes : (attributes : List Attribute) → length (attribute_names attributes) ≡ length attributes
count_attributes attributes = length-map attributes (λ attribute. attribute.name)

pub count_dimensions : (dimensions : List Dimension) → length (dimension_names dimensions) ≡ length dimensions
count_dimensions dimensions = length-map dimensions (λ dimension. dimension.name)

-- Frames.

frame_size-append : (xs : List Dimension) (d : Dimension) → frame_size (xs ++ d ∷ []) ≡ frame_size xs * frame_length d
frame_size-append [] d = omega arith
frame_size-append (x ∷ xs) d = ap (λ n. frame_length x * n) (frame_size-append xs d) ∙ sym (mul_assoc (frame_length x) (frame_size xs) (frame_length d))

-- a product of numbers that are cut off at m, cut off there, is that of the numbers
large : (a b m : ℕ) → m ≤ a → m ≤ b → min a m ≡ min b m
large a b m f g = min-eq_right f ∙ sym (min-eq_right g)

pub at_least : (k n : ℕ) → zero < k → n ≤ k * n
at_least k n h = subst (λ m. n ≤ m) (mul_comm n k) (le-mul_of_pos_right n h)

capped_both : (p l m : ℕ) → 1 ≤ m → (m < suc p) ⊎ (suc p ≤ m) → (m < suc l) ⊎ (suc l ≤ m) → min (min (suc p) m * min (suc l) m) m ≡ min (suc p * suc l) m
capped_both p l m h (inr a) (inr b) = ap (λ n. min (n * min (suc l) m) m) (min-eq_left a) ∙ ap (λ n. min (suc p * n) m) (min-eq_left b)
capped_both p l m h (inl a) b =
    let cut : min (suc p) m ≡ m = min-eq_right (omega arith) in
    let some : zero < min (suc l) m = omega (arith, h) in
    let product : suc p ≤ suc p * suc l = le-mul_of_pos_right (suc p) (omega arith) in
    ap (λ n. min (n * min (suc l) m) m) cut ∙ large _ _ m (le-mul_of_pos_right m some) (omega (arith, product))
capped_both p l m h (inr a) (inl b) =
    let cut : min (suc l) m ≡ m = min-eq_right (omega arith) in
    let some : zero < min (suc p) m = omega (arith, h) in
    let product : suc l ≤ suc p * suc l = at_least (suc p) (suc l) (omega arith) in
    ap (λ n. min (min (suc p) m * n) m) cut ∙ large _ _ m (at_least (min (suc p) m) m some) (omega (arith, product))

capped : (p l m : ℕ) → 1 ≤ m → min (min p m * min l m) m ≡ min (p * l) m
capped zero l m h = ap (λ n. min (n * min l m) m) (zero-min m) ∙ ap (λ n. min n m) (zero-mul (min l m) ∙ sym (zero-mul l))
capped (suc p) zero m h = ap (λ n. min (min (suc p) m * n) m) (zero-min m) ∙ ap (λ n. min n m) (mul-zero (min (suc p) m) ∙ sym (mul-zero (suc p)))
capped (suc p) (suc l) m h = capped_both p l m h (cases_lt m (suc p)) (cases_lt m (suc l))

pub frame_more : (xs : List Dimension) (i : ℕ) (d : Dimension) → i < length xs
    → min (min (frame_size (take i xs)) (2 ^ 64 - 1) * min (frame_length (slice_index_or xs i d)) (2 ^ 64 - 1)) (2 ^ 64 - 1) ≡ min (frame_size (take (i + 1) xs)) (2 ^ 64 - 1)
frame_more xs i d h =
    capped (frame_size (take i xs)) (frame_length (slice_index_or xs i d)) (2 ^ 64 - 1) (omega arith)
    ∙ ap (λ n. min n (2 ^ 64 - 1)) (sym (ap frame_size (take_more xs i d h) ∙ frame_size-append (take i xs) (slice_index_or xs i d)))

-- Rules one after the other.

-- a fault, or else that of what follows
abbrev pub or_else : Option SchemaFault → Option SchemaFault → Option SchemaFault
or_else None b = b
or_else (Some fault) b = Some fault

pub broken_then : (xs ys : List Rule) → first_broken (xs ++ ys) ≡ or_else (first_broken xs) (first_broken ys)
broken_then [] ys = refl
broken_then (x ∷ xs) ys = cases x xs ys x.holds (broken_then xs ys)
  where
    cases : (x : Rule) (xs ys : List Rule) (holds : Bool) → first_broken (xs ++ ys) ≡ or_else (first_broken xs) (first_broken ys)
        → option_map (λ r. fault.Rule r.span r.kind) (cond (not holds) (Some x) (find (λ r. not r.holds) (xs ++ ys)))
        ≡ or_else (option_map (λ r. fault.Rule r.span r.kind) (cond (not holds) (Some x) (find (λ r. not r.holds) xs))) (first_broken ys)
    cases x xs ys true h = h
    cases x xs ys false h = refl

-- the first rule holds, and so do the rest
pub holds_first : (x : Rule) (xs : List Rule) → first_broken (x ∷ xs) ≡ None → (x.holds ≡ true) × (first_broken xs ≡ None)
holds_first x xs e = cases x xs x.holds refl e
  where
    cases : (x : Rule) (xs : List Rule) (holds : Bool) → x.holds ≡ holds → option_map (λ r. fault.Rule r.span r.kind) (cond (not holds) (Some x) (find (λ r. not r.holds) xs)) ≡ None
        → (x.holds ≡ true) × (first_broken xs ≡ None)
    cases x xs true h e = (h, e)
    cases x xs false h e = cc

-- each of the rules holds
abbrev pub AllHold : List Rule → Type 0
AllHold [] = Unit {0}
AllHold (x ∷ xs) = (x.holds ≡ true) × AllHold xs

pub all_hold : (xs : List Rule) → first_broken xs ≡ None → AllHold xs
all_hold [] e = tt
all_hold (x ∷ xs) e = let both = holds_first x xs e in (both.0, all_hold xs both.1)

pub holds_both : (xs ys : List Rule) → first_broken (xs ++ ys) ≡ None → (first_broken xs ≡ None) × (first_broken ys ≡ None)
holds_both xs ys e = cases (first_broken xs) (first_broken ys) refl refl (sym (broken_then xs ys) ∙ e)
  where
    cases : (a b : Option SchemaFault) → first_broken xs ≡ a → first_broken ys ≡ b → or_else (first_broken xs) (first_broken ys) ≡ None → (first_broken xs ≡ None) × (first_broken ys ≡ None)
    cases None None h g e = (h, g)
    cases None (Some b) h g e = cc
    cases (Some a) b h g e = cc

-- From attribute to attribute.

-- what the rules of all say, said by those from a place on
abbrev pub AttrsSo : List AttrText → ℕ → List Attribute → Type 0
AttrsSo written i attributes = first_broken (attrs_rules [] written) ≡ first_broken (attrs_rules (attribute_names attributes) (drop i written))

attrs_from : (written : List AttrText) (i : ℕ) (d : AttrText) (names : List (List ℕ)) → i < length written
    → first_broken (attrs_rules names (drop i written))
    ≡ or_else (first_broken (attr_rules names (slice_index_or written i d))) (first_broken (attrs_rules (names ++ (slice_index_or written i d).name ∷ []) (drop (suc i) written)))
attrs_from written i d names h =
    ap (λ l. first_broken (attrs_rules names l)) (drop-cons written i d h)
    ∙ broken_then (attr_rules names (slice_index_or written i d)) (attrs_rules (names ++ (slice_index_or written i d).name ∷ []) (drop (suc i) written))

pub attrs_next : (written : List AttrText) (i : ℕ) (d : AttrText) (attributes : List Attribute) → i < length written → AttrsSo written i attributes
    → first_broken (attr_rules (attribute_names attributes) (slice_index_or written i d)) ≡ None → AttrsSo written (i + 1) (attributes ++ attribute_of (slice_index_or written i d) ∷ [])
attrs_next written i d attributes h so e =
    let next : suc i ≡ i + 1 = omega arith in
    so ∙ attrs_from written i d (attribute_names attributes) h
    ∙ ap (λ o. or_else o (first_broken (attrs_rules (attribute_names attributes ++ (slice_index_or written i d).name ∷ []) (drop (suc i) written)))) e
    ∙ ap (λ names. first_broken (attrs_rules names (drop (suc i) written))) (sym (map-append (λ (a : Attribute). a.name) attributes (attribute_of (slice_index_or written i d) ∷ [])))
    ∙ ap (λ n. first_broken (attrs_rules (attribute_names (attributes ++ attribute_of (slice_index_or written i d) ∷ [])) (drop n written))) next

pub attrs_err : {A B : Type 0} (written : List AttrText) (i : ℕ) (d : AttrText) (attributes : List Attribute) (a : A) (b : B) (e : SchemaFault) → i < length written → AttrsSo written i attributes
    → Means (attr_rules (attribute_names attributes) (slice_index_or written i d)) a (Err e) → Means (attrs_rules [] written) b (Err e)
attrs_err written i d attributes a b (fault.Rule span kind) h so e =
    so ∙ attrs_from written i d (attribute_names attributes) h
    ∙ ap (λ o. or_else o (first_broken (attrs_rules (attribute_names attributes ++ (slice_index_or written i d).name ∷ []) (drop (suc i) written)))) e
attrs_err written i d attributes a b fault.Memory h so e = tt

-- one more item behind those of a list
more_items : {X Y : Type 0} (f : X → Y) (xs : List X) (i : ℕ) (d : X) (ys : List Y) → i < length xs → ys ≡ map f (take i xs) → ys ++ f (slice_index_or xs i d) ∷ [] ≡ map f (take (i + 1) xs)
more_items f xs i d ys h e =
    ap (λ l. l ++ f (slice_index_or xs i d) ∷ []) e
    ∙ sym (map-append f (take i xs) (slice_index_or xs i d ∷ []))
    ∙ ap (map f) (sym (take_more xs i d h))

pub attrs_step : (written : List AttrText) (i : ℕ) (d : AttrText) (attributes after : List Attribute) (a : Attribute) → i < length written
    → AttrsSo written i attributes × (attributes ≡ map attribute_of (take i written))
    → Means (attr_rules (attribute_names attributes) (slice_index_or written i d)) (attribute_of (slice_index_or written i d)) (Ok a) → after ≡ attributes ++ a ∷ []
    → AttrsSo written (i + 1) after × (after ≡ map attribute_of (take (i + 1) written))
attrs_step written i d attributes after a h (so, all) (e, same) p =
    let q : after ≡ attributes ++ attribute_of (slice_index_or written i d) ∷ [] = p ∙ ap (λ a. attributes ++ a ∷ []) same in
    (subst (AttrsSo written (i + 1)) (sym q) (attrs_next written i d attributes h so e), q ∙ more_items attribute_of written i d attributes h all)

-- From dimension to dimension.

abbrev pub DimsSo : List (List ℕ) → List DimText → ℕ → List Dimension → Type 0
DimsSo names written i dimensions = first_broken (dims_rules names [] written) ≡ first_broken (dims_rules names (dimension_names dimensions) (drop i written))

dims_from : (attributes : List (List ℕ)) (written : List DimText) (i : ℕ) (d : DimText) (names : List (List ℕ)) → i < length written
    → first_broken (dims_rules attributes names (drop i written))
    ≡ or_else (first_broken (dim_rules attributes names (slice_index_or written i d))) (first_broken (dims_rules attributes (names ++ (slice_index_or written i d).name ∷ []) (drop (suc i) written)))
dims_from attributes written i d names h =
    ap (λ l. first_broken (dims_rules attributes names l)) (drop-cons written i d h)
    ∙ broken_then (dim_rules attributes names (slice_index_or written i d)) (dims_rules attributes (names ++ (slice_index_or written i d).name ∷ []) (drop (suc i) written))

pub dims_next : (attributes : List (List ℕ)) (written : List DimText) (i : ℕ) (d : DimText) (dimensions : List Dimension) → i < length written → DimsSo attributes written i dimensions
    → first_broken (dim_rules attributes (dimension_names dimensions) (slice_index_or written i d)) ≡ None → DimsSo attributes written (i + 1) (dimensions ++ dimension_of (slice_index_or written i d) ∷ [])
dims_next attributes written i d dimensions h so e =
    let next : suc i ≡ i + 1 = omega arith in
    so ∙ dims_from attributes written i d (dimension_names dimensions) h
    ∙ ap (λ o. or_else o (first_broken (dims_rules attributes (dimension_names dimensions ++ (slice_index_or written i d).name ∷ []) (drop (suc i) written)))) e
    ∙ ap (λ names. first_broken (dims_rules attributes names (drop (suc i) written))) (sym (map-append (λ (x : Dimension). x.name) dimensions (dimension_of (slice_index_or written i d) ∷ [])))
    ∙ ap (λ n. first_broken (dims_rules attributes (dimension_names (dimensions ++ dimension_of (slice_index_or written i d) ∷ [])) (drop n written))) next

pub dims_err : {A B : Type 0} (attributes : List (List ℕ)) (written : List DimText) (i : ℕ) (d : DimText) (dimensions : List Dimension) (a : A) (b : B) (e : SchemaFault) → i < length written
    → DimsSo attributes written i dimensions → Means (dim_rules attributes (dimension_names dimensions) (slice_index_or written i d)) a (Err e) → Means (dims_rules attributes [] written) b (Err e)
dims_err attributes written i d dimensions a b (fault.Rule span kind) h so e =
    so ∙ dims_from attributes written i d (dimension_names dimensions) h
    ∙ ap (λ o. or_else o (first_broken (dims_rules attributes (dimension_names dimensions ++ (slice_index_or written i d).name ∷ []) (drop (suc i) written)))) e
dims_err attributes written i d dimensions a b fault.Memory h so e = tt

pub dims_step : (names : List (List ℕ)) (written : List DimText) (i : ℕ) (d : DimText) (dimensions after : List Dimension) (x : Dimension) → i < length written
    → DimsSo names written i dimensions × (dimensions ≡ map dimension_of (take i written))
    → Means (dim_rules names (dimension_names dimensions) (slice_index_or written i d)) (dimension_of (slice_index_or written i d)) (Ok x) → after ≡ dimensions ++ x ∷ []
    → DimsSo names written (i + 1) after × (after ≡ map dimension_of (take (i + 1) written))
dims_step names written i d dimensions after x h (so, all) (e, same) p =
    let q : after ≡ dimensions ++ dimension_of (slice_index_or written i d) ∷ [] = p ∙ ap (λ x. dimensions ++ x ∷ []) same in
    (subst (DimsSo names written (i + 1)) (sym q) (dims_next names written i d dimensions h so e), q ∙ more_items dimension_of written i d dimensions h all)
