-- A schema whose items pass their tests is a valid schema of names, and the other way round.
use Rattle.std.proofs.Common.{◌≡◌, ℕ, ℤ, pos, negsuc, zero, suc, ◌+◌, ◌*◌, ◌^◌, ◌<◌, ◌≤◌, Bool, true, false, not, ◌&&◌, ◌||◌, nat_lt, nat_le, List, [], ◌∷◌, ◌++◌, map, length, get_or, refl, sym, ap, subst, ◌∙◌, append_assoc, arith}
use Rattle.std.specs.Prelude.{◌==◌, int_le, FitsSigned, unsigned_abs, IsTrue}
use Rattle.std.specs.Int.{w64, cast_unsigned}
use Rattle.std.specs.List.{AllByRecursion, list_all}
use Rattle.std.specs.Str.{bytes_eq}
use Rattle.std.proofs.lemmas.Bool.{and_parts, and_from, or_parts, not-true, leb-true, le-leb}
use Rattle.std.proofs.lemmas.Int.{ints}
use Rattle.std.proofs.lemmas.List.{append-nil, map-append}
use Rattle.std.proofs.lemmas.List.Folds.{list_any-append}
use Rattle.std.proofs.lemmas.Slice.Eq.{bytes_eq-Decides}
use Rattle.std.proofs.Math.Nat.{le-mul_of_pos_right, mul_comm}
use Rattle.file_items.specs.Items.{Are, AreCounted}
use Rattle.file_items.proofs.BytesLaws.{AreBytes}
use Rattle.cell_values.specs.Naming.{IsName, is_name, is_word_byte, begins_well, is_reserved}
use Rattle.cell_values.specs.Schemas.{attribute_names, dimension_names, names_of, is_among, are_distinct, is_bound, bounds_in_range, bounds_in_order, has_chunk, overlap_fits, is_dimension, has_attributes, has_dimensions, frame_length, frame_size, frame_fits, is_valid}
use Rattle.cell_values.specs.declared.schema.Attribute.{Attribute}
use Rattle.cell_values.specs.declared.schema.Dimension.{Dimension}
use Rattle.cell_values.specs.declared.schema.Schema.{Schema}
use Rattle.file_items.specs.Spelling.{IsSpelled}
use Rattle.file_items.specs.Table.{with_last, is_new_attribute, is_overlap, is_new_dimension}
use Rattle.file_items.proofs.Frames.{frame_size-append}
use Rattle.file_items.proofs.SchemasLaws.{IsSpelledName, IsNextAttribute, AreAttributes, IsSigned, IsRange, IsCut, IsExtent, extent_of, IsNextDimension, AreDimensions, ArePassed}

-- ---- names that are all different

differ_back : (b : Bool) (xs ys : List ℕ) → bytes_eq ys xs ≡ b → bytes_eq xs ys ≡ false → b ≡ false
differ_back false xs ys e h = refl
differ_back true xs ys e h =
    let same : xs ≡ ys = sym ((bytes_eq-Decides ys xs).0 e) in
    let again : bytes_eq xs ys ≡ true = (bytes_eq-Decides xs ys).1 same in
    cc

or_none : (a b : Bool) → a ≡ false → b ≡ false → (a || b) ≡ false
or_none a b p q = ap (λ v. v || b) p ∙ q

among_neither : (n : List ℕ) (xs ys : List (List ℕ)) → is_among n xs ≡ false → is_among n ys ≡ false → is_among n (xs ++ ys) ≡ false
among_neither n xs ys e f = list_any-append (bytes_eq n) xs ys ∙ or_none (is_among n xs) (is_among n ys) e f

among_parts : (n : List ℕ) (xs ys : List (List ℕ)) → is_among n (xs ++ ys) ≡ false → (is_among n xs ≡ false) × (is_among n ys ≡ false)
among_parts n xs ys e = or_parts (is_among n xs) (is_among n ys) (sym (list_any-append (bytes_eq n) xs ys) ∙ e)

-- one more name behind distinct ones
one_more : (xs : List (List ℕ)) (n : List ℕ) → are_distinct xs ≡ true → is_among n xs ≡ false → are_distinct (xs ++ n ∷ []) ≡ true
one_more [] n d e = refl
one_more (x ∷ xs) n d e =
    let p = and_parts (not (is_among x xs)) (are_distinct xs) d in
    let g = or_parts (bytes_eq n x) (is_among n xs) e in
    let apart : bytes_eq x n ≡ false = differ_back (bytes_eq x n) n x refl g.0 in
    let fresh : is_among x (xs ++ n ∷ []) ≡ false = among_neither x xs (n ∷ []) (not-true (is_among x xs) p.0) (or_none (bytes_eq x n) false apart refl) in
    and_from (not (is_among x (xs ++ n ∷ []))) (are_distinct (xs ++ n ∷ [])) (ap not fresh) (one_more xs n p.1 g.1)

-- a name behind distinct ones is none of them
none_before : (xs ys : List (List ℕ)) (n : List ℕ) → are_distinct (xs ++ n ∷ ys) ≡ true → is_among n xs ≡ false
none_before [] ys n d = refl
none_before (x ∷ xs) ys n d =
    let p = and_parts (not (is_among x (xs ++ n ∷ ys))) (are_distinct (xs ++ n ∷ ys)) d in
    let none = among_parts x xs (n ∷ ys) (not-true (is_among x (xs ++ n ∷ ys)) p.0) in
    let g = or_parts (bytes_eq x n) (is_among x ys) none.1 in
    or_none (bytes_eq n x) (is_among n xs) (differ_back (bytes_eq n x) x n refl g.0) (none_before xs ys n p.1)

-- each name is new behind a front and those before it
abbrev AreNew : {A : Type 0} → (A → List ℕ) → List (List ℕ) → List A → List A → Type 0
AreNew name front before [] = Unit {0}
AreNew name front before (x ∷ xs) = (not (is_among (name x) (front ++ map name before)) ≡ true) × AreNew name front (before ++ x ∷ []) xs

last_name : {A : Type 0} (name : A → List ℕ) (front : List (List ℕ)) (before : List A) (x : A) → (front ++ map name before) ++ name x ∷ [] ≡ front ++ map name (before ++ x ∷ [])
last_name name front before x = append_assoc front (map name before) (name x ∷ []) ∙ ap (λ (t : List (List ℕ)). front ++ t) (sym (map-append name before (x ∷ [])))

new_distinct : {A : Type 0} (name : A → List ℕ) (front : List (List ℕ)) (before xs : List A) → AreNew name front before xs → are_distinct (front ++ map name before) ≡ true → are_distinct (front ++ map name (before ++ xs)) ≡ true
new_distinct {A = A} name front before [] new d = subst (λ (all : List A). are_distinct (front ++ map name all) ≡ true) (sym (append-nil before)) d
new_distinct {A = A} name front before (x ∷ xs) new d =
    let more : are_distinct (front ++ map name (before ++ x ∷ [])) ≡ true =
    subst (λ (t : List (List ℕ)). are_distinct t ≡ true) (last_name name front before x) (one_more (front ++ map name before) (name x) d (not-true (is_among (name x) (front ++ map name before)) new.0)) in
    subst (λ (all : List A). are_distinct (front ++ map name all) ≡ true) (append_assoc before (x ∷ []) xs) (new_distinct name front (before ++ x ∷ []) xs new.1 more)

distinct_new : {A : Type 0} (name : A → List ℕ) (front : List (List ℕ)) (before xs : List A) → are_distinct (front ++ map name (before ++ xs)) ≡ true → AreNew name front before xs
distinct_new name front before [] d = tt
distinct_new {A = A} name front before (x ∷ xs) d =
    let split : front ++ map name (before ++ x ∷ xs) ≡ (front ++ map name before) ++ name x ∷ map name xs =
    ap (λ (t : List (List ℕ)). front ++ t) (map-append name before (x ∷ xs)) ∙ sym (append_assoc front (map name before) (name x ∷ map name xs)) in (
      ap not (none_before (front ++ map name before) (map name xs) (name x) (subst (λ (t : List (List ℕ)). are_distinct t ≡ true) split d)),
      distinct_new name front (before ++ x ∷ []) xs (subst (λ (all : List A). are_distinct (front ++ map name all) ≡ true) (sym (append_assoc before (x ∷ []) xs)) d),
    )

-- ---- names

is_small : (b : ℕ) → is_word_byte b ≡ true → b < 256
is_small b e = grind (arith, e)

word_bytes : (name : List ℕ) → list_all is_word_byte name ≡ true → AreBytes name
word_bytes [] all i = omega arith
word_bytes (b ∷ name) all zero = is_small b (and_parts (is_word_byte b) (list_all is_word_byte name) all).0
word_bytes (b ∷ name) all (suc i) = word_bytes name (and_parts (is_word_byte b) (list_all is_word_byte name) all).1 i

pub spelled_name : (name : List ℕ) → IsName name → IsSpelledName name
spelled_name name is =
    let a = and_parts (nat_le (length name) 64 && begins_well name && list_all is_word_byte name) (not (is_reserved name)) is in
    let b = and_parts (nat_le (length name) 64 && begins_well name) (list_all is_word_byte name) a.0 in
    let c = and_parts (nat_le (length name) 64) (begins_well name) b.0 in
    let short : length name ≤ 64 = leb-true (length name) 64 c.0 in
    ((omega (arith, short), word_bytes name b.1), is)

-- ---- attributes

abbrev NextAttributes : ℕ → List Attribute → List Attribute → Type 0
NextAttributes = Are IsNextAttribute with_last

new_attributes : (n : ℕ) (before xs : List Attribute) → NextAttributes n before xs → AreNew (λ a. a.name) [] before xs
unfolding Are
new_attributes zero before [] good = tt
new_attributes zero before (x ∷ xs) good = absurd good
new_attributes (suc n) before [] good = absurd good
new_attributes (suc n) before (x ∷ xs) good = (good.0.0.1, new_attributes n (before ++ x ∷ []) xs good.1)

named_attributes : (n : ℕ) (before xs : List Attribute) → NextAttributes n before xs → AllByRecursion IsName (attribute_names xs)
unfolding Are
named_attributes zero before [] good = tt
named_attributes zero before (x ∷ xs) good = absurd good
named_attributes (suc n) before [] good = absurd good
named_attributes (suc n) before (x ∷ xs) good = (good.0.0.0.1, named_attributes n (before ++ x ∷ []) xs good.1)

next_attributes : (before xs : List Attribute) → AreNew (λ a. a.name) [] before xs → AllByRecursion IsName (attribute_names xs) → NextAttributes (length xs) before xs
unfolding Are
next_attributes before [] new names = tt
next_attributes before (x ∷ xs) new names = (((spelled_name x.name names.0, new.0), (tt, tt)), next_attributes (before ++ x ∷ []) xs new.1 names.1)

-- ---- dimensions

abbrev NextDimensions : List (List ℕ) → ℕ → List Dimension → List Dimension → Type 0
NextDimensions names = Are (IsNextDimension names) with_last

new_dimensions : (names : List (List ℕ)) (n : ℕ) (before xs : List Dimension) → NextDimensions names n before xs → AreNew (λ d. d.name) names before xs
unfolding Are
new_dimensions names zero before [] good = tt
new_dimensions names zero before (x ∷ xs) good = absurd good
new_dimensions names (suc n) before [] good = absurd good
new_dimensions names (suc n) before (x ∷ xs) good = (good.0.0.1, new_dimensions names n (before ++ x ∷ []) xs good.1)

named_dimensions : (names : List (List ℕ)) (n : ℕ) (before xs : List Dimension) → NextDimensions names n before xs → AllByRecursion IsName (dimension_names xs)
unfolding Are
named_dimensions names zero before [] good = tt
named_dimensions names zero before (x ∷ xs) good = absurd good
named_dimensions names (suc n) before [] good = absurd good
named_dimensions names (suc n) before (x ∷ xs) good = (good.0.0.0.1, named_dimensions names n (before ++ x ∷ []) xs good.1)

-- the two parts of the overlap's test
overlap_parts : (before : List Dimension) (last : Bool) (chunk overlap : ℕ) → is_overlap before last chunk overlap ≡ true
    → (nat_le overlap chunk ≡ true) × ((not last || nat_le (frame_size before * (chunk + 2 * overlap)) 281474976710656) ≡ true)
overlap_parts before last chunk overlap e = and_parts (nat_le overlap chunk) (not last || nat_le (frame_size before * (chunk + 2 * overlap)) 281474976710656) e

rules_of : (names : List (List ℕ)) (before : List Dimension) (after : ℕ) (d : Dimension) → IsNextDimension names before after d → is_dimension d ≡ true
rules_of names before after d good =
    let hi = and_parts (is_bound d.hi) (int_le d.lo d.hi) good.1.0.1.1 in
    let o = overlap_parts before (after == 0) d.chunk d.overlap good.1.1.1.1 in
    and_from (bounds_in_range d && bounds_in_order d && has_chunk d) (overlap_fits d)
    (and_from (bounds_in_range d && bounds_in_order d) (has_chunk d) (and_from (bounds_in_range d) (bounds_in_order d) (and_from (is_bound d.lo) (is_bound d.hi) good.1.0.0.1 hi.0) hi.1) good.1.1.0.1) o.0

ruled_dimensions : (names : List (List ℕ)) (n : ℕ) (before xs : List Dimension) → NextDimensions names n before xs → list_all is_dimension xs ≡ true
unfolding Are
ruled_dimensions names zero before [] good = refl
ruled_dimensions names zero before (x ∷ xs) good = absurd good
ruled_dimensions names (suc n) before [] good = absurd good
ruled_dimensions names (suc n) before (x ∷ xs) good = and_from (is_dimension x) (list_all is_dimension xs) (rules_of names before n x good.0) (ruled_dimensions names n (before ++ x ∷ []) xs good.1)

-- the last dimension's test is that of all of them
frame_passed : (names : List (List ℕ)) (n : ℕ) (before : List Dimension) (x : Dimension) (xs : List Dimension) → NextDimensions names (suc n) before (x ∷ xs) → frame_fits (before ++ x ∷ xs) ≡ true
unfolding Are
frame_passed names zero before x [] good =
    let o = overlap_parts before true x.chunk x.overlap good.0.1.1.1.1 in
    subst (λ (size : ℕ). nat_le size 281474976710656 ≡ true) (sym (frame_size-append before x)) o.1
frame_passed names zero before x (y ∷ xs) good = absurd good.1
frame_passed names (suc n) before x [] good = absurd good.1
frame_passed names (suc n) before x (y ∷ xs) good =
    subst (λ (all : List Dimension). frame_fits all ≡ true) (append_assoc before (x ∷ []) (y ∷ xs)) (frame_passed names n (before ++ x ∷ []) y xs good.1)

some_dimensions : (names : List (List ℕ)) (n : ℕ) (xs : List Dimension) → nat_le 1 n ≡ true → NextDimensions names n [] xs → frame_fits xs ≡ true
unfolding Are
some_dimensions names zero xs some good = absurd cc
some_dimensions names (suc n) [] some good = absurd good
some_dimensions names (suc n) (x ∷ xs) some good = frame_passed names n [] x xs good

-- ---- the lengths of a valid schema

some_length : (d : Dimension) → is_dimension d ≡ true → 1 ≤ d.chunk
some_length d e =
    let a = and_parts (bounds_in_range d && bounds_in_order d && has_chunk d) (overlap_fits d) e in
    leb-true 1 d.chunk (and_parts (bounds_in_range d && bounds_in_order d) (has_chunk d) a.0).1

positive : (a b : ℕ) → 1 ≤ a → 1 ≤ b → 1 ≤ a * b
positive a b p q = let l : a ≤ a * b = le-mul_of_pos_right a (omega (arith, q)) in omega (arith, l, p)

some_places : (xs : List Dimension) → list_all is_dimension xs ≡ true → 1 ≤ frame_size xs
some_places [] all = omega arith
some_places (d ∷ xs) all =
    let p = and_parts (is_dimension d) (list_all is_dimension xs) all in
    positive (frame_length d) (frame_size xs) (omega (arith, some_length d p.0)) (some_places xs p.1)

-- a chunk of a valid schema is no longer than its frame
short_chunks : (xs : List Dimension) → list_all is_dimension xs ≡ true → frame_size xs ≤ 281474976710656 → AllByRecursion (λ d. d.chunk ≤ 281474976710656) xs
short_chunks [] all fits = tt
short_chunks (d ∷ xs) all fits =
    let p = and_parts (is_dimension d) (list_all is_dimension xs) all in
    let rest = some_places xs p.1 in
    let first : frame_length d ≤ frame_length d * frame_size xs = le-mul_of_pos_right (frame_length d) (omega (arith, rest)) in
    let some : 1 ≤ frame_length d = omega (arith, some_length d p.0) in
    let second : frame_size xs ≤ frame_size xs * frame_length d = le-mul_of_pos_right (frame_size xs) (omega (arith, some)) in
    let swapped : frame_size xs * frame_length d ≡ frame_length d * frame_size xs = mul_comm (frame_size xs) (frame_length d) in
    (omega (arith, first, fits), short_chunks xs p.1 (omega (arith, second, swapped, fits)))

-- ---- a valid schema passes

bound_fits : (n : ℤ) → is_bound n ≡ true → FitsSigned w64 n
bound_fits (pos n) e = let h : n ≤ 4611686018427387903 = leb-true n 4611686018427387903 e in omega (arith, ints)
bound_fits (negsuc n) e = let h : suc n ≤ 4611686018427387903 = leb-true (suc n) 4611686018427387903 e in omega (arith, ints)

signed_of : (n : ℤ) → is_bound n ≡ true → IsSigned n
signed_of n e = let fits : FitsSigned w64 n = bound_fits n e in (omega (arith, ints, fits), fits)

last_or : (before : List Dimension) (d : Dimension) (rest : List Dimension) → frame_fits (before ++ d ∷ rest) ≡ true → (not (length rest == 0) || nat_le (frame_size before * frame_length d) 281474976710656) ≡ true
last_or before d [] fits = subst (λ (size : ℕ). nat_le size 281474976710656 ≡ true) (frame_size-append before d) fits
last_or before d (x ∷ rest) fits = let e : (suc (length rest) == 0) ≡ false = grind arith in ap (λ (t : Bool). not t || nat_le (frame_size before * frame_length d) 281474976710656) e

next_one : (names : List (List ℕ)) (before : List Dimension) (d : Dimension) (rest : List Dimension) → is_dimension d ≡ true → d.chunk ≤ 281474976710656 → frame_fits (before ++ d ∷ rest) ≡ true
    → IsName d.name → is_new_dimension names before d.name ≡ true → IsNextDimension names before (length rest) d
next_one names before d rest e short fits name new =
    let a = and_parts (bounds_in_range d && bounds_in_order d && has_chunk d) (overlap_fits d) e in
    let b = and_parts (bounds_in_range d && bounds_in_order d) (has_chunk d) a.0 in
    let c = and_parts (bounds_in_range d) (bounds_in_order d) b.0 in
    let r = and_parts (is_bound d.lo) (is_bound d.hi) c.0 in
    let narrow : d.overlap ≤ d.chunk = leb-true d.overlap d.chunk a.1 in (
      (spelled_name d.name name, new),
      (
        ((signed_of d.lo r.0, r.0), (signed_of d.hi r.1, and_from (is_bound d.hi) (int_le d.lo d.hi) r.1 c.1)),
        ((omega (arith, short), b.1), (omega (arith, short, narrow), and_from (nat_le d.overlap d.chunk) (not (length rest == 0) || nat_le (frame_size before * (d.chunk + 2 * d.overlap)) 281474976710656) a.1 (last_or before d rest fits))),
      ),
    )

next_dimensions : (names : List (List ℕ)) (before xs : List Dimension) → AreNew (λ d. d.name) names before xs → AllByRecursion IsName (dimension_names xs)
    → list_all is_dimension xs ≡ true → AllByRecursion (λ d. d.chunk ≤ 281474976710656) xs → frame_fits (before ++ xs) ≡ true → NextDimensions names (length xs) before xs
unfolding Are
next_dimensions names before [] new named all short fits = tt
next_dimensions names before (d ∷ xs) new named all short fits =
    let p = and_parts (is_dimension d) (list_all is_dimension xs) all in (
      next_one names before d xs p.0 short.0 fits named.0 new.0,
      next_dimensions names (before ++ d ∷ []) xs new.1 named.1 p.1 short.1 (subst (λ (ds : List Dimension). frame_fits ds ≡ true) (sym (append_assoc before (d ∷ []) xs)) fits),
    )

-- ---- schemas

pub is_spelled : (schema : Schema) → ArePassed schema → IsSpelled schema
is_spelled schema passed =
    let attributes = schema.attributes in
    let dimensions = schema.dimensions in
    let names = attribute_names attributes in
    let distinct_front : are_distinct names ≡ true = new_distinct (λ a. a.name) [] [] attributes (new_attributes (length attributes) [] attributes passed.0.each) refl in
    let front : are_distinct (names ++ []) ≡ true = subst (λ (t : List (List ℕ)). are_distinct t ≡ true) (sym (append-nil names)) distinct_front in
    let distinct : are_distinct (names_of schema) ≡ true = new_distinct (λ d. d.name) names [] dimensions (new_dimensions names (length dimensions) [] dimensions passed.1.each) front in
    let some = and_parts (nat_le 1 (length dimensions)) (nat_le (length dimensions) 6) passed.1.count in
    let counts : (has_attributes attributes && has_dimensions dimensions) ≡ true = and_from (has_attributes attributes) (has_dimensions dimensions) passed.0.count passed.1.count in
    let three : (has_attributes attributes && has_dimensions dimensions && are_distinct (names_of schema)) ≡ true = and_from (has_attributes attributes && has_dimensions dimensions) (are_distinct (names_of schema)) counts distinct in
    let four : (has_attributes attributes && has_dimensions dimensions && are_distinct (names_of schema) && list_all is_dimension dimensions) ≡ true =
    and_from (has_attributes attributes && has_dimensions dimensions && are_distinct (names_of schema)) (list_all is_dimension dimensions) three (ruled_dimensions names (length dimensions) [] dimensions passed.1.each) in
    record {
      valid = and_from (has_attributes attributes && has_dimensions dimensions && are_distinct (names_of schema) && list_all is_dimension dimensions) (frame_fits dimensions) four (some_dimensions names (length dimensions) dimensions some.0 passed.1.each);
      attributes = named_attributes (length attributes) [] attributes passed.0.each;
      dimensions = named_dimensions names (length dimensions) [] dimensions passed.1.each;
    }

pub are_passed : (schema : Schema) → IsSpelled schema → ArePassed schema
are_passed schema is =
    let attributes = schema.attributes in
    let dimensions = schema.dimensions in
    let names = attribute_names attributes in
    let a = and_parts (has_attributes attributes && has_dimensions dimensions && are_distinct (names_of schema) && list_all is_dimension dimensions) (frame_fits dimensions) is.valid in
    let b = and_parts (has_attributes attributes && has_dimensions dimensions && are_distinct (names_of schema)) (list_all is_dimension dimensions) a.0 in
    let c = and_parts (has_attributes attributes && has_dimensions dimensions) (are_distinct (names_of schema)) b.0 in
    let d = and_parts (has_attributes attributes) (has_dimensions dimensions) c.0 in
    let few = and_parts (nat_le 1 (length attributes)) (nat_le (length attributes) 64) d.0 in
    let less = and_parts (nat_le 1 (length dimensions)) (nat_le (length dimensions) 6) d.1 in
    let at_most : length attributes ≤ 64 = leb-true (length attributes) 64 few.1 in
    let at_most_six : length dimensions ≤ 6 = leb-true (length dimensions) 6 less.1 in
    let fits : frame_size dimensions ≤ 281474976710656 = leb-true (frame_size dimensions) 281474976710656 a.1 in (
      record { below = omega (arith, at_most); count = d.0; each = next_attributes [] attributes (distinct_new (λ a. a.name) [] [] attributes (front_distinct names (dimension_names dimensions) c.1)) is.attributes },
      record { below = omega (arith, at_most_six); count = d.1; each = next_dimensions names [] dimensions (distinct_new (λ d. d.name) names [] dimensions c.1) is.dimensions b.1 (short_chunks dimensions b.1 fits) a.1 },
    ) where
      front_distinct : (xs ys : List (List ℕ)) → are_distinct (xs ++ ys) ≡ true → are_distinct xs ≡ true
      front_distinct [] ys e = refl
      front_distinct (x ∷ xs) ys e =
          let p = and_parts (not (is_among x (xs ++ ys))) (are_distinct (xs ++ ys)) e in
          let none = among_parts x xs ys (not-true (is_among x (xs ++ ys)) p.0) in
          and_from (not (is_among x xs)) (are_distinct xs) (ap not none.0) (front_distinct xs ys p.1)
