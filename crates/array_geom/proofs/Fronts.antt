-- What holds of lists holds of their first items, and of the others, as a function reads them from the front.
use Rattle.std.proofs.Common.{◌≡◌, ◌∙◌, ◌+◌, ◌*◌, ◌-◌, ◌/◌, ◌%◌, ◌≤◌, ◌<◌, ◌^◌, ℕ, ℤ, pos, ◌+ℤ◌, ◌≤ℤ◌, true, List, [], ◌∷◌, ◌++◌, append-nil, append_assoc, map, length, take, drop, get_or, length-append, refl, sym, ap, subst, arith}
use Rattle.std.specs.Prelude.{int_le, ◌&&◌}
use Rattle.std.specs.List.{AllByRecursion, list_all}
use Rattle.std.proofs.lemmas.List.{take_all}
use Rattle.array_rows.specs.Dimension.{Dimension}
use Rattle.array_rows.specs.Boxes.{by_pairs, is_between}
use Rattle.array_rows.specs.Table.{fits_int64}
use Rattle.array_geom.specs.Areas.{moved_by}
use Rattle.array_geom.specs.Geometry.{coordinate_in, first_in, has_core, volume}
use Rattle.array_geom.specs.Inner.Ranges.{AreLengths, AreMargins}
use Rattle.array_geom.proofs.TestLaws.{and_parts, le_from_test}

abbrev pub rest : {A : Type 0} → List A → List A
rest xs = take (length xs - 1) (drop 1 xs)

pub rest_is : {A : Type 0} (x : A) (xs : List A) → rest (x ∷ xs) ≡ xs
rest_is x xs = take_all (length (x ∷ xs) - 1) xs (omega arith)

pub shorter : {A : Type 0} (xs : List A) → 1 ≤ length xs → length (rest xs) < length xs
shorter [] some = absurd (omega (arith, some))
shorter (x ∷ xs) some = let same : length (rest (x ∷ xs)) ≡ length xs = ap length (rest_is x xs) in omega arith

pub all_head : {A : Type 0} (P : A → Type 0) (xs : List A) (x : A) → 1 ≤ length xs → AllByRecursion P xs → P (get_or xs 0 x)
all_head P [] x some all = absurd (omega (arith, some))
all_head P (y ∷ xs) x some all = all.0

pub all_first : {A : Type 0} (P : A → Type 0) (xs : List A) (x : A) → 1 ≤ length xs → x ≡ get_or xs 0 x → AllByRecursion P xs → P x
all_first P xs x some first all = subst P (sym first) (all_head P xs x some all)

pub all_rest : {A : Type 0} (P : A → Type 0) (xs : List A) → 1 ≤ length xs → AllByRecursion P xs → AllByRecursion P (rest xs)
all_rest P [] some all = absurd (omega (arith, some))
all_rest P (x ∷ xs) some all = subst (AllByRecursion P) (sym (rest_is x xs)) all.1

-- of six places, one is taken for the first item
pub room_left : {A B : Type 0} (old new : List A) (x : A) (ys : List B) → 1 ≤ length ys → new ≡ old ++ x ∷ [] → length old + length ys ≤ 6
    → length new + length (rest ys) ≤ 6
room_left old new x [] some is room = absurd (omega (arith, some))
room_left old new x (y ∷ ys) some is room =
    let more : length new ≡ length old + 1 = ap length is ∙ length-append old (x ∷ []) in
    let same : length (rest (y ∷ ys)) ≡ length ys = ap length (rest_is y ys) in omega arith

pub core_first : (d : Dimension) (dims : List Dimension) (ks : List ℕ) → 1 ≤ length dims → 1 ≤ length ks → d ≡ get_or dims 0 d
    → has_core dims ks ≡ true → first_in d (get_or ks 0 0) ≤ℤ d.hi
core_first d [] ks some _ _ _ = absurd (omega (arith, some))
core_first d (e ∷ dims) [] _ some _ _ = absurd (omega (arith, some))
core_first d (e ∷ dims) (k ∷ ks) _ _ first core =
    subst (λ (x : Dimension). first_in x k ≤ℤ x.hi) (sym first) (le_from_test _ _ (and_parts (int_le (first_in e k) e.hi) (has_core dims ks) core).0)

pub core_rest : (dims : List Dimension) (ks : List ℕ) → 1 ≤ length dims → 1 ≤ length ks → has_core dims ks ≡ true → has_core (rest dims) (rest ks) ≡ true
core_rest [] ks some _ _ = absurd (omega (arith, some))
core_rest (e ∷ dims) [] _ some _ = absurd (omega (arith, some))
core_rest (e ∷ dims) (k ∷ ks) _ _ core =
    ap (λ (ds : List Dimension). has_core ds (rest (k ∷ ks))) (rest_is e dims) ∙ ap (λ (ns : List ℕ). has_core dims ns) (rest_is k ks)
    ∙ (and_parts (int_le (first_in e k) e.hi) (has_core dims ks) core).1

pub margin_first : (d : Dimension) (dims : List Dimension) (margins : List ℕ) → 1 ≤ length dims → 1 ≤ length margins → d ≡ get_or dims 0 d
    → AreMargins dims margins → d.chunk + 2 * get_or margins 0 0 ≤ 2 ^ 48
margin_first d [] margins some _ _ _ = absurd (omega (arith, some))
margin_first d (e ∷ dims) [] _ some _ _ = absurd (omega (arith, some))
margin_first d (e ∷ dims) (m ∷ margins) _ _ first all = subst (λ (x : Dimension). x.chunk + 2 * m ≤ 2 ^ 48) (sym first) all.0

pub margins_rest : (dims : List Dimension) (margins : List ℕ) → 1 ≤ length dims → 1 ≤ length margins → AreMargins dims margins
    → AreMargins (rest dims) (rest margins)
margins_rest [] margins some _ _ = absurd (omega (arith, some))
margins_rest (e ∷ dims) [] _ some _ = absurd (omega (arith, some))
margins_rest (e ∷ dims) (m ∷ margins) _ _ all =
    subst (λ (ds : List Dimension). AreMargins ds (rest (m ∷ margins))) (sym (rest_is e dims)) (subst (AreMargins dims) (sym (rest_is m margins)) all.1)

-- a coordinate within the bounds of dimensions, from its first number on
pub record Within (d : Dimension) (dims : List Dimension) (at : List ℤ) : Type 0 where
  pub low : d.lo ≤ℤ get_or at 0 (pos 0)
  pub high : get_or at 0 (pos 0) ≤ℤ d.hi
  pub more : is_between (map (λ (d : Dimension). d.lo) (rest dims)) (map (λ (d : Dimension). d.hi) (rest dims)) (rest at) ≡ true

pub within : (d : Dimension) (dims : List Dimension) (at : List ℤ) → 1 ≤ length dims → 1 ≤ length at → d ≡ get_or dims 0 d
    → is_between (map (λ (d : Dimension). d.lo) dims) (map (λ (d : Dimension). d.hi) dims) at ≡ true → Within d dims at
within d [] at some _ _ _ = absurd (omega (arith, some))
within d (e ∷ dims) [] _ some _ _ = absurd (omega (arith, some))
within d (e ∷ dims) (x ∷ at) _ _ first inside =
    let Inside = λ (ds : List Dimension) (c : List ℤ). is_between (map (λ (d : Dimension). d.lo) ds) (map (λ (d : Dimension). d.hi) ds) c in
    let both = and_parts (int_le e.lo x && int_le x e.hi) (Inside dims at) inside in
    let ends = and_parts (int_le e.lo x) (int_le x e.hi) both.0 in
    record {
      low = subst (λ (y : Dimension). y.lo ≤ℤ x) (sym first) (le_from_test e.lo x ends.0);
      high = subst (λ (y : Dimension). x ≤ℤ y.hi) (sym first) (le_from_test x e.hi ends.1);
      more = ap (λ (ds : List Dimension). Inside ds (rest (x ∷ at))) (rest_is e dims) ∙ ap (Inside dims) (rest_is x at) ∙ both.1;
    }

-- ---- how many coordinates a box has

pub whole : (ns : List ℕ) → 1 ≤ length ns → get_or ns 0 0 * volume (rest ns) ≡ volume ns
whole [] more = absurd (omega (arith, more))
whole (n ∷ ns) more = ap (λ (l : List ℕ). n * volume l) (rest_is n ns)

at_most : (n v limit : ℕ) → 0 < n → n * v ≤ limit → v ≤ limit
at_most n v limit more small = grind arith

pub small_rest : (ns : List ℕ) (limit : ℕ) → 1 ≤ length ns → AreLengths ns → volume ns ≤ limit → volume (rest ns) ≤ limit
small_rest [] limit more all small = absurd (omega (arith, more))
small_rest (n ∷ ns) limit more all small = subst (λ (l : List ℕ). volume l ≤ limit) (sym (rest_is n ns)) (at_most n (volume ns) limit all.0 small)

pub as_many_rest : {A B : Type 0} (xs : List A) (ys : List B) → 1 ≤ length xs → 1 ≤ length ys → length xs ≡ length ys → length (rest xs) ≡ length (rest ys)
as_many_rest [] ys more _ _ = absurd (omega (arith, more))
as_many_rest (x ∷ xs) [] _ more _ = absurd (omega (arith, more))
as_many_rest (x ∷ xs) (y ∷ ys) _ _ same =
    let left : length (rest (x ∷ xs)) ≡ length xs = ap length (rest_is x xs) in
    let right : length (rest (y ∷ ys)) ≡ length ys = ap length (rest_is y ys) in omega arith

pub get_first : {A : Type 0} (xs : List A) (x : A) → 1 ≤ length xs → get_or xs 0 x ≡ get_or xs 0 (get_or xs 0 x)
get_first [] x more = absurd (omega (arith, more))
get_first (y ∷ xs) x more = refl

-- ---- what is pushed

-- a number of a frame, and those behind it
pub frame_pushed : (f : Dimension → ℕ → ℤ) (g : ℤ → ℕ → ℤ) (d : Dimension) (dims : List Dimension) (ks margins : List ℕ) (old more new : List ℤ) (z : ℤ) → 1 ≤ length dims → 1 ≤ length ks
    → 1 ≤ length margins → d ≡ get_or dims 0 d → more ≡ old ++ z ∷ [] → new ≡ more ++ by_pairs g (by_pairs f (rest dims) (rest ks)) (rest margins)
    → z ≡ g (f d (get_or ks 0 0)) (get_or margins 0 0)
    → new ≡ old ++ by_pairs g (by_pairs f dims ks) margins
frame_pushed f g d [] ks margins old more new z some _ _ _ _ _ _ = absurd (omega (arith, some))
frame_pushed f g d (e ∷ dims) [] margins old more new z _ some _ _ _ _ _ = absurd (omega (arith, some))
frame_pushed f g d (e ∷ dims) (k ∷ ks) [] old more new z _ _ some _ _ _ _ = absurd (omega (arith, some))
frame_pushed f g d (e ∷ dims) (k ∷ ks) (m ∷ margins) old more new z _ _ _ first pushed after is =
    after ∙ ap (λ (ds : List Dimension). more ++ by_pairs g (by_pairs f ds (rest (k ∷ ks))) (rest (m ∷ margins))) (rest_is e dims)
    ∙ ap (λ (ns : List ℕ). more ++ by_pairs g (by_pairs f dims ns) (rest (m ∷ margins))) (rest_is k ks)
    ∙ ap (λ (ns : List ℕ). more ++ by_pairs g (by_pairs f dims ks) ns) (rest_is m margins)
    ∙ ap (λ (l : List ℤ). l ++ by_pairs g (by_pairs f dims ks) margins) pushed ∙ append_assoc old (z ∷ []) (by_pairs g (by_pairs f dims ks) margins)
    ∙ ap (λ (x : ℤ). old ++ x ∷ by_pairs g (by_pairs f dims ks) margins) (is ∙ ap (λ (x : Dimension). g (f x k) m) first)

pub no_frame : (f : Dimension → ℕ → ℤ) (g : ℤ → ℕ → ℤ) (dims : List Dimension) (ks margins : List ℕ) (old : List ℤ) → length dims < 1
    → old ≡ old ++ by_pairs g (by_pairs f dims ks) margins
no_frame f g [] ks margins old none = sym (append-nil old)
no_frame f g (d ∷ dims) ks margins old none = absurd (omega (arith, none))

pub no_place : (low : List ℤ) (lengths : List ℕ) (p : ℕ) (old : List ℤ) → length lengths < 1 → old ≡ old ++ coordinate_in low lengths p
no_place low [] p old none = sym (append-nil old)
no_place low (n ∷ lengths) p old none = absurd (omega (arith, none))

-- the first number of the coordinate at a place, and those behind it
pub place_pushed : (low : List ℤ) (lengths : List ℕ) (p size place : ℕ) (old more new : List ℤ) (z : ℤ) → 1 ≤ length low → 1 ≤ length lengths
    → more ≡ old ++ z ∷ []
    → new ≡ more ++ coordinate_in (rest low) (rest lengths) place → z ≡ get_or low 0 (pos 0) +ℤ pos (p / size) → place ≡ p % size
    → size ≡ volume (rest lengths) → new ≡ old ++ coordinate_in low lengths p
place_pushed [] lengths p size place old more new z some _ _ _ _ _ _ = absurd (omega (arith, some))
place_pushed (l ∷ low) [] p size place old more new z _ some _ _ _ _ _ = absurd (omega (arith, some))
place_pushed (l ∷ low) (n ∷ lengths) p size place old more new z _ _ pushed after is at is_volume =
    let same : size ≡ volume lengths = is_volume ∙ ap volume (rest_is n lengths) in
    let behind = coordinate_in low lengths (p % volume lengths) in
    after ∙ ap (λ (ls : List ℤ). more ++ coordinate_in ls (rest (n ∷ lengths)) place) (rest_is l low)
    ∙ ap (λ (ns : List ℕ). more ++ coordinate_in low ns place) (rest_is n lengths)
    ∙ ap (λ (q : ℕ). more ++ coordinate_in low lengths q) (at ∙ ap (λ (v : ℕ). p % v) same)
    ∙ ap (λ (ls : List ℤ). ls ++ behind) pushed ∙ append_assoc old (z ∷ []) behind
    ∙ ap (λ (x : ℤ). old ++ x ∷ behind) (is ∙ ap (λ (v : ℕ). l +ℤ pos (p / v)) same)

-- the first number that is moved fits, and those behind it
pub moved_fit : (at by : List ℤ) → 1 ≤ length at → 1 ≤ length by → list_all fits_int64 (moved_by by at) ≡ true
    → (fits_int64 (get_or at 0 (pos 0) +ℤ get_or by 0 (pos 0)) ≡ true) × (list_all fits_int64 (moved_by (rest by) (rest at)) ≡ true)
moved_fit [] by some _ _ = absurd (omega (arith, some))
moved_fit (x ∷ at) [] _ some _ = absurd (omega (arith, some))
moved_fit (x ∷ at) (n ∷ by) _ _ fits =
    let both = and_parts (fits_int64 (x +ℤ n)) (list_all fits_int64 (moved_by by at)) fits in
    let others = ap (λ (l : List ℤ). list_all fits_int64 (moved_by (rest (n ∷ by)) l)) (rest_is x at) in
    (both.0, others ∙ ap (λ (l : List ℤ). list_all fits_int64 (moved_by l at)) (rest_is n by) ∙ both.1)
