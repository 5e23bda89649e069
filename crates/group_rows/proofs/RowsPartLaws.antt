-- The groups of many parts.
use Rattle.std.proofs.Common.{◌≡◌, ℕ, zero, suc, ◌+◌, ◌≤◌, List, [], ◌∷◌, ◌++◌, take, drop, Option, Some, None, refl, sym, ap, ◌∙◌, subst, arith}
use Rattle.std.proofs.lemmas.List.{take-append-drop, drop-take}
use Rattle.std.specs.List.{AllByRecursion, AllZip}
use Rattle.std.specs.Prelude.{⊤}
use Rattle.cell_values.specs.declared.datum.Row.{Row}
use Rattle.array_rows.specs.Rows.{Coordinate, IsRising}
use Rattle.logical_plan.specs.declared.parts.Aggregate.{Aggregate}
use Rattle.agg_states.specs.Inner.Summary.{Summary}
use Rattle.agg_states.proofs.Orders.{sets_in_any_groups}
use Rattle.group_rows.specs.declared.rows.groups.Group.{Group}
use Rattle.group_rows.specs.declared.rows.groups.Groups.{Groups}
use Rattle.group_rows.specs.Counts.{cells_in, cells_in_all}
use Rattle.group_rows.specs.Grouped.{states_at, IsGroupOf, AreGroupsOf, ArePartsOf}
use Rattle.group_rows.specs.Sets.{Sets, both, both_sets, all_sets, IsApart, AreApartSets, AreAllApart}
use Rattle.group_rows.proofs.RowLemmas.{all_left, all_right, both_apart, apart_both}
use Rattle.group_rows.proofs.FormLaws.{same_sets}

-- ---- groups of three parts

abbrev Rises : Option (List Row) → Type 0
Rises None = ⊤
Rises (Some rows) = IsRising rows

rises : (gs : List Aggregate) (rows : Option (List Row)) (states : Option (List Summary)) → IsGroupOf gs rows states → Rises rows
rises gs None states h = tt
rises gs (Some rows) None h = absurd h
rises gs (Some rows) (Some states) h = h.0

both_of_three : (a b c : Option (List Row)) → Rises c → both a (both b c) ≡ both (both a b) c
both_of_three None b c r = refl
both_of_three (Some a) None c r = refl
both_of_three (Some a) (Some b) None r = refl
both_of_three (Some a) (Some b) (Some c) r = ap (λ (rows : List Row). Some rows) (sym (sets_in_any_groups a b c r))

first_apart : (a b c : Option (List Row)) → IsApart a c → IsApart b c → IsApart (both a b) c
first_apart None b c p q = q
first_apart (Some a) None c p q = p
first_apart (Some a) (Some b) None p q = tt
first_apart (Some a) (Some b) (Some c) p q = both_apart a b c p q

second_apart : (a b c : Option (List Row)) → IsApart a b → IsApart a c → IsApart a (both b c)
second_apart None b c p q = tt
second_apart (Some a) None c p q = q
second_apart (Some a) (Some b) None p q = p
second_apart (Some a) (Some b) (Some c) p q = apart_both a b c p q

-- ---- lists of parts

one_apart : (own : Sets) (parts : List Sets) → AllByRecursion (AreApartSets own) parts → AreApartSets own (all_sets parts)
one_apart own [] h c = none (own c)
  where
    none : (o : Option (List Row)) → IsApart o None
    none None = tt
    none (Some a) = tt
one_apart own (sets ∷ parts) h c = second_apart (own c) (sets c) (all_sets parts c) (h.0 c) (one_apart own parts h.1 c)

all_apart : (a b : List Sets) → AreAllApart (a ++ b) → AreApartSets (all_sets a) (all_sets b)
all_apart [] b h c = tt
all_apart (sets ∷ a) b h c =
    first_apart (sets c) (all_sets a c) (all_sets b c) (one_apart sets b (all_right (AreApartSets sets) a b h.0) c) (all_apart a b h.1 c)

all_joined : (a b : List Sets) (c : Coordinate) → Rises (all_sets b c) → both (all_sets a c) (all_sets b c) ≡ all_sets (a ++ b) c
all_joined [] b c r = refl
all_joined (sets ∷ a) b c r = sym (both_of_three (sets c) (all_sets a c) (all_sets b c) r) ∙ ap (both (sets c)) (all_joined a b c r)

apart_left : (a b : List Sets) → AreAllApart (a ++ b) → AreAllApart a
apart_left [] b h = tt
apart_left (sets ∷ a) b h = (all_left (AreApartSets sets) a b h.0, apart_left a b h.1)

apart_right : (a b : List Sets) → AreAllApart (a ++ b) → AreAllApart b
apart_right [] b h = h
apart_right (sets ∷ a) b h = apart_right a b h.1

zip_take : {A B : Type 0} (R : A → B → Type 0) (n : ℕ) (xs : List A) (ys : List B) → AllZip R xs ys → AllZip R (take n xs) (take n ys)
zip_take R zero xs ys h = tt
zip_take R (suc n) [] [] h = tt
zip_take R (suc n) [] (y ∷ ys) h = absurd h
zip_take R (suc n) (x ∷ xs) [] h = absurd h
zip_take R (suc n) (x ∷ xs) (y ∷ ys) h = (h.0, zip_take R n xs ys h.1)

zip_drop : {A B : Type 0} (R : A → B → Type 0) (n : ℕ) (xs : List A) (ys : List B) → AllZip R xs ys → AllZip R (drop n xs) (drop n ys)
zip_drop R zero xs ys h = h
zip_drop R (suc n) [] [] h = tt
zip_drop R (suc n) [] (y ∷ ys) h = absurd h
zip_drop R (suc n) (x ∷ xs) [] h = absurd h
zip_drop R (suc n) (x ∷ xs) (y ∷ ys) h = zip_drop R n xs ys h.1

take_less : {A : Type 0} (n m : ℕ) (xs : List A) → take n (take (n + m) xs) ≡ take n xs
take_less zero m xs = refl
take_less (suc n) m [] = nothing (suc n + m)
  where
    nothing : {A : Type 0} (k : ℕ) → take (suc n) (take {A = A} k []) ≡ []
    nothing zero = refl
    nothing (suc k) = refl
take_less (suc n) m (x ∷ xs) =
    ap (λ k. take (suc n) (take k (x ∷ xs))) (next n m) ∙ ap (λ zs. x ∷ zs) (take_less n m xs)
  where
    next : (n m : ℕ) → suc n + m ≡ suc (n + m)
    next n m = omega arith

-- ---- halves of the parts

pub front : (gs : List Aggregate) (sets : List Sets) (n m count : ℕ) (parts : List Groups) → n + m ≡ count → ArePartsOf gs sets (take count parts) → ArePartsOf gs (take n sets) (take n parts)
front gs sets n m count parts e h =
    subst (ArePartsOf gs (take n sets)) (ap (λ k. take n (take k parts)) (sym e) ∙ take_less n m parts)
    (zip_take (λ own part. AreGroupsOf gs own part.groups) n sets (take count parts) h)

pub back : (gs : List Aggregate) (sets : List Sets) (n m count : ℕ) (parts left : List Groups) → n + m ≡ count → left ≡ drop n parts → ArePartsOf gs sets (take count parts) → ArePartsOf gs (drop n sets) (take m left)
back gs sets n m count parts left e l h =
    subst (ArePartsOf gs (drop n sets)) (ap (λ k. drop n (take k parts)) (sym e) ∙ drop-take n m parts ∙ ap (take m) (sym l))
    (zip_drop (λ own part. AreGroupsOf gs own part.groups) n sets (take count parts) h)

halves : (n : ℕ) (sets : List Sets) → AreAllApart sets → AreAllApart (take n sets ++ drop n sets)
halves n sets p = subst AreAllApart (sym (take-append-drop n sets)) p

pub front_apart : (n : ℕ) (sets : List Sets) → AreAllApart sets → AreAllApart (take n sets)
front_apart n sets p = apart_left (take n sets) (drop n sets) (halves n sets p)

pub back_apart : (n : ℕ) (sets : List Sets) → AreAllApart sets → AreAllApart (drop n sets)
back_apart n sets p = apart_right (take n sets) (drop n sets) (halves n sets p)

pub halves_apart : (n : ℕ) (sets : List Sets) → AreAllApart sets → AreApartSets (all_sets (take n sets)) (all_sets (drop n sets))
halves_apart n sets p = all_apart (take n sets) (drop n sets) (halves n sets p)

pub both_halves : (gs : List Aggregate) (n : ℕ) (sets : List Sets) (right groups : List Group) → AreGroupsOf gs (all_sets (drop n sets)) right
    → AreGroupsOf gs (both_sets (all_sets (take n sets)) (all_sets (drop n sets))) groups → AreGroupsOf gs (all_sets sets) groups
both_halves gs n sets right groups r h =
    same_sets gs (both_sets (all_sets (take n sets)) (all_sets (drop n sets))) (all_sets sets) groups
    (λ c.
    all_joined (take n sets) (drop n sets) c (rises gs (all_sets (drop n sets) c) (states_at right c) (r.each c))
    ∙ ap (λ (some : List Sets). all_sets some c) (take-append-drop n sets))
    h

pub none_of : (gs : List Aggregate) (sets : List Sets) (groups : List Group) → ArePartsOf gs sets [] → groups ≡ [] → AreGroupsOf gs (all_sets sets) groups
none_of gs [] groups h e = subst (AreGroupsOf gs (all_sets [])) (sym e) (record { in_order = tt; each = λ c. tt })
none_of gs (own ∷ sets) groups h e = absurd h

alone : (gs : List Aggregate) (sets : List Sets) (part : Groups) → ArePartsOf gs sets (part ∷ []) → AreGroupsOf gs (all_sets sets) part.groups
alone gs [] part h = absurd h
alone gs (own ∷ other ∷ sets) part h = absurd h.1
alone gs (own ∷ []) part h = same_sets gs own (all_sets (own ∷ [])) part.groups (λ c. none_more (own c)) h.0
  where
    none_more : (o : Option (List Row)) → o ≡ both o None
    none_more None = refl
    none_more (Some rows) = refl

pub one_of : (gs : List Aggregate) (sets : List Sets) (part : Groups) (parts : List Groups) → part ∷ [] ≡ take 1 parts → ArePartsOf gs sets (take 1 parts) → AreGroupsOf gs (all_sets sets) part.groups
one_of gs sets part parts e h = alone gs sets part (subst (ArePartsOf gs sets) (sym e) h)

-- ---- counts

cells_append : (a b : List Groups) → cells_in_all (a ++ b) ≡ cells_in_all a + cells_in_all b
cells_append [] b = omega arith
cells_append (x ∷ a) b =
    let e = cells_append a b in
    omega (arith, e)

pub cells_halves : (n : ℕ) (parts : List Groups) → cells_in_all (take n parts) + cells_in_all (drop n parts) ≡ cells_in_all parts
cells_halves n parts = sym (cells_append (take n parts) (drop n parts)) ∙ ap cells_in_all (take-append-drop n parts)

pub cells_of_one : (part : Groups) (parts : List Groups) → part ∷ [] ≡ take 1 parts → cells_in part.groups ≤ cells_in_all (take 1 parts)
cells_of_one part parts e =
    let f = ap cells_in_all e in
    omega (arith, f)

pub cells_of_both : (n m count : ℕ) (parts left : List Groups) → n + m ≡ count → left ≡ drop n parts → cells_in_all (take n parts) + cells_in_all (take m left) ≡ cells_in_all (take count parts)
cells_of_both n m count parts left e l =
    (λ i. cells_in_all (sym (take_less n m parts) i) + cells_in_all ((ap (take m) l ∙ sym (drop-take n m parts)) i))
    ∙ cells_halves n (take (n + m) parts)
    ∙ ap (λ k. cells_in_all (take k parts)) e
