-- A cross join by partners is that of the rows.
use Rattle.std.proofs.Common.{◌≡◌, ℕ, ◌+◌, ◌≤◌, Bool, true, false, cond, List, [], ◌∷◌, ◌++◌, map, length, refl, sym, ap, ◌∙◌, subst, pos, length-append}
use Rattle.std.proofs.lemmas.Cmp.{int_cmp_total}
use Rattle.std.proofs.lemmas.List.{length-map}
use Rattle.std.proofs.lemmas.List.Elements.{All-map, All-filter}
use Rattle.std.proofs.lemmas.List.Sorted.{All-permutation}
use Rattle.std.specs.List.{All, filter, flat_map}
use Rattle.std.specs.List.Sorted.{IsPermutation, IsStableByKey, ties}
use Rattle.std.specs.Ordering.{is_lt, is_eq, int_cmp, int_eq, ordering_reverse, ordering_then}
use Rattle.std.specs.Prelude.{◌&&◌, not, slice_index_or}
use Rattle.std.specs.declared.cmp.Ordering.{Ordering}
use Rattle.std.specs.declared.cmp.Ordering.TheVariants.{Less, Equal, Greater}
use Rattle.cell_values.specs.declared.datum.Row.{Row}
use Rattle.array_rows.specs.Rows.{Coordinate, row_major, rows_where}
use Rattle.array_rows.proofs.RowsLemmas.{row_major_total}
use Rattle.logical_plan.specs.declared.parts.Pair.{Pair}
use Rattle.logical_plan.specs.BoxOps.{items_but, numbers_at}
use Rattle.logical_plan.specs.Joins.{agree, cross_at, cross_rows, right_places}
use Rattle.logical_plan.specs.Typing.{left_places}
use Rattle.exec_join.specs.declared.partners.Partner.{Partner}
use Rattle.exec_join.specs.Inner.Cross.{HaveRoom}
use Rattle.exec_join.specs.Inner.Partners.{HasRoom, against, crossed, crossed_with, has_paired, paired_of, partner}

pub few_places : {X : Type 0} (f : Pair → X) (pairs : List Pair) → length pairs ≤ 6 → length (map f pairs) ≤ 6
few_places f pairs few = subst (λ (n : ℕ). n ≤ 6) (sym (length-map pairs f)) few

-- ---- tests

same_filter : {X : Type 0} (p q : X → Bool) → ((x : X) → p x ≡ q x) → (xs : List X) → filter p xs ≡ filter q xs
same_filter p q same [] = refl
same_filter p q same (x ∷ xs) = λ i. cond (same x i) (x ∷ same_filter p q same xs i) (same_filter p q same xs i)

filter_mapped : {X Y : Type 0} (p : Y → Bool) (f : X → Y) (xs : List X) → filter p (map f xs) ≡ map f (filter (λ x. p (f x)) xs)
filter_mapped p f [] = refl
filter_mapped p f (x ∷ xs) = cases (p (f x)) (filter_mapped p f xs)
  where
    cases : (b : Bool) → filter p (map f xs) ≡ map f (filter (λ x. p (f x)) xs) → cond b (f x ∷ filter p (map f xs)) (filter p (map f xs)) ≡ map f (cond b (x ∷ filter (λ x. p (f x)) xs) (filter (λ x. p (f x)) xs))
    cases true rest = ap (λ (ys : List _). f x ∷ ys) rest
    cases false rest = rest

tied : (o : Ordering) → not (is_lt (ordering_reverse o)) && not (is_lt o) ≡ is_eq o
tied Less = refl
tied Equal = refl
tied Greater = refl

reversed : (o : Ordering) → is_eq (ordering_reverse o) ≡ is_eq o
reversed Less = refl
reversed Equal = refl
reversed Greater = refl

both_equal : (o q : Ordering) → is_eq (ordering_then o q) ≡ is_eq o && is_eq q
both_equal Less q = refl
both_equal Equal q = refl
both_equal Greater q = refl

-- ---- agreement

-- coordinates agree where their paired numbers are the same
same_numbers : (pairs : List Pair) (l r : Coordinate) → is_eq (row_major (numbers_at (right_places pairs) r) (numbers_at (left_places pairs) l)) ≡ agree pairs l r
same_numbers [] l r = refl
same_numbers (p ∷ pairs) l r =
    let x = slice_index_or l p.left (pos 0) in
    let y = slice_index_or r p.right (pos 0) in
    both_equal (int_cmp y x) (row_major (numbers_at (right_places pairs) r) (numbers_at (left_places pairs) l))
    ∙ (λ i. one i && same_numbers pairs l r i)
  where
    one : is_eq (int_cmp (slice_index_or r p.right (pos 0)) (slice_index_or l p.left (pos 0))) ≡ int_eq (slice_index_or l p.left (pos 0)) (slice_index_or r p.right (pos 0))
    one =
        ap is_eq (int_cmp_total.antisymm (slice_index_or r p.right (pos 0)) (slice_index_or l p.left (pos 0)))
        ∙ reversed (int_cmp (slice_index_or l p.left (pos 0)) (slice_index_or r p.right (pos 0)))

-- a partner with these paired numbers
abbrev seeker : Coordinate → Row → Partner
seeker key any = record { paired = record { items = key }; others = record { items = [] }; cell = any.cell }

abbrev is_lower : Partner → Partner → Bool
is_lower x y = is_lt (row_major (paired_of x) (paired_of y))

tied_seeker : (key : Coordinate) (any : Row) (p : Partner) → ties is_lower (seeker key any) p ≡ has_paired key p
tied_seeker key any p =
    ap (λ (o : Ordering). not (is_lt o) && not (is_lt (against key p))) (row_major_total.antisymm key p.paired.items)
    ∙ tied (against key p)

-- partners with a left row's numbers, in the order of all
found : (key : Coordinate) (any : Row) (all sorted : List Partner) → IsStableByKey paired_of row_major all sorted → filter (has_paired key) sorted ≡ filter (has_paired key) all
found key any all sorted stable = sym (alike sorted) ∙ stable (seeker key any) ∙ alike all
  where
    alike : (ps : List Partner) → filter (ties is_lower (seeker key any)) ps ≡ filter (has_paired key) ps
    alike ps = same_filter (ties is_lower (seeker key any)) (has_paired key) (tied_seeker key any) ps

mapped_twice : {X Y Z : Type 0} (g : Y → Z) (f : X → Y) (xs : List X) → map g (map f xs) ≡ map (λ x. g (f x)) xs
mapped_twice g f [] = refl
mapped_twice g f (x ∷ xs) = ap (λ (zs : List _). g (f x) ∷ zs) (mapped_twice g f xs)

one_left : (pairs : List Pair) (l : Row) (right : List Row) (sorted : List Partner) → IsStableByKey paired_of row_major (map (partner (right_places pairs)) right) sorted
    → crossed_with (left_places pairs) sorted l ≡ map (λ r. crossed l (partner (right_places pairs) r)) (rows_where (agree pairs l.at.items) right)
one_left pairs l right sorted stable =
    let key = numbers_at (left_places pairs) l.at.items in
    ap (map (crossed l))
    (found key l (map (partner (right_places pairs)) right) sorted stable ∙ filter_mapped (has_paired key) (partner (right_places pairs)) right
    ∙ ap (map (partner (right_places pairs))) (same_filter (λ r. has_paired key (partner (right_places pairs) r)) (λ r. agree pairs l.at.items r.at.items) (λ r. same_numbers pairs l.at.items r.at.items) right))
    ∙ mapped_twice (crossed l) (partner (right_places pairs)) (rows_where (agree pairs l.at.items) right)

pub crosses : (pairs : List Pair) (left right : List Row) (sorted : List Partner) → IsStableByKey paired_of row_major (map (partner (right_places pairs)) right) sorted
    → flat_map (crossed_with (left_places pairs) sorted) left ≡ cross_rows pairs left right
crosses pairs [] right sorted stable = refl
crosses pairs (l ∷ left) right sorted stable = λ i. one_left pairs l right sorted stable i ++ crosses pairs left right sorted stable i

-- ---- room

pub rooms : (pairs : List Pair) (left right : List Row) (sorted : List Partner) → IsPermutation (map (partner (right_places pairs)) right) sorted → HaveRoom pairs left right → All (HasRoom sorted) left
rooms pairs left right sorted same room = λ k d l. one (slice_index_or left k d) (room k d l)
  where
    one : (row : Row) → All (λ r. length (cross_at pairs row.at.items r.at.items) ≤ 6) right → HasRoom sorted row
    one row fits =
        All-permutation (λ p. length row.at.items + length p.others.items ≤ 6) (map (partner (right_places pairs)) right) sorted same
        (All-map (λ p. length row.at.items + length p.others.items ≤ 6) (partner (right_places pairs)) right
        (λ k d l. subst (λ (n : ℕ). n ≤ 6) (length-append row.at.items (items_but (right_places pairs) 0 (slice_index_or right k d).at.items)) (fits k d l)))

pub found_room : (key : Coordinate) (row : Row) (partners some : List Partner) → some ≡ filter (has_paired key) partners → HasRoom partners row → HasRoom some row
found_room key row partners some e room =
    subst (λ (ps : List Partner). HasRoom ps row) (sym e) (All-filter (has_paired key) (λ p. length row.at.items + length p.others.items ≤ 6) partners room)

-- ---- what the code has

pub rooms_of : (pairs : List Pair) (left right : List Row) (places : List ℕ) (sorted taken : List Partner) → places ≡ right_places pairs → taken ≡ sorted → IsPermutation (map (partner places) right) sorted → HaveRoom pairs left right → All (HasRoom taken) left
rooms_of pairs left right places sorted taken e f same room =
    subst (λ (ps : List Partner). All (HasRoom ps) left) (sym f) (rooms pairs left right sorted (subst (λ (ns : List ℕ). IsPermutation (map (partner ns) right) sorted) e same) room)

pub crossed_all : (pairs : List Pair) (left right : List Row) (lefts places : List ℕ) (sorted taken : List Partner) → lefts ≡ left_places pairs → places ≡ right_places pairs → taken ≡ sorted
    → IsStableByKey paired_of row_major (map (partner places) right) sorted → flat_map (crossed_with lefts taken) left ≡ cross_rows pairs left right
crossed_all pairs left right lefts places sorted taken e f g stable =
    (λ i. flat_map (crossed_with (e i) (g i)) left) ∙ crosses pairs left right sorted (subst (λ (ns : List ℕ). IsStableByKey paired_of row_major (map (partner ns) right) sorted) f stable)
