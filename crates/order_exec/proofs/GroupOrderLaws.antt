-- The values of groups in their order.
use Rattle.std.proofs.Common.{◌≡◌, suc, ℤ, Bool, true, false, cond, List, [], ◌∷◌, filter, length, Option, Some, None, refl, sym, ap, ◌∙◌}
use Rattle.std.proofs.lemmas.List.Sorted.{ranks_by}
use Rattle.std.specs.BTreeMap as tree
use Rattle.std.specs.BTreeMap.{BTreeMap, Updates, is_at}
use Rattle.std.specs.Cmp.{IsStrictWeakOrder}
use Rattle.std.specs.Map.{lookup}
use Rattle.std.specs.Option.{option_map, option_or}
use Rattle.std.specs.Ordering.{is_eq, is_lt}
use Rattle.arrayvec.specs.ArrayVec.{ArrayVec}
use Rattle.array_rows.specs.Rows.{row_major}
use Rattle.cell_values.specs.declared.datum.Datum.{Datum}
use Rattle.group_rows.specs.Taken.{by_coordinate}
use Rattle.logical_plan.proofs.OrderLaws.{values_are_ordered}
use Rattle.logical_plan.specs.Groups.{datum_cmp}
use Rattle.logical_plan.specs.Ordered.{below, insert_by, sorted_by}
use Rattle.order_exec.specs.Inner.Ranked.{AreInOrder, SortsValues, value_before, values_or_none}
use Rattle.order_exec.proofs.RankLaws.{get_same, same_key}
use Rattle.order_exec.proofs.SortLaws.{AreUp, sorted_up}

pub value_order : IsStrictWeakOrder value_before
value_order = ranks_by values_are_ordered.0 (λ (v : Datum). v)

-- ---- sorted values

up_in_order : (vs : List Datum) → AreUp value_before value_order vs → AreInOrder vs
up_in_order [] h = tt
up_in_order (v ∷ vs) h = (h.0, up_in_order vs h.1)

pub sorted_in_order : (vs : List Datum) → AreInOrder (sorted_by value_before vs)
sorted_in_order vs = up_in_order (sorted_by value_before vs) (sorted_up value_before value_order vs)

module _ {A : Type 0} (test : A → Bool) (lt : A → A → Bool) where
  count_inserted : (x : A) (xs : List A) → length (filter test (insert_by lt x xs)) ≡ length (filter test (x ∷ xs))
  count_inserted x [] = refl
  count_inserted x (y ∷ xs) = cases (lt y x) (count_inserted x xs)
    where
      swap : (a b : Bool) (more : List A) → length more ≡ length (cond b (x ∷ filter test xs) (filter test xs)) → length (cond a (y ∷ more) more) ≡ length (cond b (x ∷ cond a (y ∷ filter test xs) (filter test xs)) (cond a (y ∷ filter test xs) (filter test xs)))
      swap true true more e = ap (λ n. suc n) e
      swap true false more e = ap (λ n. suc n) e
      swap false true more e = e
      swap false false more e = e

      cases : (b : Bool) → length (filter test (insert_by lt x xs)) ≡ length (filter test (x ∷ xs)) → length (filter test (cond b (y ∷ insert_by lt x xs) (x ∷ y ∷ xs))) ≡ length (filter test (x ∷ y ∷ xs))
      cases true ih = swap (test y) (test x) (filter test (insert_by lt x xs)) ih
      cases false ih = refl

  one_counted : (b : Bool) (x : A) (xs ys : List A) → length xs ≡ length ys → length (cond b (x ∷ xs) xs) ≡ length (cond b (x ∷ ys) ys)
  one_counted true x xs ys e = ap (λ n. suc n) e
  one_counted false x xs ys e = e

  pub count_sorted : (xs : List A) → length (filter test (sorted_by lt xs)) ≡ length (filter test xs)
  count_sorted [] = refl
  count_sorted (x ∷ xs) = count_inserted x (sorted_by lt xs) ∙ one_counted (test x) x (filter test (sorted_by lt xs)) (filter test xs) (count_sorted xs)

pub below_sorted : (v : Datum) (vs : List Datum) → below v (sorted_by value_before vs) ≡ below v vs
below_sorted v vs = count_sorted (λ w. is_lt (datum_cmp w v)) value_before vs

-- ---- group after group

-- with those that are left, each in its order, these are all groups
abbrev pub SortedSoFar : BTreeMap (ArrayVec ℤ) (List Datum) → BTreeMap (ArrayVec ℤ) (List Datum) → BTreeMap (ArrayVec ℤ) (List Datum) → Type 0
SortedSoFar groups left sorted = (q : ArrayVec ℤ) → option_or (option_map (sorted_by value_before) (tree.get by_coordinate left q)) (tree.get by_coordinate sorted q) ≡ option_map (sorted_by value_before) (tree.get by_coordinate groups q)

at_end : (o : Option (List Datum)) → option_or o None ≡ o
at_end None = refl
at_end (Some vs) = refl

pub none_sorted : (groups sorted : BTreeMap (ArrayVec ℤ) (List Datum)) → sorted.entries ≡ [] → SortedSoFar groups groups sorted
none_sorted groups sorted e q =
    ap (option_or (option_map (sorted_by value_before) (tree.get by_coordinate groups q))) (ap (λ es. lookup (is_at (by_coordinate q)) es) e) ∙ at_end (option_map (sorted_by value_before) (tree.get by_coordinate groups q))

module _ (groups left left' sorted sorted' : BTreeMap (ArrayVec ℤ) (List Datum)) (key : ArrayVec ℤ) (vs ws : List Datum) where
  pub one_sorted : tree.get by_coordinate left key ≡ Some vs → Updates by_coordinate left left' key None → Updates by_coordinate sorted sorted' key (Some ws) → ws ≡ sorted_by value_before vs → SortedSoFar groups left sorted → SortedSoFar groups left' sorted'
  one_sorted there out put e h q = cases (is_eq (row_major key.items q.items)) refl
    where
      cases : (b : Bool) → is_eq (row_major key.items q.items) ≡ b → option_or (option_map (sorted_by value_before) (tree.get by_coordinate left' q)) (tree.get by_coordinate sorted' q) ≡ option_map (sorted_by value_before) (tree.get by_coordinate groups q)
      cases true f =
          let gone : tree.get by_coordinate left' q ≡ None = out.0 q ∙ ap (λ (b : Bool). cond b None (tree.get by_coordinate left q)) f in
          let made : tree.get by_coordinate sorted' q ≡ Some ws = put.0 q ∙ ap (λ (b : Bool). cond b (Some ws) (tree.get by_coordinate sorted q)) f in
          let was : Some vs ≡ tree.get by_coordinate left q = sym there ∙ get_same left key q (same_key key.items q.items f) in
          (λ i. option_or (option_map (sorted_by value_before) (gone i)) (made i)) ∙ ap (λ (zs : List Datum). Some zs) e
          ∙ (λ i. option_or (option_map (sorted_by value_before) (was i)) (tree.get by_coordinate sorted q)) ∙ h q
      cases false f = (λ i. option_or (option_map (sorted_by value_before) (out.2 q f i)) (put.2 q f i)) ∙ h q

pub all_sorted_groups : (groups left sorted : BTreeMap (ArrayVec ℤ) (List Datum)) → left.entries ≡ [] → SortedSoFar groups left sorted → SortsValues groups sorted
all_sorted_groups groups left sorted e h q =
    ap values_or_none (ap (λ (o : Option (List Datum)). option_or (option_map (sorted_by value_before) o) (tree.get by_coordinate sorted q)) (sym (ap (λ es. lookup (is_at (by_coordinate q)) es) e)) ∙ h q)
    ∙ mapped (tree.get by_coordinate groups q)
  where
    mapped : (o : Option (List Datum)) → values_or_none (option_map (sorted_by value_before) o) ≡ sorted_by value_before (values_or_none o)
    mapped None = refl
    mapped (Some vs) = refl
