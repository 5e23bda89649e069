-- The best of values to which others come.
use Rattle.std.proofs.Common.{◌≡◌, ℤ, Bool, true, false, not, ◌&&◌, cond, List, [], ◌∷◌, ◌++◌, length, Option, Some, None, refl, sym, ap, ◌∙◌, subst, inl, inr}
use Rattle.std.proofs.lemmas.List.{append-nil}
use Rattle.std.proofs.lemmas.Cmp.{upto, tied_itself, nat_list_cmp_total, int_cmp_total, on_total, then_total, back_total}
use Rattle.std.specs.Cmp.{IsTotalOrder}
use Rattle.std.specs.List.{AllByRecursion}
use Rattle.std.specs.declared.cmp.Ordering.{Ordering}
use Rattle.std.specs.declared.cmp.Ordering.TheVariants.{Less, Equal, Greater}
use Rattle.std.specs.Ordering.{is_lt, is_gt, int_cmp, ordering_reverse, ordering_then, flip_args}
use Rattle.cell_values.specs.declared.datum.Datum.{Datum}
use Rattle.cell_values.specs.declared.datum.Datum.TheVariants.{Int}
use Rattle.cell_values.specs.Nulls.{is_null}
use Rattle.logical_plan.specs.declared.parts.AggFunction.{AggFunction}
use Rattle.logical_plan.specs.declared.parts.AggFunction.TheVariants.{Sum, Count, CountAll, Min, Max}
use Rattle.logical_plan.specs.Groups.{number_of}
use Rattle.agg_states.specs.Best.{text_of, value_order, IsUnbeaten, IsBestFor}
use Rattle.agg_states.specs.Merged.{best_with, better}
use Rattle.agg_states.proofs.Reorderings.{Reordered, length-reordered, all-reordered, one-reordered, all-append, one-append_left, one-append_right}

pub value_order_total : IsTotalOrder value_order
value_order_total = then_total (on_total number_of int_cmp_total) (on_total text_of nat_list_cmp_total)

then_equal : (o : Ordering) → o ≡ ordering_then o Equal
then_equal Less = refl
then_equal Equal = refl
then_equal Greater = refl

-- of two numbers the texts, which are empty, decide nothing
pub numbers_by_size : (x y : ℤ) → int_cmp x y ≡ value_order (Int x) (Int y)
numbers_by_size x y = then_equal (int_cmp x y)

turned : (o : Ordering) → is_lt (ordering_reverse o) ≡ is_gt o
turned Less = refl
turned Equal = refl
turned Greater = refl

not_greater : (o : Ordering) → is_lt o ≡ true → is_gt o ≡ false
not_greater Less e = refl
not_greater Equal e = refl
not_greater Greater e = cc

all_so : {P Q : Datum → Type 0} → ((v : Datum) → P v → Q v) → (vs : List Datum) → AllByRecursion P vs → AllByRecursion Q vs
all_so f [] h = tt
all_so f (v ∷ vs) h = (f v h.0, all_so f vs h.1)

module _ (R : Datum → Datum → Ordering) (total : IsTotalOrder R) where
  lt_back : (a b : Datum) → is_lt (R a b) ≡ is_gt (R b a)
  lt_back a b = ap is_lt (total.antisymm a b) ∙ turned (R b a)

  -- what does not come before one that does not come before another does not come before this either
  behind : (u a b : Datum) → is_lt (R u b) ≡ false → is_lt (R b a) ≡ false → is_lt (R u a) ≡ false
  behind u a b p q = lt_back u a ∙ upto total a b u (sym (lt_back b a) ∙ q) (sym (lt_back u b) ∙ p)

  behind_better : (u v b : Datum) → is_lt (R u b) ≡ false → is_lt (R v b) ≡ true → is_lt (R u v) ≡ false
  behind_better u v b p q = behind u v b p (lt_back b v ∙ not_greater (R v b) q)

  itself : (v : Datum) → is_lt (R v v) ≡ false
  itself v = ap is_lt (tied_itself total v)

  first_value : (v : Datum) (n : Bool) → IsUnbeaten (λ a b. is_lt (R a b)) (cond (n && true) (Some v) None) (cond n (v ∷ []) [])
  first_value v true = (inl refl, (itself v, tt))
  first_value v false = refl

  next_value : (v b : Datum) (vs : List Datum) (n t : Bool) → is_lt (R v b) ≡ t → IsUnbeaten (λ a b. is_lt (R a b)) (Some b) vs → IsUnbeaten (λ a b. is_lt (R a b)) (cond (n && t) (Some v) (Some b)) (cond n (v ∷ vs) vs)
  next_value v b vs true true e u = (inl refl, (itself v, all_so (λ w p. behind_better w v b p e) vs u.1))
  next_value v b vs true false e u = (inr u.0, (e, u.1))
  next_value v b vs false t e u = u

  of_both : (a b : Datum) (us vs : List Datum) (t : Bool) → is_lt (R b a) ≡ t → IsUnbeaten (λ a b. is_lt (R a b)) (Some a) us → IsUnbeaten (λ a b. is_lt (R a b)) (Some b) vs
      → IsUnbeaten (λ a b. is_lt (R a b)) (cond t (Some b) (Some a)) (us ++ vs)
  of_both a b us vs true e u v = (one-append_right b us vs v.0, all-append (λ w. is_lt (R w b) ≡ false) us vs (all_so (λ w p. behind_better w b a p e) us u.1) v.1)
  of_both a b us vs false e u v = (one-append_left a us vs u.0, all-append (λ w. is_lt (R w a) ≡ false) us vs u.1 (all_so (λ w p. behind w a b p e) vs v.1))

no_values : (vs : List Datum) → length vs ≡ 0 → vs ≡ []
no_values [] e = refl
no_values (v ∷ vs) e = cc

unbeaten-reordered : (test : Datum → Datum → Bool) (best : Option Datum) {vs ws : List Datum} → Reordered Datum vs ws → IsUnbeaten test best vs → IsUnbeaten test best ws
unbeaten-reordered test None {vs = vs} {ws = ws} r u = no_values ws (sym (length-reordered r) ∙ ap length u)
unbeaten-reordered test (Some best) r u = (one-reordered best r u.0, all-reordered (λ v. test v best ≡ false) r u.1)

pub best-reordered : (f : AggFunction) (best : Option Datum) {vs ws : List Datum} → Reordered Datum vs ws → IsBestFor f best vs → IsBestFor f best ws
best-reordered Min best r u = unbeaten-reordered (λ v w. is_lt (value_order v w)) best r u
best-reordered Max best r u = unbeaten-reordered (λ v w. is_lt (value_order w v)) best r u
best-reordered Sum best r u = u
best-reordered Count best r u = u
best-reordered CountAll best r u = u

no_place : (v : Datum) (n : Bool) → cond (n && false) (Some v) None ≡ None
no_place v true = refl
no_place v false = refl

pub best_with_stands : (f : AggFunction) (v : Datum) (best : Option Datum) (vs : List Datum) → IsBestFor f best vs → IsBestFor f (best_with f v best) (cond (not (is_null v)) (v ∷ vs) vs)
best_with_stands Min v None vs u = subst (λ ws. IsBestFor Min (best_with Min v None) (cond (not (is_null v)) (v ∷ ws) ws)) (sym u) (first_value value_order value_order_total v (not (is_null v)))
best_with_stands Min v (Some b) vs u = next_value value_order value_order_total v b vs (not (is_null v)) (is_lt (value_order v b)) refl u
best_with_stands Max v None vs u = subst (λ ws. IsBestFor Max (best_with Max v None) (cond (not (is_null v)) (v ∷ ws) ws)) (sym u) (first_value (flip_args value_order) (back_total value_order_total) v (not (is_null v)))
best_with_stands Max v (Some b) vs u = next_value (flip_args value_order) (back_total value_order_total) v b vs (not (is_null v)) (is_lt (value_order b v)) refl u
best_with_stands Sum v best vs u = ap (best_with Sum v) u ∙ no_place v (not (is_null v))
best_with_stands Count v best vs u = ap (best_with Count v) u ∙ no_place v (not (is_null v))
best_with_stands CountAll v best vs u = ap (best_with CountAll v) u ∙ no_place v (not (is_null v))

pub better_stands : (f : AggFunction) (a b : Option Datum) (us vs : List Datum) → IsBestFor f a us → IsBestFor f b vs → IsBestFor f (better f a b) (us ++ vs)
better_stands Min None b us vs u v = subst (λ ws. IsBestFor Min b (ws ++ vs)) (sym u) v
better_stands Min (Some a) None us vs u v = subst (λ ws. IsBestFor Min (Some a) (us ++ ws)) (sym v) (subst (IsBestFor Min (Some a)) (sym (append-nil us)) u)
better_stands Min (Some a) (Some b) us vs u v = of_both value_order value_order_total a b us vs (is_lt (value_order b a)) refl u v
better_stands Max None b us vs u v = subst (λ ws. IsBestFor Max b (ws ++ vs)) (sym u) v
better_stands Max (Some a) None us vs u v = subst (λ ws. IsBestFor Max (Some a) (us ++ ws)) (sym v) (subst (IsBestFor Max (Some a)) (sym (append-nil us)) u)
better_stands Max (Some a) (Some b) us vs u v = of_both (flip_args value_order) (back_total value_order_total) a b us vs (is_lt (value_order a b)) refl u v
better_stands Sum a b us vs u v = ap (λ o. better Sum o b) u ∙ v
better_stands Count a b us vs u v = ap (λ o. better Count o b) u ∙ v
better_stands CountAll a b us vs u v = ap (λ o. better CountAll o b) u ∙ v
