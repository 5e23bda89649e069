-- What is found of an expression is its value.
use Rattle.std.proofs.Common.{◌≡◌, ℕ, ℤ, Bool, true, false, List, [], Option, refl, sym, ap, ◌∙◌, subst, w64, FitsSigned, arith}
use Rattle.std.specs.Option.{MatchOption, SomeIff}
use Rattle.cell_values.specs.declared.datum.Datum.{Datum}
use Rattle.cell_values.specs.declared.datum.Datum.TheVariants.{Null, Missing, Int, Text, Truth as TruthValue, Bad}
use Rattle.cell_values.specs.Table.{comparison, both_of, either_of, exact}
use Rattle.expr_nulls.specs.Expr.{Expr, literal, attribute_value, dimension_value, minus, denial, calculation, relation, conjunction, disjunction, conditional, null_test, byte_length, decimal_text, coded_null, null_code}
use Rattle.expr_nulls.specs.ExprValue.{value_of, calculated, number_at}
use Rattle.array_rows.specs.declared.columns.small.Small.{Small}
use Rattle.array_rows.specs.declared.columns.small.Small.TheVariants.{Number, Truth, Other}
use Rattle.array_rows.specs.Seen.{seen}
use Rattle.exec_cellwise.specs.Inner.Smalls.{on_smalls, small_at, small_both, small_either, small_of, IsSeen}

-- a number that is exact
pub exactly_seen : (o : Option ℤ) (x : ℤ) (r : Small) → SomeIff o (FitsSigned w64 x) x → MatchOption o (r ≡ Other) (λ (n : ℤ). r ≡ Number n) → r ≡ seen (exact x)
exactly_seen o x r found told = grind arith

seen_is : (v : Datum) → IsSeen (seen v) v
seen_is (Int n) = refl
seen_is (TruthValue b) = refl
seen_is Null = tt
seen_is (Missing code) = tt
seen_is (Text s) = tt
seen_is (Bad kind) = tt

numbers_seen : (f : Datum → Datum → Datum) (s t : Small) (v w : Datum) → IsSeen s v → IsSeen t w → IsSeen (on_smalls (λ x y. seen (f (Int x) (Int y))) s t) (f v w)
numbers_seen f (Number a) (Number b) v w p q = subst (IsSeen (seen (f (Int a) (Int b)))) (ap (f (Int a)) (sym q) ∙ ap (λ x. f x w) (sym p)) (seen_is (f (Int a) (Int b)))
numbers_seen f (Number a) (Truth b) v w p q = tt
numbers_seen f (Number a) Other v w p q = tt
numbers_seen f (Truth a) t v w p q = tt
numbers_seen f Other t v w p q = tt

both_seen : (s t : Small) (v w : Datum) → IsSeen s v → IsSeen t w → IsSeen (small_both s t) (both_of v w)
both_seen (Truth true) (Truth true) v w p q = ap (λ x. both_of x w) p ∙ ap (both_of (TruthValue true)) q
both_seen (Truth true) (Truth false) v w p q = ap (λ x. both_of x w) p ∙ ap (both_of (TruthValue true)) q
both_seen (Truth false) (Truth true) v w p q = ap (λ x. both_of x w) p ∙ ap (both_of (TruthValue false)) q
both_seen (Truth false) (Truth false) v w p q = ap (λ x. both_of x w) p ∙ ap (both_of (TruthValue false)) q
both_seen (Truth a) (Number b) v w p q = tt
both_seen (Truth a) Other v w p q = tt
both_seen (Number a) t v w p q = tt
both_seen Other t v w p q = tt

either_seen : (s t : Small) (v w : Datum) → IsSeen s v → IsSeen t w → IsSeen (small_either s t) (either_of v w)
either_seen (Truth true) (Truth true) v w p q = ap (λ x. either_of x w) p ∙ ap (either_of (TruthValue true)) q
either_seen (Truth true) (Truth false) v w p q = ap (λ x. either_of x w) p ∙ ap (either_of (TruthValue true)) q
either_seen (Truth false) (Truth true) v w p q = ap (λ x. either_of x w) p ∙ ap (either_of (TruthValue false)) q
either_seen (Truth false) (Truth false) v w p q = ap (λ x. either_of x w) p ∙ ap (either_of (TruthValue false)) q
either_seen (Truth a) (Number b) v w p q = tt
either_seen (Truth a) Other v w p q = tt
either_seen (Number a) t v w p q = tt
either_seen Other t v w p q = tt

none_seen : (place : ℕ) (v : Datum) → IsSeen (seen (number_at [] place)) v
none_seen place v = tt

-- over the numbers of a coordinate of which each is that of another, or is not known
module _ (known at : List ℤ) (values : List Datum) (numbers : (place : ℕ) → IsSeen (seen (number_at known place)) (number_at at place)) where
  is_value : (e : Expr) → IsSeen (small_at e known values) (value_of e at values)
  is_value (literal v) = seen_is v
  is_value (attribute_value place) = seen_is _
  is_value (dimension_value place) = numbers place
  is_value (minus a) = tt
  is_value (denial a) = tt
  is_value (calculation op a b) = numbers_seen (calculated op) _ _ _ _ (is_value a) (is_value b)
  is_value (relation op a b) = numbers_seen (comparison op) _ _ _ _ (is_value a) (is_value b)
  is_value (conjunction a b) = both_seen _ _ _ _ (is_value a) (is_value b)
  is_value (disjunction a b) = either_seen _ _ _ _ (is_value a) (is_value b)
  is_value (conditional test a b) = tt
  is_value (null_test a) = tt
  is_value (byte_length a) = tt
  is_value (decimal_text a) = tt
  is_value (coded_null a) = tt
  is_value (null_code a) = tt

-- at each coordinate
small_is_value : (e : Expr) (at : List ℤ) (values : List Datum) → IsSeen (small_of e values) (value_of e at values)
small_is_value e at values = is_value [] at values (λ place. none_seen place (number_at at place)) e

pub truth_told : (e : Expr) (at : List ℤ) (values : List Datum) (s : Small) (b t : Bool) → s ≡ small_of e values → s ≡ Truth b → b ≡ t → value_of e at values ≡ TruthValue t
truth_told e at values s b t p q r = subst (λ x. IsSeen x (value_of e at values)) (sym p ∙ q ∙ ap Truth r) (small_is_value e at values)

-- what is found at a coordinate is the value there
pub number_found : (e : Expr) (at : List ℤ) (values : List Datum) (s : Small) (n : ℤ) → s ≡ small_at e at values → s ≡ Number n → Int n ≡ value_of e at values
number_found e at values s n p q = sym (subst (λ x. IsSeen x (value_of e at values)) (sym p ∙ q) (is_value at at values (λ place. seen_is (number_at at place)) e))

pub truth_found : (e : Expr) (at : List ℤ) (values : List Datum) (s : Small) (b : Bool) → s ≡ small_at e at values → s ≡ Truth b → TruthValue b ≡ value_of e at values
truth_found e at values s b p q = sym (subst (λ x. IsSeen x (value_of e at values)) (sym p ∙ q) (is_value at at values (λ place. seen_is (number_at at place)) e))

pub truth_at : (e : Expr) (at : List ℤ) (values : List Datum) (s : Small) (b t : Bool) → s ≡ small_at e at values → s ≡ Truth b → b ≡ t → value_of e at values ≡ TruthValue t
truth_at e at values s b t p q r = sym (truth_found e at values s b p q) ∙ ap TruthValue r
