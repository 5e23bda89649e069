-- A typed expression has a value of its kind.
use Rattle.std.proofs.Common.{◌≡◌, ℕ, zero, suc, ◌+◌, ◌<◌, ◌≤◌, Bool, true, false, ◌&&◌, ◌||◌, List, [], ◌∷◌, ◌++◌, length, refl, ap, ◌∙◌, arith, slice_get, slice_index_or, length-append}
use Rattle.std.specs.Prelude.{ℤ, pos, negsuc, neg_ℤ, ◌+ℤ◌, ◌-ℤ◌, ◌*ℤ◌, int_div, int_rem, if◌then◌else◌, nat_le, nat_lt, IsTrue}
use Rattle.std.specs.List.{list_all, AllZip}
use Rattle.std.specs.Ordering.{int_eq}
use Rattle.std.specs.Fmt.{decimal, signed_decimal}
use Rattle.std.specs.Str.Parse.{AllDigits}
use Rattle.std.proofs.lemmas.Bool.{and_parts, and_from, leb-true, le-leb, ltb-true, lt-ltb}
use Rattle.std.proofs.lemmas.Fmt.{length-decimal-le, decimal_is_IsNumeral}
use Rattle.std.proofs.lemmas.Str.Parse.{digit_from_value}
use Rattle.std.proofs.lemmas.List.Folds.{list_all-append}
use Rattle.cell_values.specs.declared.datum.Datum.{Datum}
use Rattle.cell_values.specs.declared.datum.Datum.TheVariants.{Null, Missing, Int, Text, Truth, Bad}
use Rattle.cell_values.specs.declared.datum.FaultKind.TheVariants.{Overflow, DivideByZero, OutOfBounds}
use Rattle.cell_values.specs.declared.datum.CompareOp.{CompareOp}
use Rattle.cell_values.specs.declared.schema.Kind.{Kind}
use Rattle.cell_values.specs.declared.schema.Kind.TheVariants.{Int64, Str, Bool as Truths}
use Rattle.cell_values.specs.Cells.{is_of_kind}
use Rattle.cell_values.specs.Table.{strictly, on_value, fits_int64, exact, on_numbers, divided, negated, negation, joined, added, compared, comparison, both_of, either_of, flipped, opposite, chosen, nullness, null_of_code, made_null, reason_of, byte_count, text_length, in_digits, text_of}
use Rattle.expr_nulls.specs.declared.expr.ArithOp.{ArithOp}
use Rattle.expr_nulls.specs.declared.expr.ArithOp.TheVariants.{Add, Sub, Mul, Div, Rem}
use Rattle.expr_nulls.specs.Expr.{Expr, literal, attribute_value, dimension_value, minus, denial, calculation, relation, conjunction, disjunction, conditional, null_test, byte_length, decimal_text, coded_null, null_code}
use Rattle.expr_nulls.specs.ExprValue.{value_of, calculated, number_at}
use Rattle.expr_nulls.specs.Typing.{has_kind, same_kind, is_kind_at, calculates, compares, TypedValuesFit}

three_parts : (a b c : Bool) → IsTrue (a && b && c) → IsTrue a × IsTrue b × IsTrue c
three_parts true true c t = (refl, refl, t)
three_parts true false c t = cc
three_parts false b c t = cc

one_of_three : (a b c : Bool) (P : Type 0) → (IsTrue a → P) → (IsTrue b → P) → (IsTrue c → P) → IsTrue (a || b || c) → P
one_of_three true b c P f g h t = f refl
one_of_three false true c P f g h t = g refl
one_of_three false false c P f g h t = h t

-- a value of one kind, read at a kind that is the same
moved : (j k : Kind) (v : Datum) → IsTrue (same_kind j k) → IsTrue (is_of_kind j v) → IsTrue (is_of_kind k v)
moved Int64 Int64 v e t = t
moved Str Str v e t = t
moved Truths Truths v e t = t
moved j k v e t = cc

-- nulls and faults are of every kind; other values have none to fear
strictly_fits : (i j k : Kind) (f : Datum → Datum → Datum) (l r : Datum) → IsTrue (is_of_kind i l) → IsTrue (is_of_kind j r) → IsTrue (is_of_kind k (f l r)) → IsTrue (is_of_kind k (strictly f l r))
strictly_fits i j k f (Bad kind) r p q h = refl
strictly_fits i j k f l (Bad kind) p q h = refl
strictly_fits i j k f Null r p q h = refl
strictly_fits i j k f (Missing code) r p q h = p
strictly_fits i j k f l Null p q h = refl
strictly_fits i j k f l (Missing code) p q h = q
strictly_fits i j k f l r p q h = h

on_value_fits : (j k : Kind) (f : Datum → Datum) (v : Datum) → IsTrue (is_of_kind j v) → IsTrue (is_of_kind k (f v)) → IsTrue (is_of_kind k (on_value f v))
on_value_fits j k f (Bad kind) p h = refl
on_value_fits j k f Null p h = refl
on_value_fits j k f (Missing code) p h = p
on_value_fits j k f v p h = h

-- ---- numbers

in_range : (b : Bool) (z : ℤ) → fits_int64 z ≡ b → IsTrue (is_of_kind Int64 (if b then Int z else Bad Overflow))
in_range true z e = e
in_range false z e = refl

exact_fits : (z : ℤ) → IsTrue (is_of_kind Int64 (exact z))
exact_fits z = in_range (fits_int64 z) z refl

on_numbers_fits : (f : ℤ → ℤ → Datum) → ((a b : ℤ) → IsTrue (is_of_kind Int64 (f a b))) → (l r : Datum) → IsTrue (is_of_kind Int64 (on_numbers f l r))
on_numbers_fits f h (Int a) (Int b) = h a b
on_numbers_fits f h l r = refl

over_zero : (b : Bool) (v : Datum) → IsTrue (is_of_kind Int64 v) → IsTrue (is_of_kind Int64 (if b then Bad DivideByZero else v))
over_zero true v t = refl
over_zero false v t = t

numeric : (f : ℤ → ℤ → Datum) → ((a b : ℤ) → IsTrue (is_of_kind Int64 (f a b))) → (l r : Datum) → IsTrue (is_of_kind Int64 l) → IsTrue (is_of_kind Int64 r) → IsTrue (is_of_kind Int64 (strictly (on_numbers f) l r))
numeric f h l r p q = strictly_fits Int64 Int64 Int64 (on_numbers f) l r p q (on_numbers_fits f h l r)

divided_fits : (f : ℤ → ℤ → ℤ) (a b : ℤ) → IsTrue (is_of_kind Int64 (divided f a b))
divided_fits f a b = over_zero (int_eq b (pos 0)) (exact (f a b)) (exact_fits (f a b))

negated_fits : (v : Datum) → IsTrue (is_of_kind Int64 (negated v))
negated_fits (Int n) = exact_fits (neg_ℤ n)
negated_fits _ = refl

small_fits : (n : ℕ) → n ≤ 65535 → IsTrue (fits_int64 (pos n))
small_fits n h = lt-ltb n 9223372036854775808 (omega arith)

-- ---- texts

joined_by : (s t : List ℕ) (b : Bool) → nat_le (length s + length t) 65535 ≡ b → IsTrue (list_all (λ x. nat_lt x 256) s) → IsTrue (list_all (λ x. nat_lt x 256) t)
    → IsTrue (is_of_kind Str (if b then Text (s ++ t) else Bad Overflow))
joined_by s t false e p q = refl
joined_by s t true e p q =
    and_from (nat_le (length (s ++ t)) 65535) (list_all (λ x. nat_lt x 256) (s ++ t))
    (ap (λ n. nat_le n 65535) (length-append s t) ∙ e)
    (list_all-append (λ x. nat_lt x 256) s t ∙ and_from (list_all (λ x. nat_lt x 256) s) (list_all (λ x. nat_lt x 256) t) p q)

joined_fits : (s t : List ℕ) → IsTrue (is_of_kind Str (Text s)) → IsTrue (is_of_kind Str (Text t)) → IsTrue (is_of_kind Str (joined s t))
joined_fits s t p q =
    joined_by s t (nat_le (length s + length t) 65535) refl
    (and_parts (nat_le (length s) 65535) (list_all (λ x. nat_lt x 256) s) p).1 (and_parts (nat_le (length t) 65535) (list_all (λ x. nat_lt x 256) t) q).1

added_fits : (k : Kind) (l r : Datum) → IsTrue (calculates Add k) → IsTrue (is_of_kind k l) → IsTrue (is_of_kind k r) → IsTrue (is_of_kind k (added l r))
added_fits Int64 (Int a) (Int b) e p q = exact_fits (a +ℤ b)
added_fits Int64 (Text s) (Text t) e p q = cc
added_fits Str (Text s) (Text t) e p q = joined_fits s t p q
added_fits Str (Int a) (Int b) e p q = cc
added_fits Truths l r e p q = cc
added_fits k l r e p q = refl

byte_count_fits : (v : Datum) → IsTrue (is_of_kind Str v) → IsTrue (is_of_kind Int64 (byte_count v))
byte_count_fits (Text s) p = small_fits (length s) (leb-true (length s) 65535 (and_parts (nat_le (length s) 65535) (list_all (λ x. nat_lt x 256) s) p).0)
byte_count_fits _ p = refl

digits_are_bytes : (ds : List ℕ) → AllDigits 10 ds → IsTrue (list_all (λ x. nat_lt x 256) ds)
digits_are_bytes [] a = refl
digits_are_bytes (d ∷ ds) a =
    let range = digit_from_value d a.0 in
    and_from (nat_lt d 256) (list_all (λ x. nat_lt x 256) ds) (lt-ltb d 256 (omega (arith, range))) (digits_are_bytes ds a.1)

decimal_fits : (n : ℕ) → n ≤ 9223372036854775808 → IsTrue (is_of_kind Str (Text (decimal n)))
decimal_fits n h =
    let short : length (decimal n) ≤ 20 = length-decimal-le 20 n (omega arith) (omega arith) (omega arith) in
    and_from (nat_le (length (decimal n)) 65535) (list_all (λ x. nat_lt x 256) (decimal n))
    (le-leb (length (decimal n)) 65535 (omega arith)) (digits_are_bytes (decimal n) (decimal_is_IsNumeral n (omega arith)).0.1)

signed_fits : (z : ℤ) → IsTrue (fits_int64 z) → IsTrue (is_of_kind Str (Text (signed_decimal z)))
signed_fits (pos n) p = let small : n < 9223372036854775808 = ltb-true n 9223372036854775808 p in decimal_fits n (omega arith)
signed_fits (negsuc n) p =
    let small : n < 9223372036854775808 = ltb-true n 9223372036854775808 p in
    let short : length (decimal (suc n)) ≤ 20 = length-decimal-le 20 (suc n) (omega arith) (omega arith) (omega arith) in
    and_from (nat_le (length (45 ∷ decimal (suc n))) 65535) (list_all (λ x. nat_lt x 256) (45 ∷ decimal (suc n)))
    (le-leb (length (45 ∷ decimal (suc n))) 65535 (omega arith)) (digits_are_bytes (decimal (suc n)) (decimal_is_IsNumeral (suc n) (omega arith)).0.1)

in_digits_fits : (v : Datum) → IsTrue (is_of_kind Int64 v) → IsTrue (is_of_kind Str (in_digits v))
in_digits_fits (Int n) p = signed_fits n p
in_digits_fits _ p = refl

-- ---- operators

calculated_fits : (op : ArithOp) (k : Kind) (l r : Datum) → IsTrue (calculates op k) → IsTrue (is_of_kind k l) → IsTrue (is_of_kind k r) → IsTrue (is_of_kind k (calculated op l r))
calculated_fits Add k l r e p q = strictly_fits k k k added l r p q (added_fits k l r e p q)
calculated_fits Sub Int64 l r e p q = numeric (λ a b. exact (a -ℤ b)) (λ a b. exact_fits (a -ℤ b)) l r p q
calculated_fits Mul Int64 l r e p q = numeric (λ a b. exact (a *ℤ b)) (λ a b. exact_fits (a *ℤ b)) l r p q
calculated_fits Div Int64 l r e p q = numeric (divided int_div) (divided_fits int_div) l r p q
calculated_fits Rem Int64 l r e p q = numeric (divided int_rem) (divided_fits int_rem) l r p q
calculated_fits op k l r e p q = cc

compared_fits : (op : CompareOp) (l r : Datum) → IsTrue (is_of_kind Truths (compared op l r))
compared_fits op (Int a) (Int b) = refl
compared_fits op (Text a) (Text b) = refl
compared_fits op (Truth a) (Truth b) = refl
compared_fits op l r = refl

comparison_fits : (op : CompareOp) (k : Kind) (l r : Datum) → IsTrue (is_of_kind k l) → IsTrue (is_of_kind k r) → IsTrue (is_of_kind Truths (comparison op l r))
comparison_fits op k l r p q = strictly_fits k k Truths (compared op) l r p q (compared_fits op l r)

both_fits : (l r : Datum) → IsTrue (is_of_kind Truths l) → IsTrue (is_of_kind Truths r) → IsTrue (is_of_kind Truths (both_of l r))
both_fits (Bad kind) r p q = refl
both_fits (Truth false) r p q = refl
both_fits l (Bad kind) p q = refl
both_fits l (Truth false) p q = refl
both_fits Null r p q = refl
both_fits (Missing code) r p q = p
both_fits l Null p q = refl
both_fits l (Missing code) p q = q
both_fits l r p q = refl

either_fits : (l r : Datum) → IsTrue (is_of_kind Truths l) → IsTrue (is_of_kind Truths r) → IsTrue (is_of_kind Truths (either_of l r))
either_fits (Bad kind) r p q = refl
either_fits (Truth true) r p q = refl
either_fits l (Bad kind) p q = refl
either_fits l (Truth true) p q = refl
either_fits Null r p q = refl
either_fits (Missing code) r p q = p
either_fits l Null p q = refl
either_fits l (Missing code) p q = q
either_fits l r p q = refl

flipped_fits : (v : Datum) → IsTrue (is_of_kind Truths (flipped v))
flipped_fits (Truth b) = refl
flipped_fits _ = refl

chosen_fits : (k : Kind) (test l r : Datum) → IsTrue (is_of_kind Truths test) → IsTrue (is_of_kind k l) → IsTrue (is_of_kind k r) → IsTrue (is_of_kind k (chosen test l r))
chosen_fits k (Truth true) l r t p q = p
chosen_fits k (Truth false) l r t p q = q
chosen_fits k (Bad kind) l r t p q = refl
chosen_fits k Null l r t p q = refl
chosen_fits k (Missing code) l r t p q = t
chosen_fits k (Int n) l r t p q = cc
chosen_fits k (Text s) l r t p q = cc

nullness_fits : (v : Datum) → IsTrue (is_of_kind Truths (nullness v))
nullness_fits (Bad kind) = refl
nullness_fits _ = refl

code_fits : (k : Kind) (n : ℕ) → n ≤ 127 → IsTrue (is_of_kind k (null_of_code n))
code_fits k zero h = refl
code_fits k (suc n) h = and_from (nat_le 1 (suc n)) (nat_le (suc n) 127) (le-leb 1 (suc n) (omega arith)) (le-leb (suc n) 127 h)

null_by : (k : Kind) (n : ℕ) (b : Bool) → nat_le n 127 ≡ b → IsTrue (is_of_kind k (if b then null_of_code n else Bad OutOfBounds))
null_by k n true e = code_fits k n (leb-true n 127 e)
null_by k n false e = refl

made_null_fits : (k : Kind) (v : Datum) → IsTrue (is_of_kind k (made_null v))
made_null_fits k (Int (pos n)) = null_by k n (nat_le n 127) refl
made_null_fits k _ = refl

reason_fits : (k : Kind) (v : Datum) → IsTrue (is_of_kind k v) → IsTrue (is_of_kind Int64 (reason_of v))
reason_fits k (Missing code) p = let small : code ≤ 127 = leb-true code 127 (and_parts (nat_le 1 code) (nat_le code 127) p).1 in small_fits code (omega arith)
reason_fits k (Bad kind) p = refl
reason_fits k _ p = refl

-- ---- leaves

attribute_fits : (kinds : List Kind) (values : List Datum) (place : ℕ) (k : Kind) → AllZip (λ kind v. IsTrue (is_of_kind kind v)) kinds values → IsTrue (is_kind_at (slice_get kinds place) k) → IsTrue (is_of_kind k (slice_index_or values place Null))
attribute_fits [] values place k h t = cc
attribute_fits (j ∷ kinds) [] place k h t = absurd h
attribute_fits (j ∷ kinds) (v ∷ values) zero k h t = moved j k v t h.0
attribute_fits (j ∷ kinds) (v ∷ values) (suc place) k h t = attribute_fits kinds values place k h.1 t

number_fits : (at : List ℤ) (place : ℕ) → IsTrue (list_all fits_int64 at) → IsTrue (is_of_kind Int64 (number_at at place))
number_fits [] place h = refl
number_fits (z ∷ at) zero h = (and_parts (fits_int64 z) (list_all fits_int64 at) h).0
number_fits (z ∷ at) (suc place) h = number_fits at place (and_parts (fits_int64 z) (list_all fits_int64 at) h).1

-- ---- expressions

module _ (kinds : List Kind) (at : List ℤ) (values : List Datum) (numbers : IsTrue (list_all fits_int64 at)) (fits : AllZip (λ kind v. IsTrue (is_of_kind kind v)) kinds values) where
  abbrev has : Expr → Kind → Bool
  has e k = has_kind kinds (length at) e k

  abbrev val : Expr → Datum
  val e = value_of e at values

  pub sound : (e : Expr) (k : Kind) → IsTrue (has_kind kinds (length at) e k) → IsTrue (is_of_kind k (value_of e at values))
  sound (literal v) k t = t
  sound (attribute_value place) k t = attribute_fits kinds values place k fits t
  sound (dimension_value place) k t = moved Int64 k (number_at at place) (and_parts (nat_lt place (length at)) (same_kind Int64 k) t).1 (number_fits at place numbers)
  sound (minus a) k t =
      let u = and_parts (has a Int64) (same_kind Int64 k) t in
      moved Int64 k (negation (val a)) u.1 (on_value_fits Int64 Int64 negated (val a) (sound a Int64 u.0) (negated_fits (val a)))
  sound (denial a) k t =
      let u = and_parts (has a Truths) (same_kind Truths k) t in
      moved Truths k (opposite (val a)) u.1 (on_value_fits Truths Truths flipped (val a) (sound a Truths u.0) (flipped_fits (val a)))
  sound (calculation op a b) k t =
      let u = three_parts (calculates op k) (has a k) (has b k) t in
      calculated_fits op k (val a) (val b) u.0 (sound a k u.1) (sound b k u.2)
  sound (relation op a b) k t =
      let u = and_parts ((compares op Int64 && has a Int64 && has b Int64) || (compares op Str && has a Str && has b Str) || (compares op Truths && has a Truths && has b Truths)) (same_kind Truths k) t in
      moved Truths k (comparison op (val a) (val b)) u.1 (one_of_three (compares op Int64 && has a Int64 && has b Int64) (compares op Str && has a Str && has b Str) (compares op Truths && has a Truths && has b Truths)
      (IsTrue (is_of_kind Truths (comparison op (val a) (val b))))
      (λ h. let w = three_parts (compares op Int64) (has a Int64) (has b Int64) h in comparison_fits op Int64 (val a) (val b) (sound a Int64 w.1) (sound b Int64 w.2))
      (λ h. let w = three_parts (compares op Str) (has a Str) (has b Str) h in comparison_fits op Str (val a) (val b) (sound a Str w.1) (sound b Str w.2))
      (λ h. let w = three_parts (compares op Truths) (has a Truths) (has b Truths) h in comparison_fits op Truths (val a) (val b) (sound a Truths w.1) (sound b Truths w.2))
      u.0)
  sound (conjunction a b) k t =
      let u = three_parts (has a Truths) (has b Truths) (same_kind Truths k) t in
      moved Truths k (both_of (val a) (val b)) u.2 (both_fits (val a) (val b) (sound a Truths u.0) (sound b Truths u.1))
  sound (disjunction a b) k t =
      let u = three_parts (has a Truths) (has b Truths) (same_kind Truths k) t in
      moved Truths k (either_of (val a) (val b)) u.2 (either_fits (val a) (val b) (sound a Truths u.0) (sound b Truths u.1))
  sound (conditional test a b) k t =
      let u = three_parts (has test Truths) (has a k) (has b k) t in
      chosen_fits k (val test) (val a) (val b) (sound test Truths u.0) (sound a k u.1) (sound b k u.2)
  sound (null_test a) k t = moved Truths k (nullness (val a)) (and_parts (has a Int64 || has a Str || has a Truths) (same_kind Truths k) t).1 (nullness_fits (val a))
  sound (byte_length a) k t =
      let u = and_parts (has a Str) (same_kind Int64 k) t in
      moved Int64 k (text_length (val a)) u.1 (on_value_fits Str Int64 byte_count (val a) (sound a Str u.0) (byte_count_fits (val a) (sound a Str u.0)))
  sound (decimal_text a) k t =
      let u = and_parts (has a Int64) (same_kind Str k) t in
      moved Str k (text_of (val a)) u.1 (on_value_fits Int64 Str in_digits (val a) (sound a Int64 u.0) (in_digits_fits (val a) (sound a Int64 u.0)))
  sound (coded_null a) k t = on_value_fits Int64 k made_null (val a) (sound a Int64 t) (made_null_fits k (val a))
  sound (null_code a) k t =
      let u = and_parts (has a Int64 || has a Str || has a Truths) (same_kind Int64 k) t in
      moved Int64 k (reason_of (val a)) u.1 (one_of_three (has a Int64) (has a Str) (has a Truths) (IsTrue (is_of_kind Int64 (reason_of (val a))))
      (λ h. reason_fits Int64 (val a) (sound a Int64 h)) (λ h. reason_fits Str (val a) (sound a Str h)) (λ h. reason_fits Truths (val a) (sound a Truths h)) u.0)

pub typed_values_fit_all : TypedValuesFit
typed_values_fit_all kinds at values numbers fits e k t = sound kinds at values numbers fits e k t
