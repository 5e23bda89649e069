-- The values of expressions: what each operator and function gives for the values of its operands.
-- A fault of an operand is the answer, else a null of an operand with its code, the left operand first; `and` and `or` also
-- stop at false and at true. Each definition is total; for operands of types that the operator does not have its answer means nothing.
use Rattle.std.specs.Prelude.{ℕ, zero, ◌+◌, ℤ, pos, negsuc, neg_ℤ, ◌+ℤ◌, ◌-ℤ◌, ◌*ℤ◌, int_div, int_rem}
use Rattle.std.specs.Prelude.{Bool, true, false, not, if◌then◌else◌, nat_lt, nat_le, List, ◌++◌, length}
use Rattle.std.specs.declared.cmp.Ordering.{Ordering}
use Rattle.std.specs.Ordering.{is_eq, is_ne, is_lt, is_gt, is_le, is_ge, nat_cmp, int_cmp, bool_cmp, int_eq}
use Rattle.std.specs.Cmp.Lexicographic.{slice_cmp}
use Rattle.std.specs.Fmt.{signed_decimal}
use Rattle.cell_values.specs.declared.datum.Datum.{Datum}
use Rattle.cell_values.specs.declared.datum.Datum.TheVariants.{Null, Missing, Int, Text, Truth, Bad}
use Rattle.cell_values.specs.declared.datum.FaultKind.TheVariants.{Overflow, DivideByZero, OutOfBounds}
use Rattle.cell_values.specs.declared.datum.CompareOp.{CompareOp}
use Rattle.cell_values.specs.declared.datum.CompareOp.TheVariants.{Equal, Differs, Less, AtMost, More, AtLeast}
pub use Rattle.cell_values.specs.Nulls.{is_null}

-- ---- operands that are the answer

-- two operands: a fault of the left, a fault of the right, a null of the left, a null of the right, else the result
abbrev pub strictly : (Datum → Datum → Datum) → Datum → Datum → Datum
strictly f (Bad kind) r = Bad kind
strictly f l (Bad kind) = Bad kind
strictly f Null r = Null
strictly f (Missing code) r = Missing code
strictly f l Null = Null
strictly f l (Missing code) = Missing code
strictly f l r = f l r

-- one operand: a fault, a null, else the result
abbrev pub on_value : (Datum → Datum) → Datum → Datum
on_value f (Bad kind) = Bad kind
on_value f Null = Null
on_value f (Missing code) = Missing code
on_value f v = f v

-- ---- numbers

-- from -2^63 to 2^63 - 1
abbrev pub fits_int64 : ℤ → Bool
fits_int64 (pos n) = nat_lt n 9223372036854775808
fits_int64 (negsuc n) = nat_lt n 9223372036854775808

-- the exact result where it is in range, else a fault
abbrev pub exact : ℤ → Datum
exact z = if fits_int64 z then Int z else Bad Overflow

abbrev pub on_numbers : (ℤ → ℤ → Datum) → Datum → Datum → Datum
on_numbers f (Int a) (Int b) = f a b
on_numbers f l r = Null

-- no division by zero
abbrev pub divided : (ℤ → ℤ → ℤ) → ℤ → ℤ → Datum
divided f a b = if int_eq b (pos 0) then Bad DivideByZero else exact (f a b)

-- `-`
abbrev pub difference : Datum → Datum → Datum
difference = strictly (on_numbers (λ a b. exact (a -ℤ b)))

-- `*`
abbrev pub product : Datum → Datum → Datum
product = strictly (on_numbers (λ a b. exact (a *ℤ b)))

-- `/`, rounded towards zero
abbrev pub quotient : Datum → Datum → Datum
quotient = strictly (on_numbers (divided int_div))

-- `%`, with the sign of the dividend
abbrev pub remainder : Datum → Datum → Datum
remainder = strictly (on_numbers (divided int_rem))

abbrev pub negated : Datum → Datum
negated (Int a) = exact (neg_ℤ a)
negated v = Null

-- prefix `-`
abbrev pub negation : Datum → Datum
negation = on_value negated

-- ---- sums and joined texts

-- the joined bytes, where they are at most 65,535
abbrev pub joined : List ℕ → List ℕ → Datum
joined s t = if nat_le (length s + length t) 65535 then Text (s ++ t) else Bad Overflow

abbrev pub added : Datum → Datum → Datum
added (Int a) (Int b) = exact (a +ℤ b)
added (Text s) (Text t) = joined s t
added l r = Null

-- `+`
abbrev pub total : Datum → Datum → Datum
total = strictly added

-- ---- comparisons

abbrev pub holds : CompareOp → Ordering → Bool
holds Equal o = is_eq o
holds Differs o = is_ne o
holds Less o = is_lt o
holds AtMost o = is_le o
holds More o = is_gt o
holds AtLeast o = is_ge o

-- numbers by size, texts by their bytes, false before true
abbrev pub compared : CompareOp → Datum → Datum → Datum
compared op (Int a) (Int b) = Truth (holds op (int_cmp a b))
compared op (Text s) (Text t) = Truth (holds op (slice_cmp nat_cmp s t))
compared op (Truth a) (Truth b) = Truth (holds op (bool_cmp a b))
compared op l r = Null

-- `=`, `<>`, `<`, `<=`, `>`, `>=`
abbrev pub comparison : CompareOp → Datum → Datum → Datum
comparison op = strictly (compared op)

-- ---- logic

-- `and`: a fault of the left, false of the left, a fault of the right, false of the right, a null of the left, a null of the right, else true
abbrev pub both_of : Datum → Datum → Datum
both_of (Bad kind) r = Bad kind
both_of (Truth false) r = Truth false
both_of l (Bad kind) = Bad kind
both_of l (Truth false) = Truth false
both_of Null r = Null
both_of (Missing code) r = Missing code
both_of l Null = Null
both_of l (Missing code) = Missing code
both_of l r = Truth true

-- `or`: a fault of the left, true of the left, a fault of the right, true of the right, a null of the left, a null of the right, else false
abbrev pub either_of : Datum → Datum → Datum
either_of (Bad kind) r = Bad kind
either_of (Truth true) r = Truth true
either_of l (Bad kind) = Bad kind
either_of l (Truth true) = Truth true
either_of Null r = Null
either_of (Missing code) r = Missing code
either_of l Null = Null
either_of l (Missing code) = Missing code
either_of l r = Truth false

abbrev pub flipped : Datum → Datum
flipped (Truth b) = Truth (not b)
flipped v = Null

-- `not`
abbrev pub opposite : Datum → Datum
opposite = on_value flipped

-- `iif`: the second operand where the test is true, the third where it is false, else the test's own fault or null
abbrev pub chosen : Datum → Datum → Datum → Datum
chosen (Truth true) a b = a
chosen (Truth false) a b = b
chosen test a b = test

-- ---- nulls

-- `is_null`: a fault, else whether the value is null
abbrev pub nullness : Datum → Datum
nullness (Bad kind) = Bad kind
nullness v = Truth (is_null v)

-- null of a code; 0 is null without a reason
abbrev pub null_of_code : ℕ → Datum
null_of_code zero = Null
null_of_code code = Missing code

-- null of a code from 0 to 127
abbrev pub null_of : ℤ → Datum
null_of (pos n) = if nat_le n 127 then null_of_code n else Bad OutOfBounds
null_of (negsuc n) = Bad OutOfBounds

abbrev pub made_null : Datum → Datum
made_null (Int n) = null_of n
made_null v = Null

-- `missing`
abbrev pub missing_of : Datum → Datum
missing_of = on_value made_null

-- `missing_reason`: a fault, the code of a null, else -1
abbrev pub reason_of : Datum → Datum
reason_of (Bad kind) = Bad kind
reason_of Null = Int (pos 0)
reason_of (Missing code) = Int (pos code)
reason_of v = Int (negsuc 0)

-- ---- texts

abbrev pub byte_count : Datum → Datum
byte_count (Text s) = Int (pos (length s))
byte_count v = Null

-- `strlen`: the number of bytes
abbrev pub text_length : Datum → Datum
text_length = on_value byte_count

abbrev pub in_digits : Datum → Datum
in_digits (Int n) = Text (signed_decimal n)
in_digits v = Null

-- `string`: the decimal text, with `-` where the number is negative
abbrev pub text_of : Datum → Datum
text_of = on_value in_digits
