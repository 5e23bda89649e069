-- The least and the greatest of values, by the values that do not come before them.
use Rattle.std.specs.Prelude.{◌≡◌, ◌⊎◌, ℕ, Bool, false, List, [], ◌∷◌, Option, Some, None}
use Rattle.std.specs.List.{AllByRecursion}
use Rattle.std.specs.declared.cmp.Ordering.{Ordering}
use Rattle.std.specs.Ordering.{is_lt, nat_cmp, int_cmp, on, then_cmp}
use Rattle.std.specs.Cmp.Lexicographic.{slice_cmp}
use Rattle.cell_values.specs.declared.datum.Datum.{Datum}
use Rattle.cell_values.specs.declared.datum.Datum.TheVariants.{Text}
use Rattle.logical_plan.specs.declared.parts.AggFunction.{AggFunction}
use Rattle.logical_plan.specs.declared.parts.AggFunction.TheVariants.{Min, Max}
use Rattle.logical_plan.specs.Groups.{number_of}

abbrev pub text_of : Datum → List ℕ
text_of (Text s) = s
text_of v = []

-- an order of all values: by number, then by text. What is no number counts as 0, and what is no text as an empty one
abbrev pub value_order : Datum → Datum → Ordering
value_order = then_cmp (on number_of int_cmp) (on text_of (slice_cmp nat_cmp))

-- a value is wanted rather than another: the lesser one for `min`, the greater one for `max`
abbrev pub beats : AggFunction → Datum → Datum → Bool
beats Min v w = is_lt (value_order v w)
beats Max v w = is_lt (value_order w v)
beats f v w = false

abbrev pub IsOneOf : Datum → List Datum → Type 0
IsOneOf v [] = ⊥
IsOneOf v (w ∷ vs) = (w ≡ v) ⊎ IsOneOf v vs

-- one of the values that no other beats; none of no value
abbrev pub IsUnbeaten : (Datum → Datum → Bool) → Option Datum → List Datum → Type 0
IsUnbeaten test None vs = vs ≡ []
IsUnbeaten test (Some best) vs = IsOneOf best vs × AllByRecursion (λ v. test v best ≡ false) vs

-- functions other than `min` and `max` keep no value
abbrev pub IsBestFor : AggFunction → Option Datum → List Datum → Type 0
IsBestFor Min best vs = IsUnbeaten (beats Min) best vs
IsBestFor Max best vs = IsUnbeaten (beats Max) best vs
IsBestFor f best vs = best ≡ None
