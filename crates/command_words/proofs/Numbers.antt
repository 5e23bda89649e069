-- Numbers, as they are parsed.
use Rattle.std.proofs.Common.{◌≡◌, ℕ, ◌<◌, ◌≤◌, ◌^◌, Bool, true, false, ◌&&◌, cond, None, Some, Result, Ok, Err, [], ◌∷◌, length, refl, sym, ap, ◌∙◌, arith, nat_le, ◌==◌, ◌≢◌}
use Rattle.std.specs.List.{list_all}
use Rattle.std.specs.Char.{is_ascii_digit}
use Rattle.std.specs.Str.{all_ascii_digits}
use Rattle.std.specs.Str.Parse.{digits_value, ParsesUnsigned}
use Rattle.std.specs.Result.{OkIff, result_ok}
use Rattle.std.proofs.lemmas.Bool.{and_parts, and_from, and_left, and_right, leb-true, le-leb, eqb-false, cond-false}
use Rattle.std.proofs.lemmas.Str.Parse.{IsNumeralModel, numerals_by_value, tells_all_ascii_digits, parse_digits}
use Rattle.command_words.specs.Forms.{Word, is_number, is_number_within, is_script_number}
use Rattle.command_words.specs.Inner.Reading.{number_within, script_number}

own : IsNumeralModel (λ ds. all_ascii_digits ds ≡ true) (digits_value 10)
own = numerals_by_value (λ ds. all_ascii_digits ds ≡ true) tells_all_ascii_digits

all_digits : (w : Word) → list_all is_ascii_digit w ≡ all_ascii_digits w
all_digits [] = refl
all_digits (c ∷ w) = ap (λ b. is_ascii_digit c && b) (all_digits w)

module _ (w : Word) where
  pub no_number : (least most : ℕ) → is_number w ≡ false → number_within least most w ≡ None
  no_number least most e =
      cond-false (is_number_within least most w) (Some (digits_value 10 w)) None
      (and_left (is_number w && nat_le least (digits_value 10 w)) (nat_le (digits_value 10 w) most)
      (and_left (is_number w) (nat_le least (digits_value 10 w)) e))

  parts : is_number w ≡ true → (0 < length w) × (all_ascii_digits w ≡ true)
  parts e =
      let (sizes, digits) = and_parts (nat_le 1 (length w) && nat_le (length w) 10) (list_all is_ascii_digit w) e in
      let some : 1 ≤ length w = leb-true 1 (length w) (and_parts (nat_le 1 (length w)) (nat_le (length w) 10) sizes).0 in
      (omega arith, sym (all_digits w) ∙ digits)

  parsed : is_number w ≡ true → {E : Type 0} → (r : Result ℕ E) → ParsesUnsigned 32 10 w r → OkIff r ((0 < length w) × (digits_value 10 w < 2 ^ 32)) (digits_value 10 w)
  parsed e r h = parse_digits own 32 w r h (parts e).1

  out_of_range : (least most : ℕ) (x : Bool) → nat_le (digits_value 10 w) most ≡ x → (digits_value 10 w ≤ most → ⊥) → number_within least most w ≡ None
  out_of_range least most false out above =
      cond-false (is_number_within least most w) (Some (digits_value 10 w)) None
      (and_right (is_number w && nat_le least (digits_value 10 w)) (nat_le (digits_value 10 w) most) out)
  out_of_range least most true inside above = absurd (above (leb-true (digits_value 10 w) most inside))

  pub number_unparsed : (least most : ℕ) → most < 2 ^ 32 → is_number w ≡ true → {E : Type 0} → (r : Result ℕ E) (x : E) → r ≡ Err x → ParsesUnsigned 32 10 w r
      → number_within least most w ≡ None
  number_unparsed least most small e (Ok m) x is h = absurd (let none : ⊥ = cc in none)
  number_unparsed least most small e (Err y) x is h =
      out_of_range least most (nat_le (digits_value 10 w) most) refl (λ inside. parsed e (Err y) h ((parts e).0, below inside))
    where
      below : digits_value 10 w ≤ most → digits_value 10 w < 2 ^ 32
      below inside = omega arith

  -- of the sizes that the code tests
  pub number_sized : (length w == 0) ≡ false → length w ≤ 10 → list_all is_ascii_digit w ≡ is_number w
  number_sized some few =
      let filled : length w ≢ 0 = eqb-false (length w) 0 some in
      let one : 1 ≤ length w = omega arith in
      sym (ap (λ b. (b && nat_le (length w) 10) && list_all is_ascii_digit w) (le-leb 1 (length w) one) ∙ ap (λ b. b && list_all is_ascii_digit w) (le-leb (length w) 10 few))

  pub script_number_read : is_number w ≡ true → {E : Type 0} → (r : Result ℕ E) → ParsesUnsigned 32 10 w r → result_ok r ≡ script_number w
  script_number_read e {E = E} (Ok m) h =
      let (inside, is) = parsed e {E = E} (Ok m) h in
      let below : digits_value 10 w < 2 ^ 32 = inside.1 in
      let near : digits_value 10 w ≤ 4294967295 = omega arith in
      let fits : is_script_number w ≡ true = and_from (is_number w) (nat_le (digits_value 10 w) 4294967295) e (le-leb (digits_value 10 w) 4294967295 near) in
      ap Some is ∙ sym (ap (λ b. cond b (Some (digits_value 10 w)) None) fits)
  script_number_read e {E = E} (Err y) h = by (nat_le (digits_value 10 w) 4294967295) refl where
    below : digits_value 10 w ≤ 4294967295 → digits_value 10 w < 2 ^ 32
    below near = omega arith

    by : (x : Bool) → nat_le (digits_value 10 w) 4294967295 ≡ x → None ≡ script_number w
    by false out = sym (cond-false (is_script_number w) (Some (digits_value 10 w)) None (and_right (is_number w) (nat_le (digits_value 10 w) 4294967295) out))
    by true inside =
        let near : digits_value 10 w ≤ 4294967295 = leb-true (digits_value 10 w) 4294967295 inside in
        absurd (parsed e {E = E} (Err y) h ((parts e).0, below near))
