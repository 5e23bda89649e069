-- Names, reserved words, numbers and codes at the front.
use Rattle.std.proofs.Common.{◌≡◌, ◌≢◌, ℕ, zero, suc, ◌+◌, ◌<◌, ◌≤◌, Bool, true, false, List, [], ◌∷◌, Option, Some, None, length, take, drop, refl, sym, ap, subst, ◌∙◌, arith, inl, inr}
use Rattle.std.specs.Prelude.{◌==◌, ◌&&◌, ◌||◌, not, nat_le, nat_lt, codes, pos, if◌then◌else◌}
use Rattle.std.specs.List.{list_all, prefix_len}
use Rattle.std.specs.Str.{bytes_eq}
use Rattle.std.specs.Str.Parse.{digits_value}
use Rattle.std.proofs.lemmas.Bool.{and_parts, and_from, eqb-true, leb-true, le-leb, ltb-true, ltb-false, leb-false, not_from_false, cond_both, cond-true, eqb-false}
use Rattle.std.proofs.lemmas.Slice.Eq.{bytes_eq-Decides}
use Rattle.std.proofs.lemmas.List.{length-take-le}
use Rattle.std.proofs.lemmas.List.Sums.{prefix_len-le-length}
use Rattle.cell_values.specs.Naming.{is_letter, is_digit, is_first_byte, is_word_byte, begins_well, is_reserved}
use Rattle.afl_lexer.specs.declared.token.Word.{Word}
use Rattle.afl_lexer.specs.declared.token.TokenKind.TheVariants.{Int, Code}
use Rattle.afl_lexer.specs.declared.token.LexKind.TheVariants.{UnknownCharacter, NameTooLong, LiteralTooLarge}
use Rattle.afl_lexer.specs.declared.reading.Reading.TheVariants.{Found, Wrong}
use Rattle.afl_lexer.specs.Tokens.{is_word, is_number, is_code, word_bytes, IsForm, word_form, number_form, code_form, IsSpelled}
use Rattle.afl_lexer.specs.Scan.{word_of, word_kind, word_reading, number_reading, code_reading}
use Rattle.afl_lexer.proofs.Forms.{FormBy, form_by, at_letter, at_digit, at_question, nil_no_form}
use Rattle.afl_lexer.proofs.Fronts.{IsFront, take_one}
use Rattle.afl_lexer.proofs.Judged.{NoFront, IsRight}
use Rattle.afl_lexer.proofs.Numbers.{front_passes, front_longest}

pub first_in_word : (b : ℕ) → is_first_byte b ≡ true → is_word_byte b ≡ true
first_in_word b e = by (is_letter b) (b == 95) (is_digit b) e where
  by : (l u d : Bool) → (l || u) ≡ true → ((l || d) || u) ≡ true
  by true u d h = refl
  by false true true h = refl
  by false true false h = refl
  by false false d h = cc

-- the longest front that passes is not empty where the first byte passes
pub one_passes : (p : ℕ → Bool) (b : ℕ) (rest : List ℕ) → p b ≡ true → prefix_len p (b ∷ rest) ≡ 1 + prefix_len p rest
one_passes p b rest e = cond-true (p b) (1 + prefix_len p rest) 0 e

front_is : (p : ℕ → Bool) (b : ℕ) (rest : List ℕ) → p b ≡ true → take (prefix_len p (b ∷ rest)) (b ∷ rest) ≡ b ∷ take (prefix_len p rest) rest
front_is p b rest e = ap (λ n. take n (b ∷ rest)) (one_passes p b rest e) ∙ take_one (prefix_len p rest) b rest

word_fits : (b : ℕ) (rest : List ℕ) → is_first_byte b ≡ true → is_word (take (prefix_len is_word_byte (b ∷ rest)) (b ∷ rest)) ≡ true
word_fits b rest e =
    and_from (begins_well (take (prefix_len is_word_byte (b ∷ rest)) (b ∷ rest))) (list_all is_word_byte (take (prefix_len is_word_byte (b ∷ rest)) (b ∷ rest)))
    (ap begins_well (front_is is_word_byte b rest (first_in_word b e)) ∙ e) (front_passes is_word_byte (b ∷ rest))

word_front : (b : ℕ) (rest : List ℕ) → is_first_byte b ≡ true → IsFront IsForm (b ∷ rest) (prefix_len is_word_byte (b ∷ rest))
word_front b rest e = record {
  within = prefix_len-le-length is_word_byte (b ∷ rest);
  fits = word_form (word_fits b rest e);
  longest = longest;
} where
  longest : (m : ℕ) → prefix_len is_word_byte (b ∷ rest) < m → m ≤ length (b ∷ rest) → IsForm (take m (b ∷ rest)) → ⊥
  longest zero more within f = omega arith
  longest (suc m) more within f =
      let word : is_word (b ∷ take m rest) ≡ true = subst (λ k. FormBy k (b ∷ take m rest)) (at_letter b e) (form_by b (take m rest) f) in
      let most : suc m ≤ prefix_len is_word_byte (b ∷ rest) = front_longest is_word_byte (b ∷ rest) (suc m) within (and_parts (is_first_byte b) (list_all is_word_byte (b ∷ take m rest)) word).1 in
      omega arith

pub same_bytes : (xs ys : List ℕ) → bytes_eq xs ys ≡ true → xs ≡ ys
same_bytes xs ys e = (bytes_eq-Decides xs ys).0 e

abbrev pub WordTells : List ℕ → Option Word → Type 0
WordTells bytes (Some word) = bytes ≡ word_bytes word
WordTells bytes None = is_reserved bytes ≡ false

pub word_tells : (bytes : List ℕ) → WordTells bytes (word_of bytes)
word_tells bytes =
    let P : Option Word → Type 0 = WordTells bytes in
    let is : List ℕ → Bool = bytes_eq bytes in
    cond_both (is (codes "and")) _ _ P (λ e. same_bytes bytes (codes "and") e) (λ a.
    cond_both (is (codes "or")) _ _ P (λ e. same_bytes bytes (codes "or") e) (λ b.
    cond_both (is (codes "not")) _ _ P (λ e. same_bytes bytes (codes "not") e) (λ c.
    cond_both (is (codes "null")) _ _ P (λ e. same_bytes bytes (codes "null") e) (λ d.
    cond_both (is (codes "true")) _ _ P (λ e. same_bytes bytes (codes "true") e) (λ f.
    cond_both (is (codes "false")) _ _ P (λ e. same_bytes bytes (codes "false") e) (λ g.
    cond_both (is (codes "as")) _ _ P (λ e. same_bytes bytes (codes "as") e) (λ h.
    cond_both (is (codes "create")) _ _ P (λ e. same_bytes bytes (codes "create") e) (λ i.
    cond_both (is (codes "array")) _ _ P (λ e. same_bytes bytes (codes "array") e) (λ j. rw (a, b, c, d, f, g, h, i, j) refl)))))))))

word_spelled : (bytes : List ℕ) (o : Option Word) → WordTells bytes o → is_word bytes ≡ true → length bytes ≤ 64 → IsSpelled (word_kind o) bytes
word_spelled bytes (Some word) t w h = t
word_spelled bytes None t w h =
    let both : (begins_well bytes ≡ true) × (list_all is_word_byte bytes ≡ true) = and_parts (begins_well bytes) (list_all is_word_byte bytes) w in
    and_from (nat_le (length bytes) 64 && begins_well bytes && list_all is_word_byte bytes) (not (is_reserved bytes))
    (and_from (nat_le (length bytes) 64 && begins_well bytes) (list_all is_word_byte bytes) (and_from (nat_le (length bytes) 64) (begins_well bytes) (le-leb (length bytes) 64 h) both.0) both.1)
    (not_from_false (is_reserved bytes) t)

pub word_right : (b : ℕ) (rest : List ℕ) → is_first_byte b ≡ true → IsRight (b ∷ rest) (word_reading (b ∷ rest))
unfolding word_reading
word_right b rest e =
    let bytes : List ℕ = b ∷ rest in
    let n : ℕ = prefix_len is_word_byte bytes in
    let front : IsFront IsForm bytes n = word_front b rest e in
    let size : length (take n bytes) ≡ n = length-take-le n bytes front.within in
    let one : n ≡ 1 + prefix_len is_word_byte rest = one_passes is_word_byte b rest (first_in_word b e) in
    cond_both (nat_lt 64 n) (Wrong NameTooLong 0) (Found (word_kind (word_of (take n bytes))) n) (IsRight bytes)
    (λ h. (n, front, (refl, word_fits b rest e, omega (arith, ltb-true 64 n h))))
    (λ h. (omega arith, front, word_spelled (take n bytes) (word_of (take n bytes)) (word_tells (take n bytes)) (word_fits b rest e) (omega (arith, ltb-false 64 n h))))

number_fits : (b : ℕ) (rest : List ℕ) → is_digit b ≡ true → is_number (take (prefix_len is_digit (b ∷ rest)) (b ∷ rest)) ≡ true
number_fits b rest e =
    let same : take (prefix_len is_digit (b ∷ rest)) (b ∷ rest) ≡ b ∷ take (prefix_len is_digit rest) rest = front_is is_digit b rest e in
    ap is_number same ∙ ap (list_all is_digit) (sym same) ∙ front_passes is_digit (b ∷ rest)

number_front : (b : ℕ) (rest : List ℕ) → is_digit b ≡ true → IsFront IsForm (b ∷ rest) (prefix_len is_digit (b ∷ rest))
number_front b rest e = record {
  within = prefix_len-le-length is_digit (b ∷ rest);
  fits = number_form (number_fits b rest e);
  longest = longest;
} where
  longest : (m : ℕ) → prefix_len is_digit (b ∷ rest) < m → m ≤ length (b ∷ rest) → IsForm (take m (b ∷ rest)) → ⊥
  longest zero more within f = omega arith
  longest (suc m) more within f =
      let number : list_all is_digit (b ∷ take m rest) ≡ true = subst (λ k. FormBy k (b ∷ take m rest)) (at_digit b e) (form_by b (take m rest) f) in
      let most : suc m ≤ prefix_len is_digit (b ∷ rest) = front_longest is_digit (b ∷ rest) (suc m) within number in
      omega arith

pub number_right : (b : ℕ) (rest : List ℕ) → is_digit b ≡ true → IsRight (b ∷ rest) (number_reading (b ∷ rest))
unfolding number_reading
number_right b rest e =
    let bytes : List ℕ = b ∷ rest in
    let n : ℕ = prefix_len is_digit bytes in
    let value : ℕ = digits_value 10 (take n bytes) in
    let front : IsFront IsForm bytes n = number_front b rest e in
    let one : n ≡ 1 + prefix_len is_digit rest = one_passes is_digit b rest e in
    cond_both (nat_lt value 9223372036854775808) (Found (Int (pos value)) n) (Wrong LiteralTooLarge 0) (IsRight bytes)
    (λ h. (omega arith, front, (number_fits b rest e, refl, ltb-true value 9223372036854775808 h)))
    (λ h. (n, front, (refl, inl (number_fits b rest e, ltb-false value 9223372036854775808 h))))

number_from : (ds : List ℕ) → 0 < length ds → list_all is_digit ds ≡ true → is_number ds ≡ true
number_from [] h t = absurd (omega arith)
number_from (d ∷ ds) h t = t

pub number_digits : (ds : List ℕ) → is_number ds ≡ true → (0 < length ds) × (list_all is_digit ds ≡ true)
number_digits [] t = cc
number_digits (d ∷ ds) t = (omega arith, t)

code_most : (b : ℕ) (rest : List ℕ) (m : ℕ) → (b == 63) ≡ true → m ≤ length (b ∷ rest) → IsForm (take m (b ∷ rest)) → (1 < m) × (m ≤ 1 + prefix_len is_digit rest)
code_most b rest zero e within f = absurd (nil_no_form f)
code_most b rest (suc m) e within f =
    let code : is_code (b ∷ take m rest) ≡ true = subst (λ k. FormBy k (b ∷ take m rest)) (at_question b e) (form_by b (take m rest) f) in
    let digits : (0 < length (take m rest)) × (list_all is_digit (take m rest) ≡ true) = number_digits (take m rest) (and_parts (b == 63) (is_number (take m rest)) code).1 in
    let size : length (take m rest) ≡ m = length-take-le m rest (omega arith) in
    let most : m ≤ prefix_len is_digit rest = front_longest is_digit rest m (omega arith) digits.1 in
    (omega (arith, digits.0), omega arith)

code_none : (b : ℕ) (rest : List ℕ) → (b == 63) ≡ true → prefix_len is_digit rest ≡ 0 → NoFront (b ∷ rest)
code_none b rest e h m within f = let most = code_most b rest m e within f in omega (arith, most.0, most.1)

code_fits : (b : ℕ) (rest : List ℕ) → (b == 63) ≡ true → 0 < prefix_len is_digit rest → is_code (take (prefix_len is_digit rest + 1) (b ∷ rest)) ≡ true
code_fits b rest e h =
    let n : ℕ = prefix_len is_digit rest in
    let one : n + 1 ≡ 1 + n = omega arith in
    let size : length (take n rest) ≡ n = length-take-le n rest (prefix_len-le-length is_digit rest) in
    ap (λ k. is_code (take k (b ∷ rest))) one ∙ ap is_code (take_one n b rest)
    ∙ and_from (b == 63) (is_number (take n rest)) e (number_from (take n rest) (omega arith) (front_passes is_digit rest))

code_digits : (b : ℕ) (rest : List ℕ) → drop 1 (take (prefix_len is_digit rest + 1) (b ∷ rest)) ≡ take (prefix_len is_digit rest) rest
code_digits b rest =
    let n : ℕ = prefix_len is_digit rest in
    let one : n + 1 ≡ 1 + n = omega arith in
    ap (λ k. drop 1 (take k (b ∷ rest))) one ∙ ap (λ (ys : List ℕ). drop 1 ys) (take_one n b rest)

code_front : (b : ℕ) (rest : List ℕ) → (b == 63) ≡ true → 0 < prefix_len is_digit rest → IsFront IsForm (b ∷ rest) (prefix_len is_digit rest + 1)
code_front b rest e h = record {
  within = omega (arith, prefix_len-le-length is_digit rest);
  fits = code_form (code_fits b rest e h);
  longest = λ m more within f. let most = code_most b rest m e within f in omega (arith, most.1);
}

pub code_right : (b : ℕ) (rest : List ℕ) → (b == 63) ≡ true → IsRight (b ∷ rest) (code_reading rest)
unfolding code_reading
code_right b rest e =
    let bytes : List ℕ = b ∷ rest in
    let n : ℕ = prefix_len is_digit rest in
    let value : ℕ = digits_value 10 (take n rest) in
    let not_quote : Some b ≢ Some 39 = λ (q : Some b ≡ Some 39). let p : b ≡ 39 = cc in absurd (omega (arith, eqb-true b 63 e)) in
    let same : digits_value 10 (drop 1 (take (n + 1) bytes)) ≡ value = ap (digits_value 10) (code_digits b rest) in
    cond_both (n == 0) (Wrong UnknownCharacter 0) _ (IsRight bytes)
    (λ z. (refl, code_none b rest e (eqb-true n 0 z), not_quote))
    (λ z.
    let some : 0 < n = omega (arith, eqb-false n 0 z) in
    cond_both (nat_le value 127) (Found (Code value) (n + 1)) (Wrong LiteralTooLarge 0) (IsRight bytes)
    (λ h. (omega arith, code_front b rest e some, (code_fits b rest e some, sym same, leb-true value 127 h)))
    (λ h. (n + 1, code_front b rest e some, (refl, inr (code_fits b rest e some, omega (arith, leb-false value 127 h))))))

-- in place of what stands behind `else` may stand what it is
pub follows : {A : Type 0} (b : Bool) (this : A) {found other other' : Option A} →
    found ≡ (if b then Some this else other) → other ≡ other' → found ≡ (if b then Some this else other')
follows b this is same = is ∙ ap (λ x. if b then Some this else x) same
