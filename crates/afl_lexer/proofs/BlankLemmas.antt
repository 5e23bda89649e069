-- A piece is blank where its bytes leave it so one after another.
use Rattle.std.proofs.Common.{◌≡◌, ℕ, suc, zero, ◌+◌, Bool, true, false, ◌==◌, ◌&&◌, ◌||◌, if◌then◌else◌, List, [], ◌∷◌, length, take, get_or, refl, sym, ◌∙◌, ap, add-one, inl, inr}
use Rattle.std.proofs.lemmas.Bool.{and_right}
use Rattle.std.proofs.lemmas.Bool.Decides.{eqb_tells}
use Rattle.std.specs.List.{fold, list_all, range_with_len}
use Rattle.afl_lexer.specs.declared.splitter.Place.{Place}
use Rattle.afl_lexer.specs.declared.splitter.Place.TheVariants.{Outside, AfterDash, InText, AfterBackslash, InComment}
use Rattle.afl_lexer.specs.Split.{next_place, is_white, is_passed_over, is_blank}
use Rattle.afl_lexer.specs.Inner.Standing.{stays_blank}

-- `is_passed_over_at`, where the bytes begin at some place
abbrev passed_from : Place → List ℕ → ℕ → Bool
passed_from place bytes i = is_passed_over (fold next_place place (take i bytes)) (get_or bytes i 0) (get_or bytes (i + 1) 0)

-- each byte is passed over, from some place on
abbrev all_passed : Place → List ℕ → Bool
all_passed place [] = true
all_passed place (byte ∷ rest) = is_passed_over place byte (get_or rest 0 0) && all_passed (next_place place byte) rest

-- a test of the next numbers
shifted : (p q : ℕ → Bool) (a n : ℕ) → ((i : ℕ) → p (i + 1) ≡ q i) → list_all p (range_with_len (a + 1) n) ≡ list_all q (range_with_len a n)
shifted p q a zero same = refl
shifted p q a (suc n) same = rw (same a, shifted p q (a + 1) n same)

next_is : (place : Place) (byte : ℕ) (rest : List ℕ) (i : ℕ) → passed_from place (byte ∷ rest) (i + 1) ≡ passed_from (next_place place byte) rest i
next_is place byte rest i = rw (add-one i, add-one (suc i))

all_are : (place : Place) (bytes : List ℕ) → list_all (passed_from place bytes) (range_with_len 0 (length bytes)) ≡ all_passed place bytes
all_are place [] = refl
all_are place (byte ∷ rest) =
    ap (λ b. is_passed_over place byte (get_or rest 0 0) && b)
    (shifted (passed_from place (byte ∷ rest)) (passed_from (next_place place byte) rest) 0 (length rest) (next_is place byte rest) ∙ all_are (next_place place byte) rest)

-- a `-` that waits for another finds it
abbrev waits : Place → List ℕ → Bool
waits AfterDash bytes = get_or bytes 0 0 == 45
waits _ bytes = true

-- `stays_blank` tests a `-` when the next byte comes
abbrev Stays : Place → List ℕ → Type 0
Stays place bytes = stays_blank place bytes ≡ (all_passed place bytes && waits place bytes)

and_swap : (x y : Bool) → (x && y) ≡ ((y && x) && true)
and_swap true true = refl
and_swap true false = refl
and_swap false true = refl
and_swap false false = refl

and_true : (w x : Bool) → ((w || false) && (x && true)) ≡ (((w || false) && x) && true)
and_true true true = refl
and_true true false = refl
and_true false x = refl

and_one : (x : Bool) → (x && true) ≡ x
and_one true = refl
and_one false = refl

-- outside, by the byte: `'`, `-`, or another
stays_outside : (byte : ℕ) (rest : List ℕ) → Stays Outside rest → Stays AfterDash rest → Stays Outside (byte ∷ rest)
stays_outside byte rest other dash = elim (eqb_tells byte 39) [
  | inl (_, is) ↦ rw is
  | inr (quote, _) ↦ elim (eqb_tells byte 45) [
    | inl (_, is) ↦ rw (is, dash) (and_swap (all_passed AfterDash rest) (get_or rest 0 0 == 45))
    | inr (hyphen, _) ↦ rw (quote, hyphen, other) (and_true (is_white byte) (all_passed Outside rest))
  ]
]

stays_dash : (byte : ℕ) (rest : List ℕ) → Stays InComment rest → Stays AfterDash (byte ∷ rest)
stays_dash byte rest comment = elim (eqb_tells byte 45) [
  | inl (_, is) ↦ rw is comment
  | inr (hyphen, _) ↦ rw hyphen (sym (and_right _ false refl))
]

stays : (place : Place) (bytes : List ℕ) → Stays place bytes
stays Outside [] = refl
stays AfterDash [] = refl
stays InText [] = refl
stays AfterBackslash [] = refl
stays InComment [] = refl
stays Outside (byte ∷ rest) = stays_outside byte rest (stays Outside rest) (stays AfterDash rest)
stays AfterDash (byte ∷ rest) = stays_dash byte rest (stays InComment rest)
stays InText (byte ∷ rest) = refl
stays AfterBackslash (byte ∷ rest) = refl
stays InComment (byte ∷ rest) =
    elim (byte == 10) as (λ ends. stays_blank (if ends then Outside else InComment) rest ≡ ((true && all_passed (if ends then Outside else InComment) rest) && true))
    [ true ↦ stays Outside rest | false ↦ stays InComment rest ]

-- blank bytes are those that leave a piece blank from its start
pub blank_by_bytes : (bytes : List ℕ) → is_blank bytes ≡ stays_blank Outside bytes
blank_by_bytes bytes = all_are Outside bytes ∙ sym (stays Outside bytes ∙ and_one (all_passed Outside bytes))
