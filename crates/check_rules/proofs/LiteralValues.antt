-- The values of a literal are within the limits.
use Rattle.std.proofs.Common.{◌≡◌, ℕ, Bool, true, false, ◌&&◌, Option, Some, None, IfSome, List, [], ◌∷◌, ◌++◌, length, map, refl, ap, ◌∙◌}
use Rattle.std.specs.Prelude.{nat_le, if◌then◌else◌}
use Rattle.std.specs.List.{list_all}
use Rattle.std.proofs.lemmas.Bool.{and_parts, and_from}
use Rattle.std.proofs.lemmas.List.Folds.{list_all-append}
use Rattle.cell_values.specs.declared.datum.Datum.{Datum}
use Rattle.cell_values.specs.declared.datum.Datum.TheVariants.{Int}
use Rattle.cell_values.specs.Table.{negation}
use Rattle.afl_lexer.specs.declared.token.Token.{Token}
use Rattle.afl_lexer.specs.declared.token.Symbol.TheVariants.{LeftParen, RightParen, LeftBracket, RightBracket, Comma, Minus}
use Rattle.afl_lexer.specs.Tokens.{AreTokens}
use Rattle.check_rules.specs.Literals.{mark_of, whats}
use Rattle.check_rules.specs.Inner.Reader.{begun, with_element, with_bare, with_value, before_element, before_value, behind_value, behind_element, signed_value, negative_element, negative_value, turn_at, turn, finished, read_next, read_marks, spelled_by, elements_of}
use Rattle.check_rules.specs.Inner.Lexed.{tokens_of}
use Rattle.check_rules.specs.declared.literals.literal.Mark.{Mark}
use Rattle.check_rules.specs.declared.literals.literal.Mark.TheVariants.{Value, Symbol}
use Rattle.check_rules.specs.declared.literals.literal.Place.{Place}
use Rattle.check_rules.specs.declared.literals.literal.Place.TheVariants.{Start, First, Next, Negative, Opened, Further, Signed, Valued, Ended, Closed}
use Rattle.check_rules.specs.declared.literals.literal.Begun.{Begun}
use Rattle.check_rules.proofs.LexedLemmas.{tokens_of_are}
use Rattle.check_rules.proofs.Limits.{is_within, is_mark_within, are_bytes, marks_within, opposite_within}

abbrev pub are_within : List (List Datum) → Bool
are_within = list_all (list_all is_within)

-- the values of an element that is open
abbrev is_place_within : Place → Bool
is_place_within (Further vs) = list_all is_within vs
is_place_within (Signed vs) = list_all is_within vs
is_place_within (Valued vs) = list_all is_within vs
is_place_within place = true

abbrev is_begun_within : Begun → Type 0
is_begun_within b = (are_within b.elements ≡ true) × (is_place_within b.place ≡ true)

one_more : (vs : List Datum) (v : Datum) → list_all is_within vs ≡ true → is_within v ≡ true → list_all is_within (vs ++ v ∷ []) ≡ true
one_more vs v h e = list_all-append is_within vs (v ∷ []) ∙ and_from (list_all is_within vs) (is_within v && true) h (ap (λ b. b && true) e)

element : (es : List (List Datum)) (vs : List Datum) → are_within es ≡ true → list_all is_within vs ≡ true → IfSome (with_element es vs) is_begun_within
element es vs h e = (list_all-append (list_all is_within) es (vs ∷ []) ∙ and_from (are_within es) (list_all is_within vs && true) h (ap (λ b. b && true) e), refl)

bare_one : (es : List (List Datum)) (v : Datum) → are_within es ≡ true → is_within v ≡ true → IfSome (with_bare es v) is_begun_within
bare_one es v h e = element es (v ∷ []) h (ap (λ b. b && true) e)

value : (es : List (List Datum)) (vs : List Datum) (v : Datum) → are_within es ≡ true → list_all is_within vs ≡ true → is_within v ≡ true → IfSome (with_value es vs v) is_begun_within
value es vs v h e f = (h, one_more vs v e f)

before_one : (bare : Bool) (es : List (List Datum)) (x : Mark) → are_within es ≡ true → is_mark_within x ≡ true → IfSome (before_element bare es x) is_begun_within
before_one bare es (Symbol LeftParen) h e = (h, refl)
before_one true es (Symbol Minus) h e = (h, refl)
before_one true es (Value v) h e = bare_one es v h e
before_one bare es _ h e = tt

before_next : (es : List (List Datum)) (vs : List Datum) (x : Mark) → are_within es ≡ true → list_all is_within vs ≡ true → is_mark_within x ≡ true → IfSome (before_value es vs x) is_begun_within
before_next es vs (Symbol Minus) h e f = (h, e)
before_next es vs (Value v) h e f = value es vs v h e f
before_next es vs _ h e f = tt

behind_one : (es : List (List Datum)) (vs : List Datum) (x : Mark) → are_within es ≡ true → list_all is_within vs ≡ true → IfSome (behind_value es vs x) is_begun_within
behind_one es vs (Symbol Comma) h e = (h, e)
behind_one es vs (Symbol RightParen) h e = element es vs h e
behind_one es vs _ h e = tt

behind_all : (es : List (List Datum)) (x : Mark) → are_within es ≡ true → IfSome (behind_element es x) is_begun_within
behind_all es (Symbol Comma) h = (h, refl)
behind_all es (Symbol RightBracket) h = (h, refl)
behind_all es _ h = tt

signed_one : (es : List (List Datum)) (x : Mark) → are_within es ≡ true → IfSome (negative_element es (signed_value x)) is_begun_within
signed_one es (Value (Int n)) h = bare_one es (negation (Int n)) h (opposite_within n)
signed_one es _ h = tt

signed_next : (es : List (List Datum)) (vs : List Datum) (x : Mark) → are_within es ≡ true → list_all is_within vs ≡ true → IfSome (negative_value es vs (signed_value x)) is_begun_within
signed_next es vs (Value (Int n)) h e = value es vs (negation (Int n)) h e (opposite_within n)
signed_next es vs _ h e = tt

turns : (bare : Bool) (es : List (List Datum)) (place : Place) (x : Mark) → are_within es ≡ true → is_place_within place ≡ true → is_mark_within x ≡ true → IfSome (turn_at bare es place x) is_begun_within
turns bare es Start (Symbol LeftBracket) h p f = (h, refl)
turns bare es Start _ h p f = tt
turns bare es First (Symbol RightBracket) h p f = (h, refl)
turns bare es First x h p f = before_one bare es x h f
turns bare es Next x h p f = before_one bare es x h f
turns bare es Negative x h p f = signed_one es x h
turns bare es Opened (Symbol RightParen) h p f = element es [] h refl
turns bare es Opened x h p f = before_next es [] x h refl f
turns bare es (Further vs) x h p f = before_next es vs x h p f
turns bare es (Signed vs) x h p f = signed_next es vs x h p
turns bare es (Valued vs) x h p f = behind_one es vs x h p
turns bare es Ended x h p f = behind_all es x h
turns bare es Closed x h p f = tt

ends : (es : List (List Datum)) (place : Place) → are_within es ≡ true → IfSome (finished es place) (λ elements. are_within elements ≡ true)
ends es Closed h = h
ends es _ h = tt

goes_on : (o : Option Begun) (rest : Begun → Option (List (List Datum))) → IfSome o is_begun_within → ((b : Begun) → is_begun_within b → IfSome (rest b) (λ elements. are_within elements ≡ true)) → IfSome (read_next o rest) (λ elements. are_within elements ≡ true)
goes_on (Some b) rest h f = f b h
goes_on None rest h f = tt

reads : (bare : Bool) (xs : List Mark) (b : Begun) → list_all is_mark_within xs ≡ true → is_begun_within b → IfSome (read_marks bare xs b) (λ elements. are_within elements ≡ true)
reads bare [] b h within = ends b.elements b.place within.0
reads bare (x ∷ xs) b h within =
    let p = and_parts (is_mark_within x) (list_all is_mark_within xs) h in
    goes_on (turn bare b x) (read_marks bare xs) (turns bare b.elements b.place x within.0 within.1 p.0) (λ next later. reads bare xs next p.1 later)

by_tokens : (bare : Bool) (text : List ℕ) (o : Option (List Token)) → are_bytes text ≡ true → IfSome o (AreTokens text) → IfSome (spelled_by bare text o) (λ elements. are_within elements ≡ true)
by_tokens bare text (Some tokens) h are = reads bare (map mark_of (whats text tokens)) (begun [] Start) (marks_within text tokens h are) (refl, refl)
by_tokens bare text None h are = tt

-- the values that a text of bytes spells
pub elements_within : (bare : Bool) (text : List ℕ) → are_bytes text ≡ true → IfSome (elements_of bare text) (λ elements. are_within elements ≡ true)
elements_within bare text h = by_length (nat_le (length text) 65535) (by_tokens bare text (tokens_of text) h (tokens_of_are text))
  where
    by_length : (b : Bool) → IfSome (spelled_by bare text (tokens_of text)) (λ elements. are_within elements ≡ true) → IfSome (if b then spelled_by bare text (tokens_of text) else None) (λ elements. are_within elements ≡ true)
    by_length true h = h
    by_length false h = tt
