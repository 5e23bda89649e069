-- The reader of literals: what one more mark does. `bare` says whether an element may be a value without brackets.
use Rattle.std.specs.Prelude.{ℕ, Bool, true, false, nat_le, if◌then◌else◌, Option, Some, None, List, [], ◌∷◌, ◌++◌, length, map}
use Rattle.cell_values.specs.Table.{negation}
use Rattle.cell_values.specs.declared.datum.Datum.{Datum}
use Rattle.cell_values.specs.declared.datum.Datum.TheVariants.{Int}
use Rattle.afl_lexer.specs.Lexemes.{Lexeme}
use Rattle.afl_lexer.specs.declared.token.Token.{Token}
use Rattle.afl_lexer.specs.declared.token.Symbol.TheVariants.{LeftParen, RightParen, LeftBracket, RightBracket, Comma, Minus}
use Rattle.check_rules.specs.Literals.{mark_of, whats}
use Rattle.check_rules.specs.Inner.Lexed.{tokens_of}
use Rattle.check_rules.specs.declared.literals.literal.Mark.{Mark}
use Rattle.check_rules.specs.declared.literals.literal.Mark.TheVariants.{Value, Symbol}
use Rattle.check_rules.specs.declared.literals.literal.Place.{Place}
use Rattle.check_rules.specs.declared.literals.literal.Place.TheVariants.{Start, First, Next, Negative, Opened, Further, Signed, Valued, Ended, Closed}
use Rattle.check_rules.specs.declared.literals.literal.Begun.{Begun}

abbrev pub begun : List (List Datum) → Place → Begun
begun elements place = record { elements = elements; place = place }

abbrev pub is_number : Datum → Bool
is_number (Int n) = true
is_number v = false

abbrev pub with_element : List (List Datum) → List Datum → Option Begun
with_element es vs = Some (begun (es ++ vs ∷ []) Ended)

abbrev pub with_bare : List (List Datum) → Datum → Option Begun
with_bare es v = with_element es (v ∷ [])

abbrev pub with_value : List (List Datum) → List Datum → Datum → Option Begun
with_value es vs v = Some (begun es (Valued (vs ++ v ∷ [])))

abbrev pub before_element : Bool → List (List Datum) → Mark → Option Begun
before_element bare es (Symbol LeftParen) = Some (begun es Opened)
before_element true es (Symbol Minus) = Some (begun es Negative)
before_element true es (Value v) = with_bare es v
before_element bare es _ = None

abbrev pub before_value : List (List Datum) → List Datum → Mark → Option Begun
before_value es vs (Symbol Minus) = Some (begun es (Signed vs))
before_value es vs (Value v) = with_value es vs v
before_value es vs _ = None

abbrev pub behind_value : List (List Datum) → List Datum → Mark → Option Begun
behind_value es vs (Symbol Comma) = Some (begun es (Further vs))
behind_value es vs (Symbol RightParen) = with_element es vs
behind_value es vs _ = None

abbrev pub behind_element : List (List Datum) → Mark → Option Begun
behind_element es (Symbol Comma) = Some (begun es Next)
behind_element es (Symbol RightBracket) = Some (begun es Closed)
behind_element es _ = None

-- the number behind a `-`
abbrev pub signed_value : Mark → Option Datum
signed_value (Value (Int n)) = Some (negation (Int n))
signed_value _ = None

abbrev pub negative_element : List (List Datum) → Option Datum → Option Begun
negative_element es (Some v) = with_bare es v
negative_element es None = None

abbrev pub negative_value : List (List Datum) → List Datum → Option Datum → Option Begun
negative_value es vs (Some v) = with_value es vs v
negative_value es vs None = None

abbrev pub turn_at : Bool → List (List Datum) → Place → Mark → Option Begun
turn_at bare es Start (Symbol LeftBracket) = Some (begun es First)
turn_at bare es Start _ = None
turn_at bare es First (Symbol RightBracket) = Some (begun es Closed)
turn_at bare es First x = before_element bare es x
turn_at bare es Next x = before_element bare es x
turn_at bare es Negative x = negative_element es (signed_value x)
turn_at bare es Opened (Symbol RightParen) = with_element es []
turn_at bare es Opened x = before_value es [] x
turn_at bare es (Further vs) x = before_value es vs x
turn_at bare es (Signed vs) x = negative_value es vs (signed_value x)
turn_at bare es (Valued vs) x = behind_value es vs x
turn_at bare es Ended x = behind_element es x
turn_at bare es Closed x = None

abbrev pub turn : Bool → Begun → Mark → Option Begun
turn bare b x = turn_at bare b.elements b.place x

-- the elements of a whole literal
abbrev pub finished : List (List Datum) → Place → Option (List (List Datum))
finished es Closed = Some es
finished es _ = None

abbrev pub read_next : Option Begun → (Begun → Option (List (List Datum))) → Option (List (List Datum))
read_next (Some b) rest = rest b
read_next None rest = None

-- the elements that the marks spell, with what is read before
abbrev pub read_marks : Bool → List Mark → Begun → Option (List (List Datum))
read_marks bare [] b = finished b.elements b.place
read_marks bare (x ∷ xs) b = read_next (turn bare b x) (read_marks bare xs)

abbrev pub spelled : Bool → List Lexeme → Option (List (List Datum))
spelled bare xs = read_marks bare (map mark_of xs) (begun [] Start)

abbrev pub spelled_by : Bool → List ℕ → Option (List Token) → Option (List (List Datum))
spelled_by bare text (Some tokens) = spelled bare (whats text tokens)
spelled_by bare text None = None

-- The elements that a text spells, or none where it has another form. No text of a statement has more bytes.
abbrev pub elements_of : Bool → List ℕ → Option (List (List Datum))
elements_of bare text = if nat_le (length text) 65535 then spelled_by bare text (tokens_of text) else None
