-- The tokens of a text as one value are those that the lexical grammar gives it.
use Rattle.std.proofs.Common.{◌≡◌, ℕ, zero, suc, ◌+◌, ◌<◌, ◌≤◌, ◌==◌, List, [], ◌∷◌, ◌++◌, length, drop, Option, Some, None, IfSome, refl, sym, ap, subst, arith, append_assoc, append-nil}
use Rattle.std.specs.Option.{option_map}
use Rattle.std.proofs.lemmas.Bool.{cond_both, eqb-true, eqb-false}
use Rattle.std.proofs.lemmas.List.{length-drop}
use Rattle.afl_lexer.specs.declared.token.Token.{Token}
use Rattle.afl_lexer.specs.declared.token.LexKind.{LexKind}
use Rattle.afl_lexer.specs.declared.reading.Reading.{Reading}
use Rattle.afl_lexer.specs.declared.reading.Reading.TheVariants.{Found, Wrong}
use Rattle.afl_lexer.specs.Scan.{gap_len, reading_of}
use Rattle.afl_lexer.specs.Tokens.{BeginsAt, AreTokens, LexStops}
use Rattle.afl_lexer.proofs.Judged.{IsRight}
use Rattle.afl_lexer.proofs.Places.{gap_at, fails_at}
use Rattle.afl_lexer.proofs.Readings.{reading_right}
use Rattle.afl_lexer.proofs.Walks.{IsReached, reached_first, reached_end, reached_within, reached_more, reached_fault, begins_at, one_list, not_both}
use Rattle.check_rules.specs.Inner.Lexed.{token_from, found_then, tokens_from, tokens_of}

-- behind these tokens the text has the others, or it stops
abbrev GoesOn : List ℕ → List Token → Option (List Token) → Type 0
GoesOn text before (Some later) = AreTokens text (before ++ later)
GoesOn text before None = (at : ℕ) × (kind : LexKind) × LexStops text at kind

one_more : (text : List ℕ) (before : List Token) (token : Token) (o : Option (List Token)) → GoesOn text (before ++ token ∷ []) o → GoesOn text before (option_map (λ tokens. token ∷ tokens) o)
one_more text before token (Some later) h = subst (AreTokens text) (append_assoc before (token ∷ []) later) h
one_more text before token None h = h

step : (text : List ℕ) (before : List Token) (at n : ℕ) (reading : Reading) → IsReached text before at → at < length text → IsRight (drop at text) reading → length text ≤ at + suc n
    → ((more : List Token) (to : ℕ) → IsReached text more to → length text ≤ to + n → GoesOn text more (tokens_from n text to)) → GoesOn text before (found_then reading text at (tokens_from n text))
step text before at n (Found kind size) r h right room next =
    let token : BeginsAt text at (token_from kind at (at + size)) = begins_at text at kind size h right in
    let to : ℕ = at + size + gap_len (drop (at + size) text) in
    one_more text before (token_from kind at (at + size)) (tokens_from n text to)
    (next (before ++ token_from kind at (at + size) ∷ []) to
    (reached_more text before at (token_from kind at (at + size)) to r token (gap_at text (at + size) token.form.within)) (omega (arith, right.0)))
step text before at n (Wrong kind off) r h right room next = (at + off, kind, reached_fault text before at (at + off) kind r (fails_at kind text at off h right))

ended : (text : List ℕ) (before : List Token) (at : ℕ) → IsReached text before at → at ≡ length text → GoesOn text before (Some [])
ended text before at r e = subst (AreTokens text) (sym (append-nil before)) (reached_end text before at r e)

below : (a b : ℕ) → (a ≡ b → ⊥) → a ≤ b → a < b
below a b e h = omega arith

from_here : (n : ℕ) (text : List ℕ) (before : List Token) (at : ℕ) → IsReached text before at → length text ≤ at + n → GoesOn text before (tokens_from n text at)
from_here zero text before at r room = ended text before at r (omega (arith, reached_within text before at r))
from_here (suc n) text before at r room =
    cond_both (at == length text) (Some []) (found_then (reading_of (drop at text)) text at (tokens_from n text)) (GoesOn text before)
    (λ e. ended text before at r (eqb-true at (length text) e))
    (λ e.
    let h : at < length text = below at (length text) (eqb-false at (length text) e) (reached_within text before at r) in
    step text before at n (reading_of (drop at text)) r h (reading_right (drop at text) (simp length-drop (omega arith))) room (λ more to q e. from_here n text more to q e))

all_of : (text : List ℕ) → GoesOn text [] (tokens_of text)
all_of text = from_here (length text) text [] (gap_len text) (reached_first text) (omega arith)

chosen : (text : List ℕ) (tokens : List Token) (o : Option (List Token)) → GoesOn text [] o → AreTokens text tokens → o ≡ Some tokens
chosen text tokens (Some later) h are = ap Some (one_list text later tokens h are)
chosen text tokens None (at, kind, stop) are = absurd (not_both text tokens at kind are stop)

-- the tokens of the text
pub tokens_are : (text : List ℕ) (tokens : List Token) → AreTokens text tokens → tokens_of text ≡ Some tokens
tokens_are text tokens are = chosen text tokens (tokens_of text) (all_of text) are

none_left : (text : List ℕ) (at : ℕ) (kind : LexKind) (o : Option (List Token)) → GoesOn text [] o → LexStops text at kind → o ≡ None
none_left text at kind (Some later) are stop = absurd (not_both text later at kind are stop)
none_left text at kind None h stop = refl

-- or none, where it stops
pub tokens_stop : (text : List ℕ) (at : ℕ) (kind : LexKind) → LexStops text at kind → tokens_of text ≡ None
tokens_stop text at kind stop = none_left text at kind (tokens_of text) (all_of text) stop

given : (text : List ℕ) (o : Option (List Token)) → GoesOn text [] o → IfSome o (AreTokens text)
given text (Some later) h = h
given text None h = tt

-- what are called the text's tokens are its tokens
pub tokens_of_are : (text : List ℕ) → IfSome (tokens_of text) (AreTokens text)
tokens_of_are text = given text (tokens_of text) (all_of text)
