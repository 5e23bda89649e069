-- The tokens of a text as one value.
use Rattle.std.specs.Prelude.{ℕ, zero, suc, ◌+◌, ◌==◌, if◌then◌else◌, Option, Some, None, List, [], ◌∷◌, length, drop}
use Rattle.std.specs.Option.{option_map}
use Rattle.afl_lexer.specs.Scan.{gap_len, reading_of}
use Rattle.afl_lexer.specs.declared.token.Token.{Token}
use Rattle.afl_lexer.specs.declared.token.TokenKind.{TokenKind}
use Rattle.afl_lexer.specs.declared.reading.Reading.{Reading}
use Rattle.afl_lexer.specs.declared.reading.Reading.TheVariants.{Found, Wrong}

abbrev pub token_from : TokenKind → ℕ → ℕ → Token
token_from kind start end = record { kind = kind; span = record { start = start; end = end } }

-- a token that is found at the place, and those behind it and a gap, or none where none is found
abbrev pub found_then : Reading → List ℕ → ℕ → (ℕ → Option (List Token)) → Option (List Token)
found_then (Found kind n) text at rest = option_map (λ tokens. token_from kind at (at + n) ∷ tokens) (rest (at + n + gap_len (drop (at + n) text)))
found_then (Wrong kind n) text at rest = None

-- the tokens from a place on, where a token begins or the text ends, if there are no more than so many
abbrev pub tokens_from : ℕ → List ℕ → ℕ → Option (List Token)
tokens_from zero text at = Some []
tokens_from (suc n) text at = if at == length text then Some [] else found_then (reading_of (drop at text)) text at (tokens_from n text)

-- The tokens of the text, or none where it stops to have any. A text has no more tokens than bytes.
abbrev pub tokens_of : List ℕ → Option (List Token)
tokens_of text = tokens_from (length text) text (gap_len text)
