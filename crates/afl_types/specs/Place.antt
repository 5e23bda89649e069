-- Where the name of a new array stands in the text: it is the third token of `create array N`, behind two words and two gaps.
use Rattle.std.specs.Prelude.{ℕ, ◌+◌, min, List, length, drop}
use Rattle.cell_values.specs.declared.name.Span.{Span}
use Rattle.afl_lexer.specs.Scan.{gap_len}

-- the place behind the gap, if any, at a place
abbrev pub behind_gap : List ℕ → ℕ → ℕ
behind_gap text at = at + gap_len (drop at text)

-- behind `create`, a gap, `array` and a gap
abbrev pub third_token : List ℕ → ℕ → ℕ
third_token text start = behind_gap text (behind_gap text (start + 6) + 5)

-- the bytes of the name from there on. A place has 32 bits, and a greater one is told as the greatest
abbrev pub created_place : List ℕ → Span → List ℕ → Span
created_place text s name = record { start = min (third_token text s.start) 4294967295; end = min (third_token text s.start + length name) 4294967295 }
