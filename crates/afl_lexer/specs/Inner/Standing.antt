-- What a splitter holds after the bytes of a script, and what its steps tell.
use Rattle.std.specs.Prelude.{◌≡◌, ℕ, ◌+◌, ◌-◌, ◌^◌, ◌≤◌, Bool, true, false, ◌==◌, ◌&&◌, ◌||◌, nat_lt, if◌then◌else◌}
use Rattle.std.specs.Prelude.{List, [], ◌∷◌, ◌++◌, length, Some, None}
use Rattle.afl_lexer.specs.declared.splitter.Place.{Place}
use Rattle.afl_lexer.specs.declared.splitter.Place.TheVariants.{Outside, AfterDash, InText, AfterBackslash, InComment}
use Rattle.afl_lexer.specs.declared.splitter.SplitStep.{SplitStep}
use Rattle.afl_lexer.specs.declared.splitter.SplitStep.TheVariants as step
use Rattle.afl_lexer.specs.Split.{Piece, Statement, place_after, next_place, last_piece, ends_piece, is_white, is_blank, is_too_long}

-- what a splitter holds: of the piece that it reads, or of the one that a `;` just ended
pub record Splitting : Type 0 where
  pub place : Place  -- where the next byte stands
  pub start : ℕ
  pub end : ℕ
  pub bytes : List ℕ  -- none where there are too many
  pub is_blank : Bool  -- is it blank, if a `-` at its end comes to open a comment?
  pub is_ended : Bool  -- did a `;` end it?

-- the same, with the piece behind the `;` in place of the one that it ended
abbrev pub reading : Splitting → Splitting
reading s =
    if s.is_ended then record { place = s.place; start = s.end + 1; end = s.end + 1; bytes = []; is_blank = true; is_ended = false }
    else s

-- how many bytes were pushed
abbrev pub bytes_read : Splitting → ℕ
bytes_read s = (reading s).end

-- a splitter keeps no more bytes than its piece has, and than it has room for, and its counts stay in range
pub record IsWithin (start end : ℕ) (is_ended : Bool) (len capacity : ℕ) : Type 0 where
  pub order : start ≤ end
  pub kept : len ≤ end - start
  pub limit : len ≤ 1048576
  pub room : 1048576 ≤ capacity
  pub count : end + (if is_ended then 1 else 0) ≤ 2 ^ 63

-- the bytes of a piece that a splitter keeps: none where there are too many
abbrev pub kept_bytes : Piece → List ℕ
kept_bytes piece = if is_too_long piece then [] else piece.bytes

-- a byte at this place leaves a blank piece blank, where each `-` outside comes to open a comment
abbrev pub keeps_blank : Place → ℕ → Bool
keeps_blank Outside byte = is_white byte || byte == 45
keeps_blank AfterDash byte = byte == 45
keeps_blank InText byte = false
keeps_blank AfterBackslash byte = false
keeps_blank InComment byte = true

-- a piece that may end here ends blank, if it is blank so far: no `-` waits for another
abbrev pub may_end_blank : Place → Bool
may_end_blank AfterDash = false
may_end_blank _ = true

-- a piece that is blank up to this place, and then has just these bytes, is blank
abbrev pub stays_blank : Place → List ℕ → Bool
stays_blank place [] = may_end_blank place
stays_blank place (byte ∷ rest) = keeps_blank place byte && stays_blank (next_place place byte) rest

-- a splitter that reads a piece holds what there is of it after the bytes of a script
pub record Reads (script : List ℕ) (s : Splitting) : Type 0 where
  pub place : s.place ≡ place_after script
  pub start : s.start ≡ (last_piece script).start
  pub end : s.end ≡ length script
  pub bytes : s.bytes ≡ kept_bytes (last_piece script)
  pub order : s.start ≤ s.end
  pub blank : (rest : List ℕ) → is_blank ((last_piece script).bytes ++ rest) ≡ (s.is_blank && stays_blank s.place rest)
  pub running : s.is_ended ≡ false

-- the splitter stands after the bytes of a script: it holds what one does to which just these were pushed
abbrev pub StandsAfter : List ℕ → Splitting → Type 0
StandsAfter script s = Reads script (reading s)

-- what is told of a piece that ends: too long is decided before blank
abbrev pub step_of : Piece → SplitStep
step_of piece = if is_too_long piece then step.TooLong else (if is_blank piece.bytes then step.Blank else step.Piece)

-- what is told of a byte that comes after a script
abbrev pub step_at : List ℕ → ℕ → SplitStep
step_at script byte = if ends_piece script byte then step_of (last_piece script) else step.More

-- the splitter shows this piece, without its bytes where there are too many
pub record Shows (s : Splitting) (piece : Piece) : Type 0 where
  pub start : s.start ≡ piece.start
  pub end : s.end ≡ piece.end
  pub bytes : s.bytes ≡ kept_bytes piece

-- the statement that a step tells, of the piece that the splitter then shows
abbrev pub told : SplitStep → Splitting → List Statement
told step.More s = []
told step.Blank s = []
told step.Piece s = record { start = s.start; end = s.end; text = Some s.bytes } ∷ []
told step.TooLong s = record { start = s.start; end = s.end; text = None } ∷ []

-- The splitter's own calls, on a piece that it reads

-- the piece with one byte more
abbrev pub longer : Splitting → ℕ → Splitting
longer s byte = record {
  place = next_place s.place byte;
  start = s.start;
  end = s.end + 1;
  bytes = if nat_lt 1048576 (s.end + 1 - s.start) then [] else s.bytes ++ byte ∷ [];
  is_blank = s.is_blank && keeps_blank s.place byte;
  is_ended = false;
}

-- the piece, ended by a `;`
abbrev pub ended : Splitting → Splitting
ended s = record s { place = Outside; is_ended = true }

-- what is told of it, if it ends
abbrev pub step_there : Splitting → SplitStep
step_there s =
    if nat_lt 1048576 (s.end - s.start) then step.TooLong
    else (if s.is_blank && may_end_blank s.place then step.Blank else step.Piece)
