-- A splitter that stands after a script does so after one byte more, and tells the script's statements.
use Rattle.std.proofs.Common.{◌≡◌, ℕ, ◌+◌, ◌-◌, ◌≤◌, Bool, true, false, ◌==◌, ◌&&◌, nat_lt, if◌then◌else◌, List, [], ◌∷◌, ◌++◌, length, refl, sym, ◌∙◌, ap, arith, length-append, append_assoc, append-nil}
use Rattle.std.specs.Prelude.{Some, None}
use Rattle.std.specs.List.{filter_map, cons_option}
use Rattle.std.proofs.lemmas.Bool.{and_parts, eqb-true, ltb-false, le-ltb}
use Rattle.std.proofs.lemmas.List.Elements.{filter_map-append}
use Rattle.std.proofs.lemmas.List.Sums.{fold-append}
use Rattle.afl_lexer.specs.declared.splitter.Place.{Place}
use Rattle.afl_lexer.specs.declared.splitter.Place.TheVariants.{Outside, AfterDash, InText, AfterBackslash, InComment}
use Rattle.afl_lexer.specs.declared.splitter.SplitStep.TheVariants as step
use Rattle.afl_lexer.specs.Split.{Piece, place_after, next_place, is_outside, ends_piece, closed_pieces, last_piece, is_blank, is_too_long, statement_of, statements, closed_statements}
use Rattle.afl_lexer.specs.Inner.Standing.{Splitting, Reads, Shows, reading, longer, ended, kept_bytes, keeps_blank, stays_blank, step_there, step_of, step_at, told}
use Rattle.afl_lexer.proofs.PieceLemmas.{closed_same, closed_more, last_longer, last_new, pieces_are}
use Rattle.afl_lexer.proofs.BlankLemmas.{blank_by_bytes}

-- the place after one byte more
place_more : (script : List ℕ) (byte : ℕ) → place_after (script ++ byte ∷ []) ≡ next_place (place_after script) byte
place_more script byte = fold-append next_place Outside script (byte ∷ [])

-- a byte that ends a piece leaves the next one outside
outside_again : (place : Place) (byte : ℕ) → (byte == 59 && is_outside place) ≡ true → next_place place byte ≡ Outside
outside_again place byte ends =
    let parts = and_parts (byte == 59) (is_outside place) ends in
    rw (eqb-true byte 59 parts.0) (there place parts.1)
  where
    there : (place : Place) → is_outside place ≡ true → next_place place 59 ≡ Outside
    there Outside h = refl
    there AfterDash h = refl
    there InText h = cc
    there AfterBackslash h = cc
    there InComment h = cc

and_assoc : (x y z : Bool) → (x && (y && z)) ≡ ((x && y) && z)
and_assoc true y z = refl
and_assoc false y z = refl

-- the bytes that a splitter keeps of a piece, with one byte more
kept_longer : (bytes : List ℕ) (byte start end : ℕ)
    → (if nat_lt 1048576 (end + 1 - start) then [] else (if nat_lt 1048576 (end - start) then [] else bytes) ++ byte ∷ [])
    ≡ (if nat_lt 1048576 (end + 1 - start) then [] else bytes ++ byte ∷ [])
kept_longer bytes byte start end = cases (nat_lt 1048576 (end + 1 - start)) refl
  where
    cases : (t : Bool) → nat_lt 1048576 (end + 1 - start) ≡ t
        → (if t then [] else (if nat_lt 1048576 (end - start) then [] else bytes) ++ byte ∷ []) ≡ (if t then [] else bytes ++ byte ∷ [])
    cases true is = refl
    cases false is =
        let low : end + 1 - start ≤ 1048576 = ltb-false 1048576 (end + 1 - start) is in
        rw (le-ltb 1048576 (end - start) (omega arith))

-- a piece without bytes has none to keep
none_kept : (at : ℕ) → kept_bytes (record { start = at; end = at; bytes = [] }) ≡ []
none_kept at = let none : at - at ≡ 0 = omega arith in rw none

-- what is told of a piece that a splitter shows is its statement
tells : (piece : Piece) (s : Splitting) → Shows s piece → filter_map statement_of (piece ∷ []) ≡ told (step_of piece) s
tells piece s shows = by_length (is_too_long piece) shows.bytes
  where
    by_blank : (blank : Bool) → s.bytes ≡ piece.bytes
        → cons_option (if blank then None else Some (record { start = piece.start; end = piece.end; text = Some piece.bytes })) [] ≡ told (if blank then step.Blank else step.Piece) s
    by_blank true is = refl
    by_blank false is = rw (shows.start, shows.end, is)

    by_length : (long : Bool) → s.bytes ≡ (if long then [] else piece.bytes)
        → cons_option (if long then Some (record { start = piece.start; end = piece.end; text = None })
        else (if is_blank piece.bytes then None else Some (record { start = piece.start; end = piece.end; text = Some piece.bytes }))) []
        ≡ told (if long then step.TooLong else (if is_blank piece.bytes then step.Blank else step.Piece)) s
    by_length true is = rw (shows.start, shows.end)
    by_length false is = by_blank (is_blank piece.bytes) is

pub reads_nothing : Reads [] (record { place = Outside; start = 0; end = 0; bytes = []; is_blank = true; is_ended = false })
reads_nothing = record {
  place = refl;
  start = refl;
  end = refl;
  bytes = refl;
  order = omega arith;
  blank = blank_by_bytes;
  running = refl;
}

module _ (script : List ℕ) (s : Splitting) (reads : Reads script s) where
  pub shows_last : Shows s (last_piece script)
  shows_last = record { start = reads.start; end = reads.end; bytes = reads.bytes }

  pub step_is : step_there s ≡ step_of (last_piece script)
  step_is =
      let blank : is_blank (last_piece script).bytes ≡ (s.is_blank && stays_blank s.place []) =
      ap is_blank (sym (append-nil (last_piece script).bytes)) ∙ reads.blank [] in
      rw (reads.start, reads.end, ← blank)

  pub rest_told : statements script ≡ closed_statements script ++ told (step_there s) s
  rest_told =
      ap (filter_map statement_of) (pieces_are script)
      ∙ filter_map-append statement_of (closed_pieces script) (last_piece script ∷ [])
      ∙ ap (λ l. closed_statements script ++ l) (tells (last_piece script) s shows_last ∙ ap (λ t. told t s) (sym step_is))

  module _ (byte : ℕ) where
    ends_is : ends_piece script byte ≡ (byte == 59 && is_outside s.place)
    ends_is = rw reads.place

    pub end_stands : (byte == 59 && is_outside s.place) ≡ true → Reads (script ++ byte ∷ []) (reading (ended s))
    end_stands ends =
        let last = last_new script byte (ends_is ∙ ends) in
        let at : s.end + 1 ≡ length script + 1 = ap (λ n. n + 1) reads.end in
        record {
          place = sym (place_more script byte ∙ rw (← reads.place) (outside_again s.place byte ends));
          start = at ∙ sym (ap (λ p. p.start) last);
          end = at ∙ sym (length-append script (byte ∷ []));
          bytes = sym (ap kept_bytes last ∙ none_kept (length script + 1));
          order = omega arith;
          blank = λ rest. ap (λ (p : Piece). is_blank (p.bytes ++ rest)) last ∙ blank_by_bytes rest;
          running = refl;
        }

    pub end_step : (byte == 59 && is_outside s.place) ≡ true → step_there s ≡ step_at script byte
    end_step ends = rw (ends_is ∙ ends) step_is

    pub end_told : (byte == 59 && is_outside s.place) ≡ true → closed_statements (script ++ byte ∷ []) ≡ closed_statements script ++ told (step_there s) (ended s)
    end_told ends =
        ap (filter_map statement_of) (closed_more script byte (ends_is ∙ ends))
        ∙ filter_map-append statement_of (closed_pieces script) (last_piece script ∷ [])
        ∙ ap (λ l. closed_statements script ++ l) (tells (last_piece script) (ended s) (record { start = reads.start; end = reads.end; bytes = reads.bytes }) ∙ ap (λ t. told t (ended s)) (sym step_is))

    pub more_stands : (byte == 59 && is_outside s.place) ≡ false → Reads (script ++ byte ∷ []) (longer s byte)
    more_stands more =
        let last = last_longer script byte (ends_is ∙ more) in
        let kept : (longer s byte).bytes ≡ kept_bytes (record { start = (last_piece script).start; end = length script + 1; bytes = (last_piece script).bytes ++ byte ∷ [] }) =
        rw (reads.end, reads.bytes, reads.start) (kept_longer (last_piece script).bytes byte (last_piece script).start (length script)) in
        record {
          place = rw reads.place (sym (place_more script byte));
          start = reads.start ∙ sym (ap (λ p. p.start) last);
          end = rw reads.end (sym (length-append script (byte ∷ [])));
          bytes = kept ∙ sym (ap kept_bytes last);
          order = omega (arith, reads.order);
          blank = λ rest.
              ap (λ (p : Piece). is_blank (p.bytes ++ rest)) last
              ∙ ap is_blank (append_assoc (last_piece script).bytes (byte ∷ []) rest)
              ∙ reads.blank (byte ∷ rest) ∙ and_assoc s.is_blank (keeps_blank s.place byte) (stays_blank (next_place s.place byte) rest);
          running = refl;
        }

    pub more_step : (byte == 59 && is_outside s.place) ≡ false → step.More ≡ step_at script byte
    more_step more = rw (ends_is ∙ more)

    pub more_told : (byte == 59 && is_outside s.place) ≡ false → closed_statements (script ++ byte ∷ []) ≡ closed_statements script ++ []
    more_told more = ap (filter_map statement_of) (closed_same script byte (ends_is ∙ more)) ∙ sym (append-nil (closed_statements script))
