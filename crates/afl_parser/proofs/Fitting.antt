-- What is open goes on to fit.
use Rattle.std.proofs.Common.{◌≡◌, ℕ, zero, suc, ◌+◌, ◌≤◌, ◌<◌, Bool, true, false, ◌&&◌, Option, Some, None, List, [], ◌∷◌, length, refl, arith}
use Rattle.std.specs.Prelude.{nat_le, nat_lt, if◌then◌else◌}
use Rattle.std.proofs.lemmas.Bool.{ltb-true, leb-true}
use Rattle.cell_values.specs.declared.name.Span.{Span}
use Rattle.afl_lexer.specs.declared.token.Word.TheVariants.{Not as NotWord, Null, True, False, As, Create, Array as ArrayWord}
use Rattle.afl_lexer.specs.declared.token.Symbol.TheVariants.{LeftParen, RightParen, Less, Comma, Star, Minus as MinusSign, At as AtSign}
use Rattle.afl_lexer.specs.Lexemes.{Lexeme, a_name, a_number, a_text, a_code, a_word, a_symbol, Placed}
use Rattle.schema_grammar.specs.declared.state.ShapeState.TheVariants.{Start as ShapeStart}
use Rattle.schema_grammar.specs.declared.state.ShapeStep.{ShapeStep}
use Rattle.schema_grammar.specs.declared.state.ShapeStep.TheVariants.{On, Whole, Unexpected as NoShape}
use Rattle.schema_grammar.specs.Spelling.{placed}
use Rattle.schema_grammar.specs.Inner.Reading.{shape_turn}
use Rattle.afl_trees.specs.Term.{Term, reference, star}
use Rattle.afl_trees.specs.Grammar.{line_of, line, op_of, height}
use Rattle.afl_parser.specs.Inner.Machine.{Turn, Go, Stop, want, close, ends, settle, expected, shallow, leaf_of, shaped, opening, leaf_or_open, begin, start, array_word, title, made, first, opened, dated, date, operated, named, closed, separated, joined, operated_or_joined, name_it, turn, Fits, FitsStack, FitsBelow}
use Rattle.afl_trees.specs.declared.tree.BinaryOp.{BinaryOp}
use Rattle.afl_parser.specs.declared.frame.Frame.{Frame}
use Rattle.afl_parser.specs.declared.frame.Frame.TheVariants.{Group, Not, Minus, Left, Call}
use Rattle.afl_parser.specs.declared.frame.Focus.{Focus}
use Rattle.afl_parser.specs.declared.frame.Focus.TheVariants.{Start, Array, Title, NewShape, Made, Want, First, Have, At, Naming, Shape}
use Rattle.afl_parser.proofs.Heights.{heights_of_more, one_le}

abbrev pub FitsTurn : ℕ → Turn → Type 0
FitsTurn limit (Go k f) = Fits limit k f
FitsTurn limit (Stop kind) = Unit {0}

fits_shallow : (limit : ℕ) (b : Bool) (t : Turn) → (b ≡ true → FitsTurn limit t) → FitsTurn limit (shallow b t)
fits_shallow limit true t h = h refl
fits_shallow limit false t h = tt

fits_expected : (limit : ℕ) (b : Bool) (t : Turn) → FitsTurn limit t → FitsTurn limit (expected b t)
fits_expected limit true t h = h
fits_expected limit false t h = tt

pub fits_closed : (limit : ℕ) (f : Frame) (k : List Frame) (t : Term) → FitsBelow limit (f ∷ k, t) → FitsBelow limit (k, close f t)
fits_closed limit (Group l) k t (h, (r, s)) = (omega arith, s)
fits_closed limit (Not w) k t (h, (r, s)) = (omega arith, s)
fits_closed limit (Minus w) k t (h, (r, s)) = (omega arith, s)
fits_closed limit (Left o l) k t (h, (r, s)) = (omega arith, s)
fits_closed limit (Call n b ts) k t (h, (r, s)) = (omega arith, s)

pub fits_settled : (limit : ℕ) (n : ℕ) (k : List Frame) (t : Term) → FitsBelow limit (k, t) → FitsBelow limit (settle n k t)
fits_settled limit n [] t h = h
fits_settled limit n (f ∷ k) t h = cases (ends n f) (fits_settled limit n k (close f t) (fits_closed limit f k t h))
  where
    cases : (b : Bool) → FitsBelow limit (settle n k (close f t)) → FitsBelow limit (if b then settle n k (close f t) else (f ∷ k, t))
    cases true r = r
    cases false r = h

-- a tree of one token has height 1
abbrev pub LowLeaf : Option Term → Type 0
LowLeaf (Some t) = height t ≡ 1
LowLeaf None = Unit {0}

pub low_leaf : (s : Span) (x : Lexeme) → LowLeaf (leaf_of s x)
low_leaf s (a_name n) = refl
low_leaf s (a_number n) = refl
low_leaf s (a_text x) = refl
low_leaf s (a_code zero) = refl
low_leaf s (a_code (suc c)) = refl
low_leaf s (a_word True) = refl
low_leaf s (a_word False) = refl
low_leaf s (a_word Null) = refl
low_leaf s (a_word _) = tt
low_leaf s (a_symbol x) = tt

fits_shaped : (limit : ℕ) (k : List Frame) (step : ShapeStep) → length k + 1 ≤ limit → FitsStack limit k → FitsTurn limit (shaped k step)
fits_shaped limit k (On state) h g = (h, g)
fits_shaped limit k (Whole m s) h g = (omega arith, g)
fits_shaped limit k NoShape h g = tt

-- one place more
one_more : (limit : ℕ) (k : List Frame) → nat_lt (length k) limit ≡ true → length k + 1 ≤ limit
one_more limit k e = omega (arith, ltb-true (length k) limit e)

fits_frame : (limit : ℕ) (k : List Frame) → FitsStack limit k → nat_lt (length k + 1) limit ≡ true → (length k + 2 ≤ limit) × (length k + 1 ≤ limit) × FitsStack limit k
fits_frame limit k h e = let l : length k + 1 < limit = ltb-true (length k + 1) limit e in (omega arith, omega arith, h)

fits_opening : (limit : ℕ) (k : List Frame) (s : Span) (x : Lexeme) → FitsStack limit k → FitsTurn limit (opening limit k s x)
fits_opening limit k s (a_word NotWord) h = fits_expected limit _ _ (fits_shallow limit _ (Go (Not s ∷ k) Want) (λ e. let l : length k + 1 < limit = ltb-true (length k + 1) limit e in (omega arith, (omega arith, h))))
fits_opening limit k s (a_symbol MinusSign) h = fits_shallow limit _ (Go (Minus s ∷ k) Want) (λ e. let l : length k + 1 < limit = ltb-true (length k + 1) limit e in (omega arith, (omega arith, h)))
fits_opening limit k s (a_symbol Star) h = fits_expected limit (nat_le (want k) 0) _ (fits_shallow limit (nat_lt (length k) limit) (Go k (Have (star s))) (λ e. (omega (arith, ltb-true (length k) limit e), h)))
fits_opening limit k s (a_symbol Less) h =
    fits_expected limit (nat_le (want k) 0) _ (fits_shallow limit (nat_lt (length k) limit) (shaped k (shape_turn ShapeStart (placed (a_symbol Less) s))) (λ e. (one_more limit k e, h)))
fits_opening limit k s (a_symbol LeftParen) h = fits_shallow limit _ (Go (Group s ∷ k) Want) (λ e. let l : length k + 1 < limit = ltb-true (length k + 1) limit e in (omega arith, (omega arith, h)))
fits_opening limit k s _ h = tt

fits_leaf_or_open : (limit : ℕ) (k : List Frame) (s : Span) (x : Lexeme) (leaf : Option Term) → LowLeaf leaf → FitsStack limit k → FitsTurn limit (leaf_or_open limit k s x leaf)
fits_leaf_or_open limit k s x (Some t) l h = fits_shallow limit (nat_lt (length k) limit) (Go k (Have t)) (λ e. (omega (arith, ltb-true (length k) limit e), h))
fits_leaf_or_open limit k s x None l h = fits_opening limit k s x h

fits_begin : (limit : ℕ) (k : List Frame) (s : Span) (x : Lexeme) → FitsStack limit k → FitsTurn limit (begin limit k s x)
fits_begin limit k s x h = fits_leaf_or_open limit k s x (leaf_of s x) (low_leaf s x) h

fits_start : (limit : ℕ) (k : List Frame) (s : Span) (x : Lexeme) → length k + 1 ≤ limit → FitsStack limit k → FitsTurn limit (start limit k s x)
fits_start limit k s (a_word Create) h g = (h, g)
fits_start limit k s x h g = fits_begin limit k s x g

fits_array : (limit : ℕ) (k : List Frame) (c : Span) (x : Lexeme) → length k + 1 ≤ limit → FitsStack limit k → FitsTurn limit (array_word k c x)
fits_array limit k c (a_word ArrayWord) h g = (h, g)
fits_array limit k c _ h g = tt

fits_title : (limit : ℕ) (k : List Frame) (c : Span) (x : Lexeme) → length k + 1 ≤ limit → FitsStack limit k → FitsTurn limit (title k c x)
fits_title limit k c (a_name n) h g = (h, g)
fits_title limit k c _ h g = tt

fits_made : (limit : ℕ) (k : List Frame) (c : Span) (n : List ℕ) (step : ShapeStep) → length k + 1 ≤ limit → FitsStack limit k → FitsTurn limit (made k c n step)
fits_made limit k c n (On state) h g = (h, g)
fits_made limit k c n (Whole m s) h g = (omega arith, g)
fits_made limit k c n NoShape h g = tt

fits_first : (limit : ℕ) (k : List Frame) (n : List ℕ) (b s : Span) (x : Lexeme) → length k + 1 ≤ limit → FitsStack limit k → FitsTurn limit (first limit k n b s x)
fits_first limit k n b s (a_symbol RightParen) h g = (omega arith, g)
fits_first limit k n b s x h g = fits_begin limit (Call n b [] ∷ k) s x (omega arith, g)

fits_opened : (limit : ℕ) (k : List Frame) (t : Term) → FitsBelow limit (k, t) → FitsTurn limit (opened k t)
fits_opened limit k (reference s n) h = (omega (arith, h.0), h.1)
fits_opened limit k _ h = tt

fits_dated : (limit : ℕ) (k : List Frame) (t : Term) → FitsBelow limit (k, t) → FitsTurn limit (dated k t)
fits_dated limit k (reference s n) h = (omega (arith, h.0), h.1)
fits_dated limit k _ h = tt

fits_date : (limit : ℕ) (k : List Frame) (n : List ℕ) (b s : Span) (x : Lexeme) → length k + 1 ≤ limit → FitsStack limit k → FitsTurn limit (date k n b s x)
fits_date limit k n b s (a_number v) h g = (omega arith, g)
fits_date limit k n b s _ h g = tt

fits_operated : (limit : ℕ) (o : BinaryOp) (s : List Frame × Term) → FitsBelow limit s → FitsTurn limit (operated limit o s)
fits_operated limit o (k, t) (h, s) = fits_expected limit _ _ (fits_shallow limit _ (Go (Left o t ∷ k) Want) (λ e. let l : length k + 1 + height t ≤ limit = leb-true (length k + 1 + height t) limit e in (omega (arith, one_le t), (omega arith, s))))

fits_named : (limit : ℕ) (s : List Frame × Term) → FitsBelow limit s → FitsTurn limit (named limit s)
fits_named limit (k, t) (h, s) = fits_expected limit (nat_le (want k) 0 && nat_le 1 (line t)) _ (fits_shallow limit (nat_le (length k + 1 + height t) limit) (Go k (Naming t)) (λ e. (omega (arith, leb-true (length k + 1 + height t) limit e), s)))

fits_bracket : (limit : ℕ) (k : List Frame) (t : Term) (r : Span) → FitsBelow limit (k, t) → FitsTurn limit (closed k t r)
fits_bracket limit (Group l ∷ k) t r (h, (q, s)) = (omega arith, s)
fits_bracket limit (Call n b ts ∷ k) t r (h, (q, s)) = (omega (arith, heights_of_more ts t), s)
fits_bracket limit _ t r h = tt

fits_separated : (limit : ℕ) (k : List Frame) (t : Term) → FitsBelow limit (k, t) → FitsTurn limit (separated k t)
fits_separated limit (Call n b ts ∷ k) t (h, (r, s)) = (omega (arith, one_le t), (omega (arith, heights_of_more ts t), s))
fits_separated limit _ t h = tt

fits_joined : (limit : ℕ) (k : List Frame) (t : Term) (s : Span) (x : Lexeme) → FitsBelow limit (k, t) → FitsTurn limit (joined limit k t s x)
fits_joined limit k t s (a_word As) h = fits_named limit (settle 0 k t) (fits_settled limit 0 k t h)
fits_joined limit k t s (a_symbol LeftParen) h = fits_opened limit k t h
fits_joined limit k t s (a_symbol AtSign) h = fits_dated limit k t h
fits_joined limit k t s (a_symbol RightParen) h = fits_bracket limit (settle 0 k t).0 (settle 0 k t).1 s (fits_settled limit 0 k t h)
fits_joined limit k t s (a_symbol Comma) h = fits_separated limit (settle 0 k t).0 (settle 0 k t).1 (fits_settled limit 0 k t h)
fits_joined limit k t s _ h = tt

fits_extended : (limit : ℕ) (k : List Frame) (t : Term) (s : Span) (x : Lexeme) (b : Option BinaryOp) → FitsBelow limit (k, t) → FitsTurn limit (operated_or_joined limit k t s x b)
fits_extended limit k t s x (Some o) h = fits_operated limit o (settle (line_of o) k t) (fits_settled limit (line_of o) k t h)
fits_extended limit k t s x None h = fits_joined limit k t s x h

fits_name : (limit : ℕ) (k : List Frame) (t : Term) (s : Span) (x : Lexeme) → height t + 1 + length k ≤ limit → FitsStack limit k → FitsTurn limit (name_it k t s x)
fits_name limit k t s (a_name n) h g = (omega arith, g)
fits_name limit k t s _ h g = tt

pub fits_turn : (limit : ℕ) (k : List Frame) (f : Focus) (x : Placed) → Fits limit k f → FitsTurn limit (turn limit k f x)
fits_turn limit k Start x h = fits_start limit k x.span x.what h.0 h.1
fits_turn limit k (Array c) x h = fits_array limit k c x.what h.0 h.1
fits_turn limit k (Title c) x h = fits_title limit k c x.what h.0 h.1
fits_turn limit k (NewShape c n state) x h = fits_made limit k c n (shape_turn state x) h.0 h.1
fits_turn limit k (Made t) x h = tt
fits_turn limit k Want x h = fits_begin limit k x.span x.what h.1
fits_turn limit k (First n b) x h = fits_first limit k n b x.span x.what h.0 h.1
fits_turn limit k (Have t) x h = fits_extended limit k t x.span x.what (op_of x.what) h
fits_turn limit k (At n b) x h = fits_date limit k n b x.span x.what h.0 h.1
fits_turn limit k (Naming t) x h = fits_name limit k t x.span x.what h.0 h.1
fits_turn limit k (Shape state) x h = fits_shaped limit k (shape_turn state x) h.0 h.1
