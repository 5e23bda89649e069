-- The steps of the reader: what it has open, and what one more token does to it.
use Rattle.std.specs.Prelude.{ℕ, zero, suc, ◌+◌, ◌≤◌, Bool, true, false, ◌&&◌, nat_le, nat_lt, if◌then◌else◌, Option, Some, None, List, [], ◌∷◌, ◌++◌, length}
use Rattle.cell_values.specs.declared.name.Span.{Span}
use Rattle.afl_lexer.specs.Lexemes.{Lexeme, a_name, a_number, a_text, a_code, a_word, a_symbol, Placed}
use Rattle.afl_lexer.specs.declared.token.Word.TheVariants.{Not as NotWord, Null, True, False, As, Create, Array as ArrayWord}
use Rattle.afl_lexer.specs.declared.token.Symbol.TheVariants.{LeftParen, RightParen, Less, Comma, Star, Minus as MinusSign, At as AtSign}
use Rattle.schema_grammar.specs.declared.state.ShapeState.TheVariants.{Start as ShapeStart}
use Rattle.schema_grammar.specs.declared.state.ShapeStep.{ShapeStep}
use Rattle.schema_grammar.specs.declared.state.ShapeStep.TheVariants.{On, Whole, Unexpected as NoShape}
use Rattle.schema_grammar.specs.Spelling.{placed, across}
use Rattle.schema_grammar.specs.Inner.Reading.{shape_turn}
use Rattle.afl_trees.specs.Term.{Term, create, number, text, truth, null, missing, reference, version, call}
use Rattle.afl_trees.specs.Term.{schema, star, renamed, opposite, negative, binary, group, no_terms, to_terms}
use Rattle.afl_trees.specs.Grammar.{line_of, left_line, right_line, op_of, line, height, heights, span_of}
use Rattle.afl_trees.specs.declared.tree.BinaryOp.{BinaryOp}
use Rattle.afl_trees.specs.declared.kind.StopKind.{StopKind}
use Rattle.afl_trees.specs.declared.kind.StopKind.TheVariants.{Unexpected, TooDeep}
use Rattle.afl_parser.specs.declared.frame.Frame.{Frame}
use Rattle.afl_parser.specs.declared.frame.Frame.TheVariants.{Group, Not, Minus, Left, Call}
use Rattle.afl_parser.specs.declared.frame.Focus.{Focus}
use Rattle.afl_parser.specs.declared.frame.Focus.TheVariants.{Start, Array, Title, NewShape, Made, Want, First, Have, At, Naming, Shape}

-- the reader goes on, or the token cannot stand here
pub data Turn : Type 0 where
  Go : List Frame → Focus → Turn
  Stop : StopKind → Turn

-- the line that an open node wants of its last child
abbrev pub wanted : Frame → ℕ
wanted (Group l) = 1
wanted (Not w) = 3
wanted (Minus w) = 7
wanted (Left o l) = right_line o
wanted (Call n b ts) = 0

abbrev pub want : List Frame → ℕ
want [] = 1
want (f ∷ k) = wanted f

-- the open node with its last child, where no bracket has to follow
abbrev pub close : Frame → Term → Term
close (Group l) t = t
close (Not w) t = opposite (across w (span_of t)) t
close (Minus w) t = negative (across w (span_of t)) t
close (Left o l) t = binary (across (span_of l) (span_of t)) o l t
close (Call n b ts) t = t

-- whether a node of this line cannot go below the open one, which then ends before it
abbrev pub ends : ℕ → Frame → Bool
ends n (Group l) = false
ends n (Not w) = nat_lt n 3
ends n (Minus w) = nat_lt n 7
ends n (Left o l) = nat_lt n (right_line o)
ends n (Call m b ts) = false

-- the open nodes and the tree, after those have ended that a node of this line ends
abbrev pub settle : ℕ → List Frame → Term → List Frame × Term
settle n [] t = ([], t)
settle n (f ∷ k) t = if ends n f then settle n k (close f t) else (f ∷ k, t)

abbrev pub expected : Bool → Turn → Turn
expected true turn = turn
expected false turn = Stop Unexpected

abbrev pub shallow : Bool → Turn → Turn
shallow true turn = turn
shallow false turn = Stop TooDeep

-- a code's tree: `?0` is null
abbrev pub code_leaf : Span → ℕ → Term
code_leaf s zero = null s
code_leaf s (suc c) = missing s (suc c)

-- the tree that one token is
abbrev pub leaf_of : Span → Lexeme → Option Term
leaf_of s (a_name n) = Some (reference s n)
leaf_of s (a_number n) = Some (number s n)
leaf_of s (a_text x) = Some (text s x)
leaf_of s (a_code c) = Some (code_leaf s c)
leaf_of s (a_word True) = Some (truth s true)
leaf_of s (a_word False) = Some (truth s false)
leaf_of s (a_word Null) = Some (null s)
leaf_of s _ = None

-- in a schema that is an argument
abbrev pub shaped : List Frame → ShapeStep → Turn
shaped k (On state) = Go k (Shape state)
shaped k (Whole m s) = Go k (Have (schema s m))
shaped k NoShape = Stop Unexpected

-- before an operand, where the token is no tree of its own
abbrev pub opening : ℕ → List Frame → Span → Lexeme → Turn
opening limit k s (a_word NotWord) = expected (nat_le (want k) 3) (shallow (nat_lt (length k + 1) limit) (Go (Not s ∷ k) Want))
opening limit k s (a_symbol MinusSign) = shallow (nat_lt (length k + 1) limit) (Go (Minus s ∷ k) Want)
opening limit k s (a_symbol Star) = expected (nat_le (want k) 0) (shallow (nat_lt (length k) limit) (Go k (Have (star s))))
opening limit k s (a_symbol Less) = expected (nat_le (want k) 0)
    (shallow (nat_lt (length k) limit) (shaped k (shape_turn ShapeStart (placed (a_symbol Less) s))))
opening limit k s (a_symbol LeftParen) = shallow (nat_lt (length k + 1) limit) (Go (Group s ∷ k) Want)
opening limit k s _ = Stop Unexpected

abbrev pub leaf_or_open : ℕ → List Frame → Span → Lexeme → Option Term → Turn
leaf_or_open limit k s x (Some t) = shallow (nat_lt (length k) limit) (Go k (Have t))
leaf_or_open limit k s x None = opening limit k s x

-- before an operand
abbrev pub begin : ℕ → List Frame → Span → Lexeme → Turn
begin limit k s x = leaf_or_open limit k s x (leaf_of s x)

-- at the start of a statement
abbrev pub start : ℕ → List Frame → Span → Lexeme → Turn
start limit k s (a_word Create) = Go k (Array s)
start limit k s x = begin limit k s x

-- behind `create`
abbrev pub array_word : List Frame → Span → Lexeme → Turn
array_word k c (a_word ArrayWord) = Go k (Title c)
array_word k c _ = Stop Unexpected

-- behind `create array`
abbrev pub title : List Frame → Span → Lexeme → Turn
title k c (a_name n) = Go k (NewShape c n ShapeStart)
title k c _ = Stop Unexpected

-- in the schema behind `create array` and a name
abbrev pub made : List Frame → Span → List ℕ → ShapeStep → Turn
made k c n (On state) = Go k (NewShape c n state)
made k c n (Whole m s) = Go k (Made (create (across c s) n m))
made k c n NoShape = Stop Unexpected

-- behind a call's bracket
abbrev pub first : ℕ → List Frame → List ℕ → Span → Span → Lexeme → Turn
first limit k n b s (a_symbol RightParen) = Go k (Have (call (across b s) n no_terms))
first limit k n b s x = begin limit (Call n b [] ∷ k) s x

abbrev pub reference_of : Term → Option (List ℕ)
reference_of (reference s n) = Some n
reference_of _ = None

abbrev pub called : List Frame → Span → Option (List ℕ) → Turn
called k s (Some n) = Go k (First n s)
called k s None = Stop Unexpected

abbrev pub opened : List Frame → Term → Turn
opened k t = called k (span_of t) (reference_of t)

abbrev pub marked : List Frame → Span → Option (List ℕ) → Turn
marked k s (Some n) = Go k (At n s)
marked k s None = Stop Unexpected

-- `@` behind a tree
abbrev pub dated : List Frame → Term → Turn
dated k t = marked k (span_of t) (reference_of t)

-- behind `@`
abbrev pub date : List Frame → List ℕ → Span → Span → Lexeme → Turn
date k n b s (a_number v) = Go k (Have (version (across b s) n v))
date k n b s _ = Stop Unexpected

abbrev pub operated : ℕ → BinaryOp → List Frame × Term → Turn
operated limit o (k, t) = expected (nat_le (want k) (line_of o) && nat_le (left_line o) (line t))
    (shallow (nat_le (length k + 1 + height t) limit) (Go (Left o t ∷ k) Want))

abbrev pub named : ℕ → List Frame × Term → Turn
named limit (k, t) = expected (nat_le (want k) 0 && nat_le 1 (line t))
    (shallow (nat_le (length k + 1 + height t) limit) (Go k (Naming t)))

abbrev pub closed : List Frame → Term → Span → Turn
closed (Group l ∷ k) t r = Go k (Have (group (across l r) t))
closed (Call n b ts ∷ k) t r = Go k (Have (call (across b r) n (to_terms (ts ++ t ∷ []))))
closed _ t r = Stop Unexpected

abbrev pub separated : List Frame → Term → Turn
separated (Call n b ts ∷ k) t = Go (Call n b (ts ++ t ∷ []) ∷ k) Want
separated _ t = Stop Unexpected

-- behind a tree, where the token is no operator
abbrev pub joined : ℕ → List Frame → Term → Span → Lexeme → Turn
joined limit k t s (a_word As) = named limit (settle 0 k t)
joined limit k t s (a_symbol LeftParen) = opened k t
joined limit k t s (a_symbol AtSign) = dated k t
joined limit k t s (a_symbol RightParen) = closed (settle 0 k t).0 (settle 0 k t).1 s
joined limit k t s (a_symbol Comma) = separated (settle 0 k t).0 (settle 0 k t).1
joined limit k t s _ = Stop Unexpected

abbrev pub operated_or_joined : ℕ → List Frame → Term → Span → Lexeme → Option BinaryOp → Turn
operated_or_joined limit k t s x (Some o) = operated limit o (settle (line_of o) k t)
operated_or_joined limit k t s x None = joined limit k t s x

-- behind a tree
abbrev pub extend : ℕ → List Frame → Term → Span → Lexeme → Turn
extend limit k t s x = operated_or_joined limit k t s x (op_of x)

-- behind `as`
abbrev pub name_it : List Frame → Term → Span → Lexeme → Turn
name_it k t s (a_name n) = Go k (Have (renamed (across (span_of t) s) t n))
name_it k t s _ = Stop Unexpected

abbrev pub turn : ℕ → List Frame → Focus → Placed → Turn
turn limit k Start x = start limit k x.span x.what
turn limit k (Array c) x = array_word k c x.what
turn limit k (Title c) x = title k c x.what
turn limit k (NewShape c n state) x = made k c n (shape_turn state x)
turn limit k (Made t) x = Stop Unexpected
turn limit k Want x = begin limit k x.span x.what
turn limit k (First n b) x = first limit k n b x.span x.what
turn limit k (Have t) x = extend limit k t x.span x.what
turn limit k (At n b) x = date k n b x.span x.what
turn limit k (Naming t) x = name_it k t x.span x.what
turn limit k (Shape state) x = shaped k (shape_turn state x)

-- the whole tree, where nothing is open
abbrev pub whole : List Frame × Term → Option Term
whole ([], t) = Some t
whole (f ∷ k, t) = None

abbrev pub finished : List Frame → Focus → Option Term
finished k (Have t) = whole (settle 0 k t)
finished k (Made t) = Some t
finished k _ = None

abbrev pub go_on : Turn → (List Frame → Focus → Turn) → Turn
go_on (Go k f) next = next k f
go_on (Stop kind) next = Stop kind

-- token after token
abbrev pub run : ℕ → List Frame → Focus → List Placed → Turn
run limit k f [] = Go k f
run limit k f (x ∷ xs) = go_on (turn limit k f x) (λ k f. run limit k f xs)

abbrev pub finish : Turn → Option Term
finish (Go k f) = finished k f
finish (Stop kind) = None

-- the tree that the reader comes to
abbrev pub verdict : ℕ → List Frame → Focus → List Placed → Option Term
verdict limit k f xs = finish (run limit k f xs)

-- What is open fits: with every node at its least, no tree is higher than the limit.
abbrev pub frame_height : Frame → ℕ
frame_height (Left o l) = height l
frame_height (Call n b ts) = heights (to_terms ts)
frame_height _ = 0

abbrev pub FitsStack : ℕ → List Frame → Type 0
FitsStack limit [] = Unit {0}
FitsStack limit (f ∷ k) = (frame_height f + length k + 1 ≤ limit) × FitsStack limit k

abbrev pub Fits : ℕ → List Frame → Focus → Type 0
Fits limit k (Have t) = (height t + length k ≤ limit) × FitsStack limit k
Fits limit k (Naming t) = (height t + 1 + length k ≤ limit) × FitsStack limit k
Fits limit k (Made t) = (height t ≤ limit) × FitsStack limit k
Fits limit k _ = (length k + 1 ≤ limit) × FitsStack limit k

-- a tree below what is open
abbrev pub FitsBelow : ℕ → List Frame × Term → Type 0
FitsBelow limit (k, t) = (height t + length k ≤ limit) × FitsStack limit k
