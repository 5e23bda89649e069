-- Where the reader stops, the grammar does.
use Rattle.std.proofs.Common.{◌≡◌, ℕ, suc, pos, ◌+◌, ◌-◌, ◌≤◌, ◌<◌, Bool, true, false, ◌&&◌, Option, Some, None, List, [], ◌∷◌, ◌++◌, length, take, drop, refl, sym, ap, subst, ◌∙◌, arith, append_assoc}
use Rattle.std.specs.Prelude.{nat_le, nat_lt}
use Rattle.std.proofs.lemmas.Bool.{ltb-true, leb-true, lt-ltb, le-leb}
use Rattle.std.proofs.lemmas.List.{take-append-drop, append-nil, length-drop}
use Rattle.std.proofs.Math.Seq.{take-add, take-length, drop-length}
use Rattle.cell_values.specs.declared.name.Span.{Span}
use Rattle.afl_lexer.specs.declared.token.Word.TheVariants.{Not as NotWord, As, Create, Array as ArrayWord}
use Rattle.afl_lexer.specs.declared.token.Symbol.TheVariants.{LeftParen, RightParen, Less, Comma, Star, Minus as MinusSign, At as AtSign}
use Rattle.afl_lexer.specs.Lexemes.{Lexeme, a_name, a_number, a_word, a_symbol, Placed}
use Rattle.schema_grammar.specs.declared.state.ShapeState.{ShapeState}
use Rattle.schema_grammar.specs.declared.state.ShapeState.TheVariants.{Start as ShapeStart}
use Rattle.schema_grammar.specs.declared.state.ShapeStep.{ShapeStep}
use Rattle.schema_grammar.specs.declared.state.ShapeStep.TheVariants.{On, Whole, Unexpected as NoShape}
use Rattle.schema_grammar.specs.Spelling.{placed, across}
use Rattle.schema_grammar.specs.Inner.Reading.{shape_turn}
use Rattle.schema_grammar.proofs.ShapeEnds.{shape_enders, Ends, shape_ends}
use Rattle.afl_trees.specs.Term.{Term, create, number, reference, version, call, schema, star, renamed, group, no_terms, to_terms}
use Rattle.afl_trees.specs.Grammar.{line_of, left_line, op_of, line, span_of, height, IsStatement, IsFront, IsKind, StopsBefore, Stops}
use Rattle.afl_parser.specs.Inner.Machine.{Turn, Go, Stop, want, close, ends, settle, expected, shallow, leaf_of, shaped, opening, leaf_or_open, begin, start, array_word, title, made, first, opened, dated, date, operated, named, closed, separated, joined, operated_or_joined, turn, name_it, verdict, run, go_on, finish, finished, Fits}
use Rattle.afl_trees.specs.declared.tree.BinaryOp.{BinaryOp}
use Rattle.afl_trees.specs.declared.kind.StopKind.{StopKind}
use Rattle.afl_trees.specs.declared.kind.StopKind.TheVariants.{Unexpected, TooDeep}
use Rattle.afl_parser.specs.declared.frame.Frame.{Frame}
use Rattle.afl_parser.specs.declared.frame.Frame.TheVariants.{Group, Not, Minus, Left, Call}
use Rattle.afl_parser.specs.declared.frame.Focus.{Focus}
use Rattle.afl_parser.specs.declared.frame.Focus.TheVariants.{Start, Array, Title, NewShape, Made, Want, First, Have, At, Naming, Shape}
use Rattle.afl_parser.proofs.Settling.{Past, past, zero_lt_right}
use Rattle.afl_parser.proofs.Complete.{after_shape, after_new_shape, shape_verdict, new_shape_verdict, read_again}
use Rattle.afl_parser.proofs.Fitting.{FitsTurn, fits_turn}
use Rattle.afl_parser.proofs.Sound.{read_is_statement}

-- What is open can be closed.

abbrev nowhere : Span
nowhere = record { start = 0; end = 0 }

-- the name `a`
abbrev name_a : List ℕ
name_a = 97 ∷ []

-- the brackets that close what is open
abbrev closers : List Frame → List Placed
closers [] = []
closers (Group l ∷ k) = placed (a_symbol RightParen) nowhere ∷ closers k
closers (Not w ∷ k) = closers k
closers (Minus w ∷ k) = closers k
closers (Left o l ∷ k) = closers k
closers (Call n b ts ∷ k) = placed (a_symbol RightParen) nowhere ∷ closers k

past_closers : (f : Frame) (k : List Frame) → ends 0 f ≡ true → Past f (closers k)
past_closers f [] e = e
past_closers f (Group l ∷ k) e = e
past_closers f (Not w ∷ k) e = past_closers f k e
past_closers f (Minus w ∷ k) e = past_closers f k e
past_closers f (Left o l ∷ k) e = past_closers f k e
past_closers f (Call n b ts ∷ k) e = e

can_close : (limit : ℕ) (k : List Frame) (t : Term) → (u : Term) × (verdict limit k (Have t) (closers k) ≡ Some u)
can_close limit [] t = (t, refl)
can_close limit (Group l ∷ k) t = can_close limit k (group (across l nowhere) t)
can_close limit (Not w ∷ k) t =
    let r = can_close limit k (close (Not w) t) in (r.0, past limit (Not w) k t (closers k) (past_closers (Not w) k refl) ∙ r.1)
can_close limit (Minus w ∷ k) t =
    let r = can_close limit k (close (Minus w) t) in (r.0, past limit (Minus w) k t (closers k) (past_closers (Minus w) k refl) ∙ r.1)
can_close limit (Left o l ∷ k) t =
    let r = can_close limit k (close (Left o l) t) in (r.0, past limit (Left o l) k t (closers k) (past_closers (Left o l) k (zero_lt_right o)) ∙ r.1)
can_close limit (Call n b ts ∷ k) t = can_close limit k (call (across b nowhere) n (to_terms (ts ++ t ∷ [])))

abbrev CanFinish : ℕ → List Frame → Focus → Type 0
CanFinish limit k f = (zs : List Placed) × (u : Term) × (verdict limit k f zs ≡ Some u)

shape_can_finish : (limit : ℕ) (k : List Frame) (state : ShapeState) → Ends state (closers k) → CanFinish limit k (Shape state)
shape_can_finish limit k state (m, s, e) =
    let r = can_close limit k (schema s m) in
    (shape_enders state (closers k), r.0, shape_verdict limit k (shape_enders state (closers k)) state ∙ ap (after_shape limit k) e ∙ r.1)

new_shape_can_finish : (limit : ℕ) (k : List Frame) (c : Span) (n : List ℕ) (state : ShapeState) → Ends state [] → CanFinish limit k (NewShape c n state)
new_shape_can_finish limit k c n state (m, s, e) =
    (shape_enders state [], create (across c s) n m, new_shape_verdict limit k c n (shape_enders state []) state ∙ ap (after_new_shape limit k c n) e)

-- a number finishes an operand
number_finishes : (limit : ℕ) (k : List Frame) → length k + 1 ≤ limit → (u : Term) × (verdict limit k Want (placed (a_number (pos 0)) nowhere ∷ closers k) ≡ Some u)
number_finishes limit k h =
    let t : Term = number nowhere (pos 0) in
    let r = can_close limit k t in
    (r.0, ap (λ b. finish (go_on (shallow b (Go k (Have t))) (λ j g. run limit j g (closers k)))) (lt-ltb (length k) limit (omega arith)) ∙ r.1)

can_finish : (limit : ℕ) (k : List Frame) (f : Focus) → Fits limit k f → CanFinish limit k f
can_finish limit k Start h = let r = number_finishes limit k h.0 in (placed (a_number (pos 0)) nowhere ∷ closers k, r.0, r.1)
can_finish limit k (Array c) h =
    let r = new_shape_can_finish limit k c name_a ShapeStart (shape_ends ShapeStart []) in (placed (a_word ArrayWord) nowhere ∷ placed (a_name name_a) nowhere ∷ r.0, r.1, r.2)
can_finish limit k (Title c) h =
    let r = new_shape_can_finish limit k c name_a ShapeStart (shape_ends ShapeStart []) in (placed (a_name name_a) nowhere ∷ r.0, r.1, r.2)
can_finish limit k (NewShape c n state) h = new_shape_can_finish limit k c n state (shape_ends state [])
can_finish limit k (Made t) h = ([], t, refl)
can_finish limit k Want h = let r = number_finishes limit k h.0 in (placed (a_number (pos 0)) nowhere ∷ closers k, r.0, r.1)
can_finish limit k (First n b) h = let r = can_close limit k (call (across b nowhere) n no_terms) in (placed (a_symbol RightParen) nowhere ∷ closers k, r.0, r.1)
can_finish limit k (Have t) h = let r = can_close limit k t in (closers k, r.0, r.1)
can_finish limit k (At n b) h = let r = can_close limit k (version (across b nowhere) n (pos 0)) in (placed (a_number (pos 0)) nowhere ∷ closers k, r.0, r.1)
can_finish limit k (Naming t) h = let r = can_close limit k (renamed (across (span_of t) nowhere) t name_a) in (placed (a_name name_a) nowhere ∷ closers k, r.0, r.1)
can_finish limit k (Shape state) h = shape_can_finish limit k state (shape_ends state (closers k))

-- Runs.

run_step : (limit : ℕ) (xs ys : List Placed) (t : Turn)
    → ((k : List Frame) (f : Focus) → run limit k f (xs ++ ys) ≡ go_on (run limit k f xs) (λ k f. run limit k f ys))
    → go_on t (λ k f. run limit k f (xs ++ ys)) ≡ go_on (go_on t (λ k f. run limit k f xs)) (λ k f. run limit k f ys)
run_step limit xs ys (Go k f) h = h k f
run_step limit xs ys (Stop kind) h = refl

pub run_append : (limit : ℕ) (xs ys : List Placed) (k : List Frame) (f : Focus) → run limit k f (xs ++ ys) ≡ go_on (run limit k f xs) (λ k f. run limit k f ys)
run_append limit [] ys k f = refl
run_append limit (x ∷ xs) ys k f = run_step limit xs ys (turn limit k f x) (λ k f. run_append limit xs ys k f)

fits_go_on : (limit : ℕ) (xs : List Placed) (t : Turn) → FitsTurn limit t → ((k : List Frame) (f : Focus) → Fits limit k f → FitsTurn limit (run limit k f xs)) → FitsTurn limit (go_on t (λ k f. run limit k f xs))
fits_go_on limit xs (Go k f) h later = later k f h
fits_go_on limit xs (Stop kind) h later = tt

pub fits_run : (limit : ℕ) (xs : List Placed) (k : List Frame) (f : Focus) → Fits limit k f → FitsTurn limit (run limit k f xs)
fits_run limit [] k f h = h
fits_run limit (x ∷ xs) k f h = fits_go_on limit xs (turn limit k f x) (fits_turn limit k f x h) (λ k f h. fits_run limit xs k f h)

-- what the reader has gone over is a front
is_front : (limit : ℕ) (p : List Placed) (k : List Frame) (f : Focus) → 1 ≤ limit → run limit [] Start p ≡ Go k f → IsFront limit p
is_front limit p k f h e =
    let fits : Fits limit k f = subst (FitsTurn limit) e (fits_run limit p [] Start (omega arith, tt)) in
    let r = can_finish limit k f fits in (
      r.0,
      r.1,
      read_is_statement limit (p ++ r.0) r.1 h
          (ap finish (run_append limit p r.0 [] Start ∙ ap (λ t. go_on t (λ k f. run limit k f r.0)) e) ∙ r.2),
    )

-- where it stops there is none
no_front : (limit : ℕ) (p : List Placed) (kind : StopKind) → run limit [] Start p ≡ Stop kind → IsFront limit p → ⊥
no_front limit p kind e (more, t, s) =
    let stopped : verdict limit [] Start (p ++ more) ≡ None = ap finish (run_append limit p more [] Start ∙ ap (λ t. go_on t (λ k f. run limit k f more)) e) in
    let read : verdict limit [] Start (p ++ more) ≡ Some t = read_again limit (p ++ more) t s in
    cc

-- A greater limit.

-- the same turn, unless it was too deep
abbrev AsDeep : Turn → Turn → Type 0
AsDeep (Go k f) u = u ≡ Go k f
AsDeep (Stop Unexpected) u = u ≡ Stop Unexpected
AsDeep (Stop TooDeep) u = Unit {0}

same_deep : (t : Turn) → AsDeep t t
same_deep (Go k f) = refl
same_deep (Stop Unexpected) = refl
same_deep (Stop TooDeep) = tt

deeper_shallow : (b c : Bool) (k : List Frame) (f : Focus) → (b ≡ true → c ≡ true) → AsDeep (shallow b (Go k f)) (shallow c (Go k f))
deeper_shallow true c k f h = ap (λ v. shallow v (Go k f)) (h refl)
deeper_shallow false c k f h = tt

deeper_shaped : (b c : Bool) (k : List Frame) (step : ShapeStep) → (b ≡ true → c ≡ true) → AsDeep (shallow b (shaped k step)) (shallow c (shaped k step))
deeper_shaped true c k (On state) h = ap (λ v. shallow v (Go k (Shape state))) (h refl)
deeper_shaped true c k (Whole m s) h = ap (λ v. shallow v (Go k (Have (schema s m)))) (h refl)
deeper_shaped true c k NoShape h = ap (λ v. shallow v (Stop Unexpected)) (h refl)
deeper_shaped false c k step h = tt

deeper_expected : (b : Bool) (t u : Turn) → AsDeep t u → AsDeep (expected b t) (expected b u)
deeper_expected true t u h = h
deeper_expected false t u h = refl

deeper_lt : (a n m : ℕ) → n ≤ m → nat_lt a n ≡ true → nat_lt a m ≡ true
deeper_lt a n m h e = lt-ltb a m (omega (arith, ltb-true a n e))

deeper_le : (a n m : ℕ) → n ≤ m → nat_le a n ≡ true → nat_le a m ≡ true
deeper_le a n m h e = le-leb a m (omega (arith, leb-true a n e))

deeper_opening : (n m : ℕ) (k : List Frame) (s : Span) (x : Lexeme) → n ≤ m → AsDeep (opening n k s x) (opening m k s x)
deeper_opening n m k s (a_word NotWord) h = deeper_expected (nat_le (want k) 3) _ _ (deeper_shallow _ _ (Not s ∷ k) Want (deeper_lt (length k + 1) n m h))
deeper_opening n m k s (a_symbol MinusSign) h = deeper_shallow _ _ (Minus s ∷ k) Want (deeper_lt (length k + 1) n m h)
deeper_opening n m k s (a_symbol Star) h = deeper_expected (nat_le (want k) 0) _ _ (deeper_shallow _ _ k (Have (star s)) (deeper_lt (length k) n m h))
deeper_opening n m k s (a_symbol Less) h =
    deeper_expected (nat_le (want k) 0) _ _ (deeper_shaped (nat_lt (length k) n) (nat_lt (length k) m) k (shape_turn ShapeStart (placed (a_symbol Less) s)) (deeper_lt (length k) n m h))
deeper_opening n m k s (a_symbol LeftParen) h = deeper_shallow _ _ (Group s ∷ k) Want (deeper_lt (length k + 1) n m h)
deeper_opening n m k s _ h = refl

deeper_leaf : (n m : ℕ) (k : List Frame) (s : Span) (x : Lexeme) (leaf : Option Term) → n ≤ m → AsDeep (leaf_or_open n k s x leaf) (leaf_or_open m k s x leaf)
deeper_leaf n m k s x (Some t) h = deeper_shallow _ _ k (Have t) (deeper_lt (length k) n m h)
deeper_leaf n m k s x None h = deeper_opening n m k s x h

deeper_begin : (n m : ℕ) (k : List Frame) (s : Span) (x : Lexeme) → n ≤ m → AsDeep (begin n k s x) (begin m k s x)
deeper_begin n m k s x h = deeper_leaf n m k s x (leaf_of s x) h

deeper_start : (n m : ℕ) (k : List Frame) (s : Span) (x : Lexeme) → n ≤ m → AsDeep (start n k s x) (start m k s x)
deeper_start n m k s (a_word Create) h = refl
deeper_start n m k s x h = deeper_begin n m k s x h

deeper_first : (n m : ℕ) (k : List Frame) (a : List ℕ) (b s : Span) (x : Lexeme) → n ≤ m → AsDeep (first n k a b s x) (first m k a b s x)
deeper_first n m k a b s (a_symbol RightParen) h = refl
deeper_first n m k a b s x h = deeper_begin n m (Call a b [] ∷ k) s x h

deeper_operated : (n m : ℕ) (o : BinaryOp) (s : List Frame × Term) → n ≤ m → AsDeep (operated n o s) (operated m o s)
deeper_operated n m o (k, t) h = deeper_expected (nat_le (want k) (line_of o) && nat_le (left_line o) (line t)) _ _ (deeper_shallow _ _ (Left o t ∷ k) Want (deeper_le (length k + 1 + height t) n m h))

deeper_named : (n m : ℕ) (s : List Frame × Term) → n ≤ m → AsDeep (named n s) (named m s)
deeper_named n m (k, t) h = deeper_expected (nat_le (want k) 0 && nat_le 1 (line t)) _ _ (deeper_shallow _ _ k (Naming t) (deeper_le (length k + 1 + height t) n m h))

deeper_joined : (n m : ℕ) (k : List Frame) (t : Term) (s : Span) (x : Lexeme) → n ≤ m → AsDeep (joined n k t s x) (joined m k t s x)
deeper_joined n m k t s (a_word As) h = deeper_named n m (settle 0 k t) h
deeper_joined n m k t s x h = same_deep (joined n k t s x)

deeper_extended : (n m : ℕ) (k : List Frame) (t : Term) (s : Span) (x : Lexeme) (b : Option BinaryOp) → n ≤ m → AsDeep (operated_or_joined n k t s x b) (operated_or_joined m k t s x b)
deeper_extended n m k t s x (Some o) h = deeper_operated n m o (settle (line_of o) k t) h
deeper_extended n m k t s x None h = deeper_joined n m k t s x h

deeper_turn : (n m : ℕ) (k : List Frame) (f : Focus) (x : Placed) → n ≤ m → AsDeep (turn n k f x) (turn m k f x)
deeper_turn n m k Start x h = deeper_start n m k x.span x.what h
deeper_turn n m k Want x h = deeper_begin n m k x.span x.what h
deeper_turn n m k (First a b) x h = deeper_first n m k a b x.span x.what h
deeper_turn n m k (Have t) x h = deeper_extended n m k t x.span x.what (op_of x.what) h
deeper_turn n m k f x h = same_deep (turn n k f x)

deeper_go_on : (n m : ℕ) (xs : List Placed) (t u : Turn) → AsDeep t u → ((k : List Frame) (f : Focus) → AsDeep (run n k f xs) (run m k f xs))
    → AsDeep (go_on t (λ k f. run n k f xs)) (go_on u (λ k f. run m k f xs))
deeper_go_on n m xs (Go k f) u e later = subst (λ u. AsDeep (run n k f xs) (go_on u (λ k f. run m k f xs))) (sym e) (later k f)
deeper_go_on n m xs (Stop Unexpected) u e later = ap (λ u. go_on u (λ k f. run m k f xs)) e
deeper_go_on n m xs (Stop TooDeep) u e later = tt

deeper_run : (n m : ℕ) (xs : List Placed) (k : List Frame) (f : Focus) → n ≤ m → AsDeep (run n k f xs) (run m k f xs)
deeper_run n m [] k f h = refl
deeper_run n m (x ∷ xs) k f h = deeper_go_on n m xs (turn n k f x) (turn m k f x) (deeper_turn n m k f x h) (λ k f. deeper_run n m xs k f h)

deeper_statement : (n m : ℕ) (ts : List Placed) (t : Term) → n ≤ m → IsStatement n ts t → IsStatement m ts t
deeper_statement n m ts t h s = record { derived = s.derived; depth = omega (arith, s.depth) }

-- unexpected is no front at any depth
never : (limit : ℕ) (p : List Placed) → run limit [] Start p ≡ Stop Unexpected → (n : ℕ) → IsFront n p → ⊥
never limit p e n (more, t, s) =
    let deep : AsDeep (run limit [] Start p) (run (n + limit) [] Start p) = deeper_run limit (n + limit) p [] Start (omega arith) in
    let stopped : run (n + limit) [] Start p ≡ Stop Unexpected = subst (λ t. AsDeep t (run (n + limit) [] Start p)) e deep in
    no_front (n + limit) p Unexpected stopped (more, t, deeper_statement n (n + limit) (p ++ more) t (omega arith) s)

abbrev GoesOn : Turn → Type 0
GoesOn (Go k f) = Unit {0}
GoesOn (Stop kind) = ⊥

goes_shallow : (b : Bool) (k : List Frame) (f : Focus) → b ≡ true → GoesOn (shallow b (Go k f))
goes_shallow b k f e = subst (λ b. GoesOn (shallow b (Go k f))) (sym e) tt

goes_shaped : (b : Bool) (k : List Frame) (s : Span) → b ≡ true → GoesOn (shallow b (shaped k (shape_turn ShapeStart (placed (a_symbol Less) s))))
goes_shaped b k s e = subst (λ b. GoesOn (shallow b (shaped k (shape_turn ShapeStart (placed (a_symbol Less) s))))) (sym e) tt

goes_expected : (b : Bool) (t u : Turn) → expected b t ≡ Stop TooDeep → GoesOn u → GoesOn (expected b u)
goes_expected true t u e g = g
goes_expected false t u e g = cc

-- too deep is a turn at a greater limit
abbrev Deeper : ℕ → (ℕ → Turn) → Type 0
Deeper limit turns = (m : ℕ) × (limit ≤ m) × GoesOn (turns m)

deeper_above_lt : (limit a : ℕ) (turns : ℕ → Turn) → ((m : ℕ) → nat_lt a m ≡ true → GoesOn (turns m)) → Deeper limit turns
deeper_above_lt limit a turns h = (limit + a + 1, omega arith, h (limit + a + 1) (lt-ltb a (limit + a + 1) (omega arith)))

deeper_above_le : (limit a : ℕ) (turns : ℕ → Turn) → ((m : ℕ) → nat_le a m ≡ true → GoesOn (turns m)) → Deeper limit turns
deeper_above_le limit a turns h = (limit + a, omega arith, h (limit + a) (le-leb a (limit + a) (omega arith)))

goes_opening : (limit : ℕ) (k : List Frame) (s : Span) (x : Lexeme) → opening limit k s x ≡ Stop TooDeep → Deeper limit (λ m. opening m k s x)
goes_opening limit k s (a_word NotWord) e = deeper_above_lt limit (length k + 1) (λ m. opening m k s (a_word NotWord))
    (λ m t. goes_expected (nat_le (want k) 3) _ _ e (goes_shallow (nat_lt (length k + 1) m) (Not s ∷ k) Want t))
goes_opening limit k s (a_symbol MinusSign) e = deeper_above_lt limit (length k + 1) (λ m. opening m k s (a_symbol MinusSign)) (λ m t. goes_shallow (nat_lt (length k + 1) m) (Minus s ∷ k) Want t)
goes_opening limit k s (a_symbol Star) e = deeper_above_lt limit (length k) (λ m. opening m k s (a_symbol Star))
    (λ m t. goes_expected (nat_le (want k) 0) _ _ e (goes_shallow (nat_lt (length k) m) k (Have (star s)) t))
goes_opening limit k s (a_symbol Less) e = deeper_above_lt limit (length k) (λ m. opening m k s (a_symbol Less))
    (λ m t. goes_expected (nat_le (want k) 0) _ _ e (goes_shaped (nat_lt (length k) m) k s t))
goes_opening limit k s (a_symbol LeftParen) e = deeper_above_lt limit (length k + 1) (λ m. opening m k s (a_symbol LeftParen)) (λ m t. goes_shallow (nat_lt (length k + 1) m) (Group s ∷ k) Want t)
goes_opening limit k s _ e = cc

goes_leaf : (limit : ℕ) (k : List Frame) (s : Span) (x : Lexeme) (leaf : Option Term) → leaf_or_open limit k s x leaf ≡ Stop TooDeep → Deeper limit (λ m. leaf_or_open m k s x leaf)
goes_leaf limit k s x (Some t) e = deeper_above_lt limit (length k) (λ m. leaf_or_open m k s x (Some t)) (λ m b. goes_shallow (nat_lt (length k) m) k (Have t) b)
goes_leaf limit k s x None e = goes_opening limit k s x e

goes_begin : (limit : ℕ) (k : List Frame) (s : Span) (x : Lexeme) → begin limit k s x ≡ Stop TooDeep → Deeper limit (λ m. begin m k s x)
goes_begin limit k s x e = goes_leaf limit k s x (leaf_of s x) e

goes_start : (limit : ℕ) (k : List Frame) (s : Span) (x : Lexeme) → start limit k s x ≡ Stop TooDeep → Deeper limit (λ m. start m k s x)
goes_start limit k s (a_word Create) e = cc
goes_start limit k s x e = goes_begin limit k s x e

goes_first : (limit : ℕ) (k : List Frame) (n : List ℕ) (b s : Span) (x : Lexeme) → first limit k n b s x ≡ Stop TooDeep → Deeper limit (λ m. first m k n b s x)
goes_first limit k n b s (a_symbol RightParen) e = cc
goes_first limit k n b s x e = goes_begin limit (Call n b [] ∷ k) s x e

goes_operated : (limit : ℕ) (o : BinaryOp) (s : List Frame × Term) → operated limit o s ≡ Stop TooDeep → Deeper limit (λ m. operated m o s)
goes_operated limit o (k, t) e = deeper_above_le limit (length k + 1 + height t) (λ m. operated m o (k, t))
    (λ m b. goes_expected (nat_le (want k) (line_of o) && nat_le (left_line o) (line t)) _ _ e (goes_shallow (nat_le (length k + 1 + height t) m) (Left o t ∷ k) Want b))

goes_named : (limit : ℕ) (s : List Frame × Term) → named limit s ≡ Stop TooDeep → Deeper limit (λ m. named m s)
goes_named limit (k, t) e = deeper_above_le limit (length k + 1 + height t) (λ m. named m (k, t))
    (λ m b. goes_expected (nat_le (want k) 0 && nat_le 1 (line t)) _ _ e (goes_shallow (nat_le (length k + 1 + height t) m) k (Naming t) b))

-- these turns are never too deep
opened_flat : (k : List Frame) (t : Term) → opened k t ≡ Stop TooDeep → ⊥
opened_flat k (reference s n) e = cc
opened_flat k _ e = cc

dated_flat : (k : List Frame) (t : Term) → dated k t ≡ Stop TooDeep → ⊥
dated_flat k (reference s n) e = cc
dated_flat k _ e = cc

closed_flat : (k : List Frame) (t : Term) (r : Span) → closed k t r ≡ Stop TooDeep → ⊥
closed_flat (Group l ∷ k) t r e = cc
closed_flat (Call n b ts ∷ k) t r e = cc
closed_flat _ t r e = cc

separated_flat : (k : List Frame) (t : Term) → separated k t ≡ Stop TooDeep → ⊥
separated_flat (Call n b ts ∷ k) t e = cc
separated_flat _ t e = cc

array_flat : (k : List Frame) (c : Span) (x : Lexeme) → array_word k c x ≡ Stop TooDeep → ⊥
array_flat k c (a_word ArrayWord) e = cc
array_flat k c _ e = cc

title_flat : (k : List Frame) (c : Span) (x : Lexeme) → title k c x ≡ Stop TooDeep → ⊥
title_flat k c (a_name n) e = cc
title_flat k c _ e = cc

made_flat : (k : List Frame) (c : Span) (n : List ℕ) (step : ShapeStep) → made k c n step ≡ Stop TooDeep → ⊥
made_flat k c n (On state) e = cc
made_flat k c n (Whole m s) e = cc
made_flat k c n NoShape e = cc

date_flat : (k : List Frame) (n : List ℕ) (b s : Span) (x : Lexeme) → date k n b s x ≡ Stop TooDeep → ⊥
date_flat k n b s (a_number v) e = cc
date_flat k n b s _ e = cc

name_flat : (k : List Frame) (t : Term) (s : Span) (x : Lexeme) → name_it k t s x ≡ Stop TooDeep → ⊥
name_flat k t s (a_name n) e = cc
name_flat k t s _ e = cc

shaped_flat : (k : List Frame) (step : ShapeStep) → shaped k step ≡ Stop TooDeep → ⊥
shaped_flat k (On state) e = cc
shaped_flat k (Whole m s) e = cc
shaped_flat k NoShape e = cc

goes_joined : (limit : ℕ) (k : List Frame) (t : Term) (s : Span) (x : Lexeme) → joined limit k t s x ≡ Stop TooDeep → Deeper limit (λ m. joined m k t s x)
goes_joined limit k t s (a_word As) e = goes_named limit (settle 0 k t) e
goes_joined limit k t s (a_symbol LeftParen) e = absurd (opened_flat k t e)
goes_joined limit k t s (a_symbol AtSign) e = absurd (dated_flat k t e)
goes_joined limit k t s (a_symbol RightParen) e = absurd (closed_flat (settle 0 k t).0 (settle 0 k t).1 s e)
goes_joined limit k t s (a_symbol Comma) e = absurd (separated_flat (settle 0 k t).0 (settle 0 k t).1 e)
goes_joined limit k t s _ e = cc

goes_extended : (limit : ℕ) (k : List Frame) (t : Term) (s : Span) (x : Lexeme) (b : Option BinaryOp) → operated_or_joined limit k t s x b ≡ Stop TooDeep → Deeper limit (λ m. operated_or_joined m k t s x b)
goes_extended limit k t s x (Some o) e = goes_operated limit o (settle (line_of o) k t) e
goes_extended limit k t s x None e = goes_joined limit k t s x e

goes_turn : (limit : ℕ) (k : List Frame) (f : Focus) (x : Placed) → turn limit k f x ≡ Stop TooDeep → Deeper limit (λ m. turn m k f x)
goes_turn limit k Start x e = goes_start limit k x.span x.what e
goes_turn limit k (Array c) x e = absurd (array_flat k c x.what e)
goes_turn limit k (Title c) x e = absurd (title_flat k c x.what e)
goes_turn limit k (NewShape c n state) x e = absurd (made_flat k c n (shape_turn state x) e)
goes_turn limit k (Made t) x e = cc
goes_turn limit k Want x e = goes_begin limit k x.span x.what e
goes_turn limit k (First n b) x e = goes_first limit k n b x.span x.what e
goes_turn limit k (Have t) x e = goes_extended limit k t x.span x.what (op_of x.what) e
goes_turn limit k (At n b) x e = absurd (date_flat k n b x.span x.what e)
goes_turn limit k (Naming t) x e = absurd (name_flat k t x.span x.what e)
goes_turn limit k (Shape state) x e = absurd (shaped_flat k (shape_turn state x) e)

went : (t : Turn) → GoesOn t → (k : List Frame) × (f : Focus) × (t ≡ Go k f)
went (Go k f) g = (k, f, refl)
went (Stop kind) g = absurd g

pub run_one : (limit : ℕ) (p : List Placed) (x : Placed) (k : List Frame) (f : Focus) → run limit [] Start p ≡ Go k f → run limit [] Start (p ++ x ∷ []) ≡ go_on (turn limit k f x) (λ k f. Go k f)
run_one limit p x k f e = run_append limit p (x ∷ []) [] Start ∙ ap (λ t. go_on t (λ k f. run limit k f (x ∷ []))) e

kind_of : (limit : ℕ) (p : List Placed) (x : Placed) (k : List Frame) (f : Focus) (kind : StopKind) → 1 ≤ limit → run limit [] Start p ≡ Go k f → turn limit k f x ≡ Stop kind → IsKind kind (p ++ x ∷ [])
kind_of limit p x k f Unexpected h e s = never limit (p ++ x ∷ []) (run_one limit p x k f e ∙ ap (λ t. go_on t (λ k f. Go k f)) s)
kind_of limit p x k f TooDeep h e s =
    let d = goes_turn limit k f x s in
    let r = went (turn d.0 k f x) d.2 in
    let deep : AsDeep (run limit [] Start p) (run d.0 [] Start p) = deeper_run limit d.0 p [] Start d.1 in
    let here : run d.0 [] Start p ≡ Go k f = subst (λ t. AsDeep t (run d.0 [] Start p)) e deep in
    (d.0, is_front d.0 (p ++ x ∷ []) r.0 r.1 (omega (arith, d.1)) (run_one d.0 p x k f here ∙ ap (λ t. go_on t (λ k f. Go k f)) r.2))

-- the reader stops before a token
pub stops_here : (limit : ℕ) (ts : List Placed) (i : ℕ) (x : Placed) (xs : List Placed) (k : List Frame) (f : Focus) (kind : StopKind)
    → 1 ≤ limit → i ≤ length ts → run limit [] Start (take i ts) ≡ Go k f → drop i ts ≡ x ∷ xs → turn limit k f x ≡ Stop kind → Stops limit ts i kind
stops_here limit ts i x xs k f kind h w e d s = record {
  within = w;
  front = is_front limit (take i ts) k f h e;
  stop = subst (λ l. StopsBefore limit (take i ts) l kind) (sym d)
      (no_front limit (take i ts ++ x ∷ []) kind (run_one limit (take i ts) x k f e ∙ ap (λ t. go_on t (λ k f. Go k f)) s), kind_of limit (take i ts) x k f kind h e s);
}

no_statement : (limit : ℕ) (ts : List Placed) (k : List Frame) (f : Focus) → run limit [] Start ts ≡ Go k f → finished k f ≡ None → (t : Term) → IsStatement limit ts t → ⊥
no_statement limit ts k f e n t s =
    let read : verdict limit [] Start ts ≡ Some t = read_again limit ts t s in
    let stopped : verdict limit [] Start ts ≡ None = ap finish e ∙ n in
    cc

-- the reader stops at the end
pub stops_at_end : (limit : ℕ) (ts : List Placed) (k : List Frame) (f : Focus)
    → 1 ≤ limit → run limit [] Start ts ≡ Go k f → finished k f ≡ None → Stops limit ts (length ts) Unexpected
stops_at_end limit ts k f h e n = record {
  within = omega arith;
  front = subst (IsFront limit) (sym (take-length ts)) (is_front limit ts k f h e);
  stop = subst (λ l. StopsBefore limit l (drop (length ts) ts) Unexpected) (sym (take-length ts))
      (subst (λ l. StopsBefore limit ts l Unexpected) (sym (drop-length ts)) (refl, no_statement limit ts k f e n));
}

-- A statement has one tree, and no stop.
pub one_tree : (limit : ℕ) (ts : List Placed) (t u : Term) → IsStatement limit ts t → IsStatement limit ts u → t ≡ u
one_tree limit ts t u s r =
    let first_tree : verdict limit [] Start ts ≡ Some t = read_again limit ts t s in
    let second_tree : verdict limit [] Start ts ≡ Some u = read_again limit ts u r in
    cc

statement_goes_on : (limit : ℕ) (ts front rest : List Placed) (kind : StopKind) (t : Term) → ts ≡ front ++ rest → IsStatement limit ts t → StopsBefore limit front rest kind → ⊥
statement_goes_on limit ts front [] kind t e s stop =
    stop.1 t (subst (λ l. IsStatement limit l t) (e ∙ append-nil front) s)
statement_goes_on limit ts front (x ∷ xs) kind t e s stop =
    stop.0 (xs, t, subst (λ l. IsStatement limit l t) (e ∙ sym (append_assoc front (x ∷ []) xs)) s)

pub no_stop : (limit : ℕ) (ts : List Placed) (t : Term) (at : ℕ) (kind : StopKind) → IsStatement limit ts t → Stops limit ts at kind → ⊥
no_stop limit ts t at kind s stop = statement_goes_on limit ts (take at ts) (drop at ts) kind t (sym (take-append-drop at ts)) s stop.stop

-- Tokens stop at one place, for one reason.
front_of_more : (limit : ℕ) (p q : List Placed) → IsFront limit (p ++ q) → IsFront limit p
front_of_more limit p q (more, t, s) = (q ++ more, t, subst (λ l. IsStatement limit l t) (append_assoc p q more) s)

earlier : (limit : ℕ) (ts : List Placed) (a m : ℕ) (rest : List Placed) (kind : StopKind) → drop a ts ≡ rest → a + suc m ≤ length ts → StopsBefore limit (take a ts) rest kind → IsFront limit (take (a + suc m) ts) → ⊥
earlier limit ts a m [] kind d w stop front = omega (arith, ap length d, length-drop a ts)
earlier limit ts a m (x ∷ xs) kind d w stop front =
    let e : take (a + suc m) ts ≡ (take a ts ++ x ∷ []) ++ take m xs =
    take-add a (suc m) ts ∙ ap (λ l. take a ts ++ take (suc m) l) d ∙ sym (append_assoc (take a ts) (x ∷ []) (take m xs)) in
    stop.0 (front_of_more limit (take a ts ++ x ∷ []) (take m xs) (subst (IsFront limit) e front))

not_before : (limit : ℕ) (ts : List Placed) (a b : ℕ) (j k : StopKind) → Stops limit ts a j → Stops limit ts b k → a < b → ⊥
not_before limit ts a b j k s r h =
    let e : b ≡ a + suc (b - suc a) = omega arith in
    earlier limit ts a (b - suc a) (drop a ts) j refl (omega (arith, r.within)) s.stop (subst (λ n. IsFront limit (take n ts)) e r.front)

one_kind : (limit : ℕ) (front rest : List Placed) (j k : StopKind) → StopsBefore limit front rest j → StopsBefore limit front rest k → j ≡ k
one_kind limit front [] j k s r = s.0 ∙ sym r.0
one_kind limit front (x ∷ xs) Unexpected Unexpected s r = refl
one_kind limit front (x ∷ xs) TooDeep TooDeep s r = refl
one_kind limit front (x ∷ xs) Unexpected TooDeep s r = absurd (s.1 r.1.0 r.1.1)
one_kind limit front (x ∷ xs) TooDeep Unexpected s r = absurd (r.1 s.1.0 s.1.1)

pub one_stop : (limit : ℕ) (ts : List Placed) (a b : ℕ) (j k : StopKind) → Stops limit ts a j → Stops limit ts b k → (a ≡ b) × (j ≡ k)
one_stop limit ts a b j k s r =
    let no_less : a < b → ⊥ = λ h. not_before limit ts a b j k s r h in
    let no_more : b < a → ⊥ = λ h. not_before limit ts b a k j r s h in
    let e : a ≡ b = omega arith in
    (e, one_kind limit (take b ts) (drop b ts) j k (subst (λ n. StopsBefore limit (take n ts) (drop n ts) j) e s.stop) r.stop)
