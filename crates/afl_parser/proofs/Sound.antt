-- What is read derives.
use Rattle.std.proofs.Common.{◌≡◌, ℕ, zero, suc, ◌≤◌, Bool, true, false, ◌&&◌, Option, Some, None, List, [], ◌∷◌, ◌++◌, inl, inr, refl, sym, subst, arith}
use Rattle.std.specs.Prelude.{nat_le, if◌then◌else◌}
use Rattle.std.proofs.lemmas.Bool.{leb-true}
use Rattle.cell_values.specs.declared.name.Span.{Span}
use Rattle.afl_lexer.specs.declared.token.Word.TheVariants.{Not as NotWord, Null, True, False, As, Create, Array as ArrayWord}
use Rattle.afl_lexer.specs.declared.token.Symbol.TheVariants.{LeftParen, RightParen, Less, Comma, Star, Minus as MinusSign, At as AtSign}
use Rattle.afl_lexer.specs.Lexemes.{Lexeme, a_name, a_number, a_text, a_code, a_word, a_symbol, Placed}
use Rattle.schema_grammar.specs.declared.state.ShapeState.{ShapeState}
use Rattle.schema_grammar.specs.declared.state.ShapeState.TheVariants.{Start as ShapeStart}
use Rattle.schema_grammar.specs.declared.state.ShapeStep.{ShapeStep}
use Rattle.schema_grammar.specs.declared.state.ShapeStep.TheVariants.{On, Whole, Unexpected as NoShape}
use Rattle.schema_grammar.specs.Spelling.{placed}
use Rattle.schema_grammar.specs.Inner.Reading.{shape_turn}
use Rattle.schema_grammar.proofs.ShapeSound.{HoldsShape, HoldsStep, holds_turn}
use Rattle.afl_trees.specs.Term.{Term, reference, star, to_terms}
use Rattle.afl_trees.specs.Grammar.{line_of, left_line, right_line, op_of, line, height, Spells, SpellsArguments, SpellsMore, SpellsCreate, IsStatement}
use Rattle.afl_parser.specs.Inner.Machine.{Turn, Go, Stop, want, close, ends, settle, expected, shallow, leaf_of, shaped, opening, leaf_or_open, begin, start, array_word, title, made, first, opened, dated, date, operated, named, closed, separated, joined, operated_or_joined, turn, name_it, verdict, run, go_on, finish, finished, whole, Fits, FitsBelow}
use Rattle.afl_trees.specs.declared.tree.BinaryOp.{BinaryOp}
use Rattle.afl_trees.specs.declared.tree.BinaryOp.TheVariants.{Or}
use Rattle.afl_parser.specs.declared.frame.Frame.{Frame}
use Rattle.afl_parser.specs.declared.frame.Frame.TheVariants.{Group, Not, Minus, Left, Call}
use Rattle.afl_parser.specs.declared.frame.Focus.{Focus}
use Rattle.afl_parser.specs.declared.frame.Focus.TheVariants.{Start, Array, Title, NewShape, Made, Want, First, Have, At, Naming, Shape}
use Rattle.afl_parser.proofs.Fitting.{FitsTurn, fits_turn, fits_settled}

-- these trees, each with a comma behind it
abbrev pub Passed : List Term → List Placed → List Placed → Type 0
Passed [] xs zs = xs ≡ zs
Passed (t ∷ ts) xs zs = (w : Span) × (ys : List Placed) × Spells t xs (placed (a_symbol Comma) w ∷ ys) × Passed ts ys zs

-- the tokens of an open node up to its last child; outside it a node of line w is wanted
abbrev pub Holds : Frame → ℕ → List Placed → List Placed → Type 0
Holds (Group l) w xs zs = xs ≡ placed (a_symbol LeftParen) l ∷ zs
Holds (Not s) w xs zs = (xs ≡ placed (a_word NotWord) s ∷ zs) × (w ≤ 3)
Holds (Minus s) w xs zs = xs ≡ placed (a_symbol MinusSign) s ∷ zs
Holds (Left o l) w xs zs = (x : Lexeme) × (s : Span) × (op_of x ≡ Some o) × (w ≤ line_of o) × (left_line o ≤ line l) × Spells l xs (placed x s ∷ zs)
Holds (Call n b ts) w xs zs = (l : Span) × (ys : List Placed) × (xs ≡ placed (a_name n) b ∷ placed (a_symbol LeftParen) l ∷ ys) × Passed ts ys zs

abbrev pub Open : List Frame → List Placed → List Placed → Type 0
Open [] xs zs = xs ≡ zs
Open (f ∷ k) xs zs = (ys : List Placed) × Open k xs ys × Holds f (want k) ys zs

-- from xs to zs the reader went to where it stands
abbrev pub Opens : List Frame → Focus → List Placed → List Placed → Type 0
Opens k Start xs zs = (xs ≡ zs) × Open k xs zs
Opens k (Array c) xs zs = xs ≡ placed (a_word Create) c ∷ zs
Opens k (Title c) xs zs = (a : Span) × (xs ≡ placed (a_word Create) c ∷ placed (a_word ArrayWord) a ∷ zs)
Opens k (NewShape c n state) xs zs = (a : Span) × (b : Span) × (ys : List Placed)
    × (xs ≡ placed (a_word Create) c ∷ placed (a_word ArrayWord) a ∷ placed (a_name n) b ∷ ys) × HoldsShape state ys zs
Opens k (Made t) xs zs = SpellsCreate t xs zs
Opens k Want xs zs = Open k xs zs
Opens k (First n b) xs zs = (l : Span) × Open k xs (placed (a_name n) b ∷ placed (a_symbol LeftParen) l ∷ zs)
Opens k (Have t) xs zs = (ys : List Placed) × Open k xs ys × (want k ≤ line t) × Spells t ys zs
Opens k (At n b) xs zs = (w : Span) × Open k xs (placed (a_name n) b ∷ placed (a_symbol AtSign) w ∷ zs)
Opens k (Naming t) xs zs = (w : Span) × (ys : List Placed) × Open k xs ys × (want k ≤ 0) × (1 ≤ line t) × Spells t ys (placed (a_word As) w ∷ zs)
Opens k (Shape state) xs zs = (ys : List Placed) × Open k xs ys × (want k ≤ 0) × HoldsShape state ys zs

abbrev pub OpensTurn : List Placed → List Placed → Turn → Type 0
OpensTurn xs zs (Go k f) = Opens k f xs zs
OpensTurn xs zs (Stop kind) = Unit {0}

opens_shallow : (xs zs : List Placed) (b : Bool) (t : Turn) → OpensTurn xs zs t → OpensTurn xs zs (shallow b t)
opens_shallow xs zs true t h = h
opens_shallow xs zs false t h = tt

opens_expected : (xs zs : List Placed) (b : Bool) (t : Turn) → (b ≡ true → OpensTurn xs zs t) → OpensTurn xs zs (expected b t)
opens_expected xs zs true t h = h refl
opens_expected xs zs false t h = tt

pub both_of : (a b : Bool) → (a && b) ≡ true → (a ≡ true) × (b ≡ true)
both_of true b e = (refl, e)
both_of false b e = cc

right_le : (o : BinaryOp) → right_line o ≤ 7
right_le Or = omega arith
right_le _ = omega arith

want_le : (k : List Frame) → want k ≤ 7
want_le [] = omega arith
want_le (Group l ∷ k) = omega arith
want_le (Not w ∷ k) = omega arith
want_le (Minus w ∷ k) = omega arith
want_le (Left o l ∷ k) = right_le o
want_le (Call n b ts ∷ k) = omega arith

primary : (k : List Frame) → want k ≤ 8
primary k = omega (arith, want_le k)

-- an open node that ends is a tree
opens_closed : (n : ℕ) (f : Frame) (k : List Frame) (t : Term) (xs zs : List Placed) → ends n f ≡ true → Opens (f ∷ k) (Have t) xs zs → Opens k (Have (close f t)) xs zs
opens_closed n (Group l) k t xs zs e o = cc
opens_closed n (Not v) k t xs zs e (ys, (ws, o, h), l, s) = (ws, o, h.1, (v, ys, h.0, refl, l, s))
opens_closed n (Minus v) k t xs zs e (ys, (ws, o, h), l, s) = (ws, o, want_le k, (v, ys, h, refl, l, s))
opens_closed n (Left op a) k t xs zs e (ys, (ws, o, (x, v, q, w, m, g)), l, s) = (ws, o, w, (x, v, ys, q, refl, m, g, l, s))
opens_closed n (Call m b ts) k t xs zs e o = cc

opens_settled : (n : ℕ) (k : List Frame) (t : Term) (xs zs : List Placed) → Opens k (Have t) xs zs → Opens (settle n k t).0 (Have (settle n k t).1) xs zs
opens_settled n [] t xs zs o = o
opens_settled n (f ∷ k) t xs zs o = cases (ends n f) (λ e. opens_settled n k (close f t) xs zs (opens_closed n f k t xs zs e o))
  where
    cases : (b : Bool) → (b ≡ true → Opens (settle n k (close f t)).0 (Have (settle n k (close f t)).1) xs zs)
        → Opens (if b then settle n k (close f t) else (f ∷ k, t)).0 (Have (if b then settle n k (close f t) else (f ∷ k, t)).1) xs zs
    cases true r = r refl
    cases false r = o

-- a tree of one token is spelled by it
abbrev SpelledLeaf : Span → Lexeme → Option Term → Type 0
SpelledLeaf s x (Some t) = (8 ≤ line t) × ((zs : List Placed) → Spells t (placed x s ∷ zs) zs)
SpelledLeaf s x None = Unit {0}

spelled_leaf : (s : Span) (x : Lexeme) → SpelledLeaf s x (leaf_of s x)
spelled_leaf s (a_name n) = (omega arith, λ zs. refl)
spelled_leaf s (a_number n) = (omega arith, λ zs. refl)
spelled_leaf s (a_text x) = (omega arith, λ zs. refl)
spelled_leaf s (a_code zero) = (omega arith, λ zs. inr refl)
spelled_leaf s (a_code (suc c)) = (omega arith, λ zs. (omega arith, refl))
spelled_leaf s (a_word True) = (omega arith, λ zs. refl)
spelled_leaf s (a_word False) = (omega arith, λ zs. refl)
spelled_leaf s (a_word Null) = (omega arith, λ zs. inl refl)
spelled_leaf s (a_word _) = tt
spelled_leaf s (a_symbol x) = tt

opens_shaped : (k : List Frame) (xs ys zs : List Placed) (step : ShapeStep) → Open k xs ys → want k ≤ 0 → HoldsStep step ys zs → OpensTurn xs zs (shaped k step)
opens_shaped k xs ys zs (On state) o w h = (ys, o, w, h)
opens_shaped k xs ys zs (Whole m s) o w h = (ys, o, w, h)
opens_shaped k xs ys zs NoShape o w h = tt

opens_opening : (limit : ℕ) (k : List Frame) (s : Span) (x : Lexeme) (xs zs : List Placed) → Open k xs (placed x s ∷ zs) → OpensTurn xs zs (opening limit k s x)
opens_opening limit k s (a_word NotWord) xs zs o =
    opens_expected xs zs _ _ (λ e. opens_shallow xs zs _ (Go (Not s ∷ k) Want) (placed (a_word NotWord) s ∷ zs, o, (refl, leb-true (want k) 3 e)))
opens_opening limit k s (a_symbol MinusSign) xs zs o = opens_shallow xs zs _ (Go (Minus s ∷ k) Want) (placed (a_symbol MinusSign) s ∷ zs, o, refl)
opens_opening limit k s (a_symbol Star) xs zs o =
    opens_expected xs zs _ _ (λ e. opens_shallow xs zs _ (Go k (Have (star s))) (placed (a_symbol Star) s ∷ zs, o, leb-true (want k) 0 e, refl))
opens_opening limit k s (a_symbol Less) xs zs o =
    opens_expected xs zs _ _ (λ e. opens_shallow xs zs _ (shaped k (shape_turn ShapeStart (placed (a_symbol Less) s)))
    (opens_shaped k xs (placed (a_symbol Less) s ∷ zs) zs (shape_turn ShapeStart (placed (a_symbol Less) s)) o (leb-true (want k) 0 e)
    (holds_turn ShapeStart (placed (a_symbol Less) s) (placed (a_symbol Less) s ∷ zs) zs refl)))
opens_opening limit k s (a_symbol LeftParen) xs zs o = opens_shallow xs zs _ (Go (Group s ∷ k) Want) (placed (a_symbol LeftParen) s ∷ zs, o, refl)
opens_opening limit k s _ xs zs o = tt

opens_leaf_or_open : (limit : ℕ) (k : List Frame) (s : Span) (x : Lexeme) (leaf : Option Term) (xs zs : List Placed) → SpelledLeaf s x leaf → Open k xs (placed x s ∷ zs)
    → OpensTurn xs zs (leaf_or_open limit k s x leaf)
opens_leaf_or_open limit k s x (Some t) xs zs (l, h) o = opens_shallow xs zs _ (Go k (Have t)) (placed x s ∷ zs, o, omega (arith, want_le k), h zs)
opens_leaf_or_open limit k s x None xs zs h o = opens_opening limit k s x xs zs o

opens_begin : (limit : ℕ) (k : List Frame) (s : Span) (x : Lexeme) (xs zs : List Placed) → Open k xs (placed x s ∷ zs) → OpensTurn xs zs (begin limit k s x)
opens_begin limit k s x xs zs o = opens_leaf_or_open limit k s x (leaf_of s x) xs zs (spelled_leaf s x) o

opens_start : (limit : ℕ) (k : List Frame) (s : Span) (x : Lexeme) (xs zs : List Placed) → Opens k Start xs (placed x s ∷ zs) → OpensTurn xs zs (start limit k s x)
opens_start limit k s (a_word Create) xs zs (e, o) = e
opens_start limit k s x xs zs (e, o) = opens_begin limit k s x xs zs o

opens_array : (k : List Frame) (c s : Span) (x : Lexeme) (xs zs : List Placed) → Opens k (Array c) xs (placed x s ∷ zs) → OpensTurn xs zs (array_word k c x)
opens_array k c s (a_word ArrayWord) xs zs e = (s, e)
opens_array k c s _ xs zs e = tt

opens_title : (k : List Frame) (c s : Span) (x : Lexeme) (xs zs : List Placed) → Opens k (Title c) xs (placed x s ∷ zs) → OpensTurn xs zs (title k c x)
opens_title k c s (a_name n) xs zs (a, e) = (a, s, zs, e, refl)
opens_title k c s _ xs zs e = tt

opens_made : (k : List Frame) (c : Span) (n : List ℕ) (a b : Span) (xs ys zs : List Placed) (step : ShapeStep)
    → xs ≡ placed (a_word Create) c ∷ placed (a_word ArrayWord) a ∷ placed (a_name n) b ∷ ys → HoldsStep step ys zs → OpensTurn xs zs (made k c n step)
opens_made k c n a b xs ys zs (On state) e h = (a, b, ys, e, h)
opens_made k c n a b xs ys zs (Whole m s) e h = (c, a, b, s, ys, e, refl, h)
opens_made k c n a b xs ys zs NoShape e h = tt

opens_new_shape : (k : List Frame) (c : Span) (n : List ℕ) (state : ShapeState) (x : Placed) (xs zs : List Placed) → Opens k (NewShape c n state) xs (x ∷ zs)
    → OpensTurn xs zs (made k c n (shape_turn state x))
opens_new_shape k c n state x xs zs (a, b, ys, e, h) = opens_made k c n a b xs ys zs (shape_turn state x) e (holds_turn state x ys zs h)

opens_shape : (k : List Frame) (state : ShapeState) (x : Placed) (xs zs : List Placed) → Opens k (Shape state) xs (x ∷ zs) → OpensTurn xs zs (shaped k (shape_turn state x))
opens_shape k state x xs zs (ys, o, w, h) = opens_shaped k xs ys zs (shape_turn state x) o w (holds_turn state x ys zs h)

opens_first : (limit : ℕ) (k : List Frame) (n : List ℕ) (b s : Span) (x : Lexeme) (xs zs : List Placed) → Opens k (First n b) xs (placed x s ∷ zs) → OpensTurn xs zs (first limit k n b s x)
opens_first limit k n b s (a_symbol RightParen) xs zs (l, o) =
    (placed (a_name n) b ∷ placed (a_symbol LeftParen) l ∷ placed (a_symbol RightParen) s ∷ zs, o, primary k, (b, l, s, placed (a_symbol RightParen) s ∷ zs, refl, refl, refl))
opens_first limit k n b s x xs zs (l, o) =
    opens_begin limit (Call n b [] ∷ k) s x xs zs (placed (a_name n) b ∷ placed (a_symbol LeftParen) l ∷ placed x s ∷ zs, o, (l, placed x s ∷ zs, refl, refl))

opens_opened : (k : List Frame) (t : Term) (s : Span) (xs zs : List Placed) → Opens k (Have t) xs (placed (a_symbol LeftParen) s ∷ zs) → OpensTurn xs zs (opened k t)
opens_opened k (reference b n) s xs zs (ys, o, l, e) = (s, subst (Open k xs) e o)
opens_opened k _ s xs zs o = tt

opens_dated : (k : List Frame) (t : Term) (s : Span) (xs zs : List Placed) → Opens k (Have t) xs (placed (a_symbol AtSign) s ∷ zs) → OpensTurn xs zs (dated k t)
opens_dated k (reference b n) s xs zs (ys, o, l, e) = (s, subst (Open k xs) e o)
opens_dated k _ s xs zs o = tt

opens_date : (k : List Frame) (n : List ℕ) (b s : Span) (x : Lexeme) (xs zs : List Placed) → Opens k (At n b) xs (placed x s ∷ zs) → OpensTurn xs zs (date k n b s x)
opens_date k n b s (a_number v) xs zs (w, o) = (placed (a_name n) b ∷ placed (a_symbol AtSign) w ∷ placed (a_number v) s ∷ zs, o, primary k, (b, w, s, refl, refl))
opens_date k n b s _ xs zs o = tt

opens_operated : (limit : ℕ) (op : BinaryOp) (p : List Frame × Term) (x : Lexeme) (s : Span) (xs zs : List Placed) → op_of x ≡ Some op → Opens p.0 (Have p.1) xs (placed x s ∷ zs) → OpensTurn xs zs (operated limit op p)
opens_operated limit op (k, t) x s xs zs q (ys, o, l, g) = opens_expected xs zs _ _ (λ e.
    let b : (nat_le (want k) (line_of op) ≡ true) × (nat_le (left_line op) (line t) ≡ true) = both_of _ _ e in
    opens_shallow xs zs _ (Go (Left op t ∷ k) Want) (ys, o, (x, s, q, leb-true (want k) (line_of op) b.0, leb-true (left_line op) (line t) b.1, g)))

opens_named : (limit : ℕ) (p : List Frame × Term) (s : Span) (xs zs : List Placed) → Opens p.0 (Have p.1) xs (placed (a_word As) s ∷ zs) → OpensTurn xs zs (named limit p)
opens_named limit (k, t) s xs zs (ys, o, l, g) = opens_expected xs zs _ _ (λ e.
    let b : (nat_le (want k) 0 ≡ true) × (nat_le 1 (line t) ≡ true) = both_of _ _ e in
    opens_shallow xs zs _ (Go k (Naming t)) (s, ys, o, leb-true (want k) 0 b.0, leb-true 1 (line t) b.1, g))

-- the last argument
passed_more : (ts : List Term) (t : Term) (w r : Span) (xs ys zs : List Placed) → Passed ts xs ys → Spells t ys (placed (a_symbol RightParen) r ∷ zs) → SpellsMore (to_terms (ts ++ t ∷ [])) r (placed (a_symbol Comma) w ∷ xs) zs
passed_more [] t w r xs ys zs p s = (w, xs, placed (a_symbol RightParen) r ∷ zs, refl, subst (λ l. Spells t l (placed (a_symbol RightParen) r ∷ zs)) (sym p) s, refl)
passed_more (a ∷ ts) t w r xs ys zs (v, vs, g, p) s = (w, xs, placed (a_symbol Comma) v ∷ vs, refl, g, passed_more ts t v r vs ys zs p s)

passed_all : (ts : List Term) (t : Term) (r : Span) (xs ys zs : List Placed) → Passed ts xs ys → Spells t ys (placed (a_symbol RightParen) r ∷ zs) → SpellsArguments (to_terms (ts ++ t ∷ [])) r xs zs
passed_all [] t r xs ys zs p s = (placed (a_symbol RightParen) r ∷ zs, subst (λ l. Spells t l (placed (a_symbol RightParen) r ∷ zs)) (sym p) s, refl)
passed_all (a ∷ ts) t r xs ys zs (v, vs, g, p) s = (placed (a_symbol Comma) v ∷ vs, g, passed_more ts t v r vs ys zs p s)

-- one more argument
passed_next : (ts : List Term) (t : Term) (w : Span) (xs ys zs : List Placed) → Passed ts xs ys → Spells t ys (placed (a_symbol Comma) w ∷ zs) → Passed (ts ++ t ∷ []) xs zs
passed_next [] t w xs ys zs p s = (w, zs, subst (λ l. Spells t l (placed (a_symbol Comma) w ∷ zs)) (sym p) s, refl)
passed_next (a ∷ ts) t w xs ys zs (v, vs, g, p) s = (v, vs, g, passed_next ts t w vs ys zs p s)

opens_bracket : (k : List Frame) (t : Term) (r : Span) (xs zs : List Placed) → Opens k (Have t) xs (placed (a_symbol RightParen) r ∷ zs) → OpensTurn xs zs (closed k t r)
opens_bracket (Group lp ∷ k) t r xs zs (ys, (ws, o, h), l, s) = (ws, o, primary k, (lp, r, ys, h, refl, l, s))
opens_bracket (Call n b ts ∷ k) t r xs zs (ys, (ws, o, (lp, us, e, p)), l, s) = (ws, o, primary k, (b, lp, r, us, e, refl, passed_all ts t r us ys zs p s))
opens_bracket _ t r xs zs o = tt

opens_separated : (k : List Frame) (t : Term) (w : Span) (xs zs : List Placed) → Opens k (Have t) xs (placed (a_symbol Comma) w ∷ zs) → OpensTurn xs zs (separated k t)
opens_separated (Call n b ts ∷ k) t w xs zs (ys, (ws, o, (lp, us, e, p)), l, s) = (ws, o, (lp, us, e, passed_next ts t w us ys zs p s))
opens_separated _ t w xs zs o = tt

opens_joined : (limit : ℕ) (k : List Frame) (t : Term) (s : Span) (x : Lexeme) (xs zs : List Placed) → Opens k (Have t) xs (placed x s ∷ zs) → OpensTurn xs zs (joined limit k t s x)
opens_joined limit k t s (a_word As) xs zs o = opens_named limit (settle 0 k t) s xs zs (opens_settled 0 k t xs (placed (a_word As) s ∷ zs) o)
opens_joined limit k t s (a_symbol LeftParen) xs zs o = opens_opened k t s xs zs o
opens_joined limit k t s (a_symbol AtSign) xs zs o = opens_dated k t s xs zs o
opens_joined limit k t s (a_symbol RightParen) xs zs o = opens_bracket (settle 0 k t).0 (settle 0 k t).1 s xs zs (opens_settled 0 k t xs (placed (a_symbol RightParen) s ∷ zs) o)
opens_joined limit k t s (a_symbol Comma) xs zs o = opens_separated (settle 0 k t).0 (settle 0 k t).1 s xs zs (opens_settled 0 k t xs (placed (a_symbol Comma) s ∷ zs) o)
opens_joined limit k t s _ xs zs o = tt

opens_extended : (limit : ℕ) (k : List Frame) (t : Term) (s : Span) (x : Lexeme) (b : Option BinaryOp) (xs zs : List Placed) → op_of x ≡ b → Opens k (Have t) xs (placed x s ∷ zs)
    → OpensTurn xs zs (operated_or_joined limit k t s x b)
opens_extended limit k t s x (Some op) xs zs q o = opens_operated limit op (settle (line_of op) k t) x s xs zs q (opens_settled (line_of op) k t xs (placed x s ∷ zs) o)
opens_extended limit k t s x None xs zs q o = opens_joined limit k t s x xs zs o

opens_name : (k : List Frame) (t : Term) (s : Span) (x : Lexeme) (xs zs : List Placed) → Opens k (Naming t) xs (placed x s ∷ zs) → OpensTurn xs zs (name_it k t s x)
opens_name k t s (a_name n) xs zs (v, ys, o, w, l, g) = (ys, o, w, (v, s, refl, l, g))
opens_name k t s _ xs zs o = tt

pub opens_turn : (limit : ℕ) (k : List Frame) (f : Focus) (x : Placed) (xs zs : List Placed) → Opens k f xs (x ∷ zs) → OpensTurn xs zs (turn limit k f x)
opens_turn limit k Start x xs zs o = opens_start limit k x.span x.what xs zs o
opens_turn limit k (Array c) x xs zs o = opens_array k c x.span x.what xs zs o
opens_turn limit k (Title c) x xs zs o = opens_title k c x.span x.what xs zs o
opens_turn limit k (NewShape c n state) x xs zs o = opens_new_shape k c n state x xs zs o
opens_turn limit k (Made t) x xs zs o = tt
opens_turn limit k Want x xs zs o = opens_begin limit k x.span x.what xs zs o
opens_turn limit k (First n b) x xs zs o = opens_first limit k n b x.span x.what xs zs o
opens_turn limit k (Have t) x xs zs o = opens_extended limit k t x.span x.what (op_of x.what) xs zs refl o
opens_turn limit k (At n b) x xs zs o = opens_date k n b x.span x.what xs zs o
opens_turn limit k (Naming t) x xs zs o = opens_name k t x.span x.what xs zs o
opens_turn limit k (Shape state) x xs zs o = opens_shape k state x xs zs o

whole_sound : (limit : ℕ) (s : List Frame × Term) (t : Term) (xs : List Placed) → FitsBelow limit s → Opens s.0 (Have s.1) xs [] → whole s ≡ Some t → IsStatement limit xs t
whole_sound limit ([], u) t xs (h, r) (ys, o, l, s) e =
    let same : u ≡ t = cc in
    let here : IsStatement limit xs u = record { derived = inr (l, subst (λ l. Spells u l []) (sym o) s); depth = omega arith } in
    subst (IsStatement limit xs) same here
whole_sound limit (f ∷ k, u) t xs h o e = cc

made_sound : (limit : ℕ) (u t : Term) (xs : List Placed) → height u ≤ limit → SpellsCreate u xs [] → Some u ≡ Some t → IsStatement limit xs t
made_sound limit u t xs h o e =
    let same : u ≡ t = cc in
    let here : IsStatement limit xs u = record { derived = inl o; depth = h } in
    subst (IsStatement limit xs) same here

goes_sound : (limit : ℕ) (t : Term) (xs zs : List Placed) (next : Turn)
    → ((k : List Frame) (f : Focus) → Fits limit k f → Opens k f xs zs → verdict limit k f zs ≡ Some t → IsStatement limit xs t)
    → FitsTurn limit next → OpensTurn xs zs next → finish (go_on next (λ k f. run limit k f zs)) ≡ Some t → IsStatement limit xs t
goes_sound limit t xs zs (Go k f) later h o e = later k f h o e
goes_sound limit t xs zs (Stop kind) later h o e = cc

finished_sound : (limit : ℕ) (t : Term) (xs : List Placed) (k : List Frame) (f : Focus) → Fits limit k f → Opens k f xs [] → finished k f ≡ Some t → IsStatement limit xs t
finished_sound limit t xs k (Have u) h o e = whole_sound limit (settle 0 k u) t xs (fits_settled limit 0 k u h) (opens_settled 0 k u xs [] o) e
finished_sound limit t xs k (Made u) h o e = made_sound limit u t xs h.0 o e
finished_sound limit t xs k _ h o e = cc

-- what the reader comes to is the tree of a statement
pub sound : (limit : ℕ) (t : Term) (xs zs : List Placed) (k : List Frame) (f : Focus) → Fits limit k f → Opens k f xs zs → verdict limit k f zs ≡ Some t → IsStatement limit xs t
sound limit t xs [] k f h o e = finished_sound limit t xs k f h o e
sound limit t xs (x ∷ zs) k f h o e =
    goes_sound limit t xs zs (turn limit k f x) (λ k f h o e. sound limit t xs zs k f h o e) (fits_turn limit k f x h) (opens_turn limit k f x xs zs o) e

pub read_is_statement : (limit : ℕ) (ts : List Placed) (t : Term) → 1 ≤ limit → verdict limit [] Start ts ≡ Some t → IsStatement limit ts t
read_is_statement limit ts t h e = sound limit t ts ts [] Start (omega arith, tt) (refl, refl) e
