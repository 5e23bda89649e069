-- When an open node ends, and when it stays.
use Rattle.std.proofs.Common.{◌≡◌, ℕ, ◌≤◌, ◌<◌, true, false, Option, Some, None, List, [], ◌∷◌, refl, ap, arith}
use Rattle.std.specs.Prelude.{nat_lt, if◌then◌else◌}
use Rattle.std.proofs.lemmas.Bool.{lt-ltb, le-ltb}
use Rattle.cell_values.specs.declared.name.Span.{Span}
use Rattle.afl_lexer.specs.declared.token.Word.TheVariants.{As}
use Rattle.afl_lexer.specs.declared.token.Symbol.TheVariants.{RightParen, Comma}
use Rattle.afl_lexer.specs.Lexemes.{Lexeme, a_word, a_symbol, Placed}
use Rattle.afl_trees.specs.Term.{Term}
use Rattle.afl_trees.specs.Grammar.{line_of, left_line, right_line, op_of}
use Rattle.afl_parser.specs.Inner.Machine.{wanted, want, close, ends, settle, operated, named, closed, separated, joined, operated_or_joined, verdict, run, go_on, finish, whole}
use Rattle.afl_trees.specs.declared.tree.BinaryOp.{BinaryOp}
use Rattle.afl_trees.specs.declared.tree.BinaryOp.TheVariants.{Or}
use Rattle.afl_parser.specs.declared.frame.Frame.{Frame}
use Rattle.afl_parser.specs.declared.frame.Frame.TheVariants.{Group, Not, Minus, Left, Call}
use Rattle.afl_parser.specs.declared.frame.Focus.TheVariants.{Have}

pub line_le_left : (o : BinaryOp) → line_of o ≤ left_line o
line_le_left Or = omega arith
line_le_left _ = omega arith

pub line_lt_right : (o : BinaryOp) → line_of o < right_line o
line_lt_right Or = omega arith
line_lt_right _ = omega arith

pub one_le_left : (o : BinaryOp) → 1 ≤ left_line o
one_le_left Or = omega arith
one_le_left _ = omega arith

-- what ends a tree of this line, where it is no operator
abbrev pub ClosesRest : ℕ → Lexeme → Type 0
ClosesRest n (a_word As) = 1 ≤ n
ClosesRest n (a_symbol RightParen) = Unit {0}
ClosesRest n (a_symbol Comma) = Unit {0}
ClosesRest n _ = ⊥

abbrev pub ClosesBy : Option BinaryOp → ℕ → Lexeme → Type 0
ClosesBy (Some o) n x = left_line o ≤ n
ClosesBy None n x = ClosesRest n x

-- a tree of this line ends before these tokens: none of them can lengthen it
abbrev pub Closes : ℕ → List Placed → Type 0
Closes n [] = Unit {0}
Closes n (x ∷ zs) = ClosesBy (op_of x.what) n x.what

closes_rest_more : (m n : ℕ) (x : Lexeme) → m ≤ n → ClosesRest m x → ClosesRest n x
closes_rest_more m n (a_word As) h c = omega arith
closes_rest_more m n (a_symbol RightParen) h c = c
closes_rest_more m n (a_symbol Comma) h c = c
closes_rest_more m n _ h c = absurd c

closes_by_more : (m n : ℕ) (b : Option BinaryOp) (x : Lexeme) → m ≤ n → ClosesBy b m x → ClosesBy b n x
closes_by_more m n (Some o) x h c = omega arith
closes_by_more m n None x h c = closes_rest_more m n x h c

pub closes_more : (m n : ℕ) (zs : List Placed) → m ≤ n → Closes m zs → Closes n zs
closes_more m n [] h c = c
closes_more m n (x ∷ zs) h c = closes_by_more m n (op_of x.what) x.what h c

-- the open node ends before these tokens
abbrev pub PastRest : Frame → Lexeme → Type 0
PastRest f (a_word As) = ends 0 f ≡ true
PastRest f (a_symbol RightParen) = ends 0 f ≡ true
PastRest f (a_symbol Comma) = ends 0 f ≡ true
PastRest f _ = ⊥

abbrev pub PastBy : Frame → Option BinaryOp → Lexeme → Type 0
PastBy f (Some o) x = ends (line_of o) f ≡ true
PastBy f None x = PastRest f x

abbrev pub Past : Frame → List Placed → Type 0
Past f [] = ends 0 f ≡ true
Past f (x ∷ zs) = PastBy f (op_of x.what) x.what

below_not : (o : BinaryOp) → left_line o ≤ 3 → line_of o < 3
below_not Or c = omega arith
below_not _ c = omega arith

below_minus : (o : BinaryOp) → line_of o < 7
below_minus Or = omega arith
below_minus _ = omega arith

-- a node that ends at the least line ends before whatever ends a tree
past_rest : (n : ℕ) (f : Frame) (x : Lexeme) → ends 0 f ≡ true → ClosesRest n x → PastRest f x
past_rest n f (a_word As) e c = e
past_rest n f (a_symbol RightParen) e c = e
past_rest n f (a_symbol Comma) e c = e
past_rest n f _ e c = absurd c

pub zero_lt_right : (o : BinaryOp) → nat_lt 0 (right_line o) ≡ true
zero_lt_right Or = refl
zero_lt_right _ = refl

past_by : (n : ℕ) (f : Frame) (b : Option BinaryOp) (x : Lexeme) → ends 0 f ≡ true → ((o : BinaryOp) → left_line o ≤ n → ends (line_of o) f ≡ true) → ClosesBy b n x → PastBy f b x
past_by n f (Some o) x e h c = h o c
past_by n f None x e h c = past_rest n f x e c

past_all : (n : ℕ) (f : Frame) (zs : List Placed) → ends 0 f ≡ true → ((o : BinaryOp) → left_line o ≤ n → ends (line_of o) f ≡ true) → Closes n zs → Past f zs
past_all n f [] e h c = e
past_all n f (x ∷ zs) e h c = past_by n f (op_of x.what) x.what e h c

pub past_not : (w : Span) (zs : List Placed) → Closes 3 zs → Past (Not w) zs
past_not w zs c = past_all 3 (Not w) zs refl (λ o h. lt-ltb (line_of o) 3 (below_not o h)) c

pub past_minus : (w : Span) (zs : List Placed) → Closes 7 zs → Past (Minus w) zs
past_minus w zs c = past_all 7 (Minus w) zs refl (λ o h. lt-ltb (line_of o) 7 (below_minus o)) c

pub past_left : (o : BinaryOp) (l : Term) (zs : List Placed) → Closes (line_of o) zs → Past (Left o l) zs
past_left o l zs c = past_all (line_of o) (Left o l) zs (zero_lt_right o) (λ p h. lt-ltb (line_of p) (right_line o) (omega (arith, line_le_left p, line_lt_right o))) c

pub settle_past : (n : ℕ) (f : Frame) (k : List Frame) (t : Term) → ends n f ≡ true → settle n (f ∷ k) t ≡ settle n k (close f t)
settle_past n f k t e = ap (λ b. if b then settle n k (close f t) else (f ∷ k, t)) e

past_joined : (limit : ℕ) (f : Frame) (k : List Frame) (t : Term) (s : Span) (x : Lexeme) → PastRest f x → joined limit (f ∷ k) t s x ≡ joined limit k (close f t) s x
past_joined limit f k t s (a_word As) e = ap (named limit) (settle_past 0 f k t e)
past_joined limit f k t s (a_symbol RightParen) e = ap (λ p. closed p.0 p.1 s) (settle_past 0 f k t e)
past_joined limit f k t s (a_symbol Comma) e = ap (λ p. separated p.0 p.1) (settle_past 0 f k t e)
past_joined limit f k t s _ e = absurd e

past_operated : (limit : ℕ) (f : Frame) (k : List Frame) (t : Term) (s : Span) (x : Lexeme) (b : Option BinaryOp) → PastBy f b x
    → operated_or_joined limit (f ∷ k) t s x b ≡ operated_or_joined limit k (close f t) s x b
past_operated limit f k t s x (Some o) e = ap (operated limit o) (settle_past (line_of o) f k t e)
past_operated limit f k t s x None e = past_joined limit f k t s x e

-- so it may be closed at once
pub past : (limit : ℕ) (f : Frame) (k : List Frame) (t : Term) (zs : List Placed) → Past f zs
    → verdict limit (f ∷ k) (Have t) zs ≡ verdict limit k (Have (close f t)) zs
past limit f k t [] e = ap whole (settle_past 0 f k t e)
past limit f k t (x ∷ zs) e = ap (λ s. finish (go_on s (λ k f. run limit k f zs))) (past_operated limit f k t x.span x.what (op_of x.what) e)

stays : (n : ℕ) (f : Frame) → wanted f ≤ n → ends n f ≡ false
stays n (Group l) h = refl
stays n (Not w) h = le-ltb n 3 h
stays n (Minus w) h = le-ltb n 7 h
stays n (Left o l) h = le-ltb n (right_line o) h
stays n (Call m b ts) h = refl

-- a node of the wanted line ends nothing
pub settle_stays : (n : ℕ) (k : List Frame) (t : Term) → want k ≤ n → settle n k t ≡ (k, t)
settle_stays n [] t h = refl
settle_stays n (f ∷ k) t h = ap (λ b. if b then settle n k (close f t) else (f ∷ k, t)) (stays n f h)

pub settle_kept : (n : ℕ) (f : Frame) (k : List Frame) (t : Term) → ends n f ≡ false → settle n (f ∷ k) t ≡ (f ∷ k, t)
settle_kept n f k t e = ap (λ b. if b then settle n k (close f t) else (f ∷ k, t)) e
