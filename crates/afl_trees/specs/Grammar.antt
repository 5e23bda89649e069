-- The grammar of statements: which tokens a tree has, and where tokens stop to be the front of a statement.
--     statement := create array name schema | E
--     E := O    O := A { or A }    A := N { and N }    N := not N | C    C := S [ (= | <> | != | < | <= | > | >=) S ]
--     S := M { (+ | -) M }    M := U { (* | / | %) U }    U := - U | P
--     P := number | text | true | false | null | code | name | name @ number | name ( [ arg { , arg } ] ) | ( E )
--     arg := schema | * | E [ as name ]
use Rattle.std.specs.Prelude.{◌≡◌, ◌⊎◌, Bool, true, false, ℕ, ◌+◌, ◌≤◌, max, Option, Some, None, List, [], ◌∷◌, ◌++◌, length, take, drop}
use Rattle.cell_values.specs.declared.name.Span.{Span}
use Rattle.afl_lexer.specs.Lexemes.{Lexeme, a_name as Name, a_number as Number, a_text as Text, a_code as Code, a_word as Word, a_symbol as Symbol, Placed}
use Rattle.afl_lexer.specs.declared.token.Word.TheVariants.{And as AndWord, Or as OrWord, Not, Null, True, False, As, Create, Array}
use Rattle.afl_lexer.specs.declared.token.Symbol.TheVariants as symbol
use Rattle.schema_grammar.specs.Spelling.{placed, across, SpellsSchema}
use Rattle.afl_trees.specs.Term.{Term, create, number, text, truth, null, missing, reference, version, call, schema}
use Rattle.afl_trees.specs.Term.{star, renamed, opposite, negative, binary, group, Terms, no_terms, and_term}
use Rattle.afl_trees.specs.declared.tree.BinaryOp.{BinaryOp}
use Rattle.afl_trees.specs.declared.tree.BinaryOp.TheVariants.{Or, And, Equal, Differs, Less, AtMost, More, AtLeast, Add, Sub, Mul, Div, Rem}
use Rattle.afl_trees.specs.declared.kind.StopKind.{StopKind}
use Rattle.afl_trees.specs.declared.kind.StopKind.TheVariants.{Unexpected, TooDeep}

-- The lines of the grammar, from 0: arg, O, A, N, C, S, M, U, P. A line derives its own nodes and those of each later line.
abbrev pub line_of : BinaryOp → ℕ
line_of Or = 1
line_of And = 2
line_of Equal = 4
line_of Differs = 4
line_of Less = 4
line_of AtMost = 4
line_of More = 4
line_of AtLeast = 4
line_of Add = 5
line_of Sub = 5
line_of Mul = 6
line_of Div = 6
line_of Rem = 6

-- The lines of an operator's operands: it groups to the left, and a comparison does not chain.
abbrev pub left_line : BinaryOp → ℕ
left_line Or = 1
left_line And = 2
left_line Equal = 5
left_line Differs = 5
left_line Less = 5
left_line AtMost = 5
left_line More = 5
left_line AtLeast = 5
left_line Add = 5
left_line Sub = 5
left_line Mul = 6
left_line Div = 6
left_line Rem = 6

abbrev pub right_line : BinaryOp → ℕ
right_line Or = 2
right_line And = 3
right_line Equal = 5
right_line Differs = 5
right_line Less = 5
right_line AtMost = 5
right_line More = 5
right_line AtLeast = 5
right_line Add = 6
right_line Sub = 6
right_line Mul = 7
right_line Div = 7
right_line Rem = 7

-- the operator that a token spells
abbrev pub op_of : Lexeme → Option BinaryOp
op_of (Word OrWord) = Some Or
op_of (Word AndWord) = Some And
op_of (Symbol symbol.Equal) = Some Equal
op_of (Symbol symbol.Differs) = Some Differs
op_of (Symbol symbol.NotEqual) = Some Differs
op_of (Symbol symbol.Less) = Some Less
op_of (Symbol symbol.AtMost) = Some AtMost
op_of (Symbol symbol.More) = Some More
op_of (Symbol symbol.AtLeast) = Some AtLeast
op_of (Symbol symbol.Plus) = Some Add
op_of (Symbol symbol.Minus) = Some Sub
op_of (Symbol symbol.Star) = Some Mul
op_of (Symbol symbol.Slash) = Some Div
op_of (Symbol symbol.Percent) = Some Rem
op_of _ = None

-- the line that has the tree's top
abbrev pub line : Term → ℕ
line (create s n m) = 0
line (number s n) = 8
line (text s x) = 8
line (truth s b) = 8
line (null s) = 8
line (missing s c) = 8
line (reference s n) = 8
line (version s n v) = 8
line (call s n ts) = 8
line (schema s m) = 0
line (star s) = 0
line (renamed s a n) = 0
line (opposite s a) = 3
line (negative s a) = 7
line (binary s o a b) = line_of o
line (group s a) = 8

abbrev pub span_of : Term → Span
span_of (create s n m) = s
span_of (number s n) = s
span_of (text s x) = s
span_of (truth s b) = s
span_of (null s) = s
span_of (missing s c) = s
span_of (reference s n) = s
span_of (version s n v) = s
span_of (call s n ts) = s
span_of (schema s m) = s
span_of (star s) = s
span_of (renamed s a n) = s
span_of (opposite s a) = s
span_of (negative s a) = s
span_of (binary s o a b) = s
span_of (group s a) = s

abbrev pub truth_word : Bool → Lexeme
truth_word true = Word True
truth_word false = Word False

-- The productions: the tokens xs are those of the tree, and then zs. Each operand's line is at least that of its place.
abbrev mutual
  pub Spells : Term → List Placed → List Placed → Type 0
  Spells (create s n m) xs zs = ⊥
  Spells (number s n) xs zs = xs ≡ placed (Number n) s ∷ zs
  Spells (text s x) xs zs = xs ≡ placed (Text x) s ∷ zs
  Spells (truth s b) xs zs = xs ≡ placed (truth_word b) s ∷ zs
  Spells (null s) xs zs = (xs ≡ placed (Word Null) s ∷ zs) ⊎ (xs ≡ placed (Code 0) s ∷ zs)
  Spells (missing s c) xs zs = (1 ≤ c) × (xs ≡ placed (Code c) s ∷ zs)
  Spells (reference s n) xs zs = xs ≡ placed (Name n) s ∷ zs
  Spells (version s n v) xs zs = (b : Span) × (w : Span) × (e : Span)
      × (xs ≡ placed (Name n) b ∷ placed (Symbol symbol.At) w ∷ placed (Number v) e ∷ zs) × (s ≡ across b e)
  Spells (call s n ts) xs zs = (b : Span) × (l : Span) × (r : Span) × (ys : List Placed)
      × (xs ≡ placed (Name n) b ∷ placed (Symbol symbol.LeftParen) l ∷ ys) × (s ≡ across b r) × SpellsArguments ts r ys zs
  Spells (schema s m) xs zs = SpellsSchema m s xs zs
  Spells (star s) xs zs = xs ≡ placed (Symbol symbol.Star) s ∷ zs
  Spells (renamed s a n) xs zs = (w : Span) × (e : Span) × (s ≡ across (span_of a) e) × (1 ≤ line a) × Spells a xs (placed (Word As) w ∷ placed (Name n) e ∷ zs)
  Spells (opposite s a) xs zs = (w : Span) × (ys : List Placed) × (xs ≡ placed (Word Not) w ∷ ys) × (s ≡ across w (span_of a)) × (3 ≤ line a) × Spells a ys zs
  Spells (negative s a) xs zs = (w : Span) × (ys : List Placed) × (xs ≡ placed (Symbol symbol.Minus) w ∷ ys)
      × (s ≡ across w (span_of a)) × (7 ≤ line a) × Spells a ys zs
  Spells (binary s o a b) xs zs = (x : Lexeme) × (w : Span) × (ys : List Placed) × (op_of x ≡ Some o) × (s ≡ across (span_of a) (span_of b))
      × (left_line o ≤ line a) × Spells a xs (placed x w ∷ ys) × (right_line o ≤ line b) × Spells b ys zs
  Spells (group s a) xs zs = (l : Span) × (r : Span) × (ys : List Placed)
      × (xs ≡ placed (Symbol symbol.LeftParen) l ∷ ys) × (s ≡ across l r) × (1 ≤ line a) × Spells a ys (placed (Symbol symbol.RightParen) r ∷ zs)

  -- the arguments, and the bracket behind them
  pub SpellsArguments : Terms → Span → List Placed → List Placed → Type 0
  SpellsArguments no_terms r xs zs = xs ≡ placed (Symbol symbol.RightParen) r ∷ zs
  SpellsArguments (and_term t ts) r xs zs = (ys : List Placed) × Spells t xs ys × SpellsMore ts r ys zs

  pub SpellsMore : Terms → Span → List Placed → List Placed → Type 0
  SpellsMore no_terms r xs zs = xs ≡ placed (Symbol symbol.RightParen) r ∷ zs
  SpellsMore (and_term t ts) r xs zs = (w : Span) × (ys : List Placed) × (ws : List Placed)
      × (xs ≡ placed (Symbol symbol.Comma) w ∷ ys) × Spells t ys ws × SpellsMore ts r ws zs

-- `create array` with a name and a schema
abbrev pub SpellsCreate : Term → List Placed → List Placed → Type 0
SpellsCreate (create s n m) xs zs = (c : Span) × (a : Span) × (b : Span) × (e : Span) × (ys : List Placed)
    × (xs ≡ placed (Word Create) c ∷ placed (Word Array) a ∷ placed (Name n) b ∷ ys) × (s ≡ across c e) × SpellsSchema m e ys zs
SpellsCreate _ xs zs = ⊥

-- the tokens are a statement, and this is its tree
abbrev pub Derives : List Placed → Term → Type 0
Derives ts t = SpellsCreate t ts [] ⊎ ((1 ≤ line t) × Spells t ts [])

-- A tree without parts has height 1. So a root has depth 1, and the height is the greatest depth.
abbrev mutual
  pub height : Term → ℕ
  height (create s n m) = 1
  height (number s n) = 1
  height (text s x) = 1
  height (truth s b) = 1
  height (null s) = 1
  height (missing s c) = 1
  height (reference s n) = 1
  height (version s n v) = 1
  height (call s n ts) = heights ts + 1
  height (schema s m) = 1
  height (star s) = 1
  height (renamed s a n) = height a + 1
  height (opposite s a) = height a + 1
  height (negative s a) = height a + 1
  height (binary s o a b) = max (height a) (height b) + 1
  height (group s a) = height a + 1

  pub heights : Terms → ℕ
  heights no_terms = 0
  heights (and_term t ts) = max (height t) (heights ts)

-- the tokens are a statement of a depth of at most n, and this is its tree
pub record IsStatement (n : ℕ) (ts : List Placed) (t : Term) : Type 0 where
  pub derived : Derives ts t
  pub depth : height t ≤ n

-- the tokens can be continued to a statement of a depth of at most n
abbrev pub IsFront : ℕ → List Placed → Type 0
IsFront n ts = (more : List Placed) × (t : Term) × IsStatement n (ts ++ more) t

-- why tokens are no front: they are one at no depth, or at a greater one
abbrev pub IsKind : StopKind → List Placed → Type 0
IsKind Unexpected ts = (n : ℕ) → IsFront n ts → ⊥
IsKind TooDeep ts = (n : ℕ) × IsFront n ts

-- the front stops before what is left
abbrev pub StopsBefore : ℕ → List Placed → List Placed → StopKind → Type 0
StopsBefore n front [] kind = (kind ≡ Unexpected) × ((t : Term) → IsStatement n front t → ⊥)
StopsBefore n front (x ∷ xs) kind = (IsFront n (front ++ x ∷ []) → ⊥) × IsKind kind (front ++ x ∷ [])

-- The tokens before the place are a front, and with the one at the place they are none; at the end they are no statement.
pub record Stops (n : ℕ) (ts : List Placed) (at : ℕ) (kind : StopKind) : Type 0 where
  pub within : at ≤ length ts
  pub front : IsFront n (take at ts)
  pub stop : StopsBefore n (take at ts) (drop at ts) kind
