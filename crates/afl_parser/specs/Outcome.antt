-- What a parser's answer is beside the tree, or the stop, that a text has.
use Rattle.std.specs.Prelude.{◌≡◌, ◌⊎◌, ℕ, ⊤, Result, Ok, Err, List}
use Rattle.afl_trees.specs.Term.{Term}
use Rattle.afl_trees.specs.Statement.{DerivesText, StopsText}
use Rattle.afl_trees.specs.declared.kind.ParseKind.{ParseKind}
use Rattle.afl_parser.specs.declared.fault.ParseFault.{ParseFault}
use Rattle.afl_parser.specs.declared.fault.ParseFault.TheVariants.{At, Memory}

-- the fault is where the text stops, or want of memory
abbrev pub IsTextStop : List ℕ → ParseFault → Type 0
IsTextStop text (At at kind) = StopsText text at kind
IsTextStop text Memory = ⊤

-- the answer is this tree, unless memory ran out
abbrev pub AnswersTree : Result Term ParseFault → Term → Type 0
AnswersTree (Ok found) t = found ≡ t
AnswersTree (Err (At at kind)) t = ⊥
AnswersTree (Err Memory) t = ⊤

-- the answer is this place and kind, unless memory ran out
abbrev pub AnswersStop : Result Term ParseFault → ℕ → ParseKind → Type 0
AnswersStop (Ok found) at kind = ⊥
AnswersStop (Err (At place why)) at kind = (place ≡ at) × (why ≡ kind)
AnswersStop (Err Memory) at kind = ⊤

-- each text has a tree, or a stop
abbrev pub HasTreeOrStop : Type 0
HasTreeOrStop = (text : List ℕ) → ((t : Term) × DerivesText text t) ⊎ ((at : ℕ) × (kind : ParseKind) × StopsText text at kind)

-- and never both
abbrev pub HasNotBoth : Type 0
HasNotBoth = (text : List ℕ) (t : Term) (at : ℕ) (kind : ParseKind) → DerivesText text t → StopsText text at kind → ⊥

-- no other tree
abbrev pub HasOneTree : Type 0
HasOneTree = (text : List ℕ) (t u : Term) → DerivesText text t → DerivesText text u → t ≡ u

-- and no other stop
abbrev pub HasOneStop : Type 0
HasOneStop = (text : List ℕ) (at place : ℕ) (kind why : ParseKind) → StopsText text at kind → StopsText text place why → (at ≡ place) × (kind ≡ why)
