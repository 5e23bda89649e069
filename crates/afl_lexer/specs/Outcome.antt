-- What a lexer's answer is beside the tokens, or the stop, that a text has.
use Rattle.std.specs.Prelude.{◌≡◌, ◌⊎◌, ℕ, ⊤, Ok, Err, Result, List}
use Rattle.afl_lexer.specs.declared.token.Token.{Token}
use Rattle.afl_lexer.specs.declared.token.LexKind.{LexKind}
use Rattle.afl_lexer.specs.declared.token.LexFault.{LexFault}
use Rattle.afl_lexer.specs.declared.token.LexFault.TheVariants.{At, Memory}
use Rattle.afl_lexer.specs.Tokens.{AreTokens, LexStops}

-- the fault is where the text stops, or want of memory
abbrev pub IsStop : List ℕ → LexFault → Type 0
IsStop text (At at kind) = LexStops text at kind
IsStop text Memory = ⊤

-- the answer is these tokens, unless memory ran out
abbrev pub AnswersTokens : Result (List Token) LexFault → List Token → Type 0
AnswersTokens (Ok found) tokens = found ≡ tokens
AnswersTokens (Err (At at kind)) tokens = ⊥
AnswersTokens (Err Memory) tokens = ⊤

-- the answer is this stop, unless memory ran out
abbrev pub AnswersStop : Result (List Token) LexFault → ℕ → LexKind → Type 0
AnswersStop (Ok found) at kind = ⊥
AnswersStop (Err (At place why)) at kind = (place ≡ at) × (why ≡ kind)
AnswersStop (Err Memory) at kind = ⊤

-- each text has tokens, or a stop
abbrev pub HasTokensOrStop : Type 0
HasTokensOrStop = (text : List ℕ) → ((tokens : List Token) × AreTokens text tokens) ⊎ ((at : ℕ) × (kind : LexKind) × LexStops text at kind)

-- and never both
abbrev pub HasNotBoth : Type 0
HasNotBoth = (text : List ℕ) (tokens : List Token) (at : ℕ) (kind : LexKind) → AreTokens text tokens → LexStops text at kind → ⊥

-- no other tokens
abbrev pub HasOneList : Type 0
HasOneList = (text : List ℕ) (tokens others : List Token) → AreTokens text tokens → AreTokens text others → tokens ≡ others

-- and no other stop
abbrev pub HasOneStop : Type 0
HasOneStop = (text : List ℕ) (at place : ℕ) (kind why : LexKind) → LexStops text at kind → LexStops text place why → (at ≡ place) × (kind ≡ why)
