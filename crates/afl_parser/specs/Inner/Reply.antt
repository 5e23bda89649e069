-- What the reader's calls give.
use Rattle.std.specs.Prelude.{◌≡◌, ℕ, Result, Ok, Err, Option, Some, None, List, drop}
use Rattle.afl_lexer.specs.declared.token.Token.{Token}
use Rattle.afl_lexer.specs.declared.token.LexFault.{LexFault}
use Rattle.afl_lexer.specs.declared.token.LexFault.TheVariants as lex
use Rattle.afl_lexer.specs.Lexemes.{Placed}
use Rattle.afl_trees.specs.Term.{Term}
use Rattle.afl_trees.specs.Grammar.{Stops}
use Rattle.afl_trees.specs.Statement.{start_of, lexical, syntactic}
use Rattle.afl_parser.specs.Inner.Machine.{Turn, Go, Stop}
use Rattle.afl_trees.specs.declared.kind.StopKind.TheVariants.{Unexpected}
use Rattle.afl_parser.specs.declared.fault.ParseFault.{ParseFault}
use Rattle.afl_parser.specs.declared.fault.ParseFault.TheVariants.{At, Memory}
use Rattle.afl_parser.specs.declared.reader.Reader.{Reader}
use Rattle.afl_parser.specs.declared.reader.Fault.{Fault}
use Rattle.afl_parser.specs.declared.reader.Fault.TheVariants as fault
use Rattle.afl_parser.specs.declared.parser.TokenFault.{TokenFault}
use Rattle.afl_parser.specs.declared.parser.TokenFault.TheVariants as token_fault

-- a call gives the turn, unless memory ran out
abbrev pub Gives : Result Reader Fault → Turn → Type 0
Gives (Ok r) turn = turn ≡ Go r.stack r.focus
Gives (Err (fault.Stop kind)) turn = turn ≡ Stop kind
Gives (Err fault.Memory) turn = Unit {0}

-- a call gives the whole tree, unless memory ran out
abbrev pub GivesWhole : Result Term Fault → Option Term → Type 0
GivesWhole (Ok t) whole = whole ≡ Some t
GivesWhole (Err (fault.Stop kind)) whole = (kind ≡ Unexpected) × (whole ≡ None)
GivesWhole (Err fault.Memory) whole = Unit {0}

abbrev pub placed : ℕ → Fault → TokenFault
placed index (fault.Stop kind) = token_fault.At index kind
placed index fault.Memory = token_fault.Memory

-- a fault says where the tokens stop
abbrev pub IsTokenStop : ℕ → List Placed → TokenFault → Type 0
IsTokenStop limit ts (token_fault.At index kind) = Stops limit ts index kind
IsTokenStop limit ts token_fault.Memory = Unit {0}

-- a fault among the tokens as a fault in the text
abbrev pub at_token : List ℕ → List Token → TokenFault → ParseFault
at_token text ts (token_fault.At index kind) = At (start_of text (drop index ts)) (syntactic kind)
at_token text ts token_fault.Memory = Memory

-- a fault within a token as a fault in the text
abbrev pub in_token : LexFault → ParseFault
in_token (lex.At at kind) = At at (lexical kind)
in_token lex.Memory = Memory
