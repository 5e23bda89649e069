-- Numbers of tokens have no sign.
use Rattle.std.specs.Prelude.{pos, ◌≤ℤ◌, ⊤}
use Rattle.afl_lexer.specs.declared.token.TokenKind.{TokenKind}
use Rattle.afl_lexer.specs.declared.token.TokenKind.TheVariants.{Int}

-- a number is not below 0
abbrev pub IsUnsigned : TokenKind → Type 0
IsUnsigned (Int n) = pos 0 ≤ℤ n
IsUnsigned _ = ⊤
