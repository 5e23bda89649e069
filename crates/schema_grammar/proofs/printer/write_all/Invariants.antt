use Rattle.std.proofs.Common.{◌≡◌, ◌++◌, map, take}
use Rattle.std.specs.List.{All, join_with_byte}
use Rattle.afl_lexer.specs.Naming.{IsName}
use Rattle.schema_grammar.proofs.printer.write_all.Given as goal

abbrev pub invariant-loop-at : goal.invariant-loop-at
invariant-loop-at g l =
    (l.out ≡ l.initial.out ++ join_with_byte 44 (map g.T.Written.bytes (take l.at l.parts))) × All (λ part. IsName (g.T.Written.named part)) (take l.at l.parts)
