use Rattle.std.proofs.Common.{◌≡◌, ◌^◌, ◌-◌, min, take}
use Rattle.afl_lexer.specs.Schemas.{frame_size}
use Rattle.schema_grammar.proofs.rules.frame_size.Given as goal

abbrev pub invariant-loop-dimension : goal.invariant-loop-dimension
invariant-loop-dimension l = l.size ≡ min (frame_size (take l.dimension-index l.dimensions)) (2 ^ 64 - 1)
