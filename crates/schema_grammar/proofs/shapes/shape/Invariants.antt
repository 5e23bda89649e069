use Rattle.std.proofs.Common.{◌≡◌, take}
use Rattle.schema_grammar.specs.Outcome.{lexemes}
use Rattle.schema_grammar.specs.Inner.Reading.{shape_run, Open}
use Rattle.schema_grammar.specs.declared.state.ShapeState.TheVariants.{Start}
use Rattle.schema_grammar.proofs.shapes.shape.Given as goal

abbrev pub invariant-loop-offset : goal.invariant-loop-offset
invariant-loop-offset l = shape_run Start (take l.offset (lexemes l.text l.rest)) ≡ Open l.state
